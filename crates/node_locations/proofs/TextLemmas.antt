-- Texts put behind texts, character by character.
use Rattle.std.proofs.Common.{◌≡◌, ℕ, ◌+◌, ◌<◌, cond, List, [], ◌∷◌, ◌++◌, length, get_or, drop, Result, Ok, Err, refl, ap, sym, subst, ◌∙◌, append_assoc}
use Rattle.std.proofs.Common.{append-nil, arith}
use Rattle.std.specs.Prelude.{flat_map, chars, is_ok, if◌then◌else◌}
use Rattle.std.specs.Str.{IsUtf8}
use Rattle.std.proofs.lemmas.List.{at_drop_more, at_drop_all}
use Rattle.std.proofs.lemmas.Str.{chars_past_char, chars-nil}
use Rattle.std.proofs.lemmas.Bool.{ne_eqb}
use lib.Utf8.{encode}
use Rattle.inv_base.proofs.TextLemmas.{chars-append}
use Rattle.node_locations.specs.Locations.{doubled}
use Rattle.node_locations.specs.Puts.{HasFront, Puts}
use Rattle.node_locations.proofs.PutLemmas.{HasFront-nil, HasFront-more, HasFront-append}

-- Before the character of that number: what was put, and with it the rest gives the whole.
pub record Along (all : List ℕ) (n : ℕ) (start now : List ℕ) : Type 0 where
  pub front : List ℕ
  pub stands : now ≡ start ++ front
  pub whole : front ++ flat_map doubled (drop n all) ≡ flat_map doubled all

pub along-begin : (all start : List ℕ) → Along all 0 start start
along-begin all start = record { front = []; stands = sym (append-nil start); whole = refl }

-- a character and those behind it
rest_at : (all front : List ℕ) (n c : ℕ) → (n < length all) × (c ≡ get_or all n c) → front ++ flat_map doubled (drop n all) ≡ flat_map doubled all
    → front ++ (doubled c ++ flat_map doubled (drop (n + 1) all)) ≡ flat_map doubled all
rest_at all front n c turn whole =
    ap (λ x. front ++ (doubled x ++ flat_map doubled (drop (n + 1) all))) turn.1
    ∙ (ap (λ x. front ++ x) (sym (at_drop_more (flat_map doubled) all n c turn.0)) ∙ whole)

pub along-more : (all s0 s1 s2 : List ℕ) (n c : ℕ) → (n < length all) × (c ≡ get_or all n c) → Along all n s0 s1
    → s2 ≡ s1 ++ doubled c → Along all (n + 1) s0 s2
along-more all s0 s1 s2 n c turn so_far put = record {
  front = so_far.front ++ doubled c;
  stands = put ∙ (ap (λ x. x ++ doubled c) so_far.stands ∙ append_assoc s0 so_far.front (doubled c));
  whole = append_assoc so_far.front (doubled c) (flat_map doubled (drop (n + 1) all)) ∙ rest_at all so_far.front n c turn so_far.whole;
}

pub along-end : (all s0 s1 : List ℕ) (n : ℕ) → n ≡ length all → Along all n s0 s1 → s1 ≡ s0 ++ flat_map doubled all
along-end all s0 s1 n is so_far =
    so_far.stands
    ∙ ap (λ x. s0 ++ x) (sym (append-nil so_far.front)
    ∙ (ap (λ x. so_far.front ++ x) (sym (at_drop_all (flat_map doubled) all n (omega arith))) ∙ so_far.whole))

-- memory runs out in a character
pub along-broken : (all s0 s1 s2 : List ℕ) (n c : ℕ) → (n < length all) × (c ≡ get_or all n c) → Along all n s0 s1 → HasFront (doubled c) s1 s2
    → HasFront (flat_map doubled all) s0 s2
along-broken all s0 s1 s2 n c turn so_far h =
    let rest = flat_map doubled (drop (n + 1) all) in
    subst (λ t. HasFront t s0 s2) (rest_at all so_far.front n c turn so_far.whole)
    (HasFront-append so_far.front (doubled c ++ rest) s0 s1 s2 so_far.stands (HasFront-more (doubled c) rest s1 s2 h))

-- a character that isn't an apostrophe
added : (before after : List ℕ) (c : ℕ) → IsUtf8 before → IsUtf8 (encode c) → after ≡ before ++ encode c → (c ≡ 0x27 → ⊥)
    → chars after ≡ chars before ++ doubled c
added before after c u v e other =
    ap chars e
    ∙ (chars-append before (encode c) u v
    ∙ (ap (λ x. chars before ++ x) (chars_past_char (encode c) [] c v (sym (append-nil (encode c))) ∙ ap (λ x. c ∷ x) chars-nil)
    ∙ ap (λ b. chars before ++ cond b (0x27 ∷ 0x27 ∷ []) (c ∷ [])) (sym (ne_eqb c 0x27 other))))

pub character_pushed : {T E : Type 0} (result : Result T E) (before after : List ℕ) (c : ℕ) → IsUtf8 before → IsUtf8 (encode c)
    → after ≡ (if is_ok result then before ++ encode c else before) → (c ≡ 0x27 → ⊥) → Puts result (doubled c) (chars before) (chars after)
character_pushed (Ok x) before after c u v e other = added before after c u v e other
character_pushed (Err x) before after c u v e other = HasFront-nil (doubled c) (chars before) (chars after) (ap chars e)

-- an apostrophe
pub Puts-apostrophe : {T E : Type 0} (result : Result T E) (c : ℕ) (before after : List ℕ) → c ≡ 0x27
    → Puts result (0x27 ∷ 0x27 ∷ []) before after → Puts result (doubled c) before after
Puts-apostrophe result c before after is p = subst (λ c. Puts result (doubled c) before after) (sym is) p
