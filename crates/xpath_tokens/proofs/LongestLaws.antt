-- What the longest front of a form is, for each part that forms are made of.
use Rattle.std.proofs.Common.{◌≡◌, ℕ, suc, ◌+◌, ◌≤◌, Bool, true, false, cond, ◌||◌, List, [], ◌∷◌, Option, Some, None, length, drop, refl, sym, ap, ◌∙◌, arith}
use Rattle.std.proofs.Common.{inl, inr}
use Rattle.std.specs.Option.{unwrap_or}
use Rattle.std.specs.List.{prefix_len}
use Rattle.std.proofs.lemmas.Bool.{cases_Bool}
use Rattle.xpath_tokens.specs.Longest.{one_longer, longest, longest_length, nothing, one_then, many_then}
use Rattle.xpath_tokens.specs.Scanning.{later, behind}

pub longest-cons : (form : List ℕ → Bool) (c : ℕ) (text : List ℕ) → longest form (c ∷ text) ≡ one_longer (longest (λ rest. form (c ∷ rest)) text) (form [])
unfolding longest
longest-cons form c text = refl

pub longest-same : (p q : List ℕ → Bool) → ((text : List ℕ) → p text ≡ q text) → (text : List ℕ) → longest p text ≡ longest q text
unfolding longest
longest-same p q e [] = ap (λ b. cond b (Some 0) None) (e [])
longest-same p q e (c ∷ text) = ap (λ x. one_longer x (p [])) (longest-same (λ rest. p (c ∷ rest)) (λ rest. q (c ∷ rest)) (λ rest. e (c ∷ rest)) text)
    ∙ ap (one_longer (longest (λ rest. q (c ∷ rest)) text)) (e [])

pub longest-false : (text : List ℕ) → longest (λ _. false) text ≡ None
unfolding longest
longest-false [] = refl
longest-false (c ∷ text) = ap (λ x. one_longer x false) (longest-false text)

pub longest-none : (p : List ℕ → Bool) → ((text : List ℕ) → p text ≡ false) → (text : List ℕ) → longest p text ≡ None
longest-none p e text = longest-same p (λ _. false) e text ∙ longest-false text

pub longest-nothing : (text : List ℕ) → longest nothing text ≡ Some 0
unfolding longest
longest-nothing [] = refl
longest-nothing (c ∷ text) = ap (λ x. one_longer x true) (longest-false text)

one_longer-false : (x : Option ℕ) → one_longer x false ≡ behind 1 x
one_longer-false None = refl
one_longer-false (Some n) = ap Some (omega arith)

-- one character
one : Bool → (List ℕ → Bool) → List ℕ → Bool
one true form text = form text
one false form text = false

longest-one : (b : Bool) (form : List ℕ → Bool) (text : List ℕ) →
    longest (λ rest. elim b [ true ↦ form rest | false ↦ false ]) text ≡ elim b [ true ↦ longest form text | false ↦ None ]
longest-one true form text = refl
longest-one false form text = longest-false text

pub longest-one_then : (test : ℕ → Bool) (form : List ℕ → Bool) (c : ℕ) (text : List ℕ) →
    longest (one_then test form) (c ∷ text) ≡ cond (test c) (behind 1 (longest form text)) None
unfolding longest
longest-one_then test form c text = one_longer-false _ ∙ ap (behind 1) (longest-one (test c) form text) ∙ chosen (test c) (longest form text) where
  chosen : (b : Bool) (x : Option ℕ) → behind 1 (elim b [ true ↦ x | false ↦ None ]) ≡ cond b (behind 1 x) None
  chosen true x = refl
  chosen false x = refl

behind-zero : (x : Option ℕ) → behind 0 x ≡ x
behind-zero None = refl
behind-zero (Some n) = ap Some (omega arith)

-- where even a front of no character has the form, some front has it
none-empty : (form : List ℕ → Bool) (text : List ℕ) → longest form text ≡ None → form [] ≡ false
unfolding longest
none-empty form [] e = by_cases (form []) e where
  by_cases : (b : Bool) → one_longer None b ≡ None → b ≡ false
  by_cases true h = cc
  by_cases false h = refl
none-empty form (c ∷ text) e = by_cases (longest (λ rest. form (c ∷ rest)) text) (form []) e where
  by_cases : (x : Option ℕ) (b : Bool) → one_longer x b ≡ None → b ≡ false
  by_cases (Some n) b h = cc
  by_cases None true h = cc
  by_cases None false h = refl

-- where a front behind n more characters is none of the form's without them
one_longer-behind : (n : ℕ) (form : List ℕ → Bool) (text : List ℕ) → one_longer (behind n (longest form text)) (form []) ≡ behind (1 + n) (longest form text)
one_longer-behind n form text = by_cases (longest form text) refl where
  by_cases : (x : Option ℕ) → longest form text ≡ x → one_longer (behind n x) (form []) ≡ behind (1 + n) x
  by_cases (Some m) e = ap Some (omega arith)
  by_cases None e = ap (λ b. cond b (Some 0) None) (none-empty form text e)

pub drop-one_more : (n c : ℕ) (text : List ℕ) → drop (1 + n) (c ∷ text) ≡ drop n text
drop-one_more n c text = let e : 1 + n ≡ suc n = omega arith in ap (λ m. drop m (c ∷ text)) e

-- Many characters that pass: all that do, where the form behind them can't begin with one that does.
pub longest-many_then : (test : ℕ → Bool) (form : List ℕ → Bool) → ((c : ℕ) (text : List ℕ) → test c ≡ true → form (c ∷ text) ≡ false)
    → (text : List ℕ) → longest (many_then test form) text ≡ behind (prefix_len test text) (longest form (drop (prefix_len test text) text))
unfolding longest many_then
longest-many_then test form apart [] = sym (behind-zero _)
longest-many_then test form apart (c ∷ text) = elim (cases_Bool (test c)) [ inl e ↦ passes (longest-many_then test form apart text) e | inr e ↦ stops e ] where
  again : (b d : Bool) (x : Bool) → b ≡ false → d ≡ true → elim b [ true ↦ true | false ↦ elim d [ true ↦ x | false ↦ false ] ] ≡ x
  again b d x e f = rw (e, f) refl

  ends : (b d : Bool) (x : Bool) → d ≡ false → elim b [ true ↦ true | false ↦ elim d [ true ↦ x | false ↦ false ] ] ≡ b
  ends true d x f = refl
  ends false d x f = rw f refl

  passes : longest (many_then test form) text ≡ behind (prefix_len test text) (longest form (drop (prefix_len test text) text)) → test c ≡ true →
      longest (many_then test form) (c ∷ text) ≡ behind (prefix_len test (c ∷ text)) (longest form (drop (prefix_len test (c ∷ text)) (c ∷ text)))
  passes rest_of e =
      let more = longest-same (λ rest. many_then test form (c ∷ rest)) (many_then test form)
      (λ rest. again (form (c ∷ rest)) (test c) (many_then test form rest) (apart c rest e) e) text in
      let n : ℕ = prefix_len test text in
      ap (λ x. one_longer x (form [])) (more ∙ rest_of)
      ∙ one_longer-behind n form (drop n text)
      ∙ ap (λ rest. behind (1 + n) (longest form rest)) (sym (drop-one_more n c text))
      ∙ sym (ap (λ b. behind (cond b (1 + n) 0) (longest form (drop (cond b (1 + n) 0) (c ∷ text)))) e)

  stops : test c ≡ false → longest (many_then test form) (c ∷ text) ≡ behind (prefix_len test (c ∷ text))
      (longest form (drop (prefix_len test (c ∷ text)) (c ∷ text)))
  stops e =
      let n : ℕ = prefix_len test text in
      ap (λ x. one_longer x (form [])) (longest-same (λ rest. many_then test form (c ∷ rest)) (λ rest. form (c ∷ rest))
      (λ rest. ends (form (c ∷ rest)) (test c) (many_then test form rest) e) text)
      ∙ sym (behind-zero _)
      ∙ sym (ap (λ b. behind (cond b (1 + n) 0) (longest form (drop (cond b (1 + n) 0) (c ∷ text)))) e)

-- Either of two forms: the longer of their longest fronts.
pub longest-or : (p q : List ℕ → Bool) (text : List ℕ) → longest (λ rest. p rest || q rest) text ≡ later (longest p text) (longest q text)
unfolding longest
longest-or p q [] = by_cases (p []) (q []) where
  by_cases : (a b : Bool) → one_longer None (a || b) ≡ later (one_longer None a) (one_longer None b)
  by_cases true true = refl
  by_cases true false = refl
  by_cases false b = refl
longest-or p q (c ∷ text) = ap (λ x. one_longer x (p [] || q [])) (longest-or (λ rest. p (c ∷ rest)) (λ rest. q (c ∷ rest)) text)
    ∙ by_cases (longest (λ rest. p (c ∷ rest)) text) (longest (λ rest. q (c ∷ rest)) text) (p []) (q []) where
      by_cases : (x y : Option ℕ) (a b : Bool) → one_longer (later x y) (a || b) ≡ later (one_longer x a) (one_longer y b)
      by_cases None None true true = refl
      by_cases None None true false = refl
      by_cases None None false b = refl
      by_cases None (Some n) true b = ap Some (omega arith)
      by_cases None (Some n) false b = refl
      by_cases (Some m) None a true = ap Some (omega arith)
      by_cases (Some m) None a false = refl
      by_cases (Some m) (Some n) a b = ap Some (omega arith)

-- A front is no longer than the text.
pub longest-within : (form : List ℕ → Bool) (text : List ℕ) → longest_length form text ≤ length text
unfolding longest
longest-within form [] = by_cases (form []) where
  by_cases : (b : Bool) → unwrap_or (one_longer None b) 0 ≤ 0
  by_cases true = omega arith
  by_cases false = omega arith
longest-within form (c ∷ text) = by_cases (longest (λ rest. form (c ∷ rest)) text) (form []) (longest-within (λ rest. form (c ∷ rest)) text) where
  by_cases : (x : Option ℕ) (b : Bool) → unwrap_or x 0 ≤ length text → unwrap_or (one_longer x b) 0 ≤ length (c ∷ text)
  by_cases (Some n) b h = omega arith
  by_cases None true h = omega arith
  by_cases None false h = omega arith
