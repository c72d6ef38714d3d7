-- Tags as canonical text writes them, by their bytes.
use Rattle.std.proofs.Common.{◌≡◌, ℕ, zero, suc, pred, ◌+◌, ◌-◌, ◌≤◌, Bool, true, false, not, ◌&&◌, ◌==◌, List, [], ◌∷◌, ◌++◌, length, refl, sym, ap, ◌∙◌}
use Rattle.std.proofs.Common.{arith, Option, Some, None}
use Rattle.std.specs.List.{list_all}
use Rattle.std.proofs.lemmas.List.{append_assoc, length-append}
use Rattle.inv_base.proofs.TextLemmas.{both}
use Rattle.xml_tokens.specs.Searches.{is_quote, TagEnd, behind, one_farther, quote_behind, ends_tag, tag_end}
use Rattle.xml_tokens.specs.WrittenNames.{ends_name}
use Rattle.xml_tokens.specs.Markup.{Written}
use Rattle.xml_tokens.specs.Beginnings.{greatest_tag}
use Rattle.xml_laws.proofs.EncodedLemmas.{all-implied}
use Rattle.xml_tokens.proofs.CharacterLemmas.{passed}
use Rattle.xml_laws.proofs.TextTokenLemmas.{elim-false}
use Rattle.xml_laws.proofs.ValueLemmas.{bytes_of_value, value-unquoted}
use Rattle.xml_laws.proofs.AttributeLemmas.{may_name, not_false, attribute_bytes, written_bytes, AreWritten, tag_close}

-- the end of a tag by so many bytes more at its front
abbrev farther_by : ℕ → TagEnd → TagEnd
farther_by zero e = e
farther_by (suc n) e = one_farther (farther_by n e)

farther-behind : (n m : ℕ) → farther_by n (behind m) ≡ behind (n + m)
farther-behind zero m = ap behind (let e : m ≡ 0 + m = omega arith in e)
farther-behind (suc n) m = ap one_farther (farther-behind n m) ∙ ap behind (let e : 1 + (n + m) ≡ suc n + m = omega arith in e)

farther-more : (n m : ℕ) (e : TagEnd) → farther_by n (farther_by m e) ≡ farther_by (n + m) e
farther-more zero m e = ap (λ k. farther_by k e) (let p : m ≡ 0 + m = omega arith in p)
farther-more (suc n) m e = ap one_farther (farther-more n m e) ∙ ap (λ k. farther_by k e) (let p : suc (n + m) ≡ suc n + m = omega arith in p)

-- a byte that neither quotes nor ends a tag
abbrev is_plain_byte : ℕ → Bool
is_plain_byte b = not (is_quote b) && not (b == 0x3E)

-- Bytes of a tag leave the search where it was.
pub Passes : Option ℕ → List ℕ → Type 0
Passes quote front = (rest : List ℕ) (room total : ℕ) → total ≡ length front + room →
    tag_end (front ++ rest) quote total ≡ farther_by (length front) (tag_end rest quote room)

passes-none : (quote : Option ℕ) → Passes quote []
unfolding Passes
passes-none quote rest room total e = ap (tag_end rest quote) (let p : total ≡ room = omega arith in p)

passes-more : (quote : Option ℕ) (b : ℕ) (front : List ℕ) → ends_tag quote b ≡ false → quote_behind quote b ≡ quote → Passes quote front →
    Passes quote (b ∷ front)
unfolding Passes
passes-more quote b front ends stays p rest room zero e = absurd (omega arith)
passes-more quote b front ends stays p rest room (suc total) e =
    elim-false (ends_tag quote b) _ _ ends
    ∙ (ap (λ q. one_farther (tag_end (front ++ rest) q total)) stays ∙ ap one_farther (p rest room total (omega arith)))

pub passes-plain : (front : List ℕ) → list_all is_plain_byte front ≡ true → Passes None front
passes-plain [] h = passes-none None
passes-plain (b ∷ front) h =
    let p = both (is_plain_byte b) (list_all is_plain_byte front) h in
    let q = both (not (is_quote b)) (not (b == 0x3E)) p.0 in
    passes-more None b front (not_false (b == 0x3E) q.1) (passed (is_quote b) _ _ (not_false (is_quote b) q.0)) (passes-plain front p.1)

passes-quoted : (front : List ℕ) → list_all (λ b. not (b == 0x22)) front ≡ true → Passes (Some 0x22) front
passes-quoted [] h = passes-none (Some 0x22)
passes-quoted (b ∷ front) h =
    let p = both (not (b == 0x22)) (list_all (λ b. not (b == 0x22)) front) h in
    passes-more (Some 0x22) b front refl (passed (b == 0x22) _ _ (not_false (b == 0x22) p.0)) (passes-quoted front p.1)

pub passes-append : (quote : Option ℕ) (a b : List ℕ) → Passes quote a → Passes quote b → Passes quote (a ++ b)
unfolding Passes
passes-append quote a b p q rest room total e =
    let l = length-append a b in
    ap (λ x. tag_end x quote total) (append_assoc a b rest)
    ∙ (p (b ++ rest) (length b + room) total (omega arith)
    ∙ (ap (farther_by (length a)) (q rest room (length b + room) refl)
    ∙ (farther-more (length a) (length b) (tag_end rest quote room) ∙ ap (λ n. farther_by n (tag_end rest quote room)) (sym l))))

-- a value between its quotes
passes-value : (value : List ℕ) → list_all (λ b. not (b == 0x22)) value ≡ true → Passes None (0x22 ∷ (value ++ (0x22 ∷ [])))
unfolding Passes
passes-value value h rest room zero e = absurd (omega arith)
passes-value value h rest room (suc total) e =
    let l = length-append value (0x22 ∷ []) in
    let n : length value + 1 ≡ length (value ++ (0x22 ∷ [])) = omega arith in
    ap (λ x. one_farther (tag_end x (Some 0x22) total)) (append_assoc value (0x22 ∷ []) rest)
    ∙ (ap one_farther (passes-quoted value h (0x22 ∷ rest) (suc room) total (omega arith) ∙ farther-more (length value) 1 (tag_end rest None room))
    ∙ ap (λ k. one_farther (farther_by k (tag_end rest None room))) n)

name-plain : (name : List ℕ) → list_all may_name name ≡ true → list_all is_plain_byte name ≡ true
name-plain name h = all-implied may_name is_plain_byte (λ b q. by b (both _ _ (both (not (ends_name b)) _ q).1)) name h
  where
    by : (b : ℕ) → (not (is_quote b) ≡ true) × ((not (b == 0x3E) && (not (b == 0x21) && not (b == 0x3F))) ≡ true) → is_plain_byte b ≡ true
    by b q = ap (λ t. t && not (b == 0x3E)) q.0 ∙ (both (not (b == 0x3E)) _ q.1).0

pub passes-name : (name : List ℕ) → list_all may_name name ≡ true → Passes None name
passes-name name h = passes-plain name (name-plain name h)

passes-attribute : (name value : List ℕ) → list_all may_name name ≡ true → list_all (λ b. not (b == 0x22)) value ≡ true →
    Passes None (attribute_bytes name value)
passes-attribute name value n v =
    passes-append None (0x20 ∷ name) (0x3D ∷ (0x22 ∷ (value ++ (0x22 ∷ []))))
    (passes-more None 0x20 name refl refl (passes-plain name (name-plain name n)))
    (passes-more None 0x3D (0x22 ∷ (value ++ (0x22 ∷ []))) refl refl (passes-value value v))

pub passes-written : (attributes : List Written) → AreWritten attributes → Passes None (written_bytes attributes)
passes-written [] w = passes-none None
passes-written (a ∷ attributes) w =
    passes-append None (attribute_bytes a.name (bytes_of_value a.value)) (written_bytes attributes)
    (passes-attribute a.name (bytes_of_value a.value) w.0.plain (value-unquoted a.value w.1)) (passes-written attributes w.2)

pub passes-close : (is_empty : Bool) → Passes None (tag_close is_empty)
passes-close true = passes-plain (0x2F ∷ []) refl
passes-close false = passes-none None

-- A tag ends behind bytes that the search passes.
pub tag-ends : (front rest : List ℕ) → Passes None front → length front + 2 ≤ greatest_tag →
    tag_end (front ++ (0x3E ∷ rest)) None (pred greatest_tag) ≡ behind (length front)
unfolding Passes
tag-ends front rest p h =
    let room = 262143 - (length front + 1) in
    let e : 262143 ≡ length front + suc room = omega arith in
    p (0x3E ∷ rest) (suc room) 262143 e ∙ (farther-behind (length front) 0 ∙ ap behind (let z : length front + 0 ≡ length front = omega arith in z))
