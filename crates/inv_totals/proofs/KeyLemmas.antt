-- VAT categories are equal where their texts are.
use Rattle.std.proofs.Common.{◌≡◌, ◌<ℤ◌, option_map, ℕ, Bool, true, false, List, [], ◌∷◌, ◌++◌, refl, sym, ap, subst, ◌∙◌, Option, Some, None, ℤ, string_bytes}
use Rattle.std.proofs.Common.{arith}
use Rattle.std.specs.Prelude.{◌&&◌, ◌==◌, bytes_eq, not, Result, Ok, Err, is_ok, OnOk, String, if◌then◌else◌}
use Rattle.std.specs.Ordering.{int_cmp, is_eq, MatchOrdering}
use Rattle.std.specs.declared.cmp.Ordering.{Ordering}
use Rattle.std.specs.declared.cmp.Ordering.TheVariants as orderings
use Rattle.std.specs.Str.{IsUtf8, chars}
use Rattle.std.specs.List.{list_all}
use Rattle.std.specs.Char.{is_ascii_digit}
use Rattle.std.proofs.lemmas.Cmp.{int_ranked, tied_itself, int_cmp_total}
use Rattle.std.proofs.lemmas.Slice.Eq.{bytes_eq-Decides}
use Rattle.std.proofs.lemmas.List.{append_assoc}
use Rattle.std.proofs.lemmas.Str.{chars-append, chars-nil, IsUtf8-string_bytes}
use Rattle.std.specs.Global.{Global}
use Rattle.std.proofs.lemmas.Bool.{false≢true}
use Rattle.std.proofs.lemmas.Bool.Decides.{nat_tests}
use Rattle.inv_base.proofs.TextLemmas.{same_chars}
use Rattle.inv_decimal.specs.Number.{IsDecimal, ScaledDecimal}
use Rattle.inv_decimal.specs.WrittenNumber.{read_decimal, read_scaled, written_units, decimal_text, IsWritten, IsSign, no_sign, plus, minus, IsTail, no_point}
use Rattle.inv_decimal.specs.WrittenNumber.{point}
use Rattle.inv_decimal.proofs.Grammar.{written_from_read}
use Rattle.inv_decimal.proofs.ReadBack.{decimal_back_whole}
use Rattle.inv_totals.specs.Totals.{VatCategory, same_code, same_rate, same_category}
use Rattle.inv_totals.specs.Adding.{rate_text, code_text, key_text, IsRate, IsKey}

bool_same : (p q : Bool) → (p ≡ true → q ≡ true) → (q ≡ true → p ≡ true) → p ≡ q
bool_same true q f g = sym (f refl)
bool_same false true f g = g refl
bool_same false false f g = refl

-- ---- no space in a printed number

abbrev is_no_space : ℕ → Bool
is_no_space c = not (c == 0x20)

abbrev has_no_space : List ℕ → Bool
has_no_space text = list_all is_no_space text

both : (a b : Bool) → (a && b) ≡ true → (a ≡ true) × (b ≡ true)
both true b e = (refl, e)
both false b e = cc

pair : (a b : Bool) → a ≡ true → b ≡ true → (a && b) ≡ true
pair a b e f = rw (e, f) refl

digit-no_space : (c : ℕ) → is_ascii_digit c ≡ true → is_no_space c ≡ true
digit-no_space c is = grind (arith, nat_tests)

digits-no_space : (cs : List ℕ) → list_all is_ascii_digit cs ≡ true → has_no_space cs ≡ true
digits-no_space [] all = refl
digits-no_space (c ∷ cs) all =
    let p = both (is_ascii_digit c) (list_all is_ascii_digit cs) all in
    pair _ _ (digit-no_space c p.0) (digits-no_space cs p.1)

no_space-append : (a b : List ℕ) → has_no_space a ≡ true → has_no_space b ≡ true → has_no_space (a ++ b) ≡ true
no_space-append [] b p q = q
no_space-append (c ∷ a) b p q =
    let h = both (is_no_space c) (has_no_space a) p in pair _ _ h.0 (no_space-append a b h.1 q)

all-parts : (a b : List ℕ) → list_all is_ascii_digit (a ++ b) ≡ true → (list_all is_ascii_digit a ≡ true) × (list_all is_ascii_digit b ≡ true)
all-parts [] b all = (refl, all)
all-parts (c ∷ a) b all =
    let p = both (is_ascii_digit c) (list_all is_ascii_digit (a ++ b)) all in
    let q = all-parts a b p.1 in
    (pair _ _ p.0 q.0, q.1)

sign-no_space : (sign : List ℕ) (negative : Bool) → IsSign sign negative → has_no_space sign ≡ true
sign-no_space _ _ no_sign = refl
sign-no_space _ _ plus = refl
sign-no_space _ _ minus = refl

tail-no_space : (tail digits : List ℕ) → IsTail tail digits → list_all is_ascii_digit digits ≡ true → has_no_space tail ≡ true
tail-no_space _ _ no_point all = refl
tail-no_space _ _ (point digits) all = digits-no_space digits all

written-no_space : (text : List ℕ) (s : ScaledDecimal) → IsWritten text s → has_no_space text ≡ true
written-no_space text s w =
    let digits = (both _ _ (both _ _ (both _ _ w.digits).0).0).0 in
    let parts = all-parts w.whole w.fraction digits in
    ap has_no_space w.spelled ∙ no_space-append w.sign (w.whole ++ w.tail) (sign-no_space w.sign w.negative w.signed)
    (no_space-append w.whole w.tail (digits-no_space w.whole parts.0) (tail-no_space w.tail w.fraction w.ended parts.1))

read_of : (o : Option ScaledDecimal) (z : ℤ) → option_map (λ s. s.value) o ≡ Some z → (s : ScaledDecimal) × (o ≡ Some s)
read_of None z e = cc
read_of (Some s) z e = (s, refl)

number-no_space : (z : ℤ) → IsDecimal z → has_no_space (decimal_text z) ≡ true
unfolding read_decimal
number-no_space z h =
    let read = read_of (read_scaled (decimal_text z)) z (decimal_back_whole z h) in
    written-no_space (decimal_text z) read.0 (written_from_read (decimal_text z) read.0 read.1)

rate-no_space : (rate : Option ℤ) → IsRate rate → has_no_space (rate_text rate) ≡ true
rate-no_space None h = refl
rate-no_space (Some z) h = number-no_space z h

-- ---- what a text says

-- the texts before and behind the first space
split : (a b x y : List ℕ) → has_no_space a ≡ true → has_no_space b ≡ true → a ++ (0x20 ∷ x) ≡ b ++ (0x20 ∷ y) → (a ≡ b) × (x ≡ y)
split [] [] x y p q e = (refl, cc)
split [] (c ∷ b) x y p q e =
    let h : 0x20 ≡ c = cc in
    let n = (both (is_no_space c) (has_no_space b) q).0 in
    absurd (false≢true (subst (λ x. is_no_space x ≡ true) (sym h) n))
split (c ∷ a) [] x y p q e =
    let h : 0x20 ≡ c = cc in
    let n = (both (is_no_space c) (has_no_space a) p).0 in
    absurd (false≢true (subst (λ x. is_no_space x ≡ true) (sym h) n))
split (c ∷ a) (d ∷ b) x y p q e =
    let h : c ≡ d = cc in
    let t : a ++ (0x20 ∷ x) ≡ b ++ (0x20 ∷ y) = cc in
    let r = split a b x y (both (is_no_space c) (has_no_space a) p).1 (both (is_no_space d) (has_no_space b) q).1 t in
    (let f : c ∷ a ≡ d ∷ b = rw (h, r.0) refl in f, r.1)

number-apart : (z : ℤ) → IsDecimal z → [] ≡ decimal_text z → ⊥
unfolding read_decimal read_scaled written_units
number-apart z h e =
    let none : read_decimal [] ≡ Some z = ap read_decimal e ∙ decimal_back_whole z h in
    cc

number-itself : (z : ℤ) → is_eq (int_cmp z z) ≡ true
number-itself z = ap is_eq (tied_itself int_cmp_total z)

same_rate-from : (a b : Option ℤ) → IsRate a → IsRate b → rate_text a ≡ rate_text b → same_rate a b ≡ true
same_rate-from None None p q e = refl
same_rate-from None (Some z) p q e = absurd (number-apart z q e)
same_rate-from (Some z) None p q e = absurd (number-apart z p (sym e))
same_rate-from (Some y) (Some z) p q e =
    let same : Some y ≡ Some z = sym (decimal_back_whole y p) ∙ (ap read_decimal e ∙ decimal_back_whole z q) in
    let is : y ≡ z = cc in
    ap (λ x. is_eq (int_cmp y x)) (sym is) ∙ number-itself y

same_code-from : (a b : Option (List ℕ)) → code_text a ≡ code_text b → same_code a b ≡ true
same_code-from None None e = refl
same_code-from None (Some c) e = cc
same_code-from (Some c) None e = cc
same_code-from (Some c) (Some d) e = (bytes_eq-Decides c d).1 (let h : c ≡ d = cc in h)

equal-numbers : (x y : ℤ) → is_eq (int_cmp x y) ≡ true → x ≡ y
equal-numbers x y e = by (int_cmp x y) (int_ranked x y (int_cmp x y) refl) e
  where
    by : (r : Ordering) → MatchOrdering r (x <ℤ y) (x ≡ y) (y <ℤ x) → is_eq r ≡ true → x ≡ y
    by orderings.Less m e = absurd (false≢true e)
    by orderings.Equal m e = m
    by orderings.Greater m e = absurd (false≢true e)

rate-from : (a b : Option ℤ) → same_rate a b ≡ true → a ≡ b
rate-from None None e = refl
rate-from None (Some z) e = absurd (false≢true e)
rate-from (Some z) None e = absurd (false≢true e)
rate-from (Some y) (Some z) e = ap Some (equal-numbers y z e)

code-from : (a b : Option (List ℕ)) → same_code a b ≡ true → a ≡ b
code-from None None e = refl
code-from None (Some c) e = absurd (false≢true e)
code-from (Some c) None e = absurd (false≢true e)
code-from (Some c) (Some d) e = ap Some ((bytes_eq-Decides c d).0 e)

text-says : (a b : VatCategory) → IsRate a.rate → IsRate b.rate → key_text a ≡ key_text b → same_category a b ≡ true
text-says a b p q e =
    let parts = split (rate_text a.rate) (rate_text b.rate) (code_text a.code) (code_text b.code) (rate-no_space a.rate p) (rate-no_space b.rate q) e in
    pair _ _ (same_code-from a.code b.code parts.1) (same_rate-from a.rate b.rate p q parts.0)

says-text : (a b : VatCategory) → same_category a b ≡ true → key_text a ≡ key_text b
says-text a b is =
    let parts = both (same_code a.code b.code) (same_rate a.rate b.rate) is in
    let code = code-from a.code b.code parts.0 in
    let rate = rate-from a.rate b.rate parts.1 in
    λ i. rate_text (rate i) ++ (0x20 ∷ code_text (code i))

-- Texts of categories are equal where the categories are.
pub same_key : (key text : List ℕ) (a b : VatCategory) → IsKey key a → IsKey text b → bytes_eq key text ≡ same_category a b
same_key key text a b p q =
    same_chars key text p.utf8 q.utf8
    ∙ (ap (λ x. bytes_eq x (chars text)) p.spells ∙ (ap (bytes_eq (key_text a)) q.spells
    ∙ bool_same _ _ (λ e. text-says a b p.rate q.rate ((bytes_eq-Decides (key_text a) (key_text b)).0 e))
    (λ e. (bytes_eq-Decides (key_text a) (key_text b)).1 (says-text a b e))))

-- ---- how a text is made

pub text_pushed : {E : Type 0} (r : Result (Unit {0}) E) (old piece new : List ℕ) → IsUtf8 old → new ≡ (if is_ok r then old ++ piece else old)
    → OnOk r (chars new ≡ chars old ++ chars piece)
text_pushed (Ok x) old piece new u e = ap chars e ∙ chars-append old piece u
text_pushed (Err x) old piece new u e = tt

space-alone : chars (0x20 ∷ []) ≡ 0x20 ∷ []
unfolding chars
space-alone = refl

-- a code behind a space
pub code_pushed : {E : Type 0} (r : Result (Unit {0}) E) (old mid new piece code : List ℕ) (o : Option (List ℕ)) → piece ≡ code → o ≡ Some code
    → mid ≡ old ++ chars (0x20 ∷ []) → OnOk r (new ≡ mid ++ piece) → OnOk r (new ≡ old ++ code_text o)
code_pushed (Ok x) old mid new piece code o same is m n =
    n ∙ (ap (λ t. t ++ piece) m ∙ (append_assoc old (chars (0x20 ∷ [])) piece ∙ (ap (λ s. old ++ (s ++ piece)) space-alone
    ∙ (ap (λ p. old ++ (0x20 ∷ p)) same ∙ ap (λ t. old ++ code_text t) (sym is)))))
code_pushed (Err x) old mid new piece code o same is m n = tt

-- the text of a category, made piece by piece
pub key_made : {E : Type 0} (r : Result (Unit {0}) E) (none rated spaced : List ℕ) (key : String Global) (rate : Option ℤ) (code : Option (List ℕ))
    (category : VatCategory) → none ≡ [] → rated ≡ chars none ++ rate_text rate → spaced ≡ rated ++ chars (0x20 ∷ []) →
    OnOk r (chars (string_bytes key) ≡ spaced ++ code_text code)
    → rate ≡ category.rate → code ≡ category.code → IsRate rate → OnOk r (IsKey (string_bytes key) category)
key_made (Ok x) none rated spaced key rate code category empty a b c rate_is code_is in_range = record {
  utf8 = IsUtf8-string_bytes key;
  spells =
      c ∙ (ap (λ t. t ++ code_text code) (b ∙ (ap (λ t. t ++ chars (0x20 ∷ [])) (a ∙ ap (λ t. t ++ rate_text rate) (ap chars empty ∙ chars-nil))
      ∙ ap (λ s. rate_text rate ++ s) space-alone))
      ∙ (append_assoc (rate_text rate) (0x20 ∷ []) (code_text code)
      ∙ (ap (λ t. rate_text t ++ (0x20 ∷ code_text code)) rate_is ∙ ap (λ t. rate_text category.rate ++ (0x20 ∷ code_text t)) code_is)));
  rate = subst IsRate rate_is in_range;
}
key_made (Err x) none rated spaced key rate code category empty a b c rate_is code_is in_range = tt
