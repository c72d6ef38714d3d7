-- What a comment and an instruction that are read byte by byte share: reading in two parts, and the fault of what stands
-- inside.
use Rattle.std.proofs.Common.{◌≡◌, ℕ, suc, ◌+◌, Bool, true, false, not, ◌&&◌, List, [], ◌∷◌, ◌++◌, length, refl, sym, ap, ◌∙◌, subst, arith, Option, Result}
use Rattle.std.proofs.Common.{take_at}
use Rattle.std.specs.Str.{chars, is_utf8, IsUtf8}
use Rattle.std.specs.List.{list_all}
use Rattle.std.proofs.lemmas.Str.{chars-append, IsUtf8-append, IsUtf8-from_is_utf8, is_utf8-from_IsUtf8, IsUtf8-take, IsCharBoundary-at_seam}
use Rattle.std.proofs.lemmas.List.Folds.{list_all-append}
use Rattle.inv_base.specs.Characters.{is_char}
use Rattle.xml_tokens.specs.declared.kind.XmlKind.{XmlKind}
use Rattle.xml_tokens.specs.declared.kind.XmlKind.TheVariants.{NotUtf8, BadChar}
use Rattle.xml_tokens.specs.declared.spelling.Spelling.{Spelling}
use Rattle.xml_tokens.specs.declared.spelling.Spelling.TheVariants.{Between, Inside, Broken}
use Rattle.xml_tokens.specs.declared.asides.OpenAside.{OpenAside}
use Rattle.xml_tokens.specs.Markup.{Token}
use Rattle.xml_tokens.specs.Beginnings.{Beginning, bad, of_length, extent}
use Rattle.xml_tokens.specs.Asides.{is_ended_by, aside_behind, fault_by, fault_inside, Course, stays_open, ends_with, course, begins_by}
use Rattle.xml_tokens.proofs.Utf8Lemmas.{Stands, false-by, inside-none, broken-none}

-- What is read of the bytes inside, by the tests of the definition.
abbrev pub shown : ℕ → Bool → Bool → Result Token XmlKind → Beginning
shown n t u r = elim t [
  | false ↦ bad NotUtf8 n
  | true ↦ elim u [ false ↦ bad BadChar n | true ↦ of_length n r ]
]

extent-shown : (n : ℕ) (inside : List ℕ) (grammar : List ℕ → Result Token XmlKind) →
    extent n inside grammar ≡ shown n (is_utf8 inside) (list_all is_char (chars inside)) (grammar inside)
unfolding extent
extent-shown n inside grammar = refl

and-true : (t : Bool) → (t && true) ≡ t
and-true true = refl
and-true false = refl

shown-whole : (n : ℕ) (u : Bool) (own : Option XmlKind) (r : Result Token XmlKind) → (u ≡ true → begins_by (ends_with own n) ≡ of_length n r) →
    begins_by (ends_with (fault_by Between (not u) own) n) ≡ shown n true u r
shown-whole n true own r is = is refl
shown-whole n false own r is = refl

-- The beginning of what ends an aside, of ASCII.
pub record IsTail (tail : List ℕ) : Type 0 where
  pub utf8 : IsUtf8 tail
  pub told : list_all is_char (chars tail) ≡ true

module _ (tail : List ℕ) (tells : IsTail tail) (inside : List ℕ) where
  -- What stands inside is UTF-8 where it and the tail behind it are.
  inside-utf8 : IsUtf8 (inside ++ tail) → IsUtf8 inside
  inside-utf8 u = subst IsUtf8 (take_at inside tail (length inside) refl)
      (IsUtf8-take (inside ++ tail) (length inside) u (IsCharBoundary-at_seam (inside ++ tail) inside tail refl tells.utf8))

  not-utf8 : ¬ (IsUtf8 (inside ++ tail)) → is_utf8 inside ≡ false
  not-utf8 none = false-by (is_utf8 inside) (λ is. none (IsUtf8-append inside tail (IsUtf8-from_is_utf8 inside is) tells.utf8))

  inside-chars : IsUtf8 inside → list_all is_char (chars (inside ++ tail)) ≡ list_all is_char (chars inside)
  inside-chars u =
      ap (list_all is_char) (chars-append inside tail u)
      ∙ (list_all-append is_char (chars inside) (chars tail) ∙
      (ap (λ t. list_all is_char (chars inside) && t) tells.told ∙ and-true (list_all is_char (chars inside))))

  -- The fault of where the bytes stand is that of the definition.
  pub verdict : (n : ℕ) (grammar : List ℕ → Result Token XmlKind) (u : Spelling) (cs : List ℕ) (wrong : Bool) (own : Option XmlKind) →
      Stands (inside ++ tail) u cs → wrong ≡ not (list_all is_char cs)
      → (IsUtf8 inside → list_all is_char (chars inside) ≡ true → begins_by (ends_with own n) ≡ of_length n (grammar inside))
      → begins_by (ends_with (fault_by u wrong own) n) ≡ extent n inside grammar
  verdict n grammar Between cs wrong own s odd is =
      let u = inside-utf8 s.utf8 in
      let all = list_all is_char (chars inside) in
      let same : wrong ≡ not all = odd ∙ (ap (λ x. not (list_all is_char x)) s.told ∙ ap not (inside-chars u)) in
      ap (λ t. begins_by (ends_with (fault_by Between t own) n)) same
      ∙ (shown-whole n all own (grammar inside) (is u) ∙
      (ap (λ t. shown n t all (grammar inside)) (sym (is_utf8-from_IsUtf8 inside u)) ∙ sym (extent-shown n inside grammar)))
  verdict n grammar (Inside more low high value) cs wrong own s odd is =
      ap (λ t. shown n t (list_all is_char (chars inside)) (grammar inside)) (sym (not-utf8 (inside-none (inside ++ tail) more low high value cs s))) ∙
      sym (extent-shown n inside grammar)
  verdict n grammar Broken cs wrong own s odd is =
      ap (λ t. shown n t (list_all is_char (chars inside)) (grammar inside)) (sym (not-utf8 (broken-none (inside ++ tail) s))) ∙
      sym (extent-shown n inside grammar)

-- Read in two parts it is read in one.
abbrev pub going_on : Course → ℕ → List ℕ → Course
going_on (stays_open aside) n bytes = course n aside bytes
going_on (ends_with fault n) m bytes = ends_with fault n

pub course-append : (n : ℕ) (aside : OpenAside) (a b : List ℕ) → course n aside (a ++ b) ≡ going_on (course n aside a) (n + length a) b
course-append n aside [] b = let same : n ≡ n + 0 = omega arith in ap (λ k. course k aside b) same
course-append n aside (d ∷ a) b = by (is_ended_by aside.inner d) (course-append (n + 1) (aside_behind aside d) a b)
  where
    by : (t : Bool) → course (n + 1) (aside_behind aside d) (a ++ b) ≡ going_on (course (n + 1) (aside_behind aside d) a) ((n + 1) + length a) b
        → (elim t [ true ↦ ends_with (fault_inside aside) (n + 1) | false ↦ course (n + 1) (aside_behind aside d) (a ++ b) ])
        ≡ going_on (elim t [ true ↦ ends_with (fault_inside aside) (n + 1) | false ↦ course (n + 1) (aside_behind aside d) a ]) (n + suc (length a)) b
    by true rest = refl
    by false rest = let same : (n + 1) + length a ≡ n + suc (length a) = omega arith in rest ∙
        ap (λ k. going_on (course (n + 1) (aside_behind aside d) a) k b) same
