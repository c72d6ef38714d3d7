-- A comment that is read byte by byte is the comment of the definition.
use Rattle.std.proofs.Common.{◌≡◌, ℕ, suc, ◌+◌, ◌==◌, Bool, true, false, not, ◌&&◌, ◌||◌, List, [], ◌∷◌, ◌++◌, length, take, refl, ap, ◌∙◌, subst, arith}
use Rattle.std.proofs.Common.{if◌then◌else◌, Option, Some, None, option_map}
use Rattle.std.specs.Char.{encode_utf8}
use Rattle.std.specs.Prelude.{codes}
use Rattle.std.specs.Str.{chars}
use Rattle.inv_base.specs.Characters.{is_char}
use Rattle.xml_tokens.specs.declared.kind.XmlKind.TheVariants.{BadMarkup}
use Rattle.xml_tokens.specs.declared.spelling.Spelling.{Spelling}
use Rattle.xml_tokens.specs.declared.spelling.Spelling.TheVariants.{Between}
use Rattle.xml_tokens.specs.declared.comments.Hyphens.{Hyphens}
use Rattle.xml_tokens.specs.declared.comments.Hyphens.TheVariants.{Zero}
use Rattle.xml_tokens.specs.declared.asides.Inner.TheVariants.{Comment}
use Rattle.xml_tokens.specs.declared.asides.OpenAside.{OpenAside}
use Rattle.xml_tokens.specs.Searches.{place_of}
use Rattle.xml_tokens.specs.Markup.{an_aside, comment, if_right}
use Rattle.xml_tokens.specs.Beginnings.{Beginning, later, of_length, extent, extent_through}
use Rattle.xml_tokens.specs.Comments.{begun, hyphens_behind, are_two}
use Rattle.xml_tokens.specs.Spelling.{spelling_behind, ended, is_wrong}
use Rattle.xml_tokens.specs.Asides.{fault_by, fault_inside, ends_with, course, begins_by}
use Rattle.xml_tokens.specs.Asides as asides
use Rattle.xml_tokens.proofs.Utf8Lemmas.{Stands, stands-begun, spelling_all, characters, wrong_all, wrong-told, stands-all}
use Rattle.xml_tokens.proofs.AsideLemmas.{IsTail, verdict}
use Rattle.xml_tokens.proofs.HyphenLemmas.{Close, one_farther, close_from, found, closed_at, behind_hyphens, is_right, close-found, ends-in-hyphens}

-- inside a comment
abbrev a_comment : Spelling → Bool → Hyphens → Bool → OpenAside
a_comment u wrong h faulty = record { spelling = u; has_wrong = wrong; inner = Comment (record { hyphens = h; is_faulty = faulty }) }

-- where it ends, by its end and the bytes before it
abbrev closes : ℕ → Spelling → Bool → Option Close → List ℕ → Beginning
closes n u wrong None bytes = later
closes n u wrong (Some x) bytes =
    begins_by (ends_with (fault_by (spelling_all u (take x.before bytes)) (wrong_all u wrong (take x.before bytes)) (if x.faulty then Some BadMarkup else None))
    (n + (x.before + 1)))

closes-farther : (n : ℕ) (u : Spelling) (wrong : Bool) (b : ℕ) (bytes : List ℕ) (x : Option Close) →
    closes (n + 1) (spelling_behind u b) (wrong || is_wrong (ended u b)) x bytes ≡ closes n u wrong (option_map one_farther x) (b ∷ bytes)
closes-farther n u wrong b bytes None = refl
closes-farther n u wrong b bytes (Some x) =
    let same : (n + 1) + (x.before + 1) ≡ n + (suc x.before + 1) = omega arith in
    ap (λ k. begins_by (ends_with (fault_by (spelling_all (spelling_behind u b) (take x.before bytes))
    (wrong_all (spelling_behind u b) (wrong || is_wrong (ended u b)) (take x.before bytes)) (if x.faulty then Some BadMarkup else None)) k)) same

course-closes : (n : ℕ) (u : Spelling) (wrong : Bool) (h : Hyphens) (faulty : Bool) (bytes : List ℕ) →
    begins_by (course n (a_comment u wrong h faulty) bytes) ≡ closes n u wrong (close_from h faulty bytes) bytes
course-closes n u wrong h faulty [] = refl
course-closes n u wrong h faulty (b ∷ bytes) =
    by (are_two h && b == 0x3E) (course-closes (n + 1) (spelling_behind u b) (wrong || is_wrong (ended u b)) (hyphens_behind h b) (faulty || are_two h) bytes)
  where
    by : (t : Bool)
        → begins_by (course (n + 1) (a_comment (spelling_behind u b) (wrong || is_wrong (ended u b)) (hyphens_behind h b) (faulty || are_two h)) bytes)
        ≡ closes (n + 1) (spelling_behind u b) (wrong || is_wrong (ended u b)) (close_from (hyphens_behind h b) (faulty || are_two h) bytes) bytes
        → begins_by (elim t [
          | true ↦ ends_with (fault_inside (a_comment u wrong h faulty)) (n + 1)
          | false ↦ course (n + 1) (a_comment (spelling_behind u b) (wrong || is_wrong (ended u b)) (hyphens_behind h b) (faulty || are_two h)) bytes
        ])
        ≡ closes n u wrong (elim t [
          | true ↦ Some (record { before = 0; faulty = faulty })
          | false ↦ option_map one_farther (close_from (hyphens_behind h b) (faulty || are_two h) bytes)
        ]) (b ∷ bytes)
    by true is = refl
    by false is = is ∙ closes-farther n u wrong b bytes (close_from (hyphens_behind h b) (faulty || are_two h) bytes)

abbrev hyphens : List ℕ
hyphens = 0x2D ∷ (0x2D ∷ [])

hyphens-tail : IsTail hyphens
unfolding encode_utf8 chars is_char
hyphens-tail = record { utf8 = (hyphens, (refl, refl)); told = refl }

-- The own fault of a comment is that of the definition.
comment-own : (n : ℕ) (inside : List ℕ) (right : Bool) → right ≡ is_right (inside ++ codes "-") →
    begins_by (ends_with (if not right then Some BadMarkup else None) n) ≡ of_length n (comment inside)
unfolding comment
comment-own n inside right is = by right ∙ ap (λ t. of_length n (if_right t an_aside BadMarkup)) is
  where
    by : (t : Bool) → begins_by (ends_with (if not t then Some BadMarkup else None) n) ≡ of_length n (if_right t an_aside BadMarkup)
    by true = refl
    by false = refl

-- Read byte by byte it is the comment of the definition.
pub comment-course : (bytes : List ℕ) → begins_by (course 4 (asides.begun (Comment begun)) bytes) ≡ extent_through (codes "-->") 4 bytes comment
comment-course bytes = course-closes 4 Between false Zero false bytes ∙
    (ap (λ x. closes 4 Between false x bytes) (close-found Zero false bytes) ∙ by (place_of (codes "-->") bytes) refl)
  where
    by : (x : Option ℕ) → place_of (codes "-->") bytes ≡ x
        → closes 4 Between false (option_map (behind_hyphens 2 false) (found bytes x))
        bytes ≡ (elim x [ None ↦ later | (Some n) ↦ extent (4 + (n + length (codes "-->"))) (take n bytes) comment ])
    by None e = refl
    by (Some n) e =
        let front = take (n + 2) bytes in
        let u = spelling_all Between front in
        let cs = characters Between front in
        let wrong = wrong_all Between false front in
        let faulty = (closed_at bytes n).faulty in
        let stands : Stands (take n bytes ++ hyphens) u cs =
        subst (λ x. Stands x u cs) (ends-in-hyphens bytes n e) (stands-all [] Between [] front stands-begun) in
        let same : 4 + ((n + 2) + 1) ≡ 4 + (n + 3) = omega arith in
        ap (λ k. begins_by (ends_with (fault_by u wrong (if faulty then Some BadMarkup else None)) k)) same
        ∙ verdict hyphens hyphens-tail (take n bytes) (4 + (n + 3)) comment u cs wrong (if faulty then Some BadMarkup else None) stands
        (wrong-told Between false front)
        (λ w all. comment-own (4 + (n + 3)) (take n bytes) (is_right (take n bytes ++ codes "-")) refl)
