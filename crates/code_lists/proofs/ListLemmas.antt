-- Lists are the same where their names are.
use Rattle.std.proofs.Common.{◌≡◌, ℕ, true, false, List, [], ◌∷◌, Option, Some, refl, sym, ap, ◌∙◌, find, ◌+◌, ◌<◌, length, get_or, drop}
use Rattle.std.specs.Str.{bytes_eq}
use Rattle.std.proofs.lemmas.Option.{same_Some}
use Rattle.std.proofs.lemmas.Slice.Eq.{bytes_eq-Decides}
use Rattle.std.proofs.lemmas.Bool.Decides.{same_from_decides, Decides-like, Decides-eqb}
use Rattle.std.proofs.lemmas.List.{drop_more}
use denote.Enum.Bare.{sameb, tag_one}
use denote.Enum.Declared.{tag_of}
use Rattle.code_lists.specs.declared.names.List.{List as CodeList}
use Rattle.code_lists.specs.declared.names.List.TheVariants as lists
use Rattle.code_lists.specs.contracts.names.List.{the_type}
use Rattle.code_lists.specs.ListNames.{name_of, same_list}
use Rattle.code_lists.specs.CodeFiles.{Lists, codes_of}

all_lists : List CodeList
all_lists =
    lists.Allowance ∷ lists.Category ∷ lists.Charge ∷ lists.Classification ∷ lists.Country ∷ lists.Currency ∷ lists.Endpoint ∷ lists.Exemption
    ∷ lists.InvoiceType ∷ lists.Means ∷ lists.Mime ∷ lists.Object ∷ lists.Point ∷ lists.Scheme ∷ lists.Subject ∷ lists.UnitOfMeasure ∷ []

-- the list with a name
list_at : List ℕ → Option CodeList
list_at name = find (λ list. bytes_eq (name_of list) name) all_lists

list_at-name_of : (a : CodeList) → list_at (name_of a) ≡ Some a
unfolding list_at all_lists
list_at-name_of lists.Allowance = refl
list_at-name_of lists.Category = refl
list_at-name_of lists.Charge = refl
list_at-name_of lists.Classification = refl
list_at-name_of lists.Country = refl
list_at-name_of lists.Currency = refl
list_at-name_of lists.Endpoint = refl
list_at-name_of lists.Exemption = refl
list_at-name_of lists.InvoiceType = refl
list_at-name_of lists.Means = refl
list_at-name_of lists.Mime = refl
list_at-name_of lists.Object = refl
list_at-name_of lists.Point = refl
list_at-name_of lists.Scheme = refl
list_at-name_of lists.Subject = refl
list_at-name_of lists.UnitOfMeasure = refl

same_name : (a b : CodeList) → name_of a ≡ name_of b → a ≡ b
same_name a b e = same_Some _ _ (sym (list_at-name_of a) ∙ (ap list_at e ∙ list_at-name_of b))

pub same_list_is : (a b : CodeList) → sameb the_type a b ≡ same_list a b
same_list_is a b = same_from_decides _ _
    (Decides-like _ (λ e. tag_one the_type tt a b e) (λ e. ap (tag_of the_type) e) (Decides-eqb (tag_of the_type a) (tag_of the_type b)))
    (Decides-like _ (same_name a b) (ap name_of) (bytes_eq-Decides (name_of a) (name_of b)))

-- the codes of a list in a walk over the lists
pub codes_of-here : (l : CodeList × List (List ℕ)) (ls : Lists) (list : CodeList) → sameb the_type l.0 list ≡ true → codes_of (l ∷ ls) list ≡ Some l.1
codes_of-here l ls list h = rw (sym (same_list_is l.0 list) ∙ h) refl

pub codes_of-later : (l : CodeList × List (List ℕ)) (ls : Lists) (list : CodeList) → sameb the_type l.0 list ≡ false → codes_of (l ∷ ls) list ≡ codes_of ls list
codes_of-later l ls list h = rw (sym (same_list_is l.0 list) ∙ h) refl

module _ (ls : Lists) (i : ℕ) (l : CodeList × List (List ℕ)) (list : CodeList) (within : i < length ls) (at : l ≡ get_or ls i l)
    (sofar : codes_of (drop i ls) list ≡ codes_of ls list) where
  here : codes_of (l ∷ drop (i + 1) ls) list ≡ codes_of ls list
  here = ap (λ x. codes_of (x ∷ drop (i + 1) ls) list) at ∙ (ap (λ ls. codes_of ls list) (sym (drop_more ls i l within)) ∙ sofar)

  pub list_found : sameb the_type l.0 list ≡ true → Some l.1 ≡ codes_of ls list
  list_found h = sym (codes_of-here l (drop (i + 1) ls) list h) ∙ here

  pub list_passed : sameb the_type l.0 list ≡ false → codes_of (drop (i + 1) ls) list ≡ codes_of ls list
  list_passed h = sym (codes_of-later l (drop (i + 1) ls) list h) ∙ here
