-- Guards that part two rows of one path of names: at an element that both share, no single string at a place below it,
-- nor its absence, meets the guards of both.
use Rattle.std.specs.Prelude.{ℕ, Bool, true, false, not, ◌&&◌, ◌||◌, List, [], ◌∷◌}
use Rattle.std.specs.List.{list_any, list_all}
use Rattle.std.specs.Cmp.Lexicographic.{pointwise}
use Rattle.std.specs.Str.{bytes_eq}
use Rattle.bind_rows.specs.declared.guards.Place.{Place}
use Rattle.bind_rows.specs.declared.guards.Test.{Test}
use Rattle.bind_rows.specs.declared.guards.Test.TheVariants as tests
use Rattle.bind_rows.specs.declared.guards.Guard.{Guard}
use Rattle.bind_rows.specs.declared.rows.Step.{Step}
use Rattle.bind_rows.specs.declared.rows.Row.{Row}
use Rattle.bind_rows.specs.declared.rows.Written.{Written}
use Rattle.bind_rows.specs.declared.rows.Written.TheVariants as written
use Rattle.bind_rows.specs.Same.{same_name, same_leaf, same_place}

-- what may stand at a place: a string that guards name, a string that none of them names, or nothing
pub data Sample : Type 0 where
  named : List ℕ → Sample
  unnamed : Sample
  absent : Sample

abbrev pub is_blank : List ℕ → Bool
is_blank [] = true
is_blank (c ∷ text) = false

abbrev pub is_one_of : Sample → List (List ℕ) → Bool
is_one_of (named text) texts = list_any (bytes_eq text) texts
is_one_of unnamed texts = false
is_one_of absent texts = false

abbrev pub is_present : Sample → Bool
is_present (named text) = not (is_blank text)
is_present unnamed = true
is_present absent = false

abbrev pub meets : Test → Sample → Bool
meets (tests.OneOf texts) sample = is_one_of sample texts
meets (tests.NoneOf texts) sample = not (is_one_of sample texts)
meets tests.Present sample = is_present sample
meets tests.Absent sample = not (is_present sample)

abbrev pub texts_of : Test → List (List ℕ)
texts_of (tests.OneOf texts) = texts
texts_of (tests.NoneOf texts) = texts
texts_of tests.Present = []
texts_of tests.Absent = []

-- Each guard at the place is met.
abbrev pub all_meet : Place → Sample → List Guard → Bool
all_meet place sample guards = list_all (λ (g : Guard). not (same_place g.place place) || meets g.test sample) guards

abbrev pub both_meet : Place → Step → Step → Sample → Bool
both_meet place s t sample = all_meet place sample s.guards && all_meet place sample t.guards

-- Some string that these guards name meets the guards of both.
abbrev pub some_text_meets : Place → Step → Step → List Guard → Bool
some_text_meets place s t guards = list_any (λ (g : Guard). list_any (λ text. both_meet place s t (named text)) (texts_of g.test)) guards

abbrev pub can_meet : Place → Step → Step → Bool
can_meet place s t =
    both_meet place s t absent || (both_meet place s t unnamed || (some_text_meets place s t s.guards || some_text_meets place s t t.guards))

abbrev pub part : Step → Step → List Guard → Bool
part s t guards = list_any (λ (g : Guard). not (can_meet g.place s t)) guards

-- The guards of one of the elements that both paths have part them.
abbrev pub part_paths : List Step → List Step → Bool
part_paths [] q = false
part_paths (s ∷ p) [] = false
part_paths (s ∷ p) (t ∷ q) = (part s t s.guards || part s t t.guards) || part_paths p q

abbrev pub is_vat_total : Written → Bool
is_vat_total written.VatTotal = true
is_vat_total _ = false

abbrev pub is_accounting_total : Written → Bool
is_accounting_total written.AccountingVatTotal = true
is_accounting_total _ = false

-- The two VAT totals are parted by their currency.
abbrev pub part_totals : Written → Written → Bool
part_totals a b = (is_vat_total a && is_accounting_total b) || (is_accounting_total a && is_vat_total b)

abbrev pub same_step_name : Step → Step → Bool
same_step_name s t = same_name s.name t.name

-- Both have one path of names, and nothing parts them.
abbrev pub clash : Row → Row → Bool
clash a b = pointwise same_step_name a.path b.path && (same_leaf a.leaf b.leaf && not (part_totals a.written b.written || part_paths a.path b.path))
