-- Rows at which nothing is ever missing.
use Rattle.std.proofs.Common.{◌≡◌, ℕ, ◌==◌, ◌&&◌, Bool, true, false, not, List, Option, Some, None, refl, sym, ap, ◌∙◌, true≢false, if◌then◌else◌}
use Rattle.std.proofs.lemmas.Bool.{not-true}
use Rattle.term_table.specs.declared.terms.Mark.{Mark}
use Rattle.term_table.specs.declared.terms.Mark.TheVariants as marks
use Rattle.term_table.specs.declared.terms.TermRow.{TermRow}
use Rattle.term_table.specs.declared.contexts.Context.{Context}
use Rattle.term_table.specs.declared.contexts.Seat.{Seat}
use Rattle.term_table.specs.Contexts.{has_context}
use Rattle.term_table.specs.Groups.{occurrence_of, parent_of}
use Rattle.term_table.specs.Places.{first_row}
use Rattle.inv_terms.specs.declared.violations.Name.{Name}
use Rattle.inv_terms.specs.declared.violations.Name.TheVariants as names
use Rattle.inv_terms.specs.Lacking.{has, whole_term, is_there, is_missing, is_at_least_once, has_occurrence, lacks_group, may_be_left_out, missing_at}

abbrev left_out_by : Mark → Bool → Bool
left_out_by mark once = elim mark [ marks.One ↦ false | marks.Optional ↦ not once | marks.After ↦ false ]

abbrev missing_by : Bool → Bool → Bool → TermRow → Option Name
missing_by here missing violations row =
    if here then (if missing then Some (names.Term row.term) else None) else (if violations then Some (names.Group row.group) else None)

none-missing : (here : Bool) (row : TermRow) → missing_by here false false row ≡ None
none-missing true row = refl
none-missing false row = refl

module _ (seats : List Seat) (context : Context) (k : ℕ) (row : TermRow) where
  abbrev once : Bool
  once = is_at_least_once (occurrence_of row.group)

  abbrev needed_by : Mark → Bool
  needed_by mark = elim mark [ marks.One ↦ is_there seats row.group | marks.Optional ↦ false | marks.After ↦ has seats context (whole_term row.term) ]

  pub left-out : may_be_left_out row ≡ true → None ≡ missing_at seats context k row
  left-out h = by row.mark refl
    where
      by : (mark : Mark) → row.mark ≡ mark → None ≡ missing_at seats context k row
      by marks.One e = absurd (true≢false (sym h ∙ ap (λ m. left_out_by m once) e))
      by marks.After e = absurd (true≢false (sym h ∙ ap (λ m. left_out_by m once) e))
      by marks.Optional e =
          let left : not once ≡ true = sym (ap (λ m. left_out_by m once) e) ∙ h in
          let missing : is_missing seats context row ≡ false = ap (λ m. needed_by m && not (has seats context row.term)) e in
          let violations : lacks_group seats context k row ≡ false =
          ap (λ t. t && ((k == first_row row.group) && (has_context (parent_of row.group) context && not (has_occurrence seats row.group))))
          (not-true once left) in
          let here = has_context row.group context in
          sym (ap (λ t. missing_by here t (lacks_group seats context k row) row) missing ∙ (ap (λ t. missing_by here false t row) violations
          ∙ none-missing here row))
