-- The occurrence in which the pick before stands, again.
use Rattle.std.proofs.Common.{◌≡◌, ℕ, Bool, true, false, List, refl, ap, ◌∙◌}
use Rattle.std.specs.Prelude.{◌==◌}
use Rattle.std.proofs.lemmas.Bool.{eqb-true}
use Rattle.term_table.specs.declared.groups.Group.{Group}
use Rattle.term_table.specs.Groups.{same_group}
use Rattle.term_table.proofs.GroupLemmas.{same_group_is}
use Rattle.bind_meaning.specs.declared.picked.Seated.{Seated}
use Rattle.bind_seats.specs.declared.marks.Mark.{Mark}
use Rattle.bind_seats.specs.Occurrences.{seat_at, is_of}

both : (a b : Bool) → (elim a as (λ _. Bool) [ true ↦ b | false ↦ false ]) ≡ true → (a ≡ true) × (b ≡ true)
both true b e = (refl, e)
both false b e = cc

pub again : (marks : List Mark) (seat : Seated) (group : Group) (m : ℕ) → seat ≡ seat_at marks 0 seat.slot.group seat.element → is_of seat group m ≡ true
    → seat ≡ seat_at marks 0 group m
again marks seat group m is h =
    let w = both (seat.element == m) (same_group seat.slot.group group) h in
    is ∙ (ap (λ g. seat_at marks 0 g seat.element) (same_group_is seat.slot.group group w.1) ∙ ap (seat_at marks 0 group) (eqb-true seat.element m w.0))
