-- What was found, by why it is wanted: of the finds in the walk's order, one list for each reason. No public clause cites it.
use Rattle.std.specs.Prelude.{Bool, true, false, List, [], ◌∷◌, ◌++◌}
use Rattle.std.specs.List.{flat_map}
use Rattle.bind_meaning.specs.declared.picked.Picked.{Picked}
use Rattle.bind_walk.specs.declared.lines.Wanted.{Wanted}
use Rattle.bind_walk.specs.declared.lines.Wanted.TheVariants as wants
use Rattle.bind_walk.specs.declared.finds.Find.{Find}

-- ---- what was found for one reason

abbrev pub same_wanted : Wanted → Wanted → Bool
same_wanted wants.Term wants.Term = true
same_wanted wants.Term wants.Indicator = false
same_wanted wants.Indicator wants.Term = false
same_wanted wants.Indicator wants.Indicator = true

abbrev pub picked_for : Wanted → Find → List Picked
picked_for w find = elim (same_wanted find.wanted w) [ true ↦ find.picked ∷ [] | false ↦ [] ]

-- ---- a list for each reason

pub record Lists : Type 0 where
  pub terms : List Picked
  pub indicators : List Picked

abbrev pub lists_of : List Picked → List Picked → Lists
lists_of terms indicators = record { terms = terms; indicators = indicators }

-- the lists with these finds put behind them
abbrev pub put_all : Lists → List Find → Lists
put_all lists finds = lists_of (lists.terms ++ flat_map (picked_for wants.Term) finds) (lists.indicators ++ flat_map (picked_for wants.Indicator) finds)
