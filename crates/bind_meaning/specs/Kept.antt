-- What the code keeps of picks, beside the picks of the definitions.
use Rattle.std.specs.Prelude.{List, map, option_and_then}
use Rattle.bind_meaning.specs.declared.picked.Picked.{Picked}
use Rattle.bind_meaning.specs.declared.picked.PlacedPick.{PlacedPick}
use Rattle.bind_meaning.specs.Picks.{Pick, carrier_in}
use Rattle.bind_meaning.specs.Seats.{Placed}

-- a pick by its numbers: the node, the row, and the elements that are the occurrences of the row's groups
abbrev pub kept : Pick → Picked
kept pick = record {
  node = pick.node;
  row = pick.place;
  outer = option_and_then (carrier_in pick) pick.row.outer;
  inner = option_and_then (carrier_in pick) pick.row.inner;
}

abbrev pub all_kept : List Pick → List Picked
all_kept picks = map kept picks

abbrev pub kept_placed : Placed → PlacedPick
kept_placed p = record { node = p.pick.node; row = p.pick.place; outer = p.outer; inner = p.inner }

abbrev pub all_kept_placed : List Placed → List PlacedPick
all_kept_placed ps = map kept_placed ps
