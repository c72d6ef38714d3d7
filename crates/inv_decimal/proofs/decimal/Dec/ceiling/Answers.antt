use Rattle.std.proofs.Common.{◌∙◌}
use Rattle.inv_decimal.proofs.Results.{rounded_up_is}
use Rattle.inv_decimal.proofs.decimal.Dec.ceiling.Goals as goal

pub returns : goal.returns
returns c =
    rw (← c.self.view_is)
    (c.ranged.ensures ∙ rounded_up_is c.self.inside.units c.floor_units.result c.self.invariant c.floor_units.ensures)
