use Rattle.std.specs.Str.{chars}
use Rattle.cii_binding.specs.Table.{cii_listing, cii_rows}
use Rattle.cii_binding.proofs.table.cii.Goals as goal

pub returns : goal.returns
unfolding chars cii_listing cii_rows
returns c = c.listed.ensures
