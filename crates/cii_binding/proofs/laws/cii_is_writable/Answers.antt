use Rattle.std.proofs.Common.{refl}
use Rattle.inv_base.specs.Characters.{is_name_start, is_name_char}
use Rattle.cii_binding.specs.Table.{cii_listing, cii_rows}
use Rattle.cii_binding.proofs.laws.cii_is_writable.Goals as goal

pub returns : goal.returns
unfolding is_name_start is_name_char cii_listing cii_rows
returns c = refl
