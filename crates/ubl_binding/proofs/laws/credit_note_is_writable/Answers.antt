use Rattle.std.proofs.Common.{refl}
use Rattle.inv_base.specs.Characters.{is_name_start, is_name_char}
use Rattle.ubl_binding.specs.Tables.{credit_note_listing, credit_note_rows}
use Rattle.ubl_binding.proofs.laws.credit_note_is_writable.Goals as goal

pub returns : goal.returns
unfolding is_name_start is_name_char credit_note_listing credit_note_rows
returns c = refl
