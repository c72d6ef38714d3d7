use Rattle.std.specs.Str.{chars}
use Rattle.ubl_binding.specs.Tables.{credit_note_listing, credit_note_rows}
use Rattle.ubl_binding.proofs.tables.credit_note.Goals as goal

pub returns : goal.returns
unfolding chars credit_note_listing credit_note_rows
returns c = c.listed.ensures
