use Rattle.std.proofs.Common.{◌≡◌, length, drop, chars}
use Rattle.bind_carrying.specs.Carrying.{is_coded_note}
use Rattle.bind_carrying.specs.Notes.{note_from}
use Rattle.bind_carrying.proofs.conditions.is_coded_note.Given as goal

abbrev pub invariant-characters : goal.invariant-characters
invariant-characters l = note_from l.place l.is_full (drop (length l.yielded) (chars l.text)) ≡ is_coded_note (chars l.text)
