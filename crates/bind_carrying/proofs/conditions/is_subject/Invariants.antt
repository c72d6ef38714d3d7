use Rattle.std.proofs.Common.{◌≡◌, ◌≤◌, length, drop, chars}
use Rattle.bind_carrying.specs.Carrying.{is_subject}
use Rattle.bind_carrying.specs.Notes.{subject_from}
use Rattle.bind_carrying.proofs.conditions.is_subject.Given as goal

abbrev pub invariant-characters : goal.invariant-characters
invariant-characters l = record { same : subject_from l.place (drop (length l.yielded) (chars l.text)) ≡ is_subject (chars l.text); within : l.place ≤ 3 }
