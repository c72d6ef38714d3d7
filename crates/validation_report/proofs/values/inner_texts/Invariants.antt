use Rattle.validation_report.specs.OwnTexts.{still}
use Rattle.validation_report.proofs.OwnTextLemmas.{GoesOver}
use Rattle.validation_report.proofs.values.inner_texts.Given as goal

-- the texts so far, and those from the next child on
abbrev pub invariant-children : goal.invariant-children
invariant-children g l = GoesOver l.doc l.fn.n l.text l.next

abbrev pub decreases-children : goal.decreases-children
decreases-children g l = still l.doc l.next
