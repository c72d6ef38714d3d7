use Rattle.std.proofs.Common.{◌-◌, vec_len}
use Rattle.xml_document.proofs.WholeLemmas.{Taking}
use Rattle.xml_document.proofs.whole.read_open.Given as goal

-- what was taken stands before what is left
abbrev pub invariant-pieces : goal.invariant-pieces
invariant-pieces g l = Taking (g.S.Shelf.view l.initial.shelf) (g.S.Shelf.view l.shelf) l.limit l.bytes.items

abbrev pub decreases-pieces : goal.decreases-pieces
decreases-pieces g l = l.limit - vec_len l.bytes
