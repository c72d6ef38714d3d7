use Rattle.std.proofs.Common.{arith}
use Rattle.std.proofs.lemmas.List.{length-take}
use Rattle.xml_document.proofs.WholeLemmas.{taken_too_much}
use Rattle.xml_document.proofs.whole.read_open.Goals as goal

pub returns-then-limit-len-clause-too_long : goal.returns-then-limit-len-clause-too_long
returns-then-limit-len-clause-too_long g c = λ is.
    let read = c.in-Ok.ensures in
    let long = length-take c.in-Ok.count c.read.new.buf in
    taken_too_much (g.S.Shelf.view c.args.shelf.now) (g.S.Shelf.view c.pieces.shelf) (g.S.Shelf.view c.read.new.self).left c.args.limit c.pieces.bytes.items _
    c.pieces.invariant read.left (omega (arith, long, c.len.ensures, c.if-limit-len.true, read.bound)) (omega (arith, long, c.requires.few))
