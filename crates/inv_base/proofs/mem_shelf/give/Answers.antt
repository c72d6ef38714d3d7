use Rattle.std.proofs.Common.{ap, ◌∙◌, ◌++◌, min, length, take, drop}
use Rattle.inv_base.proofs.FilesLemmas.{copied-within_piece}
use Rattle.inv_base.proofs.mem_shelf.give.Goals as goal

pub returns-clause-copied : goal.returns-clause-copied
returns-clause-copied c =
    let front = c.within_piece.ensures in
    copied-within_piece c.args.piece _ c.args.left.now c.args.buf.now _
    (c.copy_front.ensures.count ∙ ap (λ xs. min (length xs) (length c.args.buf.now)) front)
    (c.copy_front.ensures.copied ∙ ap (λ xs. take c.copy_front.result xs ++ drop c.copy_front.result c.args.buf.now) front)
