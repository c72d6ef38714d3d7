use Rattle.xml_write.proofs.WriterLemmas.{Makes-at_err}
use Rattle.bind_write.specs.Roots.{root_start}
use Rattle.bind_write.proofs.WriterSteps.{Makes-same, begin, step, break, last}
use Rattle.bind_write.proofs.RootLemmas.{root-is}
use Rattle.bind_write.proofs.roots.put_root.Goals as goal

pub returns-in_err-put_root_start-clause-makes : goal.returns-in_err-put_root_start-clause-makes
returns-in_err-put_root_start-clause-makes g c cells plan h =
    Makes-same _ _ _ _ _ _ _ (root-is c.args.root.now.source.rows.now c.args.root.now.source.entries.now c.args.root.now.line.now c.args.root.now.inside.now
    cells plan c.args.root.now.held c.args.root.now.source.context h)
    (Makes-at_err _ _ _ _ _ _ c.from_residual.ensures.0
    (break _ _ _ _ _ _ (root_start c.args.root.now.source.rows.now c.args.root.now.source.entries.now c.args.root.now.line.now c.args.root.now.source.context) _
    c.in_err-put_root_start.ensures.makes (begin _ _ _)))

pub returns-in_err-put_lines-clause-makes : goal.returns-in_err-put_lines-clause-makes
returns-in_err-put_lines-clause-makes g c cells plan h =
    Makes-same _ _ _ _ _ _ _ (root-is c.args.root.now.source.rows.now c.args.root.now.source.entries.now c.args.root.now.line.now c.args.root.now.inside.now
    cells plan c.args.root.now.held c.args.root.now.source.context h)
    (Makes-at_err _ _ _ _ _ _ c.from_residual-in_err-put_lines.ensures.0
    (break _ _ _ _ _ _ _ _ (c.in_err-put_lines.ensures.makes plan h.inside_is)
    (step _ _ _ _ _ _ _ (root_start c.args.root.now.source.rows.now c.args.root.now.source.entries.now c.args.root.now.line.now c.args.root.now.source.context)
    _ c.in_ok-put_root_start.ensures.makes (begin _ _ _))))

pub returns-clause-makes : goal.returns-clause-makes
returns-clause-makes g c cells plan h =
    Makes-same _ _ _ _ _ _ _ (root-is c.args.root.now.source.rows.now c.args.root.now.source.entries.now c.args.root.now.line.now c.args.root.now.inside.now
    cells plan c.args.root.now.held c.args.root.now.source.context h)
    (last _ _ _ _ _ _ _ _ _ c.put_end.ensures.makes
    (step _ _ _ _ _ _ _ _ _ (c.in_ok-put_lines.ensures.makes plan h.inside_is)
    (step _ _ _ _ _ _ _ (root_start c.args.root.now.source.rows.now c.args.root.now.source.entries.now c.args.root.now.line.now c.args.root.now.source.context)
    _ c.in_ok-put_root_start.ensures.makes (begin _ _ _))))
