use Rattle.std.proofs.Common.{refl, sym, ap, ◌∙◌}
use Rattle.std.specs.Prelude.{codes, not}
use Rattle.node_arena.specs.Moves.{tree_nodes}
use Rattle.bind_meaning.specs.Judging.{breaks, has_attribute}
use Rattle.bind_terms.proofs.Images.{literal}
use Rattle.bind_terms.proofs.Literals.{along}
use Rattle.bind_terms.proofs.checks.breaks.Goals as goal

pub returns-in-Scheme : goal.returns-in-Scheme
returns-in-Scheme g c =
    along _ _ _ (ap (λ local. not (has_attribute (tree_nodes c.args.doc.now) local c.args.n)) (literal (codes "schemeID") refl)
    ∙ ap (λ check. breaks (tree_nodes c.args.doc.now) check c.args.n) (sym c.in-Scheme.is)) c.lacks_attribute.ensures
