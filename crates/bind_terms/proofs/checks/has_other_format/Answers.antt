use Rattle.std.proofs.Common.{refl, ap, ◌∙◌}
use Rattle.std.specs.Prelude.{codes}
use Rattle.std.specs.List.{list_any}
use Rattle.node_arena.specs.Moves.{tree_nodes}
use Rattle.bind_meaning.specs.Elements.{attributes_named}
use Rattle.bind_terms.specs.Kinds.{is_other_at}
use Rattle.bind_terms.proofs.Images.{literal}
use Rattle.bind_terms.proofs.Literals.{along}
use Rattle.bind_terms.proofs.checks.has_other_format.Goals as goal

pub returns : goal.returns
returns g c =
    along _ _ _ (ap (list_any (is_other_at (tree_nodes c.args.doc.now))) (c.deref.ensures.value ∙ (c.in_ok-found.ensures.nodes
    ∙ ap (λ local. attributes_named (tree_nodes c.args.doc.now) local c.args.n) (literal (codes "format") refl)))) c.is_any_other.ensures
