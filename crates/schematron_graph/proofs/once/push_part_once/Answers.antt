use Rattle.std.proofs.Common.{◌++◌, sym, subst, ◌∙◌}
use Rattle.schematron_graph.specs.Rules.{bodies_of, things_of}
use Rattle.schematron_graph.specs.Ranked.{found, things_behind}
use Rattle.schematron_graph.specs.Once.{Alike}
use Rattle.schematron_graph.proofs.OnceLemmas.{alike-skip}
use Rattle.schematron_graph.proofs.once.push_part_once.Goals as goal

pub returns-then-contains-clause-alike : goal.returns-then-contains-clause-alike
returns-then-contains-clause-alike c =
    subst (λ p. Alike c.args.out.now.items (c.args.out.now.items ++ things_of (found (things_behind (bodies_of c.args.bodies.now))) p)) (sym c.in-Puts.is)
    (alike-skip c.args.out.now.items (found (things_behind (bodies_of c.args.bodies.now)) c.in-Puts.rule)
    (c.requires.written c.in-Puts.rule (sym c.contains.ensures ∙ c.if-contains.true)))
