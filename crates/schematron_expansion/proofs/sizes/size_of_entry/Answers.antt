use Rattle.std.proofs.Common.{ap, ◌∙◌}
use Rattle.schematron_graph.specs.Counts.{count_of}
use Rattle.schematron_graph.specs.Rules.{expansion}
use Rattle.schematron_expansion.proofs.sizes.size_of_entry.Goals as goal

pub returns : goal.returns
returns c = λ named known. c.size_of_part.ensures ∙ ap (λ parts. count_of (expansion c.args.graph.now parts)) (c.part_of.ensures named known)
