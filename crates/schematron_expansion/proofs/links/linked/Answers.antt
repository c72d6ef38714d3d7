use Rattle.std.proofs.Common.{◌∙◌, ap}
use Rattle.schematron_entries.specs.Seen.{seen_entries}
use Rattle.schematron_expansion.specs.Bodied.{bodies_at}
use Rattle.schematron_expansion.proofs.BodyLemmas.{bodies_are}
use Rattle.schematron_expansion.proofs.links.linked.Goals as goal

pub returns-in-Ok-graph_by : goal.returns-in-Ok-graph_by
returns-in-Ok-graph_by c = record {
  parents_are = c.in-Ok.ensures.parents;
  numbers_are = c.in-Ok.ensures.numbers;
  rules_are = c.requires.rules;
  patterns_are = c.requires.patterns;
  bodies_are = c.in-Ok-graph_by.ensures
      ∙ (ap (bodies_at (seen_entries c.args.entries.now)) c.deref.ensures.value ∙ bodies_are (seen_entries c.args.entries.now) _ c.requires.rules.nodes_are);
}
