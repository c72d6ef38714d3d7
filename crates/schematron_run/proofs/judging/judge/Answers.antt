use Rattle.schematron_rules.specs.Seen.{seen_rules}
use Rattle.schematron_run.proofs.judging.judge.Goals as goal

pub found_in-requires-clause-patterns : goal.found_in-requires-clause-patterns
found_in-requires-clause-patterns g c =
    let said = c.are_of_a_file.ensures in
    c.compiled_rules_have_patterns.ensures said.nodes (seen_rules c.args.rules.now) said.are
