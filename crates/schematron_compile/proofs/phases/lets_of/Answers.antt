use Rattle.std.proofs.Common.{[]}
use Rattle.schematron_meaning.specs.Lookup.{is_let, inside}
use Rattle.schematron_compile.proofs.ScopeLemmas.{cut_back}
use Rattle.schematron_compile.proofs.phases.lets_of.Goals as goal

pub returns-clause-scope : goal.returns-clause-scope
returns-clause-scope c =
    cut_back [] c.args.scope.now c.plain_lets_inside.new.scope c.truncate.new.self (inside is_let c.args.file.now.entries c.args.element) c.count-count.result
    c.count-count.ensures c.in_ok-lets.ensures.scope c.truncate.ensures
