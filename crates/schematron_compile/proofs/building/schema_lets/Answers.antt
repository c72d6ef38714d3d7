use Rattle.std.proofs.Common.{[], refl}
use Rattle.schematron_meaning.specs.Lookup.{is_let, inside, the_schema}
use Rattle.schematron_rules.specs.Seen.{seen_lets}
use Rattle.schematron_compile.proofs.BuiltLemmas.{schema_is, schema_lets_are}
use Rattle.schematron_compile.proofs.building.schema_lets.Goals as goal

pub returns-clause-lets : goal.returns-clause-lets
returns-clause-lets c = schema_lets_are c.args.file.now.entries (inside is_let c.args.file.now.entries the_schema) [] c.args.scope.now
    (seen_lets c.in_ok-lets.lets)
    c.requires refl refl c.in_ok-lets.ensures.lets

pub returns-clause-scope : goal.returns-clause-scope
returns-clause-scope c = schema_is c.args.file.now.entries (inside is_let c.args.file.now.entries the_schema) [] c.args.scope.now c.plain_lets_inside.new.scope
    c.requires refl refl c.in_ok-lets.ensures.scope
