use Rattle.schematron_entries.specs.Seen.{seen_entry}
use Rattle.schematron_rules.specs.declared.rules.Assertion.{Assertion}
use Rattle.schematron_compile.proofs.BuiltLemmas.{assertion_is}
use Rattle.schematron_compile.proofs.assertions.assertion_of.Goals as goal

pub returns-in-Ok-flag_and_role : goal.returns-in-Ok-flag_and_role
returns-in-Ok-flag_and_role c =
    let found : Assertion = record {
      kind = c.kind_of.result;
      test = c.in-Ok.test;
      id = c.in_ok-id.id;
      flag = c.in-Ok-flag_and_role.flag;
      role = c.in-Ok-flag_and_role.role;
      level = c.level.result;
      message = c.in-Ok.message;
    } in
    assertion_is c.args.file.now.entries c.args.params.now c.args.scope.now
    (seen_entry c.args.e.now) found c.kind_of.ensures c.in-Ok.ensures.test c.in_ok-id.ensures
    c.in-Ok-flag_and_role.ensures.flag c.in-Ok-flag_and_role.ensures.role c.level.ensures c.in-Ok.ensures.message
