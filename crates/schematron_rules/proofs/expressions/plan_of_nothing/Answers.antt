use Rattle.schematron_rules.proofs.ParsedLemmas.{empty_unrefused, empty_planned, empty_grammatical}
use Rattle.schematron_rules.proofs.expressions.plan_of_nothing.Goals as goal

pub returns-in-Ok : goal.returns-in-Ok
returns-in-Ok c = empty_planned c.args.scope.now c.in-Ok.typed c.compile.result (rw c.requires at c.in-Ok.ensures) c.compile.ensures.expression

pub unreachable-requires : goal.unreachable-requires
unreachable-requires c = empty_unrefused c.args.scope.now c.in-Err-Refused.field-0 c.in-Err-Refused.field-0-0 c.in-Err-Refused.field-0-1
    c.in-Err-Refused.field-0-is (rw c.requires at c.in-Err-Refused.ensures)

pub compile-requires : goal.compile-requires
compile-requires c = empty_grammatical c.args.scope.now c.in-Ok.typed (rw c.requires at c.in-Ok.ensures)
