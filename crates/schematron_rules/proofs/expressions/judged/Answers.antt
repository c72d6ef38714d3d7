use Rattle.std.proofs.Common.{true, false}
use Rattle.xpath_grammar.specs.View.{view}
use Rattle.inv_base.proofs.TextLemmas.{encode-chars}
use Rattle.schematron_rules.proofs.ParsedLemmas.{misspelled_judged, planned_judged, typed_grammatical}
use Rattle.schematron_rules.proofs.expressions.judged.Goals as goal

pub returns-in-Ok : goal.returns-in-Ok
returns-in-Ok c = planned_judged c.args.is_pattern true c.args.text.now c.args.scope.now (view c.in-Ok.pattern) c.check_pattern.result c.planned-plan.result
    (encode-chars c.args.text.now c.utf8.text) c.if-is_pattern.true
    c.in-Ok.ensures c.check_pattern.ensures c.planned-plan.ensures

pub returns-in-Err : goal.returns-in-Err
returns-in-Err c = misspelled_judged c.args.is_pattern true c.args.text.now c.args.scope.now c.in-Err.fault c.misspelled.result
    (encode-chars c.args.text.now c.utf8.text) c.if-is_pattern.true
    c.in-Err.ensures c.misspelled.ensures

pub returns-in-Ok-parse : goal.returns-in-Ok-parse
returns-in-Ok-parse c = planned_judged c.args.is_pattern false c.args.text.now c.args.scope.now (view c.in-Ok-parse.expression) c.check.result
    c.planned-plan-in-Ok-parse.result (encode-chars c.args.text.now c.utf8.text) c.if-is_pattern.false
    c.in-Ok-parse.ensures c.check.ensures c.planned-plan-in-Ok-parse.ensures

pub returns-in-Err-parse : goal.returns-in-Err-parse
returns-in-Err-parse c = misspelled_judged c.args.is_pattern false c.args.text.now c.args.scope.now c.in-Err-parse.fault c.misspelled-in-Err-parse.result
    (encode-chars c.args.text.now c.utf8.text) c.if-is_pattern.false
    c.in-Err-parse.ensures c.misspelled-in-Err-parse.ensures

pub planned-plan-requires : goal.planned-plan-requires
planned-plan-requires c =
    typed_grammatical c.args.scope.now (view c.in-Ok.pattern) c.check_pattern.result
    (c.answers_are_grammatical.ensures.pattern c.args.text.now (view c.in-Ok.pattern) c.in-Ok.ensures) c.check_pattern.ensures

pub planned-plan-requires-in-Ok-parse : goal.planned-plan-requires-in-Ok-parse
planned-plan-requires-in-Ok-parse c =
    typed_grammatical c.args.scope.now (view c.in-Ok-parse.expression) c.check.result
    (c.answers_are_grammatical.ensures.expression c.args.text.now (view c.in-Ok-parse.expression) c.in-Ok-parse.ensures) c.check.ensures
