use Rattle.xpath_types.proofs.PatternLemmas.{others-first, others-told, call-first, call-told}
use Rattle.xpath_types.proofs.patterns.refuse_own.Goals as goal

pub returns-in_ok-is_mispatterned-in-Call-clause-first : goal.returns-in_ok-is_mispatterned-in-Call-clause-first
returns-in_ok-is_mispatterned-in-Call-clause-first c =
    call-first c.args.scope.now c.args.token c.args.form.now c.args.parts.now c.in-Call.is c.args.first.now _ _ c.refuse_names-is_misnamed.ensures.first
    c.in_ok-is_mispatterned-in-Call.ensures.first

pub returns-in_ok-is_mispatterned-in-Call-clause-told : goal.returns-in_ok-is_mispatterned-in-Call-clause-told
returns-in_ok-is_mispatterned-in-Call-clause-told c =
    call-told c.args.scope.now c.args.token c.args.form.now c.args.parts.now c.in-Call.is _ _ c.refuse_names-is_misnamed.ensures.told
    c.in_ok-is_mispatterned-in-Call.ensures.told

pub returns-in_default : goal.returns-in_default
returns-in_default c = record {
  first = others-first c.args.scope.now c.args.token c.args.form.now c.args.parts.now c.in_default.not-Call c.args.first.now _
      c.refuse_names-is_misnamed.ensures.first;
  told = others-told c.args.scope.now c.args.token c.args.form.now c.args.parts.now c.in_default.not-Call _ c.refuse_names-is_misnamed.ensures.told;
}
