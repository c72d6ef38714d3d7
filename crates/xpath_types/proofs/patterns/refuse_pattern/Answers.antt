use Rattle.std.proofs.Common.{◌≡◌, sym, ap, not, arith}
use Rattle.xpath_types.specs.Refusals.{first_of}
use Rattle.xpath_types.specs.Judging.{is_empty}
use Rattle.xpath_types.proofs.PatternLemmas.{few-arguments}
use Rattle.xpath_types.proofs.patterns.refuse_pattern.Goals as goal

pub returns-in_default-clause-first : goal.returns-in_default-clause-first
returns-in_default-clause-first c = ap (first_of c.args.first.now) (sym (few-arguments c.args.scope.now c.args.token c.args.parts.now (omega arith)))

pub returns-in_default-clause-told : goal.returns-in_default-clause-told
returns-in_default-clause-told c = ap (λ refusals. not (is_empty refusals)) (sym (few-arguments c.args.scope.now c.args.token c.args.parts.now (omega arith)))
