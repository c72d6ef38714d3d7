use Rattle.std.proofs.Common.{sym, ◌∙◌}
use Rattle.xpath_parts.specs.Contexts.{operands_of}
use Rattle.xpath_parts.proofs.PartLemmas.{chain-plain, chain-only-part, no-plain-one}
use Rattle.xpath_parts.proofs.parts.only_operand.Goals as goal

pub returns-then-is_plain_one-clause-some : goal.returns-then-is_plain_one-clause-some
returns-then-is_plain_one-clause-some c = λ names. chain-only-part names c.args.parts.now c.only.result
    (sym (c.is_plain_one.ensures names) ∙ c.if-is_plain_one.true) (c.only.ensures.some names)

pub returns-then-is_plain_one-clause-none : goal.returns-then-is_plain_one-clause-none
returns-then-is_plain_one-clause-none c = λ names. no-plain-one names c.args.parts.now c.only.result
    (sym (c.is_plain_one.ensures names) ∙ c.if-is_plain_one.true) (c.only.ensures.none names)

pub returns-else-is_plain_one-clause-none : goal.returns-else-is_plain_one-clause-none
returns-else-is_plain_one-clause-none c = λ names. chain-plain (operands_of names c.args.parts.now)
    (sym (c.is_plain_one.ensures names) ∙ c.if-is_plain_one.false)
