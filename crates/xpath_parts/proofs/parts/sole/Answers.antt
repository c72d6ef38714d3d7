use Rattle.xpath_parts.proofs.PartLemmas.{bound-only-part, bound-plain-part, filtered-only-part, filtered-plain-part}
use Rattle.xpath_parts.proofs.parts.sole.Goals as goal

pub returns-in-Only-clause-some : goal.returns-in-Only-clause-some
returns-in-Only-clause-some c = λ names. rw c.in-Only.is (c.first.ensures.some names)

pub returns-in-Chain-clause-some : goal.returns-in-Chain-clause-some
returns-in-Chain-clause-some c = λ names. rw c.in-Chain.is (c.only_operand.ensures.some names)

pub returns-in-Bound-clause-some : goal.returns-in-Bound-clause-some
returns-in-Bound-clause-some c = λ names. rw c.in-Bound.is (bound-only-part names c.args.parts.now _ c.only.result (c.only.ensures.some names))

pub returns-in-Bound-clause-none : goal.returns-in-Bound-clause-none
returns-in-Bound-clause-none c = λ plain names. rw c.in-Bound.is (bound-plain-part names c.args.parts.now _ c.only.result (c.only.ensures.none names))

pub returns-in-Filtered-clause-some : goal.returns-in-Filtered-clause-some
returns-in-Filtered-clause-some c = λ names. rw c.in-Filtered.is
    (filtered-only-part names c.args.parts.now c.only-in-Filtered.result (c.only-in-Filtered.ensures.some names))

pub returns-in-Filtered-clause-none : goal.returns-in-Filtered-clause-none
returns-in-Filtered-clause-none c = λ plain names. rw c.in-Filtered.is
    (filtered-plain-part names c.args.parts.now c.only-in-Filtered.result (c.only-in-Filtered.ensures.none names))

pub returns-in-Once-clause-some : goal.returns-in-Once-clause-some
returns-in-Once-clause-some c = λ names. rw c.in-Once.is (c.first-in-Once.ensures.some names)
