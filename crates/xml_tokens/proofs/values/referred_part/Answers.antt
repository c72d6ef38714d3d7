use Rattle.std.proofs.Common.{sym, subst}
use Rattle.xml_tokens.specs.Told.{LowFront}
use Rattle.xml_tokens.proofs.ValueLemmas.{reference-front, pred-is}
use Rattle.xml_tokens.proofs.values.referred_part.Goals as goal

pub overflow_sub-result : goal.overflow_sub-result
overflow_sub-result c = (reference-front c.args.bytes.now c.in-Character.character c.in-Character.length (sym c.in-Character.ensures)).1

pub returns-in-Character-clause-low : goal.returns-in-Character-clause-low
returns-in-Character-clause-low c = subst (λ n. LowFront c.args.bytes.now n) (pred-is c.in-Character.length)
    (reference-front c.args.bytes.now c.in-Character.character c.in-Character.length (sym c.in-Character.ensures)).0
