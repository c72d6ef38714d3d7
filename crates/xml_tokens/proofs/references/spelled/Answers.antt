use Rattle.std.proofs.Common.{◌≡◌, ◌<◌, get_or, ap, arith, rules}
use Rattle.std.specs.Char.{digit_value}
use Rattle.xml_tokens.proofs.SpellingLemmas.{radix-small, spelling-great}
use Rattle.xml_tokens.proofs.references.spelled.Goals as goal

pub returns-then-number-gt1114111 : goal.returns-then-number-gt1114111
returns-then-number-gt1114111 c =
    let small = radix-small c.args.radix c.digits.number c.requires c.digits.invariant.most in
    let same : c.from.result ≡ get_or c.args.digits.now c.digits.i 0 = search rules in
    let value : digit_value c.from.result ≡ digit_value (get_or c.args.digits.now c.digits.i 0) = ap digit_value same in
    let below : digit_value (get_or c.args.digits.now c.digits.i 0) < c.args.radix = omega (arith, value, c.in-Some.ensures.value.0) in
    let read : c.in-Some.value ≡ digit_value (get_or c.args.digits.now c.digits.i 0) = omega (arith, value, c.in-Some.ensures.value.1) in
    spelling-great c.args.radix c.args.digits.now c.digits.i c.digits.number c.in-Some.value small.1 (omega arith) below read (omega arith) c.digits.invariant
