use Rattle.std.proofs.Common.{◌≡◌, ◌+◌, ◌*◌, drop, sym, ap, ◌∙◌, arith}
use Rattle.xpath_tokens.specs.Tokens.{digit_of, value_of}
use Rattle.xpath_tokens.proofs.Walks.{goes_on}
use Rattle.xpath_tokens.proofs.NumberLaws.{passed}
use Rattle.xpath_tokens.proofs.numbers.value_of.Goals as goal

pub returns-then-value-ge-LIMIT-clause-exact : goal.returns-then-value-ge-LIMIT-clause-exact
returns-then-value-ge-LIMIT-clause-exact c =
    let next = goes_on c.args.digits.now c.digits.i c.index-digits-i.result (omega arith) c.index-digits-i.is in
    let step : value_of (c.digits.value * 10 + digit_of c.index-digits-i.result) (drop (c.digits.i + 1) c.args.digits.now) ≡ value_of 0 c.args.digits.now =
    ap (value_of c.digits.value) (sym next) ∙ c.digits.invariant.same in
    passed (c.digits.value * 10 + digit_of c.index-digits-i.result) _ (drop (c.digits.i + 1) c.args.digits.now) step (omega (arith, c.digit_of.ensures.exact))
