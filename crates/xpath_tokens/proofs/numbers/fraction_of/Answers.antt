use Rattle.std.proofs.Common.{◌-◌, length, replicate, sym, ap, ◌∙◌}
use Rattle.xpath_tokens.specs.Tokens.{value_of, below_limit}
use Rattle.xpath_tokens.proofs.NumberLaws.{passed, value_of-append, below-is, below-past}
use Rattle.xpath_tokens.proofs.numbers.fraction_of.Goals as goal

pub returns-in-None-clause-exact : goal.returns-in-None-clause-exact
returns-in-None-clause-exact c =
    passed (value_of 0 c.args.digits.now) _ (replicate (18 - length c.args.digits.now) 48)
    (sym (value_of-append 0 c.args.digits.now (replicate (18 - length c.args.digits.now) 48)))
    (below-past (value_of 0 c.args.digits.now) c.in-None.ensures.exact)

pub returns-in-Some-clause-exact : goal.returns-in-Some-clause-exact
returns-in-Some-clause-exact c =
    let is = below-is (value_of 0 c.args.digits.now) c.in-Some.value c.in-Some.ensures.exact in
    c.with_zeros.ensures.exact ∙ ap (λ v. below_limit (value_of v (replicate (18 - length c.args.digits.now) 48))) is.1
    ∙ ap below_limit (sym (value_of-append 0 c.args.digits.now (replicate (18 - length c.args.digits.now) 48)))
