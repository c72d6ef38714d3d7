use Rattle.std.proofs.Common.{◌≡◌, ◌*◌, ◌/◌, ◌%◌, ◌^◌, ap, ◌∙◌, arith}
use Rattle.inv_decimal.proofs.Products.{quotient_by_parts, fraction_below, rest_is}
use Rattle.inv_decimal.proofs.wide.scaled_quotient.Goals as goal

pub returns : goal.returns
returns c =
    let parts = quotient_by_parts c.args.a c.args.b (10 ^ 18) c.requires.divisor in
    let low = fraction_below (c.args.a % c.args.b) c.args.b (10 ^ 18) (omega arith) (omega arith) in
    let rest : c.fraction.result ≡ c.args.a % c.args.b * 10 ^ 18 / c.args.b =
    c.fraction.ensures ∙ ap (λ r. r * 10 ^ 18 / c.args.b) (rest_is c.args.a c.args.b) in
    (omega arith, omega arith)
