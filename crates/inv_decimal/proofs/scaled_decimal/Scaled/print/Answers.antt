use Rattle.std.proofs.Common.{◌≡◌, ◌-◌, ◌^◌, ◌++◌, length, drop, sym, ap, ◌∙◌, arith}
use Rattle.std.proofs.Math.Nat.{one-le-pow}
use Rattle.inv_decimal.specs.Number.{ScaledDecimal}
use Rattle.inv_decimal.proofs.PrintNumber.{scaled_text_is}
use Rattle.inv_decimal.proofs.scaled_decimal.Scaled.print.Goals as goal

pub nonzero_div-rest : goal.nonzero_div-rest
nonzero_div-rest c =
    omega (arith, c.pow-unused.ensures, one-le-pow (18 - c.from.result) 10 (omega arith))

pub returns-clause-text : goal.returns-clause-text
returns-clause-text c =
    let s : ScaledDecimal = record { value = c.self.inside.value; digits = c.self.inside.digits } in
    let unused : c.pow-unused.result ≡ 10 ^ (18 - c.from-digits.result) =
    c.pow-unused.ensures ∙ ap (λ k. 10 ^ (18 - k)) (c.from.ensures ∙ sym c.from-digits.ensures) in
    rw (← c.self.view_is)
    (c.print_number.ensures.text ∙ ap (λ x. x ++ drop c.print_number.result c.args.buf.now)
    (scaled_text_is s _ _ _ _ _ c.parts-whole.ensures.whole c.parts-whole.ensures.rest c.is_negative.ensures c.from-digits.ensures c.self.invariant.at_most
    unused))

pub returns-clause-len : goal.returns-clause-len
returns-clause-len c =
    let s : ScaledDecimal = record { value = c.self.inside.value; digits = c.self.inside.digits } in
    let unused : c.pow-unused.result ≡ 10 ^ (18 - c.from-digits.result) =
    c.pow-unused.ensures ∙ ap (λ k. 10 ^ (18 - k)) (c.from.ensures ∙ sym c.from-digits.ensures) in
    rw (← c.self.view_is)
    (c.print_number.ensures.len ∙ ap length (scaled_text_is s _ _ _ _ _ c.parts-whole.ensures.whole c.parts-whole.ensures.rest c.is_negative.ensures
    c.from-digits.ensures c.self.invariant.at_most unused))
