use Rattle.std.proofs.Common.{◌≤◌, arith, rules}
use Rattle.xml_tokens.proofs.encoding.+continued.Goals as goal

pub continued-requires : goal.continued-requires
continued-requires t c =
    let small : c.from.result ≤ 127 = search rules in
    (omega arith, (omega arith, (omega arith, (λ e. omega arith, (λ e. omega arith, (λ e. omega arith, omega arith))))))
