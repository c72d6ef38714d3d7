use Rattle.std.proofs.Common.{◌≡◌, length, drop, arith, ◌⊎◌, rules}
use Rattle.xml_tokens.specs.Searches.{shared_front}
use Rattle.xml_tokens.proofs.StringLemmas.{shared-end}
use Rattle.xml_tokens.proofs.scanning.shared_front.Goals as goal

pub returns-clause-exact : goal.returns-clause-exact
returns-clause-exact c =
    let last : (c.places.i ≡ length c.args.string.now) ⊎ (c.places.i ≡ length c.args.bytes.now) = search rules in
    let none : shared_front (drop c.places.i c.args.string.now) (drop c.places.i c.args.bytes.now) ≡ 0 =
    shared-end c.args.string.now c.args.bytes.now c.places.i last in
    omega (arith, none, c.places.invariant)
