use Rattle.std.proofs.Common.{◌≡◌, ◌∷◌, ℕ, suc, zero, ap, ◌∙◌, map, option_map, replicate, None, Option, refl, arith}
use Rattle.xpath_meaning.specs.Values.{Value, value}
use Rattle.xpath_parts.proofs.slots.Slots.new.Goals as goal

none_all : (n : ℕ) → map (option_map value) (replicate n None) ≡ replicate {A = Option Value} n None
none_all zero = refl
none_all (suc n) = ap (λ others. None ∷ others) (none_all n)

pub returns : goal.returns
returns c = ap (map (option_map value)) c.slots.invariant ∙ (none_all c.slots._k
    ∙ ap (λ n. replicate {A = Option Value} n None) (let e : c.slots._k ≡ c.args.count = omega (arith, c.slots-test.false, c.slots.auto._k-end) in e))
