use Rattle.std.proofs.Common.{ap}
use Rattle.std.specs.Prelude.{option_map}
use Rattle.inv_decimal.specs.Number.{ScaledDecimal}
use Rattle.inv_totals.specs.Totals.{category_at}
use Rattle.inv_totals.proofs.KeyLemmas.{key_made}
use Rattle.inv_totals.proofs.keys.write_key.Goals as goal

pub returns : goal.returns
returns c =
    key_made c.put_code.result _ _ _ c.put_code.new.key _ _ (category_at c.args.i.now c.args.terms.code c.args.terms.rate c.args.context)
    c.clear.ensures.bytes c.in_ok-put_rate.ensures.text c.in_ok-put.ensures c.put_code.ensures
    (ap (option_map (λ (s : ScaledDecimal). s.value)) c.stated.ensures) c.code_at.ensures c.in_ok-put_rate.ensures.in_range
