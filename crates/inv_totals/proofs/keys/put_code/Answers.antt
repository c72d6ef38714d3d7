use Rattle.std.proofs.Common.{ap}
use Rattle.std.specs.Prelude.{option_copied}
use Rattle.inv_totals.proofs.KeyLemmas.{code_pushed}
use Rattle.inv_totals.proofs.keys.put_code.Goals as goal

pub returns-in_ok-put-in-Some : goal.returns-in_ok-put-in-Some
returns-in_ok-put-in-Some c =
    code_pushed c.put-in-Some.result _ _ _ _ c.in-Some.code.now (option_copied c.args.code) c.as_str.ensures
    (ap option_copied c.in-Some.is) c.in_ok-put-in-Some.ensures c.put-in-Some.ensures
