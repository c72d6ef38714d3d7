use Rattle.std.proofs.Common.{◌≡◌, subst}
use Rattle.std.specs.Prelude.{IfOk}
use Rattle.std.specs.List.{range_with_len}
use Rattle.schematron_rules.proofs.phases.all_numbers.Goals as goal

pub returns : goal.returns
returns c = subst (λ n. IfOk c.numbers_below.result (λ numbers. numbers ≡ range_with_len 0 n)) c.in_ok-count.ensures c.numbers_below.ensures
