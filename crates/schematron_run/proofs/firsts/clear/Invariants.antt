use Rattle.std.proofs.Common.{◌≡◌, ℕ, false, None, length, drop}
use Rattle.inv_base.specs.Tree.{is_among}
use Rattle.schematron_run.specs.Firsts.{entry}
use Rattle.schematron_run.proofs.firsts.clear.Given as goal

abbrev pub invariant-touched : goal.invariant-touched
invariant-touched l = record {
  long : length l.table ≡ length l.initial.table;
  rest : (m : ℕ) → is_among m (drop l.n-index l.touched) ≡ false → entry l.table m ≡ None;
}
