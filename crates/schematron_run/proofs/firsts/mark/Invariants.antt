use Rattle.std.proofs.Common.{◌≡◌, ℕ, List, Option, length, drop}
use Rattle.schematron_run.specs.Firsts.{AreTouched, Marked}
use Rattle.schematron_run.proofs.firsts.mark.Given as goal

abbrev pub invariant-marks : goal.invariant-marks
invariant-marks l = record {
  long : length l.table ≡ length l.initial.table;
  touched : AreTouched l.table l.touched.items;
  ahead : (new : List (Option ℕ)) → Marked (drop l.n-index l.marks) l.rule l.table new → Marked l.marks l.rule l.initial.table new;
}
