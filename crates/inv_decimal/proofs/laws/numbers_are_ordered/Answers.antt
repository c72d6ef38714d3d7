use Rattle.std.proofs.Common.{refl}
use Rattle.std.specs.Ordering.{int_cmp}
use Rattle.std.proofs.lemmas.Cmp.{int_cmp_total, int_ranked}
use Rattle.inv_decimal.proofs.laws.numbers_are_ordered.Goals as goal

pub returns : goal.returns
returns c = record { total = int_cmp_total; values = λ x y. int_ranked x y (int_cmp x y) refl }
