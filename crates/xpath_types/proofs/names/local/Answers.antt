use Rattle.std.proofs.Common.{refl}
use Rattle.std.specs.Str.{chars}
use Rattle.xpath_types.proofs.names.local.Goals as goal

pub returns-in-AnyLocal : goal.returns-in-AnyLocal
unfolding chars
returns-in-AnyLocal c = rw c.in-AnyLocal.is refl
