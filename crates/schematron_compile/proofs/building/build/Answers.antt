use Rattle.std.proofs.Common.{◌∙◌, ap}
use Rattle.schematron_compile.specs.Lent.{lent_instances}
use Rattle.schematron_compile.proofs.building.build.Goals as goal

pub built_with-rules-requires : goal.built_with-rules-requires
built_with-rules-requires c = ap lent_instances c.deref.ensures.value ∙ c.in_ok-instances.ensures
