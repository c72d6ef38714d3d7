use Rattle.xpath_plan.proofs.ShapeLaws.{onces_are}
use Rattle.xpath_plan.proofs.laws.kept_parts_depend_on_the_document_alone.Goals as goal

pub returns : goal.returns
returns c = onces_are
