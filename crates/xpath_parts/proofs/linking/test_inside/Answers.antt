use Rattle.xpath_plan.specs.Plans.{seen}
use Rattle.xpath_parts.proofs.LinkLemmas.{inside-found}
use Rattle.xpath_parts.proofs.linking.test_inside.Goals as goal

pub returns-in-DoubleSlash : goal.returns-in-DoubleSlash
returns-in-DoubleSlash c = λ names.
    inside-found names c.args.link c.in-Operator.operator (seen names c.args.work.now) c.child_test.result c.in-Operator.is c.in-DoubleSlash.is
    (c.child_test.ensures names)
