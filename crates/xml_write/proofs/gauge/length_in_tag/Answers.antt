use Rattle.std.proofs.Common.{arith}
use Rattle.xml_write.specs.declared.escape.Within.TheVariants as within
use Rattle.xml_write.proofs.LengthLemmas.{escaped_long}
use Rattle.xml_write.proofs.gauge.length_in_tag.Goals as goal

pub returns-else-tag_sum-lt-LONGEST_MEASURED : goal.returns-else-tag_sum-lt-LONGEST_MEASURED
returns-else-tag_sum-lt-LONGEST_MEASURED c =
    let long = escaped_long within.Value c.args.value.now in
    let sum = c.tag_sum.ensures in
    let reached = c.if-tag_sum-lt-LONGEST_MEASURED.false in
    omega arith
