use Rattle.std.proofs.Common.{ap, length, arith}
use Rattle.xml_write.proofs.LengthLemmas.{escaped_long, next_fits, next_measured}
use Rattle.xml_write.proofs.gauge.escaped_length.Goals as goal

pub returns-then-bytes-ge-MOST_MEASURED : goal.returns-then-bytes-ge-MOST_MEASURED
returns-then-bytes-ge-MOST_MEASURED c =
    let long = escaped_long c.args.within c.args.text.now in
    let same = ap length c.as_bytes-bytes.ensures.value in
    let reached = c.if-bytes-ge-MOST_MEASURED.true in
    omega arith

pub overflow_add-length : goal.overflow_add-length
overflow_add-length c =
    let few = c.if-bytes-ge-MOST_MEASURED.false in
    omega (
      arith,
      next_fits c.args.within c.as_bytes-bytes.result.now c.bytes.byte-index c.bytes.length c.escape_length-length.result c.bytes-test.true
          c.bytes.invariant.1 (omega arith) c.escape_length-length.ensures,
    )

pub bytes-preserved : goal.bytes-preserved
bytes-preserved c =
    next_measured c.args.within c.as_bytes-bytes.result.now c.args.text.now c.bytes.byte-index c.bytes.length c.escape_length-length.result
    c.as_bytes-bytes.ensures.value c.bytes-test.true c.bytes.invariant.0 c.bytes.invariant.1 c.escape_length-length.ensures
