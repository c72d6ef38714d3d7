use Rattle.std.proofs.Common.{◌≡◌, ◌∙◌, sym, nat_lt, length, false, arith}
use Rattle.std.proofs.lemmas.Bool.Decides.{nat_tests}
use Rattle.xml_tokens.proofs.StringLemmas.{starts-begins, inside-short, inside-long}
use Rattle.xml_tokens.proofs.scanning.ends_inside.Goals as goal

pub returns-then-bytes-string : goal.returns-then-bytes-string
returns-then-bytes-string c = c.starts_with.ensures.value ∙
    (starts-begins c.args.bytes.now c.args.string.now ∙ sym (inside-short c.args.string.now c.args.bytes.now c.if-bytes-string.true))

pub returns-else-bytes-string : goal.returns-else-bytes-string
returns-else-bytes-string c =
    let e : nat_lt (length c.args.bytes.now) (length c.args.string.now) ≡ false = grind (arith, nat_tests, c.if-bytes-string.false) in
    e ∙ sym (inside-long c.args.string.now c.args.bytes.now c.if-bytes-string.false)
