use Rattle.std.proofs.Common.{arith}
use Rattle.xml_tokens.specs.Told.{BeginsTag}
use Rattle.xml_tokens.proofs.PlainTagLemmas.{if-any}
use Rattle.xml_tokens.proofs.TokenLemmas.{begins-tag}
use Rattle.xml_tokens.proofs.plain_tags.plain_tag_behind.Goals as goal

pub returns-in-len1-up-clause-begins : goal.returns-in-len1-up-clause-begins
returns-in-len1-up-clause-begins c =
    let slash = c.if-first-eq47.true in
    if-any c.plain_end_tag.result (λ _. BeginsTag c.args.bytes.now) (λ _. begins-tag c.args.bytes.now (omega arith) (omega arith) (omega arith))
