use Rattle.std.proofs.Common.{◌≡◌, ◌-◌, Bool, length, take, drop, get_or, arith, ◌∙◌}
use Rattle.xml_tokens.specs.Beginnings.{beginning, good, tag_at}
use Rattle.xml_tokens.specs.Plain.{plain_token}
use Rattle.xml_tokens.specs.Told.{BeginsTag}
use Rattle.xml_tokens.specs.declared.beginning.Position.{Position}
use Rattle.xml_tokens.proofs.PlainTagLemmas.{begins-as-tag, if-some}
use Rattle.xml_tokens.proofs.TokenLemmas.{first-split}
use Rattle.xml_tokens.proofs.plain_tags.plain_tag.Goals as goal

pub returns-in-len1-up : goal.returns-in-len1-up
returns-in-len1-up c =
    let bytes = c.args.bytes.now in
    let rest = take (length bytes - 1) (drop 1 bytes) in
    if-some c.plain_tag_behind.result (λ tag. tag_at rest ≡ good (plain_token tag) tag.len) (λ _. BeginsTag rest)
    (λ tag. (position : Position) → (ended : Bool) → beginning position ended bytes ≡ good (plain_token tag) tag.len)
    (λ tag is begins position ended. begins-as-tag position ended bytes rest (get_or bytes 0 0) (first-split bytes (omega arith)) c.if-first-eq60.true begins ∙ is)
    c.plain_tag_behind.ensures.tag c.plain_tag_behind.ensures.begins
