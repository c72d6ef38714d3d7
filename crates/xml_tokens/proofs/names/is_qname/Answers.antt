use Rattle.std.proofs.Common.{◌&&◌, ap, sym, ◌∙◌}
use Rattle.std.specs.Str.{chars}
use Rattle.std.specs.List.{position}
use Rattle.xml_tokens.specs.WrittenNames.{is_colon, is_ncname}
use Rattle.xml_tokens.proofs.CutLemmas.{boundary-before, boundary-rest, colon-ascii, split-of, no-place}
use Rattle.xml_tokens.proofs.NameLemmas.{qname-parts, qname-whole}
use Rattle.xml_tokens.proofs.names.is_qname.Goals as goal

pub split_at-requires : goal.split_at-requires
split_at-requires c = boundary-before is_colon c.args.name.now c.in-Some.place colon-ascii (c.in-Some.ensures ∙ ap (position is_colon) c.as_bytes.ensures.value)

pub split_at-requires-in-Some : goal.split_at-requires-in-Some
split_at-requires-in-Some c = boundary-rest is_colon c.args.name.now c.in-Some.place c.split_at.result.1.now c.utf8.name colon-ascii
    (c.in-Some.ensures ∙ ap (position is_colon) c.as_bytes.ensures.value) c.split_at.ensures.back

pub returns-then-is_ncname : goal.returns-then-is_ncname
returns-then-is_ncname c =
    let split = split-of is_colon c.args.name.now c.in-Some.place c.split_at.result.0.now c.split_at.result.1.now c.split_at-in-Some.result.1.now
    (c.in-Some.ensures ∙ ap (position is_colon) c.as_bytes.ensures.value) c.split_at.ensures.front c.split_at.ensures.back c.split_at-in-Some.ensures.back
    in
    c.is_ncname-then-is_ncname.ensures ∙ (ap (λ t. t && is_ncname (chars c.split_at-in-Some.result.1.now)) (sym c.if-is_ncname.true ∙ c.is_ncname.ensures) ∙
    sym (qname-parts c.args.name.now c.split_at.result.0.now c.split_at-in-Some.result.1.now split))

pub returns-else-is_ncname : goal.returns-else-is_ncname
returns-else-is_ncname c =
    let split = split-of is_colon c.args.name.now c.in-Some.place c.split_at.result.0.now c.split_at.result.1.now c.split_at-in-Some.result.1.now
    (c.in-Some.ensures ∙ ap (position is_colon) c.as_bytes.ensures.value) c.split_at.ensures.front c.split_at.ensures.back c.split_at-in-Some.ensures.back
    in
    c.if-is_ncname.false ∙ (ap (λ t. t && is_ncname (chars c.split_at-in-Some.result.1.now)) (sym c.if-is_ncname.false ∙ c.is_ncname.ensures) ∙
    sym (qname-parts c.args.name.now c.split_at.result.0.now c.split_at-in-Some.result.1.now split))

pub returns-in-None : goal.returns-in-None
returns-in-None c = c.is_ncname-in-None.ensures ∙
    sym (qname-whole c.args.name.now (no-place is_colon c.args.name.now (c.in-None.ensures ∙ ap (position is_colon) c.as_bytes.ensures.value)))
