use Rattle.std.proofs.Common.{◌≡◌, true, false, rules}
use Rattle.xml_tokens.specs.WrittenNames.{is_qname}
use Rattle.xml_tokens.proofs.TagLemmas.{tells-no-name, tells-no-rest, tells-bad-reference, tells-start}
use Rattle.xml_tokens.proofs.tags.start_tag.Goals as goal

pub returns-then-not-is_qname : goal.returns-then-not-is_qname
returns-then-not-is_qname c =
    let wrong : is_qname c.split_name.result.0.now ≡ false = search rules in
    tells-no-name c.args.inside.now c.split_name.result.0.now c.split_name.ensures.name wrong

pub returns-in-None : goal.returns-in-None
returns-in-None c =
    let right : is_qname c.split_name.result.0.now ≡ true = search rules in
    tells-no-rest c.args.inside.now c.split_name.result.0.now c.split_name.result.1.now c.in_ok-attributes.attributes c.split_name.ensures.name
    c.split_name.ensures.rest right c.in_ok-attributes.ensures c.in-None.ensures

pub returns-in-Some : goal.returns-in-Some
returns-in-Some c =
    let right : is_qname c.split_name.result.0.now ≡ true = search rules in
    let wrong : c.in_ok-attributes.attributes.are_right ≡ false = search rules in
    tells-bad-reference c.args.inside.now c.split_name.result.0.now c.split_name.result.1.now c.in_ok-attributes.attributes c.in-Some.field-0
    c.split_name.ensures.name c.split_name.ensures.rest right c.in_ok-attributes.ensures c.in-Some.ensures wrong

pub returns : goal.returns
returns c =
    let right : is_qname c.split_name.result.0.now ≡ true = search rules in
    let all : c.in_ok-attributes.attributes.are_right ≡ true = search rules in
    tells-start c.args.inside.now c.split_name.result.0 c.split_name.result.1.now c.in_ok-attributes.attributes c.in-Some.field-0 c.split_name.ensures.name
    c.split_name.ensures.rest right c.in_ok-attributes.ensures c.in-Some.ensures all
