use Rattle.xml_tokens.specs.Ascii.{plain_local}
use Rattle.xml_tokens.proofs.PlainTagLemmas.{qname-at}
use Rattle.xml_tokens.proofs.plain_tags.qname_len.Goals as goal

pub returns-in-Some-clause-name : goal.returns-in-Some-clause-name
returns-in-Some-clause-name c = qname-at c.args.bytes.now c.split_at.result.1.now c.in_ok-prefix.prefix c.in-Some.local c.in_ok-prefix.ensures.within
    c.split_at.ensures.back c.in-len1-up.len_at_least c.if-colon-eq58.true
    c.in_ok-prefix.ensures.name c.in-Some.ensures.name

pub returns-in_default-clause-name : goal.returns-in_default-clause-name
returns-in_default-clause-name c = plain_local _ c.in_ok-prefix.ensures.name

pub returns-in_default-2-clause-name : goal.returns-in_default-2-clause-name
returns-in_default-2-clause-name c = plain_local _ c.in_ok-prefix.ensures.name
