use Rattle.xml_tokens.proofs.AsciiLemmas.{plain-ncname}
use Rattle.xml_tokens.proofs.names.is_ncname.Goals as goal

pub returns-then-is_plain_ncname : goal.returns-then-is_plain_ncname
returns-then-is_plain_ncname c = plain-ncname _ c.args.name.now _ c.as_bytes.ensures.value c.is_plain_ncname.ensures c.if-is_plain_ncname.true
