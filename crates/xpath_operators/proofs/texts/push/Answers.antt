use Rattle.std.proofs.lemmas.Str.{IsUtf8-string_bytes}
use Rattle.xpath_operators.proofs.TextLemmas.{pushed}
use Rattle.xpath_operators.proofs.texts.push.Goals as goal

pub returns : goal.returns
returns c = pushed c.push_str.result _ _ c.args.text.now (IsUtf8-string_bytes c.args.out.now) c.utf8.text c.push_str.ensures.bytes
