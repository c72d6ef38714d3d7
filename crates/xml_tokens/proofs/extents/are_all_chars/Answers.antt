use Rattle.xml_tokens.proofs.CalmLemmas.{calm-told}
use Rattle.xml_tokens.proofs.extents.are_all_chars.Goals as goal

pub returns-then-are_calm : goal.returns-then-are_calm
returns-then-are_calm c = calm-told _ c.args.text.now _ c.as_bytes.ensures.value c.utf8.text c.are_calm.ensures c.if-are_calm.true
