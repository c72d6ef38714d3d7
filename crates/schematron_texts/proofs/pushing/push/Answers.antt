use Rattle.std.proofs.lemmas.Str.{IsUtf8-string_bytes, IsUtf8-encode}
use Rattle.schematron_texts.proofs.CharacterLemmas.{character_pushed}
use Rattle.schematron_texts.proofs.pushing.push.Goals as goal

pub returns : goal.returns
returns c = character_pushed c.push.result _ _ c.args.c (IsUtf8-string_bytes c.args.text.now) (IsUtf8-encode c.args.c c.ranges.c.0) c.push.ensures.bytes
