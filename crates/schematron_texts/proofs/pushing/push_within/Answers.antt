use Rattle.std.proofs.Common.{string_bytes, arith}
use Rattle.std.proofs.lemmas.Str.{IsUtf8-string_bytes, IsUtf8-encode}
use Rattle.schematron_texts.proofs.CharacterLemmas.{character_behind}
use Rattle.schematron_texts.proofs.WalkLemmas.{character_too_long}
use Rattle.schematron_texts.proofs.pushing.push_within.Goals as goal

pub returns-then-len_utf8-most-clause-made : goal.returns-then-len_utf8-most-clause-made
returns-then-len_utf8-most-clause-made c = character_too_long (string_bytes c.args.text.now) c.args.c c.args.most (IsUtf8-string_bytes c.args.text.now)
    (IsUtf8-encode c.args.c c.ranges.c.0)
    (omega (arith, c.if-len_utf8-most.true, c.len_utf8.ensures.len, c.len.ensures))

pub returns-clause-made : goal.returns-clause-made
returns-clause-made c = character_behind (string_bytes c.args.text.now) _ c.args.c (IsUtf8-string_bytes c.args.text.now)
    (IsUtf8-encode c.args.c c.ranges.c.0) c.in_ok-push.ensures.bytes
