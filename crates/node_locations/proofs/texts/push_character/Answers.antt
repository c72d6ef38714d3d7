use Rattle.std.proofs.lemmas.Str.{IsUtf8-string_bytes, IsUtf8-encode}
use Rattle.node_locations.proofs.TextLemmas.{character_pushed, Puts-apostrophe}
use Rattle.node_locations.proofs.texts.push_character.Goals as goal

pub returns-then-c-eq39 : goal.returns-then-c-eq39
returns-then-c-eq39 c = Puts-apostrophe _ c.args.c _ _ c.if-c-eq39.true c.push_plain.ensures

pub returns : goal.returns
returns c = character_pushed _ _ _ c.args.c (IsUtf8-string_bytes c.args.out.now) (IsUtf8-encode c.args.c c.ranges.c.0) c.push.ensures.bytes c.if-c-eq39.false
