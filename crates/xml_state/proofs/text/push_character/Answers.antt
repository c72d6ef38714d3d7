use Rattle.std.proofs.Common.{◌≡◌, ◌==◌, ◌&&◌, false, refl}
use Rattle.std.proofs.lemmas.Bool.{and_left, and_right, ne_eqb}
use Rattle.std.proofs.lemmas.Str.{IsUtf8-string_bytes, IsUtf8-encode}
use Rattle.xml_state.proofs.TextLemmas.{added-return, added-character}
use Rattle.xml_state.proofs.text.push_character.Goals as goal
use Rattle.xml_state.proofs.text.push_character.Goals.{else-c-eq10-via-then-c-eq10+else-is_behind_return, else-c-eq10-via-else-c-eq10}

pub returns-then-c-eq13 : goal.returns-then-c-eq13
returns-then-c-eq13 c = added-return _ _ c.args.c c.args.is_behind_return (IsUtf8-string_bytes c.args.text.now)
    (IsUtf8-encode 0xA refl) c.in_ok-push.ensures.bytes c.if-c-eq13.true

pub returns : goal.returns
returns c =
    let alone : ((c.args.c == 0xA) && c.args.is_behind_return) ≡ false = elim c.else-c-eq10.branch [
      | else-c-eq10-via-then-c-eq10+else-is_behind_return w ↦ and_right _ _ w.if-is_behind_return.false
      | else-c-eq10-via-else-c-eq10 w ↦ and_left _ _ (ne_eqb _ _ w.if-c-eq10.false)
    ] in
    added-character _ _ c.args.c c.args.is_behind_return (IsUtf8-string_bytes c.args.text.now)
    (IsUtf8-encode c.args.c c.ranges.c.0) c.in_ok-push-2.ensures.bytes c.if-c-eq13.false alone
