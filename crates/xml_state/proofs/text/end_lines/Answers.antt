use Rattle.std.proofs.Common.{◌++◌, false, chars, ap, ◌∙◌}
use Rattle.std.proofs.lemmas.Iterator.{YieldsList-from_chars}
use Rattle.std.proofs.lemmas.Iterator.Consumers.{YieldsList-turn, YieldsList-end}
use Rattle.std.proofs.lemmas.List.{length_push}
use Rattle.std.proofs.lemmas.Str.{chars-nil}
use Rattle.xml_state.specs.LineEnds.{read_lines}
use Rattle.xml_state.proofs.TextLemmas.{lines-more, lines-end}
use Rattle.xml_state.proofs.text.end_lines.Goals as goal

pub loop-c-init : goal.loop-c-init
loop-c-init c = ap (λ x. x ++ read_lines false (chars c.args.written.now)) (ap chars c.new-text.ensures.bytes ∙ chars-nil)

pub loop-c-preserved : goal.loop-c-preserved
loop-c-preserved c =
    let turn = YieldsList-turn (YieldsList-from_chars c.args.written.now c.utf8.written cc) c.loop-c.yielded _ c.loop-c.yielded_by _ _ c.in-Some.c c.in-Some.is
    c.next.ensures.steps in
    rw (length_push c.loop-c.yielded c.in-Some.c)
    (lines-more (chars c.args.written.now) _ _ _ c.in-Some.c c.loop-c.is_behind_return _ turn c.loop-c.invariant c.in_ok-push_character.ensures)

pub returns : goal.returns
returns c =
    let end = YieldsList-end (YieldsList-from_chars c.args.written.now c.utf8.written cc) c.loop-c.yielded _ c.loop-c.yielded_by _ _ c.in-None.is
    c.next.ensures.steps in
    lines-end (chars c.args.written.now) _ _ c.loop-c.is_behind_return end.1 c.loop-c.invariant
