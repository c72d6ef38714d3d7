use Rattle.std.proofs.lemmas.Iterator.{YieldsList-from_chars}
use Rattle.std.proofs.lemmas.Iterator.Consumers.{YieldsList-turn, YieldsList-end}
use Rattle.std.proofs.lemmas.List.{length_push}
use Rattle.std.specs.Prelude.{chars, string_bytes}
use Rattle.node_locations.proofs.PutLemmas.{Puts-at_err}
use Rattle.node_locations.proofs.TextLemmas.{along-begin, along-more, along-end, along-broken}
use Rattle.node_locations.proofs.texts.push_doubled.Goals as goal

pub characters-init : goal.characters-init
characters-init c = along-begin (chars c.args.text.now) (chars (string_bytes c.args.out.now))

pub returns-in_err-push_character : goal.returns-in_err-push_character
returns-in_err-push_character c =
    let turn = YieldsList-turn (YieldsList-from_chars c.args.text.now c.utf8.text cc) c.characters.yielded _ c.characters.yielded_by _ _ c.in-Some.c
    c.in-Some.is
    c.next.ensures.steps in
    Puts-at_err _ _ _ _ c.from_residual.ensures.0
    (along-broken (chars c.args.text.now) _ _ _ _ c.in-Some.c turn c.characters.invariant c.in_err-push_character.ensures)

pub characters-preserved : goal.characters-preserved
characters-preserved c =
    let turn = YieldsList-turn (YieldsList-from_chars c.args.text.now c.utf8.text cc) c.characters.yielded _ c.characters.yielded_by _ _ c.in-Some.c
    c.in-Some.is
    c.next.ensures.steps in
    rw (length_push c.characters.yielded c.in-Some.c)
    (along-more (chars c.args.text.now) _ _ _ _ c.in-Some.c turn c.characters.invariant c.in_ok-push_character.ensures)

pub returns : goal.returns
returns c =
    let end = YieldsList-end (YieldsList-from_chars c.args.text.now c.utf8.text cc) c.characters.yielded _ c.characters.yielded_by _ _ c.in-None.is
    c.next.ensures.steps in
    along-end (chars c.args.text.now) _ _ _ end.1 c.characters.invariant
