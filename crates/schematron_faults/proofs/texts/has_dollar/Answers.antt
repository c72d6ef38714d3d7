use Rattle.std.proofs.Common.{length, chars, arith}
use Rattle.std.proofs.lemmas.Iterator.{YieldsList-from_chars}
use Rattle.std.proofs.lemmas.Iterator.Consumers.{YieldsList-turn, YieldsList-end}
use Rattle.std.proofs.lemmas.List.{length_push}
use Rattle.schematron_faults.proofs.TextLemmas.{dollar_whole, dollar_found, dollar_passed, dollar_end}
use Rattle.schematron_faults.proofs.texts.has_dollar.Goals as goal

pub characters-init : goal.characters-init
characters-init c = dollar_whole (chars c.args.text.now)

pub returns-then-c-eq36 : goal.returns-then-c-eq36
returns-then-c-eq36 c =
    let turn = YieldsList-turn (YieldsList-from_chars c.args.text.now c.utf8.text cc) c.characters.yielded _ c.characters.yielded_by _ _ c.in-Some.c
    c.in-Some.is c.next.ensures.steps in
    dollar_found (chars c.args.text.now) (length c.characters.yielded) c.in-Some.c turn c.if-c-eq36.true c.characters.invariant

pub characters-preserved : goal.characters-preserved
characters-preserved c =
    let turn = YieldsList-turn (YieldsList-from_chars c.args.text.now c.utf8.text cc) c.characters.yielded _ c.characters.yielded_by _ _ c.in-Some.c
    c.in-Some.is c.next.ensures.steps in
    dollar_passed (chars c.args.text.now) (length c.characters.yielded) _ c.in-Some.c turn c.if-c-eq36.false
    (length_push c.characters.yielded c.in-Some.c) c.characters.invariant

pub returns : goal.returns
returns c =
    let end = YieldsList-end (YieldsList-from_chars c.args.text.now c.utf8.text cc) c.characters.yielded _ c.characters.yielded_by _ _ c.in-None.is
    c.next.ensures.steps in
    dollar_end (chars c.args.text.now) (length c.characters.yielded) (let e = end.1 in omega arith) c.characters.invariant
