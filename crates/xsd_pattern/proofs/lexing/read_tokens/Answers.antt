use Rattle.std.proofs.Common.{length, subst, chars}
use Rattle.std.proofs.lemmas.Iterator.{YieldsList-from_chars}
use Rattle.std.proofs.lemmas.Iterator.Consumers.{YieldsList-turn, YieldsList-end}
use Rattle.std.proofs.lemmas.List.{length_push}
use Rattle.xsd_pattern.specs.Lexing.{Gives, at}
use Rattle.xsd_pattern.proofs.Characters.{read_on, read_none, read_end}
use Rattle.xsd_pattern.proofs.lexing.read_tokens.Goals as goal

pub text-preserved : goal.text-preserved
text-preserved c =
    let turn = YieldsList-turn (YieldsList-from_chars c.args.text.now c.utf8.text cc) c.text.yielded _ c.text.yielded_by _ _ c.in-Some.c c.in-Some.is
    c.next.ensures.steps in
    rw (length_push c.text.yielded c.in-Some.c) (read_on c.text.mode _ c.text.members _ c.text.tokens _ (chars c.args.text.now) _ c.in-Some.c _ turn
    (subst (λ next. Gives (at c.text.mode c.text.members c.in-Some.c) next c.at.new.members c.text.tokens c.at.new.tokens) c.in-Some-2.is
    (c.in_ok-mode.ensures {u = tt})) c.text.invariant)

pub returns-in-None-2 : goal.returns-in-None-2
returns-in-None-2 c =
    let turn = YieldsList-turn (YieldsList-from_chars c.args.text.now c.utf8.text cc) c.text.yielded _ c.text.yielded_by _ _ c.in-Some.c c.in-Some.is
    c.next.ensures.steps in
    read_none c.text.mode c.text.members _ c.text.tokens _ (chars c.args.text.now) _ c.in-Some.c _ turn
    (subst (λ next. Gives (at c.text.mode c.text.members c.in-Some.c) next c.at.new.members c.text.tokens c.at.new.tokens) c.in-None-2.is
    (c.in_ok-mode.ensures {u = tt})) c.text.invariant

pub returns : goal.returns
returns c =
    let end = YieldsList-end (YieldsList-from_chars c.args.text.now c.utf8.text cc) c.text.yielded _ c.text.yielded_by _ _ c.in-None.is c.next.ensures.steps in
    read_end _ c.text.mode c.text.members c.text.tokens (chars c.args.text.now) (length c.text.yielded) _ end.1 c.is_between.ensures c.text.invariant
