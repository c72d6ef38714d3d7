use Rattle.std.proofs.Common.{◌++◌, chars, length, ap, sym, ◌∙◌, append-nil, arith}
use Rattle.std.proofs.lemmas.Iterator.{YieldsList-from_chars}
use Rattle.std.proofs.lemmas.Iterator.Consumers.{YieldsList-turn, YieldsList-end}
use Rattle.std.proofs.lemmas.List.{length_push, take_all}
use Rattle.schematron_texts.specs.Messages.{message_of}
use Rattle.schematron_texts.proofs.MessageLemmas.{told_more}
use Rattle.schematron_texts.proofs.messages.push_piece.Goals as goal

pub characters-init : goal.characters-init
characters-init c = λ told e. e ∙ ap message_of (sym (append-nil told))

pub characters-preserved : goal.characters-preserved
characters-preserved c =
    let turn = YieldsList-turn (YieldsList-from_chars c.args.piece.now c.utf8.piece cc) c.characters.yielded _ c.characters.yielded_by _ _ c.in-Some.c
    c.in-Some.is c.next.ensures.steps in
    λ told e. rw (length_push c.characters.yielded c.in-Some.c) (c.in_ok-spacing.ensures _ (c.characters.invariant told e) ∙
    ap message_of (told_more told (chars c.args.piece.now) _ c.in-Some.c turn))

pub returns : goal.returns
returns c =
    let end = YieldsList-end (YieldsList-from_chars c.args.piece.now c.utf8.piece cc) c.characters.yielded _ c.characters.yielded_by _ _ c.in-None.is
    c.next.ensures.steps in
    λ told e. c.characters.invariant told e ∙ ap (λ t. message_of (told ++ t))
    (take_all (length c.characters.yielded) (chars c.args.piece.now) (omega (arith, end.1)))
