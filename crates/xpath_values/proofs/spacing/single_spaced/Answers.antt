use Rattle.std.proofs.Common.{◌++◌, false, chars, ap, ◌∙◌}
use Rattle.std.proofs.lemmas.Iterator.{YieldsList-from_chars}
use Rattle.std.proofs.lemmas.Iterator.Consumers.{YieldsList-turn, YieldsList-end}
use Rattle.std.proofs.lemmas.List.{length_push}
use Rattle.std.proofs.lemmas.Str.{chars-nil}
use Rattle.xpath_meaning.specs.Texts.{single_spaced}
use Rattle.xpath_values.proofs.CharacterLemmas.{spaced_more, spaced_end}
use Rattle.xpath_values.proofs.spacing.single_spaced.Goals as goal

pub characters-init : goal.characters-init
characters-init c = ap (λ x. x ++ single_spaced false (chars c.args.text.now)) (ap chars c.new-out.ensures.bytes ∙ chars-nil)

pub characters-preserved : goal.characters-preserved
characters-preserved c =
    let turn = YieldsList-turn (YieldsList-from_chars c.args.text.now c.utf8.text cc) c.characters.yielded _ c.characters.yielded_by _ _ c.in-Some.c
    c.in-Some.is c.next.ensures.steps in
    rw (length_push c.characters.yielded c.in-Some.c)
    (spaced_more (chars c.args.text.now) _ _ _ _ c.in-Some.c c.characters.in_run _ _ turn c.characters.invariant c.spaced.ensures
    c.is_white_space-in_run.ensures c.in_ok-push_some.ensures)

pub returns : goal.returns
returns c =
    let end = YieldsList-end (YieldsList-from_chars c.args.text.now c.utf8.text cc) c.characters.yielded _ c.characters.yielded_by _ _ c.in-None.is
    c.next.ensures.steps in
    spaced_end (chars c.args.text.now) _ _ c.characters.in_run _ end.1 c.characters.invariant
