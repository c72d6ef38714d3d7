use Rattle.std.proofs.Common.{◌++◌, chars, ap, ◌∙◌}
use Rattle.std.proofs.lemmas.Iterator.{YieldsList-from_chars}
use Rattle.std.proofs.lemmas.Iterator.Consumers.{YieldsList-turn, YieldsList-end}
use Rattle.std.proofs.lemmas.List.{length_push}
use Rattle.std.proofs.lemmas.Str.{chars-nil}
use Rattle.xpath_meaning.specs.Texts.{translated}
use Rattle.xpath_values.proofs.CharacterLemmas.{translated_more, translated_end}
use Rattle.xpath_values.proofs.translating.translated_by.Goals as goal

pub characters-init : goal.characters-init
characters-init c = λ from to t. ap (λ x. x ++ translated (chars c.args.text.now) from to) (ap chars c.new-out.ensures.bytes ∙ chars-nil)

pub characters-preserved : goal.characters-preserved
characters-preserved c = λ from to t.
    let turn = YieldsList-turn (YieldsList-from_chars c.args.text.now c.utf8.text cc) c.characters.yielded _ c.characters.yielded_by _ _ c.in-Some.c
    c.in-Some.is c.next.ensures.steps in
    rw (length_push c.characters.yielded c.in-Some.c)
    (translated_more from to (chars c.args.text.now) _ _ _ _ c.in-Some.c _ turn (c.characters.invariant from to t)
    (c.looked_up.ensures ∙ t c.in-Some.c) c.in_ok-push_some.ensures)

pub returns : goal.returns
returns c = λ from to t.
    let end = YieldsList-end (YieldsList-from_chars c.args.text.now c.utf8.text cc) c.characters.yielded _ c.characters.yielded_by _ _ c.in-None.is
    c.next.ensures.steps in
    translated_end from to (chars c.args.text.now) _ _ _ end.1 (c.characters.invariant from to t)
