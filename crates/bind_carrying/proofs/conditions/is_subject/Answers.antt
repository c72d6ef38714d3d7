use Rattle.std.proofs.Common.{◌≡◌, ◌&&◌, ◌+◌, true, false, length, drop, chars, ap, sym, ◌∙◌, arith}
use Rattle.std.proofs.lemmas.Iterator.{YieldsList-from_chars}
use Rattle.std.proofs.lemmas.Iterator.Consumers.{YieldsList-turn, YieldsList-end}
use Rattle.std.proofs.lemmas.List.{length_push}
use Rattle.bind_carrying.specs.Notes.{subject_from, fits_subject}
use Rattle.bind_carrying.proofs.NoteLemmas.{subject-whole, subject-turn, subject-end, subject-bound}
use Rattle.bind_carrying.proofs.conditions.is_subject.Goals as goal

pub characters-init : goal.characters-init
characters-init c = record { same = subject-whole (chars c.args.text.now); within = omega arith }

pub returns-then-not-fits_subject : goal.returns-then-not-fits_subject
returns-then-not-fits_subject c =
    let turn = YieldsList-turn (YieldsList-from_chars c.args.text.now c.utf8.text cc) c.characters.yielded _ c.characters.yielded_by _ _ c.in-Some.c
    c.in-Some.is c.next.ensures.steps in
    let no : fits_subject c.characters.place c.in-Some.c ≡ false = sym c.fits_subject.ensures ∙ c.if-not-fits_subject.true in
    sym (ap (λ x. x && subject_from (c.characters.place + 1) (drop (length c.characters.yielded + 1) (chars c.args.text.now))) no)
    ∙ (sym (subject-turn _ _ _ c.characters.place turn) ∙ c.characters.invariant.same)

pub characters-preserved : goal.characters-preserved
characters-preserved c =
    let turn = YieldsList-turn (YieldsList-from_chars c.args.text.now c.utf8.text cc) c.characters.yielded _ c.characters.yielded_by _ _ c.in-Some.c
    c.in-Some.is c.next.ensures.steps in
    let yes : fits_subject c.characters.place c.in-Some.c ≡ true = sym c.fits_subject.ensures ∙ c.if-not-fits_subject.false in
    let bound = subject-bound c.characters.place c.in-Some.c yes in
    record {
      same = ap (λ n. subject_from (c.characters.place + 1) (drop n (chars c.args.text.now))) (length_push c.characters.yielded c.in-Some.c)
          ∙ (sym (ap (λ x. x && subject_from (c.characters.place + 1) (drop (length c.characters.yielded + 1) (chars c.args.text.now))) yes)
          ∙ (sym (subject-turn _ _ _ c.characters.place turn) ∙ c.characters.invariant.same));
      within = omega arith;
    }

pub returns : goal.returns
returns c =
    let end = YieldsList-end (YieldsList-from_chars c.args.text.now c.utf8.text cc) c.characters.yielded _ c.characters.yielded_by _ _ c.in-None.is
    c.next.ensures.steps in
    sym (subject-end (chars c.args.text.now) (length c.characters.yielded) c.characters.place (let e = end.1 in omega arith)) ∙ c.characters.invariant.same
