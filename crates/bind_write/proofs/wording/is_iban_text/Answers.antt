use Rattle.std.proofs.Common.{◌≡◌, ◌&&◌, ◌+◌, true, false, length, drop, chars, ap, sym, ◌∙◌, arith}
use Rattle.std.proofs.lemmas.Iterator.{YieldsList-from_chars}
use Rattle.std.proofs.lemmas.Iterator.Consumers.{YieldsList-turn, YieldsList-end}
use Rattle.std.proofs.lemmas.List.{length_push}
use Rattle.bind_write.specs.Wordings.{iban_from, fits_iban}
use Rattle.bind_write.proofs.WordLemmas.{iban-whole, iban-turn, iban-end, fits-bound}
use Rattle.bind_write.proofs.wording.is_iban_text.Goals as goal

pub characters-init : goal.characters-init
characters-init c = record { same = iban-whole (chars c.args.text.now); within = omega arith }

pub returns-then-not-fits_iban : goal.returns-then-not-fits_iban
returns-then-not-fits_iban c =
    let turn = YieldsList-turn (YieldsList-from_chars c.args.text.now c.utf8.text cc) c.characters.yielded _ c.characters.yielded_by _ _ c.in-Some.c
    c.in-Some.is c.next.ensures.steps in
    let no : fits_iban c.characters.place c.in-Some.c ≡ false = sym c.fits_iban.ensures ∙ c.if-not-fits_iban.true in
    sym (ap (λ x. x && iban_from (c.characters.place + 1) (drop (length c.characters.yielded + 1) (chars c.args.text.now))) no)
    ∙ (sym (iban-turn _ _ _ c.characters.place turn) ∙ c.characters.invariant.same)

pub characters-preserved : goal.characters-preserved
characters-preserved c =
    let turn = YieldsList-turn (YieldsList-from_chars c.args.text.now c.utf8.text cc) c.characters.yielded _ c.characters.yielded_by _ _ c.in-Some.c
    c.in-Some.is c.next.ensures.steps in
    let yes : fits_iban c.characters.place c.in-Some.c ≡ true = sym c.fits_iban.ensures ∙ c.if-not-fits_iban.false in
    let bound = fits-bound c.characters.place c.in-Some.c yes in
    record {
      same = ap (λ n. iban_from (c.characters.place + 1) (drop n (chars c.args.text.now))) (length_push c.characters.yielded c.in-Some.c)
          ∙ (sym (ap (λ x. x && iban_from (c.characters.place + 1) (drop (length c.characters.yielded + 1) (chars c.args.text.now))) yes)
          ∙ (sym (iban-turn _ _ _ c.characters.place turn) ∙ c.characters.invariant.same));
      within = omega arith;
    }

pub returns : goal.returns
returns c =
    let end = YieldsList-end (YieldsList-from_chars c.args.text.now c.utf8.text cc) c.characters.yielded _ c.characters.yielded_by _ _ c.in-None.is
    c.next.ensures.steps in
    sym (iban-end (chars c.args.text.now) (length c.characters.yielded) c.characters.place (let e = end.1 in omega arith)) ∙ c.characters.invariant.same
