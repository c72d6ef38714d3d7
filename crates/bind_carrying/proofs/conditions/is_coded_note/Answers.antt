use Rattle.std.proofs.Common.{◌≡◌, ◌&&◌, ◌+◌, true, false, length, drop, chars, ap, sym, ◌∙◌, arith}
use Rattle.std.proofs.lemmas.Iterator.{YieldsList-from_chars}
use Rattle.std.proofs.lemmas.Iterator.Consumers.{YieldsList-turn, YieldsList-end}
use Rattle.std.proofs.lemmas.List.{length_push}
use Rattle.bind_carrying.specs.Notes.{note_from, fits_note, next_place, full_at}
use Rattle.bind_carrying.proofs.NoteLemmas.{note-whole, note-turn, note-end}
use Rattle.bind_carrying.proofs.conditions.is_coded_note.Goals as goal

pub characters-init : goal.characters-init
characters-init c = note-whole (chars c.args.text.now)

pub returns-then-not-fits_note : goal.returns-then-not-fits_note
returns-then-not-fits_note c =
    let turn = YieldsList-turn (YieldsList-from_chars c.args.text.now c.utf8.text cc) c.characters.yielded _ c.characters.yielded_by _ _ c.in-Some.c
    c.in-Some.is c.next.ensures.steps in
    let no : fits_note c.characters.place c.in-Some.c ≡ false = sym c.fits_note.ensures ∙ c.if-not-fits_note.true in
    sym (ap (λ x. x && note_from (next_place c.characters.place) (full_at c.characters.place c.characters.is_full c.in-Some.c)
    (drop (length c.characters.yielded + 1) (chars c.args.text.now))) no)
    ∙ (sym (note-turn _ _ _ c.characters.place c.characters.is_full turn) ∙ c.characters.invariant)

pub characters-preserved : goal.characters-preserved
characters-preserved c =
    let turn = YieldsList-turn (YieldsList-from_chars c.args.text.now c.utf8.text cc) c.characters.yielded _ c.characters.yielded_by _ _ c.in-Some.c
    c.in-Some.is c.next.ensures.steps in
    let yes : fits_note c.characters.place c.in-Some.c ≡ true = sym c.fits_note.ensures ∙ c.if-not-fits_note.false in
    let rest = drop (length c.characters.yielded + 1) (chars c.args.text.now) in
    ap (λ n. note_from c.next_place-place.result c.full_at-is_full.result (drop n (chars c.args.text.now))) (length_push c.characters.yielded c.in-Some.c)
    ∙ (ap (λ p. note_from p c.full_at-is_full.result rest) c.next_place-place.ensures
    ∙ (ap (λ f. note_from (next_place c.characters.place) f rest) c.full_at-is_full.ensures
    ∙ (sym (ap (λ x. x && note_from (next_place c.characters.place) (full_at c.characters.place c.characters.is_full c.in-Some.c) rest) yes)
    ∙ (sym (note-turn _ _ _ c.characters.place c.characters.is_full turn) ∙ c.characters.invariant))))

pub returns : goal.returns
returns c =
    let end = YieldsList-end (YieldsList-from_chars c.args.text.now c.utf8.text cc) c.characters.yielded _ c.characters.yielded_by _ _ c.in-None.is
    c.next.ensures.steps in
    sym (note-end (chars c.args.text.now) (length c.characters.yielded) c.characters.place c.characters.is_full (let e = end.1 in omega arith)) ∙
    c.characters.invariant
