use Rattle.std.proofs.Common.{chars, refl, sym, ◌∙◌}
use Rattle.std.specs.Prelude.{codes}
use Rattle.bind_said.proofs.WordLemmas.{like-literal, word-for-false, word-for-true, word-for-tax, no-other-word}
use Rattle.bind_said.proofs.words.is_other_word.Goals as goal

pub returns-then-is_same_text : goal.returns-then-is_same_text
returns-then-is_same_text c = word-for-false (chars c.args.text.now) (chars c.args.word.now) _
    (sym (like-literal _ (chars c.args.text.now) (codes "false") refl c.is_same_text.ensures) ∙ c.if-is_same_text.true)
    (like-literal _ (chars c.args.word.now) (codes "0") refl c.is_same_text-then-is_same_text.ensures)

pub returns-then-is_same_text-2 : goal.returns-then-is_same_text-2
returns-then-is_same_text-2 c = word-for-true (chars c.args.text.now) (chars c.args.word.now) _
    (sym (like-literal _ (chars c.args.text.now) (codes "false") refl c.is_same_text.ensures) ∙ c.if-is_same_text.false)
    (sym (like-literal _ (chars c.args.text.now) (codes "true") refl c.is_same_text-2.ensures) ∙ c.if-is_same_text-2.true)
    (like-literal _ (chars c.args.word.now) (codes "1") refl c.is_same_text-then-is_same_text-2.ensures)

pub returns-then-is_same_text-3 : goal.returns-then-is_same_text-3
returns-then-is_same_text-3 c = word-for-tax (chars c.args.text.now) (chars c.args.word.now) _
    (sym (like-literal _ (chars c.args.text.now) (codes "false") refl c.is_same_text.ensures) ∙ c.if-is_same_text.false)
    (sym (like-literal _ (chars c.args.text.now) (codes "true") refl c.is_same_text-2.ensures) ∙ c.if-is_same_text-2.false)
    (sym (like-literal _ (chars c.args.text.now) (codes "TAX") refl c.is_same_text-3.ensures) ∙ c.if-is_same_text-3.true)
    (like-literal _ (chars c.args.word.now) (codes "FC") refl c.is_same_text-then-is_same_text-3.ensures)

pub returns : goal.returns
returns c = no-other-word (chars c.args.text.now) (chars c.args.word.now)
    (sym (like-literal _ (chars c.args.text.now) (codes "false") refl c.is_same_text.ensures) ∙ c.if-is_same_text.false)
    (sym (like-literal _ (chars c.args.text.now) (codes "true") refl c.is_same_text-2.ensures) ∙ c.if-is_same_text-2.false)
    (sym (like-literal _ (chars c.args.text.now) (codes "TAX") refl c.is_same_text-3.ensures) ∙ c.if-is_same_text-3.false)
