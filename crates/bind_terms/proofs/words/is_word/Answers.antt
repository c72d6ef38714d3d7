use Rattle.std.proofs.Common.{[], ◌∷◌, refl, sym, ap, ◌∙◌}
use Rattle.std.specs.Prelude.{codes}
use Rattle.std.specs.Str.{chars}
use Rattle.inv_terms.specs.Values.{trimmed}
use Rattle.bind_meaning.specs.Elements.{is_one_of}
use Rattle.bind_terms.proofs.Literals.{same-literal, first-word, second-word, later-word}
use Rattle.bind_terms.proofs.words.is_word.Goals as goal

pub returns-then-is_same_text : goal.returns-then-is_same_text
returns-then-is_same_text c =
    first-word (trimmed (chars c.args.text.now))
    (sym (same-literal _ _ (trimmed (chars c.args.text.now)) (codes "true") refl c.is_same_text.ensures c.trimmed-word.ensures) ∙ c.if-is_same_text.true)

pub returns-then-is_same_text-2 : goal.returns-then-is_same_text-2
returns-then-is_same_text-2 c =
    second-word (trimmed (chars c.args.text.now))
    (sym (same-literal _ _ (trimmed (chars c.args.text.now)) (codes "true") refl c.is_same_text.ensures c.trimmed-word.ensures) ∙ c.if-is_same_text.false)
    (sym (same-literal _ _ (trimmed (chars c.args.text.now)) (codes "false") refl c.is_same_text-2.ensures c.trimmed-word.ensures) ∙ c.if-is_same_text-2.true)

pub returns : goal.returns
returns c =
    c.is_number.ensures
    ∙ (ap (is_one_of (codes "1" ∷ codes "0" ∷ [])) c.trimmed-word.ensures
    ∙ later-word (trimmed (chars c.args.text.now))
    (sym (same-literal _ _ (trimmed (chars c.args.text.now)) (codes "true") refl c.is_same_text.ensures c.trimmed-word.ensures) ∙ c.if-is_same_text.false)
    (sym (same-literal _ _ (trimmed (chars c.args.text.now)) (codes "false") refl c.is_same_text-2.ensures c.trimmed-word.ensures) ∙ c.if-is_same_text-2.false))
