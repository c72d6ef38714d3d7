use Rattle.std.proofs.Common.{refl, sym, ◌∙◌}
use Rattle.std.specs.Prelude.{codes}
use Rattle.std.specs.Str.{chars}
use Rattle.bind_terms.proofs.Literals.{same-literal, first-number, second-number}
use Rattle.bind_terms.proofs.words.is_number.Goals as goal

pub returns-then-is_same_text : goal.returns-then-is_same_text
returns-then-is_same_text c = first-number (chars c.args.word.now)
    (sym (same-literal _ _ (chars c.args.word.now) (codes "1") refl c.is_same_text.ensures refl) ∙ c.if-is_same_text.true)

pub returns : goal.returns
returns c =
    second-number (chars c.args.word.now) _ (sym (same-literal _ _ (chars c.args.word.now) (codes "1") refl c.is_same_text.ensures refl)
    ∙ c.if-is_same_text.false)
    (same-literal _ _ (chars c.args.word.now) (codes "0") refl c.is_same_text-2.ensures refl)
