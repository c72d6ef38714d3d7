use Rattle.std.proofs.Common.{ap, ◌∙◌, chars}
use Rattle.std.specs.Prelude.{bytes_eq}
use Rattle.inv_terms.proofs.SpellLemmas.{same_text}
use Rattle.bind_write.proofs.WordLemmas.{chars-word}
use Rattle.bind_carrying.proofs.tables.is_word.Goals as goal

pub returns : goal.returns
returns c =
    c.eq.ensures ∙ (same_text c.args.word.now c.args.text.now c.utf8.word c.utf8.text ∙
    ap (λ x. bytes_eq x (chars c.args.text.now)) (chars-word c.args.word.now c.requires))
