use Rattle.std.proofs.Common.{ap, ◌∙◌, chars}
use Rattle.std.specs.Prelude.{bytes_eq}
use Rattle.inv_terms.proofs.SpellLemmas.{same_text}
use Rattle.inv_terms.proofs.values.is_same_text.Goals as goal

pub returns : goal.returns
returns c =
    c.eq.ensures ∙ (same_text c.as_str.result.now c.as_str-2.result.now c.as_str.utf8 c.as_str-2.utf8
    ∙ (ap (λ x. bytes_eq x (chars c.as_str-2.result.now)) c.as_str.ensures ∙ ap (bytes_eq c.args.a.now) c.as_str-2.ensures))
