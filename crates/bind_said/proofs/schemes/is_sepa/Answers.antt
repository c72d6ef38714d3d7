use Rattle.std.proofs.Common.{chars, refl, ap, ◌∙◌}
use Rattle.std.specs.Prelude.{bytes_eq}
use Rattle.bind_meaning.specs.Said.{sepa}
use Rattle.bind_said.proofs.WordLemmas.{literal}
use Rattle.bind_said.proofs.schemes.is_sepa.Goals as goal

pub returns : goal.returns
returns c = c.is_same_text.ensures ∙ ap (λ t. bytes_eq t (chars c.args.text.now)) (literal sepa refl)
