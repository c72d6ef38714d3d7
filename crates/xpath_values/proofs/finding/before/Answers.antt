use Rattle.std.proofs.Common.{ap, sym, ◌∙◌, ℕ, [], None, Some, take, Option, chars}
use Rattle.std.proofs.lemmas.Str.{chars-nil}
use Rattle.xpath_values.proofs.finding.before.Goals as goal

pub returns-in-None : goal.returns-in-None
returns-in-None c = chars-nil ∙ sym (ap (λ (o : Option ℕ). elim o [ None ↦ [] | Some n ↦ take n (chars c.args.text.now) ]) c.in-None.ensures)
