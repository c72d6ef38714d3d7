use Rattle.std.proofs.Common.{ap, sym, ◌∙◌, ℕ, [], None, Some, drop, length, ◌+◌, Option, chars}
use Rattle.std.proofs.lemmas.Str.{chars-nil}
use Rattle.xpath_values.proofs.finding.behind.Goals as goal

pub returns-in-None : goal.returns-in-None
returns-in-None c = chars-nil ∙ sym (ap (λ (o : Option ℕ). elim o [ None ↦ [] | Some n ↦ drop (n + length (chars c.args.piece.now)) (chars c.args.text.now) ])
    c.in-None.ensures)
