use Rattle.std.proofs.Common.{refl, sym, ap, ◌∙◌, ◌&&◌}
use Rattle.std.specs.Prelude.{codes, not, bytes_eq}
use Rattle.std.specs.Str.{chars}
use Rattle.inv_terms.specs.Values.{trimmed}
use Rattle.bind_terms.proofs.Literals.{same-literal}
use Rattle.bind_terms.proofs.checks.is_other.Goals as goal

pub returns-then-not-is_blank : goal.returns-then-not-is_blank
returns-then-not-is_blank c =
    ap not (same-literal _ _ (trimmed (chars c.args.text.now)) (codes "102") refl c.is_same_text.ensures c.trimmed.ensures)
    ∙ ap (λ b. not b && not (bytes_eq (trimmed (chars c.args.text.now)) (codes "102"))) (sym c.if-not-is_blank.true ∙ c.is_blank.ensures)
