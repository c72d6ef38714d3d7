use Rattle.std.proofs.Common.{List, ℕ, bytes_eq, ap, ◌∙◌}
use Rattle.rule_library.proofs.files.has_name.Goals as goal

pub returns : goal.returns
returns c = c.eq.ensures ∙ ap (λ (n : List ℕ). bytes_eq n c.args.name.now) c.name.ensures
