use Rattle.std.proofs.Common.{◌≡◌, ℕ, ◌<◌, true}
use Rattle.schematron_graph.specs.Rules.{bodies_of, body_of}
use Rattle.schematron_graph.specs.Back.{all_fall, label_of}
use Rattle.schematron_graph.proofs.back.never_rise.Given as goal

-- the rules so far pass
abbrev pub invariant-rules : goal.invariant-rules
invariant-rules l = (rule : ℕ) → rule < l.rule → all_fall l.labels (label_of l.labels rule) (body_of (bodies_of l.rules) rule) ≡ true
