use Rattle.std.proofs.Common.{◌≡◌, length, drop, true}
use Rattle.std.specs.Str.{chars}
use Rattle.xsd_pattern.specs.Steps.{ran, has_at}
use Rattle.xsd_pattern.proofs.going.go_over.Given as goal

abbrev pub invariant-text : goal.invariant-text
invariant-text l = record {
  whole : ran (has_at l.tokens) l.steps l.first l.marks l.answer (drop (length l.yielded) (chars l.text)) ≡ ran
      (has_at l.tokens) l.steps true l.initial.marks l.fn.empty (chars l.text);
  same : length l.marks ≡ length l.steps;
}
