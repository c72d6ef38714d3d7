use Rattle.std.proofs.Common.{◌≡◌, ◌≤◌, drop, length, chars, None}
use Rattle.xpath_meaning.specs.Meaning.{last_of}
use Rattle.xpath_steps.specs.Variables.{variables_of}
use Rattle.xpath_steps.proofs.variables.last_lent.Given as goal

abbrev pub invariant-variables : goal.invariant-variables
invariant-variables l = record {
  within : l.left ≤ length l.variables;
  none : last_of (chars l.name) (variables_of (drop l.left l.variables)) ≡ None;
}

abbrev pub decreases-variables : goal.decreases-variables
decreases-variables l = l.left
