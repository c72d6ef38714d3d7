use Rattle.std.proofs.Common.{◌≡◌, take}
use Rattle.xpath_plan.proofs.forms.copied.Given as goal

abbrev pub invariant-signs : goal.invariant-signs
invariant-signs l = l.copied ≡ take l.sign-index l.signs
