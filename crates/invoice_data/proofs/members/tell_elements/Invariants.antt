use Rattle.std.proofs.Common.{◌≡◌, length}
use Rattle.invoice_data.specs.Parts.{parts}
use Rattle.invoice_data.specs.Told.{both}
use Rattle.invoice_data.specs.Members.{elements_told, no_numbers}
use Rattle.invoice_data.proofs.members.tell_elements.Given as goal

-- what was told, and what the rest tells, are what all tell
abbrev pub invariant-elements : goal.invariant-elements
invariant-elements g l =
    both l.telling (elements_told g.A.Arrays.told l.input l.room l.group l.numbers (parts l.rest))
    ≡ both l.initial.telling (elements_told g.A.Arrays.told l.input l.room l.group no_numbers (parts l.items))

abbrev pub decreases-elements : goal.decreases-elements
decreases-elements g l = length l.rest
