use Rattle.std.proofs.Common.{◌≡◌, length}
use Rattle.invoice_data.specs.Parts.{parts}
use Rattle.invoice_data.specs.Told.{both}
use Rattle.invoice_data.specs.Members.{members_told}
use Rattle.invoice_data.proofs.members.tell_each.Given as goal

-- what was told, and what the rest tells, are what all tell
abbrev pub invariant-members : goal.invariant-members
invariant-members g l =
    both l.telling (members_told g.A.Arrays.told l.input l.room l.seen.items (parts l.rest))
    ≡ both l.initial.telling (members_told g.A.Arrays.told l.input l.room l.initial.seen.items (parts l.items))

abbrev pub decreases-members : goal.decreases-members
decreases-members g l = length l.rest
