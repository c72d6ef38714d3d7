use Rattle.std.proofs.Common.{◌≡◌, drop}
use Rattle.std.specs.List.{list_any}
use Rattle.xsd_pattern.specs.Classes.{is_member}
use Rattle.xsd_pattern.proofs.classes.is_any_member.Given as goal

abbrev pub invariant-members : goal.invariant-members
invariant-members l = list_any (is_member l.c) (drop l.member-index l.members) ≡ list_any (is_member l.c) l.members
