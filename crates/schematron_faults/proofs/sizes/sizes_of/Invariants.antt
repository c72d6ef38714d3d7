use Rattle.std.proofs.Common.{nat_eq, take}
use Rattle.indexmap.specs.IndexMap.{get}
use Rattle.schematron_entries.specs.Seen.{seen_entries}
use Rattle.schematron_faults.specs.Stopped.{AreSizes}
use Rattle.schematron_faults.proofs.sizes.sizes_of.Given as goal

-- the rules so far are counted
abbrev pub invariant-places : goal.invariant-places
invariant-places l = AreSizes (λ n. get nat_eq l.sizes n) l.file (take l.at (seen_entries l.entries))
