use Rattle.std.proofs.Common.{◌≡◌, map, drop}
use Rattle.std.specs.List.{list_any}
use Rattle.schematron_expansion.specs.Seen.{seen_instance}
use Rattle.schematron_faults.specs.Again.{is_use}
use Rattle.schematron_faults.proofs.patterns.is_used.Given as goal

abbrev pub invariant-earlier : goal.invariant-earlier
invariant-earlier l = list_any (is_use l.body l.at) (map seen_instance (drop l.one-index l.earlier)) ≡ list_any (is_use l.body l.at)
    (map seen_instance l.earlier)
