use Rattle.std.proofs.Common.{◌≡◌, map, drop}
use Rattle.page_tables.specs.Tables as tables
use Rattle.page_values.specs.Parts as spec
use Rattle.page_values.specs.Seen.{seen}
use Rattle.page_values.proofs.parts.any_stands.Given as goal

abbrev pub invariant-parts : goal.invariant-parts
invariant-parts l = spec.any_stands (seen l.place) (map tables.part_lent (drop l.part-index l.parts)) ≡ spec.any_stands (seen l.place)
    (map tables.part_lent l.parts)
