use Rattle.std.proofs.Common.{◌≡◌, ◌++◌, List, ℕ, map, drop}
use Rattle.page_tables.specs.Tables as tables
use Rattle.page_values.specs.Parts as spec
use Rattle.page_values.specs.Seen.{seen}
use Rattle.inv_base.specs.Printing.{Prints}
use Rattle.page_values.proofs.parts.put_parts.Given as goal

abbrev pub invariant-parts : goal.invariant-parts
invariant-parts g l = (done : List ℕ) × (done ++ spec.parts_behind l.behind (seen l.place) (map tables.part_lent (drop l.part-index l.parts))
    ≡ spec.parts_text (seen l.place) (map tables.part_lent l.parts))
    × Prints done l.initial.printer.failed l.printer.failed (g.K.Sink.view l.initial.out) (g.K.Sink.view l.out)
