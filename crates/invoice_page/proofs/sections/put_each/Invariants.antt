use Rattle.std.proofs.Common.{take, map}
use Rattle.std.specs.List.{flat_map}
use Rattle.inv_base.specs.Printing.{Prints}
use Rattle.page_tables.specs.Tables.{section_lent}
use Rattle.invoice_page.specs.Page.{section_text}
use Rattle.page_values.specs.Seen.{seen}
use Rattle.invoice_page.proofs.sections.put_each.Given as goal

-- the sections so far
abbrev pub invariant-sections : goal.invariant-sections
invariant-sections g l = Prints (flat_map (section_text (seen l.place)) (map section_lent (take l.section-index l.sections)))
    l.initial.pen.printer.failed l.pen.printer.failed (g.K.Sink.view l.initial.out) (g.K.Sink.view l.out)
