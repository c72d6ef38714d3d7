use Rattle.std.proofs.Common.{take}
use Rattle.std.specs.List.{flat_map}
use Rattle.invoice_page.specs.Page.{difference_row}
use Rattle.page_layouts.specs.Streaming.{Shows, head_lent}
use Rattle.invoice_page.proofs.differing.put_difference_rows.Given as goal

-- the rows so far
abbrev pub invariant-differences : goal.invariant-differences
invariant-differences g l = Shows (head_lent l.head) (flat_map difference_row (take l.difference-index l.differences)) l.initial.pen l.pen
    (g.K.Sink.view l.initial.out) (g.K.Sink.view l.out)
