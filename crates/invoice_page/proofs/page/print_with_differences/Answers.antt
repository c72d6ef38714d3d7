use Rattle.std.proofs.Common.{subst}
use Rattle.inv_base.specs.Printing.{Printed}
use Rattle.term_table.specs.Contexts.{root_context}
use Rattle.invoice_page.specs.Page.{page, page_of}
use Rattle.invoice_page.proofs.page.print_with_differences.Goals as goal

pub returns : goal.returns
unfolding page
returns g c =
    subst (λ text. Printed c.print_at.result text (g.K.Sink.view c.args.out.now) (g.K.Sink.view c.print_at.new.out))
    (λ k. page_of (record { entries = c.entries.ensures.entries k; context = root_context; sizes = c.requires.sizes k }) c.args.passed_over (c.requires.found
    k))
    c.print_at.ensures
