use Rattle.std.proofs.Common.{◌++◌, get_or, sym, ap, ◌∙◌}
use Rattle.term_table.specs.Contexts.{root_context}
use Rattle.inv_totals.specs.Totals.{difference, at_root_of, root_numbers}
use Rattle.inv_totals.proofs.CompareLemmas.{found-append, root-more}
use Rattle.inv_totals.proofs.comparing.compare_root.Goals as goal

pub numbers-preserved : goal.numbers-preserved
numbers-preserved c =
    found-append c.args.found.now c.numbers.found c.compare.new.found _ _ c.numbers.invariant
    (c.in_ok-compare.ensures ∙ ap (λ n. c.numbers.found ++ difference c.args.i.now root_context
    (get_or root_numbers c.numbers.number-index 0) n) c.computed_at_root.ensures)
    ∙ ap (λ x. c.args.found.now ++ x) (sym (root-more (at_root_of c.args.i.now) root_numbers c.numbers.number-index c.numbers-test.true))
