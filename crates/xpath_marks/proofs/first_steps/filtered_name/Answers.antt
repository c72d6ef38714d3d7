use Rattle.std.proofs.Common.{◌∙◌, sym}
use Rattle.xpath_marks.proofs.AloneLemmas.{filtered_yes, filtered_no, some_so}
use Rattle.xpath_marks.proofs.first_steps.filtered_name.Goals as goal

pub returns-then-is_filter-clause-name : goal.returns-then-is_filter-clause-name
returns-then-is_filter-clause-name c = c.step_name.ensures.name ∙ sym (filtered_yes c.args.kind.now c.args.first.now (sym c.if-is_filter.ensures))

pub returns-then-is_filter-clause-filter : goal.returns-then-is_filter-clause-filter
returns-then-is_filter-clause-filter c = some_so c.step_name.result (sym c.if-is_filter.ensures)

pub returns-else-is_filter-clause-name : goal.returns-else-is_filter-clause-name
returns-else-is_filter-clause-name c = sym (filtered_no c.args.kind.now c.args.first.now (sym c.if-is_filter.ensures))
