use Rattle.std.proofs.Common.{ap, sym, ◌∙◌, ◌&&◌}
use Rattle.std.specs.List.{list_all}
use Rattle.bind_write.specs.Sources.{has_plain_attribute}
use Rattle.laid_tables.proofs.FlatLemmas.{laid-table}
use Rattle.laid_tables.proofs.tables.can_be_written.Goals as goal

pub returns-then-branch : goal.returns-then-branch
returns-then-branch c =
    c.have_plain_attributes.ensures ∙ (ap (list_all has_plain_attribute) c.rows.ensures
    ∙ ap (λ x. x && list_all has_plain_attribute c.args.table.now)
    (sym c.if-branch.true ∙ (c.in_ok-are_laid.ensures ∙ laid-table c.args.table.now c.lines.result.now c.lines.ensures)))

pub returns-else-branch : goal.returns-else-branch
returns-else-branch c =
    ap (λ x. x && list_all has_plain_attribute c.args.table.now)
    (sym c.if-branch.false ∙ (c.in_ok-are_laid.ensures ∙ laid-table c.args.table.now c.lines.result.now c.lines.ensures))
