use Rattle.std.proofs.Common.{◌&&◌, ap, ◌∙◌}
use Rattle.std.specs.List.{list_any}
use Rattle.term_table.specs.declared.terms.TermRow.{TermRow}
use Rattle.inv_terms.specs.Lacking.{is_around, shows_its_group, has_term}
use Rattle.inv_terms.proofs.missing.stands.Goals as goal

pub returns : goal.returns
returns g c =
    c.stands_among.ensures
    ∙ ap (list_any (λ (row : TermRow). is_around c.args.group row.group &&
    (shows_its_group row.term && has_term c.args.standing.now row.term))) c.term_rows.ensures
