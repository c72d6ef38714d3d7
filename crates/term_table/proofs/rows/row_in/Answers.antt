use Rattle.std.proofs.Common.{◌≤◌, sym, subst, ap, ◌∙◌, length}
use Rattle.term_table.specs.declared.terms.TheConstants.{TERMS}
use Rattle.term_table.specs.Numbers.{row_from}
use Rattle.term_table.proofs.TermLemmas.{first_fits, row_from-is}
use Rattle.term_table.proofs.ExtensionLemmas.{extension-row_is, modelled-row_is}
use Rattle.term_table.proofs.rows.row_in.Goals as goal

pub row_from-requires : goal.row_from-requires
row_from-requires c = subst (λ first. first ≤ length TERMS) (sym c.first_of.ensures) (first_fits c.args.term.number)

pub returns-then-is_extension : goal.returns-then-is_extension
returns-then-is_extension c = c.extension_row.ensures ∙ extension-row_is c.args.term c.args.outer c.args.inner
    (sym c.is_extension.ensures ∙ c.if-is_extension.true)

pub returns : goal.returns
returns c =
    c.row_from.ensures
    ∙ (ap (λ first. row_from TERMS first c.args.term c.args.outer c.args.inner) c.first_of.ensures
    ∙ (row_from-is c.args.term c.args.outer c.args.inner ∙
    modelled-row_is c.args.term c.args.outer c.args.inner (sym c.is_extension.ensures ∙ c.if-is_extension.false)))
