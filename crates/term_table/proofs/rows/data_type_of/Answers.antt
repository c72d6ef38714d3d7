use Rattle.std.proofs.Common.{◌≤◌, sym, subst, ap, ◌∙◌, length}
use Rattle.term_table.specs.declared.terms.TheConstants.{TERMS}
use Rattle.term_table.specs.Numbers.{letter_from}
use Rattle.term_table.proofs.TermLemmas.{first_fits, letter_from-is}
use Rattle.term_table.proofs.rows.data_type_of.Goals as goal

pub letter_from-requires : goal.letter_from-requires
letter_from-requires c = subst (λ first. first ≤ length TERMS) (sym c.first_of.ensures) (first_fits c.args.term.number)

pub returns : goal.returns
returns c =
    c.letter_from.ensures
    ∙ (ap (λ first. letter_from TERMS first c.args.term) c.first_of.ensures ∙ letter_from-is c.args.term)
