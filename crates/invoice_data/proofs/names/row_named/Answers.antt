use Rattle.std.proofs.Common.{◌≡◌, true, ◌++◌, ◌&&◌, find, map, sym, ap, ◌∙◌, subst, bytes_eq, List, Option}
use Rattle.term_table.specs.declared.terms.Term.{Term}
use Rattle.term_table.specs.declared.terms.TermRow.{TermRow}
use Rattle.term_table.specs.SemanticModel.{same_term, terms}
use Rattle.term_table.specs.Contexts.{has_context}
use Rattle.extension_files.specs.declared.terms.ExtTerm.{ExtTerm}
use Rattle.extension_files.specs.Extensions.{is_extension}
use Rattle.inv_listing.specs.Listing.{term_text}
use Rattle.term_table.specs.declared.contexts.Context.{Context}
use Rattle.invoice_data.specs.Guesses.{guessed}
use Rattle.invoice_data.specs.Names.{Source, row_named, added_row}
use Rattle.invoice_data.proofs.GuessLemmas.{AreGuessed, model_guessed, added_guessed, guessed_append}
use Rattle.invoice_data.proofs.FindLemmas.{find_named, find_unnamed}
use Rattle.invoice_data.proofs.names.row_named.Goals as goal

all_guessed : (added : List ExtTerm) → is_extension added ≡ true → AreGuessed (terms ++ map added_row added)
all_guessed added fine = guessed_append terms (map added_row added) model_guessed (added_guessed 0 added fine)

pub returns-then-not-is_name_of : goal.returns-then-not-is_name_of
unfolding row_named
returns-then-not-is_name_of c =
    sym (find_unnamed c.args.name.now c.args.room.place (terms ++ map added_row c.args.input.now.added)
    (all_guessed c.args.input.now.added (subst (λ (s : Source). is_extension s.added ≡ true) c.input.view_is c.input.invariant))
    (ap (λ (t : Term). bytes_eq (term_text t) c.args.name.now) (sym c.guessed-term.ensures)
    ∙ (sym c.is_name_of.ensures ∙ c.if-not-is_name_of.true)))

abbrev first_of : Term → Context → List TermRow → Option TermRow
first_of term place rows = find (λ (row : TermRow). same_term row.term term && has_context row.group place) rows

pub returns : goal.returns
unfolding row_named
returns c =
    let source = c.args.input.now in
    let fine = subst (λ (s : Source). is_extension s.added ≡ true) c.input.view_is c.input.invariant in
    let named = ap (λ (t : Term). bytes_eq (term_text t) c.args.name.now) (sym c.guessed-term.ensures)
    ∙ (sym c.is_name_of.ensures ∙ c.if-not-is_name_of.false) in
    c.row_in_room.ensures
    ∙ (ap (λ (t : Term). first_of t c.args.room.place (terms ++ map added_row c.input.inside.added.now)) c.guessed-term.ensures
    ∙ (ap (λ added. first_of (guessed c.args.name.now) c.args.room.place (terms ++ map added_row added))
    (ap (λ (s : Source). s.added) c.input.view_is)
    ∙ find_named c.args.name.now c.args.room.place (terms ++ map added_row source.added) (all_guessed source.added fine) named))
