use Rattle.std.proofs.Common.{◌∙◌}
use Rattle.std.specs.Str.{chars}
use Rattle.bind_terms.specs.ParsedValues.{all_parsed}
use Rattle.bind_terms.proofs.Pass.{parsed_values-placed, tells-by-row}
use Rattle.bind_terms.specs.Inputs.{currency_of, nodes_of}
use Rattle.bind_terms.proofs.telling.tell_row.Goals as goal

pub tell_all-requires-clause-placed : goal.tell_all-requires-clause-placed
tell_all-requires-clause-placed g c =
    parsed_values-placed (nodes_of c.args.input.now) c.args.rowed.now.pick.now c.args.rowed.now.row.now
    c.in-Term.term (all_parsed c.in_ok-parsed_values-in-Term.parsed_values) (chars c.as_str.result.now)
    c.in-Term.is c.in_ok-parsed_values-in-Term.ensures (c.as_str.ensures ∙ c.in_ok-string-in-Term.ensures.string) c.requires.placed

pub returns-in_ok-parsed_values-in-Term : goal.returns-in_ok-parsed_values-in-Term
returns-in_ok-parsed_values-in-Term g c =
    tells-by-row c.tell_all.result (nodes_of c.args.input.now) c.args.input.now.lists.now
    (currency_of c.args.input.now) c.args.rowed.now.pick.now c.args.rowed.now.row.now
    c.in-Term.term (all_parsed c.in_ok-parsed_values-in-Term.parsed_values) (chars c.as_str.result.now) _ _ _ _
    c.in-Term.is c.in_ok-parsed_values-in-Term.ensures (c.as_str.ensures ∙ c.in_ok-string-in-Term.ensures.string)
    c.tell_all.ensures
