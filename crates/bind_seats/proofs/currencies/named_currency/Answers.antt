use Rattle.std.proofs.Common.{sym, ◌∙◌}
use Rattle.bind_seats.proofs.TableLemmas.{first_node-within}
use Rattle.bind_seats.proofs.currencies.named_currency.Goals as goal

pub trimmed_string-requires : goal.trimmed_string-requires
trimmed_string-requires g c = first_node-within _ c.args.term 1 c.args.input.now.rows.now c.args.picks.now c.in-Some.n c.requires
    (sym c.first_node.ensures ∙ c.in-Some.is)
