use Rattle.std.proofs.Common.{◌∙◌, sym}
use Rattle.bind_seats.proofs.AttributeLemmas.{spelled-some, spelled-none}
use Rattle.bind_seats.proofs.currencies.is_currency_name.Goals as goal

pub returns-then-eq : goal.returns-then-eq
returns-then-eq c = spelled-some c.args.uri.now c.args.local.now c.utf8.uri c.utf8.local c.is_empty.result c.is_empty.ensures (sym c.eq.ensures ∙ c.if-eq.true)

pub returns-else-eq : goal.returns-else-eq
returns-else-eq c = spelled-none c.args.uri.now c.args.local.now c.utf8.local (sym c.eq.ensures ∙ c.if-eq.false)
