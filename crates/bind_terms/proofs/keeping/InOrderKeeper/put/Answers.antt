use Rattle.std.proofs.Common.{sym, ◌∙◌}
use Rattle.bind_terms.proofs.Gathering.{puts-known, puts-new}
use Rattle.bind_terms.proofs.keeping.InOrderKeeper.put.Goals as goal

pub returns-then-has_first : goal.returns-then-has_first
returns-then-has_first c = puts-known c.args.self.now.kept.entries c.args.found (sym c.has_first.ensures ∙ c.if-has_first.true)

pub returns : goal.returns
returns c =
    puts-new _ c.spots_are_ordered.ensures c.args.self.now.kept.entries c.insert.new.self.entries c.args.found
    (sym c.has_first.ensures ∙ c.if-has_first.false) c.in_ok-insert.ensures.entries
