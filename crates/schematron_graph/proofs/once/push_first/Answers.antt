use Rattle.std.proofs.Common.{sym, ◌∙◌}
use Rattle.schematron_graph.proofs.OnceLemmas.{first-new, not-true}
use Rattle.schematron_graph.proofs.once.push_first.Goals as goal

pub returns-in_ok-push : goal.returns-in_ok-push
returns-in_ok-push c =
    first-new c.args.told.now.keys c.insert.new.self.keys c.args.found.now.items c.push.new.self.items c.args.thing
    (not-true _ (sym c.in_ok-insert.ensures.added ∙ c.if-branch.true)) c.in_ok-insert.ensures.updates.0 c.in_ok-push.ensures.items
