use Rattle.std.proofs.Common.{sym, ◌∙◌}
use Rattle.xpath_syntax.proofs.Closing.{close-end, close-step}
use Rattle.xpath_syntax.proofs.behind.close.Goals as goal

pub frames-preserved : goal.frames-preserved
frames-preserved c = close-step _ _ _ _ _ _ (sym c.is_closed.ensures ∙ c.frames-test.true) c.in-Some.ensures c.in-Ok.ensures ∙ c.frames.invariant

pub returns : goal.returns
returns c = sym c.frames.invariant ∙ close-end _ _ _ (sym c.is_closed.ensures ∙ c.frames-test.false)
