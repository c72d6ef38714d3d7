use Rattle.std.proofs.Common.{◌∙◌, sym, ap, length}
use Rattle.xpath_syntax.proofs.Running.{run-from, run-more, one-less, run-refused, run-ended}
use Rattle.xpath_syntax.proofs.steps.parsed.Goals as goal

pub tokens-init : goal.tokens-init
tokens-init c = let gives = c.into_iter-token-iterator.ensures.into_iter_gives in
    (run-from _ _ _ gives.0 c.new-stack.ensures, gives.1 ∙ c.args.tokens.ok.0 ∙ sym (ap length gives.0))

pub tokens-preserved : goal.tokens-preserved
tokens-preserved c = (
  run-more _ _ _ _ _ _ _ _ c.in-Some.ensures.steps.0 c.in-Ok.ensures c.tokens.invariant.0,
  one-less _ _ _ _ _ c.in-Some.ensures.steps.0 c.in-Some.ensures.steps.1 c.tokens.invariant.1,
)

pub returns-in-Err : goal.returns-in-Err
returns-in-Err c = run-refused _ _ _ _ _ _ _ c.in-Some.ensures.steps.0 c.in-Err.ensures c.tokens.invariant.0

pub returns : goal.returns
returns c = run-ended _ _ _ _ _ (sym c.tokens.invariant.1 ∙ c.in-None.ensures.steps.0) c.ended.ensures c.tokens.invariant.0
