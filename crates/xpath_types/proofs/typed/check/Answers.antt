use Rattle.std.proofs.Common.{ap, None}
use Rattle.xpath_grammar.specs.View.{view}
use Rattle.xpath_types.specs.Walking.{seen}
use Rattle.xpath_types.proofs.TypingLaws.{refused, accepted, stated}
use Rattle.xpath_types.proofs.typed.check.Goals as goal

pub returns-in-Some : goal.returns-in-Some
returns-in-Some c = refused c.args.scope.now (view c.args.expression.now) (seen c.walk.new.state) _
    (record { parts = c.new-2.result.items; first = None }) c.new.ensures (ap (λ parts. record { parts = parts; first = None }) c.new-2.ensures.items)
    c.in-Ok.ensures.seen _ c.in-Some.is

pub invariant_of-result : goal.invariant_of-result
invariant_of-result c = accepted c.args.scope.now (view c.args.expression.now) (seen c.walk.new.state) _
    (record { parts = c.new-2.result.items; first = None }) c.new.ensures (ap (λ parts. record { parts = parts; first = None }) c.new-2.ensures.items)
    c.in-Ok.ensures.seen c.in-None.is

pub returns : goal.returns
returns c = stated _ _ _ (accepted c.args.scope.now (view c.args.expression.now) (seen c.walk.new.state) _
    (record { parts = c.new-2.result.items; first = None }) c.new.ensures (ap (λ parts. record { parts = parts; first = None }) c.new-2.ensures.items)
    c.in-Ok.ensures.seen c.in-None.is)
