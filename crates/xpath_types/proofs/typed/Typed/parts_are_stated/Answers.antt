use Rattle.std.proofs.Common.{◌≡◌, Ok, subst}
use Rattle.xpath_grammar.specs.View.{view}
use Rattle.xpath_types.specs.Typing as spec
use Rattle.xpath_types.proofs.TypingLaws.{stated}
use Rattle.xpath_types.proofs.typed.Typed.parts_are_stated.Goals as goal

pub returns : goal.returns
returns c = subst (λ (typed : spec.TypedExpression). spec.typing_of typed.declared (view typed.expression) ≡ Ok (spec.typing typed)) c.self.view_is
    (stated _ _ _ c.self.invariant)
