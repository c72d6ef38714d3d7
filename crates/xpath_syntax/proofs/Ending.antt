-- What the last value comes to when the tokens have ended.
use Rattle.std.proofs.Common.{◌≡◌, true, false, [], ◌∷◌, Option, Some, None, Ok, Err, refl, sym, ap, ◌∙◌}
use Rattle.std.proofs.lemmas.Bool.{false≢true}
use Rattle.xpath_tokens.specs.declared.token.SyntaxFault.TheVariants as f
use Rattle.xpath_grammar.specs.declared.machine.Mode.{Mode}
use Rattle.xpath_grammar.specs.declared.machine.Mode.TheVariants as d
use Rattle.xpath_grammar.specs.Machine as m
use Rattle.xpath_syntax.specs.declared.value.Value.{Value}
use Rattle.xpath_syntax.specs.declared.value.Parts.{Parts}
use Rattle.xpath_syntax.specs.Stacks.{Stack, MayMake, Closes, last_value, is_empty}
use Rattle.xpath_syntax.specs.Values.{values}

closed_alone : Option Value → Stack → Option Value
closed_alone None stack = None
closed_alone (Some v) stack = m.alone values (m.close values 0 v stack)

by-last : (mode : Mode Value Parts) (stack : Stack) → m.ended_in values mode stack ≡ closed_alone (last_value mode) stack
unfolding closed_alone
by-last d.Want stack = refl
by-last d.Slash stack = refl
by-last d.Dollar stack = refl
by-last (d.Named name) stack = refl
by-last (d.OnAxis form) stack = refl
by-last (d.NamedOn form name) stack = refl
by-last (d.Kind form _) stack = refl
by-last (d.Have v) stack = refl
by-last (d.Filtered parts) stack = refl
by-last (d.Whole rank v) stack = refl
by-last (d.Bind binder lead parts) stack = refl
by-last (d.BindDollar binder lead parts) stack = refl
by-last (d.BindName binder lead parts name) stack = refl
by-last d.If stack = refl
by-last (d.Decided parts) stack = refl
by-last (d.Casting word v) stack = refl
by-last (d.CastAs word v) stack = refl
by-last (d.Typed word v type) stack = refl

opened : (mode : Mode Value Parts) (stack left : Stack) (last value : Value) → last_value mode ≡ Some last →
    Closes (Ok value) left (m.close values 0 last stack)
    → m.ended_in values mode stack ≡ m.alone values (value, left)
unfolding closed_alone
opened mode stack left last value is closes = by-last mode stack ∙ (ap (λ (last : Option Value). closed_alone last stack) is ∙ ap (m.alone values) closes)

pub ended-alone : (mode : Mode Value Parts) (stack left : Stack) (last value : Value) → last_value mode ≡ Some last →
    Closes (Ok value) left (m.close values 0 last stack)
    → is_empty left ≡ true → MayMake (Ok value) (m.ended_in values mode stack)
ended-alone mode stack [] last value is closes empty = opened mode stack [] last value is closes
ended-alone mode stack (frame ∷ left) last value is closes empty = absurd (false≢true empty)

pub ended-beside : (mode : Mode Value Parts) (stack left : Stack) (last value : Value) → last_value mode ≡ Some last →
    Closes (Ok value) left (m.close values 0 last stack)
    → is_empty left ≡ false → MayMake {X = Value} (Err f.Syntax) (m.ended_in values mode stack)
ended-beside mode stack [] last value is closes empty = absurd (false≢true (sym empty))
ended-beside mode stack (frame ∷ left) last value is closes empty = opened mode stack (frame ∷ left) last value is closes
