-- The stack of what is open, and what the calls of the parser answer.
use Rattle.std.specs.Prelude.{ℕ, Bool, true, false, List, [], ◌∷◌, ◌++◌, Option, Some, None, Result, Ok, Err, ◌≡◌}
use Rattle.xpath_tokens.specs.declared.token.SyntaxFault.{SyntaxFault}
use Rattle.xpath_tokens.specs.declared.token.SyntaxFault.TheVariants as f
use Rattle.xpath_grammar.specs.declared.machine.Frame.{Frame}
use Rattle.xpath_grammar.specs.declared.machine.Frame.TheVariants.{Open}
use Rattle.xpath_grammar.specs.declared.machine.Mode.{Mode}
use Rattle.xpath_grammar.specs.declared.operators.Binder.{Binder}
use Rattle.xpath_grammar.specs.declared.expr.Form.{Form}
use Rattle.xpath_grammar.specs.declared.expr.Form.TheVariants as o
use Rattle.xpath_grammar.specs.declared.expr.Label.{Label}
use Rattle.xpath_grammar.specs.declared.expr.Label.TheVariants as l
use Rattle.xpath_grammar.specs.declared.expr.Leaf.TheVariants as e
use Rattle.xpath_grammar.specs.declared.step.AxisForm.TheVariants as w
use Rattle.xpath_grammar.specs.declared.step.Test.TheVariants as s
use Rattle.xpath_grammar.specs.declared.machine.Mode.TheVariants as d
use Rattle.xpath_tokens.specs.declared.token.Operator.{Operator}
use Rattle.xpath_grammar.specs.Machine as m
use Rattle.xpath_syntax.specs.Values.{leaf_value, and_then, node_value, values}
use Rattle.xpath_syntax.specs.declared.value.Value.{Value}
use Rattle.xpath_syntax.specs.declared.value.Parts.{Parts}

abbrev pub Stack : Type 0
Stack = List (Frame Parts)

abbrev pub top_is_closed : ℕ → Stack → Bool
top_is_closed rank [] = false
top_is_closed rank (Open form parts label ∷ stack) = m.is_closed rank form label

abbrev pub is_empty : Stack → Bool
is_empty [] = true
is_empty (frame ∷ stack) = false

-- Where memory sufficed, the frame is on the stack.
abbrev pub Pushes : {X : Type 0} → Result X SyntaxFault → Frame Parts → Stack → Stack → Type 0
Pushes (Ok done) frame before after = after ≡ frame ∷ before
Pushes (Err fault) frame before after = fault ≡ f.Memory

-- what was open, with the value as its last part
abbrev pub node_of : Frame Parts → Value → Value
node_of (Open form parts label) v = node_value form (and_then parts label v)

-- what the value leaves that ends a binding, what is in parentheses, and the condition of an `if`
abbrev pub bound : Binder → Parts → Label → Value → Mode Value Parts
bound binder parts label v = d.Bind binder None (and_then parts label v)

abbrev pub parenthesized : Form → Parts → Label → Value → Mode Value Parts
parenthesized form parts label v = d.Have (node_value form (and_then parts label v))

abbrev pub decided : Parts → Label → Value → Mode Value Parts
decided parts label v = d.Decided (and_then parts label v)

-- Where memory sufficed, the call leaves the value and the stack.
abbrev pub Closes : Result Value SyntaxFault → Stack → Value × Stack → Type 0
Closes (Ok value) stack closed = closed ≡ (value, stack)
Closes (Err fault) stack closed = fault ≡ f.Memory

-- The call refuses the tokens where there is no next state, unless memory ran out.
abbrev pub Refuses : SyntaxFault → Option (m.State Value Parts) → Type 0
Refuses fault next = elim fault as (λ _. Type 0) [ f.Memory ↦ Unit {0} | f.Syntax ↦ next ≡ None | _ ↦ ⊥ ]

-- The call gives the next state, or refuses.
abbrev pub Gives : Result (Mode Value Parts) SyntaxFault → Stack → Option (m.State Value Parts) → Type 0
Gives (Ok mode) stack next = next ≡ Some (m.at mode stack)
Gives (Err fault) stack next = Refuses fault next

abbrev pub is_parenthesized : Form → Bool
is_parenthesized o.Parentheses = true
is_parenthesized o.Call = true
is_parenthesized _ = false

-- the condition of an `if` stands behind the label
abbrev pub in_condition : Form → Label → Bool
in_condition o.Conditional l.Condition = true
in_condition _ _ = false

-- signs stand behind one another
abbrev pub is_signed : Form → Label → Bool
is_signed o.Signs (l.Signed operators) = true
is_signed _ _ = false

-- the signs, and one more
abbrev pub signed_with : Label → Operator → Label
signed_with (l.Signed operators) operator = l.Signed (operators ++ operator ∷ [])
signed_with label operator = label

-- what is left when the tokens have ended
abbrev pub last_value : Mode Value Parts → Option Value
last_value d.Slash = Some (leaf_value e.Root)
last_value (d.Named name) = Some (leaf_value (e.Step w.Unwritten (s.Name name)))
last_value (d.NamedOn form name) = Some (leaf_value (e.Step form (s.Name name)))
last_value (d.Have v) = Some v
last_value (d.Filtered parts) = Some (node_value o.Filter parts)
last_value (d.Whole rank v) = Some v
last_value (d.Typed word v type) = Some (m.cast_node values word type false v)
last_value _ = None

-- Where memory sufficed, the call gives what there is.
abbrev pub MayMake : {X : Type 0} → Result X SyntaxFault → Option X → Type 0
MayMake (Ok made) wanted = wanted ≡ Some made
MayMake (Err fault) wanted = elim fault as (λ _. Type 0) [ f.Memory ↦ Unit {0} | f.Syntax ↦ wanted ≡ None | _ ↦ ⊥ ]

-- what is read so far keeps the token that stands behind it, or a part of it
abbrev pub keeps_token : Mode Value Parts → Bool
keeps_token d.Want = true
keeps_token d.Slash = true
keeps_token d.Dollar = true
keeps_token (d.OnAxis form) = true
keeps_token (d.BindDollar binder lead parts) = true
keeps_token (d.CastAs word v) = true
keeps_token _ = false
