-- What ends behind a value, frame by frame.
use Rattle.std.proofs.Common.{◌≡◌, ℕ, Bool, true, false, [], ◌∷◌, refl, sym, ap, ◌∙◌}
use Rattle.xpath_grammar.specs.declared.expr.Form.{Form}
use Rattle.xpath_grammar.specs.declared.expr.Label.{Label}
use Rattle.xpath_grammar.specs.declared.machine.Frame.{Frame}
use Rattle.xpath_grammar.specs.declared.machine.Frame.TheVariants.{Open}
use Rattle.xpath_grammar.specs.Machine as m
use Rattle.xpath_syntax.specs.declared.value.Value.{Value}
use Rattle.xpath_syntax.specs.declared.value.Parts.{Parts}
use Rattle.xpath_syntax.specs.Stacks.{Stack, top_is_closed, node_of}
use Rattle.xpath_syntax.specs.Values.{values, and_then, node_value}

closed_or_left : Bool → ℕ → Form → Parts → Label → Value → Stack → Value × Stack
closed_or_left b rank form parts label v st = elim b [
  | true ↦ m.close values rank (node_value form (and_then parts label v)) st
  | false ↦ (v, Open form parts label ∷ st)
]

pub close-top : (rank : ℕ) (form : Form) (parts : Parts) (label : Label) (v : Value) (st : Stack) → m.is_closed rank form label ≡ true
    → m.close values rank v (Open form parts label ∷ st) ≡ m.close values rank (node_value form (and_then parts label v)) st
unfolding m.close closed_or_left
close-top rank form parts label v st h = ap (λ b. closed_or_left b rank form parts label v st) h

pub close-end : (rank : ℕ) (v : Value) (st : Stack) → top_is_closed rank st ≡ false → m.close values rank v st ≡ (v, st)
unfolding m.close closed_or_left
close-end rank v [] h = refl
close-end rank v (Open form parts label ∷ st) h = ap (λ b. closed_or_left b rank form parts label v st) h

pub close-step : (rank : ℕ) (v : Value) (st : Stack) (frame : Frame Parts) (below : Stack) (node : Value)
    → top_is_closed rank st ≡ true → st ≡ frame ∷ below → node ≡ node_of frame v → m.close values rank node below ≡ m.close values rank v st
close-step rank v st (Open form parts label) below node h e p = ap (λ n. m.close values rank n below) p
    ∙ sym (close-top rank form parts label v below (sym (ap (top_is_closed rank) e) ∙ h)) ∙ ap (m.close values rank v) (sym e)
