use Rattle.std.proofs.Common.{List, false, ap, sym, ◌∙◌}
use Rattle.inv_base.specs.Tree.{Name}
use Rattle.xml_state.specs.Scopes.{around_innermost}
use Rattle.xml_tokens.specs.declared.beginning.Position.TheVariants.{Farther}
use Rattle.xml_state.specs.States.{State, Open}
use Rattle.xml_state.proofs.OpenElementsLemmas.{end_too_long, end_mismatched, nothing_told, end_told}
use Rattle.xml_state.proofs.open_elements.OpenElements.end_tag.Goals as goal

pub returns-then-is_long : goal.returns-then-is_long
returns-then-is_long g c = end_too_long _ _ _ c.args.place.byte _ (sym c.if-is_long.ensures)

pub returns-then-not-is_innermost : goal.returns-then-not-is_innermost
returns-then-not-is_innermost g c =
    rw (← c.self.view_is) (end_mismatched _ _ _ c.args.place.byte _ (sym c.if-is_long.ensures) (sym c.if-not-is_innermost.ensures))

pub returns-in-Err : goal.returns-in-Err
returns-in-Err g c = nothing_told _ _ _ _ _ _ c.in-Err.ensures

pub returns : goal.returns
returns g c =
    let open_elements = c.self.inside in
    let s : State = record {
      position = open_elements.position;
      open_elements = open_elements.scopes.open_elements;
      root_seen = open_elements.root_seen;
      in_text = open_elements.in_text;
      nodes = open_elements.nodes;
      names = open_elements.scopes.names;
    } in
    let behind : List Open → List Name → State = λ elements names. record s { position = Farther; open_elements = elements; in_text = false; names = names } in
    rw (← c.self.view_is)
    (end_told _ s _ _ c.args.place.byte _ _ (sym c.if-is_long.ensures) (sym c.if-not-is_innermost.ensures)
    (ap (λ x. behind x c.close.new.self.names) c.close.ensures.open ∙ ap (behind (around_innermost open_elements.scopes.open_elements)) c.close.ensures.names)
    c.in-Ok.ensures)
