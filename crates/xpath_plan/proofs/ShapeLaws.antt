-- Which parts are kept.
use Rattle.std.proofs.Common.{◌≡◌, ℕ, ◌+◌, Bool, true, false, List, ◌∷◌, ◌++◌, length, map, refl, ap, sym, ◌∙◌}
use Rattle.std.proofs.lemmas.List.{map-append}
use Rattle.xpath_grammar.specs.declared.expr.Form.{Form}
use Rattle.xpath_grammar.specs.Grammar as g
use Rattle.xpath_grammar.specs.Grammar.{Tree, Parts}
use Rattle.xpath_types.specs.Judging.{Environment, judged, inside, behind}
use Rattle.xpath_types.specs.Parts.{placed, placed_inside}
use Rattle.xpath_plan.specs.Shapes.{Place, Shaped, place_of, shapes, shapes_inside, is_kept, onces}

mutual
  unfolding shapes shapes_inside placed placed_inside

  pub onces_are : (env : Environment) (token : ℕ) (place : Place) (x : Tree) → onces (shapes env token place x) ≡ map is_kept (placed env token x)
  onces_are env token place (g.leaf x) = refl
  onces_are env token place (g.node form parts) = ap (λ others. is_kept (record { environment = env; token = token; part = g.node form parts }) ∷ others)
      (inner_are env form token true parts)

  inner_are : (env : Environment) (form : Form) (at : ℕ) (first : Bool) (parts : Parts) →
      onces (shapes_inside env form at first parts) ≡ map is_kept (placed_inside env form at parts)
  inner_are env form at first g.none = refl
  inner_are env form at first (g.more label x parts) =
      let token : ℕ = at + length (g.label_tokens label) in
      let env' : Environment = inside form label env in
      let next : Environment = behind form label (judged env' token x).kinds env in
      let here : List Shaped = shapes env' token (place_of first label) x in
      let rest : List Shaped = shapes_inside next form (token + length (g.written x)) false parts in
      map-append (λ (part : Shaped). part.once) here rest
      ∙ ((λ i. onces_are env' token (place_of first label) x i ++ inner_are next form (token + length (g.written x)) false parts i)
      ∙ sym (map-append is_kept (placed env' token x) (placed_inside next form (token + length (g.written x)) parts)))
