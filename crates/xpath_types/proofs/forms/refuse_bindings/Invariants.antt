use Rattle.std.proofs.Common.{◌≡◌, ◌||◌, not, drop, map}
use Rattle.xpath_types.specs.Refusals.{first_of}
use Rattle.xpath_types.specs.Judging.{standing_at, bindings_refusals, is_empty}
use Rattle.xpath_types.proofs.forms.refuse_bindings.Given as goal

abbrev pub invariant-parts : goal.invariant-parts
invariant-parts l =
    (first_of l.first (standing_at l.token (bindings_refusals l.scope (map (λ part. part.0) (drop l.part-index l.parts)))) ≡ first_of l.initial.first
    (standing_at l.token (bindings_refusals l.scope (map (λ part. part.0) l.parts))))
    × ((l.refused || not (is_empty (bindings_refusals l.scope (map (λ part. part.0) (drop l.part-index l.parts))))) ≡ not
    (is_empty (bindings_refusals l.scope (map (λ part. part.0) l.parts))))
