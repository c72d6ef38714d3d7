use Rattle.std.proofs.Common.{◌∷◌, ◌++◌, [], drop, subst, sym, ap, ◌∙◌}
use Rattle.xpath_types.specs.Heights.{AreFound, stacked}
use Rattle.xpath_types.proofs.HeightLemmas.{found-pop, has-entry, stacked-push, surely}
use Rattle.xpath_types.proofs.heights.Heights.pop.Goals as goal

pub invariant_of-self-2 : goal.invariant_of-self-2
invariant_of-self-2 c =
    let known : AreFound c.self.inside.heights.entries (c.pop.new.self.items ++ c.in-Some.field-0 ∷ []) =
    subst (AreFound c.self.inside.heights.entries) c.in-Some.ensures.items c.self.invariant in
    found-pop c.self.inside.heights.entries c.pop.new.self.items c.in-Some.field-0 known c.insert.new.self.entries
    (surely c.insert.result _ _ c.insert.ensures.entries c.insert.ensures.absent
    (has-entry c.self.inside.heights.entries c.pop.new.self.items c.in-Some.field-0 known))

pub returns : goal.returns
returns c = ap (drop 1) (sym (ap (stacked []) c.in-Some.ensures.items ∙ stacked-push [] c.pop.new.self.items c.in-Some.field-0) ∙ c.self.view_is)
