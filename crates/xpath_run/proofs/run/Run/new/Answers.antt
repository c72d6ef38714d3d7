use Rattle.std.proofs.Common.{sym, ap, ◌∙◌, subst, length}
use Rattle.std.proofs.lemmas.List.{length-replicate}
use Rattle.xpath_plan.specs.Claims.{kept_of}
use Rattle.xpath_parts.specs.Slots.{HoldIn}
use Rattle.xpath_walks.specs.Tests.{numbers_of}
use Rattle.xpath_parts.proofs.SlotLemmas as slots
use Rattle.xpath_run.proofs.run.Run.new.Goals as goal

pub invariant_of-result : goal.invariant_of-result
invariant_of-result c = record {
  numbered = c.in_ok-numbers.ensures ∙ ap (numbers_of c.args.doc.now.names) c.names.ensures;
  placed = c.parts_are_sound.ensures.placed;
  held = subst (HoldIn c.args.doc.now (kept_of c.args.plan.now)) (sym c.in_ok-slots.ensures)
      (slots.none_held c.args.doc.now (kept_of c.args.plan.now) c.slots.result);
  long = ap length c.in_ok-slots.ensures ∙ (length-replicate c.slots.result _ ∙ (c.slots.ensures ∙ c.parts_are_sound.ensures.count));
}
