use Rattle.std.proofs.Common.{◌∷◌, [], sym, ◌∙◌, arith}
use Rattle.xpath_parts.proofs.WithinLemmas.{taken-within, within-append, within-take, within-along, all_within-along, all_within-front}
use Rattle.xpath_parts.proofs.StackLemmas.{still_advanced}
use Rattle.xpath_parts.proofs.turns.advance.Goals as goal

pub returns-in_err-push-in-Some-next-2-clause-turns : goal.returns-in_err-push-in-Some-next-2-clause-turns
returns-in_err-push-in-Some-next-2-clause-turns c = λ count h. all_within-along count _ _ c.in_ok-push-in-Some-next.ensures.items
    (taken-within count _ _ _ _ _ c.in-Some.ensures.items c.in-Some-next.ensures (c.turns.invariant.within count h)).0

pub returns-in-Some-next-clause-bound : goal.returns-in-Some-next-clause-bound
returns-in-Some-next-clause-bound c = λ count inside h. within-along count _ _ c.in_ok-push-in-Some-next-2.ensures.items
    (within-append count _ (c.in-Some-next.item ∷ [])
    (within-along count _ _ c.truncate.ensures.items (within-take count _ _ (within-along count _ _ c.turns.invariant.bound inside)))
    ((taken-within count _ _ _ _ _ c.in-Some.ensures.items c.in-Some-next.ensures (c.turns.invariant.within count h)).1, tt))

pub returns-in-Some-next-clause-turns : goal.returns-in-Some-next-clause-turns
returns-in-Some-next-clause-turns c = λ count h. all_within-along count _ _ c.in_ok-push-in-Some-next.ensures.items
    (taken-within count _ _ _ _ _ c.in-Some.ensures.items c.in-Some-next.ensures (c.turns.invariant.within count h)).0

pub turns-preserved : goal.turns-preserved
turns-preserved c = record {
  same = sym (still_advanced _ _ _ c.next.new.self c.in-Some.ensures.items c.in-None.ensures) ∙ c.turns.invariant.same;
  bound = c.turns.invariant.bound;
  room = omega (arith, c.turns.invariant.room, c.pop.ensures.len, c.turns.turns.ok.0);
  within = λ count h. all_within-front count _ _ (all_within-along count _ _ (sym c.in-Some.ensures.items) (c.turns.invariant.within count h));
}
