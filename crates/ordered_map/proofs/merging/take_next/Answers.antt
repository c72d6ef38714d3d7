use Rattle.std.proofs.Common.{sym, ◌∙◌}
use Rattle.ordered_map.proofs.MergingLemmas.{taken-other, taken-listed}
use Rattle.ordered_map.proofs.merging.take_next.Goals as goal

pub returns-in-Some : goal.returns-in-Some
returns-in-Some g c =
    taken-other g.met.K.Ord.total g.V.Keyed.key_of c.args.sorted.now.items c.args.others.now.entries (c.in-Some.field-0-0, c.in-Some.value)
    c.pop_first.new.self.entries
    c.in-Some.ensures.removal (sym c.is_other_next.ensures ∙ c.if-is_other_next.true) c.requires

pub returns-else-is_other_next : goal.returns-else-is_other_next
returns-else-is_other_next g c =
    taken-listed g.met.K.Ord.total g.V.Keyed.key_of c.args.sorted.now.items c.args.others.now.entries c.pop_front.result c.pop_front.new.self.items
    c.pop_front.ensures.items c.pop_front.ensures.rest (sym c.is_other_next.ensures ∙ c.if-is_other_next.false) c.requires
