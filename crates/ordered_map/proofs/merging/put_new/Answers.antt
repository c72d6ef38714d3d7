use Rattle.ordered_map.proofs.MergingLemmas.{put-there, put-beside}
use Rattle.ordered_map.proofs.merging.put_new.Goals as goal

pub returns-in_ok-insert-clause-ok : goal.returns-in_ok-insert-clause-ok
returns-in_ok-insert-clause-ok g c =
    put-there g.met.K.Ord.total g.V.Keyed.key_of c.args.sorted.now.items c.args.others.now.entries c.requires.are_apart c.args.value
    c.requires.absent c.args.place c.requires.place c.insert.new.self.items c.in_ok-insert.ensures.items

pub returns-in_ok-insert-2-clause-ok : goal.returns-in_ok-insert-2-clause-ok
returns-in_ok-insert-2-clause-ok g c =
    put-beside g.met.K.Ord.total g.V.Keyed.key_of c.args.sorted.now.items c.args.others.now.entries c.requires.are_apart c.args.value
    c.requires.absent c.key.result c.key.ensures
    c.insert-else-len-place-le-NEAR.new.self.entries c.in_ok-insert-2.ensures.entries
