use Rattle.xml_state.proofs.RecentLemmas.{put-result}
use Rattle.xml_state.proofs.recent.put_in.Goals as goal

pub returns : goal.returns
returns c = λ right e h.
    put-result c.put.result right c.args.stamp c.args.slots.now c.args.place c.put.new.self c.args.name.now c.args.number c.requires c.put.ensures.stamp
    c.put.ensures.written c.put.ensures.number c.put.ensures.err e h
