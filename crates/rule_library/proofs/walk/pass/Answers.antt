use Rattle.std.proofs.Common.{◌≡◌, ◌+◌, ◌<◌, drop, length, subst}
use Rattle.std.specs.Option.{ForSome}
use Rattle.node_arena.specs.Document.{Document}
use Rattle.rule_library.specs.Turns.{from}
use Rattle.rule_library.proofs.TurnLemmas.{passes, stands_passed}
use Rattle.rule_library.proofs.walk.pass.Goals as goal

pub returns : goal.returns
returns c =
    let w = c.args.walk.now in
    let at = c.next_of-at.result in
    record {
      passed = passes w c.args.n at (subst (λ (d : Document). from at d.nodes ≡ drop (c.args.n + 1) d.nodes) c.top_doc.ensures c.next_of-at.ensures.rest);
      stands = stands_passed w at c.requires.stands
          (subst (λ (d : Document). ForSome at (λ m. m < length d.nodes)) c.top_doc.ensures c.next_of-at.ensures.within);
    }
