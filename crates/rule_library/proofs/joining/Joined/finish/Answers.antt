use Rattle.std.proofs.Common.{subst, sym}
use Rattle.rule_library.specs.Readings.{Joined}
use Rattle.rule_library.specs.Whole.{TellsDocument}
use Rattle.rule_library.proofs.GrownLemmas.{finishes}
use Rattle.rule_library.proofs.joining.Joined.finish.Goals as goal

pub finish-requires : goal.finish-requires
finish-requires c =
    let j : Joined = record { built = c.self.inside.builder; names = c.self.inside.names } in
    finishes j (subst (λ (other : Joined). TellsDocument other) (sym c.self.view_is) c.requires) c.events_build_the_nodes_of_their_tree.ensures
    c.events_build_a_whole_document.ensures
    c.count_nodes.result c.count_nodes.ensures c.if-count_nodes-le-NUMBERS.true
