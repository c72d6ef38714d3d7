use Rattle.std.proofs.Common.{◌<◌, ◌^◌, length, subst, ap, sym, arith}
use Rattle.node_arena.specs.Document.{Built}
use Rattle.node_arena.proofs.KeptLemmas.{kept_few}
use Rattle.node_arena.proofs.builder.Builder.finish.Goals as goal

pub close_all-requires-clause-few : goal.close_all-requires-clause-few
close_all-requires-clause-few c =
    let seen = ap length c.deref.ensures.value in
    let few = kept_few _ _ _ (subst (λ (b : Built). length b.nodes < 2 ^ 32) (sym c.self.view_is) c.requires.numbered.few) in
    omega (arith, seen, few)
