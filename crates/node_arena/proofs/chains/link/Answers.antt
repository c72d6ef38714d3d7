use Rattle.std.proofs.Common.{◌<◌, ◌-◌, set, length, IfSome, subst, refl, sym, ◌∙◌, arith}
use Rattle.std.proofs.lemmas.List.{length-set}
use Rattle.node_arena.specs.Keys.{keys}
use Rattle.node_arena.specs.Slots.{kept}
use Rattle.node_arena.proofs.ChainLemmas.{IsLinking, linking-begin, linking-none, linking-some, length-keys, keyed_at}
use Rattle.node_arena.proofs.chains.link.Goals as goal

pub nodes-init : goal.nodes-init
nodes-init c =
    let all = length-keys c.args.family c.args.nodes.now in
    record {
      linking = subst (IsLinking _ c.args.next.now c.args.first.now c.args.next.now) all
          (linking-begin _ c.args.first.now c.args.next.now (c.requires.long ∙ sym all) c.requires.none);
      long = refl;
    }

pub nodes-preserved : goal.nodes-preserved
nodes-preserved c =
    let n = c.nodes.n - 1 in
    let test = c.nodes-test.true in
    let all = length-keys c.args.family c.args.nodes.now in
    let within = c.nodes.invariant.linking.within in
    let key = keyed_at c.args.family c.args.nodes.now n c.key_at.result (omega (arith, test, within, all)) c.key_at.ensures in
    record {
      linking = linking-none _ _ _ _ c.nodes.n n c.nodes.invariant.linking (omega (arith, test)) (key ∙ c.in-None.is);
      long = c.nodes.invariant.long;
    }

pub nodes-preserved-in-Some : goal.nodes-preserved-in-Some
nodes-preserved-in-Some c =
    let n = c.nodes.n - 1 in
    let test = c.nodes-test.true in
    let all = length-keys c.args.family c.args.nodes.now in
    let within = c.nodes.invariant.linking.within in
    let here : n < length c.args.nodes.now = omega (arith, test, within, all) in
    let key = keyed_at c.args.family c.args.nodes.now n c.key_at.result here c.key_at.ensures in
    let bound : c.in-Some.key < length c.args.first.now =
    subst (λ k. IfSome k (λ key. key < length c.args.first.now)) (sym c.key_at.ensures ∙ c.in-Some.is) (c.requires.keys n here) in
    let linked = linking-some _ _ _ _ c.nodes.n n c.nodes.invariant.linking (omega (arith, test)) c.in-Some.key c.index-first-key.result (key ∙ c.in-Some.is)
    (omega (arith, bound, c.nodes.invariant.long)) c.index-first-key.is in
    record {
      linking = subst (λ link. IsLinking (keys c.args.family (kept c.args.nodes.now)) c.args.next.now (set c.nodes.first c.in-Some.key link)
          (set c.nodes.next n c.index-first-key.result) n) (sym c.to.ensures) linked;
      long = length-set c.nodes.first c.in-Some.key c.to.result ∙ c.nodes.invariant.long;
    }
