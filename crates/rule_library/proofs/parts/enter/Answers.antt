use Rattle.std.proofs.Common.{◌+◌, ◌<◌, length, subst}
use Rattle.std.proofs.lemmas.Result.{on_ok_weaker}
use Rattle.std.specs.Option.{ForSome}
use Rattle.node_arena.specs.Document.{Document}
use Rattle.rule_library.specs.Turns.{from, IsBehind}
use Rattle.rule_library.proofs.TurnLemmas.{stands_passed, le_true, le_false}
use Rattle.rule_library.proofs.PartLemmas.{enters-none, descends, stands_below}
use Rattle.rule_library.proofs.parts.enter.Goals as goal

pub returns-then-is_full : goal.returns-then-is_full
returns-then-is_full c =
    let w = c.args.walk.now in
    let at = c.behind-at.result in
    let behind = subst (λ (d : Document). IsBehind d c.args.n (from at d.nodes)) c.top_doc.ensures c.behind-at.ensures.rest in
    record {
      goes = enters-none w c.args.n c.args.bare c.args.k (w.parts + 1) at behind
          (le_true 64 (length w.outer.items + 1) c.is_full.result c.is_full.ensures c.if-is_full.true);
      stands = stands_passed (record w { parts = w.parts + 1 }) at
          (record { top = c.requires.at.stands.top; outer = c.requires.at.stands.outer; long = c.requires.at.stands.long; few = c.requires.at.stands.few })
          (subst (λ (d : Document). ForSome at (λ m. m < length d.nodes)) c.top_doc.ensures c.behind-at.ensures.within);
    }

pub returns : goal.returns
returns c =
    let w = record c.args.walk.now { parts = c.args.walk.now.parts + 1 } in
    let at = c.behind-at.result in
    let behind = subst (λ (d : Document). IsBehind d c.args.n (from at d.nodes)) c.top_doc.ensures c.behind-at.ensures.rest in
    let within = subst (λ (d : Document). ForSome at (λ m. m < length d.nodes)) c.top_doc.ensures c.behind-at.ensures.within in
    let few = le_false 64 (length w.outer.items + 1) c.is_full.result c.is_full.ensures c.if-is_full.false in
    record {
      goes = on_ok_weaker c.descend.result (λ d. descends w c.descend.new.walk c.args.n c.args.bare c.args.k at behind few d) c.descend.ensures;
      stands = on_ok_weaker c.descend.result (λ d. stands_below w c.descend.new.walk c.args.bare c.args.k at
          (record { top = c.requires.at.stands.top; outer = c.requires.at.stands.outer; long = c.requires.at.stands.long; few = c.requires.at.stands.few })
          within c.requires.within d) c.descend.ensures;
    }
