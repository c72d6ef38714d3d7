use Rattle.std.proofs.Common.{◌∙◌, sym, ◌<◌, length}
use Rattle.rule_library.proofs.NodeLemmas.{parent-some, for_some}
use Rattle.rule_library.proofs.moves.parent_by.Goals as goal

pub returns-in-Some : goal.returns-in-Some
returns-in-Some g c =
    let doc = c.args.doc.now in
    record {
      name = parent-some doc c.args.n c.in-Some.around c.name.result (sym c.parent.ensures.node ∙ c.in-Some.is) c.name.ensures.value;
      within = for_some c.name.result (λ id. id < length doc.names) c.name.ensures.within;
    }
