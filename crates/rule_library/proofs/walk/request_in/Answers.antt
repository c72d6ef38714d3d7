use Rattle.std.proofs.Common.{◌≡◌, ◌+◌, drop, subst}
use Rattle.node_arena.specs.Document.{Document, node_at}
use Rattle.rule_library.specs.Asked.{asked, given_at}
use Rattle.rule_library.specs.Requests.{asked_by}
use Rattle.rule_library.specs.Walk.{parent_name, own_name}
use Rattle.rule_library.proofs.TurnLemmas.{at_element}
use Rattle.rule_library.proofs.walk.request_in.Goals as goal

pub returns : goal.returns
returns c =
    let n = c.args.n in
    let is = subst (λ (d : Document). asked_by c.request_of.result ≡ asked (parent_name d (node_at d.nodes n)) (own_name d (node_at d.nodes n))
    (given_at d.names (drop (n + 1) d.nodes))) c.top_doc.ensures c.request_of.ensures in
    at_element c.args.walk.now n (asked_by c.request_of.result) c.requires.element is
