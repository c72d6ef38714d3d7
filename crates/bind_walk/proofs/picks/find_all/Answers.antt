use Rattle.std.proofs.Common.{◌≡◌, [], ap, ◌∙◌}
use Rattle.bind_walk.specs.Finds.{lists_of, put_all}
use Rattle.bind_walk.specs.Walks.{strolled}
use Rattle.bind_walk.proofs.picks.find_all.Goals as goal

pub returns : goal.returns
returns g c plan is =
    let d = c.args.doc.now in
    let walk : c.walk.new.finds ≡ put_all c.new-finds.result (strolled d plan [] c.document.result) = c.in_ok-walk.ensures plan is in
    let begin : put_all c.new-finds.result (strolled d plan [] c.document.result) ≡ put_all (lists_of [] []) (strolled d plan [] c.document.result) =
    ap (λ lists. put_all lists (strolled d plan [] c.document.result)) c.new-finds.ensures in
    let here = ap (λ n. put_all (lists_of [] []) (strolled d plan [] n)) c.document.ensures.number in
    walk ∙ (begin ∙ here)
