use Rattle.std.proofs.Common.{◌≡◌, [], ◌∷◌, ◌++◌, length, ap, ◌∙◌, arith}
use Rattle.xml_events.proofs.PlaceLemmas.{placed-push}
use Rattle.xml_events.proofs.spaces.place_behind.Goals as goal

pub returns-clause-ok : goal.returns-clause-ok
returns-clause-ok c = record {
  last = c.in_ok-last.last;
  is = c.in_ok-last.ensures.ok;
  added = c.push_reserved.ensures.items ∙ ap (λ x. x ++ c.in_ok-last.last ∷ []) c.in_ok-reserve.ensures.items;
}

pub returns-clause-placed : goal.returns-clause-placed
returns-clause-placed c =
    let same = ap length c.in_ok-reserve.ensures.items in
    let at : c.len.result ≡ length c.args.texts.now.items = omega (arith, same) in
    placed-push c.args.places.now c.insert.new.self c.args.texts.now.items _ c.in_ok-key.key c.in_ok-last.last c.args.text.now c.len.result c.requires.placed
    c.requires.absent c.in_ok-key.ensures.ok c.in_ok-last.ensures.ok
    at c.in_ok-insert.ensures.updates (c.push_reserved.ensures.items ∙ ap (λ x. x ++ c.in_ok-last.last ∷ []) c.in_ok-reserve.ensures.items)
