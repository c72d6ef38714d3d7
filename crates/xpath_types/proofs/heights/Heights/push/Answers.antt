use Rattle.std.proofs.Common.{◌≡◌, ◌∷◌, [], length, string_bytes, chars, Some, subst, sym, ap, ◌∙◌, rules}
use Rattle.xpath_types.specs.Heights.{AreFound, stacked, height_in}
use Rattle.xpath_types.proofs.HeightLemmas.{as-high, found-push, stacked-push, same_key}
use Rattle.indexmap.specs.IndexMap.{insert_entry}
use Rattle.xpath_types.proofs.heights.Heights.push.Goals as goal

pub invariant_of-self-in-Ok : goal.invariant_of-self-in-Ok
invariant_of-self-in-Ok c =
    let same : string_bytes c.in_ok-key.key ≡ string_bytes c.args.name = search rules in
    let count : c.len-height.result ≡ length c.self.inside.stack.items = search rules in
    let high : c.len-height.result ≡ length (stacked [] c.self.inside.stack.items) = count ∙ sym (as-high c.self.inside.stack.items) in
    let hides : c.height-hidden.result ≡ height_in (chars (string_bytes c.args.name)) (stacked [] c.self.inside.stack.items) =
    c.height-hidden.ensures.exact ∙ (ap (λ text. height_in (chars text) c.args.self.now) c.as_str.ensures.value ∙
    ap (height_in (chars (string_bytes c.args.name))) (sym c.self.view_is)) in
    subst (AreFound c.insert.new.self.entries) (sym c.in_ok-push.ensures.items)
    (found-push c.self.inside.heights.entries c.self.inside.stack.items
    (record { name = c.args.name; hidden = c.height-hidden.result }) c.insert.new.self.entries c.in_ok-key.key c.self.invariant same hides
    (c.in-Ok.ensures.entries ∙ ap (λ n. insert_entry same_key c.self.inside.heights.entries c.in_ok-key.key (Some n)) high))

pub returns-clause-ok : goal.returns-clause-ok
returns-clause-ok c = ap (stacked []) c.in_ok-push.ensures.items ∙
    (stacked-push [] c.self.inside.stack.items (record { name = c.args.name; hidden = c.height-hidden.result })
    ∙ ap (λ names. chars (string_bytes c.args.name) ∷ names) c.self.view_is)
