use Rattle.std.proofs.Common.{◌≡◌, ◌&&◌, ◌==◌, [], ◌∷◌, ◌++◌, Option, Some, ℕ, length, refl, sym, ap, subst, ◌∙◌, arith, if◌then◌else◌, string_bytes, bytes_eq}
use Rattle.xml_events.specs.Places.{place_in, AreFiled}
use Rattle.xml_events.specs.declared.kept.Kept.{Kept}
use Rattle.xml_events.proofs.PlaceLemmas.{keeps-added, filed-push, written-whole}
use Rattle.xml_events.proofs.kept.file_behind.Goals as goal

pub returns-clause-ok : goal.returns-clause-ok
returns-clause-ok c =
    let last : Kept = record { space = c.args.space; local = c.in_ok-text.text } in
    keeps-added c.args.space c.args.local.now c.args.names.now.items c.push_reserved.new.self.items last c.requires.absent refl c.in_ok-text.ensures.ok
    (c.push_reserved.ensures.items ∙ ap (λ x. x ++ last ∷ []) c.in_ok-reserve.ensures.items)

pub returns-clause-filed : goal.returns-clause-filed
returns-clause-filed c =
    let last : Kept = record { space = c.args.space; local = c.in_ok-text.text } in
    let same = ap length c.in_ok-reserve.ensures.items in
    let at : c.len.result ≡ length c.args.names.now.items = omega (arith, same) in
    let whole = written-whole c.reach.new.places.len c.file_in.new.places c.reach.new.places.items (c.file_in.auto.places ∙ c.deref_mut.ensures.len)
    (sym (ap length c.deref_mut.ensures.value) ∙ c.deref_mut.ensures.len) in
    subst (λ x. AreFiled x c.push_reserved.new.self.items) (sym whole)
    (filed-push c.args.places.now.items c.file_in.new.places c.args.names.now.items c.push_reserved.new.self.items last c.args.space c.len.result
    c.args.local.now (string_bytes c.in_ok-key.key) c.requires.filed c.requires.absent
    refl c.in_ok-text.ensures.ok c.in_ok-key.ensures.ok at
    (λ m other.
    c.in_ok-file_in.ensures.ok m other
    ∙ ap (λ (o : Option ℕ). if (c.args.space == m) && bytes_eq (string_bytes c.in_ok-key.key) other then Some c.len.result else o)
    (ap (λ x. place_in x m other) c.deref_mut.ensures.value ∙ c.in_ok-reach.ensures.same m other))
    (c.push_reserved.ensures.items ∙ ap (λ x. x ++ last ∷ []) c.in_ok-reserve.ensures.items))
