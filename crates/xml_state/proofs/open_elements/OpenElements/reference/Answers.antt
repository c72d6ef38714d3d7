use Rattle.std.proofs.Common.{◌≡◌, ◌∷◌, [], subst, ◌∙◌, ap, sym, append-nil}
use Rattle.std.specs.Str.{chars}
use Rattle.std.proofs.lemmas.Str.{chars_past_char, chars-nil}
use Rattle.xml_state.specs.Taking.{TakesText}
use Rattle.xml_state.proofs.OpenElementsLemmas.{text_told, reference_tells, reference_outside}
use Rattle.xml_state.proofs.open_elements.OpenElements.reference.Goals as goal

pub returns-then-is_outside : goal.returns-then-is_outside
returns-then-is_outside g c = reference_outside _ _ c.args.c c.args.place.byte _ (sym c.if-is_outside.ensures)

pub returns : goal.returns
returns g c =
    let one : chars c.encode_utf8.result.now ≡ c.args.c ∷ [] =
    chars_past_char _ [] c.args.c c.encode_utf8.utf8 (c.encode_utf8.ensures.value ∙ sym (append-nil _)) ∙ ap (λ x. c.args.c ∷ x) chars-nil in
    text_told _ _ _ _ _ _ _ _ _ (reference_tells _ _ c.args.c (sym c.if-is_outside.ensures))
    (subst (λ x. TakesText c.tell.result c.args.limits.now c.args.self.now c.tell.new.self x c.args.place.byte (g.E.Events.taken c.args.events.now)
    (g.E.Events.taken c.tell.new.events)) one c.tell.ensures)
