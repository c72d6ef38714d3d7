-- Events one behind another.
use Rattle.std.proofs.Common.{◌≡◌, ℕ, ◌+◌, List, [], ◌∷◌, ◌++◌, length, refl, sym, ap, ◌∙◌}
use Rattle.std.proofs.lemmas.List.{append_assoc}
use Rattle.std.specs.Char.{encode_utf8}
use Rattle.xml_events.specs.Events.{Event, starts, has_attribute, has_text, ends, joined, with_event, with_events}

-- Events and more, and more again.
pub with_events-append : (events a b : List Event) → with_events events (a ++ b) ≡ with_events (with_events events a) b
with_events-append events [] b = refl
with_events-append events (e ∷ a) b = with_events-append (with_event events e) a b

joined-some : (d e : Event) → (first : Event) × (rest : List Event) × (joined d e ≡ first ∷ rest)
joined-some (starts n p) e = (starts n p, e ∷ [], refl)
joined-some (has_attribute n v) e = (has_attribute n v, e ∷ [], refl)
joined-some (has_text a p) (starts n q) = (has_text a p, starts n q ∷ [], refl)
joined-some (has_text a p) (has_attribute n v) = (has_text a p, has_attribute n v ∷ [], refl)
joined-some (has_text a p) (has_text b q) = (has_text (a ++ b) p, [], refl)
joined-some (has_text a p) ends = (has_text a p, ends ∷ [], refl)
joined-some ends e = (ends, e ∷ [], refl)

with_event-some : (events : List Event) (e : Event) → (first : Event) × (rest : List Event) × (with_event events e ≡ first ∷ rest)
with_event-some [] e = (e, [], refl)
with_event-some (d ∷ []) e = joined-some d e
with_event-some (d ∷ (c ∷ events)) e = (d, with_event (c ∷ events) e, refl)

with_event-behind : (d : Event) (events : List Event) (e f : Event) → with_event (d ∷ with_event events e) f ≡ d ∷ with_event (with_event events e) f
with_event-behind d events e f =
    let some = with_event-some events e in
    ap (λ l. with_event (d ∷ l) f) some.2 ∙ ap (λ l. d ∷ with_event l f) (sym some.2)

-- A text behind a text is one text.
texts-join : (events : List Event) (a b : List ℕ) (p q : ℕ) → with_event (with_event events (has_text a p)) (has_text b q) ≡ with_event events
    (has_text (a ++ b) p)
texts-join [] a b p q = refl
texts-join (starts n r ∷ []) a b p q = refl
texts-join (has_attribute n v ∷ []) a b p q = refl
texts-join (has_text c r ∷ []) a b p q = ap (λ t. has_text t r ∷ []) (append_assoc c a b)
texts-join (ends ∷ []) a b p q = refl
texts-join (d ∷ (c ∷ events)) a b p q = with_event-behind d (c ∷ events) (has_text a p) (has_text b q) ∙ ap (λ l. d ∷ l) (texts-join (c ∷ events) a b p q)

-- what characters tell one by one
abbrev pub run_events : List ℕ → ℕ → List Event
run_events [] place = []
run_events (c ∷ text) place = has_text (c ∷ []) place ∷ run_events text (place + length (encode_utf8 c))

-- Characters that are told one by one are told as one text.
pub run-told : (events : List Event) (c : ℕ) (text : List ℕ) (place : ℕ) →
    with_events events (run_events (c ∷ text) place) ≡ with_event events (has_text (c ∷ text) place)
run-told events c [] place = refl
run-told events c (d ∷ text) place =
    run-told (with_event events (has_text (c ∷ []) place)) d text (place + length (encode_utf8 c))
    ∙ texts-join events (c ∷ []) (d ∷ text) place (place + length (encode_utf8 c))
