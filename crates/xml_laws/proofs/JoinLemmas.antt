-- Joined events, read from the last one back.
use Rattle.std.proofs.Common.{◌≡◌, ℕ, List, [], ◌∷◌, ◌++◌, map, refl, sym, ap, ◌∙◌}
use Rattle.std.proofs.lemmas.List.{append_assoc}
use Rattle.xml_events.specs.Events.{Event, starts, has_attribute, has_text, ends, joined, with_event, with_events}
use Rattle.xml_state.specs.States.{attribute_event}
use Rattle.inv_base.specs.Tree.{Name, Attribute}

-- the event before others: a text goes on with a text
abbrev pub before : Event → List Event → List Event
before e [] = e ∷ []
before e (d ∷ events) = joined e d ++ events

abbrev pub joined_back : List Event → List Event
joined_back [] = []
joined_back (e ∷ events) = before e (joined_back events)

-- events behind which one more is put have a first one
some_with : (m : Event) (xs : List Event) (x : Event) → (m' : Event) × (xs' : List Event) × (with_event (m ∷ xs) x ≡ m' ∷ xs')
some_with m (c ∷ xs) x = (m, with_event (c ∷ xs) x, refl)
some_with (has_text a p) [] (has_text b q) = (has_text (a ++ b) p, [], refl)
some_with m [] x = (m, x ∷ [], refl)

first-stays : (e m : Event) (xs more : List Event) → with_events (e ∷ (m ∷ xs)) more ≡ e ∷ with_events (m ∷ xs) more
first-stays e m xs [] = refl
first-stays e m xs (x ∷ more) =
    let s = some_with m xs x in
    ap (λ z. with_events (e ∷ z) more) s.2
    ∙ (first-stays e s.0 s.1 more ∙ ap (λ z. e ∷ with_events z more) (sym s.2))

pub before-start : (number place : ℕ) (events : List Event) → before (starts number place) events ≡ starts number place ∷ events
before-start number place [] = refl
before-start number place (d ∷ events) = refl

before-attribute : (number : ℕ) (value : List ℕ) (events : List Event) → before (has_attribute number value) events ≡ has_attribute number value ∷ events
before-attribute number value [] = refl
before-attribute number value (d ∷ events) = refl

pub before-end : (events : List Event) → before ends events ≡ ends ∷ events
before-end [] = refl
before-end (d ∷ events) = refl

with-first : (e : Event) (more : List Event) → with_events (e ∷ []) more ≡ before e (joined_back more)
with-first e [] = refl
with-first e (m ∷ more) = by e m (joined_back more) (with-first m more) (λ a p b q. with-first (has_text (a ++ b) p) more)
  where
    by : (e m : Event) (events : List Event) → with_events (m ∷ []) more ≡ before m events
        → ((a : List ℕ) (p : ℕ) (b : List ℕ) (q : ℕ) → with_events (has_text (a ++ b) p ∷ []) more ≡ before (has_text (a ++ b) p) events)
        → with_events (joined e m) more ≡ before e (before m events)
    by (has_text a p) (has_text b q) events one two = two a p b q ∙ texts events
      where
        texts : (events : List Event) → before (has_text (a ++ b) p) events ≡ before (has_text a p) (before (has_text b q) events)
        texts [] = refl
        texts (has_text c r ∷ more) = ap (λ t. has_text t p ∷ more) (append_assoc a b c)
        texts (d ∷ more) = refl
    by (starts k p) m events one two = first-stays (starts k p) m [] more ∙ (ap (λ z. starts k p ∷ z) one ∙ sym (before-start k p (before m events)))
    by (has_attribute k v) m events one two = first-stays (has_attribute k v) m [] more ∙
        (ap (λ z. has_attribute k v ∷ z) one ∙ sym (before-attribute k v (before m events)))
    by ends m events one two = first-stays ends m [] more ∙ (ap (λ z. ends ∷ z) one ∙ sym (before-end (before m events)))
    by (has_text a p) (starts k q) events one two =
        first-stays (has_text a p) (starts k q) [] more ∙
        (ap (λ z. has_text a p ∷ z) one ∙ (ap (λ z. has_text a p ∷ z) (before-start k q events) ∙
        ap (before (has_text a p)) (sym (before-start k q events))))
    by (has_text a p) (has_attribute k v) events one two =
        first-stays (has_text a p) (has_attribute k v) [] more ∙
        (ap (λ z. has_text a p ∷ z) one ∙ (ap (λ z. has_text a p ∷ z) (before-attribute k v events) ∙
        ap (before (has_text a p)) (sym (before-attribute k v events))))
    by (has_text a p) ends events one two =
        first-stays (has_text a p) ends [] more ∙
        (ap (λ z. has_text a p ∷ z) one ∙ (ap (λ z. has_text a p ∷ z) (before-end events) ∙ ap (before (has_text a p)) (sym (before-end events))))

-- Joining from the first event on is joining from the last one back.
pub with_events-back : (events : List Event) → with_events [] events ≡ joined_back events
with_events-back [] = refl
with_events-back (e ∷ events) = with-first e events

-- Attributes are not joined with what follows.
pub attributes-back : (names : List Name) (attributes : List Attribute) (events : List Event)
    → joined_back (map (attribute_event names) attributes ++ events) ≡ map (attribute_event names) attributes ++ joined_back events
attributes-back names [] events = refl
attributes-back names (a ∷ attributes) events =
    before-attribute _ _ _ ∙ ap (λ z. attribute_event names a ∷ z) (attributes-back names attributes events)
