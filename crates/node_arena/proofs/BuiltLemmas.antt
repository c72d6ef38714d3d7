-- A document behind one event more.
use Rattle.std.proofs.Common.{◌≡◌, ℕ, Result, Ok, Err, Bool, true, false, List, [], ◌∷◌, ◌++◌, refl, ap, sym, ◌∙◌, append_assoc}
use Rattle.xml_events.specs.Events.{Event, starts, has_attribute, has_text, ends, with_event, with_events, joined, Takes}
use Rattle.node_arena.specs.Document.{Placed, Built, Builds, begun, after, built, built_from, with_last_text}
use Rattle.node_arena.proofs.NodeLemmas.{with_last_text-push}

with_last_text-append : (a b : List ℕ) (nodes : List Placed) → with_last_text (a ++ b) nodes ≡ with_last_text b (with_last_text a nodes)
with_last_text-append a b [] = refl
with_last_text-append a b (node ∷ []) = ap (λ text. record node { text = text } ∷ []) (sym (append_assoc node.text a b))
with_last_text-append a b (node ∷ (m ∷ [])) = ap (λ x. node ∷ x) (with_last_text-append a b (m ∷ []))
with_last_text-append a b (node ∷ (m ∷ (k ∷ nodes))) = ap (λ x. node ∷ x) (with_last_text-append a b (m ∷ (k ∷ nodes)))

-- Two texts, one behind the other, are one.
after-joined : (a b : List ℕ) (p q : ℕ) (nodes : List Placed) (open_nodes : List ℕ) (in_text : Bool)
    → after (has_text (a ++ b) p) (record { nodes = nodes; open_nodes = open_nodes; in_text = in_text })
    ≡ after (has_text b q) (after (has_text a p) (record { nodes = nodes; open_nodes = open_nodes; in_text = in_text }))
after-joined a b p q nodes open_nodes true = ap (λ x. record { nodes = x; open_nodes = open_nodes; in_text = true }) (with_last_text-append a b nodes)
after-joined a b p q nodes open_nodes false = ap (λ x. record { nodes = x; open_nodes = open_nodes; in_text = true }) (sym (with_last_text-push b nodes _))

built_from-joined : (b : Built) (d e : Event) → built_from b (joined d e) ≡ after e (after d b)
built_from-joined b (has_text x p) (has_text y q) = after-joined x y p q b.nodes b.open_nodes b.in_text
built_from-joined b (has_text x p) (starts n q) = refl
built_from-joined b (has_text x p) (has_attribute n v) = refl
built_from-joined b (has_text x p) ends = refl
built_from-joined b (starts n p) e = refl
built_from-joined b (has_attribute n v) e = refl
built_from-joined b ends e = refl

built_from-with_event : (b : Built) (events : List Event) (e : Event) → built_from b (with_event events e) ≡ after e (built_from b events)
built_from-with_event b [] e = refl
built_from-with_event b (d ∷ []) e = built_from-joined b d e
built_from-with_event b (d ∷ (c ∷ events)) e = built_from-with_event (after d b) (c ∷ events) e

pub built-with_event : (events : List Event) (e : Event) → built (with_event events e) ≡ after e (built events)
unfolding built
built-with_event events e = built_from-with_event begun events e

-- a receiver that is what its events build takes one more
pub Takes-after : (b c : Built) (e : Event) → c ≡ after e b → (events : List Event) → b ≡ built events → c ≡ built (with_event events e)
Takes-after b c e is events so_far = is ∙ (ap (after e) so_far ∙ sym (built-with_event events e))

pub takes-builds : {T E : Type 0} (result : Result T E) (b c : Built) (e : Event) → Builds result e b c →
    Takes result e (λ events. b ≡ built events) (λ events. c ≡ built events)
takes-builds (Ok x) b c e is = Takes-after b c e is
takes-builds (Err f) b c e is = λ events so_far. is ∙ so_far

pub built-nil : begun ≡ built []
unfolding built
built-nil = refl

built-with_events : (events more : List Event) → built (with_events events more) ≡ built_from (built events) more
built-with_events events [] = refl
built-with_events events (e ∷ more) = built-with_events (with_event events e) more ∙ ap (λ b. built_from b more) (built-with_event events e)

-- events, one after another
pub built-all : (events : List Event) → built (with_events [] events) ≡ built events
unfolding built
built-all events = built-with_events [] events
