-- Reading goes on behind an admissible token.
use Rattle.std.proofs.Common.{◌≡◌, ℕ, suc, ◌+◌, ◌<◌, ◌≤◌, true, nat_le, List, [], ◌∷◌, ◌++◌, length, sym, ap, ◌∙◌, arith, None}
use Rattle.std.proofs.lemmas.List.{append_assoc}
use Rattle.std.proofs.lemmas.Bool.Decides.{nat_tests}
use Rattle.xml_tokens.specs.Markup.{Token}
use Rattle.xml_tokens.specs.Beginnings.{good, beginning}
use Rattle.xml_state.specs.declared.limits.Limits.{Limits}
use Rattle.xml_events.specs.Events.{Event}
use Rattle.xml_state.specs.States.{State, state_behind, events_of}
use Rattle.xml_state.specs.Admission.{fault_of}
use Rattle.xml_profile.specs.TokenByToken.{Read, telling, read}
use Rattle.xml_laws.proofs.ReadLemmas.{turn, good_turn}

skipped : (limits : Limits) (s : State) (place : ℕ) (front rest : List ℕ) → read true limits s place (length front) (front ++ rest) ≡ read true limits s
    (place + length front) 0 rest
unfolding read
skipped limits s place [] rest = ap (λ p. read true limits s p 0 rest) (let e : place ≡ place + 0 = omega arith in e)
skipped limits s place (b ∷ front) rest =
    let e : place + 1 + length front ≡ place + suc (length front) = omega arith in
    skipped limits s (place + 1) front rest ∙ ap (λ p. read true limits s p 0 rest) e

pub read-token : (limits : Limits) (s : State) (place : ℕ) (piece rest : List ℕ) (token : Token) →
    beginning s.position true (piece ++ rest) ≡ good token (length piece)
    → 0 < length piece → place + length piece ≤ limits.bytes → fault_of limits s token ≡ None
    → read true limits s place 0 (piece ++ rest) ≡ telling (events_of s token place) (read true limits (state_behind s token) (place + length piece) 0 rest)
unfolding read
read-token limits s place [] rest token is some fits admitted = absurd (omega arith)
read-token limits s place (b ∷ piece) rest token is some fits admitted =
    let e : place + 1 + length piece ≡ place + suc (length piece) = omega arith in
    let f : nat_le (place + suc (length piece)) limits.bytes ≡ true = grind (arith, nat_tests) in
    ap (turn limits s place b (piece ++ rest)) is
    ∙ (ap (λ t. good_turn limits s place (suc (length piece)) token (piece ++ rest) t (fault_of limits s token)) f
    ∙ (ap (λ f. good_turn limits s place (suc (length piece)) token (piece ++ rest) true f) admitted
    ∙ (ap (telling (events_of s token place)) (skipped limits (state_behind s token) (place + 1) piece rest)
    ∙ ap (λ p. telling (events_of s token place) (read true limits (state_behind s token) p 0 rest)) e)))

pub telling-more : (a b : List Event) (r : Read) → telling a (telling b r) ≡ telling (a ++ b) r
telling-more a b r = ap (λ x. let t : Read = record { events = x; stands = r.stands } in t) (sym (append_assoc a b r.events))
