-- What bytes tell goes on with more bytes, and at their end.
use Rattle.std.proofs.Common.{◌≡◌, ℕ, Bool, true, false, List, [], ◌++◌, sym, ap, ◌∙◌, arith, Some}
use Rattle.std.proofs.lemmas.List.{append-nil}
use Rattle.std.proofs.lemmas.Option.{none-some}
use Rattle.xml_events.specs.Events.{Event}
use Rattle.xml_state.specs.declared.limits.Limits.{Limits}
use Rattle.xml_state.specs.States.{begin}
use Rattle.xml_profile.specs.TokenByToken.{Standing, waits, stopped, Read, outset, resume, read_front, read_whole}
use Rattle.xml_state.specs.declared.fault.XmlFault.{XmlFault}
use Rattle.xml_profile.specs.Profile.{settled_of, fault_of_whole, settled_fault, first_fault}
use Rattle.xml_profile.specs.Readers.{MovesWithin}
use Rattle.xml_profile.proofs.ReadCutLemmas.{going_on}
use Rattle.xml_profile.proofs.ReadInTwoLemmas.{read-in-two}

pub front-grows : (e : Bool) (limits : Limits) (a b : List ℕ) → resume e limits outset (a ++ b) ≡ going_on e limits (read_front limits a) b
unfolding resume
front-grows e limits a b = read-in-two e limits a b begin 0 0 (omega arith)

pub whole-ends : (limits : Limits) (a : List ℕ) → read_whole limits a ≡ going_on true limits (read_front limits a) []
whole-ends limits a = ap (resume true limits outset) (sym (append-nil a)) ∙ front-grows true limits a []

-- A receiver that was told nothing more stands at a front.
pub stays-front : (limits : Limits) (a b : List ℕ) (taken : List Event → Type 0) →
    MovesWithin (read_front limits a).events (read_front limits (a ++ b)).events taken taken
stays-front limits a b taken = record {
  front = (read_front limits a).events;
  behind = (resume false limits (read_front limits a).stands b).events;
  is = ap (λ (r : Read). r.events) (front-grows false limits a b);
  moves = λ first t. t;
}

pub stays-whole : (limits : Limits) (a : List ℕ) (taken : List Event → Type 0) →
    MovesWithin (read_front limits a).events (read_whole limits a).events taken taken
stays-whole limits a taken = record {
  front = (read_front limits a).events;
  behind = (resume true limits (read_front limits a).stands []).events;
  is = ap (λ (r : Read). r.events) (whole-ends limits a);
  moves = λ first t. t;
}

-- A fault that is settled is the first fault of whatever goes on.
pub settled-first : (limits : Limits) (a b : List ℕ) (fault : XmlFault) → settled_fault limits a ≡ Some fault → first_fault limits (a ++ b) ≡ Some fault
unfolding first_fault settled_fault resume
settled-first limits a b fault h = ap (λ (r : Read). fault_of_whole r.stands) (front-grows true limits a b) ∙ by (read_front limits a).stands h
  where
    by : (s : Standing) → settled_of s ≡ Some fault → fault_of_whole (resume true limits s b).stands ≡ Some fault
    by (waits s place rest) g = absurd (none-some fault g)
    by (stopped f) g = g

-- It stays settled.
pub settled-stays : (limits : Limits) (a b : List ℕ) (fault : XmlFault) → settled_fault limits a ≡ Some fault → settled_fault limits (a ++ b) ≡ Some fault
unfolding settled_fault resume
settled-stays limits a b fault h = ap (λ (r : Read). settled_of r.stands) (front-grows false limits a b) ∙ by (read_front limits a).stands h
  where
    by : (s : Standing) → settled_of s ≡ Some fault → settled_of (resume false limits s b).stands ≡ Some fault
    by (waits s place rest) g = absurd (none-some fault g)
    by (stopped f) g = g
