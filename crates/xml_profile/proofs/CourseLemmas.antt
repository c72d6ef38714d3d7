-- Turn behind turn.
use Rattle.std.proofs.Common.{◌≡◌, ℕ, ◌≤◌, Bool, List, [], ◌∷◌, ◌++◌, length, refl, sym, ap, ◌∙◌, subst, arith}
use Rattle.std.proofs.lemmas.List.{append_assoc, append-nil}
use Rattle.xml_events.specs.Events.{Event, TakesAll, with_events}
use Rattle.xml_state.specs.declared.limits.Limits.{Limits}
use Rattle.xml_state.specs.declared.fault.XmlFault.{XmlFault}
use Rattle.xml_tokens.proofs.SearchingLemmas.{few-searched}
use Rattle.xml_profile.specs.TokenByToken.{waits, Read, telling, read}
use Rattle.xml_profile.specs.Courses.{IsAt, GoesOn, Reaches, Breaks, of_bytes, of_memory}
use Rattle.xml_profile.specs.declared.cursor.Cursor.{Cursor}
use Rattle.xml_profile.proofs.EventLemmas.{with_events-append}

-- Some events were taken, and then others.
pub takes-both : (a b : List Event) (before between after : List Event → Type 0) → TakesAll a before between → TakesAll b between after →
    TakesAll (a ++ b) before after
takes-both a b before between after first then = λ events taken. subst after (sym (with_events-append events a b))
    (then (with_events events a) (first events taken))

telling-both : (a b : List Event) (r : Read) → telling a (telling b r) ≡ telling (a ++ b) r
telling-both a b r = ap (λ events. record { events = events; stands = r.stands }) (sym (append_assoc a b r.events))

module _ (e : Bool) (limits : Limits) where
  pub goes-nowhere : (at : Cursor) (bytes : List ℕ) (taken : List Event → Type 0) → IsAt limits at bytes → GoesOn e limits at at bytes bytes taken taken
  goes-nowhere at bytes taken sound = record { events = []; passed = []; parts = refl; is = refl; told = λ events t. t; at = sound }

  pub goes-farther : (old mid new : Cursor) (bytes rest behind : List ℕ) (before between after : List Event → Type 0) →
      GoesOn e limits old mid bytes rest before between
      → GoesOn e limits mid new rest behind between after → GoesOn e limits old new bytes behind before after
  goes-farther old mid new bytes rest behind before between after a b = record {
    events = a.events ++ b.events;
    passed = a.passed ++ b.passed;
    parts = a.parts ∙ ap (λ r. a.passed ++ r) b.parts ∙ sym (append_assoc a.passed b.passed behind);
    is = a.is ∙ ap (telling a.events) b.is ∙ telling-both a.events b.events (read e limits new.open_elements new.place 0 behind);
    told = takes-both a.events b.events before between after a.told b.told;
    at = b.at;
  }

  pub goes-to : (old mid new : Cursor) (bytes rest behind : List ℕ) (before between after : List Event → Type 0) →
      GoesOn e limits old mid bytes rest before between
      → Reaches e limits mid new rest behind between after → Reaches e limits old new bytes behind before after
  goes-to old mid new bytes rest behind before between after a b = record {
    events = a.events ++ b.events;
    passed = a.passed ++ b.passed;
    parts = a.parts ∙ ap (λ r. a.passed ++ r) b.parts ∙ sym (append_assoc a.passed b.passed behind);
    is = a.is ∙ ap (telling a.events) b.is;
    told = takes-both a.events b.events before between after a.told b.told;
    at = b.at;
    searched = b.searched;
    room = b.room;
    ends_within = b.ends_within;
  }

  pub goes-wrong : (old mid : Cursor) (bytes rest : List ℕ) (before between after : List Event → Type 0) (fault : XmlFault) →
      GoesOn e limits old mid bytes rest before between
      → Breaks e limits mid rest between after fault → Breaks e limits old bytes before after fault
  goes-wrong old mid bytes rest before between after fault a (of_bytes f events is told) =
      of_bytes f (a.events ++ events) (a.is ∙ ap (telling a.events) is) (takes-both a.events events before between after a.told told)
  goes-wrong old mid bytes rest before between after fault a (of_memory front others is told) =
      of_memory (a.events ++ front) others
      (ap (λ (r : Read). r.events) a.is ∙ ap (λ es. a.events ++ es) is ∙ sym (append_assoc a.events front others))
      (takes-both a.events front before between after a.told told)

  -- At the end of the bytes all was read.
  pub goes-to-end : (old mid : Cursor) (bytes rest : List ℕ) (before after : List Event → Type 0) → length rest ≡ 0 →
      GoesOn e limits old mid bytes rest before after
      → Reaches e limits old mid bytes rest before after
  unfolding read
  goes-to-end old mid bytes [] before after none a = record {
    events = a.events;
    passed = a.passed;
    parts = a.parts;
    is = a.is ∙ ap (λ es. record { events = es; stands = waits mid.open_elements mid.place [] }) (append-nil a.events);
    told = a.told;
    at = a.at;
    searched = few-searched mid.search [] a.at.fits (omega arith);
    room = λ b more is. absurd (cc is);
    ends_within = λ ended. let within : mid.place ≤ limits.bytes = a.at.within in omega (arith, within);
  }
  goes-to-end old mid bytes (b ∷ rest) before after none a = absurd (omega arith)
