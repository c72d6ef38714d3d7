-- What contracts see of a reader's fields, and what its calls do to them.
use Rattle.std.specs.Prelude.{◌≡◌, ◌≢◌, ℕ, false, true, List, [], Option, Some, None, Result, Err, MatchResult}
use Rattle.inv_base.specs.Tree.{Name}
use Rattle.xml_events.specs.Events.{Event, TakesAll}
use Rattle.xml_state.specs.Taking.{TakesFront}
use Rattle.xml_state.specs.declared.fault.TheConstants.XmlFault.{WANT_OF_MEMORY}
use Rattle.xml_state.specs.declared.fault.XmlFault.{XmlFault}
use Rattle.xml_state.specs.declared.limits.Limits.{Limits}
use Rattle.xml_profile.specs.TokenByToken.{Standing, resume}
use Rattle.xml_profile.specs.Keeping.{Kept, stopped, kept_of}
use Rattle.xml_profile.specs.Profile.{fault_of_whole, names_of}
use Rattle.xml_profile.specs.Readers.{Progress, fault_of_reader, HasMemory, Answers}
use Rattle.xml_profile.specs.Courses.{kept_going, IsGoing}
use Rattle.xml_profile.specs.declared.cursor.Cursor.{Cursor}
use Rattle.xml_profile.specs.declared.cursor.Inside.{Inside}

-- what is kept, by the fault that was answered if any, and by what stands behind so many bytes before the rest or inside
-- a comment or instruction
abbrev pub kept_with : Option XmlFault → Option Inside → Cursor → List ℕ → Kept
kept_with None held cursor rest = kept_going held cursor rest
kept_with (Some fault) held cursor rest = stopped fault

abbrev pub progress_of : Limits → Option XmlFault → Option Inside → Cursor → List ℕ → Progress
progress_of limits fault held cursor rest = record { limits = limits; stands = kept_with fault held cursor rest }

-- Reading goes on, unless a fault was answered, behind which nothing is kept.
abbrev pub IsSound : Limits → Option XmlFault → Option Inside → Cursor → List ℕ → Type 0
IsSound limits None held cursor rest = IsGoing limits held cursor rest
IsSound limits (Some fault) held cursor rest = rest ≡ []

-- What a further piece does to a reader, wherever reading stands of which this is kept.
pub record Feeds {T : Type 0} (result : Result T XmlFault) (old new : Progress) (piece : List ℕ) (before after : List Event → Type 0) : Type 0 where
  pub limits : new.limits ≡ old.limits
  pub answer : Answers result (fault_of_reader new)
  pub stands : HasMemory new → (at : Standing) → kept_of at ≡ old.stands → new.stands ≡ kept_of (resume false old.limits at piece).stands
  pub within : (at : Standing) → kept_of at ≡ old.stands → TakesFront (resume false old.limits at piece).events before after
  pub all : HasMemory new → (at : Standing) → kept_of at ≡ old.stands → TakesAll (resume false old.limits at piece).events before after
  pub stopped : fault_of_reader old ≢ None → (new ≡ old) × TakesAll [] before after

-- What is left isn't a document's end, or memory ran out.
pub data FailsToEnd (limits : Limits) (at : Standing) (before after : List Event → Type 0) : XmlFault → Type 0 where
  of_end : (fault : XmlFault) → fault_of_whole (resume true limits at []).stands ≡ Some fault → TakesAll (resume true limits at []).events before after
      → FailsToEnd limits at before after fault
  of_lack : TakesFront (resume true limits at []).events before after → FailsToEnd limits at before after WANT_OF_MEMORY

-- What is left is a document's end.
pub record EndsWell (limits : Limits) (at : Standing) (names : List Name) (before after : List Event → Type 0) : Type 0 where
  pub document : fault_of_whole (resume true limits at []).stands ≡ None
  pub named : names ≡ names_of (resume true limits at []).stands
  pub told : TakesAll (resume true limits at []).events before after

-- What the end does to a reader, wherever reading stands of which this is kept.
pub record EndsAt (result : Result (List Name) XmlFault) (old : Progress) (before after : List Event → Type 0) : Type 0 where
  pub ended : (at : Standing) → kept_of at ≡ old.stands → MatchResult result (λ names. EndsWell old.limits at names before after)
      (λ fault. FailsToEnd old.limits at before after fault)
  pub stopped : (fault : XmlFault) → fault_of_reader old ≡ Some fault → (result ≡ Err fault) × TakesAll [] before after
