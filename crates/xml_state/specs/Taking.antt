-- One token taken behind others, as the code takes it.
use Rattle.std.specs.Prelude.{◌≡◌, ℕ, false, true, List, [], ◌∷◌, ◌++◌, Some, None, Result, MatchResult}
use Rattle.xml_tokens.specs.declared.kind.XmlKind.{XmlKind}
use Rattle.xml_tokens.specs.declared.kind.XmlKind.TheVariants.{TooManyNodes}
use Rattle.xml_tokens.specs.Markup.{Token}
use Rattle.xml_events.specs.Events.{Event, has_text, TakesAll}
use Rattle.xml_state.specs.declared.limits.Limits.{Limits}
use Rattle.xml_state.specs.States.{State, state_behind, behind_text, events_of}
use Rattle.xml_state.specs.Admission.{fault_of, is_text_too_many}
use Rattle.xml_state.specs.Faults.{fault_at}
use Rattle.xml_state.specs.declared.fault.TheConstants.XmlFault.{WANT_OF_MEMORY}
use Rattle.xml_state.specs.declared.fault.XmlFault.{XmlFault}

-- The token may stand behind the old state, the new one is behind it, and what it tells was taken.
pub record Advances (limits : Limits) (old new : State) (token : Token) (place : ℕ) (before after : List Event → Type 0) : Type 0 where
  pub admitted : fault_of limits old token ≡ None
  pub behind : new ≡ state_behind old token
  pub told : TakesAll (events_of old token place) before after

-- A front of the events was taken.
pub record TakesFront (events : List Event) (before after : List Event → Type 0) : Type 0 where
  pub front : List Event
  pub others : List Event
  pub is : events ≡ front ++ others
  pub told : TakesAll front before after

-- Memory ran out: behind a front of what the token tells, where it may stand here, or before anything was told. Or the
-- token may not stand here and nothing was told.
pub data Refused (limits : Limits) (s : State) (token : Token) (place : ℕ) (before after : List Event → Type 0) : XmlFault → Type 0 where
  of_memory : fault_of limits s token ≡ None → TakesFront (events_of s token place) before after → Refused limits s token place before after WANT_OF_MEMORY
  at_once : TakesAll [] before after → Refused limits s token place before after WANT_OF_MEMORY
  of_token : (kind : XmlKind) → fault_of limits s token ≡ Some kind → TakesAll [] before after
      → Refused limits s token place before after (fault_at kind place)

abbrev pub TakesToken : {T : Type 0} → Result T XmlFault → Limits → State → State → Token → ℕ → (List Event → Type 0) → (List Event → Type 0) → Type 0
TakesToken result limits old new token place before after = MatchResult result
    (λ _. Advances limits old new token place before after)
    (λ fault. Refused limits old token place before after fault)

-- Characters inside an element were taken as one piece of a text.
pub record AdvancesText (limits : Limits) (old new : State) (text : List ℕ) (place : ℕ) (before after : List Event → Type 0) : Type 0 where
  pub admitted : is_text_too_many limits old ≡ false
  pub behind : new ≡ behind_text old
  pub told : TakesAll (has_text text place ∷ []) before after

-- Memory ran out, or a text would be a node too many; nothing was taken.
pub data RefusedText (limits : Limits) (s : State) (place : ℕ) (before after : List Event → Type 0) : XmlFault → Type 0 where
  text_of_memory : TakesAll [] before after → RefusedText limits s place before after WANT_OF_MEMORY
  text_too_many : is_text_too_many limits s ≡ true → TakesAll [] before after
      → RefusedText limits s place before after (fault_at TooManyNodes place)

abbrev pub TakesText : {T : Type 0} → Result T XmlFault → Limits → State → State → List ℕ → ℕ → (List Event → Type 0) → (List Event → Type 0) → Type 0
TakesText result limits old new text place before after = MatchResult result
    (λ _. AdvancesText limits old new text place before after)
    (λ fault. RefusedText limits old place before after fault)

-- All of the events were taken, or memory ran out behind a front of them.
abbrev pub Tells : {T E : Type 0} → Result T E → List Event → (List Event → Type 0) → (List Event → Type 0) → Type 0
Tells result events before after = MatchResult result (λ _. TakesAll events before after) (λ _. TakesFront events before after)

-- A front of the events was taken, and these are left.
pub record TakesUpTo (events others : List Event) (before after : List Event → Type 0) : Type 0 where
  pub front : List Event
  pub is : events ≡ front ++ others
  pub told : TakesAll front before after
