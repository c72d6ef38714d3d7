-- The calls of a pen, what each appends by the pen's state, and the calls that write data.
use Rattle.std.specs.Prelude.{ℕ, ◌+◌, ◌-◌, Bool, true, ◌&&◌, nat_lt, List, [], ◌∷◌, ◌++◌, Option, Some, None, decimal}
use Rattle.json_text.specs.declared.state.JsonPlace.{JsonPlace}
use Rattle.json_text.specs.declared.state.JsonPlace.TheVariants.{Here, First, Behind}
use Rattle.json_text.specs.declared.state.JsonState.{JsonState}
use Rattle.json_text.specs.declared.state.TheConstants.{DEEPEST}
use Rattle.json_text.specs.declared.state.Container.{Container}
use Rattle.json_text.specs.declared.state.Container.TheVariants as container
use Rattle.json_text.specs.Json.{Json, nothing, a_text, a_number, an_array, an_object}
use Rattle.json_text.specs.Layout.{string_text, new_line, lead, name_text}

-- A call and what it is given: a member's name, a text, a number, or the kind of what begins or ends. The last one ends the text.
pub data Call : Type 0 where
  call_name : List ℕ → Call
  call_text : List ℕ → Call
  call_number : ℕ → Call
  call_begin : Container → Call
  call_end : Container → Call
  call_finish : Call

abbrev pub opening : Container → ℕ
opening container.Object = 0x7B
opening container.Array = 0x5B

abbrev pub closing : Container → ℕ
closing container.Object = 0x7D
closing container.Array = 0x5D

-- before any call
abbrev pub fresh : JsonState
fresh = record { depth = 0; place = Here }

-- what leads the bracket that ends what is open at a depth
abbrev pub end_lead : JsonPlace → ℕ → List ℕ
end_lead Here depth = []
end_lead First depth = []
end_lead Behind depth = new_line (depth - 1)

-- what a call appends
abbrev pub appended_by : JsonState → Call → List ℕ
appended_by s (call_name name) = lead s.place s.depth ++ name_text name
appended_by s (call_text characters) = lead s.place s.depth ++ string_text characters
appended_by s (call_number n) = lead s.place s.depth ++ decimal n
appended_by s (call_begin kind) = lead s.place s.depth ++ opening kind ∷ []
appended_by s (call_end kind) = end_lead s.place s.depth ++ closing kind ∷ []
appended_by s call_finish = 0xA ∷ []

-- the state behind a call
abbrev pub state_behind : JsonState → Call → JsonState
state_behind s (call_name name) = record { depth = s.depth; place = Here }
state_behind s (call_text characters) = record { depth = s.depth; place = Behind }
state_behind s (call_number n) = record { depth = s.depth; place = Behind }
state_behind s (call_begin kind) = record { depth = s.depth + 1; place = First }
state_behind s (call_end kind) = record { depth = s.depth - 1; place = Behind }
state_behind s call_finish = s

-- the call may be made in the state: what begins isn't too deep, and what ends has begun
abbrev pub is_allowed : JsonState → Call → Bool
is_allowed s (call_name name) = true
is_allowed s (call_text characters) = true
is_allowed s (call_number n) = true
is_allowed s (call_begin kind) = nat_lt s.depth DEEPEST
is_allowed s (call_end kind) = nat_lt 0 s.depth
is_allowed s call_finish = true

-- what calls in a row append, the first of them in the state
abbrev pub appended_by_all : JsonState → List Call → List ℕ
appended_by_all s [] = []
appended_by_all s (call ∷ calls) = appended_by s call ++ appended_by_all (state_behind s call) calls

-- the state behind calls in a row
abbrev pub behind_all : JsonState → List Call → JsonState
behind_all s [] = s
behind_all s (call ∷ calls) = behind_all (state_behind s call) calls

-- each of the calls may be made where its turn comes
abbrev pub are_allowed : JsonState → List Call → Bool
are_allowed s [] = true
are_allowed s (call ∷ calls) = is_allowed s call && are_allowed (state_behind s call) calls

abbrev pub name_calls : Option (List ℕ) → List Call
name_calls (Some name) = call_name name ∷ []
name_calls None = []

-- the calls that write values side by side
abbrev pub calls_of : Json → List Call
calls_of nothing = []
calls_of (a_text name characters rest) = name_calls name ++ call_text characters ∷ calls_of rest
calls_of (a_number name n rest) = name_calls name ++ call_number n ∷ calls_of rest
calls_of (an_array name inside rest) =
    name_calls name ++ call_begin container.Array ∷ (calls_of inside ++ call_end container.Array ∷ calls_of rest)
calls_of (an_object name inside rest) =
    name_calls name ++ call_begin container.Object ∷ (calls_of inside ++ call_end container.Object ∷ calls_of rest)

-- the calls that write the whole text of a value
abbrev pub document_calls : Json → List Call
document_calls value = calls_of value ++ call_finish ∷ []
