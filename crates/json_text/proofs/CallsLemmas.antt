-- The calls that write values append their text.
use Rattle.std.proofs.Common.{◌≡◌, ℕ, ◌+◌, ◌-◌, ◌≤◌, ◌<◌, Bool, true, false, ◌&&◌, List, [], ◌∷◌, ◌++◌, Option, Some, None}
use Rattle.std.proofs.Common.{refl, ap, sym, ◌∙◌, append_assoc, append-nil, arith}
use Rattle.std.specs.Prelude.{nat_lt, encode_utf8_all}
use Rattle.std.specs.Fmt.{decimal}
use Rattle.std.proofs.lemmas.Bool.{lt-ltb}
use Rattle.std.proofs.lemmas.Str.{encodes-append}
use Rattle.inv_base.specs.Outside.{SinkView}
use Rattle.inv_base.specs.Printing.{Prints}
use Rattle.inv_base.proofs.PrintingLemmas.{Prints-append, Prints-same}
use Rattle.json_text.specs.declared.state.TheConstants.{DEEPEST}
use Rattle.json_text.specs.declared.state.JsonPlace.{JsonPlace}
use Rattle.json_text.specs.declared.state.JsonPlace.TheVariants.{Here, First, Behind}
use Rattle.json_text.specs.declared.state.JsonState.{JsonState}
use Rattle.json_text.specs.declared.state.Container.{Container}
use Rattle.json_text.specs.declared.state.Container.TheVariants.{Object, Array}
use Rattle.json_text.specs.Json.{Json, nothing, a_text, a_number, an_array, an_object, is_nothing, nesting}
use Rattle.json_text.specs.Layout.{string_text, new_line, lead, name_text, name_if_any, closing_line, layout, document}
use Rattle.json_text.specs.Calls.{Call, call_text, call_number, call_begin, call_end, call_finish, opening, closing, fresh, appended_by, state_behind}
use Rattle.json_text.specs.Calls.{appended_by_all, behind_all, are_allowed, name_calls, calls_of, document_calls}

-- calls, and then more
pub appended_by_all-append : (s : JsonState) (calls more : List Call) → appended_by_all s (calls ++ more) ≡ appended_by_all s calls ++
    appended_by_all (behind_all s calls) more
appended_by_all-append s [] more = refl
appended_by_all-append s (call ∷ calls) more =
    ap (λ x. appended_by s call ++ x) (appended_by_all-append (state_behind s call) calls more)
    ∙ sym (append_assoc (appended_by s call) (appended_by_all (state_behind s call) calls) (appended_by_all (behind_all (state_behind s call) calls) more))

pub behind_all-append : (s : JsonState) (calls more : List Call) → behind_all s (calls ++ more) ≡ behind_all (behind_all s calls) more
behind_all-append s [] more = refl
behind_all-append s (call ∷ calls) more = behind_all-append (state_behind s call) calls more

-- For callers, whose calls so far were printed: more calls.
pub Prints-more_calls : (s : JsonState) (calls more : List Call) (f g h : Bool) (r t u : SinkView)
    → Prints (encode_utf8_all (appended_by_all s calls)) f g r t
    → Prints (encode_utf8_all (appended_by_all (behind_all s calls) more)) g h t u
    → Prints (encode_utf8_all (appended_by_all s (calls ++ more))) f h r u
Prints-more_calls s calls more f g h r t u so_far then =
    Prints-same _ _ f h r u
    (sym (ap encode_utf8_all (appended_by_all-append s calls more) ∙ encodes-append (appended_by_all s calls) (appended_by_all (behind_all s calls) more)))
    (Prints-append _ _ f g h r t u so_far then)

-- one more call
pub Prints-one_more : (s : JsonState) (calls : List Call) (call : Call) (f g h : Bool) (r t u : SinkView)
    → Prints (encode_utf8_all (appended_by_all s calls)) f g r t
    → Prints (encode_utf8_all (appended_by (behind_all s calls) call)) g h t u
    → Prints (encode_utf8_all (appended_by_all s (calls ++ call ∷ []))) f h r u
Prints-one_more s calls call f g h r t u so_far one = Prints-more_calls s calls (call ∷ []) f g h r t u so_far
    (Prints-same _ _ g h t u (ap encode_utf8_all (sym (append-nil (appended_by (behind_all s calls) call)))) one)

abbrev state_at : ℕ → JsonPlace → JsonState
state_at depth place = record { depth = depth; place = place }

-- the place behind values
abbrev place_behind : JsonPlace → Json → JsonPlace
place_behind place nothing = place
place_behind place (a_text name characters rest) = Behind
place_behind place (a_number name n rest) = Behind
place_behind place (an_array name inside rest) = Behind
place_behind place (an_object name inside rest) = Behind

place_behind-again : (values : Json) → place_behind Behind values ≡ Behind
place_behind-again nothing = refl
place_behind-again (a_text name characters rest) = refl
place_behind-again (a_number name n rest) = refl
place_behind-again (an_array name inside rest) = refl
place_behind-again (an_object name inside rest) = refl

-- what values append, and then more calls
abbrev Appends : Json → ℕ → JsonPlace → List Call → Type 0
Appends values depth place more =
    appended_by_all (state_at depth place) (calls_of values ++ more) ≡ layout depth place values ++
    appended_by_all (state_at depth (place_behind place values)) more

-- behind another value
again : (values : Json) (depth : ℕ) (more : List Call) → Appends values depth Behind more
    → appended_by_all (state_at depth Behind) (calls_of values ++ more) ≡ layout depth Behind values ++ appended_by_all (state_at depth Behind) more
again values depth more e = e ∙ ap (λ p. layout depth Behind values ++ appended_by_all (state_at depth p) more) (place_behind-again values)

-- A name comes before its value.
named-append : (name : Option (List ℕ)) (depth : ℕ) (place : JsonPlace) (calls : List Call) (text : List ℕ)
    → ((p : JsonPlace) → appended_by_all (state_at depth p) calls ≡ lead p depth ++ text)
    → appended_by_all (state_at depth place) (name_calls name ++ calls) ≡ lead place depth ++ (name_if_any name ++ text)
named-append None depth place calls text e = e place
named-append (Some name) depth place calls text e =
    ap (λ x. (lead place depth ++ name_text name) ++ x) (e Here) ∙ append_assoc (lead place depth) (name_text name) text

-- a text or a number, and what follows it
scalar-append : (call : Call) (text : List ℕ) (name : Option (List ℕ)) (rest : Json) (depth : ℕ) (place : JsonPlace) (more : List Call)
    → ((p : JsonPlace) → appended_by (state_at depth p) call ≡ lead p depth ++ text)
    → ((p : JsonPlace) → state_behind (state_at depth p) call ≡ state_at depth Behind)
    → Appends rest depth Behind more
    → appended_by_all (state_at depth place) ((name_calls name ++ call ∷ calls_of rest) ++ more)
    ≡ (lead place depth ++ (name_if_any name ++ (text ++ layout depth Behind rest))) ++ appended_by_all (state_at depth Behind) more
scalar-append call text name rest depth place more appends behind e =
    let after = appended_by_all (state_at depth Behind) more in
    ap (appended_by_all (state_at depth place)) (append_assoc (name_calls name) (call ∷ calls_of rest) more)
    ∙ (named-append name depth place (call ∷ (calls_of rest ++ more)) (text ++ (layout depth Behind rest ++ after))
    (λ p.
    ap (λ x. x ++ appended_by_all (state_behind (state_at depth p) call) (calls_of rest ++ more)) (appends p)
    ∙ (append_assoc (lead p depth) text (appended_by_all (state_behind (state_at depth p) call) (calls_of rest ++ more))
    ∙ ap (λ x. lead p depth ++ (text ++ x)) (ap (λ s. appended_by_all s (calls_of rest ++ more)) (behind p) ∙ again rest depth more e)))
    ∙ simp append_assoc)

-- the end of an array or object
end-append : (inside : Json) (depth : ℕ) (kind : Container) (calls : List Call)
    → appended_by_all (state_at (depth + 1) (place_behind First inside)) (call_end kind ∷ calls)
    ≡ closing_line depth inside ++ closing kind ∷ appended_by_all (state_at depth Behind) calls
end-append inside depth kind calls = by inside
  where
    same : (depth + 1) - 1 ≡ depth
    same = omega arith

    full : (new_line ((depth + 1) - 1) ++ closing kind ∷ []) ++ appended_by_all (state_at ((depth + 1) - 1) Behind) calls
        ≡ new_line depth ++ closing kind ∷ appended_by_all (state_at depth Behind) calls
    full =
        ap (λ d. (new_line d ++ closing kind ∷ []) ++ appended_by_all (state_at d Behind) calls) same
        ∙ append_assoc (new_line depth) (closing kind ∷ []) (appended_by_all (state_at depth Behind) calls)

    by : (values : Json) → appended_by_all (state_at (depth + 1) (place_behind First values)) (call_end kind ∷ calls)
        ≡ closing_line depth values ++ closing kind ∷ appended_by_all (state_at depth Behind) calls
    by nothing = ap (λ d. closing kind ∷ appended_by_all (state_at d Behind) calls) same
    by (a_text name characters rest) = full
    by (a_number name n rest) = full
    by (an_array name within rest) = full
    by (an_object name within rest) = full

container_calls-append : (kind : Container) (name : Option (List ℕ)) (inside rest : Json) (more : List Call)
    → (name_calls name ++ call_begin kind ∷ (calls_of inside ++ call_end kind ∷ calls_of rest)) ++ more
    ≡ name_calls name ++ call_begin kind ∷ (calls_of inside ++ call_end kind ∷ (calls_of rest ++ more))
container_calls-append kind name inside rest more =
    append_assoc (name_calls name) (call_begin kind ∷ (calls_of inside ++ call_end kind ∷ calls_of rest)) more
    ∙ ap (λ calls. name_calls name ++ call_begin kind ∷ calls) (append_assoc (calls_of inside) (call_end kind ∷ calls_of rest) more)

-- an array or object, and what follows it
container-append : (kind : Container) (name : Option (List ℕ)) (inside rest : Json) (depth : ℕ) (place : JsonPlace) (more : List Call)
    → ((after : List Call) → Appends inside (depth + 1) First after)
    → Appends rest depth Behind more
    → appended_by_all (state_at depth place) ((name_calls name ++ call_begin kind ∷ (calls_of inside ++ call_end kind ∷ calls_of rest)) ++ more)
    ≡ (lead place depth ++ (name_if_any name
    ++ opening kind ∷ (layout (depth + 1) First inside ++ (closing_line depth inside ++ closing kind ∷ layout depth Behind rest))))
    ++ appended_by_all (state_at depth Behind) more
container-append kind name inside rest depth place more e f =
    let after = appended_by_all (state_at depth Behind) more in
    let last : List Call = call_end kind ∷ (calls_of rest ++ more) in
    let within = layout (depth + 1) First inside in
    let text = opening kind ∷ (within ++ (closing_line depth inside ++ closing kind ∷ (layout depth Behind rest ++ after))) in
    ap (appended_by_all (state_at depth place)) (container_calls-append kind name inside rest more)
    ∙ (named-append name depth place (call_begin kind ∷ (calls_of inside ++ last)) text
    (λ p.
    append_assoc (lead p depth) (opening kind ∷ []) (appended_by_all (state_at (depth + 1) First) (calls_of inside ++ last))
    ∙ ap (λ x. lead p depth ++ opening kind ∷ x)
    (e last
    ∙ ap (λ x. within ++ x)
    (end-append inside depth kind (calls_of rest ++ more)
    ∙ ap (λ x. closing_line depth inside ++ closing kind ∷ x) (again rest depth more f))))
    ∙ simp append_assoc)

-- The calls that write values append their text.
pub calls_of-append : (values : Json) (depth : ℕ) (place : JsonPlace) (more : List Call) → Appends values depth place more
calls_of-append nothing depth place more = refl
calls_of-append (a_text name characters rest) depth place more =
    scalar-append (call_text characters) (string_text characters) name rest depth place more (λ p. refl) (λ p. refl)
    (calls_of-append rest depth Behind more)
calls_of-append (a_number name n rest) depth place more =
    scalar-append (call_number n) (decimal n) name rest depth place more (λ p. refl) (λ p. refl) (calls_of-append rest depth Behind more)
calls_of-append (an_array name inside rest) depth place more =
    container-append Array name inside rest depth place more (calls_of-append inside (depth + 1) First) (calls_of-append rest depth Behind more)
calls_of-append (an_object name inside rest) depth place more =
    container-append Object name inside rest depth place more (calls_of-append inside (depth + 1) First) (calls_of-append rest depth Behind more)

pub calls_of-layout : (s : JsonState) (values : Json) → appended_by_all s (calls_of values) ≡ layout s.depth s.place values
calls_of-layout s values =
    ap (appended_by_all s) (sym (append-nil (calls_of values))) ∙
    (calls_of-append values s.depth s.place [] ∙ append-nil (layout s.depth s.place values))

pub document_calls-append : (value : Json) → appended_by_all fresh (document_calls value) ≡ document value
document_calls-append value = calls_of-append value 0 Here (call_finish ∷ [])

-- the state behind values, and then behind more calls
abbrev Leaves : Json → ℕ → JsonPlace → List Call → Type 0
Leaves values depth place more =
    behind_all (state_at depth place) (calls_of values ++ more) ≡ behind_all (state_at depth (place_behind place values)) more

leaves-again : (values : Json) (depth : ℕ) (more : List Call) → Leaves values depth Behind more
    → behind_all (state_at depth Behind) (calls_of values ++ more) ≡ behind_all (state_at depth Behind) more
leaves-again values depth more e = e ∙ ap (λ p. behind_all (state_at depth p) more) (place_behind-again values)

named-leaves : (name : Option (List ℕ)) (depth : ℕ) (place : JsonPlace) (calls : List Call) (s : JsonState)
    → ((p : JsonPlace) → behind_all (state_at depth p) calls ≡ s) → behind_all (state_at depth place) (name_calls name ++ calls) ≡ s
named-leaves None depth place calls s e = e place
named-leaves (Some name) depth place calls s e = e Here

container-leaves : (kind : Container) (name : Option (List ℕ)) (inside rest : Json) (depth : ℕ) (place : JsonPlace) (more : List Call)
    → ((after : List Call) → Leaves inside (depth + 1) First after)
    → Leaves rest depth Behind more
    → behind_all (state_at depth place) ((name_calls name ++ call_begin kind ∷ (calls_of inside ++ call_end kind ∷ calls_of rest)) ++ more)
    ≡ behind_all (state_at depth Behind) more
container-leaves kind name inside rest depth place more e f =
    let last : List Call = call_end kind ∷ (calls_of rest ++ more) in
    let same : (depth + 1) - 1 ≡ depth = omega arith in
    ap (behind_all (state_at depth place)) (container_calls-append kind name inside rest more)
    ∙ named-leaves name depth place (call_begin kind ∷ (calls_of inside ++ last)) (behind_all (state_at depth Behind) more)
    (λ p. e last ∙ (ap (λ d. behind_all (state_at d Behind) (calls_of rest ++ more)) same ∙ leaves-again rest depth more f))

scalar-leaves : (call : Call) (name : Option (List ℕ)) (rest : Json) (depth : ℕ) (place : JsonPlace) (more : List Call)
    → ((p : JsonPlace) → state_behind (state_at depth p) call ≡ state_at depth Behind)
    → Leaves rest depth Behind more
    → behind_all (state_at depth place) ((name_calls name ++ call ∷ calls_of rest) ++ more) ≡ behind_all (state_at depth Behind) more
scalar-leaves call name rest depth place more behind e =
    ap (behind_all (state_at depth place)) (append_assoc (name_calls name) (call ∷ calls_of rest) more)
    ∙ named-leaves name depth place (call ∷ (calls_of rest ++ more)) (behind_all (state_at depth Behind) more)
    (λ p. ap (λ s. behind_all s (calls_of rest ++ more)) (behind p) ∙ leaves-again rest depth more e)

calls_of-leave : (values : Json) (depth : ℕ) (place : JsonPlace) (more : List Call) → Leaves values depth place more
calls_of-leave nothing depth place more = refl
calls_of-leave (a_text name characters rest) depth place more =
    scalar-leaves (call_text characters) name rest depth place more (λ p. refl) (calls_of-leave rest depth Behind more)
calls_of-leave (a_number name n rest) depth place more =
    scalar-leaves (call_number n) name rest depth place more (λ p. refl) (calls_of-leave rest depth Behind more)
calls_of-leave (an_array name inside rest) depth place more =
    container-leaves Array name inside rest depth place more (calls_of-leave inside (depth + 1) First) (calls_of-leave rest depth Behind more)
calls_of-leave (an_object name inside rest) depth place more =
    container-leaves Object name inside rest depth place more (calls_of-leave inside (depth + 1) First) (calls_of-leave rest depth Behind more)

place_behind-some : (values : Json) (place : JsonPlace) → is_nothing values ≡ false → place_behind place values ≡ Behind
place_behind-some nothing place e = cc
place_behind-some (a_text name characters rest) place e = refl
place_behind-some (a_number name n rest) place e = refl
place_behind-some (an_array name inside rest) place e = refl
place_behind-some (an_object name inside rest) place e = refl

-- The calls of values leave the pen behind these, as deep as before.
pub calls_of-state : (s : JsonState) (values : Json) → is_nothing values ≡ false → behind_all s (calls_of values) ≡ record { depth = s.depth; place = Behind }
calls_of-state s values some =
    ap (behind_all s) (sym (append-nil (calls_of values)))
    ∙ (calls_of-leave values s.depth s.place [] ∙ ap (state_at s.depth) (place_behind-some values s.place some))

-- whether the calls of values, and then more calls, may be made
abbrev Allows : Json → ℕ → JsonPlace → List Call → Type 0
Allows values depth place more =
    are_allowed (state_at depth place) (calls_of values ++ more) ≡ are_allowed (state_at depth (place_behind place values)) more

allows-again : (values : Json) (depth : ℕ) (more : List Call) → Allows values depth Behind more
    → are_allowed (state_at depth Behind) (calls_of values ++ more) ≡ are_allowed (state_at depth Behind) more
allows-again values depth more e = e ∙ ap (λ p. are_allowed (state_at depth p) more) (place_behind-again values)

named-allows : (name : Option (List ℕ)) (depth : ℕ) (place : JsonPlace) (calls : List Call) (b : Bool)
    → ((p : JsonPlace) → are_allowed (state_at depth p) calls ≡ b) → are_allowed (state_at depth place) (name_calls name ++ calls) ≡ b
named-allows None depth place calls b e = e place
named-allows (Some name) depth place calls b e = e Here

container-allows : (kind : Container) (name : Option (List ℕ)) (inside rest : Json) (depth : ℕ) (place : JsonPlace) (more : List Call)
    → depth < DEEPEST
    → ((after : List Call) → Allows inside (depth + 1) First after)
    → Allows rest depth Behind more
    → are_allowed (state_at depth place) ((name_calls name ++ call_begin kind ∷ (calls_of inside ++ call_end kind ∷ calls_of rest)) ++ more)
    ≡ are_allowed (state_at depth Behind) more
container-allows kind name inside rest depth place more h e f =
    let last : List Call = call_end kind ∷ (calls_of rest ++ more) in
    let same : (depth + 1) - 1 ≡ depth = omega arith in
    let opened : nat_lt 0 (depth + 1) ≡ true = lt-ltb 0 (depth + 1) (omega arith) in
    ap (are_allowed (state_at depth place)) (container_calls-append kind name inside rest more)
    ∙ named-allows name depth place (call_begin kind ∷ (calls_of inside ++ last)) (are_allowed (state_at depth Behind) more)
    (λ p.
    ap (λ b. b && are_allowed (state_at (depth + 1) First) (calls_of inside ++ last)) (lt-ltb depth DEEPEST h)
    ∙ (e last
    ∙ (ap (λ b. b && are_allowed (state_at ((depth + 1) - 1) Behind) (calls_of rest ++ more)) opened
    ∙ (ap (λ d. are_allowed (state_at d Behind) (calls_of rest ++ more)) same ∙ allows-again rest depth more f))))

scalar-allows : (call : Call) (name : Option (List ℕ)) (rest : Json) (depth : ℕ) (place : JsonPlace) (more : List Call)
    → ((p : JsonPlace) (calls : List Call) → are_allowed (state_at depth p) (call ∷ calls) ≡ are_allowed (state_at depth Behind) calls)
    → Allows rest depth Behind more
    → are_allowed (state_at depth place) ((name_calls name ++ call ∷ calls_of rest) ++ more) ≡ are_allowed (state_at depth Behind) more
scalar-allows call name rest depth place more first e =
    ap (are_allowed (state_at depth place)) (append_assoc (name_calls name) (call ∷ calls_of rest) more)
    ∙ named-allows name depth place (call ∷ (calls_of rest ++ more)) (are_allowed (state_at depth Behind) more)
    (λ p. first p (calls_of rest ++ more) ∙ allows-again rest depth more e)

calls_of-allow : (values : Json) (depth : ℕ) (place : JsonPlace) (more : List Call) → depth + nesting values ≤ DEEPEST → Allows values depth place more
calls_of-allow nothing depth place more h = refl
calls_of-allow (a_text name characters rest) depth place more h =
    scalar-allows (call_text characters) name rest depth place more (λ p calls. refl) (calls_of-allow rest depth Behind more h)
calls_of-allow (a_number name n rest) depth place more h =
    scalar-allows (call_number n) name rest depth place more (λ p calls. refl) (calls_of-allow rest depth Behind more h)
calls_of-allow (an_array name inside rest) depth place more h =
    container-allows Array name inside rest depth place more (omega arith) (λ after. calls_of-allow inside (depth + 1) First after (omega arith))
    (calls_of-allow rest depth Behind more (omega arith))
calls_of-allow (an_object name inside rest) depth place more h =
    container-allows Object name inside rest depth place more (omega arith) (λ after. calls_of-allow inside (depth + 1) First after (omega arith))
    (calls_of-allow rest depth Behind more (omega arith))

-- They may be made where arrays and objects aren't too deep inside one another.
pub calls_of-allowed : (s : JsonState) (values : Json) → s.depth + nesting values ≤ DEEPEST → are_allowed s (calls_of values) ≡ true
calls_of-allowed s values h = ap (are_allowed s) (sym (append-nil (calls_of values))) ∙ calls_of-allow values s.depth s.place [] h

pub document_calls-allowed : (value : Json) → nesting value ≤ DEEPEST → are_allowed fresh (document_calls value) ≡ true
document_calls-allowed value h = calls_of-allow value 0 Here (call_finish ∷ []) (omega arith)
