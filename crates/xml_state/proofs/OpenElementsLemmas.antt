-- One token behind others: texts, asides and end tags.
use Rattle.std.proofs.Common.{◌≡◌, ℕ, ◌+◌, Bool, true, false, not, ◌&&◌, ◌==◌, List, [], ◌∷◌, length, Some, None, Result, Ok, Err, refl, sym, ap, ◌∙◌, subst}
use Rattle.std.proofs.Common.{if◌then◌else◌}
use Rattle.std.proofs.lemmas.Bool.{true≢false}
use Rattle.inv_base.specs.Characters.{is_white_space}
use Rattle.xml_tokens.specs.declared.kind.XmlKind.TheVariants.{TextOutside, NameTooLong, Mismatched, TooManyNodes}
use Rattle.xml_tokens.specs.Markup.{Token, a_mark, an_aside, a_character, a_reference, a_section, an_end_tag}
use Rattle.xml_tokens.specs.declared.beginning.Position.TheVariants.{Farther}
use Rattle.xml_state.specs.Admission.{fault_of, is_text_too_many, is_long_name}
use Rattle.xml_events.specs.Events.{Event, has_text, ends, with_event, with_events, TakesAll}
use Rattle.xml_state.specs.declared.limits.Limits.{Limits}
use Rattle.xml_state.specs.Scopes.{around_innermost}
use Rattle.xml_state.specs.Faults.{fault_at}
use Rattle.xml_state.specs.declared.fault.TheConstants.XmlFault.{WANT_OF_MEMORY}
use Rattle.xml_state.specs.States.{State, Open, is_outside, is_innermost, behind_aside, behind_text, behind_end_tag, state_behind, events_of}
use Rattle.xml_state.specs.Taking.{Advances, Refused, of_memory, at_once, of_token, TakesToken, RefusedText, text_of_memory, text_too_many, TakesText}
use Rattle.xml_state.specs.declared.fault.XmlFault.{XmlFault}

-- what tells nothing
pub mark_passed : (limits : Limits) (s new : State) (place : ℕ) (before : List Event → Type 0) → new ≡ state_behind s a_mark →
    Advances limits s new a_mark place before before
unfolding fault_of events_of
mark_passed limits s new place before e = record { admitted = refl; behind = e; told = λ events taken. taken }

pub aside_passed : (limits : Limits) (s new : State) (place : ℕ) (before : List Event → Type 0) → new ≡ behind_aside s →
    Advances limits s new an_aside place before before
unfolding fault_of state_behind events_of
aside_passed limits s new place before e = record { admitted = refl; behind = e; told = λ events taken. taken }

-- white space outside the root
pub blank_passed : (limits : Limits) (s new : State) (c place : ℕ) (before : List Event → Type 0) → (is_outside s && is_white_space c) ≡ true →
    new ≡ behind_aside s → Advances limits s new (a_character c) place before before
unfolding fault_of state_behind events_of
blank_passed limits s new c place before h e =
    let outside : is_outside s ≡ true = (both (is_outside s) (is_white_space c) h).0 in
    let blank : is_white_space c ≡ true = (both (is_outside s) (is_white_space c) h).1 in
    record {
      admitted = ap (λ (b : Bool). if b then (if is_white_space c then None else Some TextOutside) else
          (if is_text_too_many limits s then Some TooManyNodes else None)) outside
          ∙ ap (λ (b : Bool). if b then None else Some TextOutside) blank;
      behind = e ∙ sym (ap (λ (b : Bool). if b then behind_aside s else record s {
        position = Farther;
        in_text = true;
        nodes =
            if s.in_text then s.nodes else s.nodes + 1;
      }) outside);
      told = λ events taken. subst before (sym (ap (λ (b : Bool). with_events events (if b then [] else has_text (c ∷ []) place ∷ [])) outside)) taken;
    }
  where
    both : (a b : Bool) → (a && b) ≡ true → (a ≡ true) × (b ≡ true)
    both true true h = (refl, refl)
    both true false h = absurd (true≢false (sym h))
    both false b h = absurd (true≢false (sym h))

-- A text too many is the only fault of the token, and it tells this text.
pub record TellsText (limits : Limits) (s : State) (token : Token) (text : List ℕ) : Type 0 where
  pub fault : fault_of limits s token ≡ (if is_text_too_many limits s then Some TooManyNodes else None)
  pub behind : state_behind s token ≡ behind_text s
  pub tells : (place : ℕ) → events_of s token place ≡ has_text text place ∷ []

text_refused : (limits : Limits) (s : State) (token : Token) (text : List ℕ) (place : ℕ) (before after : List Event → Type 0) (fault : XmlFault) →
    TellsText limits s token text
    → RefusedText limits s place before after fault → Refused limits s token place before after fault
text_refused limits s token text place before after fault tells (text_of_memory told) = at_once told
text_refused limits s token text place before after fault tells (text_too_many many told) =
    of_token TooManyNodes (tells.fault ∙ ap (λ (b : Bool). if b then Some TooManyNodes else None) many) told

pub text_told : {T : Type 0} (result : Result T XmlFault) (limits : Limits) (s new : State) (token : Token) (text : List ℕ) (place : ℕ)
    (before after : List Event → Type 0) → TellsText limits s token text
    → TakesText result limits s new text place before after → TakesToken result limits s new token place before after
text_told (Ok x) limits s new token text place before after tells h = record {
  admitted = tells.fault ∙ ap (λ (b : Bool). if b then Some TooManyNodes else None) h.admitted;
  behind = h.behind ∙ sym tells.behind;
  told = subst (λ events. TakesAll events before after) (sym (tells.tells place)) h.told;
}
text_told (Err fault) limits s new token text place before after tells h = text_refused limits s token text place before after fault tells h

abbrev inside : {A : Type 0} → Bool → A → A → A
inside b x y = if b then x else y

pub reference_tells : (limits : Limits) (s : State) (c : ℕ) → is_outside s ≡ false → TellsText limits s (a_reference c) (c ∷ [])
unfolding fault_of state_behind events_of
reference_tells limits s c e = record {
  fault = ap (λ b. inside b (Some TextOutside) (if is_text_too_many limits s then Some TooManyNodes else None)) e;
  behind = refl;
  tells = λ place. ap (λ b. inside b [] (has_text (c ∷ []) place ∷ [])) e;
}

pub section_tells : (limits : Limits) (s : State) (text : List ℕ) → is_outside s ≡ false → (length text == 0) ≡ false → TellsText limits s (a_section text) text
unfolding fault_of state_behind events_of
section_tells limits s text e f = record {
  fault = ap (λ b. inside (b && not (is_outside s)) None
      (inside (is_outside s) (Some TextOutside) (if is_text_too_many limits s then Some TooManyNodes else None))) f
      ∙ ap (λ b. inside b (Some TextOutside) (if is_text_too_many limits s then Some TooManyNodes else None)) e;
  behind = ap (λ b. inside b (behind_aside s) (behind_text s)) f;
  tells = λ place. ap (λ b. inside b [] (inside (is_outside s) [] (has_text text place ∷ []))) f ∙ ap (λ b. inside b [] (has_text text place ∷ [])) e;
}

-- A character that isn't white space outside the root is taken as a reference to it is.
pub character_as_reference : {T : Type 0} (result : Result T XmlFault) (limits : Limits) (s new : State) (c place : ℕ) (before after : List Event → Type 0) →
    (is_outside s && is_white_space c) ≡ false
    → TakesToken result limits s new (a_reference c) place before after → TakesToken result limits s new (a_character c) place before after
unfolding fault_of state_behind events_of
character_as_reference {T} result limits s new c place before after h takes = by result takes
  where
    same : (outside blank : Bool) → (outside && blank) ≡ false →
        inside outside (inside blank None (Some TextOutside)) (inside (is_text_too_many limits s) (Some TooManyNodes) None)
        ≡ inside outside (Some TextOutside) (inside (is_text_too_many limits s) (Some TooManyNodes) None)
    same true true h = absurd (true≢false h)
    same true false h = refl
    same false blank h = refl

    refused : (f : XmlFault) → Refused limits s (a_reference c) place before after f → Refused limits s (a_character c) place before after f
    refused f (of_memory fine front) = of_memory (same (is_outside s) (is_white_space c) h ∙ fine) front
    refused f (at_once told) = at_once told
    refused f (of_token kind is told) = of_token kind (same (is_outside s) (is_white_space c) h ∙ is) told

    by : (r : Result T XmlFault) → TakesToken r limits s new (a_reference c) place before after → TakesToken r limits s new (a_character c) place before after
    by (Ok x) a = record { admitted = same (is_outside s) (is_white_space c) h ∙ a.admitted; behind = a.behind; told = a.told }
    by (Err f) r = refused f r

pub reference_outside : (limits : Limits) (s : State) (c place : ℕ) (before : List Event → Type 0) → is_outside s ≡ true
    → Refused limits s (a_reference c) place before before (fault_at TextOutside place)
unfolding fault_of
reference_outside limits s c place before e = of_token TextOutside
    (ap (λ b. inside b (Some TextOutside) (if is_text_too_many limits s then Some TooManyNodes else None)) e) (λ events taken. taken)

and_false : (a : Bool) → (a && false) ≡ false
and_false true = refl
and_false false = refl

pub section_outside : (limits : Limits) (s : State) (text : List ℕ) (place : ℕ) (before : List Event → Type 0) → is_outside s ≡ true
    → Refused limits s (a_section text) place before before (fault_at TextOutside place)
unfolding fault_of
section_outside limits s text place before e = of_token TextOutside
    (ap (λ b. inside (length text == 0 && not b) None (inside b (Some TextOutside) (if is_text_too_many limits s then Some TooManyNodes else None))) e
    ∙ ap (λ b. inside b None (Some TextOutside)) (and_false (length text == 0))) (λ events taken. taken)

-- an empty section inside an element
pub section_empty : (limits : Limits) (s new : State) (text : List ℕ) (place : ℕ) (before : List Event → Type 0) → is_outside s ≡ false →
    (length text == 0) ≡ true → new ≡ behind_aside s
    → Advances limits s new (a_section text) place before before
unfolding fault_of state_behind events_of
section_empty limits s new text place before e f is = record {
  admitted = ap (λ b. inside (b && not (is_outside s)) None
      (inside (is_outside s) (Some TextOutside) (if is_text_too_many limits s then Some TooManyNodes else None))) f
      ∙ ap (λ b. inside (not b) None (inside b (Some TextOutside) (if is_text_too_many limits s then Some TooManyNodes else None))) e;
  behind = is ∙ sym (ap (λ b. inside b (behind_aside s) (behind_text s)) f);
  told = λ events taken. subst before (sym (ap (λ b. with_events events (inside b [] (inside (is_outside s) [] (has_text text place ∷ [])))) f)) taken;
}

-- memory ran out before anything was told
pub nothing_told : (limits : Limits) (s : State) (token : Token) (place : ℕ) (before after : List Event → Type 0) →
    ((events : List Event) → before events → after events) → Refused limits s token place before after WANT_OF_MEMORY
nothing_told limits s token place before after still = at_once still

-- end tags
pub end_too_long : (limits : Limits) (s : State) (name : List ℕ) (place : ℕ) (before : List Event → Type 0) → is_long_name limits name ≡ true
    → Refused limits s (an_end_tag name) place before before (fault_at NameTooLong place)
unfolding fault_of
end_too_long limits s name place before e = of_token NameTooLong
    (ap (λ b. inside b (Some NameTooLong) (inside (not (is_innermost s.open_elements name)) (Some Mismatched) None)) e) (λ events taken. taken)

pub end_mismatched : (limits : Limits) (s : State) (name : List ℕ) (place : ℕ) (before : List Event → Type 0) → is_long_name limits name ≡ false →
    is_innermost s.open_elements name ≡ false
    → Refused limits s (an_end_tag name) place before before (fault_at Mismatched place)
unfolding fault_of
end_mismatched limits s name place before e f = of_token Mismatched
    (ap (λ b. inside b (Some NameTooLong) (inside (not (is_innermost s.open_elements name)) (Some Mismatched) None)) e
    ∙ ap (λ b. inside (not b) (Some Mismatched) None) f) (λ events taken. taken)

closed_state : (s : State) (elements : List Open) (name : List ℕ) → s.open_elements ≡ elements → is_innermost elements name ≡ true
    → record s { position = Farther; open_elements = around_innermost elements; in_text = false } ≡ behind_end_tag s
closed_state s [] name e h = absurd (true≢false (sym h))
closed_state s (element ∷ outer) name e h =
    sym (ap (λ (elements : List Open). elim elements [
      | [] ↦ behind_aside s
      | (element ∷ outer) ↦ record s { position = Farther; open_elements = outer; in_text = false }
    ]) e)

pub end_told : (limits : Limits) (s new : State) (name : List ℕ) (place : ℕ) (before after : List Event → Type 0) → is_long_name limits name ≡ false →
    is_innermost s.open_elements name ≡ true
    → new ≡ record s { position = Farther; open_elements = around_innermost s.open_elements; in_text = false } →
    ((events : List Event) → before events → after (with_event events ends))
    → Advances limits s new (an_end_tag name) place before after
unfolding fault_of state_behind events_of
end_told limits s new name place before after e f is told = record {
  admitted = ap (λ b. inside b (Some NameTooLong) (inside (not (is_innermost s.open_elements name)) (Some Mismatched) None)) e
      ∙ ap (λ b. inside (not b) (Some Mismatched) None) f;
  behind = is ∙ closed_state s s.open_elements name refl f;
  told = told;
}
