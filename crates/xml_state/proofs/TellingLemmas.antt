-- Events that are told one after another.
use Rattle.std.proofs.Common.{ℕ, Bool, true, ◌+◌, ◌<◌, ◌≤◌, length, get_or, drop, map, is_none, if◌then◌else◌, ◌≡◌, List, [], ◌∷◌, ◌++◌, refl, sym, ap, ◌∙◌}
use Rattle.std.proofs.Common.{subst}
use Rattle.std.proofs.lemmas.List.{append_assoc, append-nil}
use Rattle.std.proofs.lemmas.List.{drop_more, at_drop_all}
use Rattle.xml_tokens.specs.Markup.{Written, Tag}
use Rattle.xml_tokens.specs.Seen.{seen_attribute, seen_value}
use Rattle.xml_tokens.specs.declared.token.Attribute.{Attribute}
use Rattle.xml_state.specs.Namespaces.{declared_prefix, undeclaring}
use Rattle.xml_state.specs.StartTags.{numbered_events, attribute_events, tag_events}
use Rattle.xml_events.specs.Events.{Event, starts, has_attribute, ends, with_event, with_events, TakesAll}
use Rattle.xml_state.specs.Taking.{TakesFront, TakesUpTo}

with_events-append : (events more others : List Event) → with_events events (more ++ others) ≡ with_events (with_events events more) others
with_events-append events [] others = refl
with_events-append events (e ∷ more) others = with_events-append (with_event events e) more others

-- nothing was told yet
pub told-none : (events : List Event) (before : List Event → Type 0) → TakesUpTo events events before before
told-none events before = record { front = []; is = refl; told = λ taken h. h }

-- more was told
pub told-more : (events more others : List Event) (before middle after : List Event → Type 0) → TakesUpTo events (more ++ others) before middle →
    TakesAll more middle after → TakesUpTo events others before after
told-more events more others before middle after upto all = record {
  front = upto.front ++ more;
  is = upto.is ∙ sym (append_assoc upto.front more others);
  told = λ taken h. subst after (sym (with_events-append taken upto.front more)) (all (with_events taken upto.front) (upto.told taken h));
}

-- one event
pub told-one : (events others : List Event) (e : Event) (before middle after : List Event → Type 0) → TakesUpTo events (e ∷ others) before middle →
    ((taken : List Event) → middle taken → after (with_event taken e)) → TakesUpTo events others before after
told-one events others e before middle after upto one = told-more events (e ∷ []) others before middle after upto one

-- and a refusal
pub front-more : (events more others : List Event) (before middle after : List Event → Type 0) → TakesUpTo events (more ++ others) before middle →
    TakesFront more middle after → TakesFront events before after
front-more events more others before middle after upto front = record {
  front = upto.front ++ front.front;
  others = front.others ++ others;
  is = upto.is ∙ (ap (λ x. upto.front ++ (x ++ others)) front.is ∙
      (ap (λ x. upto.front ++ x) (append_assoc front.front front.others others) ∙ sym (append_assoc upto.front front.front (front.others ++ others))));
  told = λ taken h. subst after (sym (with_events-append taken upto.front front.front)) (front.told (with_events taken upto.front) (upto.told taken h));
}

pub all-is-front : (events : List Event) (before after : List Event → Type 0) → TakesAll events before after → TakesFront events before after
all-is-front events before after told = record { front = events; others = []; is = sym (append-nil events); told = told }

pub front-still : (events others : List Event) (before middle after : List Event → Type 0) → TakesUpTo events others before middle →
    ((taken : List Event) → middle taken → after taken) → TakesFront events before after
front-still events others before middle after upto still = record {
  front = upto.front;
  others = others;
  is = upto.is;
  told = λ taken h. still _ (upto.told taken h);
}

-- all was told
pub told-all : (events others : List Event) (before after : List Event → Type 0) → others ≡ [] → TakesUpTo events others before after →
    TakesAll events before after
told-all events others before after none upto =
    λ taken h. subst (λ x. after (with_events taken x)) (sym (upto.is ∙ (ap (λ x. upto.front ++ x) none ∙ append-nil upto.front))) (upto.told taken h)

-- one attribute of the loop
attribute_events-plain : (number : ℕ) (others : List ℕ) (a : Written) (more : List Written) (value : List ℕ) → is_none (declared_prefix a.name) ≡ true →
    a.value ≡ value
    → attribute_events (number ∷ others) (a ∷ more) ≡ has_attribute number value ∷ attribute_events others more
attribute_events-plain number others a more value plain says =
    ap (λ (b : Bool). numbered_events (number ∷ others) (if b then a ∷ undeclaring more else undeclaring more)) plain
    ∙ ap (λ x. has_attribute number x ∷ attribute_events others more) says

pub attribute_events-step : (rest others : List ℕ) (number : ℕ) (attributes : List Attribute) (i : ℕ) (a : Attribute) (value : List ℕ) → i < length attributes →
    a ≡ get_or attributes i a → rest ≡ number ∷ others
    → is_none (declared_prefix a.name.now) ≡ true → value ≡ seen_value a.value
    → attribute_events rest (map seen_attribute (drop i attributes)) ≡ has_attribute number value ∷ attribute_events others
    (map seen_attribute (drop (i + 1) attributes))
attribute_events-step rest others number attributes i a value l e r plain says =
    ap (λ x. attribute_events x (map seen_attribute (drop i attributes))) r
    ∙ (ap (λ x. attribute_events (number ∷ others) (map seen_attribute x))
    (drop_more attributes i a l ∙ ap (λ (x : Attribute). x ∷ drop (i + 1) attributes) (sym e))
    ∙ attribute_events-plain number others (seen_attribute a) (map seen_attribute (drop (i + 1) attributes)) value plain (sym says))

pub attribute_events-nil : (numbers : List ℕ) → attribute_events numbers [] ≡ []
attribute_events-nil [] = refl
attribute_events-nil (number ∷ numbers) = refl

pub attribute_told : (events : List Event) (rest others : List ℕ) (number : ℕ) (attributes : List Attribute) (i : ℕ) (a : Attribute) (value : List ℕ)
    (before middle after : List Event → Type 0)
    → i < length attributes → a ≡ get_or attributes i a → rest ≡ number ∷ others → is_none (declared_prefix a.name.now) ≡ true → value ≡ seen_value a.value
    → TakesUpTo events (attribute_events rest (map seen_attribute (drop i attributes))) before middle →
    ((taken : List Event) → middle taken → after (with_event taken (has_attribute number value)))
    → TakesUpTo events (attribute_events others (map seen_attribute (drop (i + 1) attributes))) before after
attribute_told events rest others number attributes i a value before middle after l e r plain says upto one =
    told-one events _ (has_attribute number value) before middle after
    (subst (λ x. TakesUpTo events x before middle) (attribute_events-step rest others number attributes i a value l e r plain says) upto) one

pub attributes_told : (events : List Event) (rest : List ℕ) (attributes : List Attribute) (i : ℕ) (before after : List Event → Type 0) → length attributes ≤ i
    → TakesUpTo events (attribute_events rest (map seen_attribute (drop i attributes))) before after → TakesAll events before after
attributes_told events rest attributes i before after l upto =
    told-all events _ before after (at_drop_all (λ x. attribute_events rest (map seen_attribute x)) attributes i l ∙ attribute_events-nil rest) upto

-- what is left behind the start of an element
abbrev pub behind_start : List ℕ → Tag → List Event
behind_start others tag = attribute_events others tag.attributes ++ (if tag.is_empty then ends ∷ [] else [])

pub tag_started : (numbers others : List ℕ) (number : ℕ) (tag : Tag) (place : ℕ) (before middle : List Event → Type 0) → numbers ≡ number ∷ others
    → ((taken : List Event) → before taken → middle (with_event taken (starts number place))) →
    TakesUpTo (tag_events numbers tag place) (behind_start others tag) before middle
tag_started numbers others number tag place before middle e one =
    subst (λ x. TakesUpTo (tag_events x tag place) (behind_start others tag) before middle) (sym e)
    (told-one (tag_events (number ∷ others) tag place) (behind_start others tag) (starts number place) before before middle (told-none _ before) one)

pub tag_front : (events : List Event) (others : List ℕ) (tag : Tag) (attributes : List Written) (before middle after : List Event → Type 0) →
    attributes ≡ tag.attributes
    → TakesUpTo events (behind_start others tag) before middle → TakesFront (attribute_events others attributes) middle after → TakesFront events before after
tag_front events others tag attributes before middle after e upto front =
    front-more events (attribute_events others tag.attributes) _ before middle after upto
    (subst (λ x. TakesFront (attribute_events others x) middle after) e front)

pub tag_attributes_told : (events : List Event) (others : List ℕ) (tag : Tag) (attributes : List Written) (before middle after : List Event → Type 0) →
    attributes ≡ tag.attributes → tag.is_empty ≡ true
    → TakesUpTo events (behind_start others tag) before middle → TakesAll (attribute_events others attributes) middle after →
    TakesUpTo events (ends ∷ []) before after
tag_attributes_told events others tag attributes before middle after e empty upto all =
    subst (λ (b : Bool). TakesUpTo events (if b then ends ∷ [] else []) before after) empty
    (told-more events (attribute_events others tag.attributes) _ before middle after upto
    (subst (λ x. TakesAll (attribute_events others x) middle after) e all))
