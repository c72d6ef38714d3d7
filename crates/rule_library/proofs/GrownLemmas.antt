-- Events that tell elements which are still open.
use Rattle.std.proofs.Common.{◌≡◌, ℕ, zero, suc, ◌+◌, ◌-◌, ◌^◌, ◌<◌, ◌≤◌, Bool, true, false, not, ◌||◌, List, [], ◌∷◌, ◌++◌, length, refl, sym, ap, subst, ◌∙◌}
use Rattle.std.proofs.Common.{arith, append_assoc, append-nil, length-append, if◌then◌else◌}
use Rattle.std.specs.Prelude.{◌&&◌, ◌==◌}
use Rattle.std.proofs.lemmas.Bool.{false≢true}
use Rattle.std.proofs.lemmas.Bool.Decides.{nat_tests}
use Rattle.inv_base.specs.Tree.{Name, Attribute, Forest, no_more, a_text, an_element, begins_with_text, is_joined, IsDocument, size, nodes_of}
use Rattle.inv_base.specs.Tree.{nodes_of_attributes}
use Rattle.inv_base.proofs.TextLemmas.{both}
use Rattle.xml_events.specs.Events.{Event, starts, has_attribute, has_text, ends, with_event, name_at}
use Rattle.xml_events.specs.Documents.{IsNumberOf, Tells, TellsAttributes}
use Rattle.xml_events.specs.Names.{same_name, number_of, with_name}
use Rattle.xml_state.proofs.NumberLemmas.{is_among, among-itself, number-itself, name-number}
use Rattle.node_arena.specs.Document.{Built, begun, after, built, built_from, ended}
use Rattle.node_arena.specs.Moves.{HasNodesOf, IsWhole, node_of}
use Rattle.node_arena.proofs.BuiltLemmas.{built-with_event}
use Rattle.std.proofs.lemmas.List.{length-map}
use Rattle.rule_library.specs.Readings.{Joined}
use Rattle.rule_library.specs.Asked.{Given}
use Rattle.rule_library.specs.Joining.{nothing_joined, ended_times, closed_to, with_start, with_attribute, with_attributes, with_element}
use Rattle.rule_library.specs.Joining as joining
use Rattle.rule_library.specs.Whole.{TellsDocument}

-- ---- events

pub with_event-append : (xs : List Event) (y : Event) (ys : List Event) (e : Event) → with_event (xs ++ y ∷ ys) e ≡ xs ++ with_event (y ∷ ys) e
with_event-append [] y ys e = refl
with_event-append (x ∷ []) y ys e = refl
with_event-append (x ∷ (z ∷ xs)) y ys e = ap (λ (events : List Event). x ∷ events) (with_event-append (z ∷ xs) y ys e)

behind_start : (number place : ℕ) (ys : List Event) (e : Event) → with_event (starts number place ∷ ys) e ≡ starts number place ∷ with_event ys e
behind_start number place [] e = refl
behind_start number place (y ∷ ys) e = refl

behind_attribute : (number : ℕ) (value : List ℕ) (ys : List Event) (e : Event) →
    with_event (has_attribute number value ∷ ys) e ≡ has_attribute number value ∷ with_event ys e
behind_attribute number value [] e = refl
behind_attribute number value (y ∷ ys) e = refl

behind_end : (ys : List Event) (e : Event) → with_event (ends ∷ ys) e ≡ ends ∷ with_event ys e
behind_end [] e = refl
behind_end (y ∷ ys) e = refl

behind_attributes : (names : List Name) (attributes : List Attribute) (first inner : List Event) (e : Event) → TellsAttributes names attributes first
    → with_event (first ++ inner) e ≡ first ++ with_event inner e
behind_attributes names [] first inner e told = ap (λ (f : List Event). with_event (f ++ inner) e) told ∙
    sym (ap (λ (f : List Event). f ++ with_event inner e) told)
behind_attributes names (attribute ∷ attributes) first inner e told =
    let number = told.0 in
    let more = told.1 in
    ap (λ (f : List Event). with_event (f ++ inner) e) told.3
    ∙ (behind_attribute number attribute.value (more ++ inner) e
    ∙ (ap (λ (events : List Event). has_attribute number attribute.value ∷ events) (behind_attributes names attributes more inner e told.4)
    ∙ sym (ap (λ (f : List Event). f ++ with_event inner e) told.3)))

-- ---- more names

numbered_more : (names more : List Name) (name : Name) (number : ℕ) → IsNumberOf names name number → IsNumberOf (names ++ more) name number
numbered_more names more name number h = record { within = omega (arith, length-append names more, h.within); is = at names number h.within ∙ h.is }
  where
    at : (names : List Name) (n : ℕ) → n < length names → name_at (names ++ more) n ≡ name_at names n
    at [] n l = absurd (omega arith)
    at (name ∷ names) zero l = refl
    at (name ∷ names) (suc n) l = at names n (omega arith)

attributes_more : (names more : List Name) (attributes : List Attribute) (events : List Event) → TellsAttributes names attributes events →
    TellsAttributes (names ++ more) attributes events
attributes_more names more [] events told = told
attributes_more names more (attribute ∷ attributes) events told =
    (told.0, told.1, numbered_more names more attribute.name told.0 told.2, told.3, attributes_more names more attributes told.1 told.4)

tells_more : (names more : List Name) (forest : Forest) (events : List Event) → Tells names forest events → Tells (names ++ more) forest events
tells_more names more no_more events told = told
tells_more names more (a_text characters rest) events told = (told.0, told.1, told.2, tells_more names more rest told.1 told.3)
tells_more names more (an_element name attributes inside rest) events told = (
  told.0,
  told.1,
  told.2,
  told.3,
  told.4,
  numbered_more names more name told.0 told.5,
  told.6,
  attributes_more names more attributes told.2 told.7,
  tells_more names more inside told.3 told.8,
  tells_more names more rest told.4 told.9,
)

-- ---- a text more

abbrev with_text : List ℕ → Forest → Forest
with_text characters no_more = a_text characters no_more
with_text characters (a_text text no_more) = a_text (text ++ characters) no_more
with_text characters (a_text text (a_text other rest)) = a_text text (with_text characters (a_text other rest))
with_text characters (a_text text (an_element name attributes inside rest)) = a_text text (with_text characters (an_element name attributes inside rest))
with_text characters (an_element name attributes inside rest) = an_element name attributes inside (with_text characters rest)

behind_text : (text : List ℕ) (place : ℕ) (y : Event) (ys : List Event) (e : Event) →
    with_event (has_text text place ∷ (y ∷ ys)) e ≡ has_text text place ∷ with_event (y ∷ ys) e
behind_text text place y ys e = refl

tells_text : (names : List Name) (forest : Forest) (events : List Event) (characters : List ℕ) (place : ℕ) → Tells names forest events
    → Tells names (with_text characters forest) (with_event events (has_text characters place))
tells_text names no_more events characters place told =
    (place, [], ap (λ (events : List Event). with_event events (has_text characters place)) told, refl)
tells_text names (a_text text no_more) events characters place told = (
  told.0,
  [],
  ap (λ (events : List Event). with_event events (has_text characters place))
      (told.2 ∙ ap (λ (more : List Event). has_text text told.0 ∷ more) told.3),
  refl,
)
tells_text names (a_text text (a_text other rest)) events characters place told =
    let inner = tells_text names (a_text other rest) told.1 characters place told.3 in
    let first = told.3.2 in (
      told.0,
      with_event told.1 (has_text characters place),
      ap (λ (events : List Event). with_event events (has_text characters place)) (told.2 ∙ ap (λ (more : List Event). has_text text told.0 ∷ more) first)
          ∙ ap (λ (more : List Event). has_text text told.0 ∷ with_event more (has_text characters place)) (sym first),
      inner,
    )
tells_text names (a_text text (an_element name attributes inside rest)) events characters place told =
    let inner = tells_text names (an_element name attributes inside rest) told.1 characters place told.3 in
    let first = told.3.6 in (
      told.0,
      with_event told.1 (has_text characters place),
      ap (λ (events : List Event). with_event events (has_text characters place)) (told.2 ∙ ap (λ (more : List Event). has_text text told.0 ∷ more) first)
          ∙ ap (λ (more : List Event). has_text text told.0 ∷ with_event more (has_text characters place)) (sym first),
      inner,
    )
tells_text names (an_element name attributes inside rest) events characters place told =
    let e = has_text characters place in
    let start = starts told.0 told.1 in
    let first = told.2 in
    let inner = told.3 in
    let more = told.4 in (
      told.0,
      told.1,
      first,
      inner,
      with_event more e,
      told.5,
      ap (λ (events : List Event). with_event events e) told.6
          ∙ (behind_start told.0 told.1 (first ++ (inner ++ (ends ∷ more))) e
          ∙ (ap (λ (events : List Event). start ∷ events) (behind_attributes names attributes first (inner ++ (ends ∷ more)) e told.7)
          ∙ (ap (λ (events : List Event). start ∷ (first ++ events)) (with_event-append inner ends more e)
          ∙ ap (λ (events : List Event). start ∷ (first ++ (inner ++ events))) (behind_end more e)))),
      told.7,
      told.8,
      tells_text names rest more characters place told.9,
    )

-- ---- an element more

abbrev with_child : Name → List Attribute → Forest → Forest → Forest
with_child name attributes inside no_more = an_element name attributes inside no_more
with_child name attributes inside (a_text text rest) = a_text text (with_child name attributes inside rest)
with_child name attributes inside (an_element other given within rest) = an_element other given within (with_child name attributes inside rest)

pub record OpenElement (names : List Name) (events : List Event) : Type 0 where
  pub name : Name
  pub attributes : List Attribute
  pub inside : Forest
  pub number : ℕ
  pub place : ℕ
  pub first : List Event
  pub inner : List Event
  pub numbered : IsNumberOf names name number
  pub given : TellsAttributes names attributes first
  pub told : Tells names inside inner
  pub joined : is_joined inside ≡ true
  pub is : events ≡ starts number place ∷ (first ++ inner)

abbrev ended_events : ℕ → ℕ → List Event → List Event → List Event
ended_events number place first inner = starts number place ∷ (first ++ (inner ++ (ends ∷ [])))

tells_child : (names : List Name) (forest : Forest) (events chunk : List Event) (o : OpenElement names chunk) → Tells names forest events
    → Tells names (with_child o.name o.attributes o.inside forest) (events ++ ended_events o.number o.place o.first o.inner)
tells_child names no_more events chunk o told = (
  o.number,
  o.place,
  o.first,
  o.inner,
  [],
  o.numbered,
  ap (λ (events : List Event). events ++ ended_events o.number o.place o.first o.inner) told,
  o.given,
  o.told,
  refl,
)
tells_child names (a_text text rest) events chunk o told = (
  told.0,
  told.1 ++ ended_events o.number o.place o.first o.inner,
  ap (λ (events : List Event). events ++ ended_events o.number o.place o.first o.inner) told.2,
  tells_child names rest told.1 chunk o told.3,
)
tells_child names (an_element name attributes inside rest) events chunk o told =
    let more = ended_events o.number o.place o.first o.inner in
    let start = starts told.0 told.1 in (
      told.0,
      told.1,
      told.2,
      told.3,
      told.4 ++ more,
      told.5,
      ap (λ (events : List Event). events ++ more) told.6
          ∙ ap (λ (events : List Event). start ∷ events) (append_assoc told.2 (told.3 ++ (ends ∷ told.4)) more ∙
          ap (λ (events : List Event). told.2 ++ events) (append_assoc told.3 (ends ∷ told.4) more)),
      told.7,
      told.8,
      tells_child names rest told.4 chunk o told.9,
    )

-- ---- texts stay joined

begins_with_child : (name : Name) (attributes : List Attribute) (inside forest : Forest) →
    begins_with_text (with_child name attributes inside forest) ≡ begins_with_text forest
begins_with_child name attributes inside no_more = refl
begins_with_child name attributes inside (a_text text rest) = refl
begins_with_child name attributes inside (an_element other given within rest) = refl

joined_child : (name : Name) (attributes : List Attribute) (inside forest : Forest) → is_joined inside ≡ true → is_joined forest ≡ true →
    is_joined (with_child name attributes inside forest) ≡ true
joined_child name attributes inside no_more h k = rw h refl
joined_child name attributes inside (a_text text rest) h k =
    let parts = both (not (length text == 0)) (not (begins_with_text rest) && is_joined rest) k in
    let others = both (not (begins_with_text rest)) (is_joined rest) parts.1 in
    let begins : not (begins_with_text (with_child name attributes inside rest)) ≡ true = ap not (begins_with_child name attributes inside rest) ∙ others.0 in
    (λ i. parts.0 i && (begins i && joined_child name attributes inside rest h others.1 i))
joined_child name attributes inside (an_element other given within rest) h k =
    let parts = both (is_joined within) (is_joined rest) k in
    (λ i. parts.0 i && joined_child name attributes inside rest h parts.1 i)

some_more : (text characters : List ℕ) → not (length text == 0) ≡ true → not (length (text ++ characters) == 0) ≡ true
some_more text characters h = let l = length-append text characters in grind (arith, nat_tests)

joined_text : (characters : List ℕ) (forest : Forest) → not (length characters == 0) ≡ true → is_joined forest ≡ true →
    is_joined (with_text characters forest) ≡ true
joined_text characters no_more h k = rw h refl
joined_text characters (a_text text no_more) h k =
    let parts = both (not (length text == 0)) (true && true) k in
    rw (some_more text characters parts.0) refl
joined_text characters (a_text text (a_text other rest)) h k =
    let parts = both (not (length text == 0)) (not (begins_with_text (a_text other rest)) && is_joined (a_text other rest)) k in
    let never = both (not (begins_with_text (a_text other rest))) (is_joined (a_text other rest)) parts.1 in
    absurd (false≢true never.0)
joined_text characters (a_text text (an_element name attributes inside rest)) h k =
    let parts = both (not (length text == 0)) (true && is_joined (an_element name attributes inside rest)) k in
    let others = both true (is_joined (an_element name attributes inside rest)) parts.1 in
    (λ i. parts.0 i && (true && joined_text characters (an_element name attributes inside rest) h others.1 i))
joined_text characters (an_element name attributes inside rest) h k =
    let parts = both (is_joined inside) (is_joined rest) k in
    (λ i. parts.0 i && joined_text characters rest h parts.1 i)

-- ---- names, one more

number_within : (x : Name) (names : List Name) → is_among x names ≡ true → number_of x names < length names
number_within x [] h = absurd (false≢true h)
number_within x (n ∷ names) h = by (same_name n x) refl (number_within x names)
  where
    by : (a : Bool) → same_name n x ≡ a → (is_among x names ≡ true → number_of x names < length names) → number_of x (n ∷ names) < length (n ∷ names)
    by true e rest = let first : number_of x (n ∷ names) ≡ 0 = ap (λ (c : Bool). if c then 0 else 1 + number_of x names) e in omega (arith, first)
    by false e rest =
        let others : number_of x (n ∷ names) ≡ 1 + number_of x names = ap (λ (c : Bool). if c then 0 else 1 + number_of x names) e in
        let low : number_of x names < length names = rest (sym (ap (λ c. c || is_among x names) e) ∙ h) in
        omega (arith, others, low)

pub numbered_new : (x : Name) (names : List Name) → IsNumberOf (with_name names x) x (number_of x names)
numbered_new x names = record {
  within = subst (λ n. n < length (with_name names x)) (number-itself x names) (number_within x (with_name names x) (among-itself x names));
  is = ap (name_at (with_name names x)) (sym (number-itself x names)) ∙ name-number x (with_name names x) (among-itself x names);
}

pub with_name-more : (names : List Name) (x : Name) → (more : List Name) × (with_name names x ≡ names ++ more)
with_name-more [] x = (x ∷ [], refl)
with_name-more (n ∷ names) x = by (same_name n x) refl (with_name-more names x)
  where
    by : (a : Bool) → same_name n x ≡ a → (more : List Name) × (with_name names x ≡ names ++ more) → (more : List Name) ×
        (with_name (n ∷ names) x ≡ (n ∷ names) ++ more)
    by true e rest = ([], ap (λ (c : Bool). if c then n ∷ names else n ∷ with_name names x) e ∙ sym (append-nil (n ∷ names)))
    by false e rest = (rest.0, ap (λ (c : Bool). if c then n ∷ names else n ∷ with_name names x) e ∙ ap (λ (ns : List Name). n ∷ ns) rest.1)

-- ---- elements inside one another, the innermost first

abbrev pub AreElements : List Name → List (List Event) → Type 0
AreElements names [] = Unit {0}
AreElements names (chunk ∷ chunks) = OpenElement names chunk × AreElements names chunks

abbrev pub all_events : List (List Event) → List Event
all_events [] = []
all_events (chunk ∷ chunks) = all_events chunks ++ chunk

element_more : (names more : List Name) (chunk : List Event) → OpenElement names chunk → OpenElement (names ++ more) chunk
element_more names more chunk o = record {
  name = o.name;
  attributes = o.attributes;
  inside = o.inside;
  number = o.number;
  place = o.place;
  first = o.first;
  inner = o.inner;
  numbered = numbered_more names more o.name o.number o.numbered;
  given = attributes_more names more o.attributes o.first o.given;
  told = tells_more names more o.inside o.inner o.told;
  joined = o.joined;
  is = o.is;
}

elements_more : (names more : List Name) (chunks : List (List Event)) → AreElements names chunks → AreElements (names ++ more) chunks
elements_more names more [] h = tt
elements_more names more (chunk ∷ chunks) h = (element_more names more chunk h.0, elements_more names more chunks h.1)

elements_named : (names : List Name) (x : Name) (chunks : List (List Event)) → AreElements names chunks → AreElements (with_name names x) chunks
elements_named names x chunks h = let m = with_name-more names x in
    subst (λ (ns : List Name). AreElements ns chunks) (sym m.1) (elements_more names m.0 chunks h)

element_text : (names : List Name) (chunk : List Event) (characters : List ℕ) (place : ℕ) → not (length characters == 0) ≡ true → OpenElement names chunk
    → OpenElement names (with_event chunk (has_text characters place))
element_text names chunk characters place some o = let e = has_text characters place in record {
  name = o.name;
  attributes = o.attributes;
  inside = with_text characters o.inside;
  number = o.number;
  place = o.place;
  first = o.first;
  inner = with_event o.inner e;
  numbered = o.numbered;
  given = o.given;
  told = tells_text names o.inside o.inner characters place o.told;
  joined = joined_text characters o.inside some o.joined;
  is = ap (λ (events : List Event). with_event events e) o.is
      ∙ (behind_start o.number o.place (o.first ++ o.inner) e ∙
      ap (λ (events : List Event). starts o.number o.place ∷ events) (behind_attributes names o.attributes o.first o.inner e o.given));
}

events_text : (names : List Name) (before chunk : List Event) (e : Event) → OpenElement names chunk → with_event (before ++ chunk) e ≡ before ++
    with_event chunk e
events_text names before chunk e o =
    ap (λ (events : List Event). with_event (before ++ events) e) o.is
    ∙ (with_event-append before (starts o.number o.place) (o.first ++ o.inner) e ∙ sym (ap (λ (events : List Event). before ++ with_event events e) o.is))

element_child : (names : List Name) (chunk inner : List Event) → OpenElement names chunk → OpenElement names inner →
    OpenElement names (chunk ++ (inner ++ (ends ∷ [])))
element_child names chunk inner o c =
    let closed = ended_events c.number c.place c.first c.inner in
    let child : inner ++ (ends ∷ []) ≡ closed = ap (λ (events : List Event). events ++ (ends ∷ [])) c.is ∙
    ap (λ (events : List Event). starts c.number c.place ∷ events) (append_assoc c.first c.inner (ends ∷ [])) in
    record {
      name = o.name;
      attributes = o.attributes;
      inside = with_child c.name c.attributes c.inside o.inside;
      number = o.number;
      place = o.place;
      first = o.first;
      inner = o.inner ++ closed;
      numbered = o.numbered;
      given = o.given;
      told = tells_child names o.inside o.inner inner c o.told;
      joined = joined_child c.name c.attributes c.inside o.inside c.joined o.joined;
      is = ap (λ (events : List Event). events ++ (inner ++ (ends ∷ []))) o.is
          ∙ (ap (λ (events : List Event). starts o.number o.place ∷ events) (append_assoc o.first o.inner (inner ++ (ends ∷ [])))
          ∙ ap (λ (events : List Event). starts o.number o.place ∷ (o.first ++ (o.inner ++ events))) child);
    }

-- ---- what is joined, with its root begun

built_from-append : (b : Built) (first more : List Event) → built_from b (first ++ more) ≡ built_from (built_from b first) more
built_from-append b [] more = refl
built_from-append b (event ∷ first) more = built_from-append (after event b) first more

built-append : (first more : List Event) → built (first ++ more) ≡ built_from (built first) more
unfolding built
built-append first more = built_from-append begun first more

pub record IsGrown (j : Joined) : Type 0 where
  pub chunks : List (List Event)
  pub elements : AreElements j.names chunks
  pub some : 0 < length chunks
  pub is : j.built ≡ built (all_events chunks)
  pub depth : length j.built.open_nodes ≡ length chunks + 1

pub grown_text : (j : Joined) (characters : List ℕ) (place : ℕ) → not (length characters == 0) ≡ true → IsGrown j →
    IsGrown (joining.with_text characters place j)
grown_text j characters place some g = by g.chunks g.elements g.some g.is g.depth
  where
    by : (chunks : List (List Event)) → AreElements j.names chunks → 0 < length chunks → j.built ≡ built (all_events chunks) →
        length j.built.open_nodes ≡ length chunks + 1
        → IsGrown (joining.with_text characters place j)
    by [] elements none is depth = absurd (omega (arith, none))
    by (chunk ∷ chunks) elements one is depth = let e = has_text characters place in record {
      chunks = with_event chunk e ∷ chunks;
      elements = (element_text j.names chunk characters place some elements.0, elements.1);
      some = omega arith;
      is = ap (after e) is ∙ (sym (built-with_event (all_events chunks ++ chunk) e) ∙ ap built (events_text j.names (all_events chunks) chunk e elements.0));
      depth = depth;
    }

pub ended_length : (numbers : List ℕ) → 1 < length numbers → length (ended numbers) + 1 ≡ length numbers
ended_length [] h = absurd (omega (arith, h))
ended_length (n ∷ []) h = absurd (omega (arith, h))
ended_length (n ∷ (m ∷ numbers)) h = omega arith

grown_end : (j : Joined) → IsGrown j → 2 < length j.built.open_nodes → IsGrown (record { built = after ends j.built; names = j.names })
grown_end j g deep = by g.chunks g.elements g.is g.depth
  where
    by : (chunks : List (List Event)) → AreElements j.names chunks → j.built ≡ built (all_events chunks) → length j.built.open_nodes ≡ length chunks + 1
        → IsGrown (record { built = after ends j.built; names = j.names })
    by [] elements is depth = absurd (omega (arith, deep, depth))
    by (chunk ∷ []) elements is depth = absurd (omega (arith, deep, depth))
    by (inner ∷ (chunk ∷ chunks)) elements is depth = record {
      chunks = (chunk ++ (inner ++ (ends ∷ []))) ∷ chunks;
      elements = (element_child j.names chunk inner elements.1.0 elements.0, elements.1.1);
      some = omega arith;
      is = ap (after ends) is
          ∙ (sym (built-append ((all_events chunks ++ chunk) ++ inner) (ends ∷ []))
          ∙ ap built (append_assoc (all_events chunks ++ chunk) inner (ends ∷ []) ∙ append_assoc (all_events chunks) chunk (inner ++ (ends ∷ []))));
      depth = let less = ended_length j.built.open_nodes (omega (arith, deep)) in omega (arith, less, depth);
    }

grown_times : (n : ℕ) (j : Joined) → IsGrown j → n + 1 < length j.built.open_nodes → IsGrown (record { built = ended_times n j.built; names = j.names })
grown_times zero j g h = g
grown_times (suc n) j g h =
    let less = ended_length j.built.open_nodes (omega (arith, h)) in
    grown_times n (record { built = after ends j.built; names = j.names }) (grown_end j g (omega (arith, h))) (omega (arith, h, less))

pub grown_to : (n : ℕ) (j : Joined) → 2 ≤ n → IsGrown j → IsGrown (closed_to n j)
grown_to n j low g = grown_times (length j.built.open_nodes - n) j g (let deep = g.depth in let some = g.some in omega arith)

-- ---- an element that begins

-- The innermost element has begun, and nothing is in it.
record Heads (j : Joined) : Type 0 where
  chunks : List (List Event)
  name : Name
  attributes : List Attribute
  number : ℕ
  place : ℕ
  first : List Event
  elements : AreElements j.names chunks
  numbered : IsNumberOf j.names name number
  given : TellsAttributes j.names attributes first
  is : j.built ≡ built (all_events chunks ++ (starts number place ∷ first))
  depth : length j.built.open_nodes ≡ length chunks + 2

heads_start : (j : Joined) (name : Name) (place : ℕ) → IsGrown j → Heads (with_start name place j)
heads_start j name place g = record {
  chunks = g.chunks;
  name = name;
  attributes = [];
  number = number_of name j.names;
  place = place;
  first = [];
  elements = elements_named j.names name g.chunks g.elements;
  numbered = numbered_new name j.names;
  given = refl;
  is = ap (after (starts (number_of name j.names) place)) g.is ∙ sym (built-append (all_events g.chunks) (starts (number_of name j.names) place ∷ []));
  depth = let d = g.depth in omega arith;
}

heads_first : (name : Name) (place : ℕ) → Heads (with_start name place nothing_joined)
unfolding built
heads_first name place = record {
  chunks = [];
  name = name;
  attributes = [];
  number = number_of name [];
  place = place;
  first = [];
  elements = tt;
  numbered = numbered_new name [];
  given = refl;
  is = refl;
  depth = refl;
}

given_behind : (names : List Name) (attributes : List Attribute) (first : List Event) (attribute : Attribute) (number : ℕ) →
    IsNumberOf names attribute.name number → TellsAttributes names attributes first
    → TellsAttributes names (attributes ++ attribute ∷ []) (first ++ has_attribute number attribute.value ∷ [])
given_behind names [] first attribute number n told = (
  number,
  [],
  n,
  ap (λ (events : List Event). events ++ has_attribute number attribute.value ∷ []) told,
  refl,
)
given_behind names (other ∷ attributes) first attribute number n told = (
  told.0,
  told.1 ++ has_attribute number attribute.value ∷ [],
  told.2,
  ap (λ (events : List Event). events ++ has_attribute number attribute.value ∷ []) told.3,
  given_behind names attributes told.1 attribute number n told.4,
)

heads_attribute : (j : Joined) (given : Given) → Heads j → Heads (with_attribute given j)
heads_attribute j given h =
    let attribute : Attribute = record { name = given.name; value = given.value } in
    let number = number_of given.name j.names in
    let e = has_attribute number given.value in
    let m = with_name-more j.names given.name in
    record {
      chunks = h.chunks;
      name = h.name;
      attributes = h.attributes ++ attribute ∷ [];
      number = h.number;
      place = h.place;
      first = h.first ++ e ∷ [];
      elements = elements_named j.names given.name h.chunks h.elements;
      numbered = subst (λ (ns : List Name). IsNumberOf ns h.name h.number) (sym m.1) (numbered_more j.names m.0 h.name h.number h.numbered);
      given = given_behind (with_name j.names given.name) h.attributes h.first attribute number (numbered_new given.name j.names)
          (subst (λ (ns : List Name). TellsAttributes ns h.attributes h.first) (sym m.1) (attributes_more j.names m.0 h.attributes h.first h.given));
      is = ap (after e) h.is
          ∙ (sym (built-append (all_events h.chunks ++ (starts h.number h.place ∷ h.first)) (e ∷ [])) ∙
          ap built (append_assoc (all_events h.chunks) (starts h.number h.place ∷ h.first) (e ∷ [])));
      depth = h.depth;
    }

heads_attributes : (givens : List Given) (j : Joined) → Heads j → Heads (with_attributes givens j)
heads_attributes [] j h = h
heads_attributes (given ∷ givens) j h = heads_attributes givens (with_attribute given j) (heads_attribute j given h)

heads_grown : (j : Joined) → Heads j → IsGrown j
heads_grown j h = record {
  chunks = (starts h.number h.place ∷ h.first) ∷ h.chunks;
  elements = (
    record {
      name = h.name;
      attributes = h.attributes;
      inside = no_more;
      number = h.number;
      place = h.place;
      first = h.first;
      inner = [];
      numbered = h.numbered;
      given = h.given;
      told = refl;
      joined = refl;
      is = ap (λ (events : List Event). starts h.number h.place ∷ events) (sym (append-nil h.first));
    },
    h.elements,
  );
  some = omega arith;
  is = h.is;
  depth = let d = h.depth in omega arith;
}

pub grown_element : (j : Joined) (name : Name) (givens : List Given) (place : ℕ) → IsGrown j → IsGrown (with_element name givens place j)
grown_element j name givens place g = heads_grown (with_element name givens place j)
    (heads_attributes givens (with_start name place j) (heads_start j name place g))

pub grown_first : (name : Name) (givens : List Given) (place : ℕ) → IsGrown (with_element name givens place nothing_joined)
grown_first name givens place = heads_grown (with_element name givens place nothing_joined)
    (heads_attributes givens (with_start name place nothing_joined) (heads_first name place))

-- ---- the end

document_end : (j : Joined) (chunk : List Event) → OpenElement j.names chunk → j.built ≡ built ([] ++ chunk) →
    TellsDocument (record { built = after ends j.built; names = j.names })
document_end j chunk o is = record {
  tree = an_element o.name o.attributes o.inside no_more;
  events = ended_events o.number o.place o.first o.inner;
  document = record { name = o.name; attributes = o.attributes; inside = o.inside; root = refl; joined = o.joined };
  tells = tells_child j.names no_more [] chunk o refl;
  is = ap (after ends) is
      ∙ (sym (built-append chunk (ends ∷ []))
      ∙ ap built (ap (λ (events : List Event). events ++ (ends ∷ [])) o.is ∙
      ap (λ (events : List Event). starts o.number o.place ∷ events) (append_assoc o.first o.inner (ends ∷ []))));
}

document_times : (n : ℕ) (j : Joined) → IsGrown j → n + 2 ≡ length j.built.open_nodes →
    TellsDocument (record { built = ended_times (suc n) j.built; names = j.names })
document_times zero j g h = by g.chunks g.elements g.some g.is g.depth
  where
    by : (chunks : List (List Event)) → AreElements j.names chunks → 0 < length chunks → j.built ≡ built (all_events chunks) →
        length j.built.open_nodes ≡ length chunks + 1
        → TellsDocument (record { built = after ends j.built; names = j.names })
    by [] elements some is depth = absurd (omega (arith, some))
    by (chunk ∷ []) elements some is depth = document_end j chunk elements.0 is
    by (chunk ∷ (other ∷ chunks)) elements some is depth = absurd (omega (arith, depth, h))
document_times (suc n) j g h =
    let less = ended_length j.built.open_nodes (omega (arith, h)) in
    document_times n (record { built = after ends j.built; names = j.names }) (grown_end j g (omega (arith, h))) (omega (arith, h, less))

pub tells_document : (j : Joined) → IsGrown j → TellsDocument (closed_to 1 j)
tells_document j g =
    let count : length j.built.open_nodes - 1 ≡ suc (length j.built.open_nodes - 2) = let some = g.some in let depth = g.depth in omega arith in
    let P : ℕ → Type 0 = λ n. TellsDocument (record { built = ended_times n j.built; names = j.names }) in
    subst P (sym count) (document_times (length j.built.open_nodes - 2) j g (let some = g.some in let depth = g.depth in omega arith))

-- ---- how many nodes a tree has

attributes_count : (above : List ℕ) (n : ℕ) (attributes : List Attribute) → length (nodes_of_attributes above n attributes) ≡ length attributes
attributes_count above n [] = refl
attributes_count above n (attribute ∷ attributes) = let rest = attributes_count above (n + 1) attributes in omega (arith, rest)

nodes_count : (above : List ℕ) (n : ℕ) (forest : Forest) → length (nodes_of above n forest) ≡ size forest
nodes_count above n no_more = refl
nodes_count above n (a_text characters rest) = let others = nodes_count above (n + 1) rest in omega (arith, others)
nodes_count above n (an_element name attributes inside rest) =
    let xs = nodes_of_attributes (n ∷ above) (n + 1) attributes in
    let ys = nodes_of (n ∷ above) (n + (1 + length attributes)) inside in
    let zs = nodes_of above (n + (1 + (length attributes + size inside))) rest in
    let a = attributes_count (n ∷ above) (n + 1) attributes in
    let b = nodes_count (n ∷ above) (n + (1 + length attributes)) inside in
    let c = nodes_count above (n + (1 + (length attributes + size inside))) rest in
    omega (arith, length-append xs (ys ++ zs), length-append ys zs, a, b, c)

pub tree_count : (names : List Name) (b : Built) (tree : Forest) → HasNodesOf (record { nodes = b.nodes; names = names }) tree → length b.nodes ≡ size tree + 1
tree_count names b tree h = let all = nodes_count (0 ∷ []) 1 tree in omega (arith, sym (length-map b.nodes (node_of names)) ∙ ap length h, all)

-- What tells a document of numbered nodes can be finished.
pub finishes : (j : Joined) → TellsDocument j
    → ((names : List Name) (tree : Forest) (events : List Event) → IsDocument tree → Tells names tree events →
    HasNodesOf (record { nodes = (built events).nodes; names = names }) tree)
    → ((names : List Name) (tree : Forest) (events : List Event) → IsDocument tree → Tells names tree events → size tree + 1 < 2 ^ 32 →
    IsWhole names (built events))
    → (count : ℕ) → count ≡ length j.built.nodes → count ≤ 4294967295 → IsWhole j.names j.built
finishes j t nodes whole count is few =
    let all = tree_count j.names (built t.events) t.tree (nodes j.names t.tree t.events t.document t.tells) in
    let same = ap (λ (b : Built). length b.nodes) t.is in
    subst (λ (b : Built). IsWhole j.names b) (sym t.is) (whole j.names t.tree t.events t.document t.tells (omega (arith, all, same, is, few)))

-- ---- one more that is closed

pub closes-one : (n depth : ℕ) (b end : Built) → n < depth → ended_times (depth - n) b ≡ end → ended_times (depth - 1 - n) (after ends b) ≡ end
closes-one n depth b end h e = let count : depth - n ≡ suc (depth - 1 - n) = omega arith in sym (ap (λ m. ended_times m b) count) ∙ e
