-- A start tag behind other tokens.
use Rattle.std.proofs.Common.{◌≡◌, ℕ, suc, ◌+◌, Bool, true, false, List, [], ◌∷◌, ◌++◌, map, length, Option, Some, None, refl, sym, ap, ◌∙◌, subst, arith}
use Rattle.std.proofs.Common.{if◌then◌else◌}
use Rattle.std.proofs.lemmas.Option.{none-some}
use Rattle.inv_base.specs.Tree.{Name, Attribute}
use Rattle.xml_tokens.specs.Faults.{Cause, first_cause}
use Rattle.xml_tokens.specs.Markup.{Written, Tag, a_start_tag}
use Rattle.xml_tokens.specs.declared.beginning.Position.TheVariants.{Farther}
use Rattle.xml_tokens.specs.declared.kind.XmlKind.{XmlKind}
use Rattle.xml_state.specs.Admission.{fault_of, early_causes, name_causes, late_causes}
use Rattle.xml_events.specs.Events.{Event, starts, has_attribute, ends, TakesAll}
use Rattle.xml_state.specs.Faults.{fault_at}
use Rattle.xml_events.specs.Names.{number_of}
use Rattle.xml_state.specs.Namespaces.{Binding, attribute_name, undeclaring, bindings_inside}
use Rattle.xml_state.specs.Scopes.{InScope}
use Rattle.xml_state.specs.StartTags.{AreNamed, ReadsNames, tag_names, numbered_events, tag_events}
use Rattle.xml_state.specs.States.{State, Open, bindings_inside_innermost, bindings_in, attributes_in, name_in, with_names, names_behind, elements_behind}
use Rattle.xml_state.specs.States.{attribute_event, start_tag_events, behind_start_tag, state_behind, events_of}
use Rattle.xml_state.specs.Taking.{Advances, TakesFront, Refused, of_memory, of_token}
use Rattle.xml_state.specs.declared.fault.TheConstants.XmlFault.{WANT_OF_MEMORY}
use Rattle.xml_state.specs.declared.limits.Limits.{Limits}
use Rattle.xml_state.proofs.NumberLemmas.{numbers-stay}

-- causes in two lists
causes-behind : (a b : List Cause) → first_cause a ≡ None → first_cause (a ++ b) ≡ first_cause b
causes-behind [] b h = refl
causes-behind (cause ∷ a) b h = by cause.holds refl (causes-behind a b)
  where
    by : (t : Bool) → cause.holds ≡ t → (first_cause a ≡ None → first_cause (a ++ b) ≡ first_cause b) → first_cause ((cause ∷ a) ++ b) ≡ first_cause b
    by true e rest = absurd (none-some cause.kind (sym h ∙ ap (λ (t : Bool). if t then Some cause.kind else first_cause a) e))
    by false e rest =
        ap (λ (t : Bool). if t then Some cause.kind else first_cause (a ++ b)) e
        ∙ rest (sym (ap (λ (t : Bool). if t then Some cause.kind else first_cause a) e) ∙ h)

causes-front : (a b : List Cause) (kind : XmlKind) → first_cause a ≡ Some kind → first_cause (a ++ b) ≡ Some kind
causes-front [] b kind h = absurd (none-some kind h)
causes-front (cause ∷ a) b kind h = by cause.holds refl (causes-front a b kind)
  where
    by : (t : Bool) → cause.holds ≡ t → (first_cause a ≡ Some kind → first_cause (a ++ b) ≡ Some kind) → first_cause ((cause ∷ a) ++ b) ≡ Some kind
    by true e rest =
        ap (λ (t : Bool). if t then Some cause.kind else first_cause (a ++ b)) e
        ∙ (sym (ap (λ (t : Bool). if t then Some cause.kind else first_cause a) e) ∙ h)
    by false e rest =
        ap (λ (t : Bool). if t then Some cause.kind else first_cause (a ++ b)) e
        ∙ rest (sym (ap (λ (t : Bool). if t then Some cause.kind else first_cause a) e) ∙ h)

length-map : {X Y : Type 0} (f : X → Y) (xs : List X) → length (map f xs) ≡ length xs
length-map f [] = refl
length-map f (x ∷ xs) = ap suc (length-map f xs)

-- what a tag tells by its numbers is what it tells by its names
numbered-are : (final : List Name) (bound : List Binding) (attributes : List Written)
    → numbered_events (map (λ name. number_of name final)
    (map (λ (attribute : Attribute). attribute.name)
    (map (λ (attribute : Written). record { name = attribute_name bound attribute.name; value = attribute.value }) attributes))) attributes
    ≡ map (attribute_event final) (map (λ (attribute : Written). record { name = attribute_name bound attribute.name; value = attribute.value }) attributes)
numbered-are final bound [] = refl
numbered-are final bound (attribute ∷ attributes) = ap (λ x. has_attribute (number_of (attribute_name bound attribute.name) final) attribute.value ∷ x)
    (numbered-are final bound attributes)

-- What is known behind the names of a tag.
pub record Prepared (limits : Limits) (s : State) (tag : Tag) (bound : List Binding) (names : List Name) (numbers : List ℕ) : Type 0 where
  pub early : first_cause (early_causes limits s tag) ≡ None
  pub fine : first_cause (name_causes (bindings_in s tag) tag) ≡ None
  pub named : AreNamed (bindings_in s tag) s.names tag bound names numbers

module _ (limits : Limits) (s : State) (tag : Tag) where
  abbrev last_causes : List Cause
  last_causes = late_causes limits s.open_elements (names_behind s tag) (s.nodes + (1 + length (attributes_in s tag)))

  -- A fault that the tag shows by itself.
  pub early_refused : (place : ℕ) (before : List Event → Type 0) (kind : XmlKind) → first_cause (early_causes limits s tag) ≡ Some kind
      → Refused limits s (a_start_tag tag) place before before (fault_at kind place)
  unfolding fault_of
  early_refused place before kind h =
      of_token kind (causes-front (early_causes limits s tag) (name_causes (bindings_in s tag) tag ++ last_causes) kind h) (λ events taken. taken)

  -- A fault of its names.
  pub names_refused : (place : ℕ) (before : List Event → Type 0) (kind : XmlKind) → first_cause (early_causes limits s tag) ≡ None →
      first_cause (name_causes (bindings_in s tag) tag) ≡ Some kind
      → Refused limits s (a_start_tag tag) place before before (fault_at kind place)
  unfolding fault_of
  names_refused place before kind early h = of_token kind
      (causes-behind (early_causes limits s tag) (name_causes (bindings_in s tag) tag ++ last_causes) early
      ∙ causes-front (name_causes (bindings_in s tag) tag) last_causes kind h) (λ events taken. taken)

  module _ (bound : List Binding) (names : List Name) (numbers : List ℕ) (p : Prepared limits s tag bound names numbers) where
    pub length-numbers : length numbers ≡ 1 + length (attributes_in s tag)
    length-numbers =
        let all = tag_names (bindings_in s tag) tag in
        let e = ap length (p.named.numbered ∙ numbers-stay s.names all) in
        let k = length-map (λ name. number_of name (with_names s.names all)) all in
        let m = length-map (λ (attribute : Attribute). attribute.name) (attributes_in s tag) in
        omega arith

    -- Its fault is one of the sizes of the document.
    pub late_fault : (elements : List Open) (nodes : ℕ) → elements ≡ s.open_elements → nodes ≡ s.nodes + length numbers →
        fault_of limits s (a_start_tag tag) ≡ first_cause (late_causes limits elements names nodes)
    unfolding fault_of
    late_fault elements nodes same counted =
        let total : nodes ≡ s.nodes + (1 + length (attributes_in s tag)) = omega (arith, length-numbers, counted) in
        causes-behind (early_causes limits s tag) (name_causes (bindings_in s tag) tag ++ last_causes) p.early
        ∙ (causes-behind (name_causes (bindings_in s tag) tag) last_causes p.fine
        ∙ sym (ap (λ x. first_cause (late_causes limits x names nodes)) same
        ∙ (ap (λ x. first_cause (late_causes limits s.open_elements x nodes)) p.named.known ∙
        ap (λ x. first_cause (late_causes limits s.open_elements (names_behind s tag) x)) total)))

    pub late_refused : (elements : List Open) (nodes place : ℕ) (before : List Event → Type 0) (kind : XmlKind) → elements ≡ s.open_elements →
        nodes ≡ s.nodes + length numbers
        → first_cause (late_causes limits elements names nodes) ≡ Some kind → Refused limits s (a_start_tag tag) place before before (fault_at kind place)
    late_refused elements nodes place before kind same counted h = of_token kind (late_fault elements nodes same counted ∙ h) (λ events taken. taken)

    events_are : (place : ℕ) → tag_events numbers tag place ≡ start_tag_events s tag place
    events_are place =
        let b = bindings_in s tag in
        ap (λ x. tag_events x tag place) (p.named.numbered ∙ numbers-stay s.names (tag_names b tag))
        ∙ ap (λ x. starts (number_of (name_in s tag) (names_behind s tag)) place ∷ (x ++ (if tag.is_empty then ends ∷ [] else [])))
        (numbered-are (names_behind s tag) b (undeclaring tag.attributes))

    pub start_of_memory : (place : ℕ) (before after : List Event → Type 0) → fault_of limits s (a_start_tag tag) ≡ None →
        TakesFront (tag_events numbers tag place) before after
        → Refused limits s (a_start_tag tag) place before after WANT_OF_MEMORY
    unfolding events_of
    start_of_memory place before after fine front = of_memory fine (subst (λ x. TakesFront x before after) (events_are place) front)

    -- the state behind the tag
    pub start_told : (new : State) (place : ℕ) (before after : List Event → Type 0) → fault_of limits s (a_start_tag tag) ≡ None → new ≡ behind_start_tag s tag
        → TakesAll (tag_events numbers tag place) before after
        → Advances limits s new (a_start_tag tag) place before after
    unfolding state_behind events_of
    start_told new place before after fine is all = record {
      admitted = fine;
      behind = is;
      told = subst (λ x. TakesAll x before after) (events_are place) all;
    }

    pub started_state : (elements old : List Open) (more : List Name) (nodes : ℕ) → old ≡ s.open_elements → elements ≡ elements_behind old bound tag →
        more ≡ names → nodes ≡ s.nodes + length numbers
        → record { position = Farther; open_elements = elements; root_seen = true; in_text = false; nodes = nodes; names = more } ≡ behind_start_tag s tag
    started_state elements old more nodes same is names_are counted =
        let state : List Open → ℕ → List Name → State = λ elements nodes names. record {
          position = Farther;
          open_elements = elements;
          root_seen = true;
          in_text = false;
          nodes = nodes;
          names = names;
        } in
        let total : nodes ≡ s.nodes + (1 + length (attributes_in s tag)) = omega (arith, length-numbers, counted) in
        ap (λ x. state x nodes more) (is ∙ (ap (λ x. elements_behind x bound tag) same ∙ ap (λ b. elements_behind s.open_elements b tag) p.named.bindings))
        ∙ (ap (λ x. state (elements_behind s.open_elements (bindings_in s tag) tag) x more) total
        ∙ ap (state (elements_behind s.open_elements (bindings_in s tag) tag) (s.nodes + (1 + length (attributes_in s tag)))) (names_are ∙ p.named.known))

-- What reading the names answers, in a state whose elements and names these are.
module _ (s : State) (tag : Tag) (old new : InScope) (kind : Option XmlKind) (numbers : List ℕ) (here : old.open_elements ≡ s.open_elements)
    (so_far : old.names ≡ s.names)
    (reads : ReadsNames kind old new tag numbers) where
  pub names-answered : first_cause (name_causes (bindings_in s tag) tag) ≡ kind
  names-answered = ap (λ x. first_cause (name_causes (bindings_inside (bindings_inside_innermost x) tag) tag)) (sym here) ∙ sym reads.fault

  pub is-prepared : (limits : Limits) → None ≡ first_cause (early_causes limits s tag) → kind ≡ None → Prepared limits s tag new.bound new.names numbers
  is-prepared limits early none = record {
    early = sym early;
    fine = names-answered ∙ none;
    named =
        let named_in : List Open → List Name → Type 0 = λ x y. AreNamed (bindings_inside (bindings_inside_innermost x) tag) y tag new.bound new.names numbers in
        subst (λ x. named_in x s.names) here (subst (λ y. named_in old.open_elements y) so_far (reads.known none));
  }

  pub still-open : new.open_elements ≡ s.open_elements
  still-open = reads.still ∙ here
