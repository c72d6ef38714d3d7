-- Guards at the elements of a document: what stands at a place below an element is in its forest, and in the elements that
-- are written of a line it is known where it hangs on no value.
use Rattle.std.proofs.Common.{◌≡◌, ℕ, ◌+◌, Bool, true, false, not, ◌&&◌, ◌||◌, List, [], ◌∷◌, ◌++◌, length, map, filter, flat_map, Option, Some, None, ◌⊎◌, inl}
use Rattle.std.proofs.Common.{inr, refl, sym, ap, ◌∙◌, subst, append_assoc}
use Rattle.std.specs.Prelude.{if◌then◌else◌, is_some, is_none, option_map}
use Rattle.std.specs.List.{list_all, list_any}
use Rattle.std.specs.Str.{bytes_eq}
use Rattle.std.proofs.lemmas.Bool.{false≢true}
use Rattle.std.proofs.lemmas.Option.{same_Some}
use Rattle.std.proofs.lemmas.Slice.Eq.{bytes_eq-Decides}
use Rattle.inv_base.specs.Tree.{Forest, no_more, a_text, an_element, Name, Attribute, Node, size}
use Rattle.term_table.specs.declared.groups.Group.{Group}
use Rattle.term_table.specs.declared.terms.Term.{Term}
use Rattle.term_table.specs.declared.contexts.Context.{Context}
use Rattle.term_table.specs.Contexts.{outer_context}
use Rattle.term_table.specs.SemanticModel.{same_term}
use Rattle.term_table.proofs.SeatLemmas.{same_term_is}
use Rattle.inv_terms.specs.declared.values.Value.{Value}
use Rattle.inv_terms.specs.declared.entries.Entry.{Entry}
use Rattle.inv_terms.specs.Values.{trimmed, spelled}
use Rattle.inv_terms.specs.Listing.{value_in}
use Rattle.bind_rows.specs.declared.names.ElementName.{ElementName}
use Rattle.bind_rows.specs.declared.names.Leaf.{Leaf}
use Rattle.bind_rows.specs.declared.names.Leaf.TheVariants as leaves
use Rattle.bind_rows.specs.declared.guards.Guard.{Guard}
use Rattle.bind_rows.specs.declared.guards.Test.{Test}
use Rattle.bind_rows.specs.declared.guards.Test.TheVariants as tests
use Rattle.bind_rows.specs.declared.rows.Content.{Content}
use Rattle.bind_rows.specs.declared.rows.Content.TheVariants as contents
use Rattle.bind_rows.specs.declared.rows.Step.{Step}
use Rattle.bind_rows.specs.declared.rows.Row.{Row}
use Rattle.bind_rows.specs.Same.{same_or_none}
use Rattle.bind_rows.specs.Namespaces.{uri_of}
use Rattle.bind_table.specs.Lines.{Cell, Plan, nothing, a_line}
use Rattle.bind_meaning.specs.Names.{is_spelled}
use Rattle.bind_meaning.specs.Currencies.{currency_id}
use Rattle.bind_meaning.specs.Elements.{children_named, attributes_named, string_at, elements_below, leaves_at, is_one_of, is_full, passes, are_met}
use Rattle.bind_meaning.specs.Writing.{context_for, term_text, row_text, writes_entry}
use Rattle.bind_meaning.specs.Trees.{name_of, spots, either, cells_hold, holds, line_holds, is_emitted, holds_further, is_due, is_constant, attributes}
use Rattle.bind_meaning.specs.Trees.{constant_or_text, element_text, is_at_element, with_text, elements, written_lines}
use Rattle.binding_laws.specs.Apart.{is_called, is_nothing, is_attribute_named, is_at_attribute, Together, Known, rows_below, is_as_it_is, is_unlike_of}
use Rattle.binding_laws.specs.Apart.{is_unlike, never_says, is_of_group, brings, is_row_of, are_together, is_name_alone, is_surely_full, is_met_by_values}
use Rattle.binding_laws.specs.Apart.{is_unmet_by_values, rows_so, constants, joined, strings_of_line, is_constantly, certain, both_lists, strings_below}
use Rattle.binding_laws.specs.Apart.{strings_for, is_surely_met, is_surely_unmet, is_holder, meets_all, fails_some}
use Rattle.binding_laws.specs.Written.{values_named}
use Rattle.binding_laws.proofs.TreeLemmas.{Each, each-append, Lies, behind-text, behind-element}
use Rattle.binding_laws.proofs.NodeLemmas.{Top, tops, Holds, children-are, texts, inside-holds, string-is}
use Rattle.binding_laws.proofs.NodeLemmas as nodes_of_names
use Rattle.binding_laws.proofs.AttributeLemmas.{attributes-are}
use Rattle.binding_laws.proofs.ListLemmas.{flat_map-map, flat_map-flat_map, map-flat_map, map-append, map-map, append-nil, both-true, not-true, or-either}
use Rattle.binding_laws.proofs.ContextLemmas.{each-flat_map, all-each}
use Rattle.binding_laws.proofs.ReachLemmas.{Among, among-front, among-back, among-flat_map, among-filter, among-map, any-among, any-is, all-is}
use Rattle.binding_laws.proofs.KnownLemmas.{Knows, written-as-it-is, or-none-is, context-of-group}
use Rattle.binding_laws.proofs.CellLemmas.{own_text, text-by-rows, own_strings, line-values}

-- ---- a place below an element, in its forest

-- what is found at the elements of a name at the top of a forest
abbrev pub over : {X : Type 0} → ElementName → (List Attribute → Forest → List X) → Forest → List X
over name g no_more = []
over name g (a_text characters rest) = over name g rest
over name g (an_element e attrs inside rest) = elim (is_spelled (uri_of name.namespace) name.local e) [
  | true ↦ g attrs inside ++ over name g rest
  | false ↦ over name g rest
]

abbrev pub end_strings : Leaf → List Attribute → Forest → List (List ℕ)
end_strings leaves.Element attrs inside = trimmed (texts inside) ∷ []
end_strings (leaves.Attribute local) attrs inside = map trimmed (values_named local attrs)

abbrev pub strings_in : Leaf → List ElementName → List Attribute → Forest → List (List ℕ)
strings_in leaf [] attrs inside = end_strings leaf attrs inside
strings_in leaf (name ∷ path) attrs inside = over name (strings_in leaf path) inside

abbrev pub meet : List Guard → List Attribute → Forest → Bool
meet [] attrs inside = true
meet (guard ∷ guards) attrs inside = elim (passes guard.test (strings_in guard.place.leaf guard.place.path attrs inside)) [
  | true ↦ meet guards attrs inside
  | false ↦ false
]

module _ (nodes : List Node) where
  abbrev Are : {X : Type 0} → (ℕ → List X) → (List Attribute → Forest → List X) → Type 0
  Are at g = (above : List ℕ) (n : ℕ) (name : Name) (attrs : List Attribute) (inside rest : Forest) → Lies nodes above n (an_element name attrs inside rest) →
      at n ≡ g attrs inside

  tops-over : {X : Type 0} (name : ElementName) (at : ℕ → List X) (g : List Attribute → Forest → List X) → Are at g → (above : List ℕ) (n : ℕ) (f : Forest) →
      Lies nodes above n f
      → flat_map (λ (t : Top). at t.number) (filter (nodes_of_names.is_called name) (tops n f)) ≡ over name g f
  tops-over name at g each above n no_more lies = refl
  tops-over name at g each above n (a_text characters rest) lies = tops-over name at g each above (n + 1) rest (behind-text nodes above n characters rest lies)
  tops-over name at g each above n (an_element e attrs inside rest) lies =
      go (is_spelled (uri_of name.namespace) name.local e)
      (tops-over name at g each above (n + (1 + (length attrs + size inside))) rest (behind-element nodes above n e attrs inside rest lies))
    where
      top : Top
      top = record { number = n; name = e; attributes = attrs; inside = inside }

      go : (b : Bool) → flat_map (λ (t : Top). at t.number) (filter (nodes_of_names.is_called name) (tops (n + (1 + (length attrs + size inside))) rest)) ≡ over
          name g rest
          → flat_map (λ (t : Top). at t.number) (if b then record { number = n; name = e; attributes = attrs; inside = inside } ∷ filter
          (nodes_of_names.is_called name) (tops (n + (1 + (length attrs + size inside))) rest) else filter (nodes_of_names.is_called name)
          (tops (n + (1 + (length attrs + size inside))) rest))
          ≡ (elim b [ true ↦ g attrs inside ++ over name g rest | false ↦ over name g rest ])
      go true k = ap (λ l. l ++ flat_map (λ (t : Top). at t.number)
          (filter (nodes_of_names.is_called name) (tops (n + (1 + (length attrs + size inside))) rest))) (each above n e attrs inside rest lies) ∙
          ap (λ l. g attrs inside ++ l) k
      go false k = k

  abbrev strings_from : Leaf → List ElementName → ℕ → List (List ℕ)
  strings_from leaf path n = map (λ m. trimmed (string_at nodes m)) (flat_map (leaves_at nodes leaf) (elements_below nodes path n))

  at-the-end : (leaf : Leaf) → Are (strings_from leaf []) (end_strings leaf)
  at-the-end leaves.Element above n name attrs inside rest lies = ap (λ s. trimmed s ∷ []) (string-is nodes above n name attrs inside rest lies)
  at-the-end (leaves.Attribute local) above n name attrs inside rest lies =
      ap (map (λ m. trimmed (string_at nodes m))) (append-nil (attributes_named nodes local n))
      ∙ (sym (map-map trimmed (string_at nodes) (attributes_named nodes local n)) ∙
      ap (map trimmed) (attributes-are nodes above n name attrs inside rest lies local))

  pub strings-are : (leaf : Leaf) (path : List ElementName) → Are (strings_from leaf path) (strings_in leaf path)
  strings-are leaf [] above n name attrs inside rest lies = at-the-end leaf above n name attrs inside rest lies
  strings-are leaf (other ∷ path) above n name attrs inside rest lies =
      let holds = inside-holds nodes above n name attrs inside rest lies in
      let place : ℕ = n + (1 + length attrs) in
      let others : List Top = filter (nodes_of_names.is_called other) (tops place inside) in
      ap (map (λ m. trimmed (string_at nodes m))) (flat_map-flat_map (leaves_at nodes leaf) (elements_below nodes path) (children_named nodes other n))
      ∙ (map-flat_map (λ m. trimmed (string_at nodes m)) (λ m. flat_map (leaves_at nodes leaf) (elements_below nodes path m)) (children_named nodes other n)
      ∙ (ap (flat_map (strings_from leaf path)) (children-are nodes n above place inside holds other)
      ∙ (flat_map-map (strings_from leaf path) (λ (t : Top). t.number) others
      ∙ tops-over other (strings_from leaf path) (strings_in leaf path) (strings-are leaf path) (n ∷ above) place inside holds.lies)))

  pub met-as : (guards : List Guard) (above : List ℕ) (n : ℕ) (name : Name) (attrs : List Attribute) (inside rest : Forest) →
      Lies nodes above n (an_element name attrs inside rest) → are_met nodes guards n ≡ meet guards attrs inside
  met-as [] above n name attrs inside rest lies = refl
  met-as (guard ∷ guards) above n name attrs inside rest lies =
      ap (λ l. elim (passes guard.test l) [ true ↦ are_met nodes guards n | false ↦ false ])
      (strings-are guard.place.leaf guard.place.path above n name attrs inside rest lies)
      ∙ ap (λ b. elim (passes guard.test (strings_in guard.place.leaf guard.place.path attrs inside)) [ true ↦ b | false ↦ false ])
      (met-as guards above n name attrs inside rest lies)

-- ---- in elements that are written

pub over-text : {X : Type 0} (name : ElementName) (g : List Attribute → Forest → List X) (text : List ℕ) (f : Forest) →
    over name g (with_text text f) ≡ over name g f
over-text name g [] f = refl
over-text name g (c ∷ text) f = refl

module _ {X : Type 0} (name : ElementName) (g : List Attribute → Forest → List X) (written : Name) (attrs : Context → List Attribute)
    (inside : Context → Forest) (is_there : Context → Bool) (rest : Forest) where
  abbrev some : List Context → Forest
  some ds = elements is_there (λ d. an_element written (attrs d) (inside d)) ds rest

  over-called : is_spelled (uri_of name.namespace) name.local written ≡ true → (ds : List Context) →
      over name g (some ds) ≡ flat_map (λ d. g (attrs d) (inside d)) (filter is_there ds) ++ over name g rest
  over-called called [] = refl
  over-called called (d ∷ ds) = go (is_there d) (over-called called ds)
    where
      go : (b : Bool) → over name g (some ds) ≡ flat_map (λ e. g (attrs e) (inside e)) (filter is_there ds) ++ over name g rest
          → over name g (elim b [ true ↦ an_element written (attrs d) (inside d) (some ds) | false ↦ some ds ]) ≡ flat_map (λ e. g (attrs e) (inside e))
          (if b then d ∷ filter is_there ds else filter is_there ds) ++ over name g rest
      go true k =
          ap (λ b. elim b [ true ↦ g (attrs d) (inside d) ++ over name g (some ds) | false ↦ over name g (some ds) ]) called
          ∙ (ap (λ l. g (attrs d) (inside d) ++ l) k ∙
          sym (append_assoc (g (attrs d) (inside d)) (flat_map (λ e. g (attrs e) (inside e)) (filter is_there ds)) (over name g rest)))
      go false k = k

  over-other : is_spelled (uri_of name.namespace) name.local written ≡ false → (ds : List Context) → over name g (some ds) ≡ over name g rest
  over-other called [] = refl
  over-other called (d ∷ ds) = go (is_there d) (over-other called ds)
    where
      go : (b : Bool) → over name g (some ds) ≡ over name g rest →
          over name g (elim b [ true ↦ an_element written (attrs d) (inside d) (some ds) | false ↦ some ds ]) ≡ over name g rest
      go true k = ap (λ b. elim b [ true ↦ g (attrs d) (inside d) ++ over name g (some ds) | false ↦ over name g (some ds) ]) called ∙ k
      go false k = k

pub text-texts : (text : List ℕ) → texts (with_text text no_more) ≡ text
text-texts [] = refl
text-texts (c ∷ text) = append-nil (c ∷ text)

no-some : {A B : Type 0} {x : A} → None ≡ Some x → B
no-some {A} {B} {x} h = absurd (let z : ◌≡◌ {A = Option A} None (Some x) = h in cc)

mapped-some : {A B : Type 0} (f : A → B) (o : Option A) (y : B) → option_map f o ≡ Some y → (x : A) × (o ≡ Some x) × (f x ≡ y)
mapped-some f None y h = no-some h
mapped-some f (Some x) y h = (x, refl, same_Some _ _ h)

module _ (es : List Entry) where
  constant-rows : (d : Context) (rows : List Row) (xs : List (List ℕ)) → constants rows ≡ Some xs → flat_map (own_strings es d) rows ≡ xs
  constant-rows d [] xs h = same_Some _ _ h
  constant-rows d (row ∷ rows) xs h = go (constant-rows d rows) row.content h
    where
      go : ((ys : List (List ℕ)) → constants rows ≡ Some ys → flat_map (own_strings es d) rows ≡ ys) → (content : Content) →
          (elim content [ (contents.Term term) ↦ None | (contents.Constant text) ↦ option_map (λ texts. text ∷ texts) (constants rows) ]) ≡ Some xs
          → flat_map (own_strings es d) (record row { content = content } ∷ rows) ≡ xs
      go later (contents.Term term) k = no-some k
      go later (contents.Constant text) k =
          let w = mapped-some (λ texts. text ∷ texts) (constants rows) xs k in
          ap (λ l. text ∷ l) (later w.0 w.1) ∙ w.2

  constant-text : (d : Context) (rows : List Row) (xs : List (List ℕ)) → constants rows ≡ Some xs → flat_map (own_text es d) rows ≡ joined xs
  constant-text d rows xs h = joined-texts rows ∙ ap joined (constant-rows d rows xs h)
    where
      one : (o : Option (List ℕ)) (rest : List (List ℕ)) → (elim o [ None ↦ [] | Some text ↦ text ]) ++
          joined rest ≡ joined ((elim o [ None ↦ [] | Some text ↦ text ∷ [] ]) ++ rest)
      one None rest = refl
      one (Some text) rest = refl

      joined-texts : (rows : List Row) → flat_map (own_text es d) rows ≡ joined (flat_map (own_strings es d) rows)
      joined-texts [] = refl
      joined-texts (row ∷ rows) = ap (λ l. own_text es d row ++ l) (joined-texts rows) ∙ one (constant_or_text es d row) (flat_map (own_strings es d) rows)

  pub at-nothing : (plan : Plan) (held : Bool) (c : Context) → is_nothing plan ≡ true → written_lines es plan held c ≡ no_more
  at-nothing nothing held c h = refl
  at-nothing (a_line t cells inside rest) held c h = absurd (false≢true h)

  line-strings-are : (leaf : Leaf) (t : Step) (cells : List Cell) (inside : Plan) (held : Bool) (d : Context) (xs : List (List ℕ)) →
      strings_of_line leaf cells inside ≡ Some xs
      → end_strings leaf (attributes es t cells d) (with_text (element_text es cells d) (written_lines es inside held d)) ≡ xs
  line-strings-are leaves.Element t cells inside held d xs h = go (is_nothing inside) refl h
    where
      go : (b : Bool) → is_nothing inside ≡ b →
          (elim b [ true ↦ option_map (λ texts. trimmed (joined texts) ∷ []) (constants (rows_so is_at_element cells)) | false ↦ None ]) ≡ Some xs
          → trimmed (texts (with_text (element_text es cells d) (written_lines es inside held d))) ∷ [] ≡ xs
      go false e k = no-some k
      go true e k =
          let w = mapped-some (λ texts. trimmed (joined texts) ∷ []) (constants (rows_so is_at_element cells)) xs k in
          ap (λ f. trimmed (texts (with_text (element_text es cells d) f)) ∷ []) (at-nothing inside held d e)
          ∙ (ap (λ text. trimmed text ∷ []) (text-texts (element_text es cells d) ∙
          (text-by-rows es d cells ∙ constant-text d (rows_so is_at_element cells) w.0 w.1)) ∙ w.2)
  line-strings-are (leaves.Attribute local) t cells inside held d xs h = go (bytes_eq local currency_id) refl h
    where
      go : (b : Bool) → bytes_eq local currency_id ≡ b →
          (elim b [ true ↦ None | false ↦ option_map (map trimmed) (constants (rows_so (is_at_attribute local) cells)) ]) ≡ Some xs →
          map trimmed (values_named local (attributes es t cells d)) ≡ xs
      go true e k = no-some k
      go false e k =
          let w = mapped-some (map trimmed) (constants (rows_so (is_at_attribute local) cells)) xs k in
          ap (map trimmed) (line-values local e es t cells d ∙ constant-rows d (rows_so (is_at_attribute local) cells) w.0 w.1) ∙ w.2

  either-second : (a : Bool) (b : Unit {0} → Bool) → b tt ≡ true → either a b ≡ true
  either-second true b e = refl
  either-second false b e = e

  or-true : (a b : Bool) → b ≡ true → (a || b) ≡ true
  or-true true b e = refl
  or-true false b e = e

  no-group : (o : Option Group) (c : Context) → is_none o ≡ true → spots es c o ≡ c ∷ []
  no-group None c h = refl
  no-group (Some group) c h = absurd (false≢true h)

  certain-is : (t : Step) (cells : List Cell) (inside : Plan) (c : Context) (f : Context → List (List ℕ)) (o : Option (List (List ℕ))) (xs : List (List ℕ))
      → ((ys : List (List ℕ)) → o ≡ Some ys → (d : Context) → f d ≡ ys) → certain (is_none t.group && is_constantly cells inside) o ≡ Some xs
      → flat_map f (filter (is_emitted es t cells inside true) (spots es c t.group)) ≡ xs
  certain-is t cells inside c f None xs each h = no-some h
  certain-is t cells inside c f (Some []) xs each h = none (filter (is_emitted es t cells inside true) (spots es c t.group)) ∙ same_Some _ _ h
    where
      none : (ds : List Context) → flat_map f ds ≡ []
      none [] = refl
      none (d ∷ ds) = ap (λ l. l ++ flat_map f ds) (each [] refl d) ∙ none ds
  certain-is t cells inside c f (Some (y ∷ ys)) xs each h = go (is_none t.group && is_constantly cells inside) refl h
    where
      go : (b : Bool) → (is_none t.group && is_constantly cells inside) ≡ b → (elim b [ true ↦ Some (y ∷ ys) | false ↦ None ]) ≡ Some xs →
          flat_map f (filter (is_emitted es t cells inside true) (spots es c t.group)) ≡ xs
      go false e k = no-some k
      go true e k =
          let w = both-true (is_none t.group) (is_constantly cells inside) e in
          let there : is_emitted es t cells inside true c ≡ true = either-second (line_holds es cells inside c) (λ _. t.always || is_due true cells inside)
          (or-true t.always (is_constantly cells inside) w.1) in
          ap (λ l. flat_map f (filter (is_emitted es t cells inside true) l)) (no-group t.group c w.0)
          ∙ (ap (λ b. flat_map f (if b then c ∷ [] else [])) there ∙ (append-nil (f c) ∙ (each (y ∷ ys) refl c ∙ same_Some _ _ k)))

  both-some : (a b : Option (List (List ℕ))) (xs : List (List ℕ)) → both_lists a b ≡ Some xs → (l : List (List ℕ)) ×
      ((m : List (List ℕ)) × ((a ≡ Some l) × ((b ≡ Some m) × (l ++ m ≡ xs))))
  both-some None b xs h = no-some h
  both-some (Some l) b xs h = let w = mapped-some (λ more. l ++ more) b xs h in (l, (w.0, (refl, (w.1, w.2))))

  pub below-are : (leaf : Leaf) (plan : Plan) (name : ElementName) (path : List ElementName) (xs : List (List ℕ)) →
      strings_below leaf plan (name ∷ path) ≡ Some xs → (c : Context)
      → over name (strings_in leaf path) (written_lines es plan true c) ≡ xs
  below-are leaf nothing name path xs h c = same_Some _ _ h
  below-are leaf (a_line t cells inside rest) name path xs h c =
      go (λ other further ys k d. below-are leaf inside other further ys k d) (λ ys k. below-are leaf rest name path ys k c) (is_called name t.name) refl h
    where
      element : Context → Forest
      element d = with_text (element_text es cells d) (written_lines es inside (holds_further es cells inside true d) d)

      each : ((other : ElementName) (further : List ElementName) (ys : List (List ℕ)) → strings_below leaf inside (other ∷ further) ≡ Some ys → (d : Context) →
          over other (strings_in leaf further) (written_lines es inside true d) ≡ ys)
          → (path : List ElementName) (ys : List (List ℕ))
          → (elim path [
            | [] ↦ strings_of_line leaf cells inside
            | (other ∷ further) ↦ elim (is_constant cells inside) [ true ↦ strings_below leaf inside (other ∷ further) | false ↦ None ]
          ]) ≡ Some ys →
          (d : Context)
          → strings_in leaf path (attributes es t cells d)
          (with_text (element_text es cells d) (written_lines es inside (holds_further es cells inside true d) d)) ≡ ys
      each inner [] ys k d = line-strings-are leaf t cells inside (holds_further es cells inside true d) d ys k
      each inner (other ∷ further) ys k d = constantly (is_constant cells inside) refl k
        where
          constantly : (b : Bool) → is_constant cells inside ≡ b → (elim b [ true ↦ strings_below leaf inside (other ∷ further) | false ↦ None ]) ≡ Some ys
              → over other (strings_in leaf further)
              (with_text (element_text es cells d) (written_lines es inside (holds_further es cells inside true d) d)) ≡ ys
          constantly false e z = no-some z
          constantly true e z =
              over-text other (strings_in leaf further) (element_text es cells d) (written_lines es inside (holds_further es cells inside true d) d)
              ∙ (ap (λ held. over other (strings_in leaf further) (written_lines es inside held d))
              (either-second (line_holds es cells inside d) (λ _. true && is_constant cells inside) e) ∙ inner other further ys z d)

      go : ((other : ElementName) (further : List ElementName) (ys : List (List ℕ)) → strings_below leaf inside (other ∷ further) ≡ Some ys → (d : Context) →
          over other (strings_in leaf further) (written_lines es inside true d) ≡ ys)
          → ((ys : List (List ℕ)) → strings_below leaf rest (name ∷ path) ≡ Some ys → over name (strings_in leaf path) (written_lines es rest true c) ≡ ys)
          → (b : Bool) → is_called name t.name ≡ b → (elim b [
            | true ↦ both_lists
                (certain (is_none t.group && is_constantly cells inside)
                (elim path [
                  | [] ↦ strings_of_line leaf cells inside
                  | (other ∷ further) ↦ elim (is_constant cells inside) [ true ↦ strings_below leaf inside (other ∷ further) | false ↦ None ]
                ]))
                (strings_below leaf rest (name ∷ path))
            | false ↦ strings_below leaf rest (name ∷ path)
          ]) ≡ Some xs
          → over name (strings_in leaf path) (written_lines es (a_line t cells inside rest) true c) ≡ xs
      go inner later false e k =
          over-other name (strings_in leaf path) (name_of t.name) (attributes es t cells)
          (λ d. with_text (element_text es cells d) (written_lines es inside (holds_further es cells inside true d) d))
          (is_emitted es t cells inside true) (written_lines es rest true c) e (spots es c t.group)
          ∙ later xs k
      go inner later true e k =
          let o : Option (List (List ℕ)) = elim path [
            | [] ↦ strings_of_line leaf cells inside
            | (other ∷ further) ↦ elim (is_constant cells inside) [ true ↦ strings_below leaf inside (other ∷ further) | false ↦ None ]
          ] in
          let w = both-some (certain (is_none t.group && is_constantly cells inside) o) (strings_below leaf rest (name ∷ path)) xs k in
          over-called name (strings_in leaf path) (name_of t.name) (attributes es t cells)
          (λ d. with_text (element_text es cells d) (written_lines es inside (holds_further es cells inside true d) d))
          (is_emitted es t cells inside true) (written_lines es rest true c) e (spots es c t.group)
          ∙ (ap (λ l. l ++ over name (strings_in leaf path) (written_lines es rest true c))
          (certain-is t cells inside c (λ d. strings_in leaf path (attributes es t cells d)
          (with_text (element_text es cells d) (written_lines es inside (holds_further es cells inside true d) d))) o w.0 (each inner path) w.1.1.0)
          ∙ (ap (λ l. w.0 ++ l) (later w.1.0 w.1.1.1.0) ∙ w.1.1.1.1))

  -- ---- guards at the elements of a line

  abbrev pub inside_of : List Cell → Plan → Bool → Context → Forest
  inside_of cells inside held d = with_text (element_text es cells d) (written_lines es inside (holds_further es cells inside held d) d)

  strings-for : (t : Step) (cells : List Cell) (inside : Plan) (d : Context) (guard : Guard) (xs : List (List ℕ)) → strings_for inside guard ≡ Some xs
      → strings_in guard.place.leaf guard.place.path (attributes es t cells d) (with_text (element_text es cells d) (written_lines es inside true d)) ≡ xs
  strings-for t cells inside d guard xs h = go guard.place.path h
    where
      go : (path : List ElementName) → (elim path [ [] ↦ None | (name ∷ further) ↦ strings_below guard.place.leaf inside (name ∷ further) ]) ≡ Some xs
          → strings_in guard.place.leaf path (attributes es t cells d) (with_text (element_text es cells d) (written_lines es inside true d)) ≡ xs
      go [] k = no-some k
      go (name ∷ further) k =
          over-text name (strings_in guard.place.leaf further) (element_text es cells d) (written_lines es inside true d) ∙
          below-are guard.place.leaf inside name further xs k d

  -- an element of a line that is written only where it holds an entry, holds one
  holder-line : (t : Step) (cells : List Cell) (inside : Plan) (held : Bool) (d : Context) → is_holder t cells inside ≡ true →
      is_emitted es t cells inside held d ≡ true → line_holds es cells inside d ≡ true
  holder-line t cells inside held d h e =
      let w = both-true (not t.always) (not (is_constantly cells inside)) h in
      go (line_holds es cells inside d) (not-true t.always w.0) (not-true (is_constantly cells inside) w.1) e
    where
      never : (a b c : Bool) → a ≡ false → c ≡ false → (a || (b && c)) ≡ true → ⊥
      never true b c x y z = false≢true (sym x)
      never false true c x y z = false≢true (sym y ∙ z)
      never false false c x y z = false≢true z

      go : (b : Bool) → t.always ≡ false → is_constantly cells inside ≡ false → either b (λ _. t.always || is_due held cells inside) ≡ true → b ≡ true
      go true x y k = refl
      go false x y k = absurd (never t.always held (is_constantly cells inside) x y k)

  holder-holds : (cells : List Cell) (inside : Plan) (held : Bool) (d : Context) → line_holds es cells inside d ≡ true →
      holds_further es cells inside held d ≡ true
  holder-holds cells inside held d h = ap (λ b. either b (λ _. held && is_constant cells inside)) h

  abbrev strings_here : Leaf → List ElementName → Step → List Cell → Plan → Context → List (List ℕ)
  strings_here leaf path t cells inside d = strings_in leaf path (attributes es t cells d)
      (with_text (element_text es cells d) (written_lines es inside true d))

  -- ---- by the values that rows write

  abbrev Writes : (List ℕ → Type 0) → List Row → Type 0
  Writes P rs = (row : Row) → Among row rs → (d : Context) (text : List ℕ) → constant_or_text es d row ≡ Some text → P (trimmed text)

  own-each : (P : List ℕ → Type 0) (d : Context) (row : Row) → ((text : List ℕ) → constant_or_text es d row ≡ Some text → P (trimmed text)) →
      Each P (map trimmed (own_strings es d row))
  own-each P d row f = go (constant_or_text es d row) f
    where
      go : (o : Option (List ℕ)) → ((text : List ℕ) → o ≡ Some text → P (trimmed text)) → Each P (map trimmed (elim o [ None ↦ [] | Some text ↦ text ∷ [] ]))
      go None g = tt
      go (Some text) g = (g text refl, tt)

  rows-each : (P : List ℕ → Type 0) (d : Context) (rs : List Row) → Writes P rs → Each P (map trimmed (flat_map (own_strings es d) rs))
  rows-each P d [] f = tt
  rows-each P d (row ∷ rs) f =
      subst (Each P) (sym (map-append trimmed (own_strings es d row) (flat_map (own_strings es d) rs)))
      (each-append P (map trimmed (own_strings es d row)) (map trimmed (flat_map (own_strings es d) rs)) (own-each P d row (f row (inl refl) d))
      (rows-each P d rs (λ r a. f r (inr a))))

  -- each string at a place below an element is one that a row writes there
  below-each : (P : List ℕ → Type 0) (local : List ℕ) → bytes_eq local currency_id ≡ false → (plan : Plan) (name : ElementName) (path : List ElementName) →
      Writes P (rows_below local plan (name ∷ path)) → (held : Bool) (c : Context)
      → Each P (over name (strings_in (leaves.Attribute local) path) (written_lines es plan held c))
  below-each P local h nothing name path f held c = tt
  below-each P local h (a_line t cells inside rest) name path f held c =
      go (λ other further g more d. below-each P local h inside other further g more d) (λ g. below-each P local h rest name path g held c)
      (is_called name t.name) refl f
    where
      element : Context → Forest
      element d = with_text (element_text es cells d) (written_lines es inside (holds_further es cells inside held d) d)

      each : ((other : ElementName) (further : List ElementName) → Writes P (rows_below local inside (other ∷ further)) → (more : Bool) (d : Context) →
          Each P (over other (strings_in (leaves.Attribute local) further) (written_lines es inside more d)))
          → (path : List ElementName) →
          Writes P (elim path [ [] ↦ rows_so (is_at_attribute local) cells | (other ∷ further) ↦ rows_below local inside (other ∷ further) ]) →
          (d : Context)
          → Each P (strings_in (leaves.Attribute local) path (attributes es t cells d)
          (with_text (element_text es cells d) (written_lines es inside (holds_further es cells inside held d) d)))
      each inner [] g d = subst (λ l. Each P (map trimmed l)) (sym (line-values local h es t cells d)) (rows-each P d (rows_so (is_at_attribute local) cells) g)
      each inner (other ∷ further) g d =
          subst (Each P) (sym (over-text other (strings_in (leaves.Attribute local) further) (element_text es cells d)
          (written_lines es inside (holds_further es cells inside held d) d))) (inner other further g (holds_further es cells inside held d) d)

      go : ((other : ElementName) (further : List ElementName) → Writes P (rows_below local inside (other ∷ further)) → (more : Bool) (d : Context) →
          Each P (over other (strings_in (leaves.Attribute local) further) (written_lines es inside more d)))
          → (Writes P (rows_below local rest (name ∷ path)) → Each P (over name (strings_in (leaves.Attribute local) path) (written_lines es rest held c)))
          → (b : Bool) → is_called name t.name ≡ b → Writes P (elim b [
            | true ↦ (elim path [ [] ↦ rows_so (is_at_attribute local) cells | (other ∷ further) ↦ rows_below local inside (other ∷ further) ]) ++
                rows_below local rest (name ∷ path)
            | false ↦ rows_below local rest (name ∷ path)
          ])
          → Each P (over name (strings_in (leaves.Attribute local) path) (written_lines es (a_line t cells inside rest) held c))
      go inner later false e g =
          subst (Each P)
          (sym (over-other name (strings_in (leaves.Attribute local) path) (name_of t.name) (attributes es t cells)
          (λ d. with_text (element_text es cells d) (written_lines es inside (holds_further es cells inside held d) d))
          (is_emitted es t cells inside held) (written_lines es rest held c) e (spots es c t.group)))
          (later g)
      go inner later true e g =
          let here : List Row = elim path [ [] ↦ rows_so (is_at_attribute local) cells | (other ∷ further) ↦ rows_below local inside (other ∷ further) ] in
          let strings : Context → List (List ℕ) = λ d. strings_in (leaves.Attribute local) path (attributes es t cells d)
          (with_text (element_text es cells d) (written_lines es inside (holds_further es cells inside held d) d)) in
          subst (Each P)
          (sym (over-called name (strings_in (leaves.Attribute local) path) (name_of t.name) (attributes es t cells)
          (λ d. with_text (element_text es cells d) (written_lines es inside (holds_further es cells inside held d) d))
          (is_emitted es t cells inside held) (written_lines es rest held c) e (spots es c t.group)))
          (each-append P (flat_map strings (filter (is_emitted es t cells inside held) (spots es c t.group)))
          (over name (strings_in (leaves.Attribute local) path) (written_lines es rest held c))
          (each-flat_map P strings (filter (is_emitted es t cells inside held) (spots es c t.group))
          (all-each (λ d. Each P (strings d)) (filter (is_emitted es t cells inside held) (spots es c t.group))
          (each inner path (λ row a. g row (among-front row here (rows_below local rest (name ∷ path)) a)))))
          (later (λ row a. g row (among-back row here (rows_below local rest (name ∷ path)) a))))

  none-any : (p : List ℕ → Bool) (xs : List (List ℕ)) → Each (λ x. p x ≡ false) xs → list_any p xs ≡ false
  none-any p [] h = refl
  none-any p (x ∷ xs) h = ap (λ b. b || list_any p xs) h.0 ∙ none-any p xs h.1

  module _ (known : Known) (c : Context) (knows : Knows known es c) where
    -- a row writes none of the texts
    row-unlike : (texts : List (List ℕ)) (row : Row) → is_unlike known texts row ≡ true → (d : Context) (text : List ℕ) → constant_or_text es d row ≡ Some text
        → is_one_of texts (trimmed text) ≡ false
    row-unlike texts row h d text e = go row.content refl h e
      where
        no-text : (term : Term) (x : Context) (v : Value) → value_in es term x ≡ Some v → (ts : List (List ℕ)) →
            list_all (λ t. list_any (is_unlike_of term t) known.unlike) ts ≡ true → is_one_of ts (trimmed (spelled v)) ≡ false
        no-text term x v at [] k = refl
        no-text term x v at (t ∷ ts) k =
            let w = both-true (list_any (is_unlike_of term t) known.unlike) (list_all (λ t. list_any (is_unlike_of term t) known.unlike) ts) k in
            let u = any-is (is_unlike_of term t) known.unlike w.0 in
            let p = both-true (same_term u.0.term term) (bytes_eq u.0.text t) u.1.1 in
            ap (λ b. b || is_one_of ts (trimmed (spelled v)))
            (differs (bytes_eq (trimmed (spelled v)) t) refl
            (λ same. knows.unlike u.0 u.1.0 x v (ap (λ y. value_in es y x) (same_term_is u.0.term term p.0) ∙ at)
            (same ∙ sym ((bytes_eq-Decides u.0.text t).0 p.1))))
            ∙ no-text term x v at ts w.1
          where
            differs : (b : Bool) → bytes_eq (trimmed (spelled v)) t ≡ b → (trimmed (spelled v) ≡ t → ⊥) → bytes_eq (trimmed (spelled v)) t ≡ false
            differs true q never = absurd (never ((bytes_eq-Decides (trimmed (spelled v)) t).0 q))
            differs false q never = q

        go : (content : Content) → row.content ≡ content → (elim content [
          | (contents.Term term) ↦ is_as_it_is row term && list_all (λ t. list_any (is_unlike_of term t) known.unlike) texts
          | (contents.Constant t) ↦ not (is_one_of texts (trimmed t))
        ]) ≡ true
            → ◌≡◌ {A = Option (List ℕ)} (elim content [ (contents.Constant t) ↦ Some t | (contents.Term term) ↦ row_text row es d ]) (Some text) →
            is_one_of texts (trimmed text) ≡ false
        go (contents.Constant t) q k z = ap (λ s. is_one_of texts (trimmed s)) (sym (same_Some _ _ z)) ∙ not-true (is_one_of texts (trimmed t)) k
        go (contents.Term term) q k z =
            let w = both-true (is_as_it_is row term) (list_all (λ t. list_any (is_unlike_of term t) known.unlike) texts) k in
            let says : term_text row es term (context_for row d) ≡ Some text =
            sym (ap (λ content. elim content [ (contents.Term t) ↦ term_text row es t (context_for row d) | (contents.Constant t) ↦ None ]) q) ∙ z in
            let v = mapped-some spelled (value_in es term (context_for row d)) text (sym (written-as-it-is es row term (context_for row d) w.0) ∙ says) in
            ap (λ s. is_one_of texts (trimmed s)) (sym v.2) ∙ no-text term (context_for row d) v.0 v.1 texts w.1

    -- none of the texts stands at the place
    never-parsed : (t : Step) (cells : List Cell) (inside : Plan) (d : Context) (leaf : Leaf) (path : List ElementName) (texts : List (List ℕ)) →
        never_says known inside leaf path texts ≡ true
        → list_any (is_one_of texts) (strings_here leaf path t cells inside d) ≡ false
    never-parsed t cells inside d leaf [] texts h = absurd (false≢true h)
    never-parsed t cells inside d leaves.Element (name ∷ path) texts h = absurd (false≢true h)
    never-parsed t cells inside d (leaves.Attribute local) (name ∷ path) texts h =
        let w = both-true (not (bytes_eq local currency_id)) (list_all (is_unlike known texts) (rows_below local inside (name ∷ path))) h in
        ap (list_any (is_one_of texts)) (over-text name (strings_in (leaves.Attribute local) path) (element_text es cells d) (written_lines es inside true d))
        ∙ none-any (is_one_of texts) (over name (strings_in (leaves.Attribute local) path) (written_lines es inside true d))
        (below-each (λ s. is_one_of texts s ≡ false) local (not-true (bytes_eq local currency_id) w.0) inside name path
        (λ row a x text e. row-unlike texts row (all-is (is_unlike known texts) (rows_below local inside (name ∷ path)) row w.1 a) x text e) true d)

    -- ---- a part that stands wherever something is written

    -- where one of the cells writes something, the part has a value
    part-stands : (cells : List Cell) (x : Together) → Among x known.together → (d : Context) → Among d (spots es c (Some x.group)) →
        list_all (λ (cell : Cell). brings x cell.row) cells ≡ true → cells_hold es cells d ≡ true
        → (w : Value) × (value_in es x.part (outer_context d) ≡ Some w)
    part-stands cells x a d at all h =
        let y = any-is (λ (cell : Cell). writes_entry cell.row es d) cells h in
        by-row y.0.row (all-is (λ (cell : Cell). brings x cell.row) cells y.0 all y.1.0) y.1.1
      where
        by-row : (row : Row) → brings x row ≡ true → is_some (row_text row es d) ≡ true → (w : Value) × (value_in es x.part (outer_context d) ≡ Some w)
        by-row row b k = go row.content b k
          where
            by-value : (term : Term) → is_of_group x.group row ≡ true → (same_term term x.term ≡ true) ⊎ (same_term term x.part ≡ true) → (o : Option Value) →
                value_in es term (context_for row d) ≡ o → is_some (option_map spelled o) ≡ true
                → (w : Value) × (value_in es x.part (outer_context d) ≡ Some w)
            by-value term group one None e k = absurd (false≢true k)
            by-value term group (inl main) (Some v) e k =
                knows.stands x a d at v ((λ i. value_in es (sym (same_term_is term x.term main) i) (sym (context-of-group x.group row d group) i)) ∙ e)
            by-value term group (inr part) (Some v) e k =
                (v, (λ i. value_in es (sym (same_term_is term x.part part) i) (sym (context-of-group x.group row d group) i)) ∙ e)

            go : (content : Content) → (elim content [
              | (contents.Term term) ↦ is_as_it_is row term && (is_of_group x.group row && (same_term term x.term || same_term term x.part))
              | (contents.Constant text) ↦ true
            ]) ≡ true
                → is_some (elim content [ (contents.Term term) ↦ term_text row es term (context_for row d) | (contents.Constant text) ↦ None ]) ≡ true →
                (w : Value) × (value_in es x.part (outer_context d) ≡ Some w)
            go (contents.Constant text) b k = absurd (false≢true k)
            go (contents.Term term) b k =
                let u = both-true (is_as_it_is row term) (is_of_group x.group row && (same_term term x.term || same_term term x.part)) b in
                let v = both-true (is_of_group x.group row) (same_term term x.term || same_term term x.part) u.1 in
                by-value term v.0 (or-either (same_term term x.term) (same_term term x.part) v.1) (value_in es term (context_for row d)) refl
                (sym (ap is_some (written-as-it-is es row term (context_for row d) u.0)) ∙ k)

    -- what is written at the attribute where the part stands
    part-text : (row : Row) (local : List ℕ) (x : Together) (d : Context) (w : Value) → is_row_of x local row ≡ true →
        value_in es x.part (outer_context d) ≡ Some w
        → (is_attribute_named local row.leaf ≡ true) × ((constant_or_text es d row ≡ Some (spelled w)) × (writes_entry row es d ≡ true))
    part-text row local x d w h value = go row.content refl h
      where
        go : (content : Content) → row.content ≡ content → (elim content [
          | (contents.Term term) ↦ is_attribute_named local row.leaf && (is_as_it_is row term && (is_of_group x.group row && same_term term x.part))
          | (contents.Constant text) ↦ false
        ]) ≡ true
            → (is_attribute_named local row.leaf ≡ true) × ((constant_or_text es d row ≡ Some (spelled w)) × (writes_entry row es d ≡ true))
        go (contents.Constant text) q k = absurd (false≢true k)
        go (contents.Term term) q k =
            let u = both-true (is_attribute_named local row.leaf) (is_as_it_is row term && (is_of_group x.group row && same_term term x.part)) k in
            let v = both-true (is_as_it_is row term) (is_of_group x.group row && same_term term x.part) u.1 in
            let y = both-true (is_of_group x.group row) (same_term term x.part) v.1 in
            let text : row_text row es d ≡ Some (spelled w) =
            ap (λ content. elim content [ (contents.Term t) ↦ term_text row es t (context_for row d) | (contents.Constant t) ↦ None ]) q
            ∙ (written-as-it-is es row term (context_for row d) v.0
            ∙ ap (option_map spelled) ((λ i. value_in es (same_term_is term x.part y.1 i) (context-of-group x.group row d y.0 i)) ∙ value)) in
            (u.0, (ap (λ content. elim content [ (contents.Constant t) ↦ Some t | (contents.Term t) ↦ row_text row es d ]) q ∙ text, ap is_some text))

    holds-cells : (o : Option Group) (cells : List Cell) (inside rest : Plan) (d : Context) → is_nothing inside ≡ true → is_nothing rest ≡ true →
        is_none o ≡ true
        → either (list_any (λ e. either (cells_hold es cells e) (λ _. holds es inside e)) (spots es d o)) (λ _. holds es rest d) ≡ true →
        cells_hold es cells d ≡ true
    holds-cells (Some g) cells inside rest d i r n h = absurd (false≢true n)
    holds-cells None cells (a_line s more inner beside) rest d i r n h = absurd (false≢true i)
    holds-cells None cells nothing (a_line s more inner beside) d i r n h = absurd (false≢true r)
    holds-cells None cells nothing nothing d i r n h = go (cells_hold es cells d) h
      where
        go : (b : Bool) → either (either b (λ _. false) || false) (λ _. false) ≡ true → b ≡ true
        go true k = refl
        go false k = absurd (false≢true k)

    surely-full : (t : Step) (cells : List Cell) (inside : Plan) (d : Context) → Among d (spots es c t.group) → (leaf : Leaf) (path : List ElementName) →
        is_surely_full known t cells inside leaf path ≡ true → line_holds es cells inside d ≡ true
        → list_any is_full (strings_here leaf path t cells inside d) ≡ true
    surely-full t (cell ∷ cells) inside d at leaf path h k = absurd (false≢true h)
    surely-full t [] nothing d at leaf path h k = absurd (false≢true h)
    surely-full t [] (a_line s cells inside rest) d at leaf [] h k = absurd (false≢true h)
    surely-full t [] (a_line s cells inside rest) d at leaves.Element (name ∷ path) h k = absurd (false≢true h)
    surely-full t [] (a_line s cells inside rest) d at (leaves.Attribute local) (name ∷ path) h k =
        let w = both-true (not (bytes_eq local currency_id)) _ h in
        let i = both-true (is_nothing inside) _ w.1 in
        let r = both-true (is_nothing rest) _ i.1 in
        let n = both-true (is_none s.group) _ r.1 in
        let m = both-true (is_name_alone name path s.name) (list_any (are_together t cells local) known.together) n.1 in
        let x = any-is (are_together t cells local) known.together m.1 in
        let y = both-true (same_or_none t.group (Some x.0.group)) _ x.1.1 in
        let z = both-true (list_any (λ (cell : Cell). is_row_of x.0 local cell.row) cells) (list_all (λ (cell : Cell). brings x.0 cell.row) cells) y.1 in
        let part = any-is (λ (cell : Cell). is_row_of x.0 local cell.row) cells z.0 in
        let value = part-stands cells x.0 x.1.0 d (subst (λ o. Among d (spots es c o)) (or-none-is t.group x.0.group y.0) at) z.1
        (holds-cells s.group cells inside rest d i.0 r.0 n.0 k) in
        let text = part-text part.0.row local x.0 d value.0 part.1.1 value.1 in
        let there : is_emitted es s cells inside true d ≡ true =
        ap (λ b. either (either b (λ _. holds es inside d)) (λ _. s.always || is_due true cells inside))
        (any-among (λ (cell : Cell). writes_entry cell.row es d) part.0 cells text.1.1 part.1.0) in
        let own : Among (spelled value.0) (values_named local (attributes es s cells d)) =
        subst (Among (spelled value.0)) (sym (line-values local (not-true (bytes_eq local currency_id) w.0) es s cells d))
        (among-flat_map (own_strings es d) part.0.row (spelled value.0) (rows_so (is_at_attribute local) cells)
        (among-map (λ (cell : Cell). cell.row) part.0 (filter (is_at_attribute local) cells)
        (among-filter (is_at_attribute local) part.0 cells text.0 part.1.0))
        (subst (λ o. Among (spelled value.0) (elim o [ None ↦ [] | Some u ↦ u ∷ [] ])) (sym text.1.0) (inl refl))) in
        by-path path m.0 value.0 (knows.full x.0 x.1.0 (outer_context d) value.0 value.1) there own
        (subst (λ o. Among d (spots es d o)) (sym (none-is-none s.group n.0)) (inl refl))
      where
        none-is-none : (o : Option Group) → is_none o ≡ true → o ≡ None
        none-is-none None q = refl
        none-is-none (Some g) q = absurd (false≢true q)

        by-path : (path : List ElementName) → is_name_alone name path s.name ≡ true → (v : Value) → is_full (trimmed (spelled v)) ≡ true →
            is_emitted es s cells inside true d ≡ true
            → Among (spelled v) (values_named local (attributes es s cells d)) → Among d (spots es d s.group) →
            list_any is_full (strings_here (leaves.Attribute local) (name ∷ path) t [] (a_line s cells inside rest) d) ≡ true
        by-path (u ∷ us) q v full there own spot = absurd (false≢true q)
        by-path [] q v full there own spot =
            let strings : Context → List (List ℕ) = λ e. map trimmed (values_named local (attributes es s cells e)) in
            ap (list_any is_full)
            (over-called name (strings_in (leaves.Attribute local) []) (name_of s.name) (attributes es s cells)
            (λ e. with_text (element_text es cells e) (written_lines es inside (holds_further es cells inside true e) e))
            (is_emitted es s cells inside true) (written_lines es rest true d) q (spots es d s.group))
            ∙ any-among is_full (trimmed (spelled v)) (flat_map strings (filter (is_emitted es s cells inside true) (spots es d s.group)) ++
            over name (strings_in (leaves.Attribute local) []) (written_lines es rest true d)) full
            (among-front (trimmed (spelled v)) (flat_map strings (filter (is_emitted es s cells inside true) (spots es d s.group)))
            (over name (strings_in (leaves.Attribute local) []) (written_lines es rest true d))
            (among-flat_map strings d (trimmed (spelled v)) (filter (is_emitted es s cells inside true) (spots es d s.group))
            (among-filter (is_emitted es s cells inside true) d (spots es d s.group) there spot)
            (among-map trimmed (spelled v) (values_named local (attributes es s cells d)) own)))

    -- ---- guards

    value-met : (t : Step) (cells : List Cell) (inside : Plan) (d : Context) → Among d (spots es c t.group) → line_holds es cells inside d ≡ true →
        (test : Test) (leaf : Leaf) (path : List ElementName) → (elim test [
          | (tests.OneOf texts) ↦ false
          | (tests.NoneOf texts) ↦ never_says known inside leaf path texts
          | tests.Present ↦ is_surely_full known t cells inside leaf path
          | tests.Absent ↦ false
        ]) ≡ true
        → passes test (strings_here leaf path t cells inside d) ≡ true
    value-met t cells inside d at k (tests.OneOf texts) leaf path h = absurd (false≢true h)
    value-met t cells inside d at k (tests.NoneOf texts) leaf path h = ap not (never-parsed t cells inside d leaf path texts h)
    value-met t cells inside d at k tests.Present leaf path h = surely-full t cells inside d at leaf path h k
    value-met t cells inside d at k tests.Absent leaf path h = absurd (false≢true h)

    value-unmet : (t : Step) (cells : List Cell) (inside : Plan) (d : Context) → Among d (spots es c t.group) → line_holds es cells inside d ≡ true →
        (test : Test) (leaf : Leaf) (path : List ElementName) → (elim test [
          | (tests.OneOf texts) ↦ never_says known inside leaf path texts
          | (tests.NoneOf texts) ↦ false
          | tests.Present ↦ false
          | tests.Absent ↦ is_surely_full known t cells inside leaf path
        ]) ≡ true
        → passes test (strings_here leaf path t cells inside d) ≡ false
    value-unmet t cells inside d at k (tests.OneOf texts) leaf path h = never-parsed t cells inside d leaf path texts h
    value-unmet t cells inside d at k (tests.NoneOf texts) leaf path h = absurd (false≢true h)
    value-unmet t cells inside d at k tests.Present leaf path h = absurd (false≢true h)
    value-unmet t cells inside d at k tests.Absent leaf path h = ap not (surely-full t cells inside d at leaf path h k)

    all-met : (t : Step) (cells : List Cell) (inside : Plan) (d : Context) → Among d (spots es c t.group) → line_holds es cells inside d ≡ true →
        (guards : List Guard)
        → list_all (λ guard. is_surely_met inside guard || is_met_by_values known t cells inside guard) guards ≡ true
        → meet guards (attributes es t cells d) (with_text (element_text es cells d) (written_lines es inside true d)) ≡ true
    all-met t cells inside d at k [] h = refl
    all-met t cells inside d at k (guard ∷ guards) h =
        let w = both-true (is_surely_met inside guard || is_met_by_values known t cells inside guard)
        (list_all (λ guard. is_surely_met inside guard || is_met_by_values known t cells inside guard) guards) h in
        ap (λ b. elim b [ true ↦ meet guards (attributes es t cells d) (with_text (element_text es cells d) (written_lines es inside true d)) | false ↦ false ])
        (one (or-either (is_surely_met inside guard) (is_met_by_values known t cells inside guard) w.0))
        ∙ all-met t cells inside d at k guards w.1
      where
        go : (o : Option (List (List ℕ))) → strings_for inside guard ≡ o → (elim o [ None ↦ false | Some strings ↦ passes guard.test strings ]) ≡ true
            → passes guard.test (strings_in guard.place.leaf guard.place.path (attributes es t cells d)
            (with_text (element_text es cells d) (written_lines es inside true d))) ≡ true
        go None e z = absurd (false≢true z)
        go (Some xs) e z = ap (passes guard.test) (strings-for t cells inside d guard xs e) ∙ z

        one : (is_surely_met inside guard ≡ true) ⊎ (is_met_by_values known t cells inside guard ≡ true)
            → passes guard.test (strings_in guard.place.leaf guard.place.path (attributes es t cells d)
            (with_text (element_text es cells d) (written_lines es inside true d))) ≡ true
        one (inl z) = go (strings_for inside guard) refl z
        one (inr z) = value-met t cells inside d at k guard.test guard.place.leaf guard.place.path z

    some-unmet : (t : Step) (cells : List Cell) (inside : Plan) (d : Context) → Among d (spots es c t.group) → line_holds es cells inside d ≡ true →
        (guards : List Guard)
        → list_any (λ guard. is_surely_unmet inside guard || is_unmet_by_values known t cells inside guard) guards ≡ true
        → meet guards (attributes es t cells d) (with_text (element_text es cells d) (written_lines es inside true d)) ≡ false
    some-unmet t cells inside d at k [] h = absurd (false≢true h)
    some-unmet t cells inside d at k (guard ∷ guards) h =
        go (some-unmet t cells inside d at k guards) (is_surely_unmet inside guard || is_unmet_by_values known t cells inside guard) refl h
      where
        first : (o : Option (List (List ℕ))) → strings_for inside guard ≡ o → (elim o [ None ↦ false | Some strings ↦ not (passes guard.test strings) ]) ≡ true
            → passes guard.test (strings_in guard.place.leaf guard.place.path (attributes es t cells d)
            (with_text (element_text es cells d) (written_lines es inside true d))) ≡ false
        first None e z = absurd (false≢true z)
        first (Some xs) e z = ap (passes guard.test) (strings-for t cells inside d guard xs e) ∙ not-true (passes guard.test xs) z

        one : (is_surely_unmet inside guard ≡ true) ⊎ (is_unmet_by_values known t cells inside guard ≡ true)
            → passes guard.test (strings_in guard.place.leaf guard.place.path (attributes es t cells d)
            (with_text (element_text es cells d) (written_lines es inside true d))) ≡ false
        one (inl z) = first (strings_for inside guard) refl z
        one (inr z) = value-unmet t cells inside d at k guard.test guard.place.leaf guard.place.path z

        second : (b : Bool) → meet guards (attributes es t cells d) (with_text (element_text es cells d) (written_lines es inside true d)) ≡ false
            → (elim b [
              | true ↦ meet guards (attributes es t cells d) (with_text (element_text es cells d) (written_lines es inside true d))
              | false ↦ false
            ]) ≡ false
        second true z = z
        second false z = refl

        go : (list_any (λ guard. is_surely_unmet inside guard || is_unmet_by_values known t cells inside guard) guards ≡ true
            → meet guards (attributes es t cells d) (with_text (element_text es cells d) (written_lines es inside true d)) ≡ false)
            → (b : Bool) → (is_surely_unmet inside guard || is_unmet_by_values known t cells inside guard) ≡ b
            → (b || list_any (λ guard. is_surely_unmet inside guard || is_unmet_by_values known t cells inside guard) guards) ≡ true
            → (elim (passes guard.test (strings_in guard.place.leaf guard.place.path (attributes es t cells d)
            (with_text (element_text es cells d) (written_lines es inside true d)))) [
              | true ↦ meet guards (attributes es t cells d) (with_text (element_text es cells d) (written_lines es inside true d))
              | false ↦ false
            ]) ≡ false
        go later true e z =
            ap (λ b. elim b [
              | true ↦ meet guards (attributes es t cells d) (with_text (element_text es cells d) (written_lines es inside true d))
              | false ↦ false
            ])
            (one (or-either (is_surely_unmet inside guard) (is_unmet_by_values known t cells inside guard) e))
        go later false e z =
            second (passes guard.test (strings_in guard.place.leaf guard.place.path (attributes es t cells d)
            (with_text (element_text es cells d) (written_lines es inside true d)))) (later z)

    pub own-met : (guards : List Guard) (t : Step) (cells : List Cell) (inside : Plan) (held : Bool) (d : Context) → Among d (spots es c t.group) →
        meets_all known guards t cells inside ≡ true → is_emitted es t cells inside held d ≡ true
        → meet guards (attributes es t cells d) (with_text (element_text es cells d) (written_lines es inside (holds_further es cells inside held d) d)) ≡ true
    own-met [] t cells inside held d at h e = refl
    own-met (guard ∷ guards) t cells inside held d at h e =
        let w = both-true (is_holder t cells inside) (list_all (λ guard. is_surely_met inside guard || is_met_by_values known t cells inside guard)
        (guard ∷ guards)) h in
        let line = holder-line t cells inside held d w.0 e in
        ap (λ b. meet (guard ∷ guards) (attributes es t cells d) (with_text (element_text es cells d) (written_lines es inside b d)))
        (holder-holds cells inside held d line)
        ∙ all-met t cells inside d at line (guard ∷ guards) w.1

    pub other-unmet : (guards : List Guard) (t : Step) (cells : List Cell) (inside : Plan) (held : Bool) (d : Context) → Among d (spots es c t.group) →
        fails_some known guards t cells inside ≡ true → is_emitted es t cells inside held d ≡ true
        → meet guards (attributes es t cells d) (with_text (element_text es cells d) (written_lines es inside (holds_further es cells inside held d) d)) ≡ false
    other-unmet guards t cells inside held d at h e =
        let w = both-true (is_holder t cells inside) (list_any (λ guard. is_surely_unmet inside guard || is_unmet_by_values known t cells inside guard) guards)
        h in
        let line = holder-line t cells inside held d w.0 e in
        ap (λ b. meet guards (attributes es t cells d) (with_text (element_text es cells d) (written_lines es inside b d)))
        (holder-holds cells inside held d line)
        ∙ some-unmet t cells inside d at line guards w.1
