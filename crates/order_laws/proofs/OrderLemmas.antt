-- In the document that an invoice is written as by a table in order, no element is misplaced.
use Rattle.std.proofs.Common.{◌≡◌, ℕ, ◌+◌, ◌≤◌, Bool, true, false, not, ◌&&◌, List, [], ◌∷◌, ◌++◌, length, map, refl, sym, ap, ◌∙◌, append_assoc, arith}
use Rattle.std.specs.Prelude.{nat_lt, Option, Some, None}
use Rattle.std.proofs.lemmas.Bool.{ltb-true, ltb-false}
use Rattle.std.proofs.lemmas.Bool.Decides.{nat_tests}
use Rattle.inv_base.specs.Tree.{Forest, an_element, Attribute, Node, size, nodes_of, nodes_of_attributes, document_nodes}
use Rattle.term_table.specs.declared.contexts.Context.{Context}
use Rattle.term_table.specs.Contexts.{root_context}
use Rattle.inv_terms.specs.declared.entries.Entry.{Entry}
use Rattle.node_arena.specs.Moves.{is_child}
use Rattle.bind_rows.specs.declared.names.ElementName.{ElementName}
use Rattle.bind_rows.specs.declared.rows.Step.{Step}
use Rattle.bind_rows.specs.declared.rows.Row.{Row}
use Rattle.bind_rows.specs.Added.{built}
use Rattle.bind_table.specs.Lines.{Plan, nothing, a_line, plan_of}
use Rattle.bind_meaning.specs.Losses.{least_place, place_of, is_greater, stands_too_early, is_behind_a_greater, is_misplaced, misplaced_nodes}
use Rattle.bind_meaning.specs.Terms.{turned, without_first, way_to}
use Rattle.bind_meaning.specs.Trees.{name_of, spots, is_emitted, holds_further, attributes, element_text, with_text, elements, written_lines, document_of}
use Rattle.order_laws.specs.Order.{least_number, all_behind, is_less, raised, rise, paths_of, is_in_order}
use Rattle.binding_laws.proofs.TreeLemmas.{Each, each-weaker, each-append, filter-none, element_node, Lies, document-lies}
use Rattle.binding_laws.proofs.TreeLemmas.{behind-text, inside-lies, behind-element}
use Rattle.order_laws.proofs.ListLemmas.{both, any-none}
use Rattle.order_laws.proofs.PlaceLemmas.{along-paths, place-last, IsCalled, element-called, Along, along-more}
use Rattle.order_laws.proofs.NumberLemmas.{Numbered, document-numbered}
use Rattle.order_laws.proofs.ChildLemmas as children
use Rattle.order_laws.proofs.ChildLemmas.{OfChild, OfChildren, children-weaker, none-before, at-first}

-- ---- bounds of places

greater-more : (low high : ℕ) (place : Option ℕ) → low ≤ high → is_greater low place ≡ false → is_greater high place ≡ false
greater-more low high None l h = refl
greater-more low high (Some k) l h = grind (arith, nat_tests, l, h)

itself-not : (k : ℕ) → nat_lt k k ≡ false
itself-not k = grind (arith, nat_tests)

-- A bound is raised to just the place.
less-raised : (bound : ℕ) (place : Option ℕ) → is_less place (raised bound place) ≡ false
less-raised bound None = refl
less-raised bound (Some k) = itself-not k

greater-raised : (bound : ℕ) (place : Option ℕ) → is_greater (raised bound place) place ≡ false
greater-raised bound None = refl
greater-raised bound (Some k) = itself-not k

not-true : (b : Bool) → not b ≡ true → b ≡ false
not-true true h = cc
not-true false h = refl

higher : (bound : ℕ) (place : Option ℕ) → is_less place bound ≡ false → (other : Option ℕ) → is_greater bound other ≡ false
    → is_greater (raised bound place) other ≡ false
higher bound None l other h = h
higher bound (Some k) l other h = greater-more bound k other (ltb-false k bound l) h

-- ---- ways

turned-onto : (done ns : List ℕ) → turned done ns ≡ turned [] ns ++ done
turned-onto done [] = refl
turned-onto done (n ∷ ns) =
    turned-onto (n ∷ done) ns ∙ (sym (append_assoc (turned [] ns) (n ∷ []) done) ∙ ap (λ l. l ++ done) (sym (turned-onto (n ∷ []) ns)))

turned-more : (above way : List ℕ) (n : ℕ) → turned [] above ≡ 0 ∷ way → turned [] (n ∷ above) ≡ 0 ∷ (way ++ (n ∷ []))
turned-more above way n w = turned-onto (n ∷ []) above ∙ ap (λ l. l ++ (n ∷ [])) w

-- ---- the elements that are written

module _ (nodes : List Node) (rows : List Row) (es : List Entry) (numbered : Numbered 0 nodes) where
  abbrev InPlace : List Node → Type 0
  InPlace some = Each (λ node. is_misplaced nodes rows node ≡ false) some

  -- the place of the node isn't above the bound
  abbrev Within : ℕ → Node → Type 0
  Within bound node = is_greater bound (place_of nodes rows node) ≡ false

  attributes-in-place : (above : List ℕ) (n : ℕ) (attrs : List Attribute) → InPlace (nodes_of_attributes above n attrs)
  attributes-in-place above n [] = tt
  attributes-in-place above n (a ∷ attrs) = (refl, attributes-in-place above (n + 1) attrs)

  -- the place of an element is that which the paths have for its name
  element-place : (p : ℕ) (above way : List ℕ) (n : ℕ) (name : ElementName) (paths : List (List Step)) → turned [] (p ∷ above) ≡ 0 ∷ way
      → Along nodes rows paths way → IsCalled nodes n name → place_of nodes rows (element_node (p ∷ above) n (name_of name)) ≡ least_number name paths
  element-place p above way n name paths w along called =
      let path : way_to (n ∷ (p ∷ above)) ≡ way ++ (n ∷ []) = ap without_first (turned-more (p ∷ above) way n w) in
      ap (least_place nodes (built rows)) path
      ∙ (along-paths nodes (built rows) (way ++ (n ∷ [])) ∙ (along n [] ∙ place-last nodes n name called paths))

  too-early-by : (p n place bound : ℕ) (x : Node) (a b : Bool) → is_child p x ≡ a → nat_lt x.number n ≡ b → bound ≤ place → OfChild p n (Within bound) x
      → (a && (b && is_greater place (place_of nodes rows x))) ≡ false
  too-early-by p n place bound x true true e f l h = greater-more bound place (place_of nodes rows x) l (h e (ltb-true x.number n f))
  too-early-by p n place bound x true false e f l h = refl
  too-early-by p n place bound x false b e f l h = refl

  -- where no child before it has a greater place
  in-place-by : (p : ℕ) (above : List ℕ) (n : ℕ) (name : ElementName) (bound : ℕ) (place : Option ℕ) → is_less place bound ≡ false
      → OfChildren p n (Within bound) nodes
      → elim place [ None ↦ false | Some k ↦ is_behind_a_greater nodes rows (element_node (p ∷ above) n (name_of name)) k ] ≡ false
  in-place-by p above n name bound None l h = refl
  in-place-by p above n name bound (Some k) l h =
      let node : Node = element_node (p ∷ above) n (name_of name) in
      any-none (stands_too_early nodes rows node p k) nodes
      (each-weaker (OfChild p n (Within bound)) (λ x. stands_too_early nodes rows node p k x ≡ false) nodes
      (λ x c. too-early-by p n k bound x (is_child p x) (nat_lt x.number n) refl refl (ltb-false k bound l) c) h)

  element-in-place : (p : ℕ) (above : List ℕ) (n : ℕ) (name : ElementName) (bound : ℕ) (place : Option ℕ)
      → place_of nodes rows (element_node (p ∷ above) n (name_of name)) ≡ place → is_less place bound ≡ false → OfChildren p n (Within bound) nodes
      → is_misplaced nodes rows (element_node (p ∷ above) n (name_of name)) ≡ false
  element-in-place p above n name bound place e l h =
      ap (λ o. elim o [ None ↦ false | Some k ↦ is_behind_a_greater nodes rows (element_node (p ∷ above) n (name_of name)) k ]) e
      ∙ in-place-by p above n name bound place l h

  with-text-in-place : (text : List ℕ) (f : Forest) (p : ℕ) (above : List ℕ) (n bound : ℕ)
      → ((m : ℕ) → Lies nodes (p ∷ above) m f → OfChildren p m (Within bound) nodes → InPlace (nodes_of (p ∷ above) m f))
      → Lies nodes (p ∷ above) n (with_text text f) → OfChildren p n (Within bound) nodes → InPlace (nodes_of (p ∷ above) n (with_text text f))
  with-text-in-place [] f p above n bound k h o = k n h o
  with-text-in-place (c ∷ text) f p above n bound k h o = (
    refl,
    k (n + 1) (behind-text nodes (p ∷ above) n (c ∷ text) f h) (children.behind-text nodes numbered p above n (c ∷ text) f (Within bound) h refl o),
  )

  -- elements of one line, and what is behind them
  line-in-place : (t : Step) (attrs : Context → List Attribute) (inside : Context → Forest) (is_there : Context → Bool) (rest : Forest)
      (p : ℕ) (above way : List ℕ) (paths : List (List Step)) (bound : ℕ)
      → turned [] (p ∷ above) ≡ 0 ∷ way → Along nodes rows paths way → is_less (least_number t.name paths) bound ≡ false
      → is_greater bound (least_number t.name paths) ≡ false
      → ((d : Context) (n m : ℕ) → Along nodes rows (all_behind t.name paths) (way ++ (n ∷ [])) → Lies nodes (n ∷ (p ∷ above)) m (inside d)
      → OfChildren n m (Within 0) nodes → InPlace (nodes_of (n ∷ (p ∷ above)) m (inside d)))
      → ((m : ℕ) → Lies nodes (p ∷ above) m rest → OfChildren p m (Within bound) nodes → InPlace (nodes_of (p ∷ above) m rest))
      → (ds : List Context) (n : ℕ)
      → Lies nodes (p ∷ above) n (elements is_there (λ d. an_element (name_of t.name) (attrs d) (inside d)) ds rest)
      → OfChildren p n (Within bound) nodes
      → InPlace (nodes_of (p ∷ above) n (elements is_there (λ d. an_element (name_of t.name) (attrs d) (inside d)) ds rest))
  line-in-place t attrs inside is_there rest p above way paths bound w along less greater inner last [] n h o = last n h o
  line-in-place t attrs inside is_there rest p above way paths bound w along less greater inner last (d ∷ ds) n h o =
      go (line-in-place t attrs inside is_there rest p above way paths bound w along less greater inner last ds) (is_there d) h
    where
      go : ((m : ℕ) → Lies nodes (p ∷ above) m (elements is_there (λ e. an_element (name_of t.name) (attrs e) (inside e)) ds rest)
          → OfChildren p m (Within bound) nodes
          → InPlace (nodes_of (p ∷ above) m (elements is_there (λ e. an_element (name_of t.name) (attrs e) (inside e)) ds rest)))
          → (b : Bool)
          → Lies nodes (p ∷ above) n (elim b [
            | true ↦ an_element (name_of t.name) (attrs d) (inside d) (elements is_there (λ e. an_element (name_of t.name) (attrs e) (inside e)) ds rest)
            | false ↦ elements is_there (λ e. an_element (name_of t.name) (attrs e) (inside e)) ds rest
          ])
          → InPlace (nodes_of (p ∷ above) n (elim b [
            | true ↦ an_element (name_of t.name) (attrs d) (inside d) (elements is_there (λ e. an_element (name_of t.name) (attrs e) (inside e)) ds rest)
            | false ↦ elements is_there (λ e. an_element (name_of t.name) (attrs e) (inside e)) ds rest
          ]))
      go further true k =
          let more : Forest = elements is_there (λ e. an_element (name_of t.name) (attrs e) (inside e)) ds rest in
          let around : List ℕ = p ∷ above in
          let within : ℕ = n + (1 + length (attrs d)) in
          let later : ℕ = n + (1 + (length (attrs d) + size (inside d))) in
          let called : IsCalled nodes n t.name = element-called nodes around n t.name (attrs d) (inside d) more k in
          let place : place_of nodes rows (element_node around n (name_of t.name)) ≡ least_number t.name paths =
          element-place p above way n t.name paths w along called in (
            element-in-place p above n t.name bound (least_number t.name paths) place less o,
            each-append (λ node. is_misplaced nodes rows node ≡ false) (nodes_of_attributes (n ∷ around) (n + 1) (attrs d)) _
                (attributes-in-place (n ∷ around) (n + 1) (attrs d))
                (each-append (λ node. is_misplaced nodes rows node ≡ false) (nodes_of (n ∷ around) within (inside d)) _
                (inner d n within (along-more nodes rows paths way n t.name called along)
                (inside-lies nodes around n (name_of t.name) (attrs d) (inside d) more k)
                (at-first nodes numbered around n (name_of t.name) (attrs d) (inside d) more k (Within 0)))
                (further later (behind-element nodes around n (name_of t.name) (attrs d) (inside d) more k)
                (children.behind-element nodes numbered p above n (name_of t.name) (attrs d) (inside d) more (Within bound) k
                (ap (is_greater bound) place ∙ greater) o))),
          )
      go further false k = further n k o

  lines-in-place : (plan : Plan) (paths : List (List Step)) (p : ℕ) (above way : List ℕ) (held : Bool) (c : Context) (n bound : ℕ)
      → rise paths bound plan ≡ true → turned [] (p ∷ above) ≡ 0 ∷ way → Along nodes rows paths way
      → Lies nodes (p ∷ above) n (written_lines es plan held c) → OfChildren p n (Within bound) nodes
      → InPlace (nodes_of (p ∷ above) n (written_lines es plan held c))
  lines-in-place nothing paths p above way held c n bound r w along h o = tt
  lines-in-place (a_line t cells inside rest) paths p above way held c n bound r w along h o =
      let place : Option ℕ = least_number t.name paths in
      let own = both (not (is_less place bound)) (rise (all_behind t.name paths) 0 inside && rise paths (raised bound place) rest) r in
      let less : is_less place bound ≡ false = not-true (is_less place bound) own.0 in
      let others = both (rise (all_behind t.name paths) 0 inside) (rise paths (raised bound place) rest) own.1 in
      line-in-place t (attributes es t cells) (λ d. with_text (element_text es cells d) (written_lines es inside (holds_further es cells inside held d) d))
      (is_emitted es t cells inside held) (written_lines es rest held c) p above way paths (raised bound place) w along (less-raised bound place)
      (greater-raised bound place)
      (λ d k m on lies before. with-text-in-place (element_text es cells d) (written_lines es inside (holds_further es cells inside held d) d) k (p ∷ above) m 0
      (λ j l b. lines-in-place inside (all_behind t.name paths) k (p ∷ above) (way ++ (k ∷ [])) (holds_further es cells inside held d) d j 0 others.0
      (turned-more (p ∷ above) way k w) on l b) lies before)
      (λ m l b. lines-in-place rest paths p above way held c m (raised bound place) others.1 w along l b) (spots es c t.group) n h
      (children-weaker p n (Within bound) (Within (raised bound place)) nodes (λ x k. higher bound place less (place_of nodes rows x) k) o)

pub nothing-misplaced : (rows : List Row) (es : List Entry) → is_in_order rows ≡ true → misplaced_nodes (document_nodes (document_of rows es)) rows ≡ []
unfolding document_of misplaced_nodes
nothing-misplaced rows es ordered =
    let f : Forest = written_lines es (plan_of rows) false root_context in
    let nodes : List Node = document_nodes f in
    ap (map (λ (node : Node). node.number)) (filter-none (is_misplaced nodes rows) nodes (
      refl,
      lines-in-place nodes rows es (document-numbered f) (plan_of rows) (paths_of (built rows)) 0 [] [] false root_context 1 0 ordered refl (λ m more. refl)
          (document-lies f) (λ c l. refl, none-before 0 (Within nodes rows es (document-numbered f) 0) (0 ∷ []) 1 f),
    ))
