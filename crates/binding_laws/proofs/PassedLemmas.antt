-- In the document that an invoice is written as, every element is on the way of some row, so nothing is passed over.
use Rattle.std.proofs.Common.{◌≡◌, ℕ, ◌+◌, Bool, true, false, not, ◌&&◌, List, [], ◌∷◌, ◌++◌, length, inl, inr, refl, sym, ap, ◌∙◌, subst, append_assoc}
use Rattle.std.specs.Prelude.{nat_lt}
use Rattle.inv_base.specs.Tree.{Forest, an_element, Name, Attribute, Node, size, nodes_of, nodes_of_attributes, document_nodes}
use Rattle.term_table.specs.declared.contexts.Context.{Context}
use Rattle.term_table.specs.Contexts.{root_context}
use Rattle.inv_terms.specs.declared.entries.Entry.{Entry}
use Rattle.node_arena.specs.Moves.{tree_node}
use Rattle.bind_rows.specs.declared.rows.Step.{Step}
use Rattle.bind_rows.specs.declared.rows.Row.{Row}
use Rattle.bind_rows.specs.Same.{same_step, choose}
use Rattle.bind_table.specs.Lines.{Cell, Plan, nothing, a_line, into, own_cells, add, grown, plan_of}
use Rattle.bind_table.proofs.SameLemmas.{step-sound}
use Rattle.bind_meaning.specs.Names.{has_element_name}
use Rattle.bind_meaning.specs.Trees.{name_of, spots, is_emitted, holds_further, attributes, element_text, with_text, elements, written_lines, document_of}
use Rattle.bind_meaning.specs.Terms.{names_row, is_on_a_way, turned, without_first, way_to, is_passed_over, passed_over}
use Rattle.binding_laws.proofs.TreeLemmas.{Each, each-append, filter-none, element_node, Lies, document-lies, behind-text, inside-lies, behind-element}
use Rattle.binding_laws.proofs.NodeLemmas.{at-element, and-false}
use Rattle.binding_laws.proofs.RowLemmas.{called-self}
use Rattle.binding_laws.proofs.ReachLemmas.{Among, any-among}

-- ---- every line is on the way of a row

-- Some row goes along these steps.
record HasFront (rows : List Row) (front : List Step) : Type 0 where
  row : Row
  among : Among row rows
  further : List Step
  is : row.path ≡ front ++ further

abbrev Fronts : List Row → List Step → Plan → Type 0
Fronts rows up nothing = Unit {0}
Fronts rows up (a_line t cells inside rest) = HasFront rows (up ++ (t ∷ [])) × Fronts rows (up ++ (t ∷ [])) inside × Fronts rows up rest

into-fronts : (rows : List Row) (up : List Step) (s : Step) (own : List Cell → List Cell) (deeper : Plan → Plan) → HasFront rows (up ++ (s ∷ []))
    → ((inside : Plan) → Fronts rows (up ++ (s ∷ [])) inside → Fronts rows (up ++ (s ∷ [])) (deeper inside)) → (plan : Plan) → Fronts rows up plan →
    Fronts rows up (into s own deeper plan)
into-fronts rows up s own deeper front deep nothing h = (front, deep nothing tt, tt)
into-fronts rows up s own deeper front deep (a_line t cells inside rest) h =
    go (into-fronts rows up s own deeper front deep rest h.2) (same_step s t) (nat_lt s.number t.number) refl
  where
    same : s ≡ t → Fronts rows (up ++ (t ∷ [])) (deeper inside)
    same e = subst (λ x. Fronts rows (up ++ (x ∷ [])) (deeper inside)) e (deep inside (subst (λ x. Fronts rows (up ++ (x ∷ [])) inside) (sym e) h.1))

    go : Fronts rows up (into s own deeper rest) → (a b : Bool) → same_step s t ≡ a
        → Fronts rows up (choose a (λ _. a_line t (own cells) (deeper inside) rest)
        (λ _. choose b (λ _. a_line s (own []) (deeper nothing) (a_line t cells inside rest)) (λ _. a_line t cells inside (into s own deeper rest))))
    go later true b e = (h.0, same (step-sound s t e), h.2)
    go later false true e = (front, deep nothing tt, h)
    go later false false e = (h.0, h.1, later)

add-fronts : (rows : List Row) (row : Row) → Among row rows → (cell : Cell) (steps up : List Step) → row.path ≡ up ++ steps → (plan : Plan) →
    Fronts rows up plan → Fronts rows up (add steps cell plan)
add-fronts rows row a cell [] up e plan h = h
add-fronts rows row a cell (s ∷ steps) up e plan h =
    let along : row.path ≡ (up ++ (s ∷ [])) ++ steps = e ∙ sym (append_assoc up (s ∷ []) steps) in
    into-fronts rows up s (own_cells steps cell) (add steps cell) (record { row = row; among = a; further = steps; is = along })
    (λ inside k. add-fronts rows row a cell steps (up ++ (s ∷ [])) along inside k) plan h

grown-fronts : (rows some : List Row) (n : ℕ) (plan : Plan) → ((row : Row) → Among row some → Among row rows) → Fronts rows [] plan →
    Fronts rows [] (grown plan n some)
grown-fronts rows [] n plan f h = h
grown-fronts rows (row ∷ some) n plan f h =
    grown-fronts rows some (n + 1) (add row.path (record { number = n; row = row }) plan) (λ r m. f r (inr m))
    (add-fronts rows row (f row (inl refl)) (record { number = n; row = row }) row.path [] refl plan h)

-- ---- ways

turned-onto : (done ns : List ℕ) → turned done ns ≡ turned [] ns ++ done
turned-onto done [] = refl
turned-onto done (n ∷ ns) =
    turned-onto (n ∷ done) ns ∙ (sym (append_assoc (turned [] ns) (n ∷ []) done) ∙ ap (λ l. l ++ done) (sym (turned-onto (n ∷ []) ns)))

-- the numbers have the names of the steps
abbrev AreNamed : List Node → List Step → List ℕ → Type 0
AreNamed nodes [] [] = Unit {0}
AreNamed nodes [] (n ∷ way) = ⊥
AreNamed nodes (s ∷ up) [] = ⊥
AreNamed nodes (s ∷ up) (n ∷ way) = (has_element_name s.name (tree_node nodes n) ≡ true) × AreNamed nodes up way

named-more : (nodes : List Node) (up : List Step) (way : List ℕ) (s : Step) (n : ℕ) → AreNamed nodes up way → has_element_name s.name (tree_node nodes n) ≡ true
    → AreNamed nodes (up ++ (s ∷ [])) (way ++ (n ∷ []))
named-more nodes [] [] s n h e = (e, tt)
named-more nodes [] (m ∷ way) s n h e = absurd h
named-more nodes (t ∷ up) [] s n h e = absurd h
named-more nodes (t ∷ up) (m ∷ way) s n h e = (h.0, named-more nodes up way s n h.1 e)

names-front : (nodes : List Node) (up more : List Step) (way : List ℕ) → AreNamed nodes up way → names_row nodes (up ++ more) way ≡ true
names-front nodes [] [] [] h = refl
names-front nodes [] (s ∷ more) [] h = refl
names-front nodes [] more (n ∷ way) h = absurd h
names-front nodes (s ∷ up) more [] h = absurd h
names-front nodes (s ∷ up) more (n ∷ way) h =
    ap (λ b. elim b [ true ↦ names_row nodes (up ++ more) way | false ↦ false ]) h.0 ∙ names-front nodes up more way h.1

on-a-way : (nodes : List Node) (rows : List Row) (front : List Step) (way : List ℕ) → HasFront rows front → AreNamed nodes front way →
    is_on_a_way nodes rows way ≡ true
on-a-way nodes rows front way f h =
    any-among (λ (row : Row). names_row nodes row.path way) f.row rows (ap (λ p. names_row nodes p way) f.is ∙ names-front nodes front f.further way h) f.among

-- ---- the elements that are written

attributes-kept : (nodes : List Node) (rows : List Row) (above : List ℕ) (n : ℕ) (attrs : List Attribute) →
    Each (λ node. is_passed_over nodes rows node ≡ false) (nodes_of_attributes above n attrs)
attributes-kept nodes rows above n [] = tt
attributes-kept nodes rows above n (a ∷ attrs) = (refl, attributes-kept nodes rows above (n + 1) attrs)

kept-by : (a b : Bool) → b ≡ true → (a && not b) ≡ false
kept-by a b e = ap (λ x. a && not x) e ∙ and-false a

module _ (nodes : List Node) (rows : List Row) (es : List Entry) where
  abbrev Kept : List Node → Type 0
  Kept some = Each (λ node. is_passed_over nodes rows node ≡ false) some

  element-kept : (above way : List ℕ) (n : ℕ) (name : Name) (front : List Step) → turned [] above ≡ 0 ∷ way → HasFront rows front →
      AreNamed nodes front (way ++ (n ∷ []))
      → is_passed_over nodes rows (element_node above n name) ≡ false
  element-kept above way n name front w f h =
      let path : way_to (n ∷ above) ≡ way ++ (n ∷ []) = ap without_first (turned-onto (n ∷ []) above ∙ ap (λ l. l ++ (n ∷ [])) w) in
      kept-by (is_on_a_way nodes rows (way_to above)) (is_on_a_way nodes rows (way_to (n ∷ above)))
      (ap (is_on_a_way nodes rows) path ∙ on-a-way nodes rows front (way ++ (n ∷ [])) f h)

  with-text-kept : (text : List ℕ) (f : Forest) (above : List ℕ) (n : ℕ) → ((m : ℕ) → Lies nodes above m f → Kept (nodes_of above m f)) →
      Lies nodes above n (with_text text f) → Kept (nodes_of above n (with_text text f))
  with-text-kept [] f above n k h = k n h
  with-text-kept (c ∷ text) f above n k h = (refl, k (n + 1) (behind-text nodes above n (c ∷ text) f h))

  -- elements of one line, and what is behind them
  line-kept : (t : Step) (attrs : Context → List Attribute) (inside : Context → Forest) (is_there : Context → Bool) (rest : Forest) (above way : List ℕ)
      (front : List Step)
      → turned [] above ≡ 0 ∷ way → HasFront rows (front ++ (t ∷ [])) → AreNamed nodes front way
      → ((d : Context) (n m : ℕ) → AreNamed nodes (front ++ (t ∷ [])) (way ++ (n ∷ [])) → Lies nodes (n ∷ above) m (inside d) →
      Kept (nodes_of (n ∷ above) m (inside d)))
      → ((m : ℕ) → Lies nodes above m rest → Kept (nodes_of above m rest)) → (ds : List Context) (n : ℕ)
      → Lies nodes above n (elements is_there (λ d. an_element (name_of t.name) (attrs d) (inside d)) ds rest)
      → Kept (nodes_of above n (elements is_there (λ d. an_element (name_of t.name) (attrs d) (inside d)) ds rest))
  line-kept t attrs inside is_there rest above way front w f named inner last [] n h = last n h
  line-kept t attrs inside is_there rest above way front w f named inner last (d ∷ ds) n h =
      go (line-kept t attrs inside is_there rest above way front w f named inner last ds) (is_there d) h
    where
      go : ((m : ℕ) → Lies nodes above m (elements is_there (λ e. an_element (name_of t.name) (attrs e) (inside e)) ds rest)
          → Kept (nodes_of above m (elements is_there (λ e. an_element (name_of t.name) (attrs e) (inside e)) ds rest)))
          → (b : Bool)
          → Lies nodes above n (elim b [
            | true ↦ an_element (name_of t.name) (attrs d) (inside d) (elements is_there (λ e. an_element (name_of t.name) (attrs e) (inside e)) ds rest)
            | false ↦ elements is_there (λ e. an_element (name_of t.name) (attrs e) (inside e)) ds rest
          ])
          → Kept (nodes_of above n (elim b [
            | true ↦ an_element (name_of t.name) (attrs d) (inside d) (elements is_there (λ e. an_element (name_of t.name) (attrs e) (inside e)) ds rest)
            | false ↦ elements is_there (λ e. an_element (name_of t.name) (attrs e) (inside e)) ds rest
          ]))
      go further true k =
          let more : Forest = elements is_there (λ e. an_element (name_of t.name) (attrs e) (inside e)) ds rest in
          let is : has_element_name t.name (tree_node nodes n) ≡ true =
          ap (has_element_name t.name) (at-element nodes above n (name_of t.name) (attrs d) (inside d) more k) ∙ called-self t.name in
          let all : AreNamed nodes (front ++ (t ∷ [])) (way ++ (n ∷ [])) = named-more nodes front way t n named is in (
            element-kept above way n (name_of t.name) (front ++ (t ∷ [])) w f all,
            each-append (λ node. is_passed_over nodes rows node ≡ false) (nodes_of_attributes (n ∷ above) (n + 1) (attrs d)) _
                (attributes-kept nodes rows (n ∷ above) (n + 1) (attrs d))
                (each-append (λ node. is_passed_over nodes rows node ≡ false) (nodes_of (n ∷ above) (n + (1 + length (attrs d))) (inside d)) _
                (inner d n (n + (1 + length (attrs d))) all (inside-lies nodes above n (name_of t.name) (attrs d) (inside d) more k))
                (further (n + (1 + (length (attrs d) + size (inside d)))) (behind-element nodes above n (name_of t.name) (attrs d) (inside d) more k))),
          )
      go further false k = further n k

  lines-kept : (plan : Plan) (front : List Step) (above way : List ℕ) (held : Bool) (c : Context) (n : ℕ) → Fronts rows front plan → turned [] above ≡ 0 ∷ way →
      AreNamed nodes front way
      → Lies nodes above n (written_lines es plan held c) → Kept (nodes_of above n (written_lines es plan held c))
  lines-kept nothing front above way held c n f w named h = tt
  lines-kept (a_line t cells inside rest) front above way held c n f w named h =
      line-kept t (attributes es t cells) (λ d. with_text (element_text es cells d) (written_lines es inside (holds_further es cells inside held d) d))
      (is_emitted es t cells inside held)
      (written_lines es rest held c) above way front w f.0 named
      (λ d k m all lies. with-text-kept (element_text es cells d) (written_lines es inside (holds_further es cells inside held d) d) (k ∷ above) m
      (λ j l. lines-kept inside (front ++ (t ∷ [])) (k ∷ above) (way ++ (k ∷ [])) (holds_further es cells inside held d) d j f.1
      (turned-onto (k ∷ []) above ∙ ap (λ x. x ++ (k ∷ [])) w) all l) lies)
      (λ m l. lines-kept rest front above way held c m f.2 w named l) (spots es c t.group) n h

pub nothing-passed : (rows : List Row) (es : List Entry) → passed_over (document_nodes (document_of rows es)) rows ≡ 0
unfolding document_of
nothing-passed rows es =
    let f : Forest = written_lines es (plan_of rows) false root_context in
    let nodes : List Node = document_nodes f in
    ap length (filter-none (is_passed_over nodes rows) nodes (
      refl,
      lines-kept nodes rows es (plan_of rows) [] (0 ∷ []) [] false root_context 1 (grown-fronts rows rows 0 nothing (λ row m. m) tt) refl tt
          (document-lies f),
    ))
