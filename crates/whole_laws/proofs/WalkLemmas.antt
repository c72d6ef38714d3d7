-- In the document that an invoice is written as each node is read: a walk along the lines of the table.
use Rattle.std.proofs.Common.{◌≡◌, ℕ, ◌+◌, Bool, true, false, ◌&&◌, ◌||◌, List, [], ◌∷◌, ◌++◌, length, map, filter, inl, inr, refl, sym, ap, ◌∙◌}
use Rattle.std.proofs.Common.{subst, append_assoc, arith}
use Rattle.std.specs.Prelude.{if◌then◌else◌, nat_lt}
use Rattle.std.specs.List.{list_all}
use Rattle.inv_base.specs.Tree.{Forest, an_element, Attribute, Node, size, nodes_of, nodes_of_attributes, document_nodes}
use Rattle.term_table.specs.declared.contexts.Context.{Context}
use Rattle.term_table.specs.Contexts.{root_context}
use Rattle.inv_terms.specs.declared.entries.Entry.{Entry}
use Rattle.bind_rows.specs.declared.rows.Step.{Step}
use Rattle.bind_rows.specs.declared.rows.Row.{Row}
use Rattle.bind_rows.specs.Same.{same_step, choose}
use Rattle.bind_table.specs.Lines.{Cell, Plan, nothing, a_line, into, own_cells, add, grown, plan_of}
use Rattle.bind_table.proofs.SameLemmas.{step-sound}
use Rattle.bind_meaning.specs.Elements as elements_of
use Rattle.bind_meaning.specs.Elements.{are_met}
use Rattle.bind_meaning.specs.Losses.{is_lost, lost_nodes}
use Rattle.bind_meaning.specs.Terms.{is_passed_over, passed_over}
use Rattle.bind_meaning.specs.Trees.{name_of, spots, is_emitted, holds_further, attributes, element_text, with_text, elements, written_lines, document_of}
use Rattle.binding_laws.specs.Apart.{Known, beyond, meets_all, is_unwritten, is_met_or_unwritten}
use Rattle.binding_laws.specs.Known.{known_of}
use Rattle.binding_laws.proofs.TreeLemmas.{Each, each-append, filter-none, Lies, document-lies, behind-text, inside-lies, behind-element}
use Rattle.binding_laws.proofs.GoneLemmas.{never-written}
use Rattle.binding_laws.proofs.KnownLemmas.{Knows, known-inside}
use Rattle.binding_laws.proofs.GuardLemmas.{met-as, own-met}
use Rattle.binding_laws.proofs.ListLemmas.{both-true, or-either}
use Rattle.binding_laws.proofs.ReachLemmas.{Among, among-split}
use Rattle.binding_laws.proofs.PassedLemmas.{nothing-passed}
use Rattle.whole_laws.specs.Whole.{says_alone, has_mains, lines_meet, is_told, is_whole}
use Rattle.whole_laws.proofs.WayLemmas.{IsWay, ending, way-more, ending-more, last-more, step-leads, IsRead}
use Rattle.whole_laws.proofs.ElementLemmas.{Front, AreFull, HaveMains, element-read, attributes-read}

-- ---- the rows at each line are those whose path leads to it

abbrev pub Rowed : List Row → List Step → Plan → Type 0
Rowed rows up nothing = Unit {0}
Rowed rows up (a_line t cells inside rest) = Front rows (up ++ (t ∷ [])) cells × Rowed rows (up ++ (t ∷ [])) inside × Rowed rows up rest

no-cells : (rows : List Row) (front : List Step) → Front rows front []
no-cells rows front = λ cell a. absurd a

into-rowed : (rows : List Row) (up : List Step) (s : Step) (own : List Cell → List Cell) (deeper : Plan → Plan)
    → ((cells : List Cell) → Front rows (up ++ (s ∷ [])) cells → Front rows (up ++ (s ∷ [])) (own cells))
    → ((inside : Plan) → Rowed rows (up ++ (s ∷ [])) inside → Rowed rows (up ++ (s ∷ [])) (deeper inside)) → (plan : Plan) → Rowed rows up plan →
    Rowed rows up (into s own deeper plan)
into-rowed rows up s own deeper ends deep nothing h = (ends [] (no-cells rows (up ++ (s ∷ []))), deep nothing tt, tt)
into-rowed rows up s own deeper ends deep (a_line t cells inside rest) h =
    go (into-rowed rows up s own deeper ends deep rest h.2) (same_step s t) (nat_lt s.number t.number) refl
  where
    same : s ≡ t → Front rows (up ++ (t ∷ [])) (own cells) × Rowed rows (up ++ (t ∷ [])) (deeper inside)
    same e = (
      subst (λ x. Front rows (up ++ (x ∷ [])) (own cells)) e (ends cells (subst (λ x. Front rows (up ++ (x ∷ [])) cells) (sym e) h.0)),
      subst (λ x. Rowed rows (up ++ (x ∷ [])) (deeper inside)) e (deep inside (subst (λ x. Rowed rows (up ++ (x ∷ [])) inside) (sym e) h.1)),
    )

    go : Rowed rows up (into s own deeper rest) → (a b : Bool) → same_step s t ≡ a
        → Rowed rows up (choose a (λ _. a_line t (own cells) (deeper inside) rest)
        (λ _. choose b (λ _. a_line s (own []) (deeper nothing) (a_line t cells inside rest)) (λ _. a_line t cells inside (into s own deeper rest))))
    go later true b e = let w = same (step-sound s t e) in (w.0, w.1, h.2)
    go later false true e = (ends [] (no-cells rows (up ++ (s ∷ []))), deep nothing tt, h)
    go later false false e = (h.0, h.1, later)

pub add-rowed : (rows : List Row) (row : Row) → Among row rows → (n : ℕ) (steps up : List Step) → row.path ≡ up ++ steps → (plan : Plan) →
    Rowed rows up plan → Rowed rows up (add steps (record { number = n; row = row }) plan)
add-rowed rows row a n [] up e plan h = h
add-rowed rows row a n (s ∷ steps) up e plan h =
    let cell : Cell = record { number = n; row = row } in
    let along : row.path ≡ (up ++ (s ∷ [])) ++ steps = e ∙ sym (append_assoc up (s ∷ []) steps) in
    into-rowed rows up s (own_cells steps cell) (add steps cell) (ends steps e)
    (λ inside k. add-rowed rows row a n steps (up ++ (s ∷ [])) along inside k) plan h
  where
    ends : (steps : List Step) → row.path ≡ up ++ (s ∷ steps) → (cells : List Cell) → Front rows (up ++ (s ∷ [])) cells
        → Front rows (up ++ (s ∷ [])) (own_cells steps (record { number = n; row = row }) cells)
    ends [] is cells k = λ c b. elim (among-split c cells (record { number = n; row = row } ∷ []) b) [
      | inl x ↦ k c x
      | inr (inl x) ↦ (subst (λ (y : Cell). Among y.row rows) x a, subst (λ (y : Cell). y.row.path ≡ up ++ (s ∷ [])) x is)
      | inr (inr x) ↦ absurd x
    ]
    ends (u ∷ us) is cells k = k

grown-rowed : (rows some : List Row) (n : ℕ) (plan : Plan) → ((row : Row) → Among row some → Among row rows) → Rowed rows [] plan →
    Rowed rows [] (grown plan n some)
grown-rowed rows [] n plan f h = h
grown-rowed rows (row ∷ some) n plan f h =
    grown-rowed rows some (n + 1) (add row.path (record { number = n; row = row }) plan) (λ r m. f r (inr m))
    (add-rowed rows row (f row (inl refl)) n row.path [] refl plan h)

pub plan-rowed : (rows : List Row) → Rowed rows [] (plan_of rows)
plan-rowed rows = grown-rowed rows rows 0 nothing (λ row m. m) tt

-- ---- the walk

module _ (rows : List Row) (told : list_all (is_told rows) rows ≡ true) (es : List Entry) (full : AreFull rows es) (mains : HaveMains rows es)
    (nodes : List Node) where
  abbrev AreRead : List Node → Type 0
  AreRead some = Each (IsRead nodes rows) some

  with-text-read : (text : List ℕ) (f : Forest) (above : List ℕ) (n : ℕ) → ((m : ℕ) → Lies nodes above m f → AreRead (nodes_of above m f)) →
      Lies nodes above n (with_text text f) → AreRead (nodes_of above n (with_text text f))
  with-text-read [] f above n k h = k n h
  with-text-read (c ∷ text) f above n k h = (refl, k (n + 1) (behind-text nodes above n (c ∷ text) f h))

  -- elements of one line, and what is behind them
  module _ (known : Known) (t : Step) (cells : List Cell) (inside : Plan) (held : Bool) (c : Context) (knows : Knows known es c) (front : List Step)
      (own : Front rows (front ++ (t ∷ [])) cells) (met : is_met_or_unwritten known t.guards t cells inside ≡ true)
      (alone : says_alone cells inside ≡ true) (beside : has_mains cells ≡ true) (rest : Forest) (p : ℕ) (above way : List ℕ)
      (along : IsWay nodes front 0 way) (ends : ending 0 way ≡ p)
      (inner : (d : Context) → Among d (spots es c t.group) → (n m : ℕ) → IsWay nodes (front ++ (t ∷ [])) 0 (way ++ (n ∷ []))
      → Lies nodes (n ∷ (p ∷ above)) m (written_lines es inside (holds_further es cells inside held d) d)
      → AreRead (nodes_of (n ∷ (p ∷ above)) m (written_lines es inside (holds_further es cells inside held d) d)))
      (last : (m : ℕ) → Lies nodes (p ∷ above) m rest → AreRead (nodes_of (p ∷ above) m rest)) where
    abbrev attrs : Context → List Attribute
    attrs d = attributes es t cells d

    abbrev within : Context → Forest
    within d = with_text (element_text es cells d) (written_lines es inside (holds_further es cells inside held d) d)

    abbrev some : List Context → Forest
    some ds = elements (is_emitted es t cells inside held) (λ d. an_element (name_of t.name) (attrs d) (within d)) ds rest

    meets : (d : Context) → Among d (spots es c t.group) → is_emitted es t cells inside held d ≡ true → (n : ℕ) (more : Forest)
        → Lies nodes (p ∷ above) n (an_element (name_of t.name) (attrs d) (within d) more) → are_met nodes t.guards n ≡ true
    meets d spot there n more lies = elim (or-either (meets_all known t.guards t cells inside) (is_unwritten known.gone t cells inside) met) [
      | inl h ↦ met-as nodes t.guards (p ∷ above) n (name_of t.name) (attrs d) (within d) more lies
          ∙ own-met es known c knows t.guards t cells inside held d spot h there
      | inr h ↦ absurd (never-written known.gone es t cells inside held d knows.gone h there)
    ]

    line-read : (ds : List Context) → ((d : Context) → Among d ds → Among d (spots es c t.group)) → (n : ℕ) → Lies nodes (p ∷ above) n (some ds)
        → AreRead (nodes_of (p ∷ above) n (some ds))
    line-read [] f n h = last n h
    line-read (d ∷ ds) f n h = go (line-read ds (λ e a. f e (inr a))) (is_emitted es t cells inside held d) refl h
      where
        go : ((m : ℕ) → Lies nodes (p ∷ above) m (some ds) → AreRead (nodes_of (p ∷ above) m (some ds)))
            → (b : Bool) → is_emitted es t cells inside held d ≡ b
            → Lies nodes (p ∷ above) n (elim b [ true ↦ an_element (name_of t.name) (attrs d) (within d) (some ds) | false ↦ some ds ])
            → AreRead (nodes_of (p ∷ above) n (elim b [ true ↦ an_element (name_of t.name) (attrs d) (within d) (some ds) | false ↦ some ds ]))
        go further false e lies = further n lies
        go further true e lies =
            let spot = f d (inl refl) in
            let leads = step-leads nodes p above n t (attrs d) (within d) (some ds) lies (meets d spot e n (some ds) lies) in
            let here : IsWay nodes (front ++ (t ∷ [])) 0 (way ++ (n ∷ [])) =
            way-more nodes front 0 way t n along (subst (λ q. Among n (elements_of.met nodes t q)) (sym ends) leads) in (
              element-read rows told es full mains nodes (front ++ (t ∷ [])) t cells inside held d own alone beside (way ++ (n ∷ [])) here (p ∷ above) n
                  (last-more way n) (some ds) lies,
              each-append (IsRead nodes rows) (nodes_of_attributes (n ∷ (p ∷ above)) (n + 1) (attrs d)) _
                  (attributes-read rows told es full mains nodes (front ++ (t ∷ [])) t cells inside held d own alone beside (way ++ (n ∷ [])) here (p ∷ above) n
                  (last-more way n) (some ds) lies)
                  (each-append (IsRead nodes rows) (nodes_of (n ∷ (p ∷ above)) (n + (1 + length (attrs d))) (within d)) _
                  (with-text-read (element_text es cells d) (written_lines es inside (holds_further es cells inside held d) d) (n ∷ (p ∷ above))
                  (n + (1 + length (attrs d))) (λ m l. inner d spot n m here l)
                  (inside-lies nodes (p ∷ above) n (name_of t.name) (attrs d) (within d) (some ds) lies))
                  (further (n + (1 + (length (attrs d) + size (within d))))
                  (behind-element nodes (p ∷ above) n (name_of t.name) (attrs d) (within d) (some ds) lies))),
            )

  lines-read : (plan : Plan) (known : Known) (front : List Step) (p : ℕ) (above way : List ℕ) (held : Bool) (c : Context) (n : ℕ) → Knows known es c
      → Rowed rows front plan → lines_meet known plan ≡ true → IsWay nodes front 0 way → ending 0 way ≡ p
      → Lies nodes (p ∷ above) n (written_lines es plan held c) → AreRead (nodes_of (p ∷ above) n (written_lines es plan held c))
  lines-read nothing known front p above way held c n knows own meets along ends h = tt
  lines-read (a_line t cells inside rest) known front p above way held c n knows own meets along ends h =
      let a = both-true (is_met_or_unwritten known t.guards t cells inside) _ meets in
      let b = both-true (says_alone cells inside && has_mains cells) _ a.1 in
      let e = both-true (says_alone cells inside) (has_mains cells) b.0 in
      let f = both-true (lines_meet (beyond t.group known) inside) (lines_meet known rest) b.1 in
      line-read known t cells inside held c knows front own.0 a.0 e.0 e.1 (written_lines es rest held c) p above way along ends
      (λ d spot k m here lies. lines-read inside (beyond t.group known) (front ++ (t ∷ [])) k (p ∷ above) (way ++ (k ∷ []))
      (holds_further es cells inside held d) d m (known-inside known es t.group c d spot knows) own.1 f.0 here (ending-more 0 way k) lies)
      (λ m lies. lines-read rest known front p above way held c m knows own.2 f.1 along ends lies) (spots es c t.group) (λ d x. x) n h

-- ---- nothing is lost

none-of : {X : Type 0} (q : X → Bool) (xs : List X) → length (filter q xs) ≡ 0 → Each (λ x. q x ≡ false) xs
none-of q [] h = tt
none-of q (x ∷ xs) h = go (q x) refl h (none-of q xs)
  where
    go : (b : Bool) → q x ≡ b → length (if b then x ∷ filter q xs else filter q xs) ≡ 0 → (length (filter q xs) ≡ 0 → Each (λ y. q y ≡ false) xs)
        → (q x ≡ false) × Each (λ y. q y ≡ false) xs
    go true e k f = absurd (let z : ⊥ = omega (arith, k) in z)
    go false e k f = (e, f k)

both-none : (nodes : List Node) (rows : List Row) (some : List Node) → Each (λ node. is_passed_over nodes rows node ≡ false) some
    → Each (IsRead nodes rows) some → Each (λ node. is_lost nodes rows node ≡ false) some
both-none nodes rows [] h k = tt
both-none nodes rows (node ∷ some) h k = ((λ i. h.0 i || k.0 i), both-none nodes rows some h.1 k.1)

pub nothing-lost : (rows : List Row) (es : List Entry) → is_whole rows ≡ true → AreFull rows es → HaveMains rows es → Knows (known_of rows) es root_context
    → lost_nodes (document_nodes (document_of rows es)) rows ≡ []
unfolding document_of lost_nodes
nothing-lost rows es whole full mains knows =
    let w = both-true (lines_meet (known_of rows) (plan_of rows)) (list_all (is_told rows) rows) whole in
    let f : Forest = written_lines es (plan_of rows) false root_context in
    let nodes : List Node = document_nodes f in
    let passed : passed_over nodes rows ≡ 0 = nothing-passed rows es in
    ap (map (λ (node : Node). node.number)) (filter-none (is_lost nodes rows) nodes
    (both-none nodes rows nodes (none-of (is_passed_over nodes rows) nodes passed) (
      refl,
      lines-read rows w.1 es full mains nodes (plan_of rows) (known_of rows) [] 0 [] [] false root_context 1 knows (plan-rowed rows) w.0 tt refl
          (document-lies f),
    )))
