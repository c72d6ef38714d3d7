-- A row picks nothing where none of the rows that end where its path of names ends writes anything.
use Rattle.std.proofs.Common.{◌≡◌, ℕ, Bool, true, false, ◌&&◌, List, [], ◌∷◌, ◌++◌, map, filter, flat_map, Some, None, inl, inr, refl, sym, ap, ◌∙◌, subst}
use Rattle.std.specs.Prelude.{if◌then◌else◌}
use Rattle.std.specs.List.{list_all}
use Rattle.std.specs.Str.{bytes_eq}
use Rattle.inv_base.specs.Tree.{Forest, an_element, Node, document_nodes}
use Rattle.term_table.specs.declared.contexts.Context.{Context}
use Rattle.term_table.specs.Contexts.{root_context}
use Rattle.inv_terms.specs.declared.entries.Entry.{Entry}
use Rattle.bind_rows.specs.declared.names.Leaf.{Leaf}
use Rattle.bind_rows.specs.declared.names.Leaf.TheVariants as leaves
use Rattle.bind_rows.specs.declared.rows.Step.{Step}
use Rattle.bind_rows.specs.declared.rows.Row.{Row}
use Rattle.bind_table.specs.Lines.{Cell, Plan, nothing, a_line, plan_of}
use Rattle.bind_meaning.specs.Currencies.{currency_id}
use Rattle.bind_meaning.specs.Elements.{attributes_named, string_at, is_full, are_met, met}
use Rattle.bind_meaning.specs.Picks.{has_any_term, ways, last_of, filled, leaves_of, picks_of_way, nodes_picked}
use Rattle.bind_meaning.specs.Trees.{name_of, holds_further, attributes, element_text, with_text, written_lines, constant_or_text, is_at_element, document_of}
use Rattle.binding_laws.specs.Apart as apart
use Rattle.binding_laws.specs.Apart.{is_nothing, is_at_attribute, rows_so}
use Rattle.binding_laws.specs.Covered.{rows_at_line, rows_named, is_bare, is_no_currency, rows_there}
use Rattle.binding_laws.specs.Written.{emitted}
use Rattle.binding_laws.proofs.TreeLemmas.{Each, Lies}
use Rattle.binding_laws.proofs.NodeLemmas.{Top, tops, is_called, Holds, document-holds, texts, string-is}
use Rattle.binding_laws.proofs.AttributeLemmas.{attributes-are}
use Rattle.binding_laws.proofs.ListLemmas.{flat_map-flat_map, flat_map-map, flat_map-same, both-true, not-true, append-nil}
use Rattle.binding_laws.proofs.CellLemmas.{own_text, text-by-rows, own_strings, line-values}
use Rattle.binding_laws.proofs.GuardLemmas.{at-nothing, text-texts}
use Rattle.binding_laws.proofs.RowLemmas.{past, long_of, begin_in, written_in, found, step_ways, inside-ways, inside-element, Silent, past-line}

-- ---- lists

each-front : {X : Type 0} (P : X → Type 0) (xs ys : List X) → Each P (xs ++ ys) → Each P xs × Each P ys
each-front P [] ys h = (tt, h)
each-front P (x ∷ xs) ys h = let w = each-front P xs ys h.1 in ((h.0, w.0), w.1)

mapped-nothing : {X Y : Type 0} (f : X → Y) (xs : List X) → map f xs ≡ [] → xs ≡ []
mapped-nothing f [] h = refl
mapped-nothing {X} {Y} f (x ∷ xs) h = absurd (let z : ◌≡◌ {A = List Y} (f x ∷ map f xs) [] = h in cc)

-- behind a way that isn't empty its last element is that of the way
last-behind : {X : Type 0} (nodes : List Node) (g : ℕ → List X) (m : ℕ) (u : Step) (us : List Step) (n : ℕ)
    → flat_map (λ way. g (last_of way)) (map (λ way. m ∷ way) (ways nodes (u ∷ us) n)) ≡ flat_map (λ way. g (last_of way)) (ways nodes (u ∷ us) n)
last-behind nodes g m u us n =
    flat_map-map (λ way. g (last_of way)) (λ way. m ∷ way) (ways nodes (u ∷ us) n)
    ∙ (flat_map-flat_map (λ way. g (last_of (m ∷ way))) (λ k. map (λ way. k ∷ way) (ways nodes us k)) (met nodes u n)
    ∙ (flat_map-same (λ k. flat_map (λ way. g (last_of (m ∷ way))) (map (λ way. k ∷ way) (ways nodes us k)))
    (λ k. flat_map (λ way. g (last_of way)) (map (λ way. k ∷ way) (ways nodes us k)))
    (λ k. flat_map-map (λ way. g (last_of (m ∷ way))) (λ way. k ∷ way) (ways nodes us k) ∙
    sym (flat_map-map (λ way. g (last_of way)) (λ way. k ∷ way) (ways nodes us k))) (met nodes u n)
    ∙ sym (flat_map-flat_map (λ way. g (last_of way)) (λ k. map (λ way. k ∷ way) (ways nodes us k)) (met nodes u n))))

-- ---- rows that write nothing

abbrev pub IsQuiet : List Entry → Row → Type 0
IsQuiet es row = (c : Context) → constant_or_text es c row ≡ None

module _ (nodes : List Node) (es : List Entry) (leaf : Leaf) (other : is_no_currency leaf ≡ true) where
  quiet-text : (d : Context) (rows : List Row) → Each (IsQuiet es) rows → flat_map (own_text es d) rows ≡ []
  quiet-text d [] h = refl
  quiet-text d (row ∷ rows) h = (λ i. (elim (h.0 d i) [ None ↦ [] | Some text ↦ text ]) ++ flat_map (own_text es d) rows) ∙ quiet-text d rows h.1

  quiet-strings : (d : Context) (rows : List Row) → Each (IsQuiet es) rows → flat_map (own_strings es d) rows ≡ []
  quiet-strings d [] h = refl
  quiet-strings d (row ∷ rows) h = (λ i. (elim (h.0 d i) [ None ↦ [] | Some text ↦ text ∷ [] ]) ++ flat_map (own_strings es d) rows) ∙ quiet-strings d rows h.1

  -- nothing is picked at an element by whose rows nothing is
  blank-end : (t : Step) (cells : List Cell) (inside : Plan) (held : Bool) (above : List ℕ) (d : Context) (m : ℕ) (more : Forest) → is_nothing inside ≡ true →
      Each (IsQuiet es) (rows_so is_at_element cells)
      → Lies nodes above m (an_element (name_of t.name) (attributes es t cells d) (written_in es cells inside held d) more) → filled nodes (m ∷ []) ≡ []
  blank-end t cells inside held above d m more bare quiet lies =
      let text : string_at nodes m ≡ [] =
      string-is nodes above m (name_of t.name) (attributes es t cells d) (written_in es cells inside held d) more lies
      ∙ (ap (λ f. texts (with_text (element_text es cells d) f)) (at-nothing es inside (holds_further es cells inside held d) d bare)
      ∙ (text-texts (element_text es cells d) ∙ (text-by-rows es d cells ∙ quiet-text d (rows_so is_at_element cells) quiet))) in
      ap (λ s. if is_full s then m ∷ [] else []) text

  at-end : (leaf : Leaf) (t : Step) (cells : List Cell) (inside : Plan) (held : Bool) (above : List ℕ) (d : Context) (m : ℕ) (more : Forest) →
      is_nothing inside ≡ true → is_no_currency leaf ≡ true
      → Each (IsQuiet es) (rows_at_line leaf cells) →
      Lies nodes above m (an_element (name_of t.name) (attributes es t cells d) (written_in es cells inside held d) more) → leaves_of nodes leaf m ≡ []
  at-end leaves.Element t cells inside held above d m more bare no_currency quiet lies = blank-end t cells inside held above d m more bare quiet lies
  at-end (leaves.Attribute local) t cells inside held above d m more bare no_currency quiet lies =
      go (list_all has_any_term (rows_so (is_at_attribute local) cells)) quiet
    where
      none : (b : Bool) → attributes_named nodes local m ≡ [] → flat_map (λ k. filled nodes (attributes_named nodes local k)) (if b then m ∷ [] else []) ≡ []
      none true e = ap (λ l. filled nodes l ++ []) e
      none false e = refl

      go : (b : Bool) → Each (IsQuiet es) (elim b [ true ↦ rows_so (is_at_attribute local) cells | false ↦ rows_so is_at_element cells ]) →
          flat_map (λ k. filled nodes (attributes_named nodes local k)) (filled nodes (m ∷ [])) ≡ []
      go true q =
          none (is_full (string_at nodes m))
          (mapped-nothing (string_at nodes) (attributes_named nodes local m)
          (attributes-are nodes above m (name_of t.name) (attributes es t cells d) (written_in es cells inside held d) more lies local
          ∙ (line-values local (not-true (bytes_eq local currency_id) no_currency) es t cells d ∙ quiet-strings d (rows_so (is_at_attribute local) cells) q)))
      go false q = ap (flat_map (λ k. filled nodes (attributes_named nodes local k))) (blank-end t cells inside held above d m more bare q lies)

  -- what is picked behind an element
  picked_behind : Step → List Step → ℕ → List ℕ
  picked_behind s path m = flat_map (λ way. leaves_of nodes leaf (last_of way)) (step_ways nodes s path m)

  bare-line : (t : Step) (cells : List Cell) (inside rest : Plan) (s : Step) (path : List Step) → apart.is_called s.name t.name ≡ true →
      is_bare (a_line t cells inside rest) (s ∷ path) ≡ true
      → (is_bare rest (s ∷ path) ≡ true) × ((path ≡ [] → is_nothing inside ≡ true) ×
      ((u : Step) (us : List Step) → path ≡ u ∷ us → is_bare inside (u ∷ us) ≡ true))
  bare-line t cells inside rest s path called h =
      let w = both-true (elim path [ [] ↦ is_nothing inside | (u ∷ further) ↦ is_bare inside (u ∷ further) ]) (is_bare rest (s ∷ path))
      (sym (ap (λ b. elim b [
        | true ↦ (elim path [ [] ↦ is_nothing inside | (u ∷ further) ↦ is_bare inside (u ∷ further) ]) && is_bare rest (s ∷ path)
        | false ↦ is_bare rest (s ∷ path)
      ]) called) ∙ h) in (
        w.1,
        (
          (λ e. sym (ap (λ p. elim p [ [] ↦ is_nothing inside | (u ∷ further) ↦ is_bare inside (u ∷ further) ]) e) ∙ w.0),
          (λ u us e. sym (ap (λ p. elim p [ [] ↦ is_nothing inside | (v ∷ further) ↦ is_bare inside (v ∷ further) ]) e) ∙ w.0),
        ),
      )

  bare-other : (t : Step) (cells : List Cell) (inside rest : Plan) (s : Step) (path : List Step) → apart.is_called s.name t.name ≡ false →
      is_bare (a_line t cells inside rest) (s ∷ path) ≡ true → is_bare rest (s ∷ path) ≡ true
  bare-other t cells inside rest s path called h =
      sym (ap (λ b. elim b [
        | true ↦ (elim path [ [] ↦ is_nothing inside | (u ∷ further) ↦ is_bare inside (u ∷ further) ]) && is_bare rest (s ∷ path)
        | false ↦ is_bare rest (s ∷ path)
      ]) called) ∙ h

  quiet-found : (plan : Plan) (s : Step) (path : List Step) (held : Bool) (c : Context) (above : List ℕ) (n : ℕ) →
      Lies nodes above n (written_lines es plan held c) → Each (IsQuiet es) (rows_named leaf plan (s ∷ path))
      → is_bare plan (s ∷ path) ≡ true → found s.name (picked_behind s path) n (written_lines es plan held c) ≡ []
  unfolding picked_behind step_ways
  quiet-found nothing s path held c above n lies quiet bare = refl
  quiet-found (a_line t cells inside rest) s path held c above n lies quiet bare =
      go (λ u us further d around m there k z. quiet-found inside u us further d around m there k z)
      (λ m there k z. quiet-found rest s path held c above m there k z) (apart.is_called s.name t.name) refl quiet
    where
      silent : ((u : Step) (us : List Step) (further : Bool) (d : Context) (around : List ℕ) (m : ℕ) → Lies nodes around m (written_lines es inside further d) →
          Each (IsQuiet es) (rows_named leaf inside (u ∷ us))
          → is_bare inside (u ∷ us) ≡ true → found u.name (picked_behind u us) m (written_lines es inside further d) ≡ [])
          → (path : List Step) → (path ≡ [] → is_nothing inside ≡ true) → ((u : Step) (us : List Step) → path ≡ u ∷ us → is_bare inside (u ∷ us) ≡ true)
          → Each (IsQuiet es) (elim path [ [] ↦ rows_at_line leaf cells | (u ∷ further) ↦ rows_named leaf inside (u ∷ further) ])
          → Silent nodes es (picked_behind s path) t cells inside held above c
      silent inner path e f q d a m more there lying = by-guard (are_met nodes s.guards m) (behind path e f q)
        where
          by-guard : (b : Bool) → flat_map (λ way. leaves_of nodes leaf (last_of way)) (map (λ way. m ∷ way) (ways nodes path m)) ≡ []
              → flat_map (λ way. leaves_of nodes leaf (last_of way)) (elim b [ true ↦ map (λ way. m ∷ way) (ways nodes path m) | false ↦ [] ]) ≡ []
          by-guard true k = k
          by-guard false k = refl

          behind : (path : List Step) → (path ≡ [] → is_nothing inside ≡ true) → ((u : Step) (us : List Step) → path ≡ u ∷ us → is_bare inside (u ∷ us) ≡ true)
              → Each (IsQuiet es) (elim path [ [] ↦ rows_at_line leaf cells | (u ∷ further) ↦ rows_named leaf inside (u ∷ further) ])
              → flat_map (λ way. leaves_of nodes leaf (last_of way)) (map (λ way. m ∷ way) (ways nodes path m)) ≡ []
          behind [] e f q = append-nil (leaves_of nodes leaf m) ∙ at-end leaf t cells inside held above d m more (e refl) other q lying
          behind (u ∷ us) e f q =
              let w = inside-element nodes es t cells inside held above d m more u us lying in
              let start : ℕ = begin_in es t cells (record { context = d; number = m }) in
              last-behind nodes (leaves_of nodes leaf) m u us m
              ∙ (ap (flat_map (λ way. leaves_of nodes leaf (last_of way))) w.1
              ∙ (flat_map-flat_map (λ way. leaves_of nodes leaf (last_of way)) (λ (top : Top). step_ways nodes u us top.number)
              (filter (is_called u.name) (tops start (written_lines es inside (holds_further es cells inside held d) d)))
              ∙ inner u us (holds_further es cells inside held d) d (m ∷ above) start w.0 q (f u us refl)))

      go : ((u : Step) (us : List Step) (further : Bool) (d : Context) (around : List ℕ) (m : ℕ) → Lies nodes around m (written_lines es inside further d) →
          Each (IsQuiet es) (rows_named leaf inside (u ∷ us))
          → is_bare inside (u ∷ us) ≡ true → found u.name (picked_behind u us) m (written_lines es inside further d) ≡ [])
          → ((m : ℕ) → Lies nodes above m (written_lines es rest held c) → Each (IsQuiet es) (rows_named leaf rest (s ∷ path)) → is_bare rest (s ∷ path) ≡ true
          → found s.name (picked_behind s path) m (written_lines es rest held c) ≡ [])
          → (b : Bool) → apart.is_called s.name t.name ≡ b → Each (IsQuiet es) (elim b [
            | true ↦ (elim path [ [] ↦ rows_at_line leaf cells | (u ∷ further) ↦ rows_named leaf inside (u ∷ further) ]) ++ rows_named leaf rest (s ∷ path)
            | false ↦ rows_named leaf rest (s ∷ path)
          ])
          → found s.name (picked_behind s path) n (written_lines es (a_line t cells inside rest) held c) ≡ []
      go inner later true called q =
          let w = bare-line t cells inside rest s path called bare in
          let parts = each-front (IsQuiet es) (elim path [ [] ↦ rows_at_line leaf cells | (u ∷ further) ↦ rows_named leaf inside (u ∷ further) ])
          (rows_named leaf rest (s ∷ path)) q in
          let p = past-line nodes es s (picked_behind s path) t cells inside rest held c above n lies
          (inr (silent inner path w.1.0 w.1.1 parts.0)) in
          p.1 ∙ later (past (long_of es t cells inside held) (emitted es t cells inside held c) n) p.0 parts.1 w.0
      go inner later false called q =
          let p = past-line nodes es s (picked_behind s path) t cells inside rest held c above n lies (inl called) in
          p.1 ∙ later (past (long_of es t cells inside held) (emitted es t cells inside held c) n) p.0 q (bare-other t cells inside rest s path called bare)

pub quiet-picks-nothing : (rows : List Row) (es : List Entry) (k : ℕ) (row : Row) (s : Step) (us : List Step) → row.path ≡ s ∷ us →
    Each (IsQuiet es) (rows_there (plan_of rows) row)
    → is_bare (plan_of rows) row.path ≡ true → is_no_currency row.leaf ≡ true → nodes_picked (document_nodes (document_of rows es)) k row ≡ []
unfolding document_of picked_behind step_ways
quiet-picks-nothing rows es k row s us e quiet bare other =
    let nodes : List Node = document_nodes (document_of rows es) in
    let f : Forest = written_lines es (plan_of rows) false root_context in
    let holds : Holds nodes 0 [] 1 f = document-holds f in
    let none : flat_map (λ way. leaves_of nodes row.leaf (last_of way)) (ways nodes (s ∷ us) 0) ≡ [] =
    ap (flat_map (λ way. leaves_of nodes row.leaf (last_of way))) (inside-ways nodes 0 [] 1 f s us holds)
    ∙ (flat_map-flat_map (λ way. leaves_of nodes row.leaf (last_of way)) (λ (top : Top). step_ways nodes s us top.number) (filter (is_called s.name) (tops 1 f))
    ∙ quiet-found nodes es row.leaf other (plan_of rows) s us false root_context (0 ∷ []) 1 holds.lies
    (subst (λ q. Each (IsQuiet es) (rows_named row.leaf (plan_of rows) q)) e quiet)
    (subst (λ q. is_bare (plan_of rows) q ≡ true) e bare)) in
    all-nothing (ways nodes row.path 0) (ap (λ q. flat_map (λ way. leaves_of nodes row.leaf (last_of way)) (ways nodes q 0)) e ∙ none)
  where
    first-nothing : (xs ys : List ℕ) → xs ++ ys ≡ [] → (xs ≡ []) × (ys ≡ [])
    first-nothing [] ys h = (refl, h)
    first-nothing (x ∷ xs) ys h = absurd (let w : ◌≡◌ {A = List ℕ} (x ∷ (xs ++ ys)) [] = h in cc)

    all-nothing : (ws : List (List ℕ)) → flat_map (λ way. leaves_of (document_nodes (document_of rows es)) row.leaf (last_of way)) ws ≡ [] →
        flat_map (picks_of_way (document_nodes (document_of rows es)) k row) ws ≡ []
    all-nothing [] h = refl
    all-nothing (w ∷ ws) h =
        let parts = first-nothing (leaves_of (document_nodes (document_of rows es)) row.leaf (last_of w))
        (flat_map (λ way. leaves_of (document_nodes (document_of rows es)) row.leaf (last_of way)) ws) h in
        (λ i. map (λ n. record { place = k; row = row; elements = w; node = n }) (parts.0 i) ++
        flat_map (picks_of_way (document_nodes (document_of rows es)) k row) ws) ∙ all-nothing ws parts.1
