-- What a row whose path stands apart picks in the document that is written, with the elements on the way.
use Rattle.std.proofs.Common.{◌≡◌, ℕ, ◌+◌, Bool, true, false, not, ◌&&◌, ◌||◌, List, [], ◌∷◌, ◌++◌, length, map, filter, flat_map, ◌⊎◌, inl, inr, refl, sym, ap}
use Rattle.std.proofs.Common.{◌∙◌, subst, append_assoc}
use Rattle.std.specs.Prelude.{if◌then◌else◌}
use Rattle.std.specs.Str.{bytes_eq}
use Rattle.std.proofs.lemmas.Bool.{false≢true}
use Rattle.std.proofs.lemmas.Slice.Eq.{bytes_eq-Decides}
use Rattle.inv_base.specs.Tree.{Forest, no_more, an_element, Name, Attribute, Node, size, document_nodes}
use Rattle.term_table.specs.declared.contexts.Context.{Context}
use Rattle.term_table.specs.Contexts.{root_context}
use Rattle.term_table.specs.declared.terms.Term.{Term}
use Rattle.inv_terms.specs.declared.entries.Entry.{Entry}
use Rattle.bind_rows.specs.declared.names.ElementName.{ElementName}
use Rattle.bind_rows.specs.declared.names.Leaf.{Leaf}
use Rattle.bind_rows.specs.declared.names.Leaf.TheVariants as leaves
use Rattle.bind_rows.specs.declared.rows.Step.{Step}
use Rattle.bind_rows.specs.declared.rows.Row.{Row}
use Rattle.bind_rows.specs.Same.{same_step}
use Rattle.bind_rows.specs.Namespaces.{uri_of}
use Rattle.bind_table.specs.Lines.{Cell, Plan, nothing, a_line, plan_of}
use Rattle.bind_table.proofs.SameLemmas.{step-sound}
use Rattle.bind_meaning.specs.Names.{is_spelled}
use Rattle.bind_meaning.specs.Elements.{children_named, attributes_named, string_at, is_full, are_met}
use Rattle.bind_meaning.specs.Picks.{Pick, ways, last_of, filled, leaves_of, picks_of_way, nodes_picked}
use Rattle.bind_meaning.specs.Trees.{name_of, spots, is_emitted, holds_further, attributes, element_text, with_text, elements, written_lines, document_of}
use Rattle.binding_laws.specs.Apart as apart
use Rattle.binding_laws.specs.Apart.{is_nothing, Known, without, unknown, beyond, meets_all, fails_some, holds_none, is_unwritten, is_off, is_met_or_unwritten}
use Rattle.binding_laws.specs.Apart.{is_clear, is_apart, stands_apart_without, stands_apart}
use Rattle.binding_laws.specs.Written.{Spot, emitted, at_end, spots_below, written_at, values_named}
use Rattle.binding_laws.proofs.TreeLemmas.{Each, each-weaker, each-append, Lies, behind-text, behind-element}
use Rattle.binding_laws.proofs.NodeLemmas.{Top, tops, is_called, Holds, document-holds, children-are, texts, inside-holds, string-is}
use Rattle.binding_laws.proofs.AttributeLemmas.{attributes-are}
use Rattle.binding_laws.proofs.ListLemmas.{flat_map-map, map-flat_map, map-map, map-append, flat_map-same, flat_map-filter, flat_map-each, flat_map-none}
use Rattle.binding_laws.proofs.ListLemmas.{each-map, append-nil, map-filter, both-true, or-either}
use Rattle.binding_laws.proofs.ReachLemmas.{Among}
use Rattle.binding_laws.proofs.KnownLemmas.{Knows, knows-without, knows-nothing, known-inside}
use Rattle.binding_laws.proofs.GuardLemmas.{met-as, own-met, other-unmet, at-nothing, text-texts}
use Rattle.binding_laws.proofs.GoneLemmas.{never-written}

-- ---- the elements that are written of a line, with their numbers

pub record At : Type 0 where
  pub context : Context
  pub number : ℕ

-- elements of these sizes, one behind the other, the first with the number
abbrev pub sized : (Context → ℕ) → List Context → ℕ → List At
sized long [] n = []
sized long (d ∷ ds) n = record { context = d; number = n } ∷ sized long ds (n + long d)

-- the number behind them
abbrev pub past : (Context → ℕ) → List Context → ℕ → ℕ
past long [] n = n
past long (d ∷ ds) n = past long ds (n + long d)

abbrev pub past_text : List ℕ → ℕ → ℕ
past_text [] n = n
past_text (c ∷ text) n = n + 1

abbrev pub written_in : List Entry → List Cell → Plan → Bool → Context → Forest
written_in es cells inside held d = with_text (element_text es cells d) (written_lines es inside (holds_further es cells inside held d) d)

abbrev pub long_of : List Entry → Step → List Cell → Plan → Bool → Context → ℕ
long_of es t cells inside held d = 1 + (length (attributes es t cells d) + size (written_in es cells inside held d))

-- where the lines inside an element begin
abbrev pub begin_in : List Entry → Step → List Cell → At → ℕ
begin_in es t cells x = past_text (element_text es cells x.context) (x.number + (1 + length (attributes es t cells x.context)))

-- ---- the elements at the end of a path

-- an element with those on the way to it
pub record Place : Type 0 where
  pub way : List ℕ
  pub spot : Spot

abbrev pub spot_of : List Entry → Step → List Cell → Context → Spot
spot_of es t cells d = record { context = d; attributes = attributes es t cells d; text = element_text es cells d }

abbrev pub behind : ℕ → Place → Place
behind n place = record { way = n ∷ place.way; spot = place.spot }

abbrev pub last_places : List Step → Spot → List Place → List Place
last_places [] spot further = record { way = []; spot = spot } ∷ []
last_places (s ∷ path) spot further = further

abbrev pub places : List Entry → Plan → List Step → Bool → Context → ℕ → List Place
places es nothing path held c n = []
places es (a_line t cells inside rest) [] held c n = []
places es (a_line t cells inside rest) (s ∷ path) held c n = elim (same_step s t) [
  | true ↦ flat_map (λ (x : At). map (behind x.number) (last_places path (spot_of es t cells x.context)
      (places es inside path (holds_further es cells inside held x.context) x.context (begin_in es t cells x))))
      (sized (long_of es t cells inside held) (emitted es t cells inside held c) n)
  | false ↦ places es rest (s ∷ path) held c (past (long_of es t cells inside held) (emitted es t cells inside held c) n)
]

pub places-spots : (es : List Entry) (plan : Plan) (path : List Step) (held : Bool) (c : Context) (n : ℕ) →
    map (λ (place : Place). place.spot) (places es plan path held c n) ≡ spots_below es plan path held c
places-spots es nothing path held c n = refl
places-spots es (a_line t cells inside rest) [] held c n = refl
places-spots es (a_line t cells inside rest) (s ∷ path) held c n =
    go (all (λ us further d m. places-spots es inside us further d m) (emitted es t cells inside held c) n)
    (places-spots es rest (s ∷ path) held c (past (long_of es t cells inside held) (emitted es t cells inside held c) n)) (same_step s t)
  where
    one : ((us : List Step) (further : Bool) (d : Context) (m : ℕ) →
        map (λ (place : Place). place.spot) (places es inside us further d m) ≡ spots_below es inside us further d)
        → (path : List Step) (x : At)
        → map (λ (place : Place). place.spot)
        (map (behind x.number) (last_places path (spot_of es t cells x.context)
        (places es inside path (holds_further es cells inside held x.context) x.context (begin_in es t cells x))))
        ≡ at_end path (spot_of es t cells x.context) (spots_below es inside path (holds_further es cells inside held x.context) x.context)
    one inner [] x = refl
    one inner (u ∷ us) x =
        map-map (λ (place : Place). place.spot) (behind x.number)
        (places es inside (u ∷ us) (holds_further es cells inside held x.context) x.context (begin_in es t cells x))
        ∙ inner (u ∷ us) (holds_further es cells inside held x.context) x.context (begin_in es t cells x)

    all : ((us : List Step) (further : Bool) (d : Context) (m : ℕ) →
        map (λ (place : Place). place.spot) (places es inside us further d m) ≡ spots_below es inside us further d)
        → (ds : List Context) (m : ℕ)
        → map (λ (place : Place). place.spot) (flat_map (λ (x : At). map (behind x.number) (last_places path (spot_of es t cells x.context)
        (places es inside path (holds_further es cells inside held x.context) x.context (begin_in es t cells x))))
        (sized (long_of es t cells inside held) ds m))
        ≡ flat_map (λ d. at_end path (record { context = d; attributes = attributes es t cells d; text = element_text es cells d })
        (spots_below es inside path (holds_further es cells inside held d) d)) ds
    all inner [] m = refl
    all inner (d ∷ ds) m =
        let x : At = record { context = d; number = m } in
        map-append (λ (place : Place). place.spot)
        (map (behind m) (last_places path (spot_of es t cells d) (places es inside path (holds_further es cells inside held d) d (begin_in es t cells x))))
        (flat_map (λ (y : At). map (behind y.number)
        (last_places path (spot_of es t cells y.context)
        (places es inside path (holds_further es cells inside held y.context) y.context (begin_in es t cells y))))
        (sized (long_of es t cells inside held) ds (m + long_of es t cells inside held d)))
        ∙ (λ i. one inner path x i ++ all inner ds (m + long_of es t cells inside held d) i)

    go : map (λ (place : Place). place.spot) (flat_map (λ (x : At). map (behind x.number) (last_places path (spot_of es t cells x.context)
        (places es inside path (holds_further es cells inside held x.context) x.context (begin_in es t cells x))))
        (sized (long_of es t cells inside held) (emitted es t cells inside held c) n))
        ≡ flat_map (λ d. at_end path (record { context = d; attributes = attributes es t cells d; text = element_text es cells d })
        (spots_below es inside path (holds_further es cells inside held d) d)) (emitted es t cells inside held c)
        → map (λ (place : Place). place.spot) (places es rest (s ∷ path) held c
        (past (long_of es t cells inside held) (emitted es t cells inside held c) n)) ≡ spots_below es rest (s ∷ path) held c
        → (b : Bool)
        → map (λ (place : Place). place.spot) (elim b [
          | true ↦ flat_map (λ (x : At). map (behind x.number) (last_places path (spot_of es t cells x.context)
              (places es inside path (holds_further es cells inside held x.context) x.context (begin_in es t cells x))))
              (sized (long_of es t cells inside held) (emitted es t cells inside held c) n)
          | false ↦ places es rest (s ∷ path) held c (past (long_of es t cells inside held) (emitted es t cells inside held c) n)
        ])
        ≡ (elim b [
          | true ↦ flat_map (λ d. at_end path (record { context = d; attributes = attributes es t cells d; text = element_text es cells d })
              (spots_below es inside path (holds_further es cells inside held d) d)) (emitted es t cells inside held c)
          | false ↦ spots_below es rest (s ∷ path) held c
        ])
    go own later true = own
    go own later false = later

-- ---- names

same-texts : (a : List ℕ) → bytes_eq a a ≡ true
same-texts a = (bytes_eq-Decides a a).1 refl

pub called-self : (name : ElementName) → apart.is_called name name ≡ true
called-self name = ap (λ b. elim b [ true ↦ bytes_eq (uri_of name.namespace) (uri_of name.namespace) | false ↦ false ]) (same-texts name.local) ∙
    same-texts (uri_of name.namespace)

-- ---- elements beside one another

-- what is found at the elements of a name at the top of a forest
abbrev pub found : {X : Type 0} → ElementName → (ℕ → List X) → ℕ → Forest → List X
found name g n f = flat_map (λ (t : Top). g t.number) (filter (is_called name) (tops n f))

module _ {X : Type 0} (nodes : List Node) (name : ElementName) (g : ℕ → List X) (written : Name) (attrs : Context → List Attribute) (inside : Context → Forest)
    (is_there : Context → Bool) (rest : Forest) (above : List ℕ) where
  abbrev some : List Context → Forest
  some ds = elements is_there (λ d. an_element written (attrs d) (inside d)) ds rest

  abbrev long : Context → ℕ
  long d = 1 + (length (attrs d) + size (inside d))

  pub found-called : is_spelled (uri_of name.namespace) name.local written ≡ true → (ds : List Context) (n : ℕ)
      → found name g n (some ds) ≡ flat_map (λ (x : At). g x.number) (sized long (filter is_there ds) n) ++ found name g (past long (filter is_there ds) n) rest
  found-called called [] n = refl
  found-called called (d ∷ ds) n = go (found-called called ds) (is_there d)
    where
      go : ((m : ℕ) → found name g m (some ds) ≡ flat_map (λ (x : At). g x.number) (sized long (filter is_there ds) m) ++
          found name g (past long (filter is_there ds) m) rest) → (b : Bool) →
          found name g n (elim b [ true ↦ an_element written (attrs d) (inside d) (some ds) | false ↦ some ds ])
          ≡ flat_map (λ (x : At). g x.number) (sized long (if b then d ∷ filter is_there ds else filter is_there ds) n) ++
          found name g (past long (if b then d ∷ filter is_there ds else filter is_there ds) n) rest
      go later true =
          let top : Top = record { number = n; name = written; attributes = attrs d; inside = inside d } in
          ap (λ b. flat_map (λ (t : Top). g t.number) (if b then top ∷ filter (is_called name) (tops (n + long d) (some ds)) else filter (is_called name)
          (tops (n + long d) (some ds)))) called
          ∙ (ap (λ l. g n ++ l) (later (n + long d))
          ∙ sym (append_assoc (g n) (flat_map (λ (x : At). g x.number) (sized long (filter is_there ds) (n + long d)))
          (found name g (past long (filter is_there ds) (n + long d)) rest)))
      go later false = later n

  found-other : is_spelled (uri_of name.namespace) name.local written ≡ false → (ds : List Context) (n : ℕ) →
      found name g n (some ds) ≡ found name g (past long (filter is_there ds) n) rest
  found-other called [] n = refl
  found-other called (d ∷ ds) n = go (found-other called ds) (is_there d)
    where
      go : ((m : ℕ) → found name g m (some ds) ≡ found name g (past long (filter is_there ds) m) rest) → (b : Bool) →
          found name g n (elim b [ true ↦ an_element written (attrs d) (inside d) (some ds) | false ↦ some ds ])
          ≡ found name g (past long (if b then d ∷ filter is_there ds else filter is_there ds) n) rest
      go later true =
          let top : Top = record { number = n; name = written; attributes = attrs d; inside = inside d } in
          ap (λ b. flat_map (λ (t : Top). g t.number) (if b then top ∷ filter (is_called name) (tops (n + long d) (some ds)) else filter (is_called name)
          (tops (n + long d) (some ds)))) called
          ∙ later (n + long d)
      go later false = later n

  -- each of them lies in the document, and so does what is behind them
  pub elements-lie : (P : At → Type 0) (ds : List Context) →
      ((d : Context) → Among d ds → (n : ℕ) (more : Forest) → is_there d ≡ true → Lies nodes above n (an_element written (attrs d) (inside d) more) →
      P (record { context = d; number = n }))
      → (n : ℕ) → Lies nodes above n (some ds) → Each P (sized long (filter is_there ds) n) × Lies nodes above (past long (filter is_there ds) n) rest
  elements-lie P [] each n lies = (tt, lies)
  elements-lie P (d ∷ ds) each n lies = go (elements-lie P ds (λ e a. each e (inr a))) (is_there d) refl lies
    where
      go : ((m : ℕ) → Lies nodes above m (some ds) → Each P (sized long (filter is_there ds) m) × Lies nodes above (past long (filter is_there ds) m) rest) →
          (b : Bool) → is_there d ≡ b → Lies nodes above n (elim b [ true ↦ an_element written (attrs d) (inside d) (some ds) | false ↦ some ds ])
          → Each P (sized long (if b then d ∷ filter is_there ds else filter is_there ds) n) ×
          Lies nodes above (past long (if b then d ∷ filter is_there ds else filter is_there ds) n) rest
      go later true e k =
          let w = later (n + long d) (behind-element nodes above n written (attrs d) (inside d) (some ds) k) in
          ((each d (inl refl) n (some ds) e k, w.0), w.1)
      go later false e k = later n k

-- ---- ways

unfoldable pub step_ways : List Node → Step → List Step → ℕ → List (List ℕ)
step_ways nodes s path m = elim (are_met nodes s.guards m) [ true ↦ map (λ way. m ∷ way) (ways nodes path m) | false ↦ [] ]

pub inside-ways : (nodes : List Node) (p : ℕ) (above : List ℕ) (n : ℕ) (f : Forest) (s : Step) (path : List Step) → Holds nodes p above n f →
    ways nodes (s ∷ path) p ≡ found s.name (step_ways nodes s path) n f
unfolding step_ways
inside-ways nodes p above n f s path h =
    flat_map-filter (λ m. map (λ way. m ∷ way) (ways nodes path m)) (are_met nodes s.guards) (children_named nodes s.name p)
    ∙ (ap (flat_map (step_ways nodes s path)) (children-are nodes p above n f h s.name) ∙
    flat_map-map (step_ways nodes s path) (λ (t : Top). t.number) (filter (is_called s.name) (tops n f)))

in-its-text : {X : Type 0} (nodes : List Node) (name : ElementName) (g : ℕ → List X) (text : List ℕ) (f : Forest) (above : List ℕ) (n : ℕ) →
    Lies nodes above n (with_text text f)
    → Lies nodes above (past_text text n) f × (found name g n (with_text text f) ≡ found name g (past_text text n) f)
in-its-text nodes name g [] f above n h = (h, refl)
in-its-text nodes name g (c ∷ text) f above n h = (behind-text nodes above n (c ∷ text) f h, refl)

module _ (nodes : List Node) (es : List Entry) where
  -- an element of the line, with what is inside it
  abbrev pub Found : Step → List Cell → Plan → Bool → List ℕ → Context → ℕ → Forest → Type 0
  Found t cells inside held above d m more = Lies nodes above m (an_element (name_of t.name) (attributes es t cells d) (written_in es cells inside held d) more)

  pub inside-element : (t : Step) (cells : List Cell) (inside : Plan) (held : Bool) (above : List ℕ) (d : Context) (m : ℕ) (more : Forest) (u : Step)
      (us : List Step) → Found t cells inside held above d m more
      → Lies nodes (m ∷ above) (begin_in es t cells (record { context = d; number = m })) (written_lines es inside (holds_further es cells inside held d) d)
      × (ways nodes (u ∷ us) m ≡ found u.name (step_ways nodes u us) (begin_in es t cells (record { context = d; number = m }))
      (written_lines es inside (holds_further es cells inside held d) d))
  inside-element t cells inside held above d m more u us there =
      let holds = inside-holds nodes above m (name_of t.name) (attributes es t cells d) (written_in es cells inside held d) more there in
      let place : ℕ = m + (1 + length (attributes es t cells d)) in
      let text = in-its-text nodes u.name (step_ways nodes u us) (element_text es cells d) (written_lines es inside (holds_further es cells inside held d) d)
      (m ∷ above) place holds.lies in
      (text.0, inside-ways nodes m above place (written_in es cells inside held d) u us holds ∙ text.1)

  -- nothing is found at the elements of a line inside an element in the context
  abbrev pub Silent : {X : Type 0} → (ℕ → List X) → Step → List Cell → Plan → Bool → List ℕ → Context → Type 0
  Silent g t cells inside held above c = (d : Context) → Among d (spots es c t.group) → (m : ℕ) (more : Forest) → is_emitted es t cells inside held d ≡ true →
      Found t cells inside held above d m more → g m ≡ []

  pub clear-line : (known : Known) (c : Context) → Knows known es c → (s : Step) (path : List Step) (t : Step) (cells : List Cell) (inside : Plan) (held : Bool)
      (above : List ℕ)
      → ((u : Step) (us : List Step) (d : Context) → Among d (spots es c t.group) → (around : List ℕ) (m : ℕ) →
      Lies nodes around m (written_lines es inside (holds_further es cells inside held d) d) → is_clear (beyond t.group known) inside (u ∷ us) ≡ true
      → found u.name (step_ways nodes u us) m (written_lines es inside (holds_further es cells inside held d) d) ≡ [])
      → (is_off known s.guards t cells inside || elim path [ [] ↦ false | (u ∷ further) ↦ is_clear (beyond t.group known) inside (u ∷ further) ]) ≡ true →
      Silent (step_ways nodes s path) t cells inside held above c
  unfolding step_ways
  clear-line known c knows s path t cells inside held above inner h d a m more e there =
      elim (or-either (is_off known s.guards t cells inside) (elim path [ [] ↦ false | (u ∷ further) ↦ is_clear (beyond t.group known) inside (u ∷ further) ])
      h) [
        | inl k ↦ elim (or-either (fails_some known s.guards t cells inside) (is_unwritten known.gone t cells inside) k) [
          | inl l ↦ ap (λ b. elim b [ true ↦ map (λ way. m ∷ way) (ways nodes path m) | false ↦ [] ])
              (met-as nodes s.guards above m (name_of t.name) (attributes es t cells d) (written_in es cells inside held d) more there ∙
              other-unmet es known c knows s.guards t cells inside held d a l e)
          | inr l ↦ absurd (never-written known.gone es t cells inside held d knows.gone l e)
        ]
        | inr k ↦ go path k
      ]
    where
      none : (b : Bool) (ws : List (List ℕ)) → ws ≡ [] → ◌≡◌ {A = List (List ℕ)} (elim b [ true ↦ map (λ way. m ∷ way) ws | false ↦ [] ]) []
      none true ws k = ap (map (λ way. m ∷ way)) k
      none false ws k = refl

      go : (path : List Step) → (elim path [ [] ↦ false | (u ∷ further) ↦ is_clear (beyond t.group known) inside (u ∷ further) ]) ≡ true →
          ◌≡◌ {A = List (List ℕ)} (elim (are_met nodes s.guards m) [ true ↦ map (λ way. m ∷ way) (ways nodes path m) | false ↦ [] ]) []
      go [] k = absurd (false≢true k)
      go (u ∷ us) k =
          let w = inside-element t cells inside held above d m more u us there in
          none (are_met nodes s.guards m) (ways nodes (u ∷ us) m)
          (w.1 ∙ inner u us d a (m ∷ above) (begin_in es t cells (record { context = d; number = m })) w.0 k)

  -- what is found of a line that is passed over, and of those behind it
  pub past-line : {X : Type 0} (s : Step) (g : ℕ → List X) (t : Step) (cells : List Cell) (inside rest : Plan) (held : Bool) (c : Context) (above : List ℕ)
      (n : ℕ)
      → Lies nodes above n (written_lines es (a_line t cells inside rest) held c) →
      (apart.is_called s.name t.name ≡ false) ⊎ Silent g t cells inside held above c
      → Lies nodes above (past (long_of es t cells inside held) (emitted es t cells inside held c) n) (written_lines es rest held c)
      × (found s.name g n (written_lines es (a_line t cells inside rest) held c) ≡ found s.name g
      (past (long_of es t cells inside held) (emitted es t cells inside held c) n) (written_lines es rest held c))
  past-line s g t cells inside rest held c above n lies (inl k) = (
    (elements-lie nodes s.name g (name_of t.name) (attributes es t cells) (written_in es cells inside held) (is_emitted es t cells inside held)
        (written_lines es rest held c) above (λ x. Unit {0})
        (spots es c t.group) (λ d a m more e there. tt) n lies).1,
    found-other nodes s.name g (name_of t.name) (attributes es t cells) (written_in es cells inside held) (is_emitted es t cells inside held)
        (written_lines es rest held c) above k (spots es c t.group) n,
  )
  past-line s g t cells inside rest held c above n lies (inr silent) =
      let w = elements-lie nodes s.name g (name_of t.name) (attributes es t cells) (written_in es cells inside held) (is_emitted es t cells inside held)
      (written_lines es rest held c) above (λ x. g x.number ≡ [])
      (spots es c t.group) silent n lies in
      (w.1, by-name (apart.is_called s.name t.name) refl w.0)
    where
      by-name : (b : Bool) → apart.is_called s.name t.name ≡ b →
          Each (λ (x : At). g x.number ≡ []) (sized (long_of es t cells inside held) (emitted es t cells inside held c) n)
          → found s.name g n (written_lines es (a_line t cells inside rest) held c) ≡ found s.name g
          (past (long_of es t cells inside held) (emitted es t cells inside held c) n) (written_lines es rest held c)
      by-name true k none =
          found-called nodes s.name g (name_of t.name) (attributes es t cells) (written_in es cells inside held) (is_emitted es t cells inside held)
          (written_lines es rest held c) above k (spots es c t.group) n
          ∙ ap (λ l. l ++ found s.name g (past (long_of es t cells inside held) (emitted es t cells inside held c) n) (written_lines es rest held c))
          (flat_map-none (λ (x : At). g x.number) (sized (long_of es t cells inside held) (emitted es t cells inside held c) n) none)
      by-name false k none =
          found-other nodes s.name g (name_of t.name) (attributes es t cells) (written_in es cells inside held) (is_emitted es t cells inside held)
          (written_lines es rest held c) above k (spots es c t.group) n

  pub clear-found : (known : Known) (plan : Plan) (s : Step) (path : List Step) (held : Bool) (c : Context) → Knows known es c → (above : List ℕ) (n : ℕ) →
      Lies nodes above n (written_lines es plan held c) → is_clear known plan (s ∷ path) ≡ true
      → found s.name (step_ways nodes s path) n (written_lines es plan held c) ≡ []
  clear-found known nothing s path held c knows above n lies h = refl
  clear-found known (a_line t cells inside rest) s path held c knows above n lies h =
      go (λ u us further d k around m there z. clear-found (beyond t.group known) inside u us further d k around m there z)
      (λ m there z. clear-found known rest s path held c knows above m there z) (apart.is_called s.name t.name) refl h
    where
      go : ((u : Step) (us : List Step) (further : Bool) (d : Context) → Knows (beyond t.group known) es d → (around : List ℕ) (m : ℕ) →
          Lies nodes around m (written_lines es inside further d) → is_clear (beyond t.group known) inside (u ∷ us) ≡ true
          → found u.name (step_ways nodes u us) m (written_lines es inside further d) ≡ [])
          → ((m : ℕ) → Lies nodes above m (written_lines es rest held c) → is_clear known rest (s ∷ path) ≡ true →
          found s.name (step_ways nodes s path) m (written_lines es rest held c) ≡ [])
          → (b : Bool) → apart.is_called s.name t.name ≡ b → (elim b [
            | true ↦ (not (same_step s t) && (is_off known s.guards t cells inside ||
                elim path [ [] ↦ false | (u ∷ further) ↦ is_clear (beyond t.group known) inside (u ∷ further) ])) && is_clear known rest (s ∷ path)
            | false ↦ is_clear known rest (s ∷ path)
          ]) ≡ true
          → found s.name (step_ways nodes s path) n (written_lines es (a_line t cells inside rest) held c) ≡ []
      go inner later true e k =
          let w = both-true _ (is_clear known rest (s ∷ path)) k in
          let p = past-line s (step_ways nodes s path) t cells inside rest held c above n lies
          (inr (clear-line known c knows s path t cells inside held above
          (λ u us d a around m there z. inner u us (holds_further es cells inside held d) d (known-inside known es t.group c d a knows) around m there z)
          (both-true (not (same_step s t)) _ w.0).1)) in
          p.1 ∙ later (past (long_of es t cells inside held) (emitted es t cells inside held c) n) p.0 w.1
      go inner later false e k =
          let p = past-line s (step_ways nodes s path) t cells inside rest held c above n lies (inl e) in
          p.1 ∙ later (past (long_of es t cells inside held) (emitted es t cells inside held c) n) p.0 k

  -- an element at the end of a path: nothing but its text is inside it
  pub record IsAt (place : Place) : Type 0 where
    pub first : ℕ
    pub further : List ℕ
    pub way_is : place.way ≡ first ∷ further
    pub above : List ℕ
    pub name : Name
    pub more : Forest
    pub lies : Lies nodes above (last_of place.way) (an_element name place.spot.attributes (with_text place.spot.text no_more) more)

  -- what is found along the path of lines that have it
  pub record AreFound (s : Step) (path : List Step) (f : Forest) (n : ℕ) (them : List Place) : Type 0 where
    pub ways_are : found s.name (step_ways nodes s path) n f ≡ map (λ (place : Place). place.way) them
    pub each : Each IsAt them

  pub behind-at : (n : ℕ) (place : Place) → IsAt place → IsAt (behind n place)
  behind-at n place at = record {
    first = n;
    further = place.way;
    way_is = refl;
    above = at.above;
    name = at.name;
    more = at.more;
    lies = subst (λ way. Lies nodes at.above (last_of way) (an_element at.name place.spot.attributes (with_text place.spot.text no_more) at.more))
        (sym (ap (λ way. n ∷ way) at.way_is))
        (subst (λ way. Lies nodes at.above (last_of way) (an_element at.name place.spot.attributes (with_text place.spot.text no_more) at.more)) at.way_is
        at.lies);
  }

  pub ways-behind : (n : ℕ) (them : List Place) → map (λ way. n ∷ way) (map (λ (place : Place). place.way) them) ≡ map (λ (place : Place). place.way)
      (map (behind n) them)
  ways-behind n [] = refl
  ways-behind n (place ∷ them) = ap (λ l. (n ∷ place.way) ∷ l) (ways-behind n them)

  -- what is behind an element of the path's own line
  pub record IsOwn (s : Step) (path : List Step) (n : ℕ) (them : List Place) : Type 0 where
    pub ways_are : step_ways nodes s path n ≡ map (λ (place : Place). place.way) (map (behind n) them)
    pub each : Each IsAt (map (behind n) them)

  pub own-line : (known : Known) (c : Context) → Knows known es c → (s : Step) (path : List Step) (t : Step) (cells : List Cell) (inside : Plan) (held : Bool)
      (above : List ℕ)
      → ((u : Step) (us : List Step) (d : Context) → Among d (spots es c t.group) → (around : List ℕ) (m : ℕ) →
      Lies nodes around m (written_lines es inside (holds_further es cells inside held d) d) → is_apart (beyond t.group known) inside (u ∷ us) ≡ true
      → AreFound u us (written_lines es inside (holds_further es cells inside held d) d) m
      (places es inside (u ∷ us) (holds_further es cells inside held d) d m))
      → is_met_or_unwritten known s.guards t cells inside ≡ true →
      (elim path [ [] ↦ is_nothing inside | (u ∷ further) ↦ is_apart (beyond t.group known) inside (u ∷ further) ]) ≡ true
      → (d : Context) → Among d (spots es c t.group) → (m : ℕ) (more : Forest) → is_emitted es t cells inside held d ≡ true →
      Found t cells inside held above d m more
      → IsOwn s path m (last_places path (spot_of es t cells d)
      (places es inside path (holds_further es cells inside held d) d (begin_in es t cells (record { context = d; number = m }))))
  unfolding step_ways
  own-line known c knows s path t cells inside held above inner meets h d a m more e there = go path h
    where
      are-met : are_met nodes s.guards m ≡ true
      are-met =
          met-as nodes s.guards above m (name_of t.name) (attributes es t cells d) (written_in es cells inside held d) more there
          ∙ elim (or-either (meets_all known s.guards t cells inside) (is_unwritten known.gone t cells inside) meets) [
            | inl k ↦ own-met es known c knows s.guards t cells inside held d a k e
            | inr k ↦ absurd (never-written known.gone es t cells inside held d knows.gone k e)
          ]

      go : (path : List Step) → (elim path [ [] ↦ is_nothing inside | (u ∷ further) ↦ is_apart (beyond t.group known) inside (u ∷ further) ]) ≡ true
          → IsOwn s path m (last_places path (spot_of es t cells d)
          (places es inside path (holds_further es cells inside held d) d (begin_in es t cells (record { context = d; number = m }))))
      go [] k = record {
        ways_are = ap (λ b. elim b [ true ↦ map (λ way. m ∷ way) (ways nodes [] m) | false ↦ [] ]) are-met;
        each = (
          record {
            first = m;
            further = [];
            way_is = refl;
            above = above;
            name = name_of t.name;
            more = more;
            lies = subst (λ f. Lies nodes above m (an_element (name_of t.name) (attributes es t cells d) (with_text (element_text es cells d) f) more))
                (at-nothing es inside (holds_further es cells inside held d) d k) there;
          },
          tt,
        );
      }
      go (u ∷ us) k =
          let w = inside-element t cells inside held above d m more u us there in
          let start : ℕ = begin_in es t cells (record { context = d; number = m }) in
          let v = inner u us d a (m ∷ above) start w.0 k in
          let them : List Place = places es inside (u ∷ us) (holds_further es cells inside held d) d start in
          record {
            ways_are = ap (λ b. elim b [ true ↦ map (λ way. m ∷ way) (ways nodes (u ∷ us) m) | false ↦ [] ]) are-met ∙
                (ap (map (λ way. m ∷ way)) (w.1 ∙ v.ways_are) ∙ ways-behind m them);
            each = each-map IsAt (behind m) them (each-weaker IsAt (λ place. IsAt (behind m place)) them (λ place. behind-at m place) v.each);
          }

  pub join-own : (s : Step) (path : List Step) (them : At → List Place) (xs : List At) → Each (λ (x : At). IsOwn s path x.number (them x)) xs
      → (flat_map (λ (x : At). step_ways nodes s path x.number) xs ≡ map (λ (place : Place). place.way)
      (flat_map (λ (x : At). map (behind x.number) (them x)) xs)) × Each IsAt (flat_map (λ (x : At). map (behind x.number) (them x)) xs)
  join-own s path them [] h = (refl, tt)
  join-own s path them (x ∷ xs) h =
      let w = join-own s path them xs h.1 in (
        (λ i. h.0.ways_are i ++ w.0 i) ∙ sym (map-append (λ (place : Place). place.way) (map (behind x.number) (them x))
            (flat_map (λ (y : At). map (behind y.number) (them y)) xs)),
        each-append IsAt (map (behind x.number) (them x)) (flat_map (λ (y : At). map (behind y.number) (them y)) xs) h.0.each w.1,
      )

  pub lines-found : (known : Known) (plan : Plan) (s : Step) (path : List Step) (held : Bool) (c : Context) → Knows known es c → (above : List ℕ) (n : ℕ) →
      Lies nodes above n (written_lines es plan held c) → is_apart known plan (s ∷ path) ≡ true
      → AreFound s path (written_lines es plan held c) n (places es plan (s ∷ path) held c n)
  lines-found known nothing s path held c knows above n lies h = absurd (false≢true h)
  lines-found known (a_line t cells inside rest) s path held c knows above n lies h =
      go (λ u us further d k around m there z. lines-found (beyond t.group known) inside u us further d k around m there z)
      (λ m there z. lines-found known rest s path held c knows above m there z) (same_step s t) refl h
    where
      on : ((m : ℕ) → Lies nodes above m (written_lines es rest held c) → is_apart known rest (s ∷ path) ≡ true →
          AreFound s path (written_lines es rest held c) m (places es rest (s ∷ path) held c m))
          → (apart.is_called s.name t.name ≡ false) ⊎ Silent (step_ways nodes s path) t cells inside held above c → is_apart known rest (s ∷ path) ≡ true
          → AreFound s path (written_lines es (a_line t cells inside rest) held c) n
          (places es rest (s ∷ path) held c (past (long_of es t cells inside held) (emitted es t cells inside held c) n))
      on later passed k =
          let p = past-line s (step_ways nodes s path) t cells inside rest held c above n lies passed in
          let w = later (past (long_of es t cells inside held) (emitted es t cells inside held c) n) p.0 k in
          record { ways_are = p.1 ∙ w.ways_are; each = w.each }

      by-name : ((m : ℕ) → Lies nodes above m (written_lines es rest held c) → is_apart known rest (s ∷ path) ≡ true →
          AreFound s path (written_lines es rest held c) m (places es rest (s ∷ path) held c m))
          → (b : Bool) → apart.is_called s.name t.name ≡ b → (elim b [
            | true ↦ (is_off known s.guards t cells inside || elim path [ [] ↦ false | (u ∷ further) ↦ is_clear (beyond t.group known) inside (u ∷ further) ])
                && is_apart known rest (s ∷ path)
            | false ↦ is_apart known rest (s ∷ path)
          ]) ≡ true
          → AreFound s path (written_lines es (a_line t cells inside rest) held c) n
          (places es rest (s ∷ path) held c (past (long_of es t cells inside held) (emitted es t cells inside held c) n))
      by-name later true e k =
          let w = both-true _ (is_apart known rest (s ∷ path)) k in
          on later (inr (clear-line known c knows s path t cells inside held above
          (λ u us d a around m there z. clear-found (beyond t.group known) inside u us (holds_further es cells inside held d) d
          (known-inside known es t.group c d a knows) around m there z) w.0)) w.1
      by-name later false e k = on later (inl e) k

      go : ((u : Step) (us : List Step) (further : Bool) (d : Context) → Knows (beyond t.group known) es d → (around : List ℕ) (m : ℕ) →
          Lies nodes around m (written_lines es inside further d) → is_apart (beyond t.group known) inside (u ∷ us) ≡ true
          → AreFound u us (written_lines es inside further d) m (places es inside (u ∷ us) further d m))
          → ((m : ℕ) → Lies nodes above m (written_lines es rest held c) → is_apart known rest (s ∷ path) ≡ true →
          AreFound s path (written_lines es rest held c) m (places es rest (s ∷ path) held c m))
          → (b : Bool) → same_step s t ≡ b → (elim b [
            | true ↦ is_met_or_unwritten known s.guards t cells inside &&
                (is_clear known rest (s ∷ path) && elim path [ [] ↦ is_nothing inside | (u ∷ further) ↦ is_apart (beyond t.group known) inside (u ∷ further) ])
            | false ↦ elim (apart.is_called s.name t.name) [
              | true ↦ (is_off known s.guards t cells inside || elim path [ [] ↦ false | (u ∷ further) ↦ is_clear (beyond t.group known) inside (u ∷ further) ])
                  && is_apart known rest (s ∷ path)
              | false ↦ is_apart known rest (s ∷ path)
            ]
          ]) ≡ true
          → AreFound s path (written_lines es (a_line t cells inside rest) held c) n (elim b [
            | true ↦ flat_map (λ (x : At). map (behind x.number) (last_places path (spot_of es t cells x.context)
                (places es inside path (holds_further es cells inside held x.context) x.context (begin_in es t cells x))))
                (sized (long_of es t cells inside held) (emitted es t cells inside held c) n)
            | false ↦ places es rest (s ∷ path) held c (past (long_of es t cells inside held) (emitted es t cells inside held c) n)
          ])
      go inner later true e k =
          let parts = both-true (is_met_or_unwritten known s.guards t cells inside) _ k in
          let further = both-true (is_clear known rest (s ∷ path)) _ parts.1 in
          let called : apart.is_called s.name t.name ≡ true = ap (λ (x : Step). apart.is_called x.name t.name) (step-sound s t e) ∙ called-self t.name in
          let them : At → List Place = λ x. last_places path (spot_of es t cells x.context)
          (places es inside path (holds_further es cells inside held x.context) x.context (begin_in es t cells x)) in
          let w = elements-lie nodes s.name (step_ways nodes s path) (name_of t.name) (attributes es t cells) (written_in es cells inside held)
          (is_emitted es t cells inside held) (written_lines es rest held c) above
          (λ x. IsOwn s path x.number (them x)) (spots es c t.group)
          (own-line known c knows s path t cells inside held above
          (λ u us d a around m there z. inner u us (holds_further es cells inside held d) d (known-inside known es t.group c d a knows) around m there z)
          parts.0 further.1) n lies in
          let all = join-own s path them (sized (long_of es t cells inside held) (emitted es t cells inside held c) n) w.0 in
          record {
            ways_are = found-called nodes s.name (step_ways nodes s path) (name_of t.name) (attributes es t cells) (written_in es cells inside held)
                (is_emitted es t cells inside held) (written_lines es rest held c) above called
                (spots es c t.group) n
                ∙ (ap (λ l. flat_map (λ (x : At). step_ways nodes s path x.number) (sized (long_of es t cells inside held) (emitted es t cells inside held c) n)
                ++ l)
                (clear-found known rest s path held c knows above (past (long_of es t cells inside held) (emitted es t cells inside held c) n) w.1 further.0)
                ∙ (append-nil (flat_map (λ (x : At). step_ways nodes s path x.number)
                (sized (long_of es t cells inside held) (emitted es t cells inside held c) n)) ∙ all.0));
            each = all.1;
          }
      go inner later false e k = by-name later (apart.is_called s.name t.name) refl k

-- ---- the document

pub apart-nil : (known : Known) (plan : Plan) → is_apart known plan [] ≡ true → ⊥
apart-nil known nothing h = false≢true h
apart-nil known (a_line t cells inside rest) h = false≢true h

-- the elements that the document has at the end of a path, with those on the way to them
abbrev pub places_at : List Row → List Entry → List Step → List Place
places_at rows es path = places es (plan_of rows) path false root_context 1

pub record ArePlaced (nodes : List Node) (es : List Entry) (path : List Step) (them : List Place) : Type 0 where
  pub ways_are : ways nodes path 0 ≡ map (λ (place : Place). place.way) them
  pub each : Each (IsAt nodes es) them

pub placed-known : (known : Known) (rows : List Row) (es : List Entry) (path : List Step) → Knows known es root_context →
    is_apart known (plan_of rows) path ≡ true
    → ArePlaced (document_nodes (document_of rows es)) es path (places_at rows es path)
unfolding document_of
placed-known known rows es [] knows h = absurd (apart-nil known (plan_of rows) h)
placed-known known rows es (s ∷ path) knows h =
    let nodes : List Node = document_nodes (document_of rows es) in
    let f : Forest = written_lines es (plan_of rows) false root_context in
    let holds : Holds nodes 0 [] 1 f = document-holds f in
    let w = lines-found nodes es known (plan_of rows) s path false root_context knows (0 ∷ []) 1 holds.lies h in
    record { ways_are = inside-ways nodes 0 [] 1 f s path holds ∙ w.ways_are; each = w.each }

pub placed-without : (gone : List Term) (rows : List Row) (es : List Entry) (path : List Step) → holds_none gone es ≡ true →
    stands_apart_without gone rows path ≡ true
    → ArePlaced (document_nodes (document_of rows es)) es path (places_at rows es path)
placed-without gone rows es path unheld h = placed-known (without gone) rows es path (knows-without gone es root_context unheld) h

pub placed-at : (rows : List Row) (es : List Entry) (path : List Step) → stands_apart rows path ≡ true →
    ArePlaced (document_nodes (document_of rows es)) es path (places_at rows es path)
placed-at rows es path h = placed-known unknown rows es path (knows-nothing es root_context) h

-- ---- the strings at the end of a way

unfoldable pub ends_at : List Node → Leaf → ℕ → List (List ℕ)
ends_at nodes leaf n = map (string_at nodes) (leaves_of nodes leaf n)

unfoldable pub spot-strings : Leaf → Spot → List (List ℕ)
spot-strings leaves.Element spot = filter is_full (spot.text ∷ [])
spot-strings (leaves.Attribute local) spot = elim (is_full spot.text) [ true ↦ filter is_full (values_named local spot.attributes) | false ↦ [] ]

filled-strings : (nodes : List Node) (ns : List ℕ) → map (string_at nodes) (filled nodes ns) ≡ filter is_full (map (string_at nodes) ns)
filled-strings nodes ns = map-filter (string_at nodes) is_full ns

by-text : (nodes : List Node) (local : List ℕ) (n : ℕ) (b : Bool)
    → map (string_at nodes) (flat_map (λ m. filled nodes (attributes_named nodes local m)) (if b then n ∷ [] else []))
    ≡ (elim b [ true ↦ filter is_full (map (string_at nodes) (attributes_named nodes local n)) | false ↦ [] ])
by-text nodes local n true = ap (map (string_at nodes)) (append-nil (filled nodes (attributes_named nodes local n))) ∙
    filled-strings nodes (attributes_named nodes local n)
by-text nodes local n false = refl

end-is : (nodes : List Node) (above : List ℕ) (n : ℕ) (name : Name) (attrs : List Attribute) (inside rest : Forest) →
    Lies nodes above n (an_element name attrs inside rest)
    → (leaf : Leaf) (spot : Spot) → spot.attributes ≡ attrs → spot.text ≡ texts inside → ends_at nodes leaf n ≡ spot-strings leaf spot
unfolding ends_at spot-strings
end-is nodes above n name attrs inside rest h leaves.Element spot a e =
    filled-strings nodes (n ∷ []) ∙ ap (λ s. filter is_full (s ∷ [])) (string-is nodes above n name attrs inside rest h ∙ sym e)
end-is nodes above n name attrs inside rest h (leaves.Attribute local) spot a e =
    by-text nodes local n (is_full (string_at nodes n))
    ∙ (ap (λ s. elim (is_full s) [ true ↦ filter is_full (map (string_at nodes) (attributes_named nodes local n)) | false ↦ [] ])
    (string-is nodes above n name attrs inside rest h ∙ sym e)
    ∙ ap (λ l. elim (is_full spot.text) [ true ↦ filter is_full l | false ↦ [] ]) (attributes-are nodes above n name attrs inside rest h local ∙
    ap (values_named local) (sym a)))

pub string-ends : (nodes : List Node) (leaf : Leaf) (above : List ℕ) (n : ℕ) (name : Name) (attrs : List Attribute) (text : List ℕ) (rest : Forest)
    → Lies nodes above n (an_element name attrs (with_text text no_more) rest) → (spot : Spot) → spot.attributes ≡ attrs → spot.text ≡ text →
    ends_at nodes leaf n ≡ spot-strings leaf spot
string-ends nodes leaf above n name attrs text rest h spot a e = end-is nodes above n name attrs (with_text text no_more) rest h leaf spot a
    (e ∙ sym (text-texts text))

pub ends-among : {Z : Type 0} (nodes : List Node) (es : List Entry) (at : ℕ → List Z) (value : Spot → List Z)
    → ((above : List ℕ) (n : ℕ) (name : Name) (attrs : List Attribute) (text : List ℕ) (rest : Forest)
    → Lies nodes above n (an_element name attrs (with_text text no_more) rest) → (spot : Spot) → spot.attributes ≡ attrs → spot.text ≡ text → at n ≡ value spot)
    → (path : List Step) (them : List Place) → ArePlaced nodes es path them →
    flat_map (λ way. at (last_of way)) (ways nodes path 0) ≡ flat_map (λ (place : Place). value place.spot) them
ends-among nodes es at value ends path them w =
    ap (flat_map (λ way. at (last_of way))) w.ways_are
    ∙ (flat_map-map (λ way. at (last_of way)) (λ (place : Place). place.way) them
    ∙ flat_map-each (λ (place : Place). at (last_of place.way)) (λ (place : Place). value place.spot) them
    (each-weaker (IsAt nodes es) (λ place. at (last_of place.way) ≡ value place.spot) them
    (λ place k. ends k.above (last_of place.way) k.name place.spot.attributes place.spot.text k.more k.lies place.spot refl refl) w.each))

pub picked-ends : {Z : Type 0} (rows : List Row) (es : List Entry) (at : ℕ → List Z) (value : Spot → List Z)
    → ((above : List ℕ) (n : ℕ) (name : Name) (attrs : List Attribute) (text : List ℕ) (rest : Forest)
    → Lies (document_nodes (document_of rows es)) above n (an_element name attrs (with_text text no_more) rest) → (spot : Spot) → spot.attributes ≡ attrs →
    spot.text ≡ text → at n ≡ value spot)
    → (path : List Step) → ArePlaced (document_nodes (document_of rows es)) es path (places_at rows es path)
    → flat_map (λ way. at (last_of way)) (ways (document_nodes (document_of rows es)) path 0) ≡ flat_map value (written_at rows es path)
picked-ends rows es at value ends path w =
    let nodes : List Node = document_nodes (document_of rows es) in
    let them : List Place = places_at rows es path in
    ends-among nodes es at value ends path them w
    ∙ (sym (flat_map-map value (λ (place : Place). place.spot) them) ∙ ap (flat_map value) (places-spots es (plan_of rows) path false root_context 1))

picked-strings : (nodes : List Node) (k : ℕ) (row : Row) → map (λ (pick : Pick). string_at nodes pick.node) (nodes_picked nodes k row) ≡ flat_map
    (λ way. ends_at nodes row.leaf (last_of way)) (ways nodes row.path 0)
unfolding ends_at
picked-strings nodes k row =
    map-flat_map (λ (pick : Pick). string_at nodes pick.node) (picks_of_way nodes k row) (ways nodes row.path 0)
    ∙ flat_map-same (λ way. map (λ (pick : Pick). string_at nodes pick.node) (picks_of_way nodes k row way)) (λ way. ends_at nodes row.leaf (last_of way))
    (λ way. map-map (λ (pick : Pick). string_at nodes pick.node) (λ n. record { place = k; row = row; elements = way; node = n })
    (leaves_of nodes row.leaf (last_of way))) (ways nodes row.path 0)

picked-by : (rows : List Row) (es : List Entry) (k : ℕ) (row : Row) → ArePlaced (document_nodes (document_of rows es)) es row.path (places_at rows es row.path)
    → map (λ (pick : Pick). string_at (document_nodes (document_of rows es)) pick.node) (nodes_picked (document_nodes (document_of rows es)) k row)
    ≡ flat_map (spot-strings row.leaf) (written_at rows es row.path)
picked-by rows es k row h =
    let nodes : List Node = document_nodes (document_of rows es) in
    picked-strings nodes k row ∙ picked-ends rows es (ends_at nodes row.leaf) (spot-strings row.leaf) (string-ends nodes row.leaf) row.path h

element-strings : (spots : List Spot) → flat_map (spot-strings leaves.Element) spots ≡ filter is_full (map (λ (spot : Spot). spot.text) spots)
unfolding spot-strings
element-strings [] = refl
element-strings (spot ∷ spots) = one (is_full spot.text) ∙ ap (λ l. if is_full spot.text then spot.text ∷ l else l) (element-strings spots)
  where
    one : (b : Bool) → (if b then spot.text ∷ [] else []) ++
        flat_map (spot-strings leaves.Element) spots ≡ (if b then spot.text ∷ flat_map (spot-strings leaves.Element) spots else flat_map
        (spot-strings leaves.Element) spots)
    one true = refl
    one false = refl

attribute-strings : (local : List ℕ) (spots : List Spot)
    → flat_map (spot-strings (leaves.Attribute local)) spots ≡ flat_map (λ (spot : Spot). filter is_full (values_named local spot.attributes))
    (filter (λ (spot : Spot). is_full spot.text) spots)
unfolding spot-strings
attribute-strings local [] = refl
attribute-strings local (spot ∷ spots) = one (is_full spot.text) (attribute-strings local spots)
  where
    one : (b : Bool) → flat_map (spot-strings (leaves.Attribute local)) spots ≡ flat_map (λ (x : Spot). filter is_full (values_named local x.attributes))
        (filter (λ (x : Spot). is_full x.text) spots)
        → (elim b [ true ↦ filter is_full (values_named local spot.attributes) | false ↦ [] ]) ++ flat_map (spot-strings (leaves.Attribute local)) spots
        ≡ flat_map (λ (x : Spot). filter is_full (values_named local x.attributes))
        (if b then spot ∷ filter (λ (x : Spot). is_full x.text) spots else filter (λ (x : Spot). is_full x.text) spots)
    one true e = ap (λ l. filter is_full (values_named local spot.attributes) ++ l) e
    one false e = e

pub placed-elements : (rows : List Row) (es : List Entry) (k : ℕ) (row : Row) → row.leaf ≡ leaves.Element →
    ArePlaced (document_nodes (document_of rows es)) es row.path (places_at rows es row.path)
    → map (λ (pick : Pick). string_at (document_nodes (document_of rows es)) pick.node) (nodes_picked (document_nodes (document_of rows es)) k row)
    ≡ filter is_full (map (λ (spot : Spot). spot.text) (written_at rows es row.path))
placed-elements rows es k row leaf h =
    picked-by rows es k row h ∙ (ap (λ l. flat_map (spot-strings l) (written_at rows es row.path)) leaf ∙ element-strings (written_at rows es row.path))

pub placed-attributes : (rows : List Row) (es : List Entry) (k : ℕ) (row : Row) (local : List ℕ) → row.leaf ≡ leaves.Attribute local
    → ArePlaced (document_nodes (document_of rows es)) es row.path (places_at rows es row.path)
    → map (λ (pick : Pick). string_at (document_nodes (document_of rows es)) pick.node) (nodes_picked (document_nodes (document_of rows es)) k row)
    ≡ flat_map (λ (spot : Spot). filter is_full (values_named local spot.attributes))
    (filter (λ (spot : Spot). is_full spot.text) (written_at rows es row.path))
placed-attributes rows es k row local leaf h =
    picked-by rows es k row h ∙ (ap (λ l. flat_map (spot-strings l) (written_at rows es row.path)) leaf ∙ attribute-strings local (written_at rows es row.path))

pub elements-law : (rows : List Row) (es : List Entry) (k : ℕ) (row : Row) → row.leaf ≡ leaves.Element → stands_apart rows row.path ≡ true
    → map (λ (pick : Pick). string_at (document_nodes (document_of rows es)) pick.node) (nodes_picked (document_nodes (document_of rows es)) k row)
    ≡ filter is_full (map (λ (spot : Spot). spot.text) (written_at rows es row.path))
elements-law rows es k row leaf h = placed-elements rows es k row leaf (placed-at rows es row.path h)

pub attributes-law : (rows : List Row) (es : List Entry) (k : ℕ) (row : Row) (local : List ℕ) → row.leaf ≡ leaves.Attribute local →
    stands_apart rows row.path ≡ true
    → map (λ (pick : Pick). string_at (document_nodes (document_of rows es)) pick.node) (nodes_picked (document_nodes (document_of rows es)) k row)
    ≡ flat_map (λ (spot : Spot). filter is_full (values_named local spot.attributes))
    (filter (λ (spot : Spot). is_full spot.text) (written_at rows es row.path))
attributes-law rows es k row local leaf h = placed-attributes rows es k row local leaf (placed-at rows es row.path h)

-- ---- where terms don't stand in the invoice

pub elements-without : (gone : List Term) (rows : List Row) (es : List Entry) (k : ℕ) (row : Row) → holds_none gone es ≡ true → row.leaf ≡ leaves.Element →
    stands_apart_without gone rows row.path ≡ true
    → map (λ (pick : Pick). string_at (document_nodes (document_of rows es)) pick.node) (nodes_picked (document_nodes (document_of rows es)) k row)
    ≡ filter is_full (map (λ (spot : Spot). spot.text) (written_at rows es row.path))
elements-without gone rows es k row unheld leaf h = placed-elements rows es k row leaf (placed-without gone rows es row.path unheld h)

pub attributes-without : (gone : List Term) (rows : List Row) (es : List Entry) (k : ℕ) (row : Row) (local : List ℕ) → holds_none gone es ≡ true →
    row.leaf ≡ leaves.Attribute local → stands_apart_without gone rows row.path ≡ true
    → map (λ (pick : Pick). string_at (document_nodes (document_of rows es)) pick.node) (nodes_picked (document_nodes (document_of rows es)) k row)
    ≡ flat_map (λ (spot : Spot). filter is_full (values_named local spot.attributes))
    (filter (λ (spot : Spot). is_full spot.text) (written_at rows es row.path))
attributes-without gone rows es k row local unheld leaf h = placed-attributes rows es k row local leaf (placed-without gone rows es row.path unheld h)
