-- The leaves of a row by its own occurrences are those by all spots of its path's elements: at spots outside its groups it writes nothing.
use Rattle.std.proofs.Common.{◌≡◌, ℕ, Bool, true, false, ◌&&◌, ◌||◌, Option, Some, None, List, [], ◌∷◌, ◌++◌, flat_map, map, ◌⊎◌, inl, inr, refl, sym, ap, ◌∙◌}
use Rattle.std.proofs.Common.{subst}
use Rattle.std.specs.Prelude.{is_some, is_none, option_and_then}
use Rattle.std.specs.List.{list_any, list_all, range_with_len}
use Rattle.std.specs.Cmp.Lexicographic.{pointwise}
use Rattle.std.proofs.lemmas.Bool.{false≢true}
use Rattle.term_table.specs.declared.groups.Group.{Group}
use Rattle.term_table.specs.declared.terms.Term.{Term}
use Rattle.term_table.specs.declared.contexts.Slot.{Slot}
use Rattle.term_table.specs.declared.contexts.Context.{Context}
use Rattle.term_table.specs.Contexts.{root_context, slot_group, same_slot, same_context}
use Rattle.term_table.specs.Groups.{same_group}
use Rattle.term_table.specs.SemanticModel.{same_term}
use Rattle.term_table.proofs.SeatLemmas.{same_term_is}
use Rattle.inv_terms.specs.declared.values.Value.{Value}
use Rattle.inv_terms.specs.declared.entries.Entry.{Entry}
use Rattle.inv_terms.specs.Listing.{value_in, is_at, is_placed}
use Rattle.inv_terms.proofs.PushLemmas.{same_slot_is}
use Rattle.bind_rows.specs.declared.rows.Step.{Step}
use Rattle.bind_rows.specs.declared.rows.Row.{Row}
use Rattle.bind_rows.specs.declared.rows.Content.{Content}
use Rattle.bind_rows.specs.declared.rows.Content.TheVariants as contents
use Rattle.bind_rows.specs.declared.rows.Repeats.{Repeats}
use Rattle.bind_rows.specs.declared.rows.Repeats.TheVariants as repeat
use Rattle.bind_rows.specs.declared.rows.Written.{Written}
use Rattle.bind_rows.specs.declared.rows.Written.TheVariants as written
use Rattle.bind_rows.specs.Added.{is_typed}
use Rattle.bind_rows.specs.Same.{same_or_none}
use Rattle.bind_table.proofs.SameLemmas.{pointwise-sound, group-sound}
use Rattle.bind_table.proofs.PathLemmas.{group-itself}
use Rattle.bind_meaning.specs.Values.{form_for}
use Rattle.bind_meaning.specs.Writing.{term_text, value_for, filled, if_so, if_due, formed, of_form, slot_for, context_for, has_slots, writes_entry}
use Rattle.bind_meaning.specs.Trees.{spots, outer_spots, outer_count, or_here}
use Rattle.binding_laws.specs.Plain.{groups_of, listed, is_kept_apart, stands_nowhere_else}
use Rattle.binding_laws.proofs.PlainLemmas.{IsAtGroups, IsReachable, context-there, slots-at, found-value}
use Rattle.binding_laws.proofs.ReachLemmas.{Among}
use Rattle.binding_laws.proofs.ListLemmas.{append-nil, both-true, or-either, flat_map-each, flat_map-same, map-map}
use Rattle.address_laws.specs.AddressTrees.{Leaf}
use Rattle.address_laws.specs.Addresses.{Turn, turns, or_once, group_turns, turn_of, how_often, is_own, foreign_turns, row_turns, Way, through, ways, leaf_at}
use Rattle.address_laws.specs.Addresses.{under, leaves_at, entry_leaves, said_of_row}
use Rattle.address_laws.specs.Addressed.{is_spread_over, is_own_way, is_placeholder_kept, is_spread, row_fits}
use Rattle.address_laws.proofs.Orders.{In}
use Rattle.address_laws.proofs.Ways.{ways-step}
use Rattle.address_laws.proofs.Holding.{writes_below, or-false, or-true}
use Rattle.address_laws.proofs.Walks.{told_along, told_said, told_along-some}
use Rattle.address_laws.proofs.Constants.{none-of, any-alike, each-of_in}
use Rattle.address_laws.proofs.Emitted.{any-never}

-- ---- what a row with a term doesn't write

same_context_is : (a b : Context) → same_context a b ≡ true → a ≡ b
same_context_is a b h =
    let k = both-true (same_slot a.outer b.outer) (same_slot a.inner b.inner) h in
    λ i. record { outer = (same_slot_is a.outer b.outer k.0) i; inner = (same_slot_is a.inner b.inner k.1) i }

all-among : (q : Entry → Bool) (x : Entry) (es : List Entry) → list_all q es ≡ true → Among x es → q x ≡ true
all-among q x [] h a = absurd a
all-among q x (e ∷ es) h (inl s) = ap q (sym s) ∙ (both-true (q e) (list_all q es) h).0
all-among q x (e ∷ es) h (inr a) = all-among q x es (both-true (q e) (list_all q es) h).1 a

module _ (es : List Entry) (placed : list_all is_placed es ≡ true) where
  -- A term that has no other of these contexts has no value in them.
  value-none : (term : Term) (o i : Option Group) (c : Context) → stands_nowhere_else term o i ≡ true → IsReachable o i c → (IsAtGroups o i c → ⊥) →
      value_in es term c ≡ None
  value-none term o i c there reach never = go (value_in es term c) refl
    where
      go : (v : Option Value) → value_in es term c ≡ v → value_in es term c ≡ None
      go None h = h
      go (Some v) h =
          let w = found-value (is_at term c) es v h in
          let k = both-true (same_term w.entry.term term) (same_context w.entry.context c) w.passes in
          let at = same_context_is w.entry.context c k.1 in
          absurd (never (subst (IsAtGroups o i) at (context-there w.entry term o i (same_term_is w.entry.term term k.0)
          (all-among is_placed w.entry es placed w.among) there (subst (IsReachable o i) (sym at) reach))))

  filled-none : (row : Row) (w : Written) (c : Context) → is_placeholder_kept row w ≡ true → IsReachable row.outer row.inner c →
      (IsAtGroups row.outer row.inner c → ⊥) → filled w es c ≡ None
  filled-none row written.Always c h reach never = refl
  filled-none row written.Never c h reach never = refl
  filled-none row written.IfIban c h reach never = refl
  filled-none row written.IfNotIban c h reach never = refl
  filled-none row written.IfScheme c h reach never = refl
  filled-none row written.IfNoScheme c h reach never = refl
  filled-none row (written.OrPlaceholder placeholder) c h reach never =
      ap (λ (v : Option Value). if_so (is_some v) placeholder.text) (value-none placeholder.beside row.outer row.inner c h reach never)
  filled-none row written.VatTotal c h reach never = refl
  filled-none row written.AccountingVatTotal c h reach never = refl

  row-silent : (row : Row) (term : Term) (c : Context) → row.content ≡ contents.Term term → is_kept_apart row term ≡ true →
      is_placeholder_kept row row.written ≡ true
      → context_for row c ≡ c → IsReachable row.outer row.inner c → (IsAtGroups row.outer row.inner c → ⊥) → writes_entry row es c ≡ false
  row-silent row term c content apart placeholder own reach never =
      ap (λ x. is_some (text-by x)) content
      ∙ (ap (λ d. is_some (term_text row es term d)) own
      ∙ (ap (λ v. is_some (text-with v)) (unvalued (is_typed (form_for row.form term)) refl apart) ∙
      ap is_some (filled-none row row.written c placeholder reach never)))
    where
      text-by : Content → Option (List ℕ)
      text-by (contents.Term t) = term_text row es t (context_for row c)
      text-by (contents.Constant text) = None

      text-with : Option Value → Option (List ℕ)
      text-with v = elim v [ None ↦ filled row.written es c | Some value ↦ if_due row.written es term c (formed (form_for row.form term) es c value) ]

      valued : Bool → Bool → Option Value → Option Value
      valued typed slots o = elim typed [ true ↦ elim slots [ true ↦ option_and_then (of_form (form_for row.form term)) o | false ↦ None ] | false ↦ o ]

      slotless : (b : Bool) → has_slots row c ≡ b → valued true (has_slots row c) (value_in es term c) ≡ None
      slotless true h = absurd (never (slots-at row.outer row.inner c h reach))
      slotless false h = ap (λ b. valued true b (value_in es term c)) h

      unvalued : (typed : Bool) → is_typed (form_for row.form term) ≡ typed →
          (is_typed (form_for row.form term) || stands_nowhere_else term row.outer row.inner) ≡ true → value_for row es term c ≡ None
      unvalued true h k = ap (λ b. valued b (has_slots row c) (value_in es term c)) h ∙ slotless (has_slots row c) refl
      unvalued false h k =
          ap (λ b. valued b (has_slots row c) (value_in es term c)) h
          ∙ value-none term row.outer row.inner c (sym (ap (λ b. b || stands_nowhere_else term row.outer row.inner) h) ∙ k) reach never

-- ---- the occurrences of a row's elements

leaves-step : (es : List Entry) (row : Row) (s : Step) (t : Turn) (w : Way) → leaves_at es row (through s t w) ≡ map (under s t) (leaves_at es row w)
leaves-step es row s t w = sym (map-map (under s t) (leaf_at w.address) (said_of_row es row w.context w.last))

module _ (es : List Entry) (row : Row) (term : Term) (content : row.content ≡ contents.Term term) where
  abbrev row_leaves_on : Option Step → Context → List Step → List Leaf
  row_leaves_on last c path = flat_map (leaves_at es row) (ways (row_turns es row) last c path)

  told-here : (last : Option Step) (c : Context) → told_along es last c [] row ≡ flat_map (leaves_at es row) (ways (row_turns es row) last c [])
  told-here last c = ap (λ x. map (leaf_at []) (told_said es x last c row)) content ∙ sym (append-nil (map (leaf_at []) (said_of_row es row c last)))

  row-step : (last : Option Step) (c : Context) (s : Step) (path : List Step)
      → flat_map (leaves_at es row) (ways (row_turns es row) last c (s ∷ path))
      ≡ flat_map (λ (t : Turn). map (under s t) (flat_map (leaves_at es row) (ways (row_turns es row) (Some s) t.context path))) (row_turns es row c s.group)
  row-step last c s path = ways-step (leaves_at es row) s (λ t. ways (row_turns es row) (Some s) t.context path) (λ t w. leaves-step es row s t w)
      (row_turns es row c s.group)

  -- a row that is spread goes wherever its elements are written
  pub told-spread : ((c : Context) (group : Option Group) → turns es c group ≡ row_turns es row c group) → (last : Option Step) (c : Context) (path : List Step)
      → told_along es last c path row ≡ flat_map (leaves_at es row) (ways (row_turns es row) last c path)
  told-spread same last c [] = told-here last c
  told-spread same last c (s ∷ path) =
      flat_map-same (λ (t : Turn). map (under s t) (told_along es (Some s) t.context path row))
      (λ (t : Turn). map (under s t) (flat_map (leaves_at es row) (ways (row_turns es row) (Some s) t.context path)))
      (λ t. ap (map (under s t)) (told-spread same (Some s) t.context path)) (turns es c s.group)
      ∙ (ap (flat_map (λ (t : Turn). map (under s t) (flat_map (leaves_at es row) (ways (row_turns es row) (Some s) t.context path)))) (same c s.group) ∙
      sym (row-step last c s path))

  -- Where a group of the row's stands nowhere in a context, the row writes nothing below it.
  abbrev HushBy : Option Group → Context → Bool → (Context → Type 0) → Type 0
  HushBy None c w further = further c
  HushBy (Some f) c w further = (is_own row f ≡ true) ×
      ((group_turns es c.outer f ≡ [] → w ≡ false) × ((t : Turn) → In t (group_turns es c.outer f) → further t.context))

  abbrev Hush : List Step → Context → Type 0
  Hush [] c = Unit {0}
  Hush (s ∷ path) c = HushBy s.group c (writes_below es path row c) (λ d. Hush path d)

  pub told-own : (last : Option Step) (c : Context) (path : List Step) → Hush path c →
      told_along es last c path row ≡ flat_map (leaves_at es row) (ways (row_turns es row) last c path)
  told-own last c [] h = told-here last c
  told-own last c (s ∷ path) h = go s.group (λ d k. told-own (Some s) d path k) h ∙ sym (row-step last c s path)
    where
      old : Turn → List Leaf
      old t = map (under s t) (told_along es (Some s) t.context path row)

      new : Turn → List Leaf
      new t = map (under s t) (flat_map (leaves_at es row) (ways (row_turns es row) (Some s) t.context path))

      go : (group : Option Group) → ((d : Context) → Hush path d →
          told_along es (Some s) d path row ≡ flat_map (leaves_at es row) (ways (row_turns es row) (Some s) d path))
          → HushBy group c (writes_below es path row c) (λ d. Hush path d)
          → flat_map (λ (t : Turn). map (under s t) (told_along es (Some s) t.context path row)) (turns es c group)
          ≡ flat_map (λ (t : Turn). map (under s t) (flat_map (leaves_at es row) (ways (row_turns es row) (Some s) t.context path))) (row_turns es row c group)
      go None ih h = ap (λ l. map (under s (record { occurrence = 1; context = c })) l ++ []) (ih c h)
      go (Some f) ih h =
          by (group_turns es c.outer f) refl
          ∙ ap (λ b. flat_map (λ (t : Turn). map (under s t) (flat_map (leaves_at es row) (ways (row_turns es row) (Some s) t.context path))) (row-by b))
          (sym h.0)
        where
          row-by : Bool → List Turn
          row-by true = group_turns es c.outer f
          row-by false = foreign_turns es row.repeats c f

          by : (ts : List Turn) → group_turns es c.outer f ≡ ts
              → flat_map (λ (t : Turn). map (under s t) (told_along es (Some s) t.context path row)) (or_once c (group_turns es c.outer f))
              ≡ flat_map (λ (t : Turn). map (under s t) (flat_map (leaves_at es row) (ways (row_turns es row) (Some s) t.context path)))
              (group_turns es c.outer f)
          by [] e =
              ap (λ ts. flat_map (λ (t : Turn). map (under s t) (told_along es (Some s) t.context path row)) (or_once c ts)) e
              ∙ (ap (λ l. map (under s (record { occurrence = 1; context = c })) l ++ [])
              (none-of (told_along es (Some s) c path row) (told_along-some es (Some s) c path row ∙ h.1.0 e))
              ∙ ap (flat_map (λ (t : Turn). map (under s t) (flat_map (leaves_at es row) (ways (row_turns es row) (Some s) t.context path)))) (sym e))
          by (t ∷ ts) e =
              ap (λ us. flat_map (λ (t : Turn). map (under s t) (told_along es (Some s) t.context path row)) (or_once c us)) e
              ∙ (flat_map-each (λ (t : Turn). map (under s t) (told_along es (Some s) t.context path row))
              (λ (t : Turn). map (under s t) (flat_map (leaves_at es row) (ways (row_turns es row) (Some s) t.context path))) (t ∷ ts)
              (each-of_in (λ (u : Turn). map (under s u) (told_along es (Some s) u.context path row) ≡ map (under s u)
              (flat_map (leaves_at es row) (ways (row_turns es row) (Some s) u.context path))) (t ∷ ts)
              (λ u k. ap (map (under s u)) (ih u.context (h.1.1 u (subst (In u) (sym e) k)))))
              ∙ ap (flat_map (λ (t : Turn). map (under s t) (flat_map (leaves_at es row) (ways (row_turns es row) (Some s) t.context path)))) (sym e))

-- ---- the elements of a row's groups

abbrev groups-by : List Group → Option Group → List Group
groups-by gs None = gs
groups-by gs (Some g) = g ∷ gs

first-is : {A : Type 0} (x y : A) (xs ys : List A) → x ∷ xs ≡ y ∷ ys → x ≡ y
first-is x y xs ys e = cc

others-are : {A : Type 0} (x y : A) (xs ys : List A) → x ∷ xs ≡ y ∷ ys → xs ≡ ys
others-are x y xs ys e = cc

not-empty : {A : Type 0} (x : A) (xs : List A) → x ∷ xs ≡ [] → ⊥
not-empty x xs e = cc

no-slot : (g : Group) (o : Option Group) → None ≡ o → o ≡ Some g → ⊥
no-slot g o e f = let z : ◌≡◌ {A = Option Group} None (Some g) = e ∙ f in cc

in-map-is : {A B : Type 0} (f : A → B) (b : B) (xs : List A) → In b (map f xs) → (a : A) × (b ≡ f a)
in-map-is f b [] k = elim k [ ]
in-map-is f b (x ∷ xs) (inl e) = (x, e)
in-map-is f b (x ∷ xs) (inr k) = in-map-is f b xs k

in-or_here : (c d : Context) (ds : List Context) → In d (or_here c ds) → (d ≡ c) ⊎ In d ds
in-or_here c d [] (inl e) = inl e
in-or_here c d [] (inr k) = elim k [ ]
in-or_here c d (x ∷ ds) k = inr k

module _ (es : List Entry) (row : Row) (term : Term) (content : row.content ≡ contents.Term term) where
  free-writes : (path : List Step) (c : Context) → groups_of path ≡ [] → writes_below es path row c ≡ writes_entry row es c
  free-writes [] c e = refl
  free-writes (s ∷ path) c e = go s.group (free-writes path c) e
    where
      go : (group : Option Group) → (groups_of path ≡ [] → writes_below es path row c ≡ writes_entry row es c) → groups-by (groups_of path) group ≡ []
          → list_any (writes_below es path row) (spots es c group) ≡ writes_entry row es c
      go None ih e = or-false (writes_below es path row c) ∙ ih e
      go (Some g) ih e = absurd (not-empty g (groups_of path) e)

  free-hush : (path : List Step) (c : Context) → groups_of path ≡ [] → Hush es row term content path c
  free-hush [] c e = tt
  free-hush (s ∷ path) c e = go s.group (free-hush path) e
    where
      go : (group : Option Group) → ((d : Context) → groups_of path ≡ [] → Hush es row term content path d) → groups-by (groups_of path) group ≡ []
          → HushBy es row term content group c (writes_below es path row c) (λ d. Hush es row term content path d)
      go None ih e = ih c e
      go (Some g) ih e = absurd (not-empty g (groups_of path) e)

  below-one : (g : Group) (path : List Step) (c : Context) → groups_of path ≡ g ∷ [] →
      ((d : Context) → In d (spots es c (Some g)) → writes_entry row es d ≡ false) → writes_below es path row c ≡ false
  below-one g [] c e h = absurd (not-empty g [] (sym e))
  below-one g (s ∷ path) c e h = go s.group (λ k. below-one g path c k h) e
    where
      go : (group : Option Group) → (groups_of path ≡ g ∷ [] → writes_below es path row c ≡ false) → groups-by (groups_of path) group ≡ g ∷ []
          → list_any (writes_below es path row) (spots es c group) ≡ false
      go None ih e = or-false (writes_below es path row c) ∙ ih e
      go (Some f) ih e =
          let same : f ≡ g = first-is f g (groups_of path) [] e in
          let free : groups_of path ≡ [] = others-are f g (groups_of path) [] e in
          any-alike (writes_below es path row) (λ d. false) (spots es c (Some f)) (each-of_in (λ d. writes_below es path row d ≡ false) (spots es c (Some f))
          (λ d k. free-writes path d free ∙ h d (subst (λ x. In d (spots es c (Some x))) same k))) ∙ any-never (spots es c (Some f))

  one-hush : (f : Group) (path : List Step) (c : Context) → groups_of path ≡ f ∷ [] → is_own row f ≡ true → writes_entry row es c ≡ false →
      Hush es row term content path c
  one-hush f [] c e o h = tt
  one-hush f (s ∷ path) c e o h = go s.group (λ k. one-hush f path c k o h) e
    where
      go : (group : Option Group) → (groups_of path ≡ f ∷ [] → Hush es row term content path c) → groups-by (groups_of path) group ≡ f ∷ []
          → HushBy es row term content group c (writes_below es path row c) (λ d. Hush es row term content path d)
      go None ih e = ih e
      go (Some g) ih e =
          let same : g ≡ f = first-is g f (groups_of path) [] e in
          let free : groups_of path ≡ [] = others-are g f (groups_of path) [] e in
          (subst (λ x. is_own row x ≡ true) (sym same) o, ((λ k. free-writes path c free ∙ h), (λ t k. free-hush path t.context free)))

  two-hush : (f g : Group) (path : List Step) (c : Context) → groups_of path ≡ f ∷ (g ∷ []) → is_own row f ≡ true → is_own row g ≡ true
      → ((d : Context) → In d (spots es c (Some g)) → writes_entry row es d ≡ false) →
      ((t : Turn) → In t (group_turns es c.outer f) → writes_entry row es t.context ≡ false)
      → Hush es row term content path c
  two-hush f g [] c e o q h k = tt
  two-hush f g (s ∷ path) c e o q h k = go s.group (λ m. two-hush f g path c m o q h k) e
    where
      go : (group : Option Group) → (groups_of path ≡ f ∷ (g ∷ []) → Hush es row term content path c) → groups-by (groups_of path) group ≡ f ∷ (g ∷ [])
          → HushBy es row term content group c (writes_below es path row c) (λ d. Hush es row term content path d)
      go None ih e = ih e
      go (Some x) ih e =
          let same : x ≡ f = first-is x f (groups_of path) (g ∷ []) e in
          let one : groups_of path ≡ g ∷ [] = others-are x f (groups_of path) (g ∷ []) e in (
            subst (λ y. is_own row y ≡ true) (sym same) o,
            ((λ m. below-one g path c one h), (λ t m. one-hush g path t.context one q (k t (subst (λ y. In t (group_turns es c.outer y)) same m)))),
          )

-- ---- rows that fit

module _ (es : List Entry) (placed : list_all is_placed es ≡ true) (row : Row) (term : Term) (content : row.content ≡ contents.Term term)
    (apart : is_kept_apart row term ≡ true)
    (placeholder : is_placeholder_kept row row.written ≡ true) where
  silent : (c : Context) → context_for row c ≡ c → IsReachable row.outer row.inner c → (IsAtGroups row.outer row.inner c → ⊥) → writes_entry row es c ≡ false
  silent c own reach never = row-silent es placed row term c content apart placeholder own reach never

  own-root : (f : Group) → row.outer ≡ Some f → (i : Option Group) → row.inner ≡ i → context_for row root_context ≡ root_context
  own-root f o i e =
      (λ z. record { outer = slot_for (o z) None; inner = slot_for (e z) None }) ∙ go i
    where
      go : (i : Option Group) → ◌≡◌ {A = Context} (record { outer = None; inner = slot_for i None }) root_context
      go None = refl
      go (Some g) = refl

  silent-root : (f : Group) → row.outer ≡ Some f → writes_entry row es root_context ≡ false
  silent-root f o = silent root_context (own-root f o row.inner refl) (inr (inl (refl, refl))) (λ at. no-slot f row.outer at.0 o)

  silent-outer : (f g : Group) (slot : Slot) → row.outer ≡ Some f → row.inner ≡ Some g → slot_group (Some slot) ≡ row.outer ⊎ slot_group (Some slot) ≡ row.inner
      → writes_entry row es (record { outer = Some slot; inner = None }) ≡ false
  silent-outer f g slot o i (inl e) =
      silent (record { outer = Some slot; inner = None }) (λ z. record { outer = slot_for (o z) (Some slot); inner = slot_for (i z) None })
      (inr (inr (inl (e, refl)))) (λ at. no-slot g row.inner at.1 i)
  silent-outer f g slot o i (inr e) =
      silent (record { outer = Some slot; inner = None }) (λ z. record { outer = slot_for (o z) (Some slot); inner = slot_for (i z) None })
      (inr (inr (inr (e, refl)))) (λ at. no-slot g row.inner at.1 i)

  own-outer : (f : Group) → row.outer ≡ Some f → is_own row f ≡ true
  own-outer f o = ap (λ x. same_or_none x (Some f) || same_or_none row.inner (Some f)) o ∙
      ap (λ b. b || same_or_none row.inner (Some f)) (group-itself (Some f))

  own-inner : (g : Group) → row.inner ≡ Some g → is_own row g ≡ true
  own-inner g i = ap (λ x. same_or_none row.outer (Some g) || same_or_none x (Some g)) i ∙
      (ap (λ b. same_or_none row.outer (Some g) || b) (group-itself (Some g)) ∙ or-true (same_or_none row.outer (Some g)))

  own-hush : (o i : Option Group) → row.outer ≡ o → row.inner ≡ i → groups_of row.path ≡ listed o ++ listed i → (is_some o || is_none i) ≡ true →
      Hush es row term content row.path root_context
  own-hush None None o i e n = free-hush es row term content row.path root_context e
  own-hush None (Some g) o i e n = absurd (false≢true n)
  own-hush (Some f) None o i e n = one-hush es row term content f row.path root_context e (own-outer f o) (silent-root f o)
  own-hush (Some f) (Some g) o i e n = two-hush es row term content f g row.path root_context e (own-outer f o) (own-inner g i) below turned
    where
      below : (d : Context) → In d (spots es root_context (Some g)) → writes_entry row es d ≡ false
      below d k = by (in-or_here root_context d (outer_spots g (outer_count es g)) k)
        where
          by : (d ≡ root_context) ⊎ In d (outer_spots g (outer_count es g)) → writes_entry row es d ≡ false
          by (inl q) = ap (writes_entry row es) q ∙ silent-root f o
          by (inr q) =
              let w = in-map-is (λ (k : ℕ). record { outer = Some (record { group = g; index = k }); inner = None }) d
              (range_with_len 1 (outer_count es g)) q in
              ap (writes_entry row es) w.1 ∙ silent-outer f g (record { group = g; index = w.0 }) o i (inr (sym i))

      turned : (t : Turn) → In t (group_turns es None f) → writes_entry row es t.context ≡ false
      turned t k =
          let w = in-map-is (turn_of None f) t (range_with_len 1 (how_often es None f)) k in
          ap (λ (u : Turn). writes_entry row es u.context) w.1 ∙ silent-outer f g (record { group = f; index = w.0 }) o i (inl (sym o))

spread-turns : (es : List Entry) (row : Row) → is_spread_over row ≡ true → (c : Context) (group : Option Group) → turns es c group ≡ row_turns es row c group
spread-turns es row h c None = refl
spread-turns es row h c (Some g) =
    let a = both-true (is_spread row.repeats) (is_none row.outer && is_none row.inner) h in
    let b = both-true (is_none row.outer) (is_none row.inner) a.1 in
    sym (ap row-by (own row.outer row.inner b.0 b.1) ∙ foreign row.repeats a.0)
  where
    row-by : Bool → List Turn
    row-by true = group_turns es c.outer g
    row-by false = foreign_turns es row.repeats c g

    own : (o i : Option Group) → is_none o ≡ true → is_none i ≡ true → (same_or_none o (Some g) || same_or_none i (Some g)) ≡ false
    own None None p q = refl
    own None (Some x) p q = absurd (false≢true q)
    own (Some x) i p q = absurd (false≢true p)

    foreign : (r : Repeats) → is_spread r ≡ true → foreign_turns es r c g ≡ or_once c (group_turns es c.outer g)
    foreign repeat.Spread p = refl
    foreign repeat.Once p = absurd (false≢true p)
    foreign repeat.Agreeing p = absurd (false≢true p)

-- the leaves of a row that fits, at all spots of its path's elements, are those of entries
pub row-told : (es : List Entry) → list_all is_placed es ≡ true → (row : Row) (term : Term) → row.content ≡ contents.Term term → row_fits row ≡ true
    → told_along es None root_context row.path row ≡ entry_leaves es row
row-told es placed row term content h = by (or-either (is_spread_over row) (is_own_way row term) (sym (ap fits-by content) ∙ h))
  where
    fits-by : Content → Bool
    fits-by (contents.Term t) = is_spread_over row || is_own_way row t
    fits-by (contents.Constant text) = true

    by : (is_spread_over row ≡ true) ⊎ (is_own_way row term ≡ true) → told_along es None root_context row.path row ≡ entry_leaves es row
    by (inl e) = told-spread es row term content (spread-turns es row e) None root_context row.path
    by (inr e) =
        let a = both-true (pointwise same_group (groups_of row.path) (listed row.outer ++ listed row.inner)) _ e in
        let b = both-true (is_some row.outer || is_none row.inner) _ a.1 in
        let k = both-true (is_kept_apart row term) (is_placeholder_kept row row.written) b.1 in
        told-own es row term content None root_context row.path
        (own-hush es placed row term content k.0 k.1 row.outer row.inner refl refl
        (pointwise-sound same_group group-sound (groups_of row.path) (listed row.outer ++ listed row.inner) a.0) b.0)
