-- A line is written in each context in which its row writes something.
use Rattle.std.proofs.Common.{◌≡◌, Bool, true, false, ◌||◌, List, [], ◌∷◌, ◌++◌, map, filter, flat_map, Some, ◌⊎◌, inl, inr, refl, sym, ap, ◌∙◌, subst}
use Rattle.std.specs.Prelude.{if◌then◌else◌}
use Rattle.std.specs.List.{list_all, list_any}
use Rattle.std.proofs.lemmas.Bool.{false≢true}
use Rattle.term_table.specs.declared.groups.Group.{Group}
use Rattle.term_table.specs.declared.contexts.Context.{Context}
use Rattle.inv_terms.specs.declared.entries.Entry.{Entry}
use Rattle.bind_rows.specs.declared.rows.Step.{Step}
use Rattle.bind_rows.specs.declared.rows.Row.{Row}
use Rattle.bind_rows.specs.Same.{same_step}
use Rattle.bind_table.specs.Lines.{Cell, Plan, nothing, a_line}
use Rattle.bind_table.proofs.SameLemmas.{step-sound}
use Rattle.bind_meaning.specs.Writing.{writes_entry}
use Rattle.bind_meaning.specs.Trees.{spots, either, cells_hold, holds, line_holds, is_due, is_emitted, holds_further, attributes, is_at_element, element_text}
use Rattle.binding_laws.specs.Written.{Spot, emitted, at_end, spots_below}
use Rattle.binding_laws.specs.Plain.{groups_of, rows_at}
use Rattle.binding_laws.proofs.TreeLemmas.{Each}
use Rattle.binding_laws.proofs.ContextLemmas.{each-flat_map, all-each, no-groups, some-group}
use Rattle.binding_laws.proofs.ListLemmas.{append-nil, both-true}
use Rattle.binding_laws.proofs.CellLemmas.{own_text, text-by-rows}

-- ---- membership, by recursion

abbrev pub Among : {X : Type 0} → X → List X → Type 0
Among x [] = ⊥
Among x (y ∷ ys) = (y ≡ x) ⊎ Among x ys

pub among-front : {X : Type 0} (x : X) (xs ys : List X) → Among x xs → Among x (xs ++ ys)
among-front x [] ys h = absurd h
among-front x (y ∷ xs) ys (inl e) = inl e
among-front x (y ∷ xs) ys (inr h) = inr (among-front x xs ys h)

pub among-back : {X : Type 0} (x : X) (xs ys : List X) → Among x ys → Among x (xs ++ ys)
among-back x [] ys h = h
among-back x (y ∷ xs) ys h = inr (among-back x xs ys h)

pub among-split : {X : Type 0} (x : X) (xs ys : List X) → Among x (xs ++ ys) → Among x xs ⊎ Among x ys
among-split x [] ys h = inr h
among-split x (y ∷ xs) ys (inl e) = inl (inl e)
among-split x (y ∷ xs) ys (inr h) = elim (among-split x xs ys h) [ inl a ↦ inl (inr a) | inr b ↦ inr b ]

pub among-flat_map : {X Y : Type 0} (f : X → List Y) (x : X) (y : Y) (xs : List X) → Among x xs → Among y (f x) → Among y (flat_map f xs)
among-flat_map f x y [] h k = absurd h
among-flat_map f x y (z ∷ xs) (inl e) k = among-front y (f z) (flat_map f xs) (subst (λ v. Among y (f v)) (sym e) k)
among-flat_map f x y (z ∷ xs) (inr h) k = among-back y (f z) (flat_map f xs) (among-flat_map f x y xs h k)

pub among-filter : {X : Type 0} (p : X → Bool) (x : X) (xs : List X) → p x ≡ true → Among x xs → Among x (filter p xs)
among-filter p x [] e h = absurd h
among-filter p x (y ∷ xs) e (inl s) = subst (λ b. Among x (if b then y ∷ filter p xs else filter p xs)) (sym (ap p s ∙ e)) (inl s)
among-filter p x (y ∷ xs) e (inr h) = go (p y) (among-filter p x xs e h)
  where
    go : (b : Bool) → Among x (filter p xs) → Among x (if b then y ∷ filter p xs else filter p xs)
    go true k = inr k
    go false k = k

pub among-map : {X Y : Type 0} (f : X → Y) (x : X) (xs : List X) → Among x xs → Among (f x) (map f xs)
among-map f x [] h = absurd h
among-map f x (y ∷ xs) (inl e) = inl (ap f e)
among-map f x (y ∷ xs) (inr h) = inr (among-map f x xs h)

pub any-among : {X : Type 0} (p : X → Bool) (x : X) (xs : List X) → p x ≡ true → Among x xs → list_any p xs ≡ true
any-among p x [] e h = absurd h
any-among p x (y ∷ xs) e (inl s) = ap (λ b. b || list_any p xs) (ap p s ∙ e)
any-among p x (y ∷ xs) e (inr h) = ap (λ b. p y || b) (any-among p x xs e h) ∙ or-true (p y)
  where
    or-true : (b : Bool) → (b || true) ≡ true
    or-true true = refl
    or-true false = refl

pub any-is : {X : Type 0} (p : X → Bool) (xs : List X) → list_any p xs ≡ true → (x : X) × (Among x xs × (p x ≡ true))
any-is p [] h = absurd (false≢true h)
any-is {X = X} p (y ∷ xs) h = go (any-is p xs) (p y) refl h
  where
    go : (list_any p xs ≡ true → (x : X) × (Among x xs × (p x ≡ true))) → (b : Bool) → p y ≡ b → (b || list_any p xs) ≡ true → (x : X) ×
        (((y ≡ x) ⊎ Among x xs) × (p x ≡ true))
    go later true e k = (y, (inl refl, e))
    go later false e k = let w = later k in (w.0, (inr w.1.0, w.1.1))

pub all-is : {X : Type 0} (p : X → Bool) (xs : List X) (x : X) → list_all p xs ≡ true → Among x xs → p x ≡ true
all-is p [] x h a = absurd a
all-is p (y ∷ xs) x h (inl s) = ap p (sym s) ∙ (both-true (p y) (list_all p xs) h).0
all-is p (y ∷ xs) x h (inr a) = all-is p xs x (both-true (p y) (list_all p xs) h).1 a

pub none-is : {X : Type 0} (p : X → Bool) (xs : List X) (x : X) → list_any p xs ≡ false → Among x xs → p x ≡ false
none-is p [] x h a = absurd a
none-is p (y ∷ xs) x h (inl s) = ap p (sym s) ∙ first (p y) (list_any p xs) h
  where
    first : (a b : Bool) → (a || b) ≡ false → a ≡ false
    first true b k = absurd (false≢true (sym k))
    first false b k = refl
none-is p (y ∷ xs) x h (inr a) = none-is p xs x (second (p y) (list_any p xs) h) a
  where
    second : (a b : Bool) → (a || b) ≡ false → b ≡ false
    second true b k = absurd (false≢true (sym k))
    second false b k = k

-- ---- the way to a context

module _ (es : List Entry) where
  -- Along the path one comes from the first context to the second.
  abbrev pub Leads : List Step → Context → Context → Type 0
  Leads [] c d = c ≡ d
  Leads (s ∷ path) c d = (b : Context) × (Among b (spots es c s.group)) × Leads path b d

  pub leads-on : (path : List Step) (c : Context) → groups_of path ≡ [] → Leads path c c
  leads-on [] c h = refl
  leads-on (s ∷ path) c h =
      let k = no-groups s path h in
      (c, subst (λ o. Among c (spots es c o)) (sym k.0) (inl refl), leads-on path c k.1)

  pub leads-in : (path : List Step) (c d : Context) (g : Group) → groups_of path ≡ g ∷ [] → Among d (spots es c (Some g)) → Leads path c d
  leads-in [] c d g h a = absurd (let z : ◌≡◌ {A = List Group} [] (g ∷ []) = h in cc)
  leads-in (s ∷ path) c d g h a = elim (some-group s path g [] h) [
    | inl w ↦ (c, subst (λ o. Among c (spots es c o)) (sym w.0) (inl refl), leads-in path c d g w.1 a)
    | inr w ↦ (d, subst (λ o. Among d (spots es c o)) (sym w.0) a, leads-on path d w.1)
  ]

  pub leads-through : (path : List Step) (c b d : Context) (g i : Group) → groups_of path ≡ g ∷ (i ∷ []) → Among b (spots es c (Some g)) →
      Among d (spots es b (Some i)) → Leads path c d
  leads-through [] c b d g i h a k = absurd (let z : ◌≡◌ {A = List Group} [] (g ∷ (i ∷ [])) = h in cc)
  leads-through (s ∷ path) c b d g i h a k = elim (some-group s path g (i ∷ []) h) [
    | inl w ↦ (c, subst (λ o. Among c (spots es c o)) (sym w.0) (inl refl), leads-through path c b d g i w.1 a k)
    | inr w ↦ (b, subst (λ o. Among b (spots es c o)) (sym w.0) a, leads-in path b d i w.1 k)
  ]

-- ---- what is written of the row alone

module _ (es : List Entry) (row : Row) where
  abbrev HasOwn : Spot → Type 0
  HasOwn spot = spot.text ≡ own_text es spot.context row

  pub own-texts : (plan : Plan) (path : List Step) (held : Bool) (c : Context) → rows_at is_at_element plan path ≡ row ∷ [] →
      Each (λ (spot : Spot). spot.text ≡ own_text es spot.context row) (spots_below es plan path held c)
  own-texts nothing path held c h = tt
  own-texts (a_line t cells inside rest) [] held c h = tt
  own-texts (a_line t cells inside rest) (s ∷ path) held c h =
      go (λ q d. own-texts inside q (holds_further es cells inside held d) d) (own-texts rest (s ∷ path) held c) (same_step s t) h
    where
      here : ((q : List Step) (d : Context) → rows_at is_at_element inside q ≡ row ∷ [] →
          Each (λ (spot : Spot). spot.text ≡ own_text es spot.context row) (spots_below es inside q (holds_further es cells inside held d) d))
          → (path : List Step) → (elim path [
            | [] ↦ map (λ (cell : Cell). cell.row) (filter is_at_element cells)
            | (u ∷ further) ↦ rows_at is_at_element inside (u ∷ further)
          ]) ≡ row ∷ [] → (d : Context)
          → Each (λ (spot : Spot). spot.text ≡ own_text es spot.context row)
          (at_end path (record { context = d; attributes = attributes es t cells d; text = element_text es cells d })
          (spots_below es inside path (holds_further es cells inside held d) d))
      here inner [] k d = (text-by-rows es d cells ∙ (ap (flat_map (own_text es d)) k ∙ append-nil (own_text es d row)), tt)
      here inner (u ∷ us) k d = inner (u ∷ us) d k

      go : ((q : List Step) (d : Context) → rows_at is_at_element inside q ≡ row ∷ [] →
          Each (λ (spot : Spot). spot.text ≡ own_text es spot.context row) (spots_below es inside q (holds_further es cells inside held d) d))
          → (rows_at is_at_element rest (s ∷ path) ≡ row ∷ [] →
          Each (λ (spot : Spot). spot.text ≡ own_text es spot.context row) (spots_below es rest (s ∷ path) held c))
          → (b : Bool) → (elim b [
            | true ↦ elim path [
              | [] ↦ map (λ (cell : Cell). cell.row) (filter is_at_element cells)
              | (u ∷ further) ↦ rows_at is_at_element inside (u ∷ further)
            ]
            | false ↦ rows_at is_at_element rest (s ∷ path)
          ]) ≡ row ∷ []
          → Each (λ (spot : Spot). spot.text ≡ own_text es spot.context row) (elim b [
            | true ↦ flat_map (λ d. at_end path (record { context = d; attributes = attributes es t cells d; text = element_text es cells d })
                (spots_below es inside path (holds_further es cells inside held d) d)) (emitted es t cells inside held c)
            | false ↦ spots_below es rest (s ∷ path) held c
          ])
      go inner later true k =
          each-flat_map (λ (spot : Spot). spot.text ≡ own_text es spot.context row)
          (λ d. at_end path (record { context = d; attributes = attributes es t cells d; text = element_text es cells d })
          (spots_below es inside path (holds_further es cells inside held d) d))
          (emitted es t cells inside held c) (all-each _ (emitted es t cells inside held c) (here inner path k))
      go inner later false k = later k

  either-first : (a : Bool) (b : Unit {0} → Bool) → a ≡ true → either a b ≡ true
  either-first a b e = ap (λ x. either x b) e

  either-second : (a : Bool) (b : Unit {0} → Bool) → b tt ≡ true → either a b ≡ true
  either-second true b e = refl
  either-second false b e = e

  row-in-cells : (cells : List Cell) (d : Context) → map (λ (cell : Cell). cell.row) (filter is_at_element cells) ≡ row ∷ [] → writes_entry row es d ≡ true →
      cells_hold es cells d ≡ true
  row-in-cells [] d e w = absurd (let z : ◌≡◌ {A = List Row} [] (row ∷ []) = e in cc)
  row-in-cells (cell ∷ cells) d e w = go (λ k. row-in-cells cells d k w) (is_at_element cell) e
    where
      or-true : (b : Bool) → (b || true) ≡ true
      or-true true = refl
      or-true false = refl

      go : (map (λ (x : Cell). x.row) (filter is_at_element cells) ≡ row ∷ [] → cells_hold es cells d ≡ true) → (b : Bool) →
          map (λ (x : Cell). x.row) (if b then cell ∷ filter is_at_element cells else filter is_at_element cells) ≡ row ∷ [] →
          (writes_entry cell.row es d || cells_hold es cells d) ≡ true
      go later true k =
          let same : cell.row ≡ row = let z : cell.row ∷ map (λ (x : Cell). x.row) (filter is_at_element cells) ≡ row ∷ [] = k in cc in
          ap (λ x. writes_entry x es d || cells_hold es cells d) same ∙ ap (λ b. b || cells_hold es cells d) w
      go later false k = ap (λ b. writes_entry cell.row es d || b) (later k) ∙ or-true (writes_entry cell.row es d)

  abbrev AreIn : Context → List Spot → Type 0
  AreIn d spots = Among d (map (λ (spot : Spot). spot.context) spots)

  among-spots : (f : Context → List Spot) (b d : Context) (ds : List Context) → Among b ds → Among d (map (λ (spot : Spot). spot.context) (f b)) →
      Among d (map (λ (spot : Spot). spot.context) (flat_map f ds))
  among-spots f b d [] h k = absurd h
  among-spots f b d (a ∷ ds) h k = subst (Among d) (sym (map-append (f a) (flat_map f ds))) (go (λ m. among-spots f b d ds m k) h)
    where
      map-append : (xs ys : List Spot) → map (λ (spot : Spot). spot.context) (xs ++ ys) ≡ map (λ (spot : Spot). spot.context) xs ++
          map (λ (spot : Spot). spot.context) ys
      map-append [] ys = refl
      map-append (x ∷ xs) ys = ap (λ l. x.context ∷ l) (map-append xs ys)

      go : (Among b ds → Among d (map (λ (spot : Spot). spot.context) (flat_map f ds))) → (a ≡ b) ⊎ Among b ds →
          Among d (map (λ (spot : Spot). spot.context) (f a) ++ map (λ (spot : Spot). spot.context) (flat_map f ds))
      go later (inl e) = among-front d _ _ (subst (λ x. Among d (map (λ (spot : Spot). spot.context) (f x))) (sym e) k)
      go later (inr m) = among-back d (map (λ (spot : Spot). spot.context) (f a)) _ (later m)

  pub reached : (plan : Plan) (s : Step) (path : List Step) (held : Bool) (c d : Context) → rows_at is_at_element plan (s ∷ path) ≡ row ∷ [] →
      Leads es (s ∷ path) c d → writes_entry row es d ≡ true
      → (holds es plan c ≡ true) × Among d (map (λ (spot : Spot). spot.context) (spots_below es plan (s ∷ path) held c))
  reached nothing s path held c d h w e = absurd (let z : ◌≡◌ {A = List Row} [] (row ∷ []) = h in cc)
  reached (a_line t cells inside rest) s path held c d h w e =
      go (λ u us b k l. reached inside u us (holds_further es cells inside held b) b d k l e) (λ k. reached rest s path held c d k w e) (same_step s t) refl h
    where
      here : ((u : Step) (us : List Step) (b : Context) → rows_at is_at_element inside (u ∷ us) ≡ row ∷ [] → Leads es (u ∷ us) b d
          → (holds es inside b ≡ true) ×
          Among d (map (λ (spot : Spot). spot.context) (spots_below es inside (u ∷ us) (holds_further es cells inside held b) b)))
          → (path : List Step) → (elim path [
            | [] ↦ map (λ (cell : Cell). cell.row) (filter is_at_element cells)
            | (u ∷ further) ↦ rows_at is_at_element inside (u ∷ further)
          ]) ≡ row ∷ []
          → (b : Context) → Leads es path b d
          → (line_holds es cells inside b ≡ true) × Among d (map (λ (spot : Spot). spot.context)
          (at_end path (record { context = b; attributes = attributes es t cells b; text = element_text es cells b })
          (spots_below es inside path (holds_further es cells inside held b) b)))
      here inner [] k b l = (either-first (cells_hold es cells b) (λ _. holds es inside b) (ap (cells_hold es cells) l ∙ row-in-cells cells d k e), inl l)
      here inner (u ∷ us) k b l =
          let m = inner u us b k l in
          (either-second (cells_hold es cells b) (λ _. holds es inside b) m.0, m.1)

      go : ((u : Step) (us : List Step) (b : Context) → rows_at is_at_element inside (u ∷ us) ≡ row ∷ [] → Leads es (u ∷ us) b d
          → (holds es inside b ≡ true) ×
          Among d (map (λ (spot : Spot). spot.context) (spots_below es inside (u ∷ us) (holds_further es cells inside held b) b)))
          → (rows_at is_at_element rest (s ∷ path) ≡ row ∷ [] → (holds es rest c ≡ true) ×
          Among d (map (λ (spot : Spot). spot.context) (spots_below es rest (s ∷ path) held c)))
          → (x : Bool) → same_step s t ≡ x → (elim x [
            | true ↦ elim path [
              | [] ↦ map (λ (cell : Cell). cell.row) (filter is_at_element cells)
              | (u ∷ further) ↦ rows_at is_at_element inside (u ∷ further)
            ]
            | false ↦ rows_at is_at_element rest (s ∷ path)
          ]) ≡ row ∷ []
          → (holds es (a_line t cells inside rest) c ≡ true) × Among d (map (λ (spot : Spot). spot.context) (elim x [
            | true ↦ flat_map (λ b. at_end path (record { context = b; attributes = attributes es t cells b; text = element_text es cells b })
                (spots_below es inside path (holds_further es cells inside held b) b)) (emitted es t cells inside held c)
            | false ↦ spots_below es rest (s ∷ path) held c
          ]))
      go inner later true x k =
          let b : Context = w.0 in
          let at : Among b (spots es c t.group) = subst (λ o. Among b (spots es c o)) (ap (λ (z : Step). z.group) (step-sound s t x)) w.1 in
          let m = here inner path k b w.2 in
          let there : is_emitted es t cells inside held b ≡ true =
          either-first (line_holds es cells inside b) (λ _. t.always || is_due held cells inside) m.0 in (
            either-first _ (λ _. holds es rest c) (any-among (λ z. either (cells_hold es cells z) (λ _. holds es inside z)) b (spots es c t.group) m.0 at),
            among-spots (λ z. at_end path (record { context = z; attributes = attributes es t cells z; text = element_text es cells z })
                (spots_below es inside path (holds_further es cells inside held z) z))
                b d (emitted es t cells inside held c) (among-filter (is_emitted es t cells inside held) b (spots es c t.group) there at) m.1,
          )
      go inner later false x k =
          let m = later k in
          (either-second (list_any (λ z. either (cells_hold es cells z) (λ _. holds es inside z)) (spots es c t.group)) (λ _. holds es rest c) m.0, m.1)
