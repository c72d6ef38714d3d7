-- What is missing in a context, over seats that stand for others.
use Rattle.std.proofs.Common.{◌≡◌, ℕ, ◌+◌, Bool, true, false, not, ◌&&◌, ◌||◌, List, [], ◌∷◌, ◌++◌, map, filter, flat_map, Option, Some, None, refl, sym, ap}
use Rattle.std.proofs.Common.{◌∙◌}
use Rattle.std.specs.Prelude.{if◌then◌else◌, ◌==◌, slice_get}
use Rattle.std.specs.List.{list_any}
use Rattle.inv_base.specs.Tree.{Node}
use Rattle.term_table.specs.declared.groups.Group.{Group}
use Rattle.term_table.specs.declared.groups.Occurrence.{Occurrence}
use Rattle.term_table.specs.declared.groups.Occurrence.TheVariants as occurs
use Rattle.term_table.specs.declared.terms.Mark.{Mark}
use Rattle.term_table.specs.declared.terms.Mark.TheVariants as marks
use Rattle.term_table.specs.declared.terms.Term.{Term}
use Rattle.term_table.specs.declared.terms.TermRow.{TermRow}
use Rattle.term_table.specs.declared.contexts.Context.{Context}
use Rattle.term_table.specs.declared.contexts.Seat.{Seat}
use Rattle.term_table.specs.SemanticModel.{same_term, terms}
use Rattle.term_table.specs.Groups.{parent_of, occurrence_of}
use Rattle.term_table.specs.Contexts.{has_context, is_inside}
use Rattle.term_table.specs.Places.{first_row, place}
use Rattle.inv_terms.specs.declared.violations.Name.TheVariants as names
use Rattle.inv_terms.specs.declared.violations.TermFault.TheVariants as faults
use Rattle.inv_terms.specs.Lacking.{is_at, has, has_term, is_around, shows_its_group, stands, decided, first_decided, is_there, whole_term, is_needed}
use Rattle.inv_terms.specs.Lacking.{is_missing, is_slot_in, is_at_least_once, lacks_group, missing_at, first_missing, all_missing_from, all_missing}
use Rattle.inv_terms.proofs.AllLemmas.{first-is}
use Rattle.bind_meaning.specs.Seats.{Room}
use Rattle.bind_meaning.specs.Faults.{violation_found, violations_in}

-- No test tells them apart by whether some seat passes.
abbrev pub AreAlike : List Seat → List Seat → Type 0
AreAlike xs ys = (p : Seat → Bool) → list_any p xs ≡ list_any p ys

any-agree : {X : Type 0} (p q : X → Bool) → ((x : X) → p x ≡ q x) → (xs : List X) → list_any p xs ≡ list_any q xs
any-agree p q h [] = refl
any-agree p q h (x ∷ xs) = ap (λ b. b || list_any p xs) (h x) ∙ ap (λ b. q x || b) (any-agree p q h xs)

abbrev needed : List Seat → Context → Mark → Group → Term → Bool
needed seats context m group term = elim m [ marks.One ↦ is_there seats group | marks.Optional ↦ false | marks.After ↦ has seats context (whole_term term) ]

module _ (xs ys : List Seat) (alike : AreAlike xs ys) (context : Context) where
  has-same : (term : Term) → has xs context term ≡ has ys context term
  has-same term = alike (is_at context term)

  term-same : (term : Term) → has_term xs term ≡ has_term ys term
  term-same term = alike (λ (s : Seat). same_term s.term term)

  stands-same : (group : Group) → stands xs group ≡ stands ys group
  stands-same group =
      any-agree (λ (row : TermRow). is_around group row.group && (shows_its_group row.term && has_term xs row.term))
      (λ (row : TermRow). is_around group row.group && (shows_its_group row.term && has_term ys row.term))
      (λ row. ap (λ b. is_around group row.group && (shows_its_group row.term && b)) (term-same row.term)) terms

  decided-by : (o : Occurrence) (group : Group)
      → ◌≡◌ {A = Option Bool} (elim
      o [ occurs.Once ↦ None | occurs.AtMostOnce ↦ Some (stands xs group) | occurs.AnyNumber ↦ Some true | occurs.AtLeastOnce ↦ Some true ])
      (elim o [ occurs.Once ↦ None | occurs.AtMostOnce ↦ Some (stands ys group) | occurs.AnyNumber ↦ Some true | occurs.AtLeastOnce ↦ Some true ])
  decided-by occurs.Once group = refl
  decided-by occurs.AtMostOnce group = ap Some (stands-same group)
  decided-by occurs.AnyNumber group = refl
  decided-by occurs.AtLeastOnce group = refl

  decided-same : (group : Group) → decided xs group ≡ decided ys group
  decided-same group = decided-by (occurrence_of group) group

  there-same : (group : Group) → is_there xs group ≡ is_there ys group
  there-same group =
      ap (λ o. first_decided (o ∷ decided xs (parent_of group) ∷ decided xs (parent_of (parent_of group)) ∷ [])) (decided-same group)
      ∙ (ap (λ o. first_decided (decided ys group ∷ o ∷ decided xs (parent_of (parent_of group)) ∷ [])) (decided-same (parent_of group))
      ∙ ap (λ o. first_decided (decided ys group ∷ decided ys (parent_of group) ∷ o ∷ [])) (decided-same (parent_of (parent_of group))))

  needed-by : (m : Mark) (group : Group) (term : Term) → needed xs context m group term ≡ needed ys context m group term
  needed-by marks.One group term = there-same group
  needed-by marks.Optional group term = refl
  needed-by marks.After group term = has-same (whole_term term)

  missing-same : (row : TermRow) → is_missing xs context row ≡ is_missing ys context row
  missing-same row =
      ap (λ b. b && not (has xs context row.term)) (needed-by row.mark row.group row.term) ∙ ap (λ b. is_needed ys context row && not b) (has-same row.term)

  violations-same : (k : ℕ) (row : TermRow) → lacks_group xs context k row ≡ lacks_group ys context k row
  violations-same k row =
      ap (λ b. is_at_least_once (occurrence_of row.group) && ((k == first_row row.group) && (has_context (parent_of row.group) context && not b)))
      (alike (λ (s : Seat). is_slot_in row.group s.context.outer || is_slot_in row.group s.context.inner))

  at-same : (k : ℕ) (row : TermRow) → missing_at xs context k row ≡ missing_at ys context k row
  at-same k row =
      ap (λ b. if has_context row.group context then (if b then Some (names.Term row.term) else None) else
      (if lacks_group xs context k row then Some (names.Group row.group) else None)) (missing-same row)
      ∙ ap (λ b. if has_context row.group context then (if is_missing ys context row then Some (names.Term row.term) else None) else
      (if b then Some (names.Group row.group) else None)) (violations-same k row)

  from-same : (k : ℕ) (rows : List TermRow) → all_missing_from xs context k rows ≡ all_missing_from ys context k rows
  from-same k [] = refl
  from-same k (row ∷ rows) =
      ap (λ o. elim o [
        | Some name ↦ record { place = place k context; fault = faults.Missing name } ∷ all_missing_from xs context (k + 1) rows
        | None ↦ all_missing_from xs context (k + 1) rows
      ]) (at-same k row)
      ∙ ap (λ l. elim (missing_at ys context k row) [ Some name ↦ record { place = place k context; fault = faults.Missing name } ∷ l | None ↦ l ])
      (from-same (k + 1) rows)

  pub all-same : all_missing xs context ≡ all_missing ys context
  all-same = from-same 0 terms

  pub first-same : first_missing xs context ≡ first_missing ys context
  first-same = first-is xs context ∙ (ap (λ l. slice_get l 0) all-same ∙ sym (first-is ys context))

any-filter : (p q : Seat → Bool) (xs : List Seat) → list_any p (filter q xs) ≡ list_any (λ x. q x && p x) xs
any-filter p q [] = refl
any-filter p q (x ∷ xs) = go (q x) (any-filter p q xs)
  where
    go : (b : Bool) → list_any p (filter q xs) ≡ list_any (λ x. q x && p x) xs
        → list_any p (if b then x ∷ filter q xs else filter q xs) ≡ ((b && p x) || list_any (λ x. q x && p x) xs)
    go true h = ap (λ c. p x || c) h
    go false h = h

filtered-alike : (q : Seat → Bool) (xs ys : List Seat) → AreAlike xs ys → AreAlike (filter q xs) (filter q ys)
filtered-alike q xs ys alike p = any-filter p q xs ∙ (alike (λ x. q x && p x) ∙ sym (any-filter p q ys))

pub room-same : (nodes : List Node) (xs ys : List Seat) (room : Room) → AreAlike xs ys → violations_in nodes xs room ≡ violations_in nodes ys room
room-same nodes xs ys room alike =
    ap (map (violation_found nodes room)) (all-same _ _ (filtered-alike (λ (seat : Seat). is_inside room.context seat.context) xs ys alike) room.context)

pub rooms-same : (nodes : List Node) (xs ys : List Seat) (rooms : List Room) → AreAlike xs ys
    → flat_map (violations_in nodes xs) rooms ≡ flat_map (violations_in nodes ys) rooms
rooms-same nodes xs ys [] alike = refl
rooms-same nodes xs ys (room ∷ rooms) alike =
    ap (λ l. l ++ flat_map (violations_in nodes xs) rooms) (room-same nodes xs ys room alike)
    ∙ ap (λ l. violations_in nodes ys room ++ l) (rooms-same nodes xs ys rooms alike)

-- ---- of a list of things that have seats

pub map-filter : {X : Type 0} (f : X → Seat) (q : Seat → Bool) (xs : List X) → map f (filter (λ x. q (f x)) xs) ≡ filter q (map f xs)
map-filter f q [] = refl
map-filter f q (x ∷ xs) = go (q (f x)) (map-filter f q xs)
  where
    go : (b : Bool) → map f (filter (λ y. q (f y)) xs) ≡ filter q (map f xs)
        → map f (if b then x ∷ filter (λ y. q (f y)) xs else filter (λ y. q (f y)) xs) ≡ (if b then f x ∷ filter q (map f xs) else filter q (map f xs))
    go true h = ap (λ l. f x ∷ l) h
    go false h = h

pub any-map : {X : Type 0} (f : X → Seat) (p : Seat → Bool) (xs : List X) → list_any p (map f xs) ≡ list_any (λ x. p (f x)) xs
any-map f p [] = refl
any-map f p (x ∷ xs) = ap (λ b. p (f x) || b) (any-map f p xs)
