-- What a well-formed table says of each of its rows. The built-in part is judged by itself; added rows carry its own
-- elements and no others that carry a group, so what it says of groups holds over all rows.
use Rattle.std.proofs.Common.{◌≡◌, ℕ, zero, suc, ◌+◌, ◌<◌, Bool, true, false, not, ◌&&◌, ◌||◌, ◌⊎◌, inl, inr, List, [], ◌∷◌, ◌++◌, length, take, Option, Some}
use Rattle.std.proofs.Common.{None, Result, Ok, Err, refl, sym, ap, ◌∙◌, subst, arith, append_assoc}
use Rattle.std.specs.Prelude.{if◌then◌else◌, nat_lt, slice_get, is_none, flat_map, All}
use Rattle.std.specs.List.{list_all, AllByRecursion}
use Rattle.std.specs.Cmp.Lexicographic.{pointwise}
use Rattle.std.proofs.lemmas.Bool.{lt-ltb, ltb-true, and_from, false≢true}
use Rattle.std.proofs.lemmas.List.Elements.{All-from_recursion}
use Rattle.std.proofs.lemmas.Option.{same_Some}
use Rattle.term_table.specs.declared.groups.Group.{Group}
use Rattle.term_table.specs.declared.groups.Group.TheVariants as groups
use Rattle.term_table.specs.declared.terms.Term.{Term}
use Rattle.term_table.specs.Groups.{parent_of, occurrence_of}
use Rattle.term_table.specs.Numbers.{extension_row}
use Rattle.term_table.specs.SemanticModel.{is_extension}
use Rattle.term_table.specs.Rows.{row_in}
use Rattle.term_table.proofs.ExtensionLemmas.{extension-row_is}
use Rattle.bind_rows.specs.declared.rows.Content.{Content}
use Rattle.bind_rows.specs.declared.rows.Content.TheVariants as contents
use Rattle.bind_rows.specs.declared.rows.Row.{Row}
use Rattle.bind_rows.specs.declared.rows.Step.{Step}
use Rattle.bind_rows.specs.Added.{is_added, is_built, built, adds_term, is_root_or_line, is_unmarked}
use Rattle.bind_rows.specs.Same.{same_step, same_name, same_group, same_or_none, choose}
use Rattle.bind_table.specs.declared.judging.TableKind.{TableKind}
use Rattle.bind_table.specs.declared.judging.TableKind.TheVariants as kinds
use Rattle.bind_table.specs.declared.judging.TableFault.{TableFault}
use Rattle.bind_table.specs.Crossings.{passes_no_group}
use Rattle.bind_table.specs.Fronts.{front_of}
use Rattle.bind_table.specs.Sound.{is_unplaced, IsSoundRow}
use Rattle.bind_table.specs.WellFormed.{is_ambiguous, is_unknown, carries, carriers, same_path, depth_of, is_carried, first_carrier, all_are, is_carried_once}
use Rattle.bind_table.specs.WellFormed.{is_placed, is_nested, is_root, has_root, is_rooted, is_outside, listed, groups_of, carries_only, begins_with}
use Rattle.bind_table.specs.WellFormed.{begins_there, is_in_context, parts_from, is_held, added_fault, own_fault, fault_of, told, first_fault_from, first_fault}
use Rattle.bind_table.proofs.PathLemmas.{name-itself, step-itself, each-itself, group-itself}
use Rattle.bind_table.proofs.SameLemmas.{pointwise-sound, name-sound, step-sound, group-sound}

pub both : (a b : Bool) → (a && b) ≡ true → (a ≡ true) × (b ≡ true)
both true b e = (refl, e)
both false b e = cc

pub not-false : (b : Bool) → not b ≡ false → b ≡ true
not-false true e = refl
not-false false e = cc

pub told-ok : (k : ℕ) (o : Option TableKind) (others : Result (Unit {0}) TableFault) → told k o others ≡ Ok tt → (o ≡ None) × (others ≡ Ok tt)
told-ok k None others e = (refl, e)
told-ok k (Some kind) others e = cc

-- The rows that are left have no fault, so neither has one of them.
none-at : (rows own : List Row) (k : ℕ) (left : List Row) (j : ℕ) (row : Row) → first_fault_from rows own k left ≡ Ok tt → slice_get left j ≡ Some row
    → fault_of rows own (k + j) row ≡ None
none-at rows own k [] j row fine at = cc
none-at rows own k (r ∷ left) zero row fine at =
    let P : Row → Type 0 = λ r. fault_of rows own k r ≡ None in
    let e : k ≡ k + 0 = omega arith in
    subst (λ n. fault_of rows own n row ≡ None) e
    (subst P (same_Some _ _ at) (told-ok k (fault_of rows own k r) (first_fault_from rows own (k + 1) left) fine).0)
none-at rows own k (r ∷ left) (suc j) row fine at =
    let e : k + 1 + j ≡ k + suc j = omega arith in
    subst (λ n. fault_of rows own n row ≡ None) e
    (none-at rows own (k + 1) left j row (told-ok k (fault_of rows own k r) (first_fault_from rows own (k + 1) left) fine).1 at)

-- ---- a row without a fault

-- what is known of a row of the built-in part, and of an added one
record IsFineOwn (own : List Row) (row : Row) : Type 0 where
  built_in : is_added row ≡ false
  known : is_unknown row row.content ≡ false
  inside : is_outside own row ≡ false

record IsFineAdded (own : List Row) (row : Row) : Type 0 where
  added : is_added row ≡ true
  there : is_in_context own row ≡ true

abbrev IsFine : List Row → Row → Type 0
IsFine own row = IsFineOwn own row ⊎ IsFineAdded own row

chosen-true : (b : Bool) (rest : Option TableKind) (kind : TableKind) → choose b (λ _. rest) (λ _. Some kind) ≡ None → b ≡ true
chosen-true true rest kind e = refl
chosen-true false rest kind e = cc

none-chosen : {A : Type 0} (a b c : Bool) (x y z : A) → choose a (λ _. Some x) (λ _. choose b (λ _. Some y) (λ _. choose c (λ _. Some z) (λ _. None))) ≡ None
    → (b ≡ false) × (c ≡ false)
none-chosen true b c x y z e = cc
none-chosen false true c x y z e = cc
none-chosen false false true x y z e = cc
none-chosen false false false x y z e = (refl, refl)

fine-row : (rows own : List Row) (k : ℕ) (row : Row) → fault_of rows own k row ≡ None → IsFine own row
fine-row rows own k row h = go (is_added row) refl h
  where
    go : (b : Bool) → is_added row ≡ b → choose b (λ _. added_fault rows own k row) (λ _. own_fault rows own k row) ≡ None → IsFine own row
    go true e n = inr (record { added = e; there = chosen-true (is_in_context own row) _ kinds.OutsideContext n })
    go false e n =
        let w = none-chosen (is_ambiguous rows k row) (is_unknown row row.content)
        (is_outside own row) kinds.Ambiguous kinds.UnknownTerm kinds.OutsideContext n in
        inl (record { built_in = e; known = w.0; inside = w.1 })

all-fine : (rows own : List Row) (k : ℕ) (left : List Row) → first_fault_from rows own k left ≡ Ok tt → AllByRecursion (IsFine own) left
all-fine rows own k [] h = tt
all-fine rows own k (row ∷ left) h =
    let w = told-ok k (fault_of rows own k row) (first_fault_from rows own (k + 1) left) h in
    (fine-row rows own k row w.0, all-fine rows own (k + 1) left w.1)

record IsPlacedRow (own : List Row) (row : Row) : Type 0 where
  rooted : is_rooted own row ≡ true
  outer : is_placed own row row.outer ≡ true
  inner : is_placed own row row.inner ≡ true
  nested : is_nested row row.outer row.inner ≡ true

placed-own : (own : List Row) (row : Row) → IsFineOwn own row → IsPlacedRow own row
placed-own own row w =
    let a = both (is_rooted own row) (is_placed own row row.outer
    && (is_placed own row row.inner && is_nested row row.outer row.inner)) (not-false _ w.inside) in
    let b = both (is_placed own row row.outer) (is_placed own row row.inner && is_nested row row.outer row.inner) a.1 in
    let d = both (is_placed own row row.inner) (is_nested row row.outer row.inner) b.1 in
    record { rooted = a.0; outer = b.0; inner = d.0; nested = d.1 }

-- ---- paths that carry no group, or one

carries-none : (group : Group) (above path : List Step) → groups_of path ≡ [] → carriers group above path ≡ []
carries-none group above [] e = refl
carries-none group above (s ∷ path) e = by s.group refl e (carries-none group (above ++ s ∷ []) path)
  where
    by : (o : Option Group) → s.group ≡ o → listed o ++ groups_of path ≡ [] → (groups_of path ≡ [] → carriers group (above ++ s ∷ []) path ≡ [])
        → carriers group above (s ∷ path) ≡ []
    by None o f deeper =
        ap (λ (g : Option Group). choose (same_or_none g (Some group)) (λ _. (above ++ s ∷ []) ∷ carriers group (above ++ s ∷ []) path)
        (λ _. carriers group (above ++ s ∷ []) path)) o ∙ deeper f
    by (Some g) o f deeper = cc

head-of : {A : Type 0} (x y : A) (xs ys : List A) → x ∷ xs ≡ y ∷ ys → x ≡ y
head-of x y xs ys e = cc

tail-of : {A : Type 0} (x y : A) (xs ys : List A) → x ∷ xs ≡ y ∷ ys → xs ≡ ys
tail-of x y xs ys e = cc

-- of a path that carries the one group: for this one its fronts are one, and for others none
other-group : (group carried : Group) (above path : List Step) → same_group carried group ≡ false → groups_of path ≡ carried ∷ []
    → carriers group above path ≡ []
other-group group carried above [] differ e = cc
other-group group carried above (s ∷ path) differ e = by s.group refl e (other-group group carried (above ++ s ∷ []) path differ)
  where
    by : (o : Option Group) → s.group ≡ o → listed o ++ groups_of path ≡ carried ∷ []
        → (groups_of path ≡ carried ∷ [] → carriers group (above ++ s ∷ []) path ≡ []) → carriers group above (s ∷ path) ≡ []
    by None o f deeper =
        ap (λ (g : Option Group). choose (same_or_none g (Some group)) (λ _. (above ++ s ∷ []) ∷ carriers group (above ++ s ∷ []) path)
        (λ _. carriers group (above ++ s ∷ []) path)) o ∙ deeper f
    by (Some g) o f deeper =
        let same = head-of g carried (groups_of path) [] f in
        let rest = tail-of g carried (groups_of path) [] f in
        ap (λ (q : Option Group). choose (same_or_none q (Some group)) (λ _. (above ++ s ∷ []) ∷ carriers group (above ++ s ∷ []) path)
        (λ _. carriers group (above ++ s ∷ []) path)) o
        ∙ (ap (λ b. choose b (λ _. (above ++ s ∷ []) ∷ carriers group (above ++ s ∷ []) path) (λ _. carriers group (above ++ s ∷ []) path))
        (ap (λ (q : Group). same_group q group) same ∙ differ)
        ∙ carries-none group (above ++ s ∷ []) path rest)

-- the one front of the group
one-front : (group : Group) (above path : List Step) → groups_of path ≡ group ∷ []
    → carriers group above path ≡ (above ++ take (depth_of group path + 1) path) ∷ []
one-front group above [] e = cc
one-front group above (s ∷ path) e = by s.group refl e (one-front group (above ++ s ∷ []) path)
  where
    by : (o : Option Group) → s.group ≡ o → listed o ++ groups_of path ≡ group ∷ []
        → (groups_of path ≡ group ∷ [] → carriers group (above ++ s ∷ []) path ≡ ((above ++ s ∷ []) ++ take (depth_of group path + 1) path) ∷ [])
        → carriers group above (s ∷ path) ≡ (above ++ take (depth_of group (s ∷ path) + 1) (s ∷ path)) ∷ []
    by None o f deeper =
        let no : carries group s ≡ false = ap (λ (q : Option Group). same_or_none q (Some group)) o in
        let e : suc (depth_of group path + 1) ≡ 1 + depth_of group path + 1 = omega arith in
        ap (λ b. choose b (λ _. (above ++ s ∷ []) ∷ carriers group (above ++ s ∷ []) path) (λ _. carriers group (above ++ s ∷ []) path)) no
        ∙ (deeper f
        ∙ (ap (λ p. p ∷ []) (append_assoc above (s ∷ []) (take (depth_of group path + 1) path))
        ∙ (ap (λ m. (above ++ take m (s ∷ path)) ∷ []) e
        ∙ ap (λ b. (above ++ take (choose b (λ _. 0) (λ _. 1 + depth_of group path) + 1) (s ∷ path)) ∷ []) (sym no))))
    by (Some g) o f deeper =
        let same = head-of g group (groups_of path) [] f in
        let rest = tail-of g group (groups_of path) [] f in
        let yes : carries group s ≡ true = ap (λ (q : Option Group). same_or_none q (Some group)) (o ∙ ap Some same) ∙ group-itself (Some group) in
        ap (λ b. choose b (λ _. (above ++ s ∷ []) ∷ carriers group (above ++ s ∷ []) path) (λ _. carriers group (above ++ s ∷ []) path)) yes
        ∙ (ap (λ ps. (above ++ s ∷ []) ∷ ps) (carries-none group (above ++ s ∷ []) path rest)
        ∙ ap (λ b. (above ++ take (choose b (λ _. 0) (λ _. 1 + depth_of group path) + 1) (s ∷ path)) ∷ []) (sym yes))

-- ---- the first of the fronts that carry a group

pub record First (fronts : List (List Step)) (front : List Step) : Type 0 where
  pub others : List (List Step)
  pub is : fronts ≡ front ∷ others

pub first-front : (group : Group) (above path : List Step) → nat_lt (depth_of group path) (length path) ≡ true
    → First (carriers group above path) (above ++ take (depth_of group path + 1) path)
first-front group above [] h = cc
first-front group above (s ∷ path) h = by (carries group s) h (first-front group (above ++ s ∷ []) path)
  where
    by : (b : Bool) → nat_lt (choose b (λ _. 0) (λ _. 1 + depth_of group path)) (length (s ∷ path)) ≡ true
        → (nat_lt (depth_of group path) (length path) ≡ true
        → First (carriers group (above ++ s ∷ []) path) ((above ++ s ∷ []) ++ take (depth_of group path + 1) path))
        → First (choose b (λ _. (above ++ s ∷ []) ∷ carriers group (above ++ s ∷ []) path) (λ _. carriers group (above ++ s ∷ []) path))
        (above ++ take (choose b (λ _. 0) (λ _. 1 + depth_of group path) + 1) (s ∷ path))
    by true h deeper = record { others = carriers group (above ++ s ∷ []) path; is = refl }
    by false h deeper =
        let below : depth_of group path < length path = (let l = ltb-true (1 + depth_of group path) (length (s ∷ path)) h in omega arith) in
        let f = deeper (lt-ltb _ _ below) in
        let e : suc (depth_of group path + 1) ≡ 1 + depth_of group path + 1 = omega arith in
        record {
          others = f.others;
          is = f.is ∙ (ap (λ p. p ∷ f.others) (append_assoc above (s ∷ []) (take (depth_of group path + 1) path))
              ∙ ap (λ n. (above ++ take n (s ∷ path)) ∷ f.others) e);
        }

-- the fronts of the row that carry the group are all this one
abbrev pub are : List Step → Group → Row → Bool
are front group row = list_all (same_path front) (carriers group [] row.path)

pub front-is : (group : Group) (front : List Step) (row : Row) → are front group row ≡ true → is_carried group row ≡ true → front ≡ front_of group row
front-is group front row here h =
    let f = first-front group [] row.path h in
    let same = (both (same_path front (front_of group row)) (list_all (same_path front) f.others) (ap (list_all (same_path front)) (sym f.is) ∙ here)).0 in
    pointwise-sound same_step step-sound front (front_of group row) same

-- the front that is found first
pub record Found (group : Group) (rows : List Row) : Type 0 where
  pub front : List Step
  pub is : first_carrier group rows ≡ Some front

found-own : (group : Group) (rows : List Row) (j : ℕ) (row : Row) → slice_get rows j ≡ Some row → is_added row ≡ false → is_carried group row ≡ true
    → Found group (built rows)
found-own group [] j row at own h = cc
found-own group (r ∷ rows) zero row at own h =
    let same = same_Some _ _ at in
    let P : Row → Type 0 = λ r. is_added r ≡ false in
    let Q : Row → Type 0 = λ r. is_carried group r ≡ true in
    record {
      front = _;
      is = ap (λ b. first_carrier group (if not b then r ∷ built rows else built rows)) (subst P (sym same) own)
          ∙ ap (λ b. choose b (λ _. Some (take (depth_of group r.path + 1) r.path)) (λ _. first_carrier group (built rows))) (subst Q (sym same) h);
    }
found-own group (r ∷ rows) (suc j) row at own h = by (is_added r) (is_carried group r) refl refl (found-own group rows j row at own h)
  where
    by : (a b : Bool) → is_added r ≡ a → is_carried group r ≡ b → Found group (built rows) → Found group (built (r ∷ rows))
    by true b e k f = record { front = f.front; is = ap (λ a. first_carrier group (if not a then r ∷ built rows else built rows)) e ∙ f.is }
    by false true e k f = record {
      front = _;
      is = ap (λ a. first_carrier group (if not a then r ∷ built rows else built rows)) e
          ∙ ap (λ b. choose b (λ _. Some (take (depth_of group r.path + 1) r.path)) (λ _. first_carrier group (built rows))) k;
    }
    by false false e k f = record {
      front = f.front;
      is = ap (λ a. first_carrier group (if not a then r ∷ built rows else built rows)) e
          ∙ (ap (λ b. choose b (λ _. Some (take (depth_of group r.path + 1) r.path)) (λ _. first_carrier group (built rows))) k ∙ f.is);
    }

-- ---- what an added row carries

record AddedFacts (own : List Row) (row : Row) : Type 0 where
  rooted : is_rooted own row ≡ true
  begins : begins_there own row row.outer ≡ true
  only : groups_of row.path ≡ listed row.outer

added-facts : (own : List Row) (row : Row) → is_in_context own row ≡ true → AddedFacts own row
added-facts own row h =
    let others = list_all (λ (r : Row). passes_no_group row.outer row.path r.path) own in
    let a = both (is_rooted own row) (begins_there own row row.outer && (carries_only row.outer row.path && others)) h in
    let b = both (begins_there own row row.outer) (carries_only row.outer row.path && others) a.1 in
    let c = both (carries_only row.outer row.path) others b.1 in
    record { rooted = a.0; begins = b.0; only = pointwise-sound same_group group-sound (groups_of row.path) (listed row.outer) c.0 }

-- The row begins with the element that the built-in part has for the group.
record Begins (own : List Row) (row : Row) (group : Group) : Type 0 where
  once : is_carried_once group own ≡ true
  front : List Step
  is : first_carrier group own ≡ Some front
  carried : is_carried group row ≡ true
  same : same_path front (front_of group row) ≡ true

begun : (own : List Row) (row : Row) (group : Group) → begins_there own row (Some group) ≡ true → Begins own row group
begun own row group h = by (first_carrier group own) refl (both (is_carried_once group own) (begins_with (first_carrier group own) group row) h)
  where
    by : (o : Option (List Step)) → first_carrier group own ≡ o → (is_carried_once group own ≡ true) × (begins_with o group row ≡ true) → Begins own row group
    by None e w = absurd (false≢true w.1)
    by (Some front) e w =
        let c = both (is_carried group row) (same_path front (front_of group row)) w.1 in
        record { once = w.0; front = front; is = e; carried = c.0; same = c.1 }

added-are : (own : List Row) (row : Row) (group : Group) (front : List Step) → first_carrier group own ≡ Some front → AddedFacts own row
    → are front group row ≡ true
added-are own row group front first w = by row.outer w.begins w.only
  where
    by : (o : Option Group) → begins_there own row o ≡ true → groups_of row.path ≡ listed o → are front group row ≡ true
    by None h only = ap (list_all (same_path front)) (carries-none group [] row.path only)
    by (Some carried) h only = go (same_group carried group) refl
      where
        go : (b : Bool) → same_group carried group ≡ b → are front group row ≡ true
        go false e = ap (list_all (same_path front)) (other-group group carried [] row.path e only)
        go true e =
            let same = group-sound carried group e in
            let w = subst (λ (g : Group). Begins own row g) same (begun own row carried h) in
            let f = same_Some _ _ (sym w.is ∙ first) in
            ap (list_all (same_path front)) (one-front group [] row.path (only ∙ ap (λ g. g ∷ []) same))
            ∙ and_from _ _ (subst (λ p. same_path p (front_of group row) ≡ true) f w.same) refl

-- ---- one element over all rows

joined : (f : Row → Bool) (rows : List Row) → list_all f (built rows) ≡ true → AllByRecursion (λ (r : Row). (is_added r ≡ false) ⊎ (f r ≡ true)) rows
    → list_all f rows ≡ true
joined f [] h k = refl
joined f (r ∷ rows) h k = go (is_added r) refl h k.0 (λ z. joined f rows z k.1)
  where
    go : (b : Bool) → is_added r ≡ b → list_all f (if not b then r ∷ built rows else built rows) ≡ true → (is_added r ≡ false) ⊎ (f r ≡ true)
        → (list_all f (built rows) ≡ true → list_all f rows ≡ true)
        → list_all f (r ∷ rows) ≡ true
    go false e h k more = let w = both (f r) (list_all f (built rows)) h in and_from _ _ w.0 (more w.1)
    go true e h (inl x) more = absurd (false≢true (sym x ∙ e))
    go true e h (inr x) more = and_from _ _ x (more h)

each-are : (own : List Row) (group : Group) (front : List Step) → first_carrier group own ≡ Some front → (rows : List Row) → AllByRecursion (IsFine own) rows
    → AllByRecursion (λ (r : Row). (is_added r ≡ false) ⊎ (are front group r ≡ true)) rows
each-are own group front first [] h = tt
each-are own group front first (r ∷ rows) h = (by h.0, each-are own group front first rows h.1)
  where
    by : IsFine own r → (is_added r ≡ false) ⊎ (are front group r ≡ true)
    by (inl w) = inl w.built_in
    by (inr w) = inr (added-are own r group front first (added-facts own r w.there))

first-same : (group : Group) (front : List Step) (rows : List Row) (other : List Step) → list_all (are front group) rows ≡ true
    → first_carrier group rows ≡ Some other → front ≡ other
first-same group front [] other h e = cc
first-same group front (r ∷ rows) other h e = by (is_carried group r) refl e
    (first-same group front rows other (both (are front group r) (list_all (are front group) rows) h).1)
  where
    by : (b : Bool) → is_carried group r ≡ b → choose b (λ _. Some (take (depth_of group r.path + 1) r.path)) (λ _. first_carrier group rows) ≡ Some other
        → (first_carrier group rows ≡ Some other → front ≡ other) → front ≡ other
    by true k e f = front-is group front r (both (are front group r) (list_all (are front group) rows) h).0 k ∙ same_Some _ _ e
    by false k e f = f e

once-in-all : (rows : List Row) (group : Group) → AllByRecursion (IsFine (built rows)) rows → Found group (built rows)
    → is_carried_once group (built rows) ≡ true → is_carried_once group rows ≡ true
once-in-all rows group fine first once = by (first_carrier group rows) refl
  where
    all : list_all (are first.front group) rows ≡ true
    all = joined (are first.front group) rows (ap (all_are group (built rows)) (sym first.is)
        ∙ once) (each-are (built rows) group first.front first.is rows fine)

    by : (o : Option (List Step)) → first_carrier group rows ≡ o → is_carried_once group rows ≡ true
    by None e = ap (all_are group rows) e
    by (Some other) e = ap (all_are group rows) (e ∙ ap Some (sym (first-same group first.front rows other all e))) ∙ all

placed-in-all : (rows : List Row) (row : Row) (slot : Option Group) → AllByRecursion (IsFine (built rows)) rows
    → ((group : Group) → slot ≡ Some group → is_carried group row ≡ true → Found group (built rows))
    → is_placed (built rows) row slot ≡ true → is_placed rows row slot ≡ true
placed-in-all rows row None fine first h = refl
placed-in-all rows row (Some group) fine first h =
    let w = both (is_carried group row) (is_carried_once group (built rows)) h in
    and_from _ _ w.0 (once-in-all rows group fine (first group refl w.0) w.1)

-- ---- the root

has-root-more : (p q f : List Step) → has_root p f ≡ true → has_root q f ≡ true → has_root p q ≡ true
has-root-more [] q f h k = cc
has-root-more (s ∷ p) q [] h k = cc
has-root-more (s ∷ p) [] (u ∷ f) h k = cc
has-root-more (s ∷ p) (t ∷ q) (u ∷ f) h k =
    let a = both (same_name s.name u.name) (is_root s.name) h in
    let b = both (same_name t.name u.name) (is_root t.name) k in
    let e = name-sound s.name u.name a.0 ∙ sym (name-sound t.name u.name b.0) in
    and_from _ _ (ap (same_name s.name) (sym e) ∙ name-itself s.name) a.1

root-more : (own : List Row) (row other : Row) → is_rooted own row ≡ true → is_rooted own other ≡ true → has_root row.path other.path ≡ true
root-more [] row other h k = cc
root-more (first ∷ own) row other h k = has-root-more row.path other.path first.path h k

-- ---- an added row's context and term

added-parts : (row : Row) → is_added row ≡ true → (adds_term row.content ≡ true) × (is_root_or_line row.outer row.inner ≡ true)
added-parts row h = by (adds_term row.content) h
  where
    by : (b : Bool) → choose b (λ _. is_root_or_line row.outer row.inner && is_unmarked row) (λ _. false) ≡ true
        → (b ≡ true) × (is_root_or_line row.outer row.inner ≡ true)
    by true h = (refl, (both (is_root_or_line row.outer row.inner) (is_unmarked row) h).0)
    by false h = absurd (false≢true h)

no-inner : (own : List Row) (row : Row) (outer inner : Option Group) → is_root_or_line outer inner ≡ true
    → (is_placed own row inner ≡ true) × (is_nested row outer inner ≡ true)
no-inner own row None None h = (refl, refl)
no-inner own row None (Some inner) h = absurd (false≢true h)
no-inner own row (Some outer) None h = (refl, refl)
no-inner own row (Some outer) (Some inner) h = absurd (false≢true h)

at-root : (number : ℕ) → is_none (extension_row number None None) ≡ false
unfolding parent_of occurrence_of
at-root number = refl

in-line : (number : ℕ) → is_none (extension_row number (Some groups.InvoiceLine) None) ≡ false
unfolding parent_of occurrence_of
in-line number = refl

placed-term : (term : Term) (outer inner : Option Group) → is_extension term ≡ true → is_root_or_line outer inner ≡ true
    → is_none (row_in term outer inner) ≡ false
placed-term term None None e h = ap is_none (sym (extension-row_is term None None e)) ∙ at-root term.number
placed-term term None (Some inner) e h = absurd (false≢true h)
placed-term term (Some outer) None e h =
    let line = group-sound outer groups.InvoiceLine h in
    ap is_none (sym (extension-row_is term (Some outer) None e))
    ∙ (ap (λ (g : Group). is_none (extension_row term.number (Some g) None)) line ∙ in-line term.number)
placed-term term (Some outer) (Some inner) e h = absurd (false≢true h)

added-known : (row : Row) (content : Content) → adds_term content ≡ true → is_root_or_line row.outer row.inner ≡ true → is_unplaced row content ≡ false
added-known row (contents.Term term) e h = placed-term term row.outer row.inner e h
added-known row (contents.Constant text) e h = refl

or-false : (a b : Bool) → (a || b) ≡ false → (a ≡ false) × (b ≡ false)
or-false true b e = cc
or-false false b e = (refl, e)

own-known : (row : Row) (content : Content) → is_unknown row content ≡ false → is_unplaced row content ≡ false
own-known row (contents.Term term) h = (or-false (is_extension term) (is_none (row_in term row.outer row.inner)) h).1
own-known row (contents.Constant text) h = refl

-- ---- each row

placed-added : (own : List Row) (row : Row) → IsFineAdded own row → IsPlacedRow own row
placed-added own row w =
    let f = added-facts own row w.there in
    let rest = no-inner own row row.outer row.inner (added-parts row w.added).1 in
    record { rooted = f.rooted; outer = by row.outer f.begins; inner = rest.0; nested = rest.1 }
  where
    by : (o : Option Group) → begins_there own row o ≡ true → is_placed own row o ≡ true
    by None h = refl
    by (Some group) h = let b = begun own row group h in and_from _ _ b.carried b.once

placed-fine : (own : List Row) (row : Row) → IsFine own row → IsPlacedRow own row
placed-fine own row (inl w) = placed-own own row w
placed-fine own row (inr w) = placed-added own row w

rooted-in-all : (rows : List Row) → AllByRecursion (IsFine (built rows)) rows → (row : Row) → is_rooted (built rows) row ≡ true → is_rooted rows row ≡ true
rooted-in-all [] fine row h = cc
rooted-in-all (r ∷ rows) fine row h = root-more (built (r ∷ rows)) row r h (placed-fine (built (r ∷ rows)) r fine.0).rooted

-- where the built-in part carries a group of the row
found-slot : (rows : List Row) (j : ℕ) (row : Row) → slice_get rows j ≡ Some row → IsFine (built rows) row → (group : Group)
    → (row.outer ≡ Some group) ⊎ (row.inner ≡ Some group) → is_carried group row ≡ true → Found group (built rows)
found-slot rows j row at (inl w) group slot h = found-own group rows j row at w.built_in h
found-slot rows j row at (inr w) group (inl e) h =
    let b = begun (built rows) row group (ap (begins_there (built rows) row) (sym e) ∙ (added-facts (built rows) row w.there).begins) in
    record { front = b.front; is = b.is }
found-slot rows j row at (inr w) group (inr e) h = absurd (false≢true (sym (none row.outer) ∙ (added-parts row w.added).1))
  where
    none : (outer : Option Group) → is_root_or_line outer row.inner ≡ false
    none None = ap (is_root_or_line None) e
    none (Some outer) = ap (is_root_or_line (Some outer)) e

sound : (rows : List Row) (j : ℕ) (row : Row) → AllByRecursion (IsFine (built rows)) rows → slice_get rows j ≡ Some row → IsFine (built rows) row
    → IsSoundRow rows row
sound rows j row fine at w =
    let p = placed-fine (built rows) row w in
    record {
      known = known w;
      modelled = modelled w;
      rooted = rooted-in-all rows fine row p.rooted;
      outer = placed-in-all rows row row.outer fine (λ group e h. found-slot rows j row at w group (inl e) h) p.outer;
      inner = placed-in-all rows row row.inner fine (λ group e h. found-slot rows j row at w group (inr e) h) p.inner;
      nested = p.nested;
    }
  where
    known : IsFine (built rows) row → is_unplaced row row.content ≡ false
    known (inl w) = own-known row row.content w.known
    known (inr w) = let a = added-parts row w.added in added-known row row.content a.0 a.1

    modelled : IsFine (built rows) row → is_added row ≡ false → is_unknown row row.content ≡ false
    modelled (inl w) own = w.known
    modelled (inr w) own = absurd (false≢true (sym own ∙ w.added))

pub sound-at : (rows : List Row) (j : ℕ) (row : Row) → first_fault rows ≡ Ok tt → slice_get rows j ≡ Some row → IsSoundRow rows row
sound-at rows j row h at =
    sound rows j row (all-fine rows (built rows) 0 rows h) at (fine-row rows (built rows) (0 + j) row (none-at rows (built rows) 0 rows j row h at))

each-at : (P : Row → Type 0) (rows : List Row) → ((j : ℕ) (row : Row) → slice_get rows j ≡ Some row → P row) → AllByRecursion P rows
each-at P [] f = tt
each-at P (r ∷ rows) f = (f 0 r refl, each-at P rows (λ j row at. f (suc j) row at))

pub sound-each : (rows : List Row) → first_fault rows ≡ Ok tt → AllByRecursion (IsSoundRow rows) rows
sound-each rows h = each-at (IsSoundRow rows) rows (λ j row at. sound-at rows j row h at)

pub sound-rows : (rows : List Row) → first_fault rows ≡ Ok tt → All (IsSoundRow rows) rows
sound-rows rows h = All-from_recursion (IsSoundRow rows) rows (sound-each rows h)

-- An added row of a well-formed table has no fault.
pub added-at : (rows : List Row) (j : ℕ) (row : Row) → first_fault rows ≡ Ok tt → slice_get rows j ≡ Some row → is_added row ≡ true
    → added_fault rows (built rows) j row ≡ None
added-at rows j row h at added =
    let e : 0 + j ≡ j = omega arith in
    ap (λ b. choose b (λ _. added_fault rows (built rows) j row) (λ _. own_fault rows (built rows) j row)) (sym added)
    ∙ subst (λ n. fault_of rows (built rows) n row ≡ None) e (none-at rows (built rows) 0 rows j row h at)
