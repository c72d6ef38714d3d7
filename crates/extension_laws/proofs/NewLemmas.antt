-- The new elements of an added row's path: it goes through elements of the table as far as the table has its names, and
-- from there on through new ones, with numbers that rise above all others.
use Rattle.std.proofs.Common.{◌≡◌, ℕ, ◌+◌, ◌<◌, ◌≤◌, Bool, true, false, ◌&&◌, ◌⊎◌, inl, inr, List, [], ◌∷◌, ◌++◌, length, map, All, Option, Some, None, refl}
use Rattle.std.proofs.Common.{sym, ap, ◌∙◌, subst, arith, append_assoc, lt-ltb, le-leb}
use Rattle.std.specs.Prelude.{◌==◌, fold, max, nat_lt, nat_le}
use Rattle.std.specs.List.{list_all}
use Rattle.std.proofs.lemmas.Bool.{ltb-true, eqb-true, false≢true}
use Rattle.std.proofs.lemmas.Option.{same_Some}
use Rattle.bind_rows.specs.declared.names.ElementName.{ElementName}
use Rattle.bind_rows.specs.declared.rows.Row.{Row}
use Rattle.bind_rows.specs.declared.rows.Step.{Step}
use Rattle.bind_rows.specs.Same.{same_name, same_step, choose}
use Rattle.bind_table.specs.Crossings.{part_by_name}
use Rattle.bind_table.specs.Extending.{at_names, first_of, first_at, greatest_on, greatest, step_for, top_behind, path_of}
use Rattle.bind_table.specs.Laid.{element_numbers}
use Rattle.bind_table.specs.Lines.{Cell, Plan, nothing, a_line, own_cells, into, add, grown, plan_of}
use Rattle.bind_table.proofs.PathLemmas.{name-itself}
use Rattle.bind_table.proofs.SameLemmas.{name-sound, step-sound}
use Rattle.binding_laws.proofs.ReachLemmas.{Among}
use Rattle.carrying_laws.proofs.ModelLemmas.{all-holds}
use Rattle.extension_laws.specs.Ways.{finds, are_new, new_steps, all_below}
use Rattle.extension_laws.proofs.AddLemmas.{both, Sorted, absent}
use Rattle.extension_laws.proofs.FoundLemmas.{found-row}
use Rattle.extension_laws.proofs.SortedLemmas.{sorted-rows}

and-so : (a b : Bool) → a ≡ true → b ≡ true → (a && b) ≡ true
and-so a b h k = ap (λ x. x && b) h ∙ k

-- ---- numbers that rise

new-lower : (low top : ℕ) (path : List Step) → low ≤ top → are_new top path ≡ true → are_new low path ≡ true
new-lower low top [] l h = refl
new-lower low top (s ∷ path) l h =
    let w = both (nat_lt top s.number) (are_new s.number path) h in
    let t = ltb-true top s.number w.0 in
    and-so (nat_lt low s.number) (are_new s.number path) (lt-ltb low s.number (omega (arith, t, l))) w.1

new-rest : (top : ℕ) (s : Step) (path : List Step) → are_new top (s ∷ path) ≡ true → are_new top path ≡ true
new-rest top s path h =
    let w = both (nat_lt top s.number) (are_new s.number path) h in
    let t = ltb-true top s.number w.0 in
    new-lower top s.number path (omega (arith, t)) w.1

new-chosen : (top : ℕ) (a b : Bool) (inside here behind : List Step) → are_new top inside ≡ true → are_new top here ≡ true → are_new top behind ≡ true
    → are_new top (choose a (λ _. inside) (λ _. choose b (λ _. here) (λ _. behind))) ≡ true
new-chosen top true b inside here behind i h r = i
new-chosen top false true inside here behind i h r = h
new-chosen top false false inside here behind i h r = r

-- whatever lines there are
new-behind : (top : ℕ) (path : List Step) (plan : Plan) → are_new top path ≡ true → are_new top (new_steps path plan) ≡ true
new-behind top [] nothing h = refl
new-behind top [] (a_line t cells inside rest) h = refl
new-behind top (s ∷ path) nothing h = h
new-behind top (s ∷ path) (a_line t cells inside rest) h =
    new-chosen top (same_step s t) (nat_lt s.number t.number) (new_steps path inside) (s ∷ path) (new_steps (s ∷ path) rest)
    (new-behind top path inside (new-rest top s path h)) h
    (new-behind top (s ∷ path) rest h)

-- ---- where a path begins as that of a line does, only what comes behind is new

abbrev found_in : List Step → Plan → Bool
found_in path inside = elim path [ [] ↦ true | (u ∷ further) ↦ finds (u ∷ further) inside ]

abbrev found_by : Bool → List Step → Plan → Bool → Bool
found_by same path inside behind = elim same [ true ↦ found_in path inside | false ↦ behind ]

front-by : (top : ℕ) (s : Step) (p q : List Step) (t : Step) (inside others : Plan) → (nat_lt s.number t.number ≡ true → finds (s ∷ q) others ≡ false)
    → (a b : Bool) → found_by a q inside (finds (s ∷ q) others) ≡ true → nat_lt s.number t.number ≡ b
    → (found_in q inside ≡ true → are_new top (new_steps p inside) ≡ true) → (finds (s ∷ q) others ≡ true → are_new top (new_steps (s ∷ p) others) ≡ true)
    → are_new top (choose a (λ _. new_steps p inside) (λ _. choose b (λ _. s ∷ p) (λ _. new_steps (s ∷ p) others))) ≡ true
front-by top s p q t inside others none true b h less i r = i h
front-by top s p q t inside others none false true h less i r = absurd (false≢true (sym (none less) ∙ h))
front-by top s p q t inside others none false false h less i r = r h

front-new : (top : ℕ) (s : Step) (front rest further : List Step) (plan : Plan) → Sorted plan → finds (s ∷ (front ++ further)) plan ≡ true
    → are_new top rest ≡ true
    → are_new top (new_steps (s ∷ (front ++ rest)) plan) ≡ true
front-new top s front rest further nothing sorted there new = absurd (false≢true there)
front-new top s [] rest further (a_line t cells inside others) sorted there new =
    front-by top s rest further t inside others (λ less. absent s t further others (ltb-true s.number t.number less) sorted.0) (same_step s t)
    (nat_lt s.number t.number) there refl
    (λ h. new-behind top rest inside new) (λ h. front-new top s [] rest further others sorted.1.1 h new)
front-new top s (u ∷ front) rest further (a_line t cells inside others) sorted there new =
    front-by top s (u ∷ (front ++ rest)) (u ∷ (front ++ further)) t inside others
    (λ less. absent s t (u ∷ (front ++ further)) others (ltb-true s.number t.number less) sorted.0)
    (same_step s t) (nat_lt s.number t.number) there refl
    (λ h. front-new top u front rest further inside sorted.1.0 h new) (λ h. front-new top s (u ∷ front) rest further others sorted.1.1 h new)

-- ---- elements by their names

not-nothing : (k : ElementName) (f : List ElementName) (b : Bool) → (length (k ∷ f) == 0) ≡ b → b ≡ false
not-nothing k f false e = refl
not-nothing k f true e = let z = eqb-true (length (k ∷ f)) 0 e in let w : ⊥ = omega (arith, z) in absurd w

no-names : (f : List ElementName) (b : Bool) → (length f == 0) ≡ b → b ≡ true → f ≡ []
no-names [] b e h = refl
no-names (k ∷ f) b e h = absurd (false≢true (sym (not-nothing k f b e) ∙ h))

-- the element at the end of the names has the last of them
at-by : (k : ElementName) (f : List ElementName) (n : ElementName) (t : Step) (path : List Step) (s : Step) (a c : Bool) → (length (k ∷ f) == 0) ≡ c
    → choose a (λ _. choose c (λ _. Some t) (λ _. at_names (k ∷ f) path)) (λ _. None) ≡ Some s → (at_names (k ∷ f) path ≡ Some s → n ≡ s.name) → n ≡ s.name
at-by k f n t path s true true e h r = absurd (false≢true (sym (not-nothing k f true e)))
at-by k f n t path s true false e h r = r h
at-by k f n t path s false c e h r = cc

last-by : (n : ElementName) (t s : Step) (a : Bool) → same_name n t.name ≡ a → choose a (λ _. Some t) (λ _. None) ≡ Some s → n ≡ s.name
last-by n t s true k h = name-sound n t.name k ∙ ap (λ (x : Step). x.name) (same_Some t s h)
last-by n t s false k h = cc

at-name : (before : List ElementName) (n : ElementName) (path : List Step) (s : Step) → at_names (before ++ n ∷ []) path ≡ Some s → n ≡ s.name
at-name [] n [] s h = cc
at-name (b ∷ before) n [] s h = cc
at-name [] n (t ∷ path) s h = last-by n t s (same_name n t.name) refl h
at-name (b ∷ []) n (t ∷ path) s h = at-by n [] n t path s (same_name b t.name) (length (n ∷ []) == 0) refl h (at-name [] n path s)
at-name (b ∷ c ∷ before) n (t ∷ path) s h =
    at-by c (before ++ n ∷ []) n t path s (same_name b t.name) (length (c ∷ (before ++ n ∷ [])) == 0) refl h (at-name (c ∷ before) n path s)

-- a row whose path has the names
record There (names : List ElementName) (rows : List Row) (s : Step) : Type 0 where
  row : Row
  among : Among row rows
  at : at_names names row.path ≡ Some s

there-by : (names : List ElementName) (row : Row) (rows : List Row) (s : Step) (o : Option Step) → at_names names row.path ≡ o
    → first_of o (first_at names rows) ≡ Some s
    → (first_at names rows ≡ Some s → There names rows s) → There names (row ∷ rows) s
there-by names row rows s None e h r = let x = r h in record { row = x.row; among = inr x.among; at = x.at }
there-by names row rows s (Some t) e h r = record { row = row; among = inl refl; at = e ∙ h }

first-there : (names : List ElementName) (rows : List Row) (s : Step) → first_at names rows ≡ Some s → There names rows s
first-there names [] s h = cc
first-there names (row ∷ rows) s h = there-by names row rows s (at_names names row.path) refl h (first-there names rows s)

first-name : (before : List ElementName) (n : ElementName) (rows : List Row) (s : Step) → first_at (before ++ n ∷ []) rows ≡ Some s → n ≡ s.name
first-name before n rows s h = let x = first-there (before ++ n ∷ []) rows s h in at-name before n x.row.path s x.at

step-by : (before : List ElementName) (n : ElementName) (rows : List Row) (top : ℕ) (o : Option Step) → first_at (before ++ n ∷ []) rows ≡ o
    → (step_for o n top).name ≡ n
step-by before n rows top None e = refl
step-by before n rows top (Some s) e = sym (first-name before n rows s e)

-- the path of names has these names
pub path-names : (rows : List Row) (top : ℕ) (before names : List ElementName) → map (λ (s : Step). s.name) (path_of rows top before names) ≡ names
path-names rows top before [] = refl
path-names rows top before (n ∷ names) =
    let o = first_at (before ++ n ∷ []) rows in
    λ i. step-by before n rows top o refl i ∷ path-names rows (top_behind o top) (before ++ n ∷ []) names i

-- ---- where names aren't found, no further ones are

none-by : (k : ElementName) (f g : List ElementName) (t : Step) (path : List Step) (a c d : Bool) → (length (k ∷ g) == 0) ≡ d
    → choose a (λ _. choose c (λ _. Some t) (λ _. at_names (k ∷ f) path)) (λ _. None) ≡ None → (at_names (k ∷ f) path ≡ None → at_names (k ∷ g) path ≡ None)
    → choose a (λ _. choose d (λ _. Some t) (λ _. at_names (k ∷ g) path)) (λ _. None) ≡ None
none-by k f g t path true true d e h r = cc
none-by k f g t path true false true e h r = absurd (false≢true (sym (not-nothing k g true e)))
none-by k f g t path true false false e h r = r h
none-by k f g t path false c d e h r = refl

one-by : (t : Step) (path : List Step) (m : ElementName) (a : Bool) → choose a (λ _. Some t) (λ _. None) ≡ None
    → choose a (λ _. choose (length (m ∷ []) == 0) (λ _. Some t) (λ _. at_names (m ∷ []) path)) (λ _. None) ≡ None
one-by t path m true h = cc
one-by t path m false h = refl

none-further : (n : ElementName) (f : List ElementName) (m : ElementName) (path : List Step) → at_names (n ∷ f) path ≡ None
    → at_names (n ∷ (f ++ m ∷ [])) path ≡ None
none-further n f m [] h = refl
none-further n [] m (t ∷ path) h = one-by t path m (same_name n t.name) h
none-further n (k ∷ f) m (t ∷ path) h =
    none-by k f (f ++ m ∷ []) t path (same_name n t.name) (length (k ∷ f) == 0) (length (k ∷ (f ++ m ∷ [])) == 0) refl h (none-further k f m path)

first-by : (o p : Option Step) (rest more : Option Step) → first_of o rest ≡ None → (o ≡ None → p ≡ None) → (rest ≡ None → more ≡ None) → first_of p more ≡ None
first-by None p rest more h f g = ap (λ x. first_of x more) (f refl) ∙ g h
first-by (Some s) p rest more h f g = cc

none-first : (n : ElementName) (f : List ElementName) (m : ElementName) (rows : List Row) → first_at (n ∷ f) rows ≡ None
    → first_at (n ∷ (f ++ m ∷ [])) rows ≡ None
none-first n f m [] h = refl
none-first n f m (row ∷ rows) h =
    first-by (at_names (n ∷ f) row.path) (at_names (n ∷ (f ++ m ∷ [])) row.path) (first_at (n ∷ f) rows) (first_at (n ∷ (f ++ m ∷ [])) rows) h
    (none-further n f m row.path)
    (none-first n f m rows)

none-behind : (before : List ElementName) (n m : ElementName) (rows : List Row) → first_at (before ++ n ∷ []) rows ≡ None
    → first_at ((before ++ n ∷ []) ++ m ∷ []) rows ≡ None
none-behind [] n m rows h = none-first n [] m rows h
none-behind (b ∷ before) n m rows h = none-first b (before ++ n ∷ []) m rows h

-- so all elements are new from there on
all-new : (rows : List Row) (top : ℕ) (before : List ElementName) (n : ElementName) (names : List ElementName) → first_at (before ++ n ∷ []) rows ≡ None
    → are_new top (path_of rows top before (n ∷ names)) ≡ true
all-new rows top before n [] h =
    ap (λ o. are_new top (step_for o n top ∷ [])) h ∙ and-so (nat_lt top (top + 1)) true (lt-ltb top (top + 1) (omega arith)) refl
all-new rows top before n (m ∷ names) h =
    ap (λ o. are_new top (step_for o n top ∷ path_of rows (top_behind o top) (before ++ n ∷ []) (m ∷ names))) h
    ∙ and-so (nat_lt top (top + 1)) (are_new (top + 1) (path_of rows (top + 1) (before ++ n ∷ []) (m ∷ names))) (lt-ltb top (top + 1) (omega arith))
    (all-new rows (top + 1) (before ++ n ∷ []) m names (none-behind before n m rows h))

-- ---- the elements of the table at the front of the path

-- a row whose path has the names
record Shared (rows : List Row) (names : List ElementName) : Type 0 where
  row : Row
  among : Among row rows
  step : Step
  at : at_names names row.path ≡ Some step

record Split (rows : List Row) (top : ℕ) (before : List ElementName) (path : List Step) : Type 0 where
  front : List Step
  rest : List Step
  names : List ElementName
  is : path ≡ front ++ rest
  called : map (λ (s : Step). s.name) front ≡ names
  new : are_new top rest ≡ true
  found : (names ≡ []) ⊎ Shared rows (before ++ names)

shared-by : (rows : List Row) (before : List ElementName) (n : ElementName) (names : List ElementName) (s : Step) → first_at (before ++ n ∷ []) rows ≡ Some s
    → (names ≡ []) ⊎ Shared rows ((before ++ n ∷ []) ++ names) → Shared rows (before ++ n ∷ names)
shared-by rows before n names s h (inl e) =
    let x = first-there (before ++ n ∷ []) rows s h in
    record { row = x.row; among = x.among; step = s; at = ap (λ l. at_names (before ++ n ∷ l) x.row.path) e ∙ x.at }
shared-by rows before n names s h (inr x) = record {
  row = x.row;
  among = x.among;
  step = x.step;
  at =
      ap (λ l. at_names l x.row.path) (sym (append_assoc before (n ∷ []) names)) ∙ x.at;
}

split-by : (rows : List Row) (top : ℕ) (before : List ElementName) (n : ElementName) (names : List ElementName) (o : Option Step)
    → first_at (before ++ n ∷ []) rows ≡ o
    → Split rows top (before ++ n ∷ []) (path_of rows top (before ++ n ∷ []) names) → Split rows top before (path_of rows top before (n ∷ names))
split-by rows top before n names None e r = record {
  front = [];
  rest = path_of rows top before (n ∷ names);
  names = [];
  is = refl;
  called = refl;
  new = all-new rows top before n names e;
  found = inl refl;
}
split-by rows top before n names (Some s) e r = record {
  front = step_for (Some s) n top ∷ r.front;
  rest = r.rest;
  names = n ∷ r.names;
  is = ap (λ o. step_for o n top ∷ path_of rows (top_behind o top) (before ++ n ∷ []) names) e ∙ ap (λ l. step_for (Some s) n top ∷ l) r.is;
  called = λ i. sym (first-name before n rows s e) i ∷ r.called i;
  new = r.new;
  found = inr (shared-by rows before n r.names s e r.found);
}

split : (rows : List Row) (top : ℕ) (before names : List ElementName) → Split rows top before (path_of rows top before names)
split rows top before [] = record { front = []; rest = []; names = []; is = refl; called = refl; new = refl; found = inl refl }
split rows top before (n ∷ names) = split-by rows top before n names (first_at (before ++ n ∷ []) rows) refl (split rows top (before ++ n ∷ []) names)

-- ---- where a row's path has the names, it begins so

record Begins (names : List ElementName) (path : List Step) : Type 0 where
  front : List Step
  further : List Step
  is : path ≡ front ++ further
  called : map (λ (s : Step). s.name) front ≡ names

begins-by : (n : ElementName) (names : List ElementName) (t : Step) (path : List Step) (s : Step) (a : Bool) → same_name n t.name ≡ a → (c : Bool)
    → (length names == 0) ≡ c
    → choose a (λ _. choose c (λ _. Some t) (λ _. at_names names path)) (λ _. None) ≡ Some s → (at_names names path ≡ Some s → Begins names path)
    → Begins (n ∷ names) (t ∷ path)
begins-by n names t path s true k true l h r =
    record { front = t ∷ []; further = path; is = refl; called = λ i. sym (name-sound n t.name k) i ∷ sym (no-names names true l refl) i }
begins-by n names t path s true k false l h r =
    let b = r h in
    record { front = t ∷ b.front; further = b.further; is = ap (λ p. t ∷ p) b.is; called = λ i. sym (name-sound n t.name k) i ∷ b.called i }
begins-by n names t path s false k c l h r = cc

begins : (names : List ElementName) (path : List Step) (s : Step) → at_names names path ≡ Some s → Begins names path
begins [] path s h = cc
begins (n ∷ names) [] s h = cc
begins (n ∷ names) (t ∷ path) s h = begins-by n names t path s (same_name n t.name) refl (length names == 0) refl h (begins names path s)

-- ---- two paths that part go through the same elements as long as they have the same names

abbrev first_name : ElementName → List ElementName → ElementName
first_name d [] = d
first_name d (n ∷ names) = n

abbrev names_behind : List ElementName → List ElementName
names_behind [] = []
names_behind (n ∷ names) = names

same-by : (s t : Step) (p q rest further : List Step) (a b : Bool) → same_name s.name t.name ≡ true → same_name s.name t.name ≡ a → same_step s t ≡ b
    → choose a (λ _. choose b (λ _. part_by_name (p ++ rest) (q ++ further)) (λ _. false)) (λ _. true) ≡ true
    → (part_by_name (p ++ rest) (q ++ further) ≡ true → p ≡ q) → s ∷ p ≡ t ∷ q
same-by s t p q rest further true true k e f h r = λ i. step-sound s t f i ∷ r h i
same-by s t p q rest further true false k e f h r = absurd (false≢true h)
same-by s t p q rest further false b k e f h r = absurd (false≢true (sym e ∙ k))

same-front : (p q rest further : List Step) → map (λ (s : Step). s.name) p ≡ map (λ (s : Step). s.name) q → part_by_name (p ++ rest) (q ++ further) ≡ true
    → p ≡ q
same-front [] [] rest further e h = refl
same-front [] (t ∷ q) rest further e h = cc
same-front (s ∷ p) [] rest further e h = cc
same-front (s ∷ p) (t ∷ q) rest further e h =
    let n : s.name ≡ t.name = ap (first_name s.name) e in
    same-by s t p q rest further (same_name s.name t.name) (same_step s t) (ap (same_name s.name) (sym n) ∙ name-itself s.name) refl refl h
    (same-front p q rest further (ap names_behind e))

-- ---- the new elements of the path

nothing-called : (p : List Step) → map (λ (s : Step). s.name) p ≡ [] → p ≡ []
nothing-called [] e = refl
nothing-called (s ∷ p) e = cc

front-there : (top : ℕ) (front rest further : List Step) (plan : Plan) → Sorted plan → finds (front ++ further) plan ≡ true → are_new top rest ≡ true
    → are_new top (new_steps (front ++ rest) plan) ≡ true
front-there top [] rest further plan sorted there new = new-behind top rest plan new
front-there top (s ∷ front) rest further plan sorted there new = front-new top s front rest further plan sorted there new

module _ (rows : List Row) (long : All (λ (r : Row). 0 < length r.path) rows) (names : List ElementName)
    (parts : (r : Row) → Among r rows → part_by_name (path_of rows (greatest rows) [] names) r.path ≡ true) where
  abbrev path : List Step
  path = path_of rows (greatest rows) [] names

  abbrev is_new : List Step → Type 0
  is_new p = are_new (greatest rows) (new_steps p (plan_of rows)) ≡ true

  new-by : (x : Split rows (greatest rows) [] path) → (x.names ≡ []) ⊎ Shared rows x.names → is_new path
  new-by x (inl e) =
      let none = nothing-called x.front (x.called ∙ e) in
      subst is_new (sym (x.is ∙ ap (λ f. f ++ x.rest) none)) (new-behind (greatest rows) x.rest (plan_of rows) x.new)
  new-by x (inr y) =
      let b = begins x.names y.row.path y.step y.at in
      let same = same-front x.front b.front x.rest b.further (x.called ∙ sym b.called) (subst (λ p. part_by_name p (b.front ++ b.further) ≡ true) x.is
      (subst (λ p. part_by_name path p ≡ true) b.is (parts y.row y.among))) in
      let there = found-row rows y.row y.among (all-holds (λ (r : Row). 0 < length r.path) y.row rows long y.among) in
      subst is_new (sym (x.is ∙ ap (λ f. f ++ x.rest) same))
      (front-there (greatest rows) b.front x.rest b.further (plan_of rows) (sorted-rows rows) (subst (λ p. finds p (plan_of rows) ≡ true) b.is there) x.new)

  pub path-new : are_new (greatest rows) (new_steps path (plan_of rows)) ≡ true
  path-new = let x = split rows (greatest rows) [] names in new-by x x.found

-- ---- the numbers of a table's lines are at most the greatest one

abbrev LowPath : ℕ → List Step → Type 0
LowPath top [] = Unit {0}
LowPath top (s ∷ path) = (s.number ≤ top) × LowPath top path

abbrev LowRows : ℕ → List Row → Type 0
LowRows top [] = Unit {0}
LowRows top (row ∷ rows) = LowPath top row.path × LowRows top rows

abbrev Low : ℕ → Plan → Type 0
Low top nothing = Unit {0}
Low top (a_line s cells inside rest) = (s.number ≤ top) × (Low top inside × Low top rest)

module _ (top : ℕ) (s : Step) (own : List Cell → List Cell) (deeper : Plan → Plan) (low : s.number ≤ top)
    (keeps : (inside : Plan) → Low top inside → Low top (deeper inside)) where
  low-by : (t : Step) (cells : List Cell) (inside rest : Plan) (a b : Bool) → Low top (a_line t cells inside rest) → Low top (into s own deeper rest)
      → Low top (choose a (λ _. a_line t (own cells) (deeper inside) rest)
      (λ _. choose b (λ _. a_line s (own []) (deeper nothing) (a_line t cells inside rest)) (λ _. a_line t cells inside (into s own deeper rest))))
  low-by t cells inside rest true b l later = (l.0, (keeps inside l.1.0, l.1.1))
  low-by t cells inside rest false true l later = (low, (keeps nothing tt, l))
  low-by t cells inside rest false false l later = (l.0, (l.1.0, later))

  low-into : (plan : Plan) → Low top plan → Low top (into s own deeper plan)
  low-into nothing l = (low, (keeps nothing tt, tt))
  low-into (a_line t cells inside rest) l = low-by t cells inside rest (same_step s t) (nat_lt s.number t.number) l (low-into rest l.1.1)

low-add : (top : ℕ) (cell : Cell) (path : List Step) (plan : Plan) → LowPath top path → Low top plan → Low top (add path cell plan)
low-add top cell [] plan p l = l
low-add top cell (s ∷ path) plan p l = low-into top s (own_cells path cell) (add path cell) p.0 (λ inside k. low-add top cell path inside p.1 k) plan l

low-grown : (top : ℕ) (rows : List Row) (n : ℕ) (plan : Plan) → LowRows top rows → Low top plan → Low top (grown plan n rows)
low-grown top [] n plan r l = l
low-grown top (row ∷ rows) n plan r l = let cell : Cell = record { number = n; row = row } in
    low-grown top rows (n + 1) (add row.path cell plan) r.1 (low-add top cell row.path plan r.0 l)

all-both : {X : Type 0} (p : X → Bool) (xs ys : List X) → list_all p xs ≡ true → list_all p ys ≡ true → list_all p (xs ++ ys) ≡ true
all-both p [] ys h k = k
all-both p (x ∷ xs) ys h k = let w = both (p x) (list_all p xs) h in and-so (p x) (list_all p (xs ++ ys)) w.0 (all-both p xs ys w.1 k)

low-numbers : (top : ℕ) (plan : Plan) → Low top plan → all_below top (element_numbers plan) ≡ true
low-numbers top nothing l = refl
low-numbers top (a_line s cells inside rest) l =
    and-so (nat_le s.number top) (all_below top (element_numbers inside ++ element_numbers rest)) (le-leb s.number top l.0)
    (all-both (λ n. nat_le n top) (element_numbers inside) (element_numbers rest) (low-numbers top inside l.1.0) (low-numbers top rest l.1.1))

grows : (m : ℕ) (path : List Step) → m ≤ fold max m (map (λ (s : Step). s.number) path)
grows m [] = omega arith
grows m (s ∷ path) = let h = grows (max m s.number) path in omega (arith, h)

grows-rows : (m : ℕ) (rows : List Row) → m ≤ fold greatest_on m rows
grows-rows m [] = omega arith
grows-rows m (row ∷ rows) =
    let g = grows m row.path in
    let h = grows-rows (greatest_on m row) rows in
    omega (arith, g, h)

in-path : (m : ℕ) (path : List Step) → LowPath (fold max m (map (λ (s : Step). s.number) path)) path
in-path m [] = tt
in-path m (s ∷ path) = let h = grows (max m s.number) path in (omega (arith, h), in-path (max m s.number) path)

path-higher : (low top : ℕ) (path : List Step) → low ≤ top → LowPath low path → LowPath top path
path-higher low top [] l p = tt
path-higher low top (s ∷ path) l p = let q = p.0 in (omega (arith, q, l), path-higher low top path l p.1)

in-rows : (m : ℕ) (rows : List Row) → LowRows (fold greatest_on m rows) rows
in-rows m [] = tt
in-rows m (row ∷ rows) = (
  path-higher (greatest_on m row) (fold greatest_on (greatest_on m row) rows) row.path (grows-rows (greatest_on m row) rows) (in-path m row.path),
  in-rows (greatest_on m row) rows,
)

pub lines-below : (rows : List Row) → all_below (greatest rows) (element_numbers (plan_of rows)) ≡ true
lines-below rows = low-numbers (greatest rows) (plan_of rows) (low-grown (greatest rows) rows 0 nothing (in-rows 0 rows) tt)
