-- No two lines of a table have one path.
use Rattle.std.proofs.Common.{◌≡◌, ℕ, zero, suc, ◌+◌, ◌<◌, ◌≤◌, Bool, true, false, List, [], ◌∷◌, ◌++◌, Option, Some, None, refl, sym, ap, ◌∙◌, subst, arith}
use Rattle.std.proofs.Common.{append_assoc}
use Rattle.std.specs.Prelude.{nat_lt, slice_get}
use Rattle.std.specs.Cmp.Lexicographic.{pointwise}
use Rattle.std.specs.Str.{bytes_eq}
use Rattle.std.proofs.lemmas.Bool.{eq-eqb, ltb-true, ltb-false, and_from, false≢true}
use Rattle.std.proofs.lemmas.List.{append_cancel_left}
use Rattle.std.proofs.lemmas.Slice.Eq.{bytes_eq-Decides}
use Rattle.term_table.specs.declared.groups.Group.{Group}
use Rattle.term_table.specs.Groups as terms
use Rattle.bind_rows.specs.declared.names.ElementName.{ElementName}
use Rattle.bind_rows.specs.declared.names.Leaf.{Leaf}
use Rattle.bind_rows.specs.declared.names.Leaf.TheVariants as leaves
use Rattle.bind_rows.specs.declared.guards.Test.{Test}
use Rattle.bind_rows.specs.declared.guards.Test.TheVariants as tests
use Rattle.bind_rows.specs.declared.guards.Guard.{Guard}
use Rattle.bind_rows.specs.declared.rows.Row.{Row}
use Rattle.bind_rows.specs.declared.rows.Step.{Step}
use Rattle.bind_rows.specs.Same.{number_of, same_name, same_leaf, same_test, same_guard, same_or_none, same_flag, same_rest_of_step, same_step, choose}
use Rattle.bind_table.specs.Lines.{Cell, Plan, nothing, a_line, own_cells, into, add, grown, plan_of}
use Rattle.bind_table.specs.Paths.{line_paths}

-- ---- a step is the same as itself

text-itself : (a : List ℕ) → bytes_eq a a ≡ true
text-itself a = (bytes_eq-Decides a a).1 refl

pub each-itself : {X : Type 0} (same : X → X → Bool) → ((x : X) → same x x ≡ true) → (xs : List X) → pointwise same xs xs ≡ true
each-itself same h [] = refl
each-itself same h (x ∷ xs) = and_from _ _ (h x) (each-itself same h xs)

pub name-itself : (a : ElementName) → same_name a a ≡ true
name-itself a = and_from _ _ (eq-eqb (number_of a.namespace) (number_of a.namespace) refl) (text-itself a.local)

leaf-itself : (a : Leaf) → same_leaf a a ≡ true
leaf-itself leaves.Element = refl
leaf-itself (leaves.Attribute a) = text-itself a

test-itself : (a : Test) → same_test a a ≡ true
test-itself (tests.OneOf a) = each-itself bytes_eq text-itself a
test-itself (tests.NoneOf a) = each-itself bytes_eq text-itself a
test-itself tests.Present = refl
test-itself tests.Absent = refl

guard-itself : (a : Guard) → same_guard a a ≡ true
guard-itself a = and_from _ _ (and_from _ _ (each-itself same_name name-itself a.place.path) (leaf-itself a.place.leaf)) (test-itself a.test)

flag-itself : (a : Bool) → same_flag a a ≡ true
flag-itself true = refl
flag-itself false = refl

pub group-itself : (a : Option Group) → same_or_none a a ≡ true
group-itself None = refl
group-itself (Some a) = eq-eqb (terms.number_of a) (terms.number_of a) refl

pub step-itself : (a : Step) → same_step a a ≡ true
step-itself a =
    ap (λ b. choose b (λ _. same_rest_of_step a a) (λ _. false)) (eq-eqb a.number a.number refl)
    ∙ and_from _ _ (name-itself a.name) (and_from _ _ (flag-itself a.always)
    (and_from _ _ (group-itself a.group) (each-itself same_guard guard-itself a.guards)))

-- ---- lines beside one another differ

-- The step stands before these lines, by its number, and is none of theirs.
abbrev Past : Step → Plan → Type 0
Past s nothing = Unit {0}
Past s (a_line t cells inside rest) = (s.number ≤ t.number) × ((s ≡ t → ⊥) × Past s rest)

abbrev Apart : Plan → Type 0
Apart nothing = Unit {0}
Apart (a_line s cells inside rest) = Past s rest × (Apart inside × Apart rest)

past-below : (s t : Step) → s.number < t.number → (plan : Plan) → Past t plan → Past s plan
past-below s t below nothing p = tt
past-below s t below (a_line u cells inside rest) p =
    (omega (arith, below, p.0), ((λ e. (let n = ap (λ (r : Step). r.number) e in omega (arith, below, p.0, n))), past-below s t below rest p.1.1))

other : (s t : Step) → same_step s t ≡ false → t ≡ s → ⊥
other s t e same = false≢true (sym e ∙ (ap (same_step s) same ∙ step-itself s))

module _ (s : Step) (own : List Cell → List Cell) (deeper : Plan → Plan) (keeps : (plan : Plan) → Apart plan → Apart (deeper plan)) where
  past-by : (r t : Step) (cells : List Cell) (inside rest : Plan) (a b : Bool) → r.number ≤ s.number → (r ≡ s → ⊥) → Past r (a_line t cells inside rest)
      → Past r (into s own deeper rest)
      → Past r (choose a (λ _. a_line t (own cells) (deeper inside) rest)
      (λ _. choose b (λ _. a_line s (own []) (deeper nothing) (a_line t cells inside rest)) (λ _. a_line t cells inside (into s own deeper rest))))
  past-by r t cells inside rest true b low ne p later = p
  past-by r t cells inside rest false true low ne p later = (low, (ne, p))
  past-by r t cells inside rest false false low ne p later = (p.0, (p.1.0, later))

  past-into : (r : Step) → r.number ≤ s.number → (r ≡ s → ⊥) → (plan : Plan) → Past r plan → Past r (into s own deeper plan)
  past-into r low ne nothing p = (low, (ne, tt))
  past-into r low ne (a_line t cells inside rest) p = past-by r t cells inside rest (same_step s t) (nat_lt s.number t.number) low ne p
      (past-into r low ne rest p.1.1)

  apart-by : (t : Step) (cells : List Cell) (inside rest : Plan) (a b : Bool) → same_step s t ≡ a → nat_lt s.number t.number ≡ b
      → Apart (a_line t cells inside rest) → Apart (into s own deeper rest)
      → Apart (choose a (λ _. a_line t (own cells) (deeper inside) rest)
      (λ _. choose b (λ _. a_line s (own []) (deeper nothing) (a_line t cells inside rest)) (λ _. a_line t cells inside (into s own deeper rest))))
  apart-by t cells inside rest true b same less p later = (p.0, (keeps inside p.1.0, p.1.1))
  apart-by t cells inside rest false true same less p later =
      let below = ltb-true s.number t.number less in (
        (omega (arith, below), ((λ e. (let n = ap (λ (r : Step). r.number) e in omega (arith, below, n))), past-below s t below rest p.0)),
        (keeps nothing tt, p),
      )
  apart-by t cells inside rest false false same less p later = (past-into t (ltb-false s.number t.number less) (other s t same) rest p.0, (p.1.0, later))

  apart-into : (plan : Plan) → Apart plan → Apart (into s own deeper plan)
  apart-into nothing p = (tt, (keeps nothing tt, tt))
  apart-into (a_line t cells inside rest) p = apart-by t cells inside rest (same_step s t) (nat_lt s.number t.number) refl refl p (apart-into rest p.1.1)

apart-add : (cell : Cell) (path : List Step) (plan : Plan) → Apart plan → Apart (add path cell plan)
apart-add cell [] plan p = p
apart-add cell (s ∷ steps) plan p = apart-into s (own_cells steps cell) (add steps cell) (apart-add cell steps) plan p

apart-grown : (plan : Plan) (n : ℕ) (rows : List Row) → Apart plan → Apart (grown plan n rows)
apart-grown plan n [] p = p
apart-grown plan n (row ∷ rows) p = let cell : Cell = record { number = n; row = row } in apart-grown (add row.path cell plan) (n + 1) rows
    (apart-add cell row.path plan p)

-- ---- paths of lines differ

abbrev Every : (List Step → Type 0) → List (List Step) → Type 0
Every P [] = Unit {0}
Every P (x ∷ xs) = P x × Every P xs

abbrev Differ : List (List Step) → Type 0
Differ [] = Unit {0}
Differ (x ∷ xs) = Every (λ y. x ≡ y → ⊥) xs × Differ xs

every-append : (P : List Step → Type 0) (xs ys : List (List Step)) → Every P xs → Every P ys → Every P (xs ++ ys)
every-append P [] ys h k = k
every-append P (x ∷ xs) ys h k = (h.0, every-append P xs ys h.1 k)

every-weaker : (P Q : List Step → Type 0) → ((x : List Step) → P x → Q x) → (xs : List (List Step)) → Every P xs → Every Q xs
every-weaker P Q f [] h = tt
every-weaker P Q f (x ∷ xs) h = (f x h.0, every-weaker P Q f xs h.1)

differ-append : (xs ys : List (List Step)) → Differ xs → Differ ys → Every (λ x. Every (λ y. x ≡ y → ⊥) ys) xs → Differ (xs ++ ys)
differ-append [] ys h k c = k
differ-append (x ∷ xs) ys h k c = (every-append (λ y. x ≡ y → ⊥) xs ys h.0 c.0, differ-append xs ys h.1 k c.1)

-- the path begins with these steps, and goes on
record GoesOn (above path : List Step) : Type 0 where
  next : Step
  more : List Step
  is : path ≡ above ++ (next ∷ more)

below : (above : List Step) (plan : Plan) → Every (GoesOn above) (line_paths above plan)
below above nothing = tt
below above (a_line s cells inside rest) = (
  record { next = s; more = []; is = refl },
  every-append (GoesOn above) (line_paths (above ++ s ∷ []) inside) (line_paths above rest)
      (every-weaker (GoesOn (above ++ s ∷ [])) (GoesOn above) (λ x g. record {
        next = s;
        more = g.next ∷ g.more;
        is = g.is
            ∙ append_assoc above (s ∷ []) (g.next ∷ g.more);
      }) (line_paths (above ++ s ∷ []) inside) (below (above ++ s ∷ []) inside))
      (below above rest),
)

first-step : (above : List Step) (s t : Step) (xs ys : List Step) → above ++ (s ∷ xs) ≡ above ++ (t ∷ ys) → (s ≡ t) × (xs ≡ ys)
first-step above s t xs ys e = let k : s ∷ xs ≡ t ∷ ys = append_cancel_left above (s ∷ xs) (t ∷ ys) e in (cc, cc)

-- no path of lines beside begins with the step
avoids : (s : Step) (above : List Step) (plan : Plan) → Past s plan → Every (λ path. (xs : List Step) → above ++ (s ∷ xs) ≡ path → ⊥) (line_paths above plan)
avoids s above nothing p = tt
avoids s above (a_line t cells inside rest) p = (
  (λ xs e. p.1.0 (first-step above s t xs [] e).0),
  every-append (λ path. (xs : List Step) → above ++ (s ∷ xs) ≡ path → ⊥) (line_paths (above ++ t ∷ []) inside) (line_paths above rest)
      (every-weaker (GoesOn (above ++ t ∷ [])) (λ path. (xs : List Step) → above ++ (s ∷ xs) ≡ path → ⊥)
      (λ path g xs e. p.1.0 (first-step above s t xs (g.next ∷ g.more) (e ∙ (g.is ∙ append_assoc above (t ∷ []) (g.next ∷ g.more)))).0)
      (line_paths (above ++ t ∷ []) inside) (below (above ++ t ∷ []) inside))
      (avoids s above rest p.1.1),
)

differ : (above : List Step) (plan : Plan) → Apart plan → Differ (line_paths above plan)
differ above nothing p = tt
differ above (a_line s cells inside rest) p =
    let own = above ++ s ∷ [] in
    let within = line_paths own inside in
    let beside = line_paths above rest in
    let no = avoids s above rest p.0 in (
      every-append (λ y. own ≡ y → ⊥) within beside
          (every-weaker (GoesOn own) (λ y. own ≡ y → ⊥) (λ y g e. longer own g.next g.more (e ∙ g.is)) within (below own inside))
          (every-weaker (λ path. (xs : List Step) → above ++ (s ∷ xs) ≡ path → ⊥) (λ y. own ≡ y → ⊥) (λ y f. f []) beside no),
      differ-append within beside (differ own inside p.1.0) (differ above rest p.1.1)
          (every-weaker (GoesOn own) (λ x. Every (λ y. x ≡ y → ⊥) beside)
          (λ x g. every-weaker (λ path. (xs : List Step) → above ++ (s ∷ xs) ≡ path → ⊥) (λ y. x ≡ y → ⊥)
          (λ y f e. f (g.next ∷ g.more) (sym (g.is ∙ append_assoc above (s ∷ []) (g.next ∷ g.more)) ∙ e)) beside no)
          within (below own inside)),
    )
  where
    longer : (xs : List Step) (y : Step) (ys : List Step) → xs ≡ xs ++ (y ∷ ys) → ⊥
    longer [] y ys e = cc
    longer (x ∷ xs) y ys e = longer xs y ys (tail x xs (xs ++ (y ∷ ys)) e)
      where
        tail : (x : Step) (ps qs : List Step) → x ∷ ps ≡ x ∷ qs → ps ≡ qs
        tail x ps qs e = cc

every-got : (P : List Step → Type 0) (xs : List (List Step)) (i : ℕ) (x : List Step) → Every P xs → slice_get xs i ≡ Some x → P x
every-got P [] i x h e = cc
every-got P (y ∷ xs) zero x h e = let k : y ≡ x = cc in subst P k h.0
every-got P (y ∷ xs) (suc i) x h e = every-got P xs i x h.1 e

once : (xs : List (List Step)) (i j : ℕ) (x : List Step) → Differ xs → slice_get xs i ≡ Some x → slice_get xs j ≡ Some x → i ≡ j
once [] i j x h e f = cc
once (y ∷ xs) zero zero x h e f = refl
once (y ∷ xs) zero (suc j) x h e f = absurd (every-got (λ z. y ≡ z → ⊥) xs j x h.0 f (let k : y ≡ x = cc in k))
once (y ∷ xs) (suc i) zero x h e f = absurd (every-got (λ z. y ≡ z → ⊥) xs i x h.0 e (let k : y ≡ x = cc in k))
once (y ∷ xs) (suc i) (suc j) x h e f = ap suc (once xs i j x h.1 e f)

pub one-path : (rows : List Row) (i j : ℕ) (path : List Step) → slice_get (line_paths [] (plan_of rows)) i ≡ Some path
    → slice_get (line_paths [] (plan_of rows)) j ≡ Some path → i ≡ j
one-path rows i j path e f = once (line_paths [] (plan_of rows)) i j path (differ [] (plan_of rows) (apart-grown nothing 0 rows tt)) e f
