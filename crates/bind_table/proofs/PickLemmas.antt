-- What rows pick, each by itself, is what the walk over lines picks.
use Rattle.std.proofs.Common.{◌≡◌, ℕ, ◌+◌, ◌<◌, Bool, true, false, List, [], ◌∷◌, ◌++◌, length, Option, Some, None, refl, sym, ap, ◌∙◌, subst, arith}
use Rattle.std.proofs.Common.{append_assoc}
use Rattle.std.specs.Prelude.{nat_lt, All}
use Rattle.std.specs.List.{flat_map}
use Rattle.std.specs.List.Sorted.{IsPermutation}
use Rattle.std.proofs.lemmas.List.{append-nil}
use Rattle.std.proofs.lemmas.List.Concat.{flat_map-append}
use Rattle.std.proofs.lemmas.List.Elements.{All-head, All-tail}
use Rattle.std.proofs.lemmas.List.Sorted.{IsPermutation-refl, IsPermutation-sym, IsPermutation-trans, IsPermutation-append, IsPermutation-append_comm}
use Rattle.std.proofs.lemmas.List.Sorted.{IsPermutation-append_left, IsPermutation-append_right}
use Rattle.term_table.specs.declared.groups.Group.{Group}
use Rattle.bind_rows.specs.declared.rows.Row.{Row}
use Rattle.bind_rows.specs.declared.rows.Step.{Step}
use Rattle.bind_rows.specs.Same.{same_step, choose}
use Rattle.bind_table.specs.Lines.{Cell, Plan, nothing, a_line, own_cells, into, add, grown, plan_of}
use Rattle.bind_table.specs.Picks.{Sight, entered, through, picked, picked_from, here, walked}
use Rattle.bind_table.proofs.SameLemmas.{step-sound}

pub same-perm : {A : Type 0} (xs ys : List A) → xs ≡ ys → IsPermutation xs ys
same-perm xs ys e = subst (IsPermutation xs) e (IsPermutation-refl xs)

-- b and c change places
pub between : {A : Type 0} (b c d : List A) → IsPermutation (b ++ (c ++ d)) (c ++ (b ++ d))
between b c d =
    IsPermutation-trans _ _ _ (same-perm _ _ (sym (append_assoc b c d)))
    (IsPermutation-trans _ _ _ (IsPermutation-append_left d (b ++ c) (c ++ b) (IsPermutation-append_comm b c)) (same-perm _ _ (append_assoc c b d)))

pub crossed : {A : Type 0} (a b c d : List A) → IsPermutation ((a ++ b) ++ (c ++ d)) ((a ++ c) ++ (b ++ d))
crossed a b c d =
    IsPermutation-trans _ _ _ (same-perm _ _ (append_assoc a b (c ++ d)))
    (IsPermutation-trans _ _ _ (IsPermutation-append_right a (b ++ (c ++ d)) (c ++ (b ++ d)) (between b c d)) (same-perm _ _ (sym (append_assoc a c (b ++ d)))))

module _ {X C P : Type 0} (see : Sight X C P) where
  flat_map-perm : (f g : X → List P) → ((y : X) → IsPermutation (f y) (g y)) → (xs : List X) → IsPermutation (flat_map f xs) (flat_map g xs)
  flat_map-perm f g h [] = IsPermutation-refl []
  flat_map-perm f g h (x ∷ xs) = IsPermutation-append _ _ _ _ (h x) (flat_map-perm f g h xs)

  flat_map-both : (f g : X → List P) (xs : List X) → IsPermutation (flat_map (λ y. f y ++ g y) xs) (flat_map f xs ++ flat_map g xs)
  flat_map-both f g [] = IsPermutation-refl []
  flat_map-both f g (x ∷ xs) =
      IsPermutation-trans _ _ _ (IsPermutation-append_right (f x ++ g x) _ _ (flat_map-both f g xs)) (crossed (f x) (g x) (flat_map f xs) (flat_map g xs))

  through-perm : (f g : C → X → List P) → ((c : C) (y : X) → IsPermutation (f c y) (g c y)) → (group : Option Group) (c : C) (xs : List X)
      → IsPermutation (through see f group c xs) (through see g group c xs)
  through-perm f g h group c xs = flat_map-perm (λ x. f (entered see.enter group x c) x) (λ x. g (entered see.enter group x c) x)
      (λ x. h (entered see.enter group x c) x) xs

  through-both : (f g : C → X → List P) (group : Option Group) (c : C) (xs : List X)
      → IsPermutation (through see (λ c y. f c y ++ g c y) group c xs) (through see f group c xs ++ through see g group c xs)
  through-both f g group c xs = flat_map-both (λ x. f (entered see.enter group x c) x) (λ x. g (entered see.enter group x c) x) xs

  -- ---- a line's cells and inside are changed, so that more is picked there

  module _ (own : List Cell → List Cell) (deeper : Plan → Plan) (more : C → X → List P) (within : C → X → List P)
      (own-more : (cells : List Cell) (c : C) (y : X) → IsPermutation (here see (own cells) c y) (more c y ++ here see cells c y))
      (deeper-more : (plan : Plan) (c : C) (y : X) → IsPermutation (walked see (deeper plan) c y) (within c y ++ walked see plan c y)) where
    abbrev all_more : C → X → List P
    all_more c y = more c y ++ within c y

    line-more : (cells : List Cell) (inside : Plan) (group : Option Group) (c : C) (xs : List X)
        → IsPermutation (through see (λ c y. here see (own cells) c y ++ walked see (deeper inside) c y) group c xs)
        (through see all_more group c xs ++ through see (λ c y. here see cells c y ++ walked see inside c y) group c xs)
    line-more cells inside group c xs =
        IsPermutation-trans _ _ _
        (through-perm _ (λ c y. all_more c y ++ (here see cells c y ++ walked see inside c y))
        (λ c y. IsPermutation-trans _ _ _ (IsPermutation-append _ _ _ _ (own-more cells c y) (deeper-more inside c y))
        (crossed (more c y) (here see cells c y) (within c y) (walked see inside c y)))
        group c xs)
        (through-both all_more (λ c y. here see cells c y ++ walked see inside c y) group c xs)

    line-new : (group : Option Group) (c : C) (xs : List X)
        → IsPermutation (through see (λ c y. here see (own []) c y ++ walked see (deeper nothing) c y) group c xs) (through see all_more group c xs)
    line-new group c xs =
        through-perm _ all_more
        (λ c y. IsPermutation-trans _ _ _ (IsPermutation-append _ _ _ _ (own-more [] c y) (deeper-more nothing c y))
        (same-perm _ _ (ap (λ zs. zs ++ (within c y ++ [])) (append-nil (more c y)) ∙ ap (λ zs. more c y ++ zs) (append-nil (within c y)))))
        group c xs

    same_line : (s t : Step) (cells : List Cell) (inside rest : Plan) (c : C) (x : X) → s ≡ t
        → IsPermutation (walked see (a_line t (own cells) (deeper inside) rest) c x)
        (through see all_more s.group c (see.met s x) ++ walked see (a_line t cells inside rest) c x)
    same_line s t cells inside rest c x e =
        let line = through see (λ c y. here see cells c y ++ walked see inside c y) t.group c (see.met t x) in
        let P : Step → Type 0 = λ r. IsPermutation (walked see (a_line t (own cells) (deeper inside) rest) c x)
        (through see all_more r.group c (see.met r x) ++ (line ++ walked see rest c x)) in
        subst P (sym e)
        (IsPermutation-trans _ _ _ (IsPermutation-append_left (walked see rest c x) _ _ (line-more cells inside t.group c (see.met t x)))
        (same-perm _ _ (append_assoc (through see all_more t.group c (see.met t x)) line (walked see rest c x))))

    by : (s t : Step) (cells : List Cell) (inside rest : Plan) (c : C) (x : X) (a b : Bool) → (a ≡ true → s ≡ t)
        → IsPermutation (walked see (into s own deeper rest) c x) (through see all_more s.group c (see.met s x) ++ walked see rest c x)
        → IsPermutation (walked see (choose a (λ _. a_line t (own cells) (deeper inside) rest)
        (λ _. choose b (λ _. a_line s (own []) (deeper nothing) (a_line t cells inside rest)) (λ _. a_line t cells inside (into s own deeper rest)))) c x)
        (through see all_more s.group c (see.met s x) ++ walked see (a_line t cells inside rest) c x)
    by s t cells inside rest c x true b sound others = same_line s t cells inside rest c x (sound refl)
    by s t cells inside rest c x false true sound others = IsPermutation-append_left (walked see (a_line t cells inside rest) c x) _ _
        (line-new s.group c (see.met s x))
    by s t cells inside rest c x false false sound others =
        let line = through see (λ c y. here see cells c y ++ walked see inside c y) t.group c (see.met t x) in
        IsPermutation-trans _ _ _ (IsPermutation-append_right line _ _ others)
        (between line (through see all_more s.group c (see.met s x)) (walked see rest c x))

    into-more : (s : Step) (plan : Plan) (c : C) (x : X) → IsPermutation (walked see (into s own deeper plan) c x)
        (through see all_more s.group c (see.met s x) ++ walked see plan c x)
    into-more s nothing c x = IsPermutation-append_left [] _ _ (line-new s.group c (see.met s x))
    into-more s (a_line t cells inside rest) c x = by s t cells inside rest c x (same_step s t) (nat_lt s.number t.number) (step-sound s t)
        (into-more s rest c x)

  -- ---- a row is added

  abbrev more_here : Cell → List Step → C → X → List P
  more_here cell [] c y = see.told cell c y
  more_here cell (s ∷ steps) c y = []

  abbrev more_within : Cell → List Step → C → X → List P
  more_within cell [] c y = []
  more_within cell (s ∷ steps) c y = picked see cell (s ∷ steps) c y

  more-is : (cell : Cell) (steps : List Step) (c : C) (y : X) → (more_here cell steps c y ++ more_within cell steps c y) ≡ picked see cell steps c y
  more-is cell [] c y = append-nil _
  more-is cell (s ∷ steps) c y = refl

  own-is : (cell : Cell) (steps : List Step) (cells : List Cell) (c : C) (y : X)
      → IsPermutation (here see (own_cells steps cell cells) c y) (more_here cell steps c y ++ here see cells c y)
  own-is cell [] cells c y =
      IsPermutation-trans _ _ _ (same-perm _ _ (flat_map-append (λ k. see.told k c y) cells (cell ∷ [])))
      (IsPermutation-trans _ _ _ (IsPermutation-append_comm (here see cells c y) (see.told cell c y ++ []))
      (same-perm _ _ (ap (λ zs. zs ++ here see cells c y) (append-nil (see.told cell c y)))))
  own-is cell (s ∷ steps) cells c y = IsPermutation-refl _

  add-more : (cell : Cell) (steps : List Step) (plan : Plan) (c : C) (x : X)
      → IsPermutation (walked see (add steps cell plan) c x) (more_within cell steps c x ++ walked see plan c x)
  add-more cell [] plan c x = IsPermutation-refl _
  add-more cell (s ∷ steps) plan c x =
      IsPermutation-trans _ _ _
      (into-more (own_cells steps cell) (add steps cell) (more_here cell steps) (more_within cell steps) (own-is cell steps) (add-more cell steps) s plan c x)
      (IsPermutation-append_left (walked see plan c x) _ _
      (through-perm (λ c y. more_here cell steps c y ++ more_within cell steps c y) (picked see cell steps)
      (λ c y. same-perm _ _ (more-is cell steps c y)) s.group c (see.met s x)))

  path-more : (cell : Cell) (path : List Step) (plan : Plan) (c : C) (x : X) → 0 < length path
      → IsPermutation (walked see (add path cell plan) c x) (picked see cell path c x ++ walked see plan c x)
  path-more cell [] plan c x h = absurd (omega arith)
  path-more cell (s ∷ path) plan c x h = add-more cell (s ∷ path) plan c x

  grown-more : (plan : Plan) (n : ℕ) (rows : List Row) (c : C) (x : X) → All (λ (r : Row). 0 < length r.path) rows
      → IsPermutation (picked_from see n rows c x ++ walked see plan c x) (walked see (grown plan n rows) c x)
  grown-more plan n [] c x long = IsPermutation-refl _
  grown-more plan n (row ∷ rows) c x long =
      let cell : Cell = record { number = n; row = row } in
      let one = picked see cell row.path c x in
      let others = picked_from see (n + 1) rows c x in
      IsPermutation-trans _ _ _ (same-perm _ _ (append_assoc one others (walked see plan c x)))
      (IsPermutation-trans _ _ _ (between one others (walked see plan c x))
      (IsPermutation-trans _ _ _
      (IsPermutation-append_right others _ _
      (IsPermutation-sym _ _ (path-more cell row.path plan c x (All-head (λ (r : Row). 0 < length r.path) row rows long))))
      (grown-more (add row.path cell plan) (n + 1) rows c x (All-tail (λ (r : Row). 0 < length r.path) row rows long))))

  pub rows-and-lines : (rows : List Row) (c : C) (x : X) → All (λ (r : Row). 0 < length r.path) rows
      → IsPermutation (picked_from see 0 rows c x) (walked see (plan_of rows) c x)
  rows-and-lines rows c x long = IsPermutation-trans _ _ _ (same-perm _ _ (sym (append-nil (picked_from see 0 rows c x)))) (grown-more nothing 0 rows c x long)
