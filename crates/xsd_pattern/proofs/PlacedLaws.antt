-- Tokens whose classes are named by their places are read as the tokens themselves.
use Rattle.std.proofs.Common.{◌≡◌, ℕ, suc, Bool, false, List, [], ◌∷◌, ◌++◌, length, Option, Some, None, inl, inr, refl, sym, ap, ◌∙◌, append_assoc}
use Rattle.std.specs.List.{slice_get}
use Rattle.xsd_pattern.specs.declared.token.Class.{Class}
use Rattle.xsd_pattern.specs.declared.token.Token.{Token}
use Rattle.xsd_pattern.specs.declared.token.Token.TheVariants as k
use Rattle.xsd_pattern.specs.Classes.{has, any}
use Rattle.xsd_pattern.specs.Grammar.{Re, Branch, Piece, Atom, Top}
use Rattle.xsd_pattern.specs.Grammar as g
use Rattle.xsd_pattern.specs.Finding.{InRe, InBranch, InAtom, FindsLine, Finds}
use Rattle.xsd_pattern.specs.Machine.{Algebra, State, at, fresh, nothing, an_atom, ended}
use Rattle.xsd_pattern.specs.Machine as m
use Rattle.xsd_pattern.specs.Steps.{in_token, has_at}
use Rattle.xsd_pattern.specs.States.{placed, placed_from}
use Rattle.xsd_pattern.proofs.Trees.{trees}
use Rattle.xsd_pattern.proofs.Repeats.{parted_map}

-- ---- reading tokens through a function of what they carry

abbrev pub map_token : {C D : Type 0} → (D → C) → Token D → Token C
map_token f (k.Item d) = k.Item (f d)
map_token f (k.Quantifier q) = k.Quantifier q
map_token f k.Opens = k.Opens
map_token f k.Closes = k.Closes
map_token f k.Bar = k.Bar
map_token f k.Begins = k.Begins
map_token f k.Ends = k.Ends

abbrev pub map_tokens : {C D : Type 0} → (D → C) → List (Token D) → List (Token C)
map_tokens f [] = []
map_tokens f (token ∷ tokens) = map_token f token ∷ map_tokens f tokens

module _ {C D R B A T : Type 0} (alg : Algebra C R B A T) (f : D → C) where
  abbrev pub through : Algebra D R B A T
  through = record {
    only = alg.only;
    or = alg.or;
    none = alg.none;
    once = alg.once;
    many = alg.many;
    one = λ d. alg.one (f d);
    group = alg.group;
    line = alg.line;
    lines = alg.lines;
  }

  step-through : (token : Token D) (s : State R B A T) → m.step alg (map_token f token) s ≡ m.step through token s
  step-through (k.Item d) (at t s fs r b l) = refl
  step-through (k.Quantifier q) (at t s fs r b l) = refl
  step-through k.Opens (at t s fs r b l) = refl
  step-through k.Closes (at t s fs r b l) = refl
  step-through k.Bar (at t s fs r b l) = refl
  step-through k.Begins (at t s fs r b l) = refl
  step-through k.Ends (at t s fs r b l) = refl

  abbrev goes_on : List (Token D) → Option (State R B A T) → Option (State R B A T)
  goes_on tokens None = None
  goes_on tokens (Some s) = m.run alg (map_tokens f tokens) s

  abbrev goes_through : List (Token D) → Option (State R B A T) → Option (State R B A T)
  goes_through tokens None = None
  goes_through tokens (Some s) = m.run through tokens s

  run-through : (tokens : List (Token D)) (s : State R B A T) → m.run alg (map_tokens f tokens) s ≡ m.run through tokens s
  run-through [] s = refl
  run-through (token ∷ tokens) s = ap (goes_on tokens) (step-through token s)
      ∙ elim (m.step through token s) as (λ o. goes_on tokens o ≡ goes_through tokens o) [ None ↦ refl | Some s' ↦ run-through tokens s' ]

  abbrev finish : Option (State R B A T) → Option T
  finish None = None
  finish (Some s) = m.finished alg s

  abbrev finish_through : Option (State R B A T) → Option T
  finish_through None = None
  finish_through (Some s) = m.finished through s

  finished-through : (s : State R B A T) → m.finished alg s ≡ m.finished through s
  finished-through (at t s fs r b l) = refl

  finish-through : (o : Option (State R B A T)) → finish o ≡ finish_through o
  finish-through None = refl
  finish-through (Some s) = finished-through s

  pub read-through : (tokens : List (Token D)) → m.read alg (map_tokens f tokens) ≡ m.read through tokens
  read-through tokens = ap finish (run-through tokens (m.start alg)) ∙ finish-through (m.run through tokens (m.start through))

-- ---- texts of trees, through such a function

module _ {C D : Type 0} (hasC : C → ℕ → Bool) (f : D → C) where
  abbrev pub has_through : D → ℕ → Bool
  has_through d c = hasC (f d) c

  abbrev pub tree_through : Algebra D (Re C) (Branch C) (Atom C) (Top C)
  tree_through = through trees f

  mutual
    re-to : (x : Re D) (t : List ℕ) → InRe hasC (m.of_re tree_through x) t → InRe has_through x t
    re-to (g.only b) t h = branch-to b t h
    re-to (g.or x b) t (inl h) = inl (re-to x t h)
    re-to (g.or x b) t (inr h) = inr (branch-to b t h)

    branch-to : (b : Branch D) (t : List ℕ) → InBranch hasC (m.of_branch tree_through b) t → InBranch has_through b t
    branch-to g.none t h = h
    branch-to (g.then b (g.once a)) t (front, back, e, h, k) = (front, back, e, branch-to b front h, atom-to a back k)
    branch-to (g.then b (g.many a q)) t (front, back, e, h, k) =
        (front, back, e, branch-to b front h, parted_map q (InAtom hasC (m.of_atom tree_through a)) (InAtom has_through a) (atom-to a) back k)

    atom-to : (a : Atom D) (t : List ℕ) → InAtom hasC (m.of_atom tree_through a) t → InAtom has_through a t
    atom-to (g.one d) t h = h
    atom-to (g.group x) t h = re-to x t h

  mutual
    re-back : (x : Re D) (t : List ℕ) → InRe has_through x t → InRe hasC (m.of_re tree_through x) t
    re-back (g.only b) t h = branch-back b t h
    re-back (g.or x b) t (inl h) = inl (re-back x t h)
    re-back (g.or x b) t (inr h) = inr (branch-back b t h)

    branch-back : (b : Branch D) (t : List ℕ) → InBranch has_through b t → InBranch hasC (m.of_branch tree_through b) t
    branch-back g.none t h = h
    branch-back (g.then b (g.once a)) t (front, back, e, h, k) = (front, back, e, branch-back b front h, atom-back a back k)
    branch-back (g.then b (g.many a q)) t (front, back, e, h, k) =
        (front, back, e, branch-back b front h, parted_map q (InAtom has_through a) (InAtom hasC (m.of_atom tree_through a)) (atom-back a) back k)

    atom-back : (a : Atom D) (t : List ℕ) → InAtom has_through a t → InAtom hasC (m.of_atom tree_through a) t
    atom-back (g.one d) t h = h
    atom-back (g.group x) t h = re-back x t h

  line-to : (s : Bool) (b : Branch D) (e : Bool) (t : List ℕ) → FindsLine hasC s (m.of_branch tree_through b) e t → FindsLine has_through s b e t
  line-to s b e t h = record {
    before = h.before;
    found = h.found;
    after = h.after;
    cut = h.cut;
    in_branch = branch-to b h.found h.in_branch;
    at_begin =
        h.at_begin;
    at_end = h.at_end;
  }

  line-back : (s : Bool) (b : Branch D) (e : Bool) (t : List ℕ) → FindsLine has_through s b e t → FindsLine hasC s (m.of_branch tree_through b) e t
  line-back s b e t h = record {
    before = h.before;
    found = h.found;
    after = h.after;
    cut = h.cut;
    in_branch = branch-back b h.found h.in_branch;
    at_begin =
        h.at_begin;
    at_end = h.at_end;
  }

  pub finds-to : (p : Top D) (t : List ℕ) → Finds hasC (m.of_top tree_through p) t → Finds has_through p t
  finds-to (g.line s b e) t h = line-to s b e t h
  finds-to (g.lines p s b e) t (inl h) = inl (finds-to p t h)
  finds-to (g.lines p s b e) t (inr h) = inr (line-to s b e t h)

  pub finds-back : (p : Top D) (t : List ℕ) → Finds has_through p t → Finds hasC (m.of_top tree_through p) t
  finds-back (g.line s b e) t h = line-back s b e t h
  finds-back (g.lines p s b e) t (inl h) = inl (finds-back p t h)
  finds-back (g.lines p s b e) t (inr h) = inr (line-back s b e t h)

-- ---- the class at a place

abbrev nowhere : Class
nowhere = record { negated = false; members = [] }

abbrev class_in : Option (Token Class) → Class
class_in (Some (k.Item class)) = class
class_in _ = nowhere

abbrev pub class_at : List (Token Class) → Option ℕ → Class
class_at tokens None = any
class_at tokens (Some place) = class_in (slice_get tokens place)

in-class : (o : Option (Token Class)) (c : ℕ) → has (class_in o) c ≡ in_token o c
in-class None c = refl
in-class (Some (k.Item class)) c = refl
in-class (Some (k.Quantifier q)) c = refl
in-class (Some k.Opens) c = refl
in-class (Some k.Closes) c = refl
in-class (Some k.Bar) c = refl
in-class (Some k.Begins) c = refl
in-class (Some k.Ends) c = refl

at-class : (tokens : List (Token Class)) (place : Option ℕ) (c : ℕ) → has (class_at tokens place) c ≡ has_at tokens place c
at-class tokens None c = refl
at-class tokens (Some place) c = in-class (slice_get tokens place) c

pub has-through : (tokens : List (Token Class)) → has_through has (class_at tokens) ≡ has_at tokens
has-through tokens = λ i place c. at-class tokens place c i

get_seam : (front : List (Token Class)) (token : Token Class) (back : List (Token Class)) → slice_get (front ++ token ∷ back) (length front) ≡ Some token
get_seam [] token back = refl
get_seam (x ∷ front) token back = get_seam front token back

back_token : (tokens : List (Token Class)) (place : ℕ) (token : Token Class) → slice_get tokens place ≡ Some token
    → map_token (class_at tokens) (placed place token) ≡ token
back_token tokens place (k.Item class) e = ap (λ o. k.Item (class_in o)) e
back_token tokens place (k.Quantifier q) e = refl
back_token tokens place k.Opens e = refl
back_token tokens place k.Closes e = refl
back_token tokens place k.Bar e = refl
back_token tokens place k.Begins e = refl
back_token tokens place k.Ends e = refl

length-one : (front : List (Token Class)) (token : Token Class) → length (front ++ token ∷ []) ≡ suc (length front)
length-one [] token = refl
length-one (x ∷ front) token = ap suc (length-one front token)

back_from : (tokens front back : List (Token Class)) → tokens ≡ front ++ back → map_tokens (class_at tokens) (placed_from (length front) back) ≡ back
back_from tokens front [] e = refl
back_from tokens front (token ∷ back) e =
    let here : slice_get tokens (length front) ≡ Some token = ap (λ ts. slice_get ts (length front)) e ∙ get_seam front token back in
    let rest : map_tokens (class_at tokens) (placed_from (suc (length front)) back) ≡ back =
    ap (λ n. map_tokens (class_at tokens) (placed_from n back)) (sym (length-one front token)) ∙ back_from tokens (front ++ token ∷ []) back (e
    ∙ sym (append_assoc front (token ∷ []) back)) in
    λ i. back_token tokens (length front) token here i ∷ rest i

pub tokens-back : (tokens : List (Token Class)) → map_tokens (class_at tokens) (placed_from 0 tokens) ≡ tokens
tokens-back tokens = back_from tokens [] tokens refl
