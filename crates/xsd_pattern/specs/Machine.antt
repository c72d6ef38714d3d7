-- Reading tokens one by one, with what is open on a stack, into the values of any algebra.
use Rattle.std.specs.Prelude.{Bool, true, false, List, [], ◌∷◌, Option, Some, None, ◌&&◌, if◌then◌else◌}
use Rattle.xsd_pattern.specs.declared.token.Token.{Token}
use Rattle.xsd_pattern.specs.declared.token.Token.TheVariants as g
use Rattle.xsd_pattern.specs.declared.token.Repeat.{Repeat}
use Rattle.xsd_pattern.specs.Grammar.{Re, Branch, Piece, Atom, Top}
use Rattle.xsd_pattern.specs.Grammar as t
pub use Rattle.xsd_pattern.specs.declared.machine.Frame.{Frame}
pub use Rattle.xsd_pattern.specs.declared.machine.Last.{Last}
-- the constructors, under the names that they have here
pub use Rattle.xsd_pattern.specs.declared.machine.Last.TheVariants.{Fresh as fresh, Nothing as nothing, Atom as an_atom, Ended as ended}

-- what is made of the parts: values of alternatives, of branches, of atoms and of lines
pub record Algebra (C R B A T : Type 0) : Type 0 where
  pub only : B → R
  pub or : R → B → R
  pub none : B
  pub once : B → A → B
  pub many : B → A → Repeat → B
  pub one : C → A
  pub group : R → A
  pub line : Bool → B → Bool → T
  pub lines : T → Bool → B → Bool → T

-- the lines before, whether the line begins at the text's begin, the groups that are open, the alternatives before, the pieces before, and what stands last
pub data State (R B A T : Type 0) : Type 0 where
  at : Option T → Bool → List (Frame R B) → Option R → B → Last A → State R B A T

abbrev pub is_nil : {X : Type 0} → List X → Bool
is_nil [] = true
is_nil (x ∷ xs) = false

module _ {C R B A T : Type 0} (alg : Algebra C R B A T) where
  abbrev pub settled : B → Last A → B
  settled b fresh = b
  settled b nothing = b
  settled b (an_atom a) = alg.once b a
  settled b ended = b

  abbrev pub with_branch : Option R → B → R
  with_branch None b = alg.only b
  with_branch (Some r) b = alg.or r b

  abbrev pub with_line : Option T → Bool → B → Bool → T
  with_line None b x e = alg.line b x e
  with_line (Some t) b x e = alg.lines t b x e

  abbrev pub is_ended : Last A → Bool
  is_ended fresh = false
  is_ended nothing = false
  is_ended (an_atom a) = false
  is_ended ended = true

  abbrev pub is_fresh : Last A → Bool
  is_fresh fresh = true
  is_fresh nothing = false
  is_fresh (an_atom a) = false
  is_fresh ended = false

  abbrev pub unless_ended : Last A → State R B A T → Option (State R B A T)
  unless_ended l s = if is_ended l then None else Some s

  abbrev pub counted : Option T → Bool → List (Frame R B) → Option R → B → Repeat → Last A → Option (State R B A T)
  counted t s f r b q (an_atom a) = Some (at t s f r (alg.many b a q) nothing)
  counted t s f r b q _ = None

  abbrev pub closed : Option T → Bool → Option R → B → Last A → List (Frame R B) → Option (State R B A T)
  closed t s r b l [] = None
  closed t s r b l (frame ∷ f) = Some (at t s f frame.before frame.branch (an_atom (alg.group (with_branch r (settled b l)))))

  -- a bar ends a line where no group is open
  abbrev pub barred : Option T → Bool → Option R → B → Last A → List (Frame R B) → State R B A T
  barred t s r b l f =
      if is_nil f then at (Some (with_line t s (settled b l) (is_ended l))) false f None alg.none fresh
      else at t s f (Some (with_branch r (settled b l))) alg.none nothing

  abbrev pub begun : Option T → List (Frame R B) → Option R → B → Last A → Option (State R B A T)
  begun t f r b l = if is_nil f && is_fresh l then Some (at t true f r b nothing) else None

  abbrev pub line_ended : Option T → Bool → Option R → B → Last A → List (Frame R B) → Option (State R B A T)
  line_ended t s r b l f = if is_nil f then unless_ended l (at t s f r (settled b l) ended) else None

  abbrev pub step : Token C → State R B A T → Option (State R B A T)
  step (g.Item c) (at t s f r b l) = unless_ended l (at t s f r (settled b l) (an_atom (alg.one c)))
  step (g.Quantifier q) (at t s f r b l) = counted t s f r b q l
  step g.Opens (at t s f r b l) = unless_ended l (at t s (record { before = r; branch = settled b l } ∷ f) None alg.none nothing)
  step g.Closes (at t s f r b l) = closed t s r b l f
  step g.Bar (at t s f r b l) = Some (barred t s r b l f)
  step g.Begins (at t s f r b l) = begun t f r b l
  step g.Ends (at t s f r b l) = line_ended t s r b l f

  abbrev pub run : List (Token C) → State R B A T → Option (State R B A T)
  run [] s = Some s
  run (token ∷ tokens) s = elim (step token s) [ None ↦ None | Some s' ↦ run tokens s' ]

  abbrev pub finished : State R B A T → Option T
  finished (at t s f r b l) = if is_nil f then Some (with_line t s (settled b l) (is_ended l)) else None

  abbrev pub start : State R B A T
  start = at None false [] None alg.none fresh

  abbrev pub read : List (Token C) → Option T
  read tokens = elim (run tokens start) [ None ↦ None | Some s ↦ finished s ]

  -- ---- the value of a tree

  abbrev mutual
    pub of_re : Re C → R
    of_re (t.only b) = alg.only (of_branch b)
    of_re (t.or x b) = alg.or (of_re x) (of_branch b)

    pub of_branch : Branch C → B
    of_branch t.none = alg.none
    of_branch (t.then b p) = with_piece (of_branch b) p

    pub with_piece : B → Piece C → B
    with_piece b (t.once a) = alg.once b (of_atom a)
    with_piece b (t.many a q) = alg.many b (of_atom a) q

    pub of_atom : Atom C → A
    of_atom (t.one c) = alg.one c
    of_atom (t.group x) = alg.group (of_re x)

  abbrev pub of_top : Top C → T
  of_top (t.line b x e) = alg.line b (of_branch x) e
  of_top (t.lines q b x e) = alg.lines (of_top q) b (of_branch x) e
