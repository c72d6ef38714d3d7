-- Patterns as trees, and the tokens that they are written as. Branches and alternatives grow on their right, so that no side condition is needed.
use Rattle.std.specs.Prelude.{Bool, true, false, List, [], ◌∷◌, ◌++◌}
use Rattle.xsd_pattern.specs.declared.token.Token.{Token}
use Rattle.xsd_pattern.specs.declared.token.Token.TheVariants.{Item, Quantifier, Opens, Closes, Bar, Begins, Ends}
use Rattle.xsd_pattern.specs.declared.token.Repeat.{Repeat}

mutual
  -- Re ::= Branch ("|" Branch)*
  pub data Re (C : Type 0) : Type 0 where
    only : Branch C → Re C
    or : Re C → Branch C → Re C

  -- Branch ::= Piece*
  pub data Branch (C : Type 0) : Type 0 where
    none : Branch C
    then : Branch C → Piece C → Branch C

  -- Piece ::= Atom Quantifier?
  pub data Piece (C : Type 0) : Type 0 where
    once : Atom C → Piece C
    many : Atom C → Repeat → Piece C

  -- Atom ::= Item | "(" Re ")"
  pub data Atom (C : Type 0) : Type 0 where
    one : C → Atom C
    group : Re C → Atom C

-- Line ::= "^"? Branch "$"?      Top ::= Line ("|" Line)*
pub data Top (C : Type 0) : Type 0 where
  line : Bool → Branch C → Bool → Top C
  lines : Top C → Bool → Branch C → Bool → Top C

module _ {C : Type 0} where
  abbrev mutual
    pub re : Re C → List (Token C)
    re (only b) = branch b
    re (or x b) = re x ++ (Bar ∷ branch b)

    pub branch : Branch C → List (Token C)
    branch none = []
    branch (then b p) = branch b ++ piece p

    pub piece : Piece C → List (Token C)
    piece (once a) = atom a
    piece (many a q) = atom a ++ Quantifier q ∷ []

    pub atom : Atom C → List (Token C)
    atom (one c) = Item c ∷ []
    atom (group x) = Opens ∷ (re x ++ Closes ∷ [])

  abbrev pub mark : Bool → Token C → List (Token C)
  mark true token = token ∷ []
  mark false token = []

  abbrev pub a_line : Bool → Branch C → Bool → List (Token C)
  a_line b x e = mark b Begins ++ (branch x ++ mark e Ends)

  abbrev pub written : Top C → List (Token C)
  written (line b x e) = a_line b x e
  written (lines t b x e) = written t ++ (Bar ∷ a_line b x e)
