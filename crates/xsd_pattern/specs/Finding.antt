-- Which texts a pattern has, and in which texts it is found.
use Rattle.std.specs.Prelude.{◌≡◌, ℕ, ◌+◌, ◌≤◌, Bool, true, List, [], ◌∷◌, ◌++◌, length, Option, Some, None, ◌⊎◌}
use Rattle.xsd_pattern.specs.declared.token.Repeat.{Repeat}
use Rattle.xsd_pattern.specs.Cuts.{Cut, AllIn, joined}
use Rattle.xsd_pattern.specs.Classes.{least, more}
use Rattle.xsd_pattern.specs.Grammar.{Re, Branch, Piece, Atom, Top, only, or, none, then, once, many, one, group, line, lines}

-- so many, and so many more or any number
abbrev pub IsUpTo : ℕ → ℕ → Option ℕ → Type 0
IsUpTo n low None = Unit {0}
IsUpTo n low (Some high) = n ≤ low + high

-- the text is cut into a number of parts between the bounds
abbrev pub Parted : Repeat → (List ℕ → Type 0) → List ℕ → Type 0
Parted q P text = (parts : List (List ℕ)) × (least q ≤ length parts) × IsUpTo (length parts) (least q) (more q) × AllIn P parts × (text ≡ joined parts)

module _ {C : Type 0} (has : C → ℕ → Bool) where
  abbrev pub IsOne : C → List ℕ → Type 0
  IsOne class text = (c : ℕ) × (text ≡ c ∷ []) × (has class c ≡ true)

  abbrev mutual
    pub InRe : Re C → List ℕ → Type 0
    InRe (only b) text = InBranch b text
    InRe (or x b) text = InRe x text ⊎ InBranch b text

    pub InBranch : Branch C → List ℕ → Type 0
    InBranch none text = text ≡ []
    InBranch (then b p) text = Cut (InBranch b) (InPiece p) text

    pub InPiece : Piece C → List ℕ → Type 0
    InPiece (once a) text = InAtom a text
    InPiece (many a q) text = Parted q (InAtom a) text

    pub InAtom : Atom C → List ℕ → Type 0
    InAtom (one class) text = IsOne class text
    InAtom (group x) text = InRe x text

  -- a part of the text is in the line's branch: from the text's begin on where the line has `^`, up to its end where it has `$`
  pub record FindsLine (from_begin : Bool) (b : Branch C) (to_end : Bool) (text : List ℕ) : Type 0 where
    pub before : List ℕ
    pub found : List ℕ
    pub after : List ℕ
    pub cut : text ≡ before ++ (found ++ after)
    pub in_branch : InBranch b found
    pub at_begin : from_begin ≡ true → before ≡ []
    pub at_end : to_end ≡ true → after ≡ []

  abbrev pub Finds : Top C → List ℕ → Type 0
  Finds (line s b e) text = FindsLine s b e text
  Finds (lines t s b e) text = Finds t text ⊎ FindsLine s b e text
