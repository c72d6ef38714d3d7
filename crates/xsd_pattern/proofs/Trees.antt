-- The trees themselves as values.
use Rattle.std.specs.Prelude.{List, Option, Some, None}
use Rattle.xsd_pattern.specs.declared.token.Token.{Token}
use Rattle.xsd_pattern.specs.Grammar.{Re, Branch, Atom, Top}
use Rattle.xsd_pattern.specs.Grammar as g
use Rattle.xsd_pattern.specs.Machine.{Algebra}
use Rattle.xsd_pattern.specs.Machine as m

abbrev pub trees : {C : Type 0} → Algebra C (Re C) (Branch C) (Atom C) (Top C)
trees = record {
  only = g.only;
  or = g.or;
  none = g.none;
  once = λ b a. g.then b (g.once a);
  many = λ b a q. g.then b (g.many a q);
  one = g.one;
  group = g.group;
  line = g.line;
  lines = g.lines;
}

-- the tree that the tokens spell
abbrev pub tree_of : {C : Type 0} → List (Token C) → Option (Top C)
tree_of tokens = m.read trees tokens

abbrev pub of_maybe : {X Y : Type 0} → (X → Y) → Option X → Option Y
of_maybe h None = None
of_maybe h (Some x) = Some (h x)
