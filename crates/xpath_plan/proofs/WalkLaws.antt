-- What the walk over an expression comes to: its expression, how many parts it keeps and in which slots, and how deep it is.
use Rattle.std.proofs.Common.{◌≡◌, ℕ, ◌+◌, ◌*◌, ◌≤◌, suc, Bool, true, false, List, [], ◌∷◌, ◌++◌, length, map, max, drop, refl, sym, ap, subst, ◌∙◌, arith}
use Rattle.std.proofs.Common.{append-nil, length-append}
use Rattle.xpath_grammar.specs.declared.expr.Form.{Form}
use Rattle.xpath_grammar.specs.declared.expr.Leaf.{Leaf}
use Rattle.xpath_grammar.specs.Grammar as g
use Rattle.xpath_grammar.specs.Grammar.{Tree, Parts}
use Rattle.xpath_types.specs.declared.part.Part.{Part}
use Rattle.xpath_types.specs.Judging.{labels}
use Rattle.xpath_types.specs.Scopes.{Declared}
use Rattle.xpath_meaning.specs.Resolving.{Operand, leaf_of, resolved, operands, names_behind, begins_with_step}
use Rattle.xpath_plan.specs.declared.plan_node.Separator.{Separator}
use Rattle.xpath_plan.specs.declared.plan_node.Operation.{Operation}
use Rattle.xpath_plan.specs.Kinds.{link_of, kind_of, second_literal}
use Rattle.xpath_plan.specs.Plans.{label_of, made}
use Rattle.xpath_plan.specs.Claims.{Kept, Known, AreNumbered, known_alone, known_node, kept_known, operands_known, deepest}
use Rattle.xpath_plan.specs.Shapes.{one_if}
use Rattle.xpath_plan.specs.Walking.{size, is_kept_by, all_free_by, kept_if, finished, kind_in, walked, walked_inside}
use Rattle.xpath_plan.proofs.MadeLaws.{links, labelled, form-made}
use Rattle.xpath_plan.proofs.SecondLaws.{second-seen}
use Rattle.xpath_plan.proofs.PlainLaws.{form-keeps}

-- The expression

kept_if-exp : (keeps : Bool) (slot height : ℕ) (part : Known) → (kept_if keeps slot height part).exp ≡ part.exp
kept_if-exp true slot height part = refl
kept_if-exp false slot height part = refl

pub finished-exp : (bound : List (List ℕ)) (stated : List Part) (slots : ℕ) (x : Tree) (part : Known) → (finished bound stated slots x part).exp ≡ part.exp
finished-exp bound stated slots x part = kept_if-exp (is_kept_by stated x) (slots + length part.kept) (length bound) part

labels_of : (declared : Declared) (bound : List (List ℕ)) (parts : Parts) → map (λ (e : Operand). e.0) (operands declared bound parts) ≡ labels parts
unfolding operands
labels_of declared bound g.none = refl
labels_of declared bound (g.more label x parts) = λ j. label ∷ labels_of declared (names_behind label bound) parts j

mutual
  unfolding walked walked_inside resolved operands

  pub walked-exp : (declared : Declared) (bound : List (List ℕ)) (stated : List Part) (slots : ℕ) (x : Tree) →
      (walked declared bound stated slots x).exp ≡ resolved declared bound x
  walked-exp declared bound stated slots (g.leaf x) = finished-exp bound stated slots (g.leaf x) (known_alone (leaf_of declared bound x))
  walked-exp declared bound stated slots (g.node form parts) =
      let kind : Operation = kind_in declared form (drop 1 stated) parts in
      let inner : List (Separator × Known) = walked_inside declared bound (drop 1 stated) slots parts in
      finished-exp bound stated slots (g.node form parts) (known_node kind inner)
      ∙ (ap (made kind) (inside-exp declared bound (drop 1 stated) slots parts)
      ∙ (ap (λ labels. made (kind_of declared form (begins_with_step parts) (all_free_by (drop 1 stated) parts) (second_literal parts) labels)
      (labelled (links (operands declared bound parts)))) (sym (labels_of declared bound parts))
      ∙ form-made declared form (begins_with_step parts) (all_free_by (drop 1 stated) parts) (second_literal parts) (operands declared bound parts)
      (second-seen declared bound parts (second_literal parts) refl)))

  pub inside-exp : (declared : Declared) (bound : List (List ℕ)) (stated : List Part) (slots : ℕ) (parts : Parts) →
      operands_known (walked_inside declared bound stated slots parts) ≡ labelled (links (operands declared bound parts))
  inside-exp declared bound stated slots g.none = refl
  inside-exp declared bound stated slots (g.more label x parts) =
      λ j. (label_of (link_of label), walked-exp declared bound stated slots x j) ∷ inside-exp declared (names_behind label bound) (drop (size x) stated)
      (slots + length (walked declared bound stated slots x).kept) parts j

-- a node's expression, before its value is kept
pub node-exp : (declared : Declared) (bound : List (List ℕ)) (stated : List Part) (slots : ℕ) (form : Form) (parts : Parts)
    → (known_node (kind_in declared form (drop 1 stated) parts) (walked_inside declared bound (drop 1 stated) slots parts)).exp ≡ resolved declared bound
    (g.node form parts)
unfolding walked
node-exp declared bound stated slots form parts =
    sym (finished-exp bound stated slots (g.node form parts)
    (known_node (kind_in declared form (drop 1 stated) parts) (walked_inside declared bound (drop 1 stated) slots parts)))
    ∙ walked-exp declared bound stated slots (g.node form parts)

-- The parts that are kept

kept_if-length : (keeps : Bool) (slot height : ℕ) (part : Known) → length (kept_if keeps slot height part).kept ≡ length part.kept + one_if keeps
kept_if-length true slot height part = length-append (part.kept ++ []) _ ∙ ap (λ (kept : List Kept). length kept + 1) (append-nil part.kept)
kept_if-length false slot height part = omega arith

pub finished-length : (bound : List (List ℕ)) (stated : List Part) (slots : ℕ) (x : Tree) (part : Known) →
    length (finished bound stated slots x part).kept ≡ length part.kept + one_if (is_kept_by stated x)
finished-length bound stated slots x part = kept_if-length (is_kept_by stated x) (slots + length part.kept) (length bound) part

-- a node keeps what its parts keep
pub node-kept : (declared : Declared) (form : Form) (stated : List Part) (parts : Parts) (inner : List (Separator × Known)) →
    (known_node (kind_in declared form stated parts) inner).kept ≡ kept_known inner
node-kept declared form stated parts inner =
    ap (λ own. kept_known inner ++ own) (form-keeps declared form (begins_with_step parts) (all_free_by stated parts) (second_literal parts) (labels parts)
    (operands_known inner))
    ∙ append-nil (kept_known inner)

pub leaf-length : (declared : Declared) (bound : List (List ℕ)) (stated : List Part) (slots : ℕ) (x : Leaf) →
    length (walked declared bound stated slots (g.leaf x)).kept ≡ one_if (is_kept_by stated (g.leaf x))
unfolding walked
leaf-length declared bound stated slots x =
    let all : length (finished bound stated slots (g.leaf x) (known_alone (leaf_of declared bound x))).kept ≡ 0 + one_if (is_kept_by stated (g.leaf x)) =
    finished-length bound stated slots (g.leaf x) (known_alone (leaf_of declared bound x)) in
    omega (arith, all)

pub node-length : (declared : Declared) (bound : List (List ℕ)) (stated : List Part) (slots : ℕ) (form : Form) (parts : Parts)
    → length (walked declared bound stated slots (g.node form parts)).kept ≡ length
    (kept_known (walked_inside declared bound (drop 1 stated) slots parts)) + one_if (is_kept_by stated (g.node form parts))
unfolding walked
node-length declared bound stated slots form parts =
    let inner : List (Separator × Known) = walked_inside declared bound (drop 1 stated) slots parts in
    let node : Known = known_node (kind_in declared form (drop 1 stated) parts) inner in
    finished-length bound stated slots (g.node form parts) node ∙ ap (λ (kept : List Kept). length kept + one_if (is_kept_by stated (g.node form parts)))
    (node-kept declared form (drop 1 stated) parts inner)

-- Slots are numbered

numbered-append : (from : ℕ) (xs ys : List Kept) → AreNumbered from xs → AreNumbered (from + length xs) ys → AreNumbered from (xs ++ ys)
numbered-append from [] ys h i = let same : from + 0 ≡ from = omega arith in subst (λ n. AreNumbered n ys) same i
numbered-append from (x ∷ xs) ys h i =
    let same : from + length (x ∷ xs) ≡ suc from + length xs = omega arith in
    (h.0, numbered-append (suc from) xs ys h.1 (subst (λ n. AreNumbered n ys) same i))

kept_if-numbered : (keeps : Bool) (from height : ℕ) (part : Known) → AreNumbered from part.kept →
    AreNumbered from (kept_if keeps (from + length part.kept) height part).kept
kept_if-numbered true from height part h = numbered-append from (part.kept ++ []) _ (subst (AreNumbered from) (sym (append-nil part.kept)) h)
    (ap (λ (kept : List Kept). from + length kept) (sym (append-nil part.kept)), tt)
kept_if-numbered false from height part h = h

mutual
  unfolding walked walked_inside

  pub numbered : (declared : Declared) (bound : List (List ℕ)) (stated : List Part) (slots : ℕ) (x : Tree) →
      AreNumbered slots (walked declared bound stated slots x).kept
  numbered declared bound stated slots (g.leaf x) = kept_if-numbered (is_kept_by stated (g.leaf x)) slots (length bound)
      (known_alone (leaf_of declared bound x)) tt
  numbered declared bound stated slots (g.node form parts) =
      let inner : List (Separator × Known) = walked_inside declared bound (drop 1 stated) slots parts in
      kept_if-numbered (is_kept_by stated (g.node form parts)) slots (length bound) (known_node (kind_in declared form (drop 1 stated) parts) inner)
      (subst (AreNumbered slots) (sym (node-kept declared form (drop 1 stated) parts inner)) (all_numbered declared bound (drop 1 stated) slots parts))

  all_numbered : (declared : Declared) (bound : List (List ℕ)) (stated : List Part) (slots : ℕ) (parts : Parts) →
      AreNumbered slots (kept_known (walked_inside declared bound stated slots parts))
  all_numbered declared bound stated slots g.none = tt
  all_numbered declared bound stated slots (g.more label x parts) =
      let part : Known = walked declared bound stated slots x in
      numbered-append slots part.kept _ (numbered declared bound stated slots x)
      (all_numbered declared (names_behind label bound) (drop (size x) stated) (slots + length part.kept) parts)

-- Depth

kept_if-depth : (keeps : Bool) (slot height : ℕ) (part : Known) → (kept_if keeps slot height part).depth ≤ part.depth + 1
kept_if-depth true slot height part = omega arith
kept_if-depth false slot height part = omega arith

doubled : (depth deep level : ℕ) → depth ≤ suc deep + 1 → deep ≤ 2 * level → depth ≤ 2 * suc level
doubled depth deep level h i = omega (arith, h, i)

both_doubled : (a b m n : ℕ) → a ≤ 2 * m → b ≤ 2 * n → max a b ≤ 2 * max m n
both_doubled a b m n h i = omega (arith, h, i)

mutual
  unfolding walked walked_inside g.level g.deepest

  pub walked-depth : (declared : Declared) (bound : List (List ℕ)) (stated : List Part) (slots : ℕ) (x : Tree) →
      (walked declared bound stated slots x).depth ≤ 2 * g.level x
  walked-depth declared bound stated slots (g.leaf x) =
      let part : Known = known_alone (leaf_of declared bound x) in
      let most : (kept_if (is_kept_by stated (g.leaf x)) (slots + length part.kept) (length bound) part).depth ≤ 1 + 1 =
      kept_if-depth (is_kept_by stated (g.leaf x)) (slots + length part.kept) (length bound) part in
      omega (arith, most)
  walked-depth declared bound stated slots (g.node form parts) =
      let inner : List (Separator × Known) = walked_inside declared bound (drop 1 stated) slots parts in
      let node : Known = known_node (kind_in declared form (drop 1 stated) parts) inner in
      doubled _ (deepest inner) (g.deepest parts) (kept_if-depth (is_kept_by stated (g.node form parts)) (slots + length node.kept) (length bound) node)
      (inside-depth declared bound (drop 1 stated) slots parts)

  inside-depth : (declared : Declared) (bound : List (List ℕ)) (stated : List Part) (slots : ℕ) (parts : Parts) →
      deepest (walked_inside declared bound stated slots parts) ≤ 2 * g.deepest parts
  inside-depth declared bound stated slots g.none = omega arith
  inside-depth declared bound stated slots (g.more label x parts) =
      let part : Known = walked declared bound stated slots x in
      both_doubled part.depth _ (g.level x) (g.deepest parts) (walked-depth declared bound stated slots x)
      (inside-depth declared (names_behind label bound) (drop (size x) stated) (slots + length part.kept) parts)
