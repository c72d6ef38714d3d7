-- All nodes, and all that are inside some.
use Rattle.std.proofs.Common.{◌≡◌, ℕ, ◌+◌, ◌<◌, ◌≤◌, Bool, true, false, not, ◌&&◌, ◌||◌, ⊎_elim, List, [], ◌∷◌, ◌++◌, length, get_or, take, drop, Option, Some}
use Rattle.std.proofs.Common.{None, SomeIff, IfSome, refl, ap, sym, subst, ◌∙◌, arith, append_assoc}
use Rattle.std.specs.Prelude.{filter}
use Rattle.std.specs.List.{list_any}
use Rattle.std.proofs.lemmas.List.{drop_all, drop_more, take_more, take_all}
use Rattle.std.proofs.lemmas.List.Folds.{list_any-append}
use Rattle.std.proofs.lemmas.Bool.{and_parts, and_from, or_cases, or_right, eqb-true, false≢true, cases_lt}
use Rattle.inv_base.specs.Tree.{Node, is_among}
use Rattle.node_arena.specs.Moves.{tree_node, is_inside, is_attribute}
use Rattle.xpath_grammar.specs.declared.step.Axis.TheVariants as a
use Rattle.xpath_meaning.specs.Axes.{is_on, is_the, passes}
use Rattle.xpath_meaning.specs.Expressions.{of_kind}
use Rattle.xpath_grammar.specs.declared.step.KindTest.TheVariants as q
use Rattle.xpath_meaning.specs.Resolving.{all_inside}
use Rattle.xpath_meaning.specs.Patterns.{found_at}
use Rattle.xpath_walks.specs.Walks.{IsWalked, node_numbers, from_on}
use Rattle.xpath_walks.proofs.AroundLemmas.{inside_inside}
use Rattle.xpath_walks.proofs.FilterLemmas.{AreCounted, alike}
use Rattle.xpath_parts.specs.declared.dynamic.DynamicContext.{DynamicContext}
use Rattle.xpath_parts.specs.Contexts.{count}
use Rattle.xpath_marks.specs.Found.{is_reached, all_reached}
use Rattle.xpath_marks.specs.Marking.{AreNodes, GoesBy, GoesIn, nodes_of, is_covered}
use Rattle.xpath_marks.proofs.AmongLemmas.{among_both, among_passing, IsNumberOf, filtered_from, in_back}
use Rattle.xpath_marks.proofs.TurnLemmas.{axis_nodes_within, nodes_append}

pub every_next : (nodes : List Node) (n : ℕ) (next : Option ℕ) (old new : List ℕ) {whole : List ℕ} → AreCounted nodes → n < length nodes →
    SomeIff next (n + 1 < length nodes) (n + 1)
    → new ≡ old ++ n ∷ [] → old ++ node_numbers (from_on (Some n) nodes) ≡ whole → new ++ node_numbers (from_on next nodes) ≡ whole
every_next nodes n next old new {whole} counted l is put h =
    ap (λ xs. xs ++ node_numbers (from_on next nodes)) put
    ∙ (append_assoc old (n ∷ []) (node_numbers (from_on next nodes))
    ∙ (ap (λ xs. old ++ (n ∷ node_numbers xs)) (rest next is)
    ∙ (ap (λ m. old ++ (m ∷ node_numbers (drop (n + 1) nodes))) (sym (counted n l))
    ∙ (ap (λ xs. old ++ node_numbers xs) (sym (drop_more nodes n _ l)) ∙ h))))
  where
    rest : (next : Option ℕ) → SomeIff next (n + 1 < length nodes) (n + 1) → from_on next nodes ≡ drop (n + 1) nodes
    rest None is = sym (drop_all (n + 1) nodes (⊎_elim (λ (less : n + 1 < length nodes). absurd (is less)) (λ (more : length nodes ≤ n + 1). more)
        (cases_lt (n + 1) (length nodes))))
    rest (Some m) is = ap (λ k. drop k nodes) is.1

pub next_within : (count n : ℕ) (next : Option ℕ) → SomeIff next (n + 1 < count) (n + 1) → IfSome next (λ m. m < count)
next_within count n None is = tt
next_within count n (Some m) is = omega (arith, is.0, is.1)

module _ (base : DynamicContext) (w : IsWalked base.doc.now) where
  abbrev pub inside_at : ℕ → List ℕ
  inside_at n = found_at (nodes_of base) base.env.now all_inside n

  abbrev meant : ℕ → Node → Bool
  meant n node = is_on a.DescendantOrSelf (tree_node (nodes_of base) n) node && passes a.DescendantOrSelf (of_kind q.Node) node

  -- What is inside a node that is inside another is found from that.
  found_around : (n m : ℕ) → n < length (nodes_of base) → m < length (nodes_of base) → is_inside n (tree_node (nodes_of base) m) ≡ true
      → not (is_attribute (tree_node (nodes_of base) m)) ≡ true → (k : ℕ) → is_among k (inside_at m) ≡ true → is_among k (inside_at n) ≡ true
  found_around n m ln lm i plain k e =
      let nodes = nodes_of base in
      let counted = w.walkable.counted in
      let at : IsNumberOf (meant m) nodes k = filtered_from (meant m) nodes k e in
      let p : ℕ = at.place in
      let same : p ≡ k = sym (counted p at.within) ∙ at.number in
      let on : is_on a.DescendantOrSelf (tree_node nodes m) (tree_node nodes p) ≡ true =
      (and_parts (is_on a.DescendantOrSelf (tree_node nodes m) (tree_node nodes p)) true at.passes).0 in
      let lies : (is_inside n (tree_node nodes p) && not (is_attribute (tree_node nodes p))) ≡ true =
      ⊎_elim
      (λ (the : is_the (tree_node nodes m) (tree_node nodes p) ≡ true).
      let pm : p ≡ m = sym (counted p at.within) ∙ (eqb-true (tree_node nodes p).number (tree_node nodes m).number the ∙ counted m lm) in
      subst (λ x. (is_inside n (tree_node nodes x) && not (is_attribute (tree_node nodes x))) ≡ true) (sym pm)
      (and_from (is_inside n (tree_node nodes m)) (not (is_attribute (tree_node nodes m))) i plain))
      (λ (inner : (is_inside (tree_node nodes m).number (tree_node nodes p) && not (is_attribute (tree_node nodes p))) ≡ true).
      let parts = and_parts (is_inside (tree_node nodes m).number (tree_node nodes p)) (not (is_attribute (tree_node nodes p))) inner in
      and_from (is_inside n (tree_node nodes p)) (not (is_attribute (tree_node nodes p)))
      (inside_inside nodes w.walkable p m n at.within (ap (λ x. is_inside x (tree_node nodes p)) (sym (counted m lm)) ∙ parts.0) i) parts.1)
      (or_cases (is_the (tree_node nodes m) (tree_node nodes p)) (is_inside (tree_node nodes m).number (tree_node nodes p) &&
      not (is_attribute (tree_node nodes p))) on) in
      let passing : meant n (tree_node nodes p) ≡ true =
      and_from (is_on a.DescendantOrSelf (tree_node nodes n) (tree_node nodes p)) true
      (or_right (is_the (tree_node nodes n) (tree_node nodes p)) (is_inside (tree_node nodes n).number (tree_node nodes p) &&
      not (is_attribute (tree_node nodes p)))
      (ap (λ x. is_inside x (tree_node nodes p) && not (is_attribute (tree_node nodes p))) (counted n ln) ∙ lies)) refl in
      ap (λ x. is_among x (inside_at n)) (sym same) ∙ (among_passing (meant n) nodes p counted at.within ∙ passing)

  pub put_inside_within : (n : ℕ) (old new : List ℕ) → AreNodes base old → new ≡ old ++ inside_at n → AreNodes base new
  put_inside_within n old new h e = subst (AreNodes base) (sym e)
      (nodes_append base old (inside_at n) h (axis_nodes_within base w a.DescendantOrSelf (Some (of_kind q.Node)) n))

  reached_more : (from : List ℕ) (i n : ℕ) (k : ℕ) → n ≡ get_or from i n → i < length from
      → is_reached (nodes_of base) base.env.now all_inside (take (i + 1) from) k
      ≡ (is_reached (nodes_of base) base.env.now all_inside (take i from) k || is_among k (inside_at n))
  reached_more from i n k e l =
      ap (λ xs. is_reached (nodes_of base) base.env.now all_inside xs k) (take_more from i n l ∙ ap (λ m. take i from ++ m ∷ []) (sym e))
      ∙ (list_any-append (λ m. is_among k (inside_at m)) (take i from) (n ∷ []) ∙
      ap (λ b. list_any (λ m. is_among k (inside_at m)) (take i from) || b) (or_false (is_among k (inside_at n))))
    where
      or_false : (b : Bool) → (b || false) ≡ b
      or_false true = refl
      or_false false = refl

  -- the nodes inside the last node that was gone through are out
  abbrev pub Around : Option ℕ → List ℕ → Type 0
  Around around out = IfSome around (λ m. (m < count base) × ((k : ℕ) → is_among k (inside_at m) ≡ true → is_among k out ≡ true))

  abbrev pub Reaches : List ℕ → ℕ → List ℕ → Type 0
  Reaches from i out = (k : ℕ) → is_among k out ≡ is_reached (nodes_of base) base.env.now all_inside (take i from) k

  pub still_reaches : (from : List ℕ) (i n : ℕ) (around : Option ℕ) (out : List ℕ) → n ≡ get_or from i n → i < length from → n < count base
      → is_covered (nodes_of base) around n ≡ true → Around around out → Reaches from i out → Reaches from (i + 1) out
  still_reaches from i n None out e l within c r h = absurd (false≢true c)
  still_reaches from i n (Some m) out e l within c r h = λ k.
      let parts = and_parts (is_inside m (tree_node (nodes_of base) n)) (not (is_attribute (tree_node (nodes_of base) n))) c in
      let long : length (nodes_of base) ≡ count base = w.long in
      sym (absorbed (is_among k out) (is_among k (inside_at n))
      (λ is. r.1 k (found_around m n (omega (arith, long, r.0)) (omega (arith, long, within)) parts.0 parts.1 k is)))
      ∙ (ap (λ b. b || is_among k (inside_at n)) (h k) ∙ sym (reached_more from i n k e l))
    where
      absorbed : (b c : Bool) → (c ≡ true → b ≡ true) → (b || c) ≡ b
      absorbed true c f = refl
      absorbed false true f = sym (f refl)
      absorbed false false f = refl

  pub more_reaches : (from : List ℕ) (i n : ℕ) (out out' : List ℕ) → n ≡ get_or from i n → i < length from → out' ≡ out ++ inside_at n → Reaches from i out →
      Reaches from (i + 1) out'
  more_reaches from i n out out' e l put h = λ k.
      ap (is_among k) put ∙ (among_both k out (inside_at n) ∙ (ap (λ b. b || is_among k (inside_at n)) (h k) ∙ sym (reached_more from i n k e l)))

  pub more_around : (n : ℕ) (out out' : List ℕ) → n < count base → out' ≡ out ++ inside_at n → Around (Some n) out'
  more_around n out out' within put = (within, λ k is. ap (is_among k) put ∙ in_back k out (inside_at n) is)

  pub reached_all : (from : List ℕ) (i : ℕ) (out : List ℕ) → length from ≤ i → Reaches from i out
      → node_numbers (filter (λ (node : Node). is_among node.number out) (nodes_of base)) ≡ all_reached (nodes_of base) base.env.now all_inside from
  reached_all from i out l h = ap node_numbers (alike (λ (node : Node). is_among node.number out)
      (λ (node : Node). is_reached (nodes_of base) base.env.now all_inside from node.number) 0 (nodes_of base)
      (λ k a b. h (tree_node (nodes_of base) k).number ∙ ap (λ xs. is_reached (nodes_of base) base.env.now all_inside xs (tree_node (nodes_of base) k).number)
      (take_all i from l)))

  -- one node more
  pub record Gone (from : List ℕ) (i : ℕ) (last : Option ℕ) (out : List ℕ) : Type 0 where
    pub within : AreNodes base out
    pub around : Around last out
    pub reaches : Reaches from i out

  pub goes_on : (from : List ℕ) (i n : ℕ) (around : Option ℕ) (next : ℕ) (out out' : List ℕ) → n ≡ get_or from i n → i < length from → n < count base
      → GoesIn base around n next out out' → Gone from i around out → Gone from (i + 1) (Some next) out'
  goes_on from i n around next out out' e l within goes gone = go (is_covered (nodes_of base) around n) refl goes
    where
      go : (b : Bool) → is_covered (nodes_of base) around n ≡ b → GoesBy b base around n next out out' → Gone from (i + 1) (Some next) out'
      go true c same = record {
        within = subst (AreNodes base) (sym same.1) gone.within;
        around = subst (λ o. Around o out') (sym same.0) (subst (Around around) (sym same.1) gone.around);
        reaches = subst (Reaches from (i + 1)) (sym same.1) (still_reaches from i n around out e l within c gone.around gone.reaches);
      }
      go false c more = record {
        within = put_inside_within n out out' gone.within more.1;
        around = subst (λ m. Around (Some m) out') (sym more.0) (more_around n out out' within more.1);
        reaches = more_reaches from i n out out' e l more.1 gone.reaches;
      }

  pub around_within : (around : Option ℕ) (out : List ℕ) → Around around out → IfSome around (λ m. m < count base)
  around_within None out r = tt
  around_within (Some m) out r = r.0
