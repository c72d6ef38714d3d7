-- What is inside nodes, where what is inside a node inside another isn't gone over again.
use Rattle.std.proofs.Common.{◌≡◌, ℕ, zero, suc, ◌+◌, ◌<◌, ◌≤◌, Bool, true, false, not, ◌&&◌, ◌||◌, ◌==◌, List, [], ◌∷◌, ◌++◌, length, get_or, drop, Option}
use Rattle.std.proofs.Common.{Some, None, IfSome, Ok, refl, ap, sym, subst, ◌∙◌, arith}
use Rattle.std.specs.List.{flat_map, list_all}
use Rattle.std.proofs.lemmas.Bool.{and_parts, and_from, eq-eqb, false≢true}
use Rattle.std.proofs.lemmas.List.{drop_all, drop_more}
use Rattle.std.proofs.lemmas.List.Concat.{flat_map-cons}
use Rattle.inv_base.specs.Tree.{Node, is_among}
use Rattle.node_arena.specs.Document.{Document}
use Rattle.node_arena.specs.Moves.{tree_node, tree_nodes, is_attribute, is_inside}
use Rattle.xpath_grammar.specs.declared.step.Axis.TheVariants as a
use Rattle.xpath_items.specs.declared.item.Item.{Item}
use Rattle.xpath_items.specs.declared.item.Item.TheVariants as i
use Rattle.xpath_meaning.specs.Axes.{is_on, passes}
use Rattle.xpath_meaning.specs.Expressions.{NodeTest}
use Rattle.xpath_meaning.specs.Steps.{is_node, in_document_order}
use Rattle.xpath_operators.specs.Nodes.{AreWithin}
use Rattle.xpath_steps.specs.Insides.{GoesBy, GoesIn, HasSame, is_covered, numbers_inside}
use Rattle.xpath_steps.specs.Numbers.{numbers_among}
use Rattle.xpath_steps.specs.Steps.{inside_seen, numbers_over}
use Rattle.xpath_walks.specs.Order.{node_items}
use Rattle.xpath_walks.specs.Walks.{IsWalked}
use Rattle.xpath_walks.proofs.AroundLemmas.{inside_inside}
use Rattle.xpath_steps.proofs.WithinLemmas.{number_within}
use Rattle.xpath_steps.proofs.NodeLemmas.{among_nodes, document_below, same_order}
use Rattle.xpath_steps.proofs.PathLemmas.{axis_within, map_append, path_of_stepped}
use Rattle.xpath_steps.proofs.WithinLemmas.{append_within}
use Rattle.xpath_steps.proofs.InsideLemmas.{has_from, one_step}

or_group : (x y z : Bool) → ((x || y) || z) ≡ (x || (y || z))
or_group true y z = refl
or_group false y z = refl

absorbed : (x y z : Bool) → (y ≡ true → x ≡ true) → (x || z) ≡ (x || (y || z))
absorbed true y z h = refl
absorbed false true z h = absurd (false≢true (h refl))
absorbed false false z h = refl

or_left_so : (x y : Bool) → x ≡ true → (x || y) ≡ true
or_left_so true y h = refl
or_left_so false y h = absurd (false≢true h)

or_right_so : (x y : Bool) → y ≡ true → (x || y) ≡ true
or_right_so true y h = refl
or_right_so false y h = h

among_append : (k : ℕ) (xs ys : List ℕ) → is_among k (xs ++ ys) ≡ (is_among k xs || is_among k ys)
among_append k [] ys = refl
among_append k (x ∷ xs) ys = ap (λ b. k == x || b) (among_append k xs ys) ∙ sym (or_group (k == x) (is_among k xs) (is_among k ys))

-- the numbers of the nodes among items lead to the same as the items
pub over_numbers : (nodes : List Node) (test : Option NodeTest) (items : List Item) →
    flat_map (numbers_inside nodes test) (numbers_among items) ≡ numbers_over nodes a.Descendant test items
over_numbers nodes test [] = refl
over_numbers nodes test (i.Node n ∷ items) =
    flat_map-cons (numbers_inside nodes test) n (numbers_among items) ∙ ap (λ ns. numbers_inside nodes test n ++ ns) (over_numbers nodes test items)
over_numbers nodes test (i.Boolean b ∷ items) = over_numbers nodes test items
over_numbers nodes test (i.Number z ∷ items) = over_numbers nodes test items
over_numbers nodes test (i.String s ∷ items) = over_numbers nodes test items
over_numbers nodes test (i.Untyped s ∷ items) = over_numbers nodes test items
over_numbers nodes test (i.Date day ∷ items) = over_numbers nodes test items

pub at_within : (count : ℕ) (ns : List ℕ) (k n : ℕ) → AreWithin count (node_items ns) → k < length ns → n ≡ get_or ns k n → n < count
at_within count [] k n h l e = absurd (omega (arith, l))
at_within count (m ∷ ns) zero n h l e = subst (λ j. j < count) (sym e) h.0
at_within count (m ∷ ns) (suc k) n h l e = at_within count ns k n h.1 (omega (arith, l)) e

module _ (document : Document) (w : IsWalked document) where
  abbrev nodes : List Node
  nodes = tree_nodes document

  abbrev count : ℕ
  count = length document.nodes

  inside_within : (test : Option NodeTest) (n k : ℕ) → is_among k (numbers_inside nodes test n) ≡ true → k < length nodes
  inside_within test n k h = omega (
    arith,
    w.long,
    number_within count (numbers_inside nodes test n) k
        (axis_within count nodes a.Descendant test n (document_below document w)) h,
  )

  -- What is inside a node inside another is inside that.
  inside_both : (test : Option NodeTest) (m n k : ℕ) → m < length nodes → n < length nodes → is_inside m (tree_node nodes n) ≡ true
      → is_among k (numbers_inside nodes test n) ≡ true → is_among k (numbers_inside nodes test m) ≡ true
  inside_both None m n k lm ln i h = absurd (false≢true h)
  inside_both (Some test) m n k lm ln i h =
      let l : k < length nodes = inside_within (Some test) n k h in
      let at : (o : ℕ) → is_among k (numbers_inside nodes (Some test) o) ≡ (is_on a.Descendant (tree_node nodes o) (tree_node nodes k) &&
      passes a.Descendant test (tree_node nodes k)) =
      λ o. sym (among_nodes (numbers_inside nodes (Some test) o) k) ∙ has_from nodes w.walkable a.Descendant test o k refl l in
      let here = and_parts (is_on a.Descendant (tree_node nodes n) (tree_node nodes k)) (passes a.Descendant test (tree_node nodes k)) (sym (at n) ∙ h) in
      let on = and_parts (is_inside (tree_node nodes n).number (tree_node nodes k)) (not (is_attribute (tree_node nodes k))) here.0 in
      let deep : is_inside m (tree_node nodes k) ≡ true =
      inside_inside nodes w.walkable k n m l (ap (λ j. is_inside j (tree_node nodes k)) (sym (w.walkable.counted n ln)) ∙ on.0) i in
      at m ∙ and_from (is_on a.Descendant (tree_node nodes m) (tree_node nodes k)) (passes a.Descendant test (tree_node nodes k))
      (and_from (is_inside (tree_node nodes m).number (tree_node nodes k)) (not (is_attribute (tree_node nodes k)))
      (ap (λ j. is_inside j (tree_node nodes k)) (w.walkable.counted m lm) ∙ deep) on.1)
      here.1

  -- the inside of the last node that was gone into is out
  abbrev pub Around : Option NodeTest → Option ℕ → List ℕ → Type 0
  Around test around out = IfSome around (λ m. (m < length nodes) × ((k : ℕ) → is_among k (numbers_inside nodes test m) ≡ true → is_among k out ≡ true))

  pub record Gone (test : Option NodeTest) (from : List ℕ) (i : ℕ) (around : Option ℕ) (out : List ℕ) : Type 0 where
    pub inside : Around test around out
    pub left : (k : ℕ) → (is_among k out || is_among k (flat_map (numbers_inside nodes test) (drop i from))) ≡ is_among k
        (flat_map (numbers_inside nodes test) from)

  pub begins : (test : Option NodeTest) (from out : List ℕ) → out ≡ [] → Gone test from 0 None out
  begins test from out none = record {
    inside = tt;
    left = λ k. ap (λ ns. is_among k ns || is_among k (flat_map (numbers_inside nodes test) from)) none;
  }

  rest_is : (test : Option NodeTest) (from : List ℕ) (i n k : ℕ) → n ≡ get_or from i n → i < length from
      → is_among k (flat_map (numbers_inside nodes test) (drop i from)) ≡ (is_among k (numbers_inside nodes test n) ||
      is_among k (flat_map (numbers_inside nodes test) (drop (i + 1) from)))
  rest_is test from i n k e l =
      ap (λ ns. is_among k (flat_map (numbers_inside nodes test) ns)) (drop_more from i n l ∙ ap (λ m. m ∷ drop (i + 1) from) (sym e))
      ∙ (ap (is_among k) (flat_map-cons (numbers_inside nodes test) n (drop (i + 1) from))
      ∙ among_append k (numbers_inside nodes test n) (flat_map (numbers_inside nodes test) (drop (i + 1) from)))

  covers : (test : Option NodeTest) (around : Option ℕ) (n : ℕ) (out : List ℕ) → n < length nodes → is_covered nodes around n ≡ true → Around test around out
      → (k : ℕ) → is_among k (numbers_inside nodes test n) ≡ true → is_among k out ≡ true
  covers test None n out ln c r k h = absurd (false≢true c)
  covers test (Some m) n out ln c r k h = r.1 k (inside_both test m n k r.0 ln c h)

  pub goes_on : (test : Option NodeTest) (from : List ℕ) (i n : ℕ) (around : Option ℕ) (next : ℕ) (out out' : List ℕ) → n ≡ get_or from i n → i < length from →
      n < length nodes
      → GoesIn nodes test around n next out out' → Gone test from i around out → Gone test from (i + 1) (Some next) out'
  goes_on test from i n around next out out' e l ln goes gone = go (is_covered nodes around n) refl goes
    where
      go : (b : Bool) → is_covered nodes around n ≡ b → GoesBy b nodes test around n next out out' → Gone test from (i + 1) (Some next) out'
      go true c same = record {
        inside = subst (λ o. Around test o out') (sym same.0) (subst (Around test around) (sym same.1) gone.inside);
        left = λ k.
            ap (λ ns. is_among k ns || is_among k (flat_map (numbers_inside nodes test) (drop (i + 1) from))) same.1
            ∙ (absorbed (is_among k out) (is_among k (numbers_inside nodes test n)) (is_among k (flat_map (numbers_inside nodes test) (drop (i + 1) from)))
            (covers test around n out ln c gone.inside k)
            ∙ (ap (λ b. is_among k out || b) (sym (rest_is test from i n k e l)) ∙ gone.left k));
      }
      go false c more = record {
        inside = subst (λ m. Around test (Some m) out') (sym more.0) (
          ln,
          λ k is.
              ap (is_among k) more.1 ∙ (among_append k out (numbers_inside nodes test n) ∙
              or_right_so (is_among k out) (is_among k (numbers_inside nodes test n)) is),
        );
        left = λ k.
            ap (λ ns. is_among k ns || is_among k (flat_map (numbers_inside nodes test) (drop (i + 1) from))) more.1
            ∙ (ap (λ b. b || is_among k (flat_map (numbers_inside nodes test) (drop (i + 1) from))) (among_append k out (numbers_inside nodes test n))
            ∙ (or_group (is_among k out) (is_among k (numbers_inside nodes test n)) (is_among k (flat_map (numbers_inside nodes test) (drop (i + 1) from)))
            ∙ (ap (λ b. is_among k out || b) (sym (rest_is test from i n k e l)) ∙ gone.left k)));
      }

  pub ends : (test : Option NodeTest) (from : List ℕ) (i : ℕ) (around : Option ℕ) (out : List ℕ) → length from ≤ i → Gone test from i around out
      → HasSame out (flat_map (numbers_inside nodes test) from)
  ends test from i around out l gone k =
      sym (or_none (is_among k out)) ∙ (ap (λ ns. is_among k out || is_among k (flat_map (numbers_inside nodes test) ns)) (sym (drop_all i from l)) ∙
      gone.left k)
    where
      or_none : (b : Bool) → (b || false) ≡ b
      or_none true = refl
      or_none false = refl

  -- ---- as the call has it

  pub same_within : (test : Option NodeTest) (from : List ℕ) (out : List ℕ) → HasSame out (flat_map (numbers_inside nodes test) from) →
      AreWithin count (node_items out)
  same_within test from out same = all_within out (λ k h. flat_within from k (sym (same k) ∙ h))
    where
      flat_within : (from : List ℕ) (k : ℕ) → is_among k (flat_map (numbers_inside nodes test) from) ≡ true → k < count
      flat_within from k h = number_within count (flat_map (numbers_inside nodes test) from) k (each from) h
        where
          each : (from : List ℕ) → AreWithin count (node_items (flat_map (numbers_inside nodes test) from))
          each [] = tt
          each (n ∷ from) =
              subst (λ ns. AreWithin count (node_items ns)) (sym (flat_map-cons (numbers_inside nodes test) n from))
              (subst (AreWithin count) (sym (map_append _ (numbers_inside nodes test n) (flat_map (numbers_inside nodes test) from)))
              (append_within count _ _ (axis_within count nodes a.Descendant test n (document_below document w)) (each from)))

      all_within : (ns : List ℕ) → ((k : ℕ) → is_among k ns ≡ true → k < count) → AreWithin count (node_items ns)
      all_within [] h = tt
      all_within (n ∷ ns) h = (
        h n (or_left_so (n == n) (is_among n ns) (eq-eqb n n refl)),
        all_within ns (λ k is. h k (or_right_so (k == n) (is_among k ns) is)),
      )

  -- What is out, in document order, is what `//` and a step to children come to.
  pub inside_is : (test : Option NodeTest) (items : List Item) (from out : List ℕ) (value : List Item) → AreWithin (length nodes) items →
      list_all is_node items ≡ true
      → from ≡ numbers_among items → HasSame out (flat_map (numbers_inside nodes test) from) → value ≡ in_document_order nodes (node_items out) →
      inside_seen nodes test items ≡ Ok value
  inside_is test items from out value within are of same e =
      sym (one_step nodes w.walkable test items within)
      ∙ (path_of_stepped nodes a.Descendant test items are
      ∙ ap Ok (same_order nodes (node_items (numbers_over nodes a.Descendant test items)) (node_items out) (λ n.
      among_nodes (numbers_over nodes a.Descendant test items) n
      ∙ (ap (is_among n) (sym (over_numbers nodes test items) ∙ ap (flat_map (numbers_inside nodes test)) (sym of))
      ∙ (sym (same n) ∙ sym (among_nodes out n))))
      ∙ sym e))
