-- What the two tests of the built-in rules come to at a node that has one child of each name.
use Rattle.std.proofs.Common.{◌≡◌, ℕ, suc, ◌*◌, Bool, true, false, ◌&&◌, List, [], ◌∷◌, length, map, filter, Result, Ok, Err, pos, ℤ, refl, ap, ◌∙◌, subst}
use Rattle.std.specs.Prelude.{nat_lt}
use Rattle.std.specs.Ordering.{int_cmp, is_eq}
use Rattle.inv_base.specs.Tree.{Name, Node}
use Rattle.node_arena.specs.Moves.{tree_node, is_child}
use Rattle.inv_decimal.specs.Number.{unit}
use Rattle.inv_decimal.specs.Arithmetic.{product_of}
use Rattle.xpath_tokens.specs.declared.token.Operator.TheVariants as o
use Rattle.xpath_grammar.specs.declared.operators.Op.TheVariants as c
use Rattle.xpath_grammar.specs.declared.functions.Function.TheVariants as f
use Rattle.xpath_items.specs.declared.item.Item.{Item}
use Rattle.xpath_items.specs.declared.item.Item.TheVariants as i
use Rattle.xpath_items.specs.declared.outcome.DynError.{DynError}
use Rattle.xpath_items.specs.declared.outcome.DynError.TheVariants as e
use Rattle.bind_meaning.specs.Elements.{both, string_at}
use Rattle.xpath_meaning.specs.Values.{Value, then_, one, joined}
use Rattle.xpath_meaning.specs.Reading.{read_number, number_item}
use Rattle.xpath_meaning.specs.Numbers.{counted, number, in_range}
use Rattle.xpath_meaning.specs.Comparing.{compare, compared, boolean, ordering}
use Rattle.xpath_meaning.specs.Functions.{call}
use Rattle.xpath_meaning.specs.Steps.{node_item, in_document_order, of_turns, path}
use Rattle.xpath_meaning.specs.Meaning.{Context, mean, means, at, truth_of, operated}
use Rattle.xpath_meaning.specs.Expressions as x
use Rattle.xpath_meaning.specs.Expressions.{Exp}
use Rattle.binding_laws.proofs.TreeLemmas.{Each, filter-same}
use Rattle.trial_laws.proofs.Numbered.{AreNumbered}
use Rattle.trial_laws.proofs.Finding.{children, is_called, child_called, ordered, children-value}

-- ---- comparisons

abbrev compared_with : ℤ → Result ℤ DynError → Result Bool DynError
compared_with b read = then_ {X = Item × Item} (then_ (number_item read) (λ a. then_ (Ok (i.Number b)) (λ d. Ok (a, d))))
    (λ pair. then_ (ordering pair.0 pair.1) (λ order. Ok (is_eq order)))

numbers-compared : (a b : ℤ) → compare c.Equal (i.Number a) (i.Number b) ≡ Ok (is_eq (int_cmp a b))
unfolding compare
numbers-compared a b = refl

text-compared : (s : List ℕ) (a b : ℤ) → read_number s ≡ Ok a → compare c.Equal (i.Untyped s) (i.Number b) ≡ Ok (is_eq (int_cmp a b))
unfolding compare
text-compared s a b h = ap (compared_with b) h

one-pair : (y z : Item) (b : Bool) → compare c.Equal y z ≡ Ok b → truth_of (compared c.Equal (y ∷ []) (z ∷ [])) ≡ Ok b
one-pair y z b h = ap (λ r. truth_of (boolean (then_ (then_ r after) after))) h ∙ same b
  where
    after : Bool → Result Bool DynError
    after found = elim found [ true ↦ Ok true | false ↦ Ok false ]

    same : (d : Bool) → truth_of (boolean (then_ (after d) after)) ≡ Ok d
    same true = refl
    same false = refl

-- ---- children

-- The one child that has the name says the text.
pub record SaysOnce (nodes : List Node) (n : ℕ) (name : Name) (text : List ℕ) : Type 0 where
  pub node : Node
  pub only : filter (both (is_child n) (is_called name)) nodes ≡ node ∷ []
  pub said : string_at nodes node.number ≡ text

same-test : (a b : Bool) → (a && b) ≡ elim a [ true ↦ b | false ↦ false ]
same-test true b = refl
same-test false b = refl

module _ (m : ℕ) (nodes : List Node) (numbered : AreNumbered 0 m nodes) where
  each-same : (n : ℕ) (name : Name) → (tree_node nodes n).number ≡ n → (xs : List Node) →
      Each (λ y. child_called nodes name n y ≡ both (is_child n) (is_called name) y) xs
  each-same n name h [] = tt
  each-same n name h (y ∷ ys) = (ap (λ k. is_child k y && is_called name y) h ∙ same-test (is_child n y) (is_called name y), each-same n name h ys)

  -- the items of a name, where it has one child
  child-filter : (n : ℕ) (name : Name) (node : Node) → (tree_node nodes n).number ≡ n → filter (both (is_child n) (is_called name)) nodes ≡ node ∷ [] →
      filter (child_called nodes name n) nodes ≡ node ∷ []
  child-filter n name node h only = filter-same (child_called nodes name n) (both (is_child n) (is_called name)) nodes (each-same n name h nodes) ∙ only

  pub child-value : (n : ℕ) (name : Name) (node : Node) (context : Context) (position last : ℕ) → (tree_node nodes n).number ≡ n →
      filter (both (is_child n) (is_called name)) nodes ≡ node ∷ []
      → mean nodes (children name) (at context (i.Node n) position last) ≡ Ok (i.Node node.number ∷ [])
  child-value n name node context position last h only =
      children-value m nodes numbered name n context position last ∙ ap (λ l. Ok (map node_item l)) (child-filter n name node h only)

  -- and a child of that
  pub grandchild-value : (n : ℕ) (outer inner : Name) (node under : Node) (context : Context) (position last : ℕ) → (tree_node nodes n).number ≡ n →
      (tree_node nodes node.number).number ≡ node.number
      → filter (both (is_child n) (is_called outer)) nodes ≡ node ∷ [] → filter (both (is_child node.number) (is_called inner)) nodes ≡ under ∷ []
      → mean nodes (x.slash (children outer) (children inner)) (at context (i.Node n) position last) ≡ Ok (i.Node under.number ∷ [])
  grandchild-value n outer inner node under context position last h k first second =
      let here : Context = at context (i.Node n) position last in
      let step : Item → ℕ → ℕ → Value = λ item p l. mean nodes (children inner) (at here item p l) in
      ap (λ v. then_ v (path nodes step)) (child-value n outer node context position last h first)
      ∙ (ap (λ v. then_ (joined v (Ok [])) (of_turns nodes)) (child-value node.number inner under here 1 1 k second)
      ∙ ap Ok (subst (λ (l : List Node). in_document_order nodes (map node_item l) ≡ map node_item l) (child-filter node.number inner under k second)
      (ordered (child_called nodes inner node.number) m nodes numbered)))

  -- ---- the net amount is the quantity times the price

  module _ (n : ℕ) (own : (tree_node nodes n).number ≡ n) (context : Context) (position last : ℕ) where
    abbrev here : Context
    here = at context (i.Node n) position last

    decimal-value : (name : Name) (text : List ℕ) (z : ℤ) → SaysOnce nodes n name text → read_number text ≡ Ok z
        → mean nodes (x.called f.XsDecimal (x.argument (children name) x.no_more)) here ≡ one (i.Number z)
    decimal-value name text z says read =
        ap (λ v. then_ (then_ v (λ value. then_ (means nodes x.no_more here) (λ values. Ok (value ∷ values)))) (call nodes f.XsDecimal here.focus))
        (child-value n name says.node context position last own says.only)
        ∙ ap (λ r. then_ (number_item r) one) (ap read_number says.said ∙ read)

    abbrev multiplied : Result ℤ DynError → Result ℤ DynError → Value
    multiplied r s = then_ r (λ a. then_ s (λ b. number (in_range (product_of a b))))

    product-value : (name outer inner : Name) (quantity price : List ℕ) (a b z : ℤ) → SaysOnce nodes n name quantity → (node : Node) →
        (tree_node nodes node.number).number ≡ node.number
        → filter (both (is_child n) (is_called outer)) nodes ≡ node ∷ [] → SaysOnce nodes node.number inner price → read_number quantity ≡ Ok a →
        read_number price ≡ Ok b → product_of a b ≡ Ok z
        → mean nodes (x.operated o.Times (children name) (x.slash (children outer) (children inner))) here ≡ one (i.Number z)
    product-value name outer inner quantity price a b z says node k only priced read-quantity read-price product =
        ap (λ v. then_ v (λ xs. then_ (mean nodes (x.slash (children outer) (children inner)) here) (λ ys. operated nodes o.Times xs ys)))
        (child-value n name says.node context position last own says.only)
        ∙ (ap (λ v. then_ v (λ ys. operated nodes o.Times (i.Node says.node.number ∷ []) ys))
        (grandchild-value n outer inner node priced.node context position last own k only priced.only)
        ∙ ((λ j. multiplied (read_number (says.said j)) (read_number (priced.said j)))
        ∙ ((λ j. multiplied (read-quantity j) (read-price j)) ∙ ap (λ r. number (in_range r)) product)))

    pub net-test : (amount name outer inner : Name) (net quantity price : List ℕ) (a b z : ℤ) → SaysOnce nodes n amount net → SaysOnce nodes n name quantity →
        (node : Node)
        → (tree_node nodes node.number).number ≡ node.number → filter (both (is_child n) (is_called outer)) nodes ≡ node ∷ [] →
        SaysOnce nodes node.number inner price
        → read_number net ≡ Ok z → read_number quantity ≡ Ok a → read_number price ≡ Ok b → product_of a b ≡ Ok z → is_eq (int_cmp z z) ≡ true
        → truth_of (mean nodes (x.operated o.Equal (x.called f.XsDecimal (x.argument (children amount) x.no_more))
        (x.operated o.Times (children name) (x.slash (children outer) (children inner)))) here) ≡ Ok true
    net-test amount name outer inner net quantity price a b z said says node k only priced read-net read-quantity read-price product same =
        ap (λ v. truth_of (then_ v (λ xs. then_ (mean nodes (x.operated o.Times (children name) (x.slash (children outer) (children inner))) here)
        (λ ys. operated nodes o.Equal xs ys))))
        (decimal-value amount net z said read-net)
        ∙ (ap (λ v. truth_of (then_ v (λ ys. operated nodes o.Equal (i.Number z ∷ []) ys)))
        (product-value name outer inner quantity price a b z says node k only priced read-quantity read-price product)
        ∙ (one-pair (i.Number z) (i.Number z) (is_eq (int_cmp z z)) (numbers-compared z z) ∙ ap Ok same))

    -- ---- the number is the count

    length-map : (f : Node → Item) (ys : List Node) → length (map f ys) ≡ length ys
    length-map f [] = refl
    length-map f (y ∷ ys) = ap suc (length-map f ys)

    pub count-test : (name : Name) (text : List ℕ) (a : ℤ) (counting : Exp) (ys : List Node) (count : ℕ) → SaysOnce nodes n name text → read_number text ≡ Ok a
        → mean nodes counting here ≡ Ok (map node_item ys) → length ys ≡ count → nat_lt count unit ≡ true
        → truth_of (mean nodes (x.operated o.Equal (children name) (x.called f.Count (x.argument counting x.no_more))) here) ≡ Ok
        (is_eq (int_cmp a (pos (count * unit))))
    count-test name text a counting ys count says read counts long few =
        let z : ℤ = pos (count * unit) in
        ap (λ v. truth_of (then_ v (λ xs. then_ (mean nodes (x.called f.Count (x.argument counting x.no_more)) here) (λ zs. operated nodes o.Equal xs zs))))
        (child-value n name says.node context position last own says.only)
        ∙ (ap (λ v. truth_of (then_ (then_ (then_ v (λ value. then_ (means nodes x.no_more here) (λ values. Ok (value ∷ values))))
        (call nodes f.Count here.focus)) (λ zs. operated nodes o.Equal (i.Node says.node.number ∷ []) zs)))
        counts
        ∙ (ap (λ k. truth_of (then_ (counted k) (λ zs. operated nodes o.Equal (i.Node says.node.number ∷ []) zs))) (length-map node_item ys ∙ long)
        ∙ (ap (λ b. truth_of (then_ (elim b [ true ↦ one (i.Number z) | false ↦ Err e.FOAR0002 ])
        (λ zs. operated nodes o.Equal (i.Node says.node.number ∷ []) zs))) few
        ∙ (ap (λ s. truth_of (compared c.Equal (i.Untyped s ∷ []) (i.Number z ∷ []))) says.said
        ∙ one-pair (i.Untyped text) (i.Number z) (is_eq (int_cmp a z)) (text-compared text a z read)))))
