-- Expressions, the kinds that are stated of their parts, and the contexts in which these are evaluated: the definitions compute
-- them, from the characters on.
use Rattle.std.specs.Prelude.{ℕ, ◌≡◌, Bool, true, false, List, [], ◌∷◌, map, Option, Some, None, Ok, Err, codes, refl, pos}
use Rattle.std.specs.List.{filter}
use Rattle.std.specs.Option.{option_map}
use Rattle.std.proofs.Common.{subst}
use Rattle.std.proofs.lemmas.Bool.{false≢true}
use Rattle.std.proofs.lemmas.List.Elements.{All-contains, All-from_recursion}
use Rattle.inv_base.specs.Tree.{Node, Forest, no_more, a_text, an_element, document_nodes}
use Rattle.inv_base.specs.Characters.{is_char, is_name_start, is_name_char, is_white_space}
use Rattle.inv_decimal.specs.WrittenNumber.{written_units, read_scaled, read_decimal}
use Rattle.xpath_tokens.specs.Longest.{longest, many_then}
use Rattle.xpath_tokens.specs.Words.{words_from, comment_rest, comment_at, separator_length, closes, is_symbol}
use Rattle.xpath_tokens.specs.Tokens.{answer_of_characters, judged as judged_token, token_of}
use Rattle.xpath_grammar.specs.declared.expr.Leaf.TheVariants as l
use Rattle.xpath_grammar.specs.Machine.{tree_of, close, run, append}
use Rattle.xpath_grammar.specs.Grammar as g
use Rattle.xpath_grammar.specs.Grammar.{Tree, written, parts_written}
use Rattle.xpath_types.specs.declared.kinds.Kinds.{Kinds}
use Rattle.xpath_types.specs.Kinds.{nodes, numbers, strings, united}
use Rattle.xpath_types.specs.Functions.{type_in, function_in}
use Rattle.xpath_types.specs.Scopes.{Declared}
use Rattle.xpath_types.specs.Judging.{judged, operands}
use Rattle.xpath_types.specs.Parts.{Placed, placed, placed_inside, facts}
use Rattle.xpath_types.specs.Typing.{outermost}
use Rattle.xpath_items.specs.declared.item.Item.{Item}
use Rattle.xpath_items.specs.declared.item.Item.TheVariants as i
use Rattle.xpath_items.specs.declared.outcome.Focus.{Focus}
use Rattle.xpath_meaning.specs.Comparing.{compare}
use Rattle.xpath_meaning.specs.Resolving as r
use Rattle.xpath_meaning.specs.Meaning.{Context, at_top}
use Rattle.xpath_meaning.specs.ItemKinds.{IsOf}
use Rattle.xpath_kind_laws.specs.Arising.{Evaluation, arising, arising_inside}
use Rattle.xpath_kind_laws.specs.KindsHold.{KindsHold}
use Rattle.xpath_kind_laws.specs.Replacing.{replaced, replaced_inside}

-- what the rows look into
unfoldable tried : ℕ
unfolding answer_of_characters words_from longest many_then comment_rest comment_at separator_length closes is_symbol judged_token token_of
    is_char is_name_start is_name_char is_white_space close run append type_in function_in written parts_written judged operands
    placed placed_inside r.resolved r.operands compare written_units read_scaled read_decimal arising arising_inside replaced replaced_inside
tried = 0

abbrev nothing_declared : Declared
nothing_declared = record { prefixes = []; variables = [] }

abbrev tree_of_text : List ℕ → Option Tree
tree_of_text text = elim (answer_of_characters text) [ Err fault ↦ None | Ok tokens ↦ tree_of tokens ]

abbrev is_dot : Tree → Bool
is_dot (g.leaf l.Context) = true
is_dot _ = false

abbrev is_variable : Tree → Bool
is_variable (g.leaf (l.Variable name)) = true
is_variable _ = false

abbrev parts : List ℕ → List Placed
parts text = elim (tree_of_text text) [ None ↦ [] | Some tree ↦ placed (outermost nothing_declared) 0 tree ]

-- the kinds that are stated of the parts that pass
abbrev stated : (Tree → Bool) → List ℕ → List Kinds
stated test text = map (λ (at : Placed). (facts at).kinds) (filter (λ (at : Placed). test at.part) (parts text))

-- the contexts in which the parts that pass are evaluated, while the text is at the document
abbrev contexts : (Tree → Bool) → List Node → List ℕ → List Context
contexts test nodes text = elim (tree_of_text text) [
  | None ↦ []
  | Some tree ↦ map (λ (e : Evaluation). e.context)
      (filter (λ (e : Evaluation). test e.place.part) (arising nodes (outermost nothing_declared) [] 0 tree (at_top 0 [])))
]

abbrev foci : (Tree → Bool) → List Node → List ℕ → List Focus
foci test nodes text = map (λ (c : Context). c.focus) (contexts test nodes text)

abbrev bindings : (Tree → Bool) → List Node → List ℕ → List (List Item)
bindings test nodes text = map (λ (c : Context). c.bound) (contexts test nodes text)

-- where the part is `.`, its focus has nodes alone
abbrev AtNodes : Placed → Type 0
AtNodes at = is_dot at.part ≡ true → at.environment.focus ≡ nodes

abbrev the : Item → ℕ → ℕ → Focus
the item position last = record { item = item; position = position; last = last }

abbrev element : List ℕ → Forest → Forest → Forest
element local inside rest = an_element (record { uri = []; local = local }) [] inside rest

-- <r><a>1</a><b><a>2</a><a/></b></r>
abbrev letters : List Node
letters = document_nodes (element (codes "r") (element (codes "a") (a_text (codes "1") no_more)
    (element (codes "b") (element (codes "a") (a_text (codes "2") no_more) (element (codes "a") no_more no_more)) no_more)) no_more)

-- Predicates

-- `.` has nodes alone, wherever it is evaluated
row_1 : stated is_dot (codes "(//a)[. > 1]") ≡ nodes ∷ []
unfolding tried
row_1 = refl

row_2 : foci is_dot letters (codes "(//a)[. > 1]") ≡ the (i.Node 2) 1 3 ∷ the (i.Node 5) 2 3 ∷ the (i.Node 7) 3 3 ∷ []
unfolding tried
row_2 = refl

-- so it is a node in each document, whatever it is evaluated for
dot_at_node : (document : List Node) (e : Evaluation) → KindsHold document (parts (codes "(//a)[. > 1]")) e → is_dot e.place.part ≡ true
    → IsOf nodes e.context.focus.item
unfolding tried
dot_at_node document e h dot =
    subst (λ focus. IsOf focus e.context.focus.item)
    (All-contains AtNodes (parts (codes "(//a)[. > 1]")) e.place (All-from_recursion AtNodes (parts (codes "(//a)[. > 1]"))
    (no_dot, (no_dot, (no_dot, (no_dot, (no_dot, ((λ dot. refl), (no_dot, tt)))))))) h.is_part dot) h.suits.focus
  where
    no_dot : {focus : Kinds} → false ≡ true → focus ≡ nodes
    no_dot other = absurd (false≢true other)

-- each predicate is tried on what the one before it kept, positions counting anew
row_3 : foci is_dot letters (codes "(//a)[position() > 1][. > 1]") ≡ the (i.Node 5) 1 2 ∷ the (i.Node 7) 2 2 ∷ []
unfolding tried
row_3 = refl

-- those of a step, at each node that it is taken at, in the order of its axis
row_4 : foci is_dot letters (codes "r/b/a[2]/preceding::*[. > 1]") ≡ the (i.Node 5) 1 2 ∷ the (i.Node 2) 2 2 ∷ []
unfolding tried
row_4 = refl

row_5 : stated is_dot (codes "(1, 'a')[. = 1]") ≡ united numbers strings ∷ []
unfolding tried
row_5 = refl

row_6 : foci is_dot letters (codes "(1, 'a')[. = 1]") ≡ the (i.Number (pos 1000000000000000000)) 1 2 ∷ the (i.String (codes "a")) 2 2 ∷ []
unfolding tried
row_6 = refl

-- Steps

row_7 : foci is_dot letters (codes "r/b/a/.") ≡ the (i.Node 5) 1 2 ∷ the (i.Node 7) 2 2 ∷ []
unfolding tried
row_7 = refl

-- `//` leads to all nodes inside
row_8 : foci is_dot letters (codes "r/b//.") ≡ the (i.Node 4) 1 4 ∷ the (i.Node 5) 2 4 ∷ the (i.Node 6) 3 4 ∷ the (i.Node 7) 4 4 ∷ []
unfolding tried
row_8 = refl

-- a path that begins with its operator begins at the root
row_9 : foci is_dot letters (codes "r/b/(/.)") ≡ the (i.Node 0) 1 1 ∷ []
unfolding tried
row_9 = refl

-- where some item is no node, the step is taken at none
row_10 : foci is_dot letters (codes "(r, 1)/.") ≡ []
unfolding tried
row_10 = refl

-- Variables

-- each later binding and the body, once for each item of those before
row_11 : stated is_variable (codes "for $x in (1, 2), $y in ($x, 'a') return $y") ≡ numbers ∷ united numbers strings ∷ []
unfolding tried
row_11 = refl

row_12 : bindings is_variable letters (codes "for $x in (1, 2), $y in ($x, 'a') return $y") ≡
    (i.Number (pos 1000000000000000000) ∷ [])
    ∷ (i.Number (pos 1000000000000000000) ∷ i.Number (pos 1000000000000000000) ∷ [])
    ∷ (i.String (codes "a") ∷ i.Number (pos 1000000000000000000) ∷ [])
    ∷ (i.Number (pos 2000000000000000000) ∷ [])
    ∷ (i.Number (pos 2000000000000000000) ∷ i.Number (pos 2000000000000000000) ∷ [])
    ∷ (i.String (codes "a") ∷ i.Number (pos 2000000000000000000) ∷ []) ∷ []
unfolding tried
row_12 = refl

-- the focus is the one around
row_13 : foci is_dot letters (codes "r/b/a[some $x in (1, 2) satisfies . = $x]") ≡
    the (i.Node 5) 1 2 ∷ the (i.Node 5) 1 2 ∷ the (i.Node 7) 2 2 ∷ the (i.Node 7) 2 2 ∷ []
unfolding tried
row_13 = refl

-- Everything else is evaluated where the whole is

row_14 : foci is_dot letters (codes "r/b/(if (.) then string(.) else -(. cast as xs:decimal))")
    ≡ the (i.Node 4) 1 1 ∷ the (i.Node 4) 1 1 ∷ the (i.Node 4) 1 1 ∷ []
unfolding tried
row_14 = refl

-- Other parts

parents : Placed → Option Tree
parents at = elim (is_dot at.part) [ true ↦ Some (g.leaf l.Parent) | false ↦ None ]

row_15 : option_map (replaced parents (outermost nothing_declared) 0) (tree_of_text (codes "(//a)[. > 1]"))
    ≡ tree_of_text (codes "(//a)[.. > 1]")
unfolding tried parents
row_15 = refl
