-- What the walk over an expression comes to beside what is stated of its parts: each part's shape, one kept part for each whose value is
-- kept, and that what is said of them is so.
use Rattle.std.proofs.Common.{◌≡◌, ℕ, ◌+◌, suc, Bool, true, false, true≢false, ◌&&◌, List, [], ◌∷◌, ◌++◌, Option, Some, None, length, map, drop, refl, sym, ap}
use Rattle.std.proofs.Common.{◌∙◌, arith, append-nil, append_assoc, length-append}
use Rattle.std.specs.Prelude.{is_some}
use Rattle.std.specs.Str.{bytes_eq}
use Rattle.std.proofs.Math.Seq.{drop-append_seam}
use Rattle.std.proofs.lemmas.List.{length-map, map-append}
use Rattle.xpath_tokens.specs.declared.token.Name.TheVariants as n
use Rattle.xpath_tokens.specs.declared.token.Operator.TheVariants as o
use Rattle.xpath_grammar.specs.declared.step.Axis.{Axis}
use Rattle.xpath_grammar.specs.declared.step.Axis.TheVariants as a
use Rattle.xpath_grammar.specs.declared.step.Test.{Test}
use Rattle.xpath_grammar.specs.declared.step.Test.TheVariants as t
use Rattle.xpath_grammar.specs.declared.expr.Leaf.{Leaf}
use Rattle.xpath_grammar.specs.declared.expr.Leaf.TheVariants as l
use Rattle.xpath_grammar.specs.declared.expr.Form.{Form}
use Rattle.xpath_grammar.specs.declared.expr.Form.TheVariants as f
use Rattle.xpath_grammar.specs.declared.expr.Label.{Label}
use Rattle.xpath_grammar.specs.declared.expr.Label.TheVariants as k
use Rattle.xpath_grammar.specs.Grammar as g
use Rattle.xpath_grammar.specs.Grammar.{Tree, Parts}
use Rattle.xpath_types.specs.declared.functions.Resolved.{Resolved}
use Rattle.xpath_types.specs.declared.functions.Resolved.TheVariants as r
use Rattle.xpath_types.specs.declared.part.Part.{Part}
use Rattle.xpath_types.specs.Functions.{function_called}
use Rattle.xpath_types.specs.Judging.{Environment, judged, inside, behind, labels}
use Rattle.xpath_types.specs.Parts.{facts, placed, placed_inside}
use Rattle.xpath_types.specs.Scopes.{Declared, written_name, uri_of}
use Rattle.xpath_meaning.specs.Expressions as e
use Rattle.xpath_meaning.specs.Expressions.{Exp, NodeTest}
use Rattle.xpath_meaning.specs.Resolving.{axis_of, test_of, step_of, in_uri, call_of, variable_in, leaf_of, names_behind, begins_with_step}
use Rattle.xpath_plan.specs.declared.plan_node.Separator.{Separator}
use Rattle.xpath_plan.specs.Kinds.{link_of, filter_kind, second_literal}
use Rattle.xpath_plan.specs.Shapes as s
use Rattle.xpath_plan.specs.Shapes.{Shape, Shaped, Place, value, step, apart, at_head, between, place_of, step_shape, leaf_shape, filter_shape, form_shape}
use Rattle.xpath_plan.specs.Shapes.{is_kept, is_free, all_free, shapes, shapes_inside, one_if, count_kept}
use Rattle.xpath_plan.specs.Claims.{Known, exp_shape, known_alone, known_node, kept_known, own_shape, place_at, head_shape, head_kept, shown_of, shown_parts}
use Rattle.xpath_plan.specs.Walking.{size, sizes, is_kept_by, is_free_by, all_free_by, kept_if, kind_in, walked, walked_inside}
use Rattle.xpath_plan.proofs.PlainLaws.{form-plain}
use Rattle.xpath_plan.proofs.WalkLaws.{leaf-length, node-length}

-- What is stated of the parts

one-more : (a b : ℕ) → a ≡ b → suc a ≡ 1 + b
one-more a b h = omega (arith, h)

mutual
  unfolding placed placed_inside size sizes

  placed-size : (env : Environment) (token : ℕ) (x : Tree) → length (placed env token x) ≡ size x
  placed-size env token (g.leaf x) = refl
  placed-size env token (g.node form parts) = one-more (length (placed_inside env form token parts)) (sizes parts) (inside-size env form token parts)

  inside-size : (env : Environment) (form : Form) (token : ℕ) (parts : Parts) → length (placed_inside env form token parts) ≡ sizes parts
  inside-size env form token g.none = refl
  inside-size env form token (g.more label x parts) =
      let first : ℕ = token + length (g.label_tokens label) in
      let next : Environment = behind form label (judged (inside form label env) first x).kinds env in
      length-append (placed (inside form label env) first x) (placed_inside next form (first + length (g.written x)) parts)
      ∙ (λ j. placed-size (inside form label env) first x j + inside-size next form (first + length (g.written x)) parts j)

stated-behind : (env : Environment) (token : ℕ) (x : Tree) (stated rest : List Part) → stated ≡ map facts (placed env token x) ++ rest →
    drop (size x) stated ≡ rest
stated-behind env token x stated rest is =
    (λ j. drop (sym (length-map (placed env token x) facts ∙ placed-size env token x) j) (is j)) ∙ drop-append_seam (map facts (placed env token x)) rest

-- of the parts of a node: the environment and the first token of the first of them, and of those behind it
module _ (env : Environment) (form : Form) (token : ℕ) (label : Label) (x : Tree) (parts : Parts) where
  abbrev pub first_token : ℕ
  first_token = token + length (g.label_tokens label)

  abbrev pub within : Environment
  within = inside form label env

  abbrev pub beyond : Environment
  beyond = behind form label (judged (inside form label env) (token + length (g.label_tokens label)) x).kinds env

  abbrev pub next_token : ℕ
  next_token = (token + length (g.label_tokens label)) + length (g.written x)

  module _ (stated rest : List Part) (is : stated ≡ map facts (placed_inside env form token (g.more label x parts)) ++ rest) where
    pub here : stated ≡ map facts (placed within first_token x) ++ (map facts (placed_inside beyond form next_token parts) ++ rest)
    unfolding placed_inside
    here = is ∙ (ap (λ all. all ++ rest) (map-append facts (placed within first_token x) (placed_inside beyond form next_token parts))
        ∙ append_assoc (map facts (placed within first_token x)) (map facts (placed_inside beyond form next_token parts)) rest)

    pub there : drop (size x) stated ≡ map facts (placed_inside beyond form next_token parts) ++ rest
    there = stated-behind within first_token x stated (map facts (placed_inside beyond form next_token parts) ++ rest) here

pub stated-inside : (env : Environment) (token : ℕ) (form : Form) (parts : Parts) (stated rest : List Part) →
    stated ≡ map facts (placed env token (g.node form parts)) ++ rest
    → drop 1 stated ≡ map facts (placed_inside env form token parts) ++ rest
unfolding placed
stated-inside env token form parts stated rest is = ap (drop 1) is

pub kept-stated : (env : Environment) (token : ℕ) (x : Tree) (stated rest : List Part) → stated ≡ map facts (placed env token x) ++ rest →
    is_kept_by stated x ≡ is_kept (record { environment = env; token = token; part = x })
unfolding placed
kept-stated env token (g.leaf x) stated rest is = ap (λ stated. is_kept_by stated (g.leaf x)) is
kept-stated env token (g.node form parts) stated rest is = ap (λ stated. is_kept_by stated (g.node form parts)) is

pub free-stated : (env : Environment) (token : ℕ) (x : Tree) (label : Label) (stated rest : List Part) → stated ≡ map facts (placed env token x) ++ rest
    → is_free_by stated label ≡ is_free label (facts (record { environment = env; token = token; part = x }))
unfolding placed
free-stated env token (g.leaf x) label stated rest is = ap (λ stated. is_free_by stated label) is
free-stated env token (g.node form parts) label stated rest is = ap (λ stated. is_free_by stated label) is

all-free-stated : (env : Environment) (form : Form) (token : ℕ) (parts : Parts) (stated rest : List Part) →
    stated ≡ map facts (placed_inside env form token parts) ++ rest → all_free_by stated parts ≡ all_free env form token parts
unfolding all_free_by all_free
all-free-stated env form token g.none stated rest is = refl
all-free-stated env form token (g.more label x parts) stated rest is =
    let here_free = free-stated (within env form token label x parts) (first_token env form token label x parts) x label stated _
    (here env form token label x parts stated rest is) in
    let rest_free = all-free-stated (beyond env form token label x parts) form (next_token env form token label x parts) parts (drop (size x) stated) rest
    (there env form token label x parts stated rest is) in
    λ j. here_free j && rest_free j

-- Shapes of parts without parts

step-apart : (place : Place) → step ≡ step_shape place false
step-apart apart = refl
step-apart at_head = refl
step-apart between = refl

and_false : (b : Bool) → false ≡ (b && false)
and_false true = refl
and_false false = refl

-- a step that is no step to children of a full name
other-step : (place : Place) (b c : Bool) → c ≡ false → step ≡ step_shape place ((b && c) && true)
other-step place true c h = step-apart place ∙ ap (λ c. step_shape place (c && true)) (sym h)
other-step place false c h = step-apart place

named-step : (place : Place) (axis : Axis) (name : _) → exp_shape place (e.stepped (e.axis_step axis (e.named name))) ≡ step_shape place
    ((s.is_child axis && true) && true)
named-step place a.Child name = refl
named-step place a.Descendant name = step-apart place
named-step place a.DescendantOrSelf name = step-apart place
named-step place a.Itself name = step-apart place
named-step place a.Attribute name = step-apart place
named-step place a.Parent name = step-apart place
named-step place a.Ancestor name = step-apart place
named-step place a.AncestorOrSelf name = step-apart place
named-step place a.FollowingSibling name = step-apart place
named-step place a.PrecedingSibling name = step-apart place
named-step place a.Following name = step-apart place
named-step place a.Preceding name = step-apart place

abbrev is_named : NodeTest → Bool
is_named (e.named name) = true
is_named _ = false

unnamed : (place : Place) (axis : Axis) (test : NodeTest) → is_named test ≡ false → exp_shape place (e.stepped (e.axis_step axis test)) ≡ step
unnamed place axis (e.named name) h = absurd (true≢false h)
unnamed place a.Child _ h = refl
unnamed place _ _ h = refl

abbrev shape_if : Place → Bool → Bool → Shape
shape_if place known free = elim known [ true ↦ step_shape place free | false ↦ value ]

in_uri-named : (place : Place) (axis : Axis) (local : List ℕ) (found : Option (List ℕ))
    → exp_shape place (step_of axis (in_uri (λ uri. e.named (record { uri = uri; local = local })) found)) ≡ shape_if place
    (is_some (in_uri (λ uri. e.named (record { uri = uri; local = local })) found)) ((s.is_child axis && true) && true)
in_uri-named place axis local None = refl
in_uri-named place axis local (Some uri) = named-step place axis (record { uri = uri; local = local })

in_uri-any : (place : Place) (axis : Axis) (found : Option (List ℕ))
    → exp_shape place (step_of axis (in_uri e.in_namespace found)) ≡ shape_if place (is_some (in_uri e.in_namespace found)) ((s.is_child axis && false) && true)
in_uri-any place axis None = refl
in_uri-any place axis (Some uri) = unnamed place axis (e.in_namespace uri) refl ∙ other-step place (s.is_child axis) false refl

step-leaf : (declared : Declared) (place : Place) (axis : Axis) (test : Test)
    → exp_shape place (step_of axis (test_of declared test)) ≡ shape_if place (is_some (test_of declared test)) ((s.is_child axis && s.is_full_name test) &&
    true)
step-leaf declared place axis (t.Name (n.Plain local)) = named-step place axis (record { uri = []; local = local })
step-leaf declared place axis (t.Name (n.Prefixed prefix local)) = in_uri-named place axis local (uri_of prefix declared)
step-leaf declared place axis (t.Name (n.AnyLocal prefix)) = in_uri-any place axis (uri_of prefix declared)
step-leaf declared place axis (t.Name (n.AnyPrefix local)) = unnamed place axis (e.with_local local) refl ∙ other-step place (s.is_child axis) false refl
step-leaf declared place axis t.Star = unnamed place axis e.any_name refl ∙ other-step place (s.is_child axis) false refl
step-leaf declared place axis (t.Kind kind) = unnamed place axis (e.of_kind kind) refl ∙ other-step place (s.is_child axis) false refl

variable-leaf : (place : Place) (name : List ℕ) (bound : List (List ℕ)) → exp_shape place (variable_in name bound) ≡ value
variable-leaf place name [] = refl
variable-leaf place name (inner ∷ bound) = go (bytes_eq name inner) (variable-leaf place name bound)
  where
    go : (b : Bool) → exp_shape place (variable_in name bound) ≡ value →
        exp_shape place (elim b as (λ _. Exp) [ true ↦ e.variable (length bound) | false ↦ variable_in name bound ]) ≡ value
    go true h = refl
    go false h = h

call-leaf : (place : Place) (called : Resolved) → exp_shape place (call_of called e.no_more) ≡ value
call-leaf place (r.Known function) = refl
call-leaf place _ = refl

leaf-is : (declared : Declared) (bound : List (List ℕ)) (place : Place) (x : Leaf) →
    exp_shape place (leaf_of declared bound x) ≡ leaf_shape declared place x true
leaf-is declared bound place (l.Literal text) = refl
leaf-is declared bound place (l.Number number) = refl
leaf-is declared bound place (l.Variable name) = variable-leaf place (written_name name) bound
leaf-is declared bound place l.Context = refl
leaf-is declared bound place l.Parent = step-apart place
leaf-is declared bound place l.Empty = refl
leaf-is declared bound place l.Root = refl
leaf-is declared bound place (l.Called name) = call-leaf place (function_called declared name)
leaf-is declared bound place (l.Step form test) = step-leaf declared place (axis_of form test) test

-- where a predicate tests a position
unfree : (declared : Declared) (place : Place) (x : Leaf) → leaf_shape declared apart x true ≡ leaf_shape declared place x false
unfree declared place x = go (s.is_step declared x) (s.is_name x)
  where
    go : (known name : Bool) → shape_if apart known (name && true) ≡ shape_if place known (name && false)
    go true true = step-apart place
    go true false = step-apart place
    go false name = refl

-- Shapes of parts with parts

head-kept : (keeps : Bool) (slot height : ℕ) (part : Known) (place : Place) (shape : Shape) (others : List Shaped) →
    part.shown place ≡ record { shape = shape; once = false } ∷ others
    → (kept_if keeps slot height part).shown place ≡ record { shape = shape; once = keeps } ∷ others
head-kept true slot height part place shape others h = append-nil (head_kept (part.shown place)) ∙ ap head_kept h
head-kept false slot height part place shape others h = h

head-leaf : (declared : Declared) (bound : List (List ℕ)) (stated : List Part) (slots : ℕ) (place : Place) (x : Leaf) →
    head_shape ((walked declared bound stated slots (g.leaf x)).shown place) ≡ leaf_shape declared place x true
unfolding walked
head-leaf declared bound stated slots place x =
    let part : Known = known_alone (leaf_of declared bound x) in
    ap head_shape (head-kept (is_kept_by stated (g.leaf x)) (slots + length part.kept) (length bound) part place
    (exp_shape place (leaf_of declared bound x)) [] refl) ∙ leaf-is declared bound place x

step-filtered : (declared : Declared) (bound : List (List ℕ)) (stated : List Part) (slots : ℕ) (place : Place) (label : Label) (x : Leaf) (parts : Parts)
    (free : Bool)
    → own_shape (filter_kind true free) place (walked_inside declared bound stated slots (g.more label (g.leaf x) parts)) ≡ leaf_shape declared place x free
unfolding walked_inside
step-filtered declared bound stated slots place label x parts true = head-leaf declared bound stated slots place x
step-filtered declared bound stated slots place label x parts false = head-leaf declared bound stated slots apart x ∙ unfree declared place x

filter-is : (declared : Declared) (bound : List (List ℕ)) (stated : List Part) (slots : ℕ) (place : Place) (free : Bool) (parts : Parts)
    → own_shape (filter_kind (begins_with_step parts) free) place (walked_inside declared bound stated slots parts) ≡ filter_shape declared place free parts
filter-is declared bound stated slots place free g.none = refl
filter-is declared bound stated slots place free (g.more label (g.node form inner) parts) = refl
filter-is declared bound stated slots place free (g.more label (g.leaf (l.Step form test)) parts) =
    step-filtered declared bound stated slots place label (l.Step form test) parts free
filter-is declared bound stated slots place free (g.more label (g.leaf l.Parent) parts) =
    step-filtered declared bound stated slots place label l.Parent parts free
filter-is declared bound stated slots place free (g.more label (g.leaf _) parts) = refl

filter-shown : (is_step free : Bool) (place : Place) (inner : List (Separator × Known))
    → shown_of (filter_kind is_step free) place inner ≡ record {
      shape = own_shape (filter_kind is_step free) place inner;
      once =
          false;
    } ∷ shown_parts true inner
filter-shown true true place inner = refl
filter-shown true false place inner = refl
filter-shown false free place inner = refl

node-shown : (declared : Declared) (bound : List (List ℕ)) (stated : List Part) (slots : ℕ) (place : Place) (form : Form) (parts : Parts)
    → shown_of (kind_in declared form stated parts) place (walked_inside declared bound stated slots parts)
    ≡ record { shape = form_shape declared place (all_free_by stated parts) form parts; once = false } ∷ shown_parts true
    (walked_inside declared bound stated slots parts)
node-shown declared bound stated slots place f.Filter parts =
    let inner : List (Separator × Known) = walked_inside declared bound stated slots parts in
    filter-shown (begins_with_step parts) (all_free_by stated parts) place inner
    ∙ ap (λ shape. record { shape = shape; once = false } ∷ shown_parts true inner)
    (filter-is declared bound stated slots place (all_free_by stated parts) parts)
node-shown declared bound stated slots place form parts =
    (form-plain declared form (begins_with_step parts) (all_free_by stated parts) (second_literal parts) (labels parts) refl).shown place
    (walked_inside declared bound stated slots parts)

place-same : (first : Bool) (label : Label) → place_at first (link_of label) ≡ place_of first label
place-same true (k.Link o.DoubleSlash) = refl
place-same false (k.Link o.DoubleSlash) = refl
place-same true (k.Link _) = refl
place-same false (k.Link _) = refl
place-same true _ = refl
place-same false _ = refl

mutual
  unfolding walked walked_inside shapes shapes_inside

  pub shown-is : (env : Environment) (bound : List (List ℕ)) (token slots : ℕ) (place : Place) (x : Tree) (stated rest : List Part) →
      stated ≡ map facts (placed env token x) ++ rest
      → (walked env.declared bound stated slots x).shown place ≡ shapes env token place x
  shown-is env bound token slots place (g.leaf x) stated rest is =
      let part : Known = known_alone (leaf_of env.declared bound x) in
      head-kept (is_kept_by stated (g.leaf x)) (slots + length part.kept) (length bound) part place (exp_shape place (leaf_of env.declared bound x)) [] refl
      ∙ (λ j. record { shape = leaf-is env.declared bound place x j; once = kept-stated env token (g.leaf x) stated rest is j } ∷ [])
  shown-is env bound token slots place (g.node form parts) stated rest is =
      let inside_is : drop 1 stated ≡ map facts (placed_inside env form token parts) ++ rest = stated-inside env token form parts stated rest is in
      let inner : List (Separator × Known) = walked_inside env.declared bound (drop 1 stated) slots parts in
      let part : Known = known_node (kind_in env.declared form (drop 1 stated) parts) inner in
      head-kept (is_kept_by stated (g.node form parts)) (slots + length part.kept) (length bound) part place
      (form_shape env.declared place (all_free_by (drop 1 stated) parts) form parts) (shown_parts true inner)
      (node-shown env.declared bound (drop 1 stated) slots place form parts)
      ∙ (λ j. record {
        shape = form_shape env.declared place (all-free-stated env form token parts (drop 1 stated) rest inside_is j) form parts;
        once =
            kept-stated env token (g.node form parts) stated rest is j;
      }
      ∷ inside-shown env bound form token slots true parts (drop 1 stated) rest inside_is j)

  inside-shown : (env : Environment) (bound : List (List ℕ)) (form : Form) (token slots : ℕ) (first : Bool) (parts : Parts) (stated rest : List Part) →
      stated ≡ map facts (placed_inside env form token parts) ++ rest
      → shown_parts first (walked_inside env.declared bound stated slots parts) ≡ shapes_inside env form token first parts
  inside-shown env bound form token slots first g.none stated rest is = refl
  inside-shown env bound form token slots first (g.more label x parts) stated rest is =
      let inner : Environment = within env form token label x parts in
      let begin : ℕ = first_token env form token label x parts in
      let part : Known = walked env.declared bound stated slots x in
      let others : List (Separator × Known) = walked_inside env.declared (names_behind label bound) (drop (size x) stated) (slots + length part.kept) parts in
      ap (λ place. part.shown place ++ shown_parts false others) (place-same first label)
      ∙ (λ j. shown-is inner bound begin slots (place_of first label) x stated _ (here env form token label x parts stated rest is) j
      ++ inside-shown (beyond env form token label x parts) (names_behind label bound) form (next_token env form token label x parts)
      (slots + length part.kept) false parts (drop (size x) stated) rest
      (there env form token label x parts stated rest is) j)

-- How many are kept

count-append : (xs ys : List Shaped) → count_kept (xs ++ ys) ≡ count_kept xs + count_kept ys
count-append [] ys = omega arith
count-append (x ∷ xs) ys =
    let all : count_kept (xs ++ ys) ≡ count_kept xs + count_kept ys = count-append xs ys in
    omega (arith, all)

swapped : (a b c d : ℕ) → a ≡ c → b ≡ d → a + b ≡ d + c
swapped a b c d h i = omega (arith, h, i)

mutual
  unfolding walked_inside shapes shapes_inside

  pub counted : (env : Environment) (bound : List (List ℕ)) (token slots : ℕ) (place : Place) (x : Tree) (stated rest : List Part) →
      stated ≡ map facts (placed env token x) ++ rest
      → length (walked env.declared bound stated slots x).kept ≡ count_kept (shapes env token place x)
  counted env bound token slots place (g.leaf x) stated rest is =
      let kept : one_if (is_kept_by stated (g.leaf x)) ≡ one_if (is_kept (record { environment = env; token = token; part = g.leaf x })) =
      ap one_if (kept-stated env token (g.leaf x) stated rest is) in
      let all : length (walked env.declared bound stated slots (g.leaf x)).kept ≡ one_if (is_kept_by stated (g.leaf x)) =
      leaf-length env.declared bound stated slots x in
      omega (arith, kept, all)
  counted env bound token slots place (g.node form parts) stated rest is =
      node-length env.declared bound stated slots form parts
      ∙ swapped _ _ _ _ (inside-counted env bound form token slots true parts (drop 1 stated) rest (stated-inside env token form parts stated rest is))
      (ap one_if (kept-stated env token (g.node form parts) stated rest is))

  inside-counted : (env : Environment) (bound : List (List ℕ)) (form : Form) (token slots : ℕ) (first : Bool) (parts : Parts) (stated rest : List Part) →
      stated ≡ map facts (placed_inside env form token parts) ++ rest
      → length (kept_known (walked_inside env.declared bound stated slots parts)) ≡ count_kept (shapes_inside env form token first parts)
  inside-counted env bound form token slots first g.none stated rest is = refl
  inside-counted env bound form token slots first (g.more label x parts) stated rest is =
      let inner : Environment = within env form token label x parts in
      let begin : ℕ = first_token env form token label x parts in
      let next : Environment = beyond env form token label x parts in
      let end : ℕ = next_token env form token label x parts in
      let part : Known = walked env.declared bound stated slots x in
      let others : List (Separator × Known) = walked_inside env.declared (names_behind label bound) (drop (size x) stated) (slots + length part.kept) parts in
      length-append part.kept (kept_known others)
      ∙ ((λ j. counted inner bound begin slots (place_of first label) x stated _ (here env form token label x parts stated rest is) j
      + inside-counted next (names_behind label bound) form end (slots + length part.kept) false parts (drop (size x) stated) rest
      (there env form token label x parts stated rest is) j)
      ∙ sym (count-append (shapes inner begin (place_of first label) x) (shapes_inside next form end false parts)))
