-- What a plan says of its parts is so, where their facts are those that are stated: a kept part has one value at all nodes, and a
-- predicate that tests no position has one value at an item.
use Rattle.std.proofs.Common.{◌≡◌, ℕ, ◌+◌, suc, Bool, true, false, true≢false, ◌&&◌, ◌||◌, not, List, [], ◌∷◌, ◌++◌, Option, Some, None, length, slice_get, map}
use Rattle.std.proofs.Common.{drop, refl, sym, ap, subst, ◌∙◌, append_assoc}
use Rattle.std.specs.Prelude.{IsTrue}
use Rattle.std.specs.List.{AllByRecursion}
use Rattle.std.proofs.lemmas.Bool.{false≢true, and_parts}
use Rattle.inv_base.specs.Tree.{Node}
use Rattle.xpath_grammar.specs.declared.expr.Form.{Form}
use Rattle.xpath_grammar.specs.declared.expr.Form.TheVariants as f
use Rattle.xpath_grammar.specs.declared.expr.Label.{Label}
use Rattle.xpath_grammar.specs.declared.expr.Label.TheVariants as k
use Rattle.xpath_grammar.specs.Grammar as g
use Rattle.xpath_grammar.specs.Grammar.{Tree, Parts, Grammatical, Runs}
use Rattle.xpath_types.specs.declared.part.Part.{Part}
use Rattle.xpath_types.specs.Judging.{Environment, labels}
use Rattle.xpath_types.specs.Parts.{Placed, facts, placed, placed_inside}
use Rattle.xpath_meaning.specs.Expressions.{Exp}
use Rattle.xpath_meaning.specs.Meaning.{Context, mean, at}
use Rattle.xpath_meaning.specs.Resolving.{Operand, leaf_of, resolved, names_behind, begins_with_step}
use Rattle.xpath_meaning.specs.Uses.{IsAtNode}
use Rattle.xpath_plan.specs.declared.plan_node.Separator.{Separator}
use Rattle.xpath_plan.specs.Kinds.{filter_kind, second_literal}
use Rattle.xpath_plan.specs.Shapes.{is_kept, is_free, is_literal}
use Rattle.xpath_plan.specs.Claims.{Kept, Known, IsSteady, IsFree, IsPlaced, AreNumbered, known_alone, known_node, operands_known, expressions, kept_known}
use Rattle.xpath_plan.specs.Claims.{free_known, own_free}
use Rattle.xpath_plan.specs.Walking.{size, is_kept_by, is_free_by, all_free_by, kept_if, kind_in, walked, walked_inside}
use Rattle.xpath_plan.proofs.PlainLaws.{form-plain}
use Rattle.xpath_plan.proofs.WalkLaws.{walked-exp, node-exp, node-kept}
use Rattle.xpath_plan.proofs.StatedLaws as st

all-append : {X : Type 0} (P : X → Type 0) (xs ys : List X) → AllByRecursion P xs → AllByRecursion P ys → AllByRecursion P (xs ++ ys)
all-append P [] ys h i = i
all-append P (x ∷ xs) ys h i = (h.0, all-append P xs ys h.1 i)

all-nil : {X : Type 0} (P : X → Type 0) (xs : List X) → AllByRecursion P xs → AllByRecursion P (xs ++ [])
all-nil P xs h = all-append P xs [] h tt

-- Each slot is the place of its part

get-front : (front : List Kept) (part : Kept) (back : List Kept) → slice_get (front ++ part ∷ back) (length front) ≡ Some part
get-front [] part back = refl
get-front (x ∷ front) part back = get-front front part back

one-longer : (front : List Kept) (part : Kept) → suc (length front) ≡ length (front ++ part ∷ [])
one-longer [] part = refl
one-longer (x ∷ front) part = ap suc (one-longer front part)

placed-from : (all front back : List Kept) → all ≡ front ++ back → AreNumbered (length front) back → AllByRecursion IsSteady back →
    AllByRecursion (IsPlaced all) back
placed-from all front [] is numbered steady = tt
placed-from all front (part ∷ back) is numbered steady =
    let longer : suc (length front) ≡ length (front ++ part ∷ []) = one-longer front part in (
      record { at = (λ j. slice_get (is j) (numbered.0 j)) ∙ get-front front part back; steady = steady.0 },
      placed-from all (front ++ part ∷ []) back (is ∙ sym (append_assoc front (part ∷ []) back)) (subst (λ n. AreNumbered n back) longer numbered.1) steady.1,
    )

pub all-placed : (all : List Kept) → AreNumbered 0 all → AllByRecursion IsSteady all → AllByRecursion (IsPlaced all) all
all-placed all numbered steady = placed-from all [] all refl numbered steady

-- The laws of the meaning

abbrev pub Alone : Type 0
Alone = (nodes : List Node) (at : Placed) (names : List (List ℕ)) (c d : Context) → Grammatical at.part → (facts at).depends_on_document_alone ≡ true
    → IsAtNode (length names) c → IsAtNode (length names) d
    → mean nodes (resolved at.environment.declared names at.part) c ≡ mean nodes (resolved at.environment.declared names at.part) d

abbrev pub Moving : Type 0
Moving = (nodes : List Node) (part : Placed) (names : List (List ℕ)) (c : Context) (item : _) (position last position' last' : ℕ) → Grammatical part.part →
    (facts part).uses_position ≡ false
    → mean nodes (resolved part.environment.declared names part.part) (at c item position last) ≡ mean nodes
    (resolved part.environment.declared names part.part) (at c item position' last')

-- Kept parts

first-of : (a b : Bool) → (a && b) ≡ true → a ≡ true
first-of true b h = refl
first-of false b h = absurd (false≢true h)

kept-steady : (keeps : Bool) (slot height : ℕ) (part : Known) → AllByRecursion IsSteady part.kept →
    (keeps ≡ true → IsSteady (record { slot = slot; height = height; exp = part.exp }))
    → AllByRecursion IsSteady (kept_if keeps slot height part).kept
kept-steady true slot height part inside own = all-append IsSteady (part.kept ++ []) _ (all-nil IsSteady part.kept inside) (own refl, tt)
kept-steady false slot height part inside own = inside

module _ (alone : Alone) where
  one-steady : (env : Environment) (bound : List (List ℕ)) (token slot : ℕ) (x : Tree) (stated rest : List Part) (exp : Exp) →
      stated ≡ map facts (placed env token x) ++ rest → Grammatical x
      → exp ≡ resolved env.declared bound x → is_kept_by stated x ≡ true → IsSteady (record { slot = slot; height = length bound; exp = exp })
  one-steady env bound token slot x stated rest exp is grammatical same keeps = λ nodes c d one two.
      let part : Placed = record { environment = env; token = token; part = x } in
      let kept : is_kept part ≡ true = sym (st.kept-stated env token x stated rest is) ∙ keeps in
      (λ j. mean nodes (same j) c) ∙ (alone nodes part bound c d grammatical (first-of (facts part).depends_on_document_alone (not (is_literal x)) kept) one two
      ∙ (λ j. mean nodes (sym same j) d))

  mutual
    unfolding walked walked_inside resolved Grammatical Runs

    pub steady : (env : Environment) (bound : List (List ℕ)) (token slots : ℕ) (x : Tree) (stated rest : List Part) → stated ≡ map facts (placed env token x) ++
        rest → Grammatical x
        → AllByRecursion IsSteady (walked env.declared bound stated slots x).kept
    steady env bound token slots (g.leaf x) stated rest is h =
        let part : Known = known_alone (leaf_of env.declared bound x) in
        kept-steady (is_kept_by stated (g.leaf x)) (slots + length part.kept) (length bound) part tt
        (one-steady env bound token (slots + length part.kept) (g.leaf x) stated rest (leaf_of env.declared bound x) is h refl)
    steady env bound token slots (g.node form parts) stated rest is h =
        let inner : List (Separator × Known) = walked_inside env.declared bound (drop 1 stated) slots parts in
        let part : Known = known_node (kind_in env.declared form (drop 1 stated) parts) inner in
        kept-steady (is_kept_by stated (g.node form parts)) (slots + length part.kept) (length bound) part
        (subst (AllByRecursion IsSteady) (sym (node-kept env.declared form (drop 1 stated) parts inner))
        (all_steady env bound form token slots None parts (drop 1 stated) rest (st.stated-inside env token form parts stated rest is) h))
        (one-steady env bound token (slots + length part.kept) (g.node form parts) stated rest part.exp is h
        (node-exp env.declared bound stated slots form parts))

    all_steady : (env : Environment) (bound : List (List ℕ)) (form : Form) (token slots : ℕ) (before : Option Label) (parts : Parts) (stated rest : List Part) →
        stated ≡ map facts (placed_inside env form token parts) ++ rest
        → Runs form before parts → AllByRecursion IsSteady (kept_known (walked_inside env.declared bound stated slots parts))
    all_steady env bound form token slots before g.none stated rest is h = tt
    all_steady env bound form token slots before (g.more label x parts) stated rest is h =
        let part : Known = walked env.declared bound stated slots x in
        all-append IsSteady part.kept _
        (steady (st.within env form token label x parts) bound (st.first_token env form token label x parts) slots x stated _
        (st.here env form token label x parts stated rest is) h.2)
        (all_steady (st.beyond env form token label x parts) (names_behind label bound) form (st.next_token env form token label x parts)
        (slots + length part.kept) (Some label) parts (drop (size x) stated) rest
        (st.there env form token label x parts stated rest is) h.3)

-- Predicates that test no position

kept-free : (keeps : Bool) (slot height : ℕ) (part : Known) → AllByRecursion IsFree part.free → AllByRecursion IsFree (kept_if keeps slot height part).free
kept-free true slot height part h = all-nil IsFree (part.free ++ []) (all-nil IsFree part.free h)
kept-free false slot height part h = h

-- behind the first part of a filter each is a predicate
no_first : (before label : Label) → IsTrue (g.goes_on_filter before label) → g.is_first label ≡ false
no_first k.First k.Predicate h = refl
no_first k.Predicate k.Again h = refl
no_first k.Again k.Again h = refl
no_first _ k.First h = absurd (false≢true h)
no_first _ _ h = refl

unused : (first number position : Bool) → first ≡ false → (first || (not number && not position)) ≡ true → position ≡ false
unused true number position h e = absurd (true≢false h)
unused false true position h e = absurd (false≢true e)
unused false false true h e = absurd (false≢true e)
unused false false false h e = refl

filter-plain : (is_step free : Bool) (parts : List Operand) (P : Exp → Type 0) → (is_step ≡ true → free ≡ true → AllByRecursion P (expressions (drop 1 parts)))
    → AllByRecursion P (own_free (filter_kind is_step free) parts)
filter-plain true true [] P h = tt
filter-plain true true (part ∷ parts) P h = h refl refl
filter-plain true false [] P h = tt
filter-plain true false (part ∷ parts) P h = tt
filter-plain false free [] P h = tt
filter-plain false free (part ∷ parts) P h = tt

module _ (moving : Moving) where
  one-free : (env : Environment) (bound : List (List ℕ)) (token slots : ℕ) (x : Tree) (label : Label) (stated rest : List Part) →
      stated ≡ map facts (placed env token x) ++ rest → Grammatical x → g.is_first label ≡ false
      → is_free_by stated label ≡ true → IsFree (walked env.declared bound stated slots x).exp
  one-free env bound token slots x label stated rest is grammatical follows free = λ nodes c item position last position' last'.
      let part : Placed = record { environment = env; token = token; part = x } in
      let tests_none : is_free label (facts part) ≡ true = sym (st.free-stated env token x label stated rest is) ∙ free in
      let same : (walked env.declared bound stated slots x).exp ≡ resolved env.declared bound x = walked-exp env.declared bound stated slots x in
      (λ j. mean nodes (same j) (at c item position last))
      ∙ (moving nodes part bound c item position last position' last' grammatical
      (unused (g.is_first label) (facts part).kinds.number (facts part).uses_position follows tests_none)
      ∙ (λ j. mean nodes (sym same j) (at c item position' last')))

  predicates-free : (env : Environment) (bound : List (List ℕ)) (token slots : ℕ) (before : Label) (parts : Parts) (stated rest : List Part) →
      stated ≡ map facts (placed_inside env f.Filter token parts) ++ rest
      → Runs f.Filter (Some before) parts → all_free_by stated parts ≡ true →
      AllByRecursion IsFree (expressions (operands_known (walked_inside env.declared bound stated slots parts)))
  unfolding walked_inside Runs all_free_by
  predicates-free env bound token slots before g.none stated rest is h free = tt
  predicates-free env bound token slots before (g.more label x parts) stated rest is h free =
      let both = and_parts (is_free_by stated label) (all_free_by (drop (size x) stated) parts) free in
      let part : Known = walked env.declared bound stated slots x in (
        one-free (st.within env f.Filter token label x parts) bound (st.first_token env f.Filter token label x parts) slots x label stated _
            (st.here env f.Filter token label x parts stated rest is) h.2
            (no_first before label h.0) both.0,
        predicates-free (st.beyond env f.Filter token label x parts) (names_behind label bound) (st.next_token env f.Filter token label x parts)
            (slots + length part.kept) label parts (drop (size x) stated) rest
            (st.there env f.Filter token label x parts stated rest is) h.3 both.1,
      )

  filter-free : (env : Environment) (bound : List (List ℕ)) (token slots : ℕ) (parts : Parts) (stated rest : List Part) →
      stated ≡ map facts (placed_inside env f.Filter token parts) ++ rest → Runs f.Filter None parts
      → all_free_by stated parts ≡ true → AllByRecursion IsFree (expressions (drop 1 (operands_known (walked_inside env.declared bound stated slots parts))))
  unfolding walked_inside Runs all_free_by
  filter-free env bound token slots g.none stated rest is h free = tt
  filter-free env bound token slots (g.more label x parts) stated rest is h free =
      predicates-free (st.beyond env f.Filter token label x parts) (names_behind label bound) (st.next_token env f.Filter token label x parts)
      (slots + length (walked env.declared bound stated slots x).kept) label parts
      (drop (size x) stated) rest (st.there env f.Filter token label x parts stated rest is) h.3
      (and_parts (is_free_by stated label) (all_free_by (drop (size x) stated) parts) free).1

  -- by the form
  own-free : (env : Environment) (bound : List (List ℕ)) (form : Form) (token slots : ℕ) (parts : Parts) (stated rest : List Part) →
      stated ≡ map facts (placed_inside env form token parts) ++ rest → Runs form None parts
      → AllByRecursion IsFree (own_free (kind_in env.declared form stated parts) (operands_known (walked_inside env.declared bound stated slots parts)))
  own-free env bound f.Filter token slots parts stated rest is h =
      filter-plain (begins_with_step parts) (all_free_by stated parts) (operands_known (walked_inside env.declared bound stated slots parts)) IsFree
      (λ steps free. filter-free env bound token slots parts stated rest is h free)
  own-free env bound form token slots parts stated rest is h =
      subst (AllByRecursion IsFree)
      (sym ((form-plain env.declared form (begins_with_step parts) (all_free_by stated parts) (second_literal parts) (labels parts) refl).free
      (operands_known (walked_inside env.declared bound stated slots parts)))) tt

  mutual
    unfolding walked walked_inside Grammatical Runs

    pub free : (env : Environment) (bound : List (List ℕ)) (token slots : ℕ) (x : Tree) (stated rest : List Part) → stated ≡ map facts (placed env token x) ++
        rest → Grammatical x
        → AllByRecursion IsFree (walked env.declared bound stated slots x).free
    free env bound token slots (g.leaf x) stated rest is h =
        let part : Known = known_alone (leaf_of env.declared bound x) in
        kept-free (is_kept_by stated (g.leaf x)) (slots + length part.kept) (length bound) part tt
    free env bound token slots (g.node form parts) stated rest is h =
        let inner : List (Separator × Known) = walked_inside env.declared bound (drop 1 stated) slots parts in
        let part : Known = known_node (kind_in env.declared form (drop 1 stated) parts) inner in
        let inside_is = st.stated-inside env token form parts stated rest is in
        kept-free (is_kept_by stated (g.node form parts)) (slots + length part.kept) (length bound) part
        (all-append IsFree (free_known inner) _ (all_free env bound form token slots None parts (drop 1 stated) rest inside_is h)
        (own-free env bound form token slots parts (drop 1 stated) rest inside_is h))

    all_free : (env : Environment) (bound : List (List ℕ)) (form : Form) (token slots : ℕ) (before : Option Label) (parts : Parts) (stated rest : List Part) →
        stated ≡ map facts (placed_inside env form token parts) ++ rest
        → Runs form before parts → AllByRecursion IsFree (free_known (walked_inside env.declared bound stated slots parts))
    all_free env bound form token slots before g.none stated rest is h = tt
    all_free env bound form token slots before (g.more label x parts) stated rest is h =
        let part : Known = walked env.declared bound stated slots x in
        all-append IsFree part.free _
        (free (st.within env form token label x parts) bound (st.first_token env form token label x parts) slots x stated _
        (st.here env form token label x parts stated rest is) h.2)
        (all_free (st.beyond env form token label x parts) (names_behind label bound) form (st.next_token env form token label x parts)
        (slots + length part.kept) (Some label) parts (drop (size x) stated) rest
        (st.there env form token label x parts stated rest is) h.3)
