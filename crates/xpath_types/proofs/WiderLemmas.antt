-- What is right in an environment is right, and of the same kinds, in one with a variable more outside all others.
use Rattle.std.proofs.Common.{◌≡◌, ℕ, ◌+◌, Bool, true, false, List, [], ◌∷◌, ◌++◌, Option, Some, None, Result, Ok, Err, is_some, length, map, refl, sym, ap}
use Rattle.std.proofs.Common.{◌∙◌, if◌then◌else◌, true≢false}
use Rattle.std.proofs.lemmas.List.{map-append}
use Rattle.std.specs.Str.{bytes_eq}
use Rattle.xpath_tokens.specs.declared.token.Name.{Name}
use Rattle.xpath_grammar.specs.declared.step.Test.TheVariants as e
use Rattle.xpath_grammar.specs.Grammar as g
use Rattle.xpath_grammar.specs.Grammar.{Tree, Parts}
use Rattle.xpath_grammar.specs.declared.expr.Leaf.{Leaf}
use Rattle.xpath_grammar.specs.declared.expr.Leaf.TheVariants as l
use Rattle.xpath_grammar.specs.declared.expr.Form.{Form}
use Rattle.xpath_grammar.specs.declared.expr.Form.TheVariants as m
use Rattle.xpath_grammar.specs.declared.expr.Label.{Label}
use Rattle.xpath_grammar.specs.declared.expr.Label.TheVariants as k
use Rattle.xpath_types.specs.declared.fault.TypeKind.{TypeKind}
use Rattle.xpath_types.specs.declared.fault.TypeKind.TheVariants as r
use Rattle.xpath_types.specs.Refusals.{is_before, first_of}
use Rattle.xpath_types.specs.declared.kinds.Kinds.{Kinds}
use Rattle.xpath_types.specs.Kinds.{nodes, all_kinds}
use Rattle.xpath_types.specs.Scopes.{Binding, Declared, declares, with_variable, written_name}
use Rattle.xpath_types.specs.Judging.{own_refusals, Environment, Judged, Operands, is_empty, concluded, standing_at, variable_kinds, kinds_or_all, unless}
use Rattle.xpath_types.specs.Judging.{prefix_refusals, leaf_kinds, leaf_refusals, labels, bindings_refusals, form_refusals, form_kinds, behind}
use Rattle.xpath_types.specs.Judging.{variables_behind, focus_inside, focus_behind, operand_refusals, with_operand, node_judged, is_last, judged, operands}
use Rattle.xpath_types.specs.Parts.{placed, facts}
use Rattle.xpath_types.specs.Typing.{Typing, typing_of, outermost, answer}

-- ---- lists that are empty

not_empty : {X : Type 0} {Y : Type 0} (x : X) (xs : List X) → x ∷ xs ≡ [] → Y
not_empty x xs h = absurd (true≢false (sym (ap is_empty h)))

front_empty : {X : Type 0} (a b : List X) → a ++ b ≡ [] → a ≡ []
front_empty [] b h = refl
front_empty (x ∷ a) b h = not_empty x (a ++ b) h

back_empty : {X : Type 0} (a b : List X) → a ++ b ≡ [] → b ≡ []
back_empty [] b h = h
back_empty (x ∷ a) b h = not_empty x (a ++ b) h

none_standing : (token : ℕ) (kinds : List TypeKind) → standing_at token kinds ≡ [] → kinds ≡ []
none_standing token [] h = refl
none_standing token (kind ∷ kinds) h = not_empty (record { token = token; kind = kind }) (standing_at token kinds) h

-- ---- a variable more

abbrev one_more : List ℕ → List (List ℕ × Kinds)
one_more name = (name, all_kinds) ∷ []

-- a name that isn't found has all kinds, and so has the variable more
same_kinds : (name wanted : List ℕ) (variables : List (List ℕ × Kinds)) → kinds_or_all (variable_kinds wanted (variables ++ one_more name)) ≡ kinds_or_all
    (variable_kinds wanted variables)
same_kinds name wanted [] = by (bytes_eq wanted name) where
  by : (b : Bool) → kinds_or_all (elim b as (λ _. Option Kinds) [ true ↦ Some all_kinds | false ↦ None ]) ≡ all_kinds
  by true = refl
  by false = refl
same_kinds name wanted (variable ∷ variables) = by (bytes_eq wanted variable.0) (same_kinds name wanted variables) where
  by : (b : Bool) → kinds_or_all (variable_kinds wanted (variables ++ one_more name)) ≡ kinds_or_all (variable_kinds wanted variables)
      → kinds_or_all (elim b as (λ _. Option Kinds) [ true ↦ Some variable.1 | false ↦ variable_kinds wanted (variables ++ one_more name) ])
      ≡ kinds_or_all (elim b as (λ _. Option Kinds) [ true ↦ Some variable.1 | false ↦ variable_kinds wanted variables ])
  by true rest = refl
  by false rest = rest

-- what is found is found
still_found : (name wanted : List ℕ) (variables : List (List ℕ × Kinds)) → is_some (variable_kinds wanted variables) ≡ true →
    is_some (variable_kinds wanted (variables ++ one_more name)) ≡ true
still_found name wanted [] h = absurd (true≢false (sym h))
still_found name wanted (variable ∷ variables) h = by (bytes_eq wanted variable.0) h (still_found name wanted variables) where
  by : (b : Bool) → is_some (elim b as (λ _. Option Kinds) [ true ↦ Some variable.1 | false ↦ variable_kinds wanted variables ]) ≡ true
      → (is_some (variable_kinds wanted variables) ≡ true → is_some (variable_kinds wanted (variables ++ one_more name)) ≡ true)
      → is_some (elim b as (λ _. Option Kinds) [ true ↦ Some variable.1 | false ↦ variable_kinds wanted (variables ++ one_more name) ]) ≡ true
  by true found rest = refl
  by false found rest = rest found

unless_still : (a b : Bool) (kind : TypeKind) → (a ≡ true → b ≡ true) → unless a kind ≡ [] → unless b kind ≡ []
unless_still true b kind h e = ap (λ b. unless b kind) (h refl)
unless_still false b kind h e = not_empty kind [] e

behind_more : (name : List ℕ) (label : Label) (kinds : Kinds) (variables : List (List ℕ × Kinds)) →
    variables_behind label kinds (variables ++ one_more name) ≡ variables_behind label kinds variables ++ one_more name
behind_more name k.First kinds variables = refl
behind_more name (k.Link operator) kinds variables = refl
behind_more name k.Comma kinds variables = refl
behind_more name (k.Binding lead bound) kinds variables = refl
behind_more name k.Condition kinds variables = refl
behind_more name k.Then kinds variables = refl
behind_more name (k.Signed operators) kinds variables = refl
behind_more name k.Predicate kinds variables = refl
behind_more name k.Again kinds variables = refl
behind_more name k.Opened kinds variables = refl
behind_more name (k.Calling called) kinds variables = refl

-- ---- environments with the same prefixes, the wider with a variable more

module _ (prefixes : List Binding) (own others : List (List ℕ)) (name : List ℕ) where
  abbrev declared_own : Declared
  declared_own = record { prefixes = prefixes; variables = own }

  abbrev declared_others : Declared
  declared_others = record { prefixes = prefixes; variables = others }

  abbrev narrow : Kinds → List (List ℕ × Kinds) → Environment
  narrow focus variables = record { focus = focus; variables = variables; declared = declared_own }

  abbrev wide : Kinds → List (List ℕ × Kinds) → Environment
  wide focus variables = record { focus = focus; variables = variables ++ one_more name; declared = declared_others }

  same_prefixes : (x : Name) → prefix_refusals declared_others x ≡ prefix_refusals declared_own x
  same_prefixes x = refl

  leaf_unrefused : (x : Leaf) (focus : Kinds) (variables : List (List ℕ × Kinds)) → leaf_refusals (narrow focus variables) x ≡ [] →
      leaf_refusals (wide focus variables) x ≡ []
  leaf_unrefused (l.Literal s) focus variables h = refl
  leaf_unrefused (l.Number x) focus variables h = refl
  leaf_unrefused (l.Variable x) focus variables h =
      let bound : prefix_refusals declared_own x ≡ [] =
      front_empty (prefix_refusals declared_own x) (unless (is_some (variable_kinds (written_name x) variables)) r.UndeclaredVariable) h in
      let found : unless (is_some (variable_kinds (written_name x) variables)) r.UndeclaredVariable ≡ [] =
      back_empty (prefix_refusals declared_own x) (unless (is_some (variable_kinds (written_name x) variables)) r.UndeclaredVariable) h in
      λ i. (same_prefixes x ∙ bound) i
      ++ unless_still (is_some (variable_kinds (written_name x) variables))
      (is_some (variable_kinds (written_name x) (variables ++ one_more name))) r.UndeclaredVariable (still_found name (written_name x) variables) found i
  leaf_unrefused l.Context focus variables h = refl
  leaf_unrefused l.Parent focus variables h = refl
  leaf_unrefused l.Empty focus variables h = refl
  leaf_unrefused l.Root focus variables h = refl
  leaf_unrefused (l.Called x) focus variables h = h
  leaf_unrefused (l.Step form (e.Name x)) focus variables h = h
  leaf_unrefused (l.Step form e.Star) focus variables h = refl
  leaf_unrefused (l.Step form (e.Kind kind)) focus variables h = refl

  leaf_kinds_same : (x : Leaf) (focus : Kinds) (variables : List (List ℕ × Kinds)) → leaf_kinds (wide focus variables) x ≡ leaf_kinds (narrow focus variables) x
  leaf_kinds_same (l.Literal s) focus variables = refl
  leaf_kinds_same (l.Number x) focus variables = refl
  leaf_kinds_same (l.Variable x) focus variables = same_kinds name (written_name x) variables
  leaf_kinds_same l.Context focus variables = refl
  leaf_kinds_same l.Parent focus variables = refl
  leaf_kinds_same l.Empty focus variables = refl
  leaf_kinds_same l.Root focus variables = refl
  leaf_kinds_same (l.Called x) focus variables = refl
  leaf_kinds_same (l.Step form test) focus variables = refl

  leaf_same : (x : Leaf) (focus : Kinds) (variables : List (List ℕ × Kinds)) (at : ℕ) → standing_at at (leaf_refusals (narrow focus variables) x) ≡ []
      → concluded (leaf_kinds (wide focus variables) x) (standing_at at (leaf_refusals (wide focus variables) x)) ≡ concluded
      (leaf_kinds (narrow focus variables) x) (standing_at at (leaf_refusals (narrow focus variables) x))
  leaf_same x focus variables at h = let right : leaf_refusals (narrow focus variables) x ≡ [] =
      none_standing at (leaf_refusals (narrow focus variables) x) h in
      λ i. concluded (leaf_kinds_same x focus variables i) (standing_at at ((leaf_unrefused x focus variables right ∙ sym right) i))

  bindings_same : (labels : List Label) → bindings_refusals declared_others labels ≡ bindings_refusals declared_own labels
  bindings_same labels = refl

  form_refusals_same : (form : Form) (labels : List Label) → form_refusals declared_others form labels ≡ form_refusals declared_own form labels
  form_refusals_same (m.Chain production) labels = refl
  form_refusals_same (m.Bound binder) labels = bindings_same labels
  form_refusals_same m.Conditional labels = refl
  form_refusals_same (m.Cast word type optional) labels = refl
  form_refusals_same m.Signs labels = refl
  form_refusals_same m.Filter labels = refl
  form_refusals_same m.Parentheses labels = refl
  form_refusals_same m.Call labels = refl

  form_kinds_same : (form : Form) (parts : List (Label × Kinds)) → form_kinds declared_others form parts ≡ form_kinds declared_own form parts
  form_kinds_same (m.Chain production) parts = refl
  form_kinds_same (m.Bound binder) parts = refl
  form_kinds_same m.Conditional parts = refl
  form_kinds_same (m.Cast word type optional) parts = refl
  form_kinds_same m.Signs parts = refl
  form_kinds_same m.Filter parts = refl
  form_kinds_same m.Parentheses parts = refl
  form_kinds_same m.Call parts = refl

  own_same : (form : Form) (parts : Parts) (at : ℕ) → own_refusals declared_others at form parts ≡ own_refusals declared_own at form parts
  own_same (m.Chain production) parts at = refl
  own_same (m.Bound binder) parts at = ap (standing_at at) (bindings_same (labels parts))
  own_same m.Conditional parts at = refl
  own_same (m.Cast word type optional) parts at = refl
  own_same m.Signs parts at = refl
  own_same m.Filter parts at = refl
  own_same m.Parentheses parts at = refl
  own_same m.Call parts at = refl

  node_same : (form : Form) (parts : Parts) (at : ℕ) (focus : Kinds) (variables : List (List ℕ × Kinds)) (inner : Operands) →
      node_judged (wide focus variables) at form parts inner ≡ node_judged (narrow focus variables) at form parts inner
  node_same form parts at focus variables inner = λ i. concluded (form_kinds_same form inner.kinds i) (own_same form parts at i ++ inner.refusals)

  mutual
    unfolding judged

    -- what is right in the narrower environment is judged the same in the wider
    judged_same : (x : Tree) (at : ℕ) (focus : Kinds) (variables : List (List ℕ × Kinds)) → (judged (narrow focus variables) at x).refusals ≡ [] →
        judged (wide focus variables) at x ≡ judged (narrow focus variables) at x
    judged_same (g.leaf x) at focus variables h = leaf_same x focus variables at h
    judged_same (g.node form parts) at focus variables h =
        ap (node_judged (wide focus variables) at form parts)
        (operands_same parts form at focus variables
        (back_empty (own_refusals declared_own at form parts) (operands (narrow focus variables) form at parts).refusals h))
        ∙ node_same form parts at focus variables (operands (narrow focus variables) form at parts)

    operands_same : (parts : Parts) (form : Form) (at : ℕ) (focus : Kinds) (variables : List (List ℕ × Kinds)) →
        (operands (narrow focus variables) form at parts).refusals ≡ [] →
        operands (wide focus variables) form at parts ≡ operands (narrow focus variables) form at parts
    operands_same g.none form at focus variables h = refl
    operands_same (g.more label x parts) form at focus variables h =
        let token : ℕ = at + length (g.label_tokens label) in
        let next : ℕ = token + length (g.written x) in
        let part : Judged = judged (narrow (focus_inside form label focus) variables) token x in
        let ahead : Operands = operands (narrow (focus_behind form label part.kinds focus) (variables_behind label part.kinds variables)) form next parts in
        let surely : List _ = operand_refusals form (is_last parts) token part.kinds in
        let same : judged (wide (focus_inside form label focus) variables) token x ≡ part =
        judged_same x token (focus_inside form label focus) variables (front_empty part.refusals (surely ++ ahead.refusals) h) in
        let later : ahead.refusals ≡ [] = back_empty surely ahead.refusals (back_empty part.refusals (surely ++ ahead.refusals) h) in
        (λ i. with_operand form label (is_last parts) token (same i) (operands (behind form label (same i).kinds (wide focus variables)) form next parts))
        ∙ ((λ i. with_operand form label (is_last parts) token part
        (operands (record {
          focus = focus_behind form label part.kinds focus;
          variables = behind_more name label part.kinds variables i;
          declared =
              declared_others;
        }) form next parts))
        ∙ ap (with_operand form label (is_last parts) token part)
        (operands_same parts form next (focus_behind form label part.kinds focus) (variables_behind label part.kinds variables) later))

-- ---- typings

some_first : (first : _) (refusals : List _) → is_some (first_of (Some first) refusals) ≡ true
some_first first [] = refl
some_first first (refusal ∷ refusals) = by (is_before refusal first) (some_first refusal refusals) (some_first first refusals) where
  by : (b : Bool) → is_some (first_of (Some refusal) refusals) ≡ true → is_some (first_of (Some first) refusals) ≡ true →
      is_some (first_of (if b then Some refusal else Some first) refusals) ≡ true
  by true sooner later = sooner
  by false sooner later = later

none_first : (refusals : List _) → first_of None refusals ≡ None → refusals ≡ []
none_first [] h = refl
none_first (refusal ∷ refusals) h = absurd (true≢false (sym (some_first refusal refusals) ∙ ap is_some h))

-- what was answered was right
abbrev is_right : {A E : Type 0} → Result A E → Bool
is_right (Ok value) = true
is_right (Err fault) = false

none_answered : (first : Option _) (typing found : Typing) → answer first typing ≡ Ok found → first ≡ None
none_answered None typing found h = refl
none_answered (Some refusal) typing found h = absurd (true≢false (sym (ap is_right h)))

unrefused : (declared : Declared) (x : Tree) (typing : Typing) → typing_of declared x ≡ Ok typing → (judged (outermost declared) 0 x).refusals ≡ []
unfolding typing_of
unrefused declared x typing h = none_first (judged (outermost declared) 0 x).refusals
    (none_answered (first_of None (judged (outermost declared) 0 x).refusals) _ typing h)

typed : (declared : Declared) (x : Tree) → (judged (outermost declared) 0 x).refusals ≡ [] → (typing : Typing) × (typing_of declared x ≡ Ok typing)
unfolding typing_of
typed declared x h =
    let typing : Typing = record { expression = x; declared = declared; parts = map facts (placed (outermost declared) 0 x) } in
    (typing, ap (λ refusals. answer (first_of None refusals) typing) h)

wider_right : (declared : Declared) (name : List ℕ) (x : Tree) → (judged (outermost declared) 0 x).refusals ≡ [] →
    (judged (outermost (record declared { variables = declared.variables ++ name ∷ [] })) 0 x).refusals ≡ []
wider_right declared name x h =
    let variables : List (List ℕ × Kinds) = map (λ name. (name, all_kinds)) declared.variables in
    let more : List (List ℕ) = declared.variables ++ name ∷ [] in
    (λ i. (judged (record {
      focus = nodes;
      variables = map-append (λ (name : List ℕ). (name, all_kinds)) declared.variables (name ∷ []) i;
      declared =
          record declared { variables = more };
    }) 0 x).refusals)
    ∙ (ap (λ (of : Judged). of.refusals) (judged_same declared.prefixes declared.variables more name x 0 nodes variables h) ∙ h)

pub accepted : (scope : Declared) (name : List ℕ) (x : Tree) (typing : Typing) → typing_of scope x ≡ Ok typing → (wider : Typing) ×
    (typing_of (with_variable scope name) x ≡ Ok wider)
accepted scope name x typing h = by (declares scope name) where
  by : (b : Bool) → (wider : Typing) × (typing_of (if b then scope else record scope { variables = scope.variables ++ name ∷ [] }) x ≡ Ok wider)
  by true = (typing, h)
  by false = typed (record scope { variables = scope.variables ++ name ∷ [] }) x (wider_right scope name x (unrefused scope x typing h))
