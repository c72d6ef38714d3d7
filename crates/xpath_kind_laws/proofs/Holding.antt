-- What is stated of the kinds of parts holds where they are evaluated.
use Rattle.std.proofs.Common.{ℕ, ◌+◌, List, [], ◌∷◌, length, Option, Some, None, refl, arith}
use Rattle.std.specs.List.{All, Contains, flat_map}
use Rattle.std.proofs.lemmas.List.Elements.{All-nil, All-cons, All-head, All-tail, All-append, Contains-append_left, Contains-append_right}
use Rattle.inv_base.specs.Tree.{Node}
use Rattle.xpath_grammar.specs.declared.expr.Form.{Form}
use Rattle.xpath_grammar.specs.declared.expr.Label.{Label}
use Rattle.xpath_grammar.specs.Grammar as g
use Rattle.xpath_grammar.specs.Grammar.{Tree, Parts}
use Rattle.xpath_types.specs.declared.kinds.Kinds.{Kinds}
use Rattle.xpath_types.specs.Judging as j
use Rattle.xpath_types.specs.Judging.{Environment, judged}
use Rattle.xpath_types.specs.Parts.{Placed, placed, placed_inside}
use Rattle.xpath_meaning.specs.Expressions as x
use Rattle.xpath_meaning.specs.Expressions.{Exp}
use Rattle.xpath_meaning.specs.Resolving.{resolved}
use Rattle.xpath_meaning.specs.Meaning.{Context}
use Rattle.xpath_meaning.specs.ItemKinds.{Suits}
use Rattle.xpath_meaning.specs.PartKinds.{Bound, names, AreInScope, expected}
use Rattle.xpath_kind_laws.specs.Arising.{Evaluation, place_of, here, source_behind, contexts_inside, contexts_behind, arising, arising_inside}
use Rattle.xpath_kind_laws.specs.KindsHold.{KindsHold}
use Rattle.xpath_kind_laws.proofs.Placing.{PartsHaveTheirKinds}
use Rattle.xpath_kind_laws.proofs.Focus.{IsReady, ready_at_first, contexts_suit, ready_behind}

-- what holds at each context's evaluations holds at all
of_each : {Y : Type 0} (P : Evaluation → Type 0) (Q : Y → Type 0) (f : Y → List Evaluation) → ((y : Y) → Q y → All P (f y)) → (ys : List Y) → All Q ys
    → All P (flat_map f ys)
of_each P Q f h [] qs = All-nil P
of_each P Q f h (y ∷ ys) qs = All-append P (f y) (flat_map f ys) (h y (All-head Q y ys qs)) (of_each P Q f h ys (All-tail Q y ys qs))

-- each part of the one list is one of the other
abbrev pub AreAmong : List Placed → List Placed → Type 0
AreAmong parts others = (part : Placed) → Contains parts part → Contains others part

first_of : (part : Placed) (parts : List Placed) → Contains (part ∷ parts) part
first_of part parts = (0, omega arith, refl)

mutual
  unfolding g.Grammatical g.Runs placed placed_inside arising arising_inside

  pub all_hold : (nodes : List Node) → PartsHaveTheirKinds
      → (env : Environment) (bound : Bound) (at : ℕ) (tree : Tree) (context : Context) (all : List Placed) → g.Grammatical tree → AreInScope bound env
      → Suits (expected env bound) context → AreAmong (placed env at tree) all → All (KindsHold nodes all) (arising nodes env bound at tree context)
  all_hold nodes law env bound at (g.leaf leaf) context all h scope suits among =
      All-cons (KindsHold nodes all) (here env bound at (g.leaf leaf) context) []
      (record {
        is_part =
            among (place_of env at (g.leaf leaf))
            (first_of (place_of env at (g.leaf leaf)) []);
        scope = scope;
        suits = suits;
        kinds = law nodes env bound context at (g.leaf leaf) h scope suits;
      }) (All-nil (KindsHold nodes all))
  all_hold nodes law env bound at (g.node form parts) context all h scope suits among =
      All-cons (KindsHold nodes all) (here env bound at (g.node form parts) context) (arising_inside nodes form env bound at x.the_root parts context)
      (record {
        is_part = among (place_of env at (g.node form parts))
            (first_of (place_of env at (g.node form parts)) (placed_inside env form at parts));
        scope = scope;
        suits = suits;
        kinds = law nodes env bound context at (g.node form parts) h scope suits;
      })
      (parts_hold nodes law form env bound at None x.the_root parts context all h (ready_at_first nodes form env bound x.the_root context scope suits)
      (λ part is. among part
      (Contains-append_right (place_of env at (g.node form parts) ∷ []) (placed_inside env form at parts) part is)))

  parts_hold : (nodes : List Node) → PartsHaveTheirKinds
      → (form : Form) (env : Environment) (bound : Bound) (at : ℕ) (led : Option Label) (before : Exp) (parts : Parts) (context : Context)
      (all : List Placed) → g.Runs form led parts → IsReady nodes form led env bound before context → AreAmong (placed_inside env form at parts) all
      → All (KindsHold nodes all) (arising_inside nodes form env bound at before parts context)
  parts_hold nodes law form env bound at led before g.none context all h ready among = All-nil (KindsHold nodes all)
  parts_hold nodes law form env bound at led before (g.more label tree parts) context all h ready among =
      let token : ℕ = at + length (g.label_tokens label) in
      let kinds : Kinds = (judged (j.inside form label env) token tree).kinds in
      let e : Exp = resolved env.declared (names bound) tree in
      let behind : Environment = j.behind form label kinds env in
      let bound_behind : Bound = j.variables_behind label kinds bound in
      let end : ℕ = token + length (g.written tree) in
      let next : Exp = source_behind form label tree e before in
      All-append (KindsHold nodes all)
      (flat_map (λ context. arising nodes (j.inside form label env) bound token tree context) (contexts_inside nodes form label before context))
      (flat_map (λ context. arising_inside nodes form behind bound_behind end next parts context) (contexts_behind nodes label e context))
      (of_each (KindsHold nodes all) (Suits (expected (j.inside form label env) bound))
      (λ context. arising nodes (j.inside form label env) bound token tree context)
      (λ context suits. all_hold nodes law (j.inside form label env) bound token tree context all h.2 ready.scope suits
      (λ part is. among part (Contains-append_left (placed (j.inside form label env) token tree) (placed_inside behind form end parts) part is)))
      (contexts_inside nodes form label before context) (contexts_suit nodes form led label env bound before context h.0 ready))
      (of_each (KindsHold nodes all) (IsReady nodes form (Some label) behind bound_behind next)
      (λ context. arising_inside nodes form behind bound_behind end next parts context)
      (λ context ready. parts_hold nodes law form behind bound_behind end (Some label) next parts context all h.3 ready
      (λ part is. among part (Contains-append_right (placed (j.inside form label env) token tree) (placed_inside behind form end parts) part is)))
      (contexts_behind nodes label e context)
      (ready_behind nodes form led label env bound token tree before context h.0 ready
      (law nodes (j.inside form label env) bound context token tree h.2 ready.scope)))
