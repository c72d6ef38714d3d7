-- Over any algebra the machine does what it does over trees.
use Rattle.std.proofs.Common.{◌≡◌, ℕ, Bool, true, false, List, [], ◌∷◌, Option, Some, None, option_map, nat_lt, nat_le, refl, sym, ap, ◌∙◌}
use Rattle.xpath_tokens.specs.declared.token.Operator.{Operator}
use Rattle.xpath_tokens.specs.declared.token.Operator.TheVariants as o
use Rattle.xpath_tokens.specs.declared.token.Name.{Name}
use Rattle.xpath_tokens.specs.declared.token.Token.{Token}
use Rattle.xpath_tokens.specs.declared.token.Token.TheVariants as t
use Rattle.xpath_grammar.specs.declared.step.Axis.{Axis}
use Rattle.xpath_grammar.specs.declared.step.AxisForm.{AxisForm}
use Rattle.xpath_grammar.specs.declared.step.AxisForm.TheVariants as w
use Rattle.xpath_grammar.specs.declared.step.KindTest.{KindTest}
use Rattle.xpath_grammar.specs.declared.step.Test.TheVariants as e
use Rattle.xpath_grammar.specs.declared.operators.Production.{Production}
use Rattle.xpath_grammar.specs.declared.operators.Production.TheVariants as p
use Rattle.xpath_grammar.specs.declared.operators.CastWord.{CastWord}
use Rattle.xpath_grammar.specs.declared.operators.Binder.{Binder}
use Rattle.xpath_grammar.specs.Grammar as g
use Rattle.xpath_grammar.specs.Grammar.{Leaf, Form, Label, Tree, Parts}
use Rattle.xpath_grammar.specs.Machine as m
use Rattle.xpath_grammar.specs.Machine.{Algebra, Frame, Mode, State, open_, trees, at}
use Rattle.xpath_grammar.proofs.Closing.{Stack, S, and_then}

module _ {V L : Type 0} (A : Algebra V L) where
  abbrev one : Tree → V
  one x = m.value_of A x

  abbrev all : Parts → L
  all parts = m.values_of A parts A.nothing

  unfoldable pub stack_over : Stack → List (Frame L)
  stack_over [] = []
  stack_over (open_ form parts label ∷ st) = open_ form (all parts) label ∷ stack_over st

  abbrev pub mode_over : Mode Tree Parts → Mode V L
  mode_over m.want = m.want
  mode_over m.slash = m.slash
  mode_over m.dollar = m.dollar
  mode_over (m.named name) = m.named name
  mode_over (m.on_axis form) = m.on_axis form
  mode_over (m.named_on form name) = m.named_on form name
  mode_over (m.kind form x) = m.kind form x
  mode_over (m.have v) = m.have (one v)
  mode_over (m.filtered parts) = m.filtered (all parts)
  mode_over (m.whole rank v) = m.whole rank (one v)
  mode_over (m.bind binder lead parts) = m.bind binder lead (all parts)
  mode_over (m.bind_dollar binder lead parts) = m.bind_dollar binder lead (all parts)
  mode_over (m.bind_name binder lead parts name) = m.bind_name binder lead (all parts) name
  mode_over m.if_ = m.if_
  mode_over (m.decided parts) = m.decided (all parts)
  mode_over (m.casting word v) = m.casting word (one v)
  mode_over (m.cast_as word v) = m.cast_as word (one v)
  mode_over (m.typed word v type) = m.typed word (one v) type

  abbrev pub over : S → State V L
  over s = at (mode_over s.mode) (stack_over s.stack)

  -- where the machine over trees goes
  abbrev Same : Option (State V L) → Option S → Type 0
  Same found tree = found ≡ option_map over tree

  pushed_from : (parts : Parts) (so_far : L) (label : Label) (x : Tree) →
      m.values_of A (and_then parts label x) so_far ≡ A.and_then (m.values_of A parts so_far) label (one x)
  unfolding m.append m.value_of
  pushed_from g.none so_far label x = refl
  pushed_from (g.more l y parts) so_far label x = pushed_from parts (A.and_then so_far l (one y)) label x

  pushed : (parts : Parts) (label : Label) (x : Tree) → A.and_then (all parts) label (one x) ≡ all (and_then parts label x)
  pushed parts label x = sym (pushed_from parts A.nothing label x)

  place_over : (st : Stack) → m.place (stack_over st) ≡ m.place st
  unfolding stack_over
  place_over [] = refl
  place_over (open_ form parts label ∷ st) = refl

  given_over : (b : Bool) (c : Bool) (s : State V L) (tree : S) → c ≡ b → s ≡ over tree → Same (m.given c s) (m.given b tree)
  given_over b c s tree e f = ap (λ x. m.given x s) e ∙ by b where
    by : (b : Bool) → Same (m.given b s) (m.given b tree)
    by true = ap Some f
    by false = refl

  placed_over : (rank : ℕ) (st : Stack) → m.has_place rank (stack_over st) ≡ m.has_place rank st
  placed_over rank st = ap (λ n. nat_le n rank) (place_over st)

  close_over : (rank : ℕ) (v : Tree) (st : Stack) → m.close A rank (one v) (stack_over st) ≡ (
    one (m.close trees rank v st).0,
    stack_over (m.close trees rank v st).1,
  )
  unfolding m.close stack_over m.value_of
  close_over rank v [] = refl
  close_over rank v (open_ form parts label ∷ st) = by (m.is_closed rank form label) (close_over rank (g.node form (and_then parts label v)) st) where
    Both : Type 0
    Both = V × List (Frame L)

    by : (b : Bool) → m.close A rank (A.node form (all (and_then parts label v)))
        (stack_over st) ≡ (
          one (m.close trees rank (g.node form (and_then parts label v)) st).0,
          stack_over (m.close trees rank (g.node form (and_then parts label v)) st).1,
        )
        → elim b as (λ _. V × List (Frame L)) [
          | true ↦ m.close A rank (A.node form (A.and_then (all parts) label (one v))) (stack_over st)
          | false ↦ (one v, open_ form (all parts) label ∷ stack_over st)
        ]
        ≡ (
          one (elim b as (λ _. Tree × Stack) [
            | true ↦ m.close trees rank (g.node form (and_then parts label v)) st
            | false ↦ (v, open_ form parts label ∷ st)
          ]).0,
          stack_over (elim b as (λ _. Tree × Stack) [
            | true ↦ m.close trees rank (g.node form (and_then parts label v)) st
            | false ↦ (v, open_ form parts label ∷ st)
          ]).1,
        )
    by true h = ap (λ q. m.close A rank (A.node form q) (stack_over st)) (pushed parts label v) ∙ h
    by false h = refl

  opening_over : (form : Form) (parts : Parts) (label : Label) (st : Stack) (found : L) → found ≡ all parts →
      m.opening A form found label (stack_over st) ≡ over (m.opening trees form parts label st)
  unfolding stack_over
  opening_over form parts label st found e = ap (λ q. m.opening A form q label (stack_over st)) e

  first_part : (v : Tree) → A.and_then A.nothing g.first (one v) ≡ all (and_then g.none g.first v)
  unfolding m.append m.value_of
  first_part v = refl

  begin_over : (production : Option Production) (label : Label) (v : Tree) (st : Stack) →
      Same (m.begin_chain A production label (one v) (stack_over st)) (m.begin_chain trees production label v st)
  begin_over None label v st = refl
  begin_over (Some production) label v st = given_over (m.has_place (g.rank_of production) st) _ _ _ (placed_over (g.rank_of production) st)
      (opening_over (g.chain production) (and_then g.none g.first v) label st _ (first_part v))

  link_over : (label : Label) (v : Tree) (st : Stack) → Same (m.link A label (one v) (stack_over st)) (m.link trees label v st)
  unfolding stack_over
  link_over label v [] = begin_over (g.production_of_label label) label v []
  link_over label v (open_ form parts before ∷ st) = by (g.goes_on form before label) where
    by : (b : Bool) → Same (m.extend A b form (all parts) before label (one v) (stack_over st)) (m.extend trees b form parts before label v st)
    by true = ap Some (opening_over form (and_then parts before v) label st _ (pushed parts before v))
    by false = begin_over (g.production_of_label label) label v (open_ form parts before ∷ st)

  operator_over : (found : Option CastWord) (operator : Operator) (v : Tree) (st : Stack) →
      Same (m.operator_met A found operator (one v) (stack_over st)) (m.operator_met trees found operator v st)
  operator_over (Some word) operator v st = given_over (m.has_place (g.rank_of_cast word) st) _ _ _ (placed_over (g.rank_of_cast word) st) refl
  operator_over None operator v st = link_over (g.link operator) v st

  comma_over : (v : Tree) (st : Stack) → Same (m.comma_met A (one v) (stack_over st)) (m.comma_met trees v st)
  unfolding stack_over
  comma_over v [] = link_over g.comma v []
  comma_over v (open_ form parts label ∷ st) = by (m.binder_in form label) where
    by : (found : Option Binder) → Same (m.comma_in A found form (all parts) label (one v) (stack_over st)) (m.comma_in trees found form parts label v st)
    by (Some binder) = ap (λ q. Some (at (m.bind binder None q) (stack_over st))) (pushed parts label v)
    by None = link_over g.comma v (open_ form parts label ∷ st)

  node_pushed : (form : Form) (parts : Parts) (label : Label) (v : Tree) →
      A.node form (A.and_then (all parts) label (one v)) ≡ one (g.node form (and_then parts label v))
  unfolding m.value_of
  node_pushed form parts label v = ap (A.node form) (pushed parts label v)

  parenthesis_over : (v : Tree) (st : Stack) → Same (m.parenthesis_met A (one v) (stack_over st)) (m.parenthesis_met trees v st)
  unfolding stack_over
  parenthesis_over v [] = refl
  parenthesis_over v (open_ form parts label ∷ st) = by (m.closed_by_parenthesis form label) where
    by : (found : m.Closed) → Same (m.parenthesis_in A found form (all parts) label (one v) (stack_over st))
        (m.parenthesis_in trees found form parts label v st)
    by m.node = ap (λ x. Some (at (m.have x) (stack_over st))) (node_pushed form parts label v)
    by m.condition = ap (λ q. Some (at (m.decided q) (stack_over st))) (pushed parts label v)
    by m.nothing = refl

  bracket_over : (v : Tree) (st : Stack) → Same (m.bracket_met A (one v) (stack_over st)) (m.bracket_met trees v st)
  unfolding stack_over
  bracket_over v [] = refl
  bracket_over v (open_ form parts label ∷ st) = given_over (m.in_predicate form label) _ _ _ refl
      (ap (λ q. at (m.filtered q) (stack_over st)) (pushed parts label v))

  met_over : (token : Token) (v : Tree) (st : Stack) → Same (m.met A token (one v) (stack_over st)) (m.met trees token v st)
  met_over (t.Operator operator) v st = operator_over (m.cast_of operator) operator v st
  met_over t.Comma v st = comma_over v st
  met_over t.RightParenthesis v st = parenthesis_over v st
  met_over t.RightBracket v st = bracket_over v st
  met_over _ v st = refl

  behind_over : (token : Token) (rank : ℕ) (v : Tree) (st : Stack) → Same (m.behind A token rank (one v) (stack_over st)) (m.behind trees token rank v st)
  behind_over token rank v st = by (m.strength_of token) where
    stronger : (strength : ℕ) (b : Bool) → Same (m.stronger A b strength token (one v) (stack_over st)) (m.stronger trees b strength token v st)
    stronger strength true = ap (m.met_closed A token) (close_over strength v st) ∙
        met_over token (m.close trees strength v st).0 (m.close trees strength v st).1
    stronger strength false = refl

    by : (found : Option ℕ) → Same (m.behind_of A found token rank (one v) (stack_over st)) (m.behind_of trees found token rank v st)
    by None = refl
    by (Some strength) = stronger strength (nat_lt strength rank)

  primary_over : (token : Token) (v : Tree) (st : Stack) → Same (m.behind_primary A token (one v) (stack_over st)) (m.behind_primary trees token v st)
  primary_over t.LeftBracket v st = ap Some (opening_over g.filter (and_then g.none g.first v) g.predicate st _ (first_part v))
  primary_over token v st = behind_over token 16 v st

  filter_over : (token : Token) (parts : Parts) (st : Stack) → Same (m.behind_filter A token (all parts) (stack_over st)) (m.behind_filter trees token parts st)
  unfolding m.value_of
  filter_over t.LeftBracket parts st = ap Some (opening_over g.filter parts g.again st _ refl)
  filter_over token parts st = behind_over token 15 (g.node g.filter parts) st

  opens_over : (form : Form) (label : Label) (st : Stack) → m.opening A form A.nothing label (stack_over st) ≡ over (m.opening trees form g.none label st)
  unfolding m.value_of
  opens_over form label st = opening_over form g.none label st A.nothing refl

  leaf_over : (x : Leaf) (st : Stack) → Same (m.leaf_had A x (stack_over st)) (m.leaf_had trees x st)
  unfolding m.value_of
  leaf_over x st = refl

  close_empty_over : (st : Stack) → Same (m.close_empty A (stack_over st)) (m.close_empty trees st)
  unfolding stack_over
  close_empty_over [] = refl
  close_empty_over (open_ form parts label ∷ st) = by (m.leaf_closed label) where
    by : (found : Option Leaf) → Same (m.close_leaf A found (stack_over st)) (m.close_leaf trees found st)
    by None = refl
    by (Some x) = leaf_over x st

  first_sign_over : (operator : Operator) (st : Stack) → Same (m.first_sign A operator (stack_over st)) (m.first_sign trees operator st)
  first_sign_over operator st = given_over (m.has_place 13 st) _ _ _ (placed_over 13 st) (opens_over g.signs (g.signed (operator ∷ [])) st)

  sign_over : (operator : Operator) (st : Stack) → Same (m.sign A operator (stack_over st)) (m.sign trees operator st)
  unfolding stack_over
  sign_over operator [] = first_sign_over operator []
  sign_over operator (open_ form parts label ∷ st) = by (m.signs_in form label) where
    by : (found : Option (List Operator)) → Same (m.sign_in A found operator form (all parts) label (stack_over st))
        (m.sign_in trees found operator form parts label st)
    by (Some operators) = refl
    by None = first_sign_over operator (open_ form parts label ∷ st)

  operator_wanted_over : (operator : Operator) (st : Stack) → Same (m.operator_wanted A operator (stack_over st)) (m.operator_wanted trees operator st)
  operator_wanted_over o.Slash st = given_over (m.has_place 14 st) _ _ _ (placed_over 14 st) refl
  operator_wanted_over o.DoubleSlash st = given_over (m.has_place 14 st) _ _ _ (placed_over 14 st) (opens_over (g.chain p.Path) (g.link o.DoubleSlash) st)
  operator_wanted_over o.Plus st = sign_over o.Plus st
  operator_wanted_over o.Minus st = sign_over o.Minus st
  operator_wanted_over _ st = refl

  keyword_over : (found : Option Binder) (st : Stack) → Same (m.keyword_wanted A found (stack_over st)) (m.keyword_wanted trees found st)
  unfolding m.value_of
  keyword_over None st = given_over (m.has_place 2 st) _ _ _ (placed_over 2 st) refl
  keyword_over (Some binder) st = given_over (m.has_place 2 st) _ _ _ (placed_over 2 st) refl

  wanted_over : (token : Token) (st : Stack) → Same (m.wanted A token (stack_over st)) (m.wanted trees token st)
  unfolding m.value_of
  wanted_over (t.Operator operator) st = operator_wanted_over operator st
  wanted_over (t.Keyword keyword) st = keyword_over (m.binder_of keyword) st
  wanted_over t.RightParenthesis st = close_empty_over st
  wanted_over t.LeftParenthesis st = ap Some (opens_over g.parens g.opened st)
  wanted_over _ st = refl

  slash_over : (step : Bool) (token : Token) (st : Stack) → Same (m.behind_slash A step token (stack_over st)) (m.behind_slash trees step token st)
  unfolding m.value_of stack_over
  slash_over true token st = wanted_over token (open_ (g.chain p.Path) g.none (g.link o.Slash) ∷ st)
  slash_over false token st = behind_over token 14 (g.leaf g.root) st

  full_over : (name : Name) (s : State V L) (tree : S) → s ≡ over tree → Same (m.given (g.is_full name) s) (m.given (g.is_full name) tree)
  full_over name s tree e = given_over (g.is_full name) _ _ _ refl e

  dollar_over : (token : Token) (st : Stack) → Same (m.behind_dollar A token (stack_over st)) (m.behind_dollar trees token st)
  unfolding m.value_of
  dollar_over (t.Name name) st = full_over name _ _ refl
  dollar_over _ st = refl

  call_over : (found : Option KindTest) (name : Name) (st : Stack) → Same (m.call_or_kind A found name (stack_over st)) (m.call_or_kind trees found name st)
  call_over (Some x) name st = refl
  call_over None name st = full_over name _ _ (opens_over g.call (g.calling name) st)

  axis_over : (found : Option Axis) (st : Stack) → Same (m.axis_named A found (stack_over st)) (m.axis_named trees found st)
  axis_over None st = refl
  axis_over (Some axis) st = refl

  name_over : (token : Token) (name : Name) (st : Stack) → Same (m.behind_name A token name (stack_over st)) (m.behind_name trees token name st)
  unfolding m.value_of
  name_over t.LeftParenthesis name st = call_over (g.kind_of name) name st
  name_over t.DoubleColon name st = axis_over (g.axis_of name) st
  name_over token name st = primary_over token (g.leaf (g.step w.Unwritten (e.Name name))) st

  on_axis_over : (token : Token) (form : AxisForm) (st : Stack) → Same (m.behind_axis A token form (stack_over st)) (m.behind_axis trees token form st)
  on_axis_over t.Star form st = leaf_over (g.step form e.Star) st
  on_axis_over _ form st = refl

  kind_on_over : (found : Option KindTest) (form : AxisForm) (st : Stack) → Same (m.kind_on A found form (stack_over st)) (m.kind_on trees found form st)
  kind_on_over None form st = refl
  kind_on_over (Some x) form st = refl

  named_on_over : (token : Token) (form : AxisForm) (name : Name) (st : Stack) →
      Same (m.behind_named_on A token form name (stack_over st)) (m.behind_named_on trees token form name st)
  unfolding m.value_of
  named_on_over t.LeftParenthesis form name st = kind_on_over (g.kind_of name) form st
  named_on_over token form name st = primary_over token (g.leaf (g.step form (e.Name name))) st

  kind_over : (token : Token) (form : AxisForm) (x : KindTest) (st : Stack) →
      Same (m.behind_kind A token form x (stack_over st)) (m.behind_kind trees token form x st)
  kind_over t.RightParenthesis form x st = leaf_over (g.step form (e.Kind x)) st
  kind_over _ form x st = refl

  bind_over : (token : Token) (binder : Binder) (lead : Option Binder) (parts : Parts) (st : Stack) →
      Same (m.behind_bind A token binder lead (all parts) (stack_over st)) (m.behind_bind trees token binder lead parts st)
  bind_over t.Dollar binder lead parts st = refl
  bind_over _ binder lead parts st = refl

  bind_dollar_over : (token : Token) (binder : Binder) (lead : Option Binder) (parts : Parts) (st : Stack)
      → Same (m.behind_bind_dollar A token binder lead (all parts) (stack_over st)) (m.behind_bind_dollar trees token binder lead parts st)
  bind_dollar_over (t.Name name) binder lead parts st = full_over name _ _ refl
  bind_dollar_over _ binder lead parts st = refl

  bind_name_over : (token : Token) (binder : Binder) (lead : Option Binder) (parts : Parts) (name : Name) (st : Stack)
      → Same (m.behind_bind_name A token binder lead (all parts) name (stack_over st)) (m.behind_bind_name trees token binder lead parts name st)
  bind_name_over (t.Operator o.In) binder lead parts name st = ap Some (opening_over (g.bound binder) parts (g.binding lead name) st _ refl)
  bind_name_over (t.Operator _) binder lead parts name st = refl
  bind_name_over _ binder lead parts name st = refl

  if_over : (token : Token) (st : Stack) → Same (m.behind_if A token (stack_over st)) (m.behind_if trees token st)
  if_over t.LeftParenthesis st = ap Some (opens_over g.conditional g.condition st)
  if_over _ st = refl

  decided_over : (token : Token) (parts : Parts) (st : Stack) →
      Same (m.behind_decided A token (all parts) (stack_over st)) (m.behind_decided trees token parts st)
  decided_over (t.Operator o.Then) parts st = ap Some (opening_over g.conditional parts g.then_ st _ refl)
  decided_over (t.Operator _) parts st = refl
  decided_over _ parts st = refl

  casting_over : (token : Token) (word : CastWord) (v : Tree) (st : Stack) →
      Same (m.behind_casting A token word (one v) (stack_over st)) (m.behind_casting trees token word v st)
  casting_over (t.Operator o.As) word v st = refl
  casting_over (t.Operator _) word v st = refl
  casting_over _ word v st = refl

  cast_as_over : (token : Token) (word : CastWord) (v : Tree) (st : Stack) →
      Same (m.behind_cast_as A token word (one v) (stack_over st)) (m.behind_cast_as trees token word v st)
  cast_as_over (t.Name name) word v st = full_over name _ _ refl
  cast_as_over _ word v st = refl

  cast_over : (word : CastWord) (type : Name) (optional : Bool) (v : Tree) →
      m.cast_node A word type optional (one v) ≡ one (m.cast_node trees word type optional v)
  unfolding m.value_of m.append
  cast_over word type optional v = refl

  typed_over : (token : Token) (word : CastWord) (v : Tree) (type : Name) (st : Stack) →
      Same (m.behind_typed A token word (one v) type (stack_over st)) (m.behind_typed trees token word v type st)
  typed_over t.Question word v type st = ap (λ x. Some (at (m.whole (g.rank_of_cast word) x) (stack_over st))) (cast_over word type true v)
  typed_over token word v type st = ap (λ x. m.behind A token (g.rank_of_cast word) x (stack_over st)) (cast_over word type false v) ∙
      behind_over token (g.rank_of_cast word) (m.cast_node trees word type false v) st

  step_over : (token : Token) (mode : Mode Tree Parts) (st : Stack) → Same (m.step_in A token (mode_over mode) (stack_over st)) (m.step_in trees token mode st)
  step_over token m.want st = wanted_over token st
  step_over token m.slash st = slash_over (m.begins_step token) token st
  step_over token m.dollar st = dollar_over token st
  step_over token (m.named name) st = name_over token name st
  step_over token (m.on_axis form) st = on_axis_over token form st
  step_over token (m.named_on form name) st = named_on_over token form name st
  step_over token (m.kind form x) st = kind_over token form x st
  step_over token (m.have v) st = primary_over token v st
  step_over token (m.filtered parts) st = filter_over token parts st
  step_over token (m.whole rank v) st = behind_over token rank v st
  step_over token (m.bind binder lead parts) st = bind_over token binder lead parts st
  step_over token (m.bind_dollar binder lead parts) st = bind_dollar_over token binder lead parts st
  step_over token (m.bind_name binder lead parts name) st = bind_name_over token binder lead parts name st
  step_over token m.if_ st = if_over token st
  step_over token (m.decided parts) st = decided_over token parts st
  step_over token (m.casting word v) st = casting_over token word v st
  step_over token (m.cast_as word v) st = cast_as_over token word v st
  step_over token (m.typed word v type) st = typed_over token word v type st

  alone_over : (v : Tree) (st : Stack) → m.alone A (m.close A 0 (one v) (stack_over st)) ≡ option_map (m.value_of A) (m.alone trees (m.close trees 0 v st))
  unfolding stack_over
  alone_over v st = ap (m.alone A) (close_over 0 v st) ∙ by (m.close trees 0 v st).0 (m.close trees 0 v st).1 where
    by : (x : Tree) (st : Stack) → m.alone A (one x, stack_over st) ≡ option_map (m.value_of A) (m.alone trees (x, st))
    by x [] = refl
    by x (open_ form parts label ∷ st) = refl

  ended_over : (mode : Mode Tree Parts) (st : Stack) → m.ended_in A (mode_over mode) (stack_over st) ≡ option_map (m.value_of A) (m.ended_in trees mode st)
  unfolding m.value_of
  ended_over m.slash st = alone_over (g.leaf g.root) st
  ended_over (m.named name) st = alone_over (g.leaf (g.step w.Unwritten (e.Name name))) st
  ended_over (m.named_on form name) st = alone_over (g.leaf (g.step form (e.Name name))) st
  ended_over (m.have v) st = alone_over v st
  ended_over (m.filtered parts) st = alone_over (g.node g.filter parts) st
  ended_over (m.whole rank v) st = alone_over v st
  ended_over (m.typed word v type) st = ap (λ x. m.alone A (m.close A 0 x (stack_over st))) (cast_over word type false v) ∙
      alone_over (m.cast_node trees word type false v) st
  ended_over _ st = refl

  run_over : (tokens : List Token) (s : S) → m.run A tokens (over s) ≡ option_map (m.value_of A) (m.run trees tokens s)
  unfolding m.run
  run_over [] s = ended_over s.mode s.stack
  run_over (token ∷ tokens) s = ap (λ found. elim found as (λ _. Option V) [ None ↦ None | Some next ↦ m.run A tokens next ]) (step_over token s.mode s.stack) ∙
      by (m.step trees token s) (run_over tokens) where
        by : (found : Option S) → ((next : S) → m.run A tokens (over next) ≡ option_map (m.value_of A) (m.run trees tokens next))
            → elim (option_map over found) as (λ _. Option V) [ None ↦ None | Some next ↦ m.run A tokens next ] ≡ option_map (m.value_of A)
            (elim found as (λ _. Option Tree) [ None ↦ None | Some next ↦ m.run trees tokens next ])
        by None later = refl
        by (Some next) later = later next

  -- the machine finds what the algebra makes of the tree that the tokens spell
  pub parsed_over : (tokens : List Token) → m.parsed A tokens ≡ option_map (m.value_of A) (m.tree_of tokens)
  unfolding stack_over
  parsed_over tokens = run_over tokens (at m.want [])
