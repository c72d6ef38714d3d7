-- A machine that reads tokens one after another and keeps what is open on its left on a stack. It never looks ahead or goes back.
-- What it makes of the parts is left to an algebra: trees, levels, or the values of a program.
use Rattle.std.specs.Prelude.{ℕ, Bool, true, false, ◌&&◌, List, [], ◌∷◌, ◌++◌, Option, Some, None, nat_lt, nat_le}
use Rattle.xpath_tokens.specs.declared.token.Operator.{Operator}
use Rattle.xpath_tokens.specs.declared.token.Operator.TheVariants as o
use Rattle.xpath_tokens.specs.declared.token.Keyword.{Keyword}
use Rattle.xpath_tokens.specs.declared.token.Keyword.TheVariants as k
use Rattle.xpath_tokens.specs.declared.token.Name.{Name}
use Rattle.xpath_tokens.specs.declared.token.Token.{Token}
use Rattle.xpath_tokens.specs.declared.token.Token.TheVariants as t
use Rattle.xpath_grammar.specs.declared.step.AxisForm.{AxisForm}
use Rattle.xpath_grammar.specs.declared.step.AxisForm.TheVariants as w
use Rattle.xpath_grammar.specs.declared.step.KindTest.{KindTest}
use Rattle.xpath_grammar.specs.declared.step.Axis.{Axis}
use Rattle.xpath_grammar.specs.declared.step.Test.TheVariants as e
use Rattle.xpath_grammar.specs.declared.operators.Production.{Production}
use Rattle.xpath_grammar.specs.declared.operators.Production.TheVariants as p
use Rattle.xpath_grammar.specs.declared.operators.CastWord.{CastWord}
use Rattle.xpath_grammar.specs.declared.operators.CastWord.TheVariants as c
use Rattle.xpath_grammar.specs.declared.operators.Binder.{Binder}
use Rattle.xpath_grammar.specs.declared.operators.Binder.TheVariants as b
use Rattle.xpath_grammar.specs.Grammar as g
use Rattle.xpath_grammar.specs.Grammar.{Leaf, Form, Label, Tree, Parts}
pub use Rattle.xpath_grammar.specs.declared.machine.Frame.{Frame}
pub use Rattle.xpath_grammar.specs.declared.machine.Mode.{Mode}
-- the constructors, under the names that they have here
pub use Rattle.xpath_grammar.specs.declared.machine.Frame.TheVariants.{Open as open_}
pub use Rattle.xpath_grammar.specs.declared.machine.Mode.TheVariants.{Want as want, Slash as slash, Dollar as dollar, Named as named, OnAxis as on_axis}
pub use Rattle.xpath_grammar.specs.declared.machine.Mode.TheVariants.{NamedOn as named_on, Kind as kind, Have as have, Filtered as filtered, Whole as whole}
pub use Rattle.xpath_grammar.specs.declared.machine.Mode.TheVariants.{Bind as bind, BindDollar as bind_dollar, BindName as bind_name, If as if_}
pub use Rattle.xpath_grammar.specs.declared.machine.Mode.TheVariants.{Decided as decided, Casting as casting, CastAs as cast_as, Typed as typed}

-- values of expressions and of the parts so far
pub record Algebra (V L : Type 0) : Type 0 where
  pub leaf : Leaf → V
  pub nothing : L
  -- the parts, and one more behind the label
  pub and_then : L → Label → V → L
  pub node : Form → L → V

pub record State (V L : Type 0) : Type 0 where
  pub mode : Mode V L
  pub stack : List (Frame L)

abbrev pub at : {V L : Type 0} → Mode V L → List (Frame L) → State V L
at m st = record { mode = m; stack = st }

abbrev pub given : {X : Type 0} → Bool → X → Option X
given true x = Some x
given false x = None

-- the least rank that may stand on the stack
abbrev pub place : {L : Type 0} → List (Frame L) → ℕ
place [] = 1
place (open_ form parts label ∷ st) = g.place form label

-- an expression of the rank may stand there
abbrev pub has_place : {L : Type 0} → ℕ → List (Frame L) → Bool
has_place rank st = nat_le (place st) rank

-- nothing stands behind the form's last part
abbrev pub is_open_ended : Form → Bool
is_open_ended (g.chain production) = true
is_open_ended (g.bound binder) = true
is_open_ended g.conditional = true
is_open_ended g.signs = true
is_open_ended _ = false

-- the frame ends where an operator of the rank, or what closes, stands behind its part
abbrev pub is_closed : ℕ → Form → Label → Bool
is_closed rank form label = (is_open_ended form && g.ends form label) && nat_lt rank (g.rank_of_form form)

-- the operator is the word of a cast
abbrev pub cast_of : Operator → Option CastWord
cast_of o.Cast = Some c.Cast
cast_of o.Castable = Some c.Castable
cast_of _ = None

-- how much an operator lets stand on its left: what binds tighter
abbrev pub strength_in : Option CastWord → Option Production → ℕ
strength_in (Some word) production = g.rank_of_cast word
strength_in None (Some production) = g.rank_of production
strength_in None None = 1

abbrev pub strength : Operator → ℕ
strength operator = strength_in (cast_of operator) (g.production_of operator)

-- the same for the tokens that may stand behind a whole expression
abbrev pub strength_of : Token → Option ℕ
strength_of (t.Operator operator) = Some (strength operator)
strength_of t.Comma = Some 1
strength_of t.RightParenthesis = Some 0
strength_of t.RightBracket = Some 0
strength_of _ = None

-- a step begins with the token
abbrev pub begins_step : Token → Bool
begins_step (t.Literal s) = true
begins_step (t.Number x) = true
begins_step (t.Name name) = true
begins_step t.Dot = true
begins_step t.DoubleDot = true
begins_step t.Star = true
begins_step t.Dollar = true
begins_step t.At = true
begins_step t.LeftParenthesis = true
begins_step _ = false

-- bound variables stand behind the label
abbrev pub binder_in : Form → Label → Option Binder
binder_in (g.bound binder) (g.binding lead name) = Some binder
binder_in _ _ = None

-- what `)` does to a frame
pub data Closed : Type 0 where
  node : Closed
  condition : Closed
  nothing : Closed

abbrev pub closed_by_parenthesis : Form → Label → Closed
closed_by_parenthesis g.parens label = node
closed_by_parenthesis g.call label = node
closed_by_parenthesis g.conditional g.condition = condition
closed_by_parenthesis _ _ = nothing

-- a predicate is open
abbrev pub in_predicate : Form → Label → Bool
in_predicate g.filter g.predicate = true
in_predicate g.filter g.again = true
in_predicate _ _ = false

-- the leaf that `)` makes of a frame without a part
abbrev pub leaf_closed : Label → Option Leaf
leaf_closed g.opened = Some g.empty
leaf_closed (g.calling name) = Some (g.called name)
leaf_closed _ = None

abbrev pub signs_in : Form → Label → Option (List Operator)
signs_in g.signs (g.signed operators) = Some operators
signs_in _ _ = None

abbrev pub binder_of : Keyword → Option Binder
binder_of k.If = None
binder_of k.For = Some b.For
binder_of k.Some = Some b.Some
binder_of k.Every = Some b.Every

module _ {V L : Type 0} (A : Algebra V L) where
  -- Behind an expression

  -- the value, with what ends there taken from the stack
  unfoldable pub close : ℕ → V → List (Frame L) → V × List (Frame L)
  close rank v [] = (v, [])
  close rank v (open_ form parts label ∷ st) = elim (is_closed rank form label) [
    | true ↦ close rank (A.node form (A.and_then parts label v)) st
    | false ↦ (v, open_ form parts label ∷ st)
  ]

  abbrev pub opening : Form → L → Label → List (Frame L) → State V L
  opening form parts label st = at want (open_ form parts label ∷ st)

  -- the value is the first operand of a chain of the production
  abbrev pub begin_chain : Option Production → Label → V → List (Frame L) → Option (State V L)
  begin_chain None label v st = None
  begin_chain (Some production) label v st = given (has_place (g.rank_of production) st)
      (opening (g.chain production) (A.and_then A.nothing g.first v) label st)

  abbrev pub extend : Bool → Form → L → Label → Label → V → List (Frame L) → Option (State V L)
  extend true form parts before label v st = Some (opening form (A.and_then parts before v) label st)
  extend false form parts before label v st = begin_chain (g.production_of_label label) label v (open_ form parts before ∷ st)

  -- the value is a part of the frame that the label goes on, or begins a chain
  abbrev pub link : Label → V → List (Frame L) → Option (State V L)
  link label v [] = begin_chain (g.production_of_label label) label v []
  link label v (open_ form parts before ∷ st) = extend (g.goes_on form before label) form parts before label v st

  abbrev pub operator_met : Option CastWord → Operator → V → List (Frame L) → Option (State V L)
  operator_met (Some word) operator v st = given (has_place (g.rank_of_cast word) st) (at (casting word v) st)
  operator_met None operator v st = link (g.link operator) v st

  abbrev pub comma_in : Option Binder → Form → L → Label → V → List (Frame L) → Option (State V L)
  comma_in (Some binder) form parts label v st = Some (at (bind binder None (A.and_then parts label v)) st)
  comma_in None form parts label v st = link g.comma v (open_ form parts label ∷ st)

  abbrev pub comma_met : V → List (Frame L) → Option (State V L)
  comma_met v [] = link g.comma v []
  comma_met v (open_ form parts label ∷ st) = comma_in (binder_in form label) form parts label v st

  abbrev pub parenthesis_in : Closed → Form → L → Label → V → List (Frame L) → Option (State V L)
  parenthesis_in node form parts label v st = Some (at (have (A.node form (A.and_then parts label v))) st)
  parenthesis_in condition form parts label v st = Some (at (decided (A.and_then parts label v)) st)
  parenthesis_in nothing form parts label v st = None

  abbrev pub parenthesis_met : V → List (Frame L) → Option (State V L)
  parenthesis_met v [] = None
  parenthesis_met v (open_ form parts label ∷ st) = parenthesis_in (closed_by_parenthesis form label) form parts label v st

  abbrev pub bracket_met : V → List (Frame L) → Option (State V L)
  bracket_met v [] = None
  bracket_met v (open_ form parts label ∷ st) = given (in_predicate form label) (at (filtered (A.and_then parts label v)) st)

  -- the token stands behind the value, with nothing between them that ends there
  abbrev pub met : Token → V → List (Frame L) → Option (State V L)
  met (t.Operator operator) v st = operator_met (cast_of operator) operator v st
  met t.Comma v st = comma_met v st
  met t.RightParenthesis v st = parenthesis_met v st
  met t.RightBracket v st = bracket_met v st
  met _ v st = None

  abbrev pub met_closed : Token → V × List (Frame L) → Option (State V L)
  met_closed token closed = met token closed.0 closed.1

  abbrev pub stronger : Bool → ℕ → Token → V → List (Frame L) → Option (State V L)
  stronger true strength token v st = met_closed token (close strength v st)
  stronger false strength token v st = None

  abbrev pub behind_of : Option ℕ → Token → ℕ → V → List (Frame L) → Option (State V L)
  behind_of None token rank v st = None
  behind_of (Some strength) token rank v st = stronger (nat_lt strength rank) strength token v st

  -- the token stands behind a value of the rank
  abbrev pub behind : Token → ℕ → V → List (Frame L) → Option (State V L)
  behind token rank v st = behind_of (strength_of token) token rank v st

  -- the token stands behind a value of the highest rank
  abbrev pub behind_primary : Token → V → List (Frame L) → Option (State V L)
  behind_primary t.LeftBracket v st = Some (opening g.filter (A.and_then A.nothing g.first v) g.predicate st)
  behind_primary token v st = behind token 16 v st

  abbrev pub behind_filter : Token → L → List (Frame L) → Option (State V L)
  behind_filter t.LeftBracket parts st = Some (opening g.filter parts g.again st)
  behind_filter token parts st = behind token 15 (A.node g.filter parts) st

  -- Where an operand stands

  abbrev pub leaf_had : Leaf → List (Frame L) → Option (State V L)
  leaf_had x st = Some (at (have (A.leaf x)) st)

  abbrev pub close_leaf : Option Leaf → List (Frame L) → Option (State V L)
  close_leaf None st = None
  close_leaf (Some x) st = leaf_had x st

  -- `)` behind nothing
  abbrev pub close_empty : List (Frame L) → Option (State V L)
  close_empty [] = None
  close_empty (open_ form parts label ∷ st) = close_leaf (leaf_closed label) st

  abbrev pub first_sign : Operator → List (Frame L) → Option (State V L)
  first_sign operator st = given (has_place 13 st) (opening g.signs A.nothing (g.signed (operator ∷ [])) st)

  abbrev pub sign_in : Option (List Operator) → Operator → Form → L → Label → List (Frame L) → Option (State V L)
  sign_in (Some operators) operator form parts label st = Some (opening form parts (g.signed (operators ++ operator ∷ [])) st)
  sign_in None operator form parts label st = first_sign operator (open_ form parts label ∷ st)

  abbrev pub sign : Operator → List (Frame L) → Option (State V L)
  sign operator [] = first_sign operator []
  sign operator (open_ form parts label ∷ st) = sign_in (signs_in form label) operator form parts label st

  abbrev pub operator_wanted : Operator → List (Frame L) → Option (State V L)
  operator_wanted o.Slash st = given (has_place 14 st) (at slash st)
  operator_wanted o.DoubleSlash st = given (has_place 14 st) (opening (g.chain p.Path) A.nothing (g.link o.DoubleSlash) st)
  operator_wanted o.Plus st = sign o.Plus st
  operator_wanted o.Minus st = sign o.Minus st
  operator_wanted _ st = None

  abbrev pub keyword_wanted : Option Binder → List (Frame L) → Option (State V L)
  keyword_wanted None st = given (has_place 2 st) (at if_ st)
  keyword_wanted (Some binder) st = given (has_place 2 st) (at (bind binder (Some binder) A.nothing) st)

  abbrev pub wanted : Token → List (Frame L) → Option (State V L)
  wanted (t.Literal s) st = leaf_had (g.literal s) st
  wanted (t.Number x) st = leaf_had (g.number x) st
  wanted t.Dot st = leaf_had g.context st
  wanted t.DoubleDot st = leaf_had g.parent st
  wanted t.Star st = leaf_had (g.step w.Unwritten e.Star) st
  wanted (t.Name name) st = Some (at (named name) st)
  wanted t.Dollar st = Some (at dollar st)
  wanted t.At st = Some (at (on_axis w.At) st)
  wanted t.LeftParenthesis st = Some (opening g.parens A.nothing g.opened st)
  wanted t.RightParenthesis st = close_empty st
  wanted (t.Operator operator) st = operator_wanted operator st
  wanted (t.Keyword keyword) st = keyword_wanted (binder_of keyword) st
  wanted _ st = None

  -- Behind the first tokens of an operand

  abbrev pub behind_slash : Bool → Token → List (Frame L) → Option (State V L)
  behind_slash true token st = wanted token (open_ (g.chain p.Path) A.nothing (g.link o.Slash) ∷ st)
  behind_slash false token st = behind token 14 (A.leaf g.root) st

  abbrev pub behind_dollar : Token → List (Frame L) → Option (State V L)
  behind_dollar (t.Name name) st = given (g.is_full name) (at (have (A.leaf (g.variable name))) st)
  behind_dollar _ st = None

  abbrev pub call_or_kind : Option KindTest → Name → List (Frame L) → Option (State V L)
  call_or_kind (Some test) name st = Some (at (kind w.Unwritten test) st)
  call_or_kind None name st = given (g.is_full name) (opening g.call A.nothing (g.calling name) st)

  abbrev pub axis_named : Option Axis → List (Frame L) → Option (State V L)
  axis_named None st = None
  axis_named (Some axis) st = Some (at (on_axis (w.Written axis)) st)

  abbrev pub behind_name : Token → Name → List (Frame L) → Option (State V L)
  behind_name t.LeftParenthesis name st = call_or_kind (g.kind_of name) name st
  behind_name t.DoubleColon name st = axis_named (g.axis_of name) st
  behind_name token name st = behind_primary token (A.leaf (g.step w.Unwritten (e.Name name))) st

  abbrev pub behind_axis : Token → AxisForm → List (Frame L) → Option (State V L)
  behind_axis (t.Name name) form st = Some (at (named_on form name) st)
  behind_axis t.Star form st = leaf_had (g.step form e.Star) st
  behind_axis _ form st = None

  abbrev pub kind_on : Option KindTest → AxisForm → List (Frame L) → Option (State V L)
  kind_on None form st = None
  kind_on (Some test) form st = Some (at (kind form test) st)

  abbrev pub behind_named_on : Token → AxisForm → Name → List (Frame L) → Option (State V L)
  behind_named_on t.LeftParenthesis form name st = kind_on (g.kind_of name) form st
  behind_named_on token form name st = behind_primary token (A.leaf (g.step form (e.Name name))) st

  abbrev pub behind_kind : Token → AxisForm → KindTest → List (Frame L) → Option (State V L)
  behind_kind t.RightParenthesis form x st = leaf_had (g.step form (e.Kind x)) st
  behind_kind _ form x st = None

  -- Words in a row

  abbrev pub behind_bind : Token → Binder → Option Binder → L → List (Frame L) → Option (State V L)
  behind_bind t.Dollar binder lead parts st = Some (at (bind_dollar binder lead parts) st)
  behind_bind _ binder lead parts st = None

  abbrev pub behind_bind_dollar : Token → Binder → Option Binder → L → List (Frame L) → Option (State V L)
  behind_bind_dollar (t.Name name) binder lead parts st = given (g.is_full name) (at (bind_name binder lead parts name) st)
  behind_bind_dollar _ binder lead parts st = None

  abbrev pub behind_bind_name : Token → Binder → Option Binder → L → Name → List (Frame L) → Option (State V L)
  behind_bind_name (t.Operator o.In) binder lead parts name st = Some (opening (g.bound binder) parts (g.binding lead name) st)
  behind_bind_name _ binder lead parts name st = None

  abbrev pub behind_if : Token → List (Frame L) → Option (State V L)
  behind_if t.LeftParenthesis st = Some (opening g.conditional A.nothing g.condition st)
  behind_if _ st = None

  abbrev pub behind_decided : Token → L → List (Frame L) → Option (State V L)
  behind_decided (t.Operator o.Then) parts st = Some (opening g.conditional parts g.then_ st)
  behind_decided _ parts st = None

  abbrev pub behind_casting : Token → CastWord → V → List (Frame L) → Option (State V L)
  behind_casting (t.Operator o.As) word v st = Some (at (cast_as word v) st)
  behind_casting _ word v st = None

  abbrev pub behind_cast_as : Token → CastWord → V → List (Frame L) → Option (State V L)
  behind_cast_as (t.Name name) word v st = given (g.is_full name) (at (typed word v name) st)
  behind_cast_as _ word v st = None

  abbrev pub cast_node : CastWord → Name → Bool → V → V
  cast_node word type optional v = A.node (g.cast word type optional) (A.and_then A.nothing g.first v)

  abbrev pub behind_typed : Token → CastWord → V → Name → List (Frame L) → Option (State V L)
  behind_typed t.Question word v type st = Some (at (whole (g.rank_of_cast word) (cast_node word type true v)) st)
  behind_typed token word v type st = behind token (g.rank_of_cast word) (cast_node word type false v) st

  -- The machine

  abbrev pub step_in : Token → Mode V L → List (Frame L) → Option (State V L)
  step_in token want st = wanted token st
  step_in token slash st = behind_slash (begins_step token) token st
  step_in token dollar st = behind_dollar token st
  step_in token (named name) st = behind_name token name st
  step_in token (on_axis form) st = behind_axis token form st
  step_in token (named_on form name) st = behind_named_on token form name st
  step_in token (kind form test) st = behind_kind token form test st
  step_in token (have v) st = behind_primary token v st
  step_in token (filtered parts) st = behind_filter token parts st
  step_in token (whole rank v) st = behind token rank v st
  step_in token (bind binder lead parts) st = behind_bind token binder lead parts st
  step_in token (bind_dollar binder lead parts) st = behind_bind_dollar token binder lead parts st
  step_in token (bind_name binder lead parts name) st = behind_bind_name token binder lead parts name st
  step_in token if_ st = behind_if token st
  step_in token (decided parts) st = behind_decided token parts st
  step_in token (casting word v) st = behind_casting token word v st
  step_in token (cast_as word v) st = behind_cast_as token word v st
  step_in token (typed word v type) st = behind_typed token word v type st

  abbrev pub step : Token → State V L → Option (State V L)
  step token s = step_in token s.mode s.stack

  -- the value that stands alone
  abbrev pub alone : V × List (Frame L) → Option V
  alone closed = elim closed.1 [ [] ↦ Some closed.0 | fr ∷ st ↦ None ]

  -- what the tokens spell, if nothing stands behind them
  abbrev pub ended_in : Mode V L → List (Frame L) → Option V
  ended_in slash st = alone (close 0 (A.leaf g.root) st)
  ended_in (named name) st = alone (close 0 (A.leaf (g.step w.Unwritten (e.Name name))) st)
  ended_in (named_on form name) st = alone (close 0 (A.leaf (g.step form (e.Name name))) st)
  ended_in (have v) st = alone (close 0 v st)
  ended_in (filtered parts) st = alone (close 0 (A.node g.filter parts) st)
  ended_in (whole rank v) st = alone (close 0 v st)
  ended_in (typed word v type) st = alone (close 0 (cast_node word type false v) st)
  ended_in _ st = None

  abbrev pub ended : State V L → Option V
  ended s = ended_in s.mode s.stack

  unfoldable pub run : List Token → State V L → Option V
  run [] s = ended s
  run (token ∷ tokens) s = elim (step token s) [ None ↦ None | Some next ↦ run tokens next ]

  -- what the tokens spell
  abbrev pub parsed : List Token → Option V
  parsed tokens = run tokens (at want [])

-- Trees as the machine's values

unfoldable pub append : Parts → Parts → Parts
append g.none others = others
append (g.more label x parts) others = g.more label x (append parts others)

abbrev pub trees : Algebra Tree Parts
trees = record { leaf = g.leaf; nothing = g.none; and_then = λ parts label x. append parts (g.more label x g.none); node = g.node }

-- the expression that the tokens spell
abbrev pub tree_of : List Token → Option Tree
tree_of tokens = parsed trees tokens

-- What an algebra makes of a tree, and of parts behind those so far

unfoldable mutual
  pub value_of : {V L : Type 0} → Algebra V L → Tree → V
  value_of A (g.leaf x) = A.leaf x
  value_of A (g.node form parts) = A.node form (values_of A parts A.nothing)

  pub values_of : {V L : Type 0} → Algebra V L → Parts → L → L
  values_of A g.none so_far = so_far
  values_of A (g.more label x parts) so_far = values_of A parts (A.and_then so_far label (value_of A x))
