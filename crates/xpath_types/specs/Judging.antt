-- Of what kinds the items of an expression's value are, and what is refused in it before it is evaluated (XPath 2.0, section 2.2.3.1,
-- in a subset): a name of a prefix, a variable, a function or a type that isn't known, and an operand of which each kind of item is
-- an error where it stands.
use Rattle.std.specs.Prelude.{ℕ, Bool, true, false, ◌+◌, ◌&&◌, not, List, [], ◌∷◌, ◌++◌, Option, Some, None, length, map, is_some, if◌then◌else◌}
use Rattle.std.specs.List.{flat_map}
use Rattle.std.specs.Str.{bytes_eq}
use Rattle.xpath_tokens.specs.declared.token.Name.{Name}
use Rattle.xpath_grammar.specs.declared.step.Test.{Test}
use Rattle.xpath_grammar.specs.declared.step.Test.TheVariants as e
use Rattle.xpath_grammar.specs.declared.operators.Production.{Production}
use Rattle.xpath_grammar.specs.declared.operators.Production.TheVariants as p
use Rattle.xpath_grammar.specs.declared.operators.CastWord.{CastWord}
use Rattle.xpath_grammar.specs.declared.operators.CastWord.TheVariants as c
use Rattle.xpath_grammar.specs.declared.operators.Binder.{Binder}
use Rattle.xpath_grammar.specs.declared.operators.Binder.TheVariants as b
use Rattle.xpath_grammar.specs.Grammar as g
use Rattle.xpath_grammar.specs.Grammar.{Tree, Parts}
use Rattle.xpath_grammar.specs.declared.expr.Leaf.{Leaf}
use Rattle.xpath_grammar.specs.declared.expr.Leaf.TheVariants as l
use Rattle.xpath_grammar.specs.declared.expr.Form.{Form}
use Rattle.xpath_grammar.specs.declared.expr.Form.TheVariants as m
use Rattle.xpath_grammar.specs.declared.expr.Label.{Label}
use Rattle.xpath_grammar.specs.declared.expr.Label.TheVariants as k
use Rattle.xpath_grammar.specs.declared.functions.Function.TheVariants as f
use Rattle.xsd_pattern.specs.declared.fault.PatternFault.{PatternFault}
use Rattle.xsd_pattern.specs.declared.fault.PatternFault.TheVariants as d
use Rattle.xsd_pattern.specs.Matching.{fault_of}
use Rattle.xpath_types.specs.declared.fault.TypeKind.{TypeKind}
use Rattle.xpath_types.specs.declared.fault.TypeKind.TheVariants as r
use Rattle.xpath_types.specs.declared.functions.Resolved.{Resolved}
use Rattle.xpath_types.specs.declared.functions.Resolved.TheVariants as n
use Rattle.xpath_types.specs.declared.refusals.Refusal.{Refusal}
use Rattle.xpath_types.specs.Kinds.{Kinds, no_kinds, all_kinds, nodes, booleans, numbers, strings, united, all_united, has_no_node, has_no_number}
use Rattle.xpath_types.specs.Scopes.{Declared, uri_of, prefix_of, written_name}
use Rattle.xpath_grammar.specs.Functions.{takes}
use Rattle.xpath_types.specs.Functions.{function_called, type_named, value_kinds}

-- What an expression is judged in: the kinds of the focus, the variables in scope with the kinds of their values, the innermost
-- first, and what is declared.
pub record Environment : Type 0 where
  pub focus : Kinds
  pub variables : List (List ℕ × Kinds)
  pub declared : Declared

-- the kinds of an expression, and what is refused in it
pub record Judged : Type 0 where
  pub kinds : Kinds
  pub refusals : List Refusal

-- the parts of an expression with what leads to them and their kinds, and what is refused in them
pub record Operands : Type 0 where
  pub kinds : List (Label × Kinds)
  pub refusals : List Refusal

abbrev pub is_empty : {X : Type 0} → List X → Bool
is_empty [] = true
is_empty (x ∷ xs) = false

-- a part with a refusal inside has all kinds
abbrev pub concluded : Kinds → List Refusal → Judged
concluded kinds refusals = record { kinds = (if is_empty refusals then kinds else all_kinds); refusals = refusals }

abbrev pub standing_at : ℕ → List TypeKind → List Refusal
standing_at token kinds = map (λ kind. record { token = token; kind = kind }) kinds

-- Names

-- the kinds of the innermost variable of the name
abbrev pub variable_kinds : List ℕ → List (List ℕ × Kinds) → Option Kinds
variable_kinds name [] = None
variable_kinds name (variable ∷ others) = elim (bytes_eq name variable.0) [ true ↦ Some variable.1 | false ↦ variable_kinds name others ]

abbrev pub kinds_or_all : Option Kinds → Kinds
kinds_or_all None = all_kinds
kinds_or_all (Some kinds) = kinds

abbrev pub unless : Bool → TypeKind → List TypeKind
unless true kind = []
unless false kind = kind ∷ []

-- a prefix that isn't bound
abbrev pub prefix_refusals : Declared → Name → List TypeKind
prefix_refusals declared name = elim (prefix_of name) [ None ↦ [] | Some prefix ↦ unless (is_some (uri_of prefix declared)) r.UndeclaredPrefix ]

abbrev pub variable_refusals : Environment → Name → List TypeKind
variable_refusals env name = prefix_refusals env.declared name ++ unless (is_some (variable_kinds (written_name name) env.variables)) r.UndeclaredVariable

-- a call of what a name stands for, with so many arguments
abbrev pub call_refusals : Resolved → ℕ → List TypeKind
call_refusals n.Unbound count = r.UndeclaredPrefix ∷ []
call_refusals n.Unknown count = r.UnknownFunction ∷ []
call_refusals (n.Known function) count = unless (takes function count) r.WrongArity

abbrev pub type_refusals : Resolved → List TypeKind
type_refusals n.Unbound = r.UndeclaredPrefix ∷ []
type_refusals n.Unknown = r.UnknownType ∷ []
type_refusals (n.Known function) = []

abbrev pub test_refusals : Declared → Test → List TypeKind
test_refusals declared (e.Name name) = prefix_refusals declared name
test_refusals declared _ = []

-- Expressions without parts

-- the kinds of the value of a function, by those of its first argument
abbrev pub called_kinds : Resolved → Kinds → Kinds
called_kinds (n.Known function) argument = value_kinds function argument
called_kinds _ argument = all_kinds

abbrev pub leaf_kinds : Environment → Leaf → Kinds
leaf_kinds env (l.Literal s) = strings
leaf_kinds env (l.Number x) = numbers
leaf_kinds env (l.Variable name) = kinds_or_all (variable_kinds (written_name name) env.variables)
leaf_kinds env l.Context = env.focus
leaf_kinds env l.Empty = no_kinds
leaf_kinds env (l.Called name) = called_kinds (function_called env.declared name) no_kinds
leaf_kinds env _ = nodes

abbrev pub leaf_refusals : Environment → Leaf → List TypeKind
leaf_refusals env (l.Variable name) = variable_refusals env name
leaf_refusals env (l.Called name) = call_refusals (function_called env.declared name) 0
leaf_refusals env (l.Step form test) = test_refusals env.declared test
leaf_refusals env _ = []

-- Expressions with parts

-- what leads to the parts
abbrev pub labels : Parts → List Label
labels g.none = []
labels (g.more label x parts) = label ∷ labels parts

abbrev pub binding_refusals : Declared → Label → List TypeKind
binding_refusals declared (k.Binding lead name) = prefix_refusals declared name
binding_refusals declared _ = []

abbrev pub bindings_refusals : Declared → List Label → List TypeKind
bindings_refusals declared labels = flat_map (binding_refusals declared) labels

abbrev pub argument_refusals : Declared → List Label → List TypeKind
argument_refusals declared (k.Calling name ∷ others) = call_refusals (function_called declared name) (1 + length others)
argument_refusals declared _ = []

-- the names that an expression itself has, which stand at its first token
abbrev pub form_refusals : Declared → Form → List Label → List TypeKind
form_refusals declared (m.Bound binder) labels = bindings_refusals declared labels
form_refusals declared (m.Cast word type optional) labels = type_refusals (type_named declared type)
form_refusals declared m.Call labels = argument_refusals declared labels
form_refusals declared _ labels = []

-- Patterns

abbrev pub is_matches : Resolved → Bool
is_matches (n.Known f.Matches) = true
is_matches _ = false

-- why a text is no pattern that is taken
abbrev pub fault_refusals : Option PatternFault → List TypeKind
fault_refusals None = []
fault_refusals (Some d.Bad) = r.BadPattern ∷ []
fault_refusals (Some d.TooLarge) = r.PatternTooLarge ∷ []
fault_refusals (Some d.Memory) = []

unfoldable pub literal_refusals : List ℕ → List TypeKind
literal_refusals text = fault_refusals (fault_of text)

-- what is wrong with the pattern of `matches`
abbrev pub pattern_kinds : Tree → List TypeKind
pattern_kinds (g.leaf (l.Literal text)) = literal_refusals text
pattern_kinds _ = r.NotLiteral ∷ []

-- the number of the first token of a call's second argument, behind the function's name and a parenthesis
abbrev pub second_token : ℕ → Tree → Label → ℕ
second_token at argument label = ((at + 2) + length (g.written argument)) + length (g.label_tokens label)

abbrev pub calls_matches : Declared → Label → Bool
calls_matches declared (k.Calling name) = is_matches (function_called declared name)
calls_matches declared _ = false

-- what is wrong with the pattern of a call, which stands at the pattern's own first token
abbrev pub pattern_refusals : Declared → ℕ → Parts → List Refusal
pattern_refusals declared at (g.more called argument (g.more label pattern parts)) = elim (calls_matches declared called) [
  | true ↦ standing_at (second_token at argument label) (pattern_kinds pattern)
  | false ↦ []
]
pattern_refusals declared at parts = []

-- what is refused of an expression itself: its names, and its pattern where it is a call of `matches`
abbrev pub own_refusals : Declared → ℕ → Form → Parts → List Refusal
own_refusals declared at m.Call parts = standing_at at (form_refusals declared m.Call (labels parts)) ++ pattern_refusals declared at parts
own_refusals declared at form parts = standing_at at (form_refusals declared form (labels parts))

-- the focus of a part: steps behind the first are taken at nodes
abbrev pub focus_inside : Form → Label → Kinds → Kinds
focus_inside (m.Chain p.Path) (k.Link operator) focus = nodes
focus_inside form label focus = focus

abbrev pub inside : Form → Label → Environment → Environment
inside form label env = record env { focus = focus_inside form label env.focus }

-- the focus behind a part of the kinds: predicates are judged at the items of what they filter
abbrev pub focus_behind : Form → Label → Kinds → Kinds → Kinds
focus_behind m.Filter k.First kinds focus = kinds
focus_behind form label kinds focus = focus

-- the variables that are seen behind a part of the kinds
abbrev pub variables_behind : Label → Kinds → List (List ℕ × Kinds) → List (List ℕ × Kinds)
variables_behind (k.Binding lead name) kinds variables = (written_name name, kinds) ∷ variables
variables_behind label kinds variables = variables

-- the environment of what stands behind a part of the kinds
abbrev pub behind : Form → Label → Kinds → Environment → Environment
behind form label kinds env = record env { focus = focus_behind form label kinds env.focus; variables = variables_behind label kinds env.variables }

-- the kinds of a part are sure to be an error there, by whether it is the last part
abbrev pub is_sure_error : Form → Bool → Kinds → Bool
is_sure_error (m.Chain p.Path) last kinds = not last && has_no_node kinds
is_sure_error (m.Chain p.Union) last kinds = has_no_node kinds
is_sure_error (m.Chain p.Intersection) last kinds = has_no_node kinds
is_sure_error (m.Chain p.Range) last kinds = has_no_number kinds
is_sure_error (m.Chain p.Sum) last kinds = has_no_number kinds
is_sure_error (m.Chain p.Product) last kinds = has_no_number kinds
is_sure_error m.Signs last kinds = has_no_number kinds
is_sure_error form last kinds = false

abbrev pub sure_refusals : ℕ → Bool → List Refusal
sure_refusals token sure = standing_at token (unless (not sure) r.SureTypeError)

abbrev pub operand_refusals : Form → Bool → ℕ → Kinds → List Refusal
operand_refusals form last token kinds = sure_refusals token (is_sure_error form last kinds)

abbrev pub is_branch : Label → Bool
is_branch label = not (g.is_condition label)

abbrev pub branches : List (Label × Kinds) → Kinds
branches [] = no_kinds
branches (part ∷ others) = elim (is_branch part.0) [ true ↦ united part.1 (branches others) | false ↦ branches others ]

abbrev pub first_kinds : List (Label × Kinds) → Kinds
first_kinds [] = no_kinds
first_kinds (part ∷ others) = part.1

abbrev pub last_kinds : List (Label × Kinds) → Kinds
last_kinds [] = no_kinds
last_kinds (part ∷ []) = part.1
last_kinds (part ∷ other ∷ others) = last_kinds (other ∷ others)

abbrev pub call_kinds : Declared → List (Label × Kinds) → Kinds
call_kinds declared ((k.Calling name, argument) ∷ others) = called_kinds (function_called declared name) argument
call_kinds declared _ = all_kinds

abbrev pub chain_kinds : Production → List (Label × Kinds) → Kinds
chain_kinds p.Sequence parts = all_united (map (λ part. part.1) parts)
chain_kinds p.Or parts = booleans
chain_kinds p.And parts = booleans
chain_kinds p.Comparison parts = booleans
chain_kinds p.Range parts = numbers
chain_kinds p.Sum parts = numbers
chain_kinds p.Product parts = numbers
chain_kinds p.Union parts = nodes
chain_kinds p.Intersection parts = nodes
chain_kinds p.Path parts = last_kinds parts

abbrev pub bound_kinds : Binder → List (Label × Kinds) → Kinds
bound_kinds b.For parts = last_kinds parts
bound_kinds b.Some parts = booleans
bound_kinds b.Every parts = booleans

abbrev pub cast_kinds : CastWord → Resolved → Kinds
cast_kinds c.Cast function = called_kinds function no_kinds
cast_kinds c.Castable function = booleans

abbrev pub form_kinds : Declared → Form → List (Label × Kinds) → Kinds
form_kinds declared (m.Chain production) parts = chain_kinds production parts
form_kinds declared (m.Bound binder) parts = bound_kinds binder parts
form_kinds declared m.Conditional parts = branches parts
form_kinds declared (m.Cast word type optional) parts = cast_kinds word (type_named declared type)
form_kinds declared m.Signs parts = numbers
form_kinds declared m.Filter parts = first_kinds parts
form_kinds declared m.Parentheses parts = first_kinds parts
form_kinds declared m.Call parts = call_kinds declared parts

abbrev pub is_last : Parts → Bool
is_last g.none = true
is_last (g.more label x parts) = false

abbrev pub with_operand : Form → Label → Bool → ℕ → Judged → Operands → Operands
with_operand form label last token judged others = record {
  kinds = (label, judged.kinds) ∷ others.kinds;
  refusals = judged.refusals ++ (operand_refusals form last token judged.kinds ++ others.refusals);
}

abbrev pub node_judged : Environment → ℕ → Form → Parts → Operands → Judged
node_judged env at form parts operands = concluded (form_kinds env.declared form operands.kinds)
    (own_refusals env.declared at form parts ++ operands.refusals)

unfoldable mutual
  -- an expression whose first token has the number
  pub judged : Environment → ℕ → Tree → Judged
  judged env at (g.leaf x) = concluded (leaf_kinds env x) (standing_at at (leaf_refusals env x))
  judged env at (g.node form parts) = node_judged env at form parts (operands env form at parts)

  -- parts of an expression, the first of which begins with the number's token
  pub operands : Environment → Form → ℕ → Parts → Operands
  operands env form at g.none = record { kinds = []; refusals = [] }
  operands env form at (g.more label x parts) =
      let token : ℕ = at + length (g.label_tokens label) in
      let part : Judged = judged (inside form label env) token x in
      with_operand form label (is_last parts) token part (operands (behind form label part.kinds env) form (token + length (g.written x)) parts)
