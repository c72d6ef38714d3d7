-- How an expression is judged by going through it once, from its first token to its last. proofs/ has the law that this leaves
-- what Judging and Parts say.
use Rattle.std.specs.Prelude.{ℕ, Bool, true, false, ◌+◌, ◌&&◌, ◌||◌, not, List, [], ◌∷◌, ◌++◌, Option, Some, None, length, map, nat_le, min, if◌then◌else◌}
use Rattle.std.specs.Prelude.{slice_set}
use Rattle.xpath_tokens.specs.declared.token.Name.{Name}
use Rattle.xpath_grammar.specs.declared.operators.Production.{Production}
use Rattle.xpath_grammar.specs.declared.operators.Production.TheVariants as p
use Rattle.xpath_grammar.specs.declared.operators.Binder.{Binder}
use Rattle.xpath_grammar.specs.declared.operators.Binder.TheVariants as b
use Rattle.xpath_grammar.specs.Grammar as g
use Rattle.xpath_grammar.specs.Grammar.{Tree, Parts}
use Rattle.xpath_grammar.specs.declared.expr.Leaf.{Leaf}
use Rattle.xpath_grammar.specs.declared.expr.Leaf.TheVariants as l
use Rattle.xpath_grammar.specs.declared.expr.Form.{Form}
use Rattle.xpath_grammar.specs.declared.expr.Form.TheVariants as m
use Rattle.xpath_grammar.specs.declared.expr.Label.{Label}
use Rattle.xpath_grammar.specs.declared.expr.Label.TheVariants as k
use Rattle.xpath_types.specs.declared.fault.TypeKind.{TypeKind}
use Rattle.xpath_types.specs.declared.facts.Facts.{Facts}
use Rattle.xpath_types.specs.declared.part.Part.{Part}
use Rattle.xpath_types.specs.declared.refusals.Refusal.{Refusal}
use Rattle.xpath_types.specs.declared.uses.Uses.{Uses}
use Rattle.xpath_types.specs.declared.variables.Reading.{Reading}
use Rattle.xpath_types.specs.declared.walk.State.{State}
use Rattle.xpath_types.specs.declared.walk.Walked.{Walked}
use Rattle.xpath_types.specs.Kinds.{Kinds, no_kinds, all_kinds, nodes, booleans, numbers, united}
use Rattle.xpath_types.specs.Scopes.{Declared, written_name}
use Rattle.xpath_types.specs.Functions.{function_called, type_named}
use Rattle.xpath_types.specs.Variables.{innermost}
use Rattle.xpath_types.specs.Refusals.{first_of}
use Rattle.xpath_types.specs.Judging.{Environment, is_empty, standing_at, leaf_kinds, leaf_refusals, call_refusals, cast_kinds, labels, variables_behind}
use Rattle.xpath_types.specs.Judging.{form_refusals, own_refusals, focus_inside, focus_behind, operand_refusals, is_sure_error, is_last, called_kinds}
use Rattle.xpath_types.specs.Parts.{no_uses, joined, leaf_uses, has_outer_focus, begins_at_root, uses_any, is_document_alone}

-- Variables

-- how high the variable stands that the name reads, 0 for one outside
abbrev pub height_of : Option Reading → ℕ
height_of None = 0
height_of (Some reading) = reading.height

-- the lower of two
abbrev pub lower : Option ℕ → Option ℕ → Option ℕ
lower None y = y
lower (Some x) None = Some x
lower (Some x) (Some y) = Some (min x y)

-- a variable is read that stands no higher
abbrev pub reads_within : ℕ → Option ℕ → Bool
reads_within height None = false
reads_within height (Some lowest) = nat_le lowest height

-- what is declared, with the variables that are bound, at a focus
abbrev pub environment : Declared → Kinds → List (List ℕ × Kinds) → Environment
environment declared focus bound = record { focus = focus; variables = bound ++ map (λ name. (name, all_kinds)) declared.variables; declared = declared }

-- What is known of an expression

abbrev pub facts_of : Kinds → Bool → Uses → Option ℕ → Facts
facts_of kinds refused uses lowest = record { kinds = (if refused then all_kinds else kinds); refused = refused; uses = uses; lowest = lowest }

abbrev pub leaf_lowest : List (List ℕ × Kinds) → Leaf → Option ℕ
leaf_lowest bound (l.Variable name) = Some (height_of (innermost (written_name name) bound))
leaf_lowest bound x = None

abbrev pub leaf_facts : Declared → List (List ℕ × Kinds) → Kinds → Leaf → Facts
leaf_facts declared bound focus x = facts_of (leaf_kinds (environment declared focus bound) x)
    (not (is_empty (leaf_refusals (environment declared focus bound) x)))
    (leaf_uses declared x) (leaf_lowest bound x)

abbrev pub variable_facts : Declared → List (List ℕ × Kinds) → Name → Facts
variable_facts declared bound name = leaf_facts declared bound no_kinds (l.Variable name)

abbrev pub variable_refusals_in : Declared → List (List ℕ × Kinds) → Name → List TypeKind
variable_refusals_in declared bound name = leaf_refusals (environment declared no_kinds bound) (l.Variable name)

abbrev pub called_facts : Declared → Name → Facts
called_facts declared name = leaf_facts declared [] no_kinds (l.Called name)

abbrev pub called_refusals : Declared → Name → List TypeKind
called_refusals declared name = call_refusals (function_called declared name) 0

-- the kinds so far, with those of one part more
abbrev pub gathered : Form → Label → Bool → Kinds → Kinds → Kinds
gathered (m.Chain p.Sequence) label first so_far kinds = united so_far kinds
gathered (m.Chain p.Path) label first so_far kinds = kinds
gathered (m.Bound b.For) label first so_far kinds = kinds
gathered m.Conditional label first so_far kinds = (if g.is_condition label then so_far else united so_far kinds)
gathered m.Filter label first so_far kinds = (if first then kinds else so_far)
gathered m.Parentheses label first so_far kinds = (if first then kinds else so_far)
gathered m.Call label first so_far kinds = (if first then kinds else so_far)
gathered form label first so_far kinds = so_far

-- the part, where its facts are known
abbrev pub part_of : Facts → Kinds → ℕ → Part
part_of facts focus height = record {
  kinds = facts.kinds;
  uses_focus = uses_any facts.uses;
  uses_position = facts.uses.position;
  depends_on_document_alone = not (reads_within height facts.lowest) && is_document_alone focus facts.uses;
}

-- the facts so far, with those of one part more, of which it is said whether it is the first and whether it is sure to be an error
abbrev pub with_part : Form → Label → Bool → Bool → Facts → Facts → Facts
with_part form label first sure so_far part = record {
  kinds = gathered form label first so_far.kinds part.kinds;
  refused = so_far.refused || (part.refused || sure);
  uses = (if has_outer_focus form label then joined so_far.uses part.uses else so_far.uses);
  lowest = lower so_far.lowest part.lowest;
}

-- The walk

-- the parts so far, in their order, and the first refusal so far
pub record Seen : Type 0 where
  pub parts : List Part
  pub first : Option Refusal

abbrev pub seen : State → Seen
seen state = record { parts = state.parts.items; first = state.first }

-- stands for a part until the parts in it are known
abbrev pub unknown : Part
unknown = record { kinds = no_kinds; uses_focus = false; uses_position = false; depends_on_document_alone = false }

abbrev pub leaf_walked : Declared → Kinds → List (List ℕ × Kinds) → ℕ → Seen → Leaf → Walked × Seen
leaf_walked declared focus bound token s x = (
  record { facts = leaf_facts declared bound focus x; end = token + length (g.leaf_tokens x) },
  record {
    parts = s.parts ++ part_of (leaf_facts declared bound focus x) focus (length bound) ∷ [];
    first = first_of s.first (standing_at token (leaf_refusals (environment declared focus bound) x));
  },
)

-- before the parts of an expression
abbrev pub node_begun : Declared → ℕ → Form → Parts → Walked
node_begun declared token form parts = record {
  facts = record {
    kinds = no_kinds;
    refused = not (is_empty (own_refusals declared token form parts));
    uses =
        record no_uses { root = begins_at_root form (labels parts) };
    lowest = None;
  };
  end = token;
}

abbrev pub seen_begun : Declared → ℕ → Form → Parts → Seen → Seen
seen_begun declared token form parts s = record {
  parts = s.parts ++ unknown ∷ [];
  first = first_of s.first (own_refusals declared token form parts);
}

-- behind a part of an expression
abbrev pub part_ended : Form → Label → Bool → Bool → Walked → Walked → Walked
part_ended form label first last so_far part = record {
  facts = with_part form label first (is_sure_error form last part.facts.kinds) so_far.facts part.facts;
  end = part.end;
}

abbrev pub seen_ended : Form → Bool → ℕ → Kinds → Seen → Seen
seen_ended form last start kinds s = record s { first = first_of s.first (operand_refusals form last start kinds) }

-- the kinds of an expression, by those gathered of its parts
abbrev pub called_in : Declared → List Label → Kinds → Kinds
called_in declared (k.Calling name ∷ others) argument = called_kinds (function_called declared name) argument
called_in declared _ argument = all_kinds

abbrev pub chain_concluded : Production → Kinds → Kinds
chain_concluded p.Sequence kinds = kinds
chain_concluded p.Or kinds = booleans
chain_concluded p.And kinds = booleans
chain_concluded p.Comparison kinds = booleans
chain_concluded p.Range kinds = numbers
chain_concluded p.Sum kinds = numbers
chain_concluded p.Product kinds = numbers
chain_concluded p.Union kinds = nodes
chain_concluded p.Intersection kinds = nodes
chain_concluded p.Path kinds = kinds

abbrev pub bound_concluded : Binder → Kinds → Kinds
bound_concluded b.For kinds = kinds
bound_concluded b.Some kinds = booleans
bound_concluded b.Every kinds = booleans

abbrev pub kinds_concluded : Declared → Form → List Label → Kinds → Kinds
kinds_concluded declared (m.Chain production) labels kinds = chain_concluded production kinds
kinds_concluded declared (m.Bound binder) labels kinds = bound_concluded binder kinds
kinds_concluded declared m.Conditional labels kinds = kinds
kinds_concluded declared (m.Cast word type optional) labels kinds = cast_kinds word (type_named declared type)
kinds_concluded declared m.Signs labels kinds = numbers
kinds_concluded declared m.Filter labels kinds = kinds
kinds_concluded declared m.Parentheses labels kinds = kinds
kinds_concluded declared m.Call labels kinds = called_in declared labels kinds

abbrev pub node_facts : Declared → Form → List Label → Facts → Facts
node_facts declared form labels facts = facts_of (kinds_concluded declared form labels facts.kinds) facts.refused facts.uses facts.lowest

-- behind the parts of an expression, whose own part has the index
abbrev pub node_ended : Declared → Kinds → ℕ → ℕ → Form → List Label → Walked × Seen → Walked × Seen
node_ended declared focus height index form labels inner = (
  record { facts = node_facts declared form labels inner.0.facts; end = inner.0.end + length (g.closing form) },
  record inner.1 { parts = slice_set inner.1.parts index (part_of (node_facts declared form labels inner.0.facts) focus height) },
)

unfoldable mutual
  pub walked : Declared → Kinds → List (List ℕ × Kinds) → ℕ → Seen → Tree → Walked × Seen
  walked declared focus bound token s (g.leaf x) = leaf_walked declared focus bound token s x
  walked declared focus bound token s (g.node form parts) = node_ended declared focus (length bound) (length s.parts) form (labels parts)
      (walked_parts declared form focus bound true (node_begun declared token form parts) (seen_begun declared token form parts s) parts)

  pub walked_parts : Declared → Form → Kinds → List (List ℕ × Kinds) → Bool → Walked → Seen → Parts → Walked × Seen
  walked_parts declared form focus bound first so_far s g.none = (so_far, s)
  walked_parts declared form focus bound first so_far s (g.more label x parts) =
      let start : ℕ = so_far.end + length (g.label_tokens label) in
      let part : Walked × Seen = walked declared (focus_inside form label focus) bound start s x in
      walked_parts declared form (focus_behind form label part.0.facts.kinds focus) (variables_behind label part.0.facts.kinds bound) false
      (part_ended form label first (is_last parts) so_far part.0) (seen_ended form (is_last parts) start part.0.facts.kinds part.1) parts
