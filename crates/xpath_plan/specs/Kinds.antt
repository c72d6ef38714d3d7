-- What kind of work a form is, by what leads to its parts, whether the first is a step, whether no predicate tests a position, and the
-- text of the second of two.
use Rattle.std.specs.Prelude.{ℕ, Bool, true, false, List, ◌∷◌, Option, Some, None, if◌then◌else◌}
use Rattle.xsd_pattern.specs.declared.fault.PatternFault.{PatternFault}
use Rattle.xsd_pattern.specs.Matching.{fault_of}
use Rattle.xpath_grammar.specs.Grammar as t
use Rattle.xpath_grammar.specs.Grammar.{Tree, Parts}
use Rattle.xpath_grammar.specs.declared.functions.Function.TheVariants as g
use Rattle.xpath_grammar.specs.declared.operators.CastWord.{CastWord}
use Rattle.xpath_grammar.specs.declared.expr.Form.{Form}
use Rattle.xpath_grammar.specs.declared.expr.Form.TheVariants as f
use Rattle.xpath_grammar.specs.declared.expr.Label.{Label}
use Rattle.xpath_grammar.specs.declared.expr.Label.TheVariants as k
use Rattle.xpath_grammar.specs.declared.expr.Leaf.TheVariants as x
use Rattle.xpath_types.specs.declared.functions.Resolved.{Resolved}
use Rattle.xpath_types.specs.declared.functions.Resolved.TheVariants as r
use Rattle.xpath_types.specs.Functions.{function_called, type_named}
use Rattle.xpath_types.specs.Judging.{is_matches}
use Rattle.xpath_types.specs.Scopes.{Declared}
use Rattle.xpath_plan.specs.declared.plan_node.Operation.{Operation}
use Rattle.xpath_plan.specs.declared.plan_node.Operation.TheVariants as m
use Rattle.xpath_plan.specs.declared.plan_node.Separator.{Separator}
use Rattle.xpath_plan.specs.declared.plan_node.Separator.TheVariants as l

abbrev pub link_of : Label → Separator
link_of (k.Link operator) = l.Operator operator
link_of k.Comma = l.Comma
link_of _ = l.Other

abbrev pub cast_kind : CastWord → Bool → Resolved → Operation
cast_kind word optional (r.Known function) = m.Cast word function optional
cast_kind word optional _ = m.Nothing

abbrev pub call_kind : Resolved → Operation
call_kind (r.Known function) = m.Call function
call_kind _ = m.Nothing

-- a call of `matches` with a literal keeps the pattern that it is
abbrev pub pattern_kind : List ℕ → Option PatternFault → Operation
pattern_kind text None = m.Matches text
pattern_kind text (Some fault) = m.Call g.Matches

unfoldable pub matches_kind : List ℕ → Operation
matches_kind text = pattern_kind text (fault_of text)

abbrev pub literal_kind : Resolved → List ℕ → Operation
literal_kind called text = if is_matches called then matches_kind text else call_kind called

-- a call, with the text of the second of two arguments, where that is a literal
abbrev pub named_kind : Resolved → Option (List ℕ) → Operation
named_kind called None = call_kind called
named_kind called (Some text) = literal_kind called text

abbrev pub literal : Tree → Option (List ℕ)
literal (t.leaf (x.Literal text)) = Some text
literal _ = None

abbrev pub second_literal : Parts → Option (List ℕ)
second_literal (t.more label first (t.more next second t.none)) = literal second
second_literal _ = None

-- by whether a step is filtered, and whether no predicate tests a position
abbrev pub filter_kind : Bool → Bool → Operation
filter_kind true true = m.FreeStep
filter_kind true false = m.FilteredStep
filter_kind false free = m.Filtered

abbrev pub signs_kind : List Label → Operation
signs_kind (k.Signed signs ∷ labels) = m.Signs signs
signs_kind _ = m.Nothing

abbrev pub called_kind : Declared → Option (List ℕ) → List Label → Operation
called_kind declared second (k.Calling name ∷ labels) = named_kind (function_called declared name) second
called_kind declared second _ = m.Nothing

abbrev pub kind_of : Declared → Form → Bool → Bool → Option (List ℕ) → List Label → Operation
kind_of declared (f.Chain production) is_step free second labels = m.Chain
kind_of declared (f.Bound binder) is_step free second labels = m.Bound binder
kind_of declared f.Conditional is_step free second labels = m.Conditional
kind_of declared (f.Cast word type optional) is_step free second labels = cast_kind word optional (type_named declared type)
kind_of declared f.Signs is_step free second labels = signs_kind labels
kind_of declared f.Filter is_step free second labels = filter_kind is_step free
kind_of declared f.Parentheses is_step free second labels = m.Only
kind_of declared f.Call is_step free second labels = called_kind declared second labels
