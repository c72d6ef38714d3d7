-- The first fault of a rule file: the first in document order of the elements at which they stand, at one element in
-- the order of the kinds, and of one kind by attribute.
use Rattle.std.specs.Prelude.{ℕ, Bool, true, false, ◌&&◌, nat_eq, nat_lt, List, [], ◌∷◌, ◌++◌, length, filter, flat_map, Option, Some, None, Result, Ok, Err}
use Rattle.std.specs.Prelude.{encode_utf8_all}
use Rattle.xpath_tokens.specs.declared.token.SyntaxFault.{SyntaxFault}
use Rattle.xpath_tokens.specs.declared.token.SyntaxFault.TheVariants as f
use Rattle.xpath_tokens.specs.Tokens.{most_bytes, answer_of_characters}
use Rattle.xpath_grammar.specs.Grammar.{Tree}
use Rattle.xpath_grammar.specs.Machine.{tree_of}
use Rattle.xpath_syntax.specs.Answers.{answer_of_tree, answer_of_pattern_tree}
use Rattle.xpath_types.specs.Typing.{typing_of}
use Rattle.xpath_types.specs.Scopes.{Declared}
use Rattle.inv_base.specs.Tree.{Node}
use Rattle.schematron_meaning.specs.declared.attribute.Attribute.TheVariants as a
use Rattle.schematron_meaning.specs.declared.fault.Fault.{Fault}
use Rattle.schematron_meaning.specs.declared.fault.RuleKind.TheVariants as k
use Rattle.schematron_meaning.specs.declared.fault.ExpressionFault.{ExpressionFault}
use Rattle.schematron_meaning.specs.declared.fault.ExpressionFault.TheVariants as x
use Rattle.schematron_meaning.specs.Entries.{Entry, entries}
use Rattle.schematron_meaning.specs.Bodies.{is_cycle}
use Rattle.schematron_meaning.specs.Showing.{fault, when, is_extends, declared_at, first_in}
use Rattle.schematron_meaning.specs.Expansion.{File, file_of}
use Rattle.schematron_meaning.specs.Written.{Written, all_written}
use Rattle.schematron_meaning.specs.Counts.{Tally, no_tally, added, tally_of, passes_any}

-- Cycles

abbrev pub cycle : File → Entry → List Fault
cycle file e = when (is_extends e.role && is_cycle file.rules file.bodies e) (fault k.Cycle (Some a.Rule) e)

-- Expressions

abbrev pub tree_spelled : Bool → Option Tree → Result Tree SyntaxFault
tree_spelled true tree = answer_of_pattern_tree tree
tree_spelled false tree = answer_of_tree tree

-- the expression or pattern that a text spells
abbrev pub spelled : Bool → List ℕ → Result Tree SyntaxFault
spelled is_pattern text = elim (nat_lt most_bytes (length (encode_utf8_all text))) [
  | true ↦ Err f.TooLong
  | false ↦ elim (answer_of_characters text) [ Err fault ↦ Err fault | Ok tokens ↦ tree_spelled is_pattern (tree_of tokens) ]
]

abbrev pub tree_fault : Declared → Result Tree SyntaxFault → Option ExpressionFault
tree_fault scope (Err fault) = Some (x.Syntax fault)
tree_fault scope (Ok tree) = elim (typing_of scope tree) [ Ok typing ↦ None | Err refusal ↦ Some (x.Type refusal.kind refusal.token) ]

-- why an expression is refused in its scope
unfoldable pub expression_fault : Bool → List ℕ → Declared → Option ExpressionFault
expression_fault is_pattern text scope = tree_fault scope (spelled is_pattern text)

abbrev pub fault_of_written : Written → Option ExpressionFault → List Fault
fault_of_written w None = []
fault_of_written w (Some found) = record { kind = k.Expression found; node = w.holder; attribute = Some w.attribute } ∷ []

abbrev pub refused : Written → List Fault
refused w = fault_of_written w (expression_fault w.is_pattern w.text w.scope)

-- those that stand at an element
abbrev pub bad_expressions : List Written → Entry → List Fault
bad_expressions ws e = flat_map refused (filter (λ (w : Written). nat_eq w.stand e.number) ws)

abbrev pub too_many : Tally → Tally → Entry → List Fault
too_many before after e = when (passes_any before after) (fault k.TooMany None e)

-- All faults

-- what is wrong at an element, where the entries before it and their tally are known, in the order of the kinds
abbrev pub faults_at : File → List Written → List Entry → Tally → Tally → Entry → List Fault
faults_at file ws before tally after e = declared_at file.entries file.rules before e ++ (cycle file e ++ (bad_expressions ws e ++ too_many tally after e))

-- what is wrong from one element on
abbrev pub faults_behind : File → List Written → List Entry → Tally → List Entry → List Fault
faults_behind file ws before tally [] = []
faults_behind file ws before tally (e ∷ es) =
    let after : Tally = added tally (tally_of file e) in
    faults_at file ws before tally after e ++ faults_behind file ws (before ++ e ∷ []) after es

abbrev pub all_faults : File → List Fault
all_faults file = faults_behind file (all_written file) [] no_tally file.entries

-- the first fault of the rule file with these nodes
unfoldable pub first_fault : List Node → Option Fault
first_fault nodes = first_in (all_faults (file_of (entries nodes)))
