-- What the parser makes of expressions: the expression and its level, as long as that is at most 256, and what it is as a pattern.
use Rattle.std.specs.Prelude.{ℕ, true, false, ◌+◌, ◌&&◌, [], ◌∷◌, ◌++◌, Option, Some, None, Result, Ok, Err, max, nat_lt, ◌≡◌}
use Rattle.xpath_tokens.specs.declared.token.SyntaxFault.{SyntaxFault}
use Rattle.xpath_tokens.specs.declared.token.SyntaxFault.TheVariants as f
use Rattle.xpath_grammar.specs.declared.expr.Expr.TheVariants as e
use Rattle.xpath_grammar.specs.declared.pattern.PatternKind.{PatternKind}
use Rattle.xpath_grammar.specs.declared.expr.Leaf.{Leaf}
use Rattle.xpath_grammar.specs.declared.expr.Form.{Form}
use Rattle.xpath_grammar.specs.declared.expr.Label.{Label}
use Rattle.xpath_grammar.specs.declared.pattern.PatternKind.TheVariants as k
use Rattle.xpath_grammar.specs.Patterns as pa
use Rattle.xpath_grammar.specs.Machine as m
use Rattle.xpath_syntax.specs.declared.value.Kept.{Kept}
use Rattle.xpath_syntax.specs.declared.value.Value.{Value}
use Rattle.xpath_syntax.specs.declared.value.KeptParts.{KeptParts}
use Rattle.xpath_syntax.specs.declared.value.Parts.{Parts}

abbrev pub most_levels : ℕ
most_levels = 256

abbrev pub leaf_value : Leaf → Value
leaf_value x = record { kept = Some (record { expression = e.Leaf x; level = 1 }); kind = pa.leaf_kind x }

abbrev pub no_parts : Parts
no_parts = record { kept = Some (record { parts = []; deepest = 0 }); first = None; steps = true; paths = true }

-- the parts and one more, where all are kept
abbrev pub kept_with : Option KeptParts → Label → Option Kept → Option KeptParts
kept_with None label value = None
kept_with (Some parts) label None = None
kept_with (Some parts) label (Some value) = Some (record { parts = parts.parts ++ (label, value.expression) ∷ []; deepest = max parts.deepest value.level })

abbrev pub first_of : Option PatternKind → PatternKind → PatternKind
first_of None kind = kind
first_of (Some first) kind = first

abbrev pub and_then : Parts → Label → Value → Parts
and_then parts label value = record {
  kept = kept_with parts.kept label value.kept;
  first = Some (first_of parts.first value.kind);
  steps = parts.steps && pa.is_step value.kind;
  paths = parts.paths && (pa.is_path value.kind && pa.is_bar label);
}

abbrev pub kept_node : Form → Option KeptParts → Option Kept
kept_node form None = None
kept_node form (Some parts) = elim (nat_lt parts.deepest most_levels) [
  | true ↦ Some (record { expression = e.Node form parts.parts; level = parts.deepest + 1 })
  | false ↦ None
]

abbrev pub node_value : Form → Parts → Value
node_value form parts = record { kept = kept_node form parts.kept; kind = pa.node_kind form (first_of parts.first k.Other) parts.steps parts.paths }

-- the values, for the machine
abbrev pub values : m.Algebra Value Parts
values = record { leaf = leaf_value; nothing = no_parts; and_then = and_then; node = node_value }

-- Where memory sufficed, the call gives the value.
abbrev pub Makes : {X : Type 0} → Result X SyntaxFault → X → Type 0
Makes (Ok made) wanted = made ≡ wanted
Makes (Err fault) wanted = fault ≡ f.Memory
