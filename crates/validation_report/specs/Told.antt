-- What is told of a document: faults of reading it as an invoice, elements that are misplaced, findings of rules.
use Rattle.std.specs.Prelude.{ℕ, nat_lt, true, false, List, [], ◌∷◌, ◌++◌, map, codes, chars, Option, Some, None, unwrap_or}
use Rattle.term_table.specs.Groups as groups
use Rattle.term_table.specs.Names as terms
use Rattle.inv_base.specs.Tree.{Name as ExpandedName}
use Rattle.inv_terms.specs.declared.violations.Name.{Name}
use Rattle.inv_terms.specs.declared.violations.Name.TheVariants as names
use Rattle.inv_listing.specs.Listing.{term_text}
use Rattle.node_arena.specs.Document.{Document}
use Rattle.node_arena.specs.Moves.{tree_nodes, tree_node}
use Rattle.node_locations.specs.Locations.{location}
use Rattle.bind_meaning.specs.declared.fault.BindFault.{BindFault}
use Rattle.bind_meaning.specs.KindTexts.{kind_text}
use Rattle.schematron_findings.specs.declared.level.Level.TheVariants as levels
use Rattle.schematron_findings.specs.declared.finding.FindingKind.TheVariants as outcomes
use Rattle.schematron_findings.specs.declared.finding.Finding.{Finding}
use Rattle.schematron_findings.specs.declared.finding.Line.{Line}
use Rattle.schematron_findings.specs.declared.finding.Line.TheVariants as line

-- ---- faults of reading

-- the number of a term or a group
abbrev pub label : Name → Option (List ℕ)
label (names.Term term) = Some (chars (term_text term))
label (names.Group group) = Some (chars (groups.label_of group))
label names.Nothing = None

-- its name in the semantic model; of a term that a user adds nothing
abbrev pub title : Name → List ℕ
title (names.Term term) = chars (unwrap_or (terms.name_of term) [])
title (names.Group group) = chars (groups.name_of group)
title names.Nothing = []

-- a fault as a finding at its node: its kind is what is tested, its term or group names it
abbrev pub fault_finding : Document → BindFault → Finding
fault_finding document fault = record {
  outcome = outcomes.Failed;
  test = kind_text fault.kind;
  location = location (tree_nodes document) fault.node;
  message = title fault.name;
  id = label fault.name;
  flag = Some (codes "fatal");
  role = None;
  level = levels.Fatal;
}

abbrev pub fault_line : Document → BindFault → Line
fault_line document fault = line.Found (fault_finding document fault)

-- ---- elements that are misplaced

-- the local name of an element or an attribute
abbrev pub local_name : Option ExpandedName → List ℕ
local_name None = []
local_name (Some name) = name.local

-- A misplaced element as a finding at it, which its local name tells.
abbrev pub misplaced_finding : Document → ℕ → Finding
misplaced_finding document node = record {
  outcome = outcomes.Failed;
  test = codes "Misplaced";
  location = location (tree_nodes document) node;
  message = local_name (tree_node (tree_nodes document) node).name;
  id = None;
  flag = Some (codes "fatal");
  role = None;
  level = levels.Fatal;
}

abbrev pub misplaced_line : Document → ℕ → Line
misplaced_line document node = line.Found (misplaced_finding document node)

-- the reading as a pattern of its own: one rule that judges the document, and finds the faults and behind them the misplaced
-- elements
abbrev pub reading_lines : Document → List BindFault → List ℕ → List Line
reading_lines document faults misplaced =
    line.Pattern (Some (codes "reading")) ∷ line.Fired 0 0 (codes "/")
    ∷ (map (fault_line document) faults ++ map (misplaced_line document) misplaced)

-- ---- findings of rules

-- a finding with the node that it was found at
pub record Told : Type 0 where
  pub node : ℕ
  pub finding : Finding

-- Each finding with the node of the line in front of it that tells a judged node; this one where none does.
abbrev pub told_from : ℕ → List Line → List Told
told_from node [] = []
told_from node (line.Pattern id ∷ lines) = told_from node lines
told_from node (line.Fired judged rule context ∷ lines) = told_from judged lines
told_from node (line.Found finding ∷ lines) = record { node = node; finding = finding } ∷ told_from node lines

-- Among others that stand in the order of the nodes that they are told of: in front of the first that is told of no node
-- before its own.
abbrev pub put : {X : Type 0} → (X → ℕ) → X → List X → List X
put node x [] = x ∷ []
put node x (first ∷ others) = elim (nat_lt (node first) (node x)) [ true ↦ first ∷ put node x others | false ↦ x ∷ (first ∷ others) ]

-- In document order of the nodes that they are told of. What is told of one node stays in its order: the last is put first.
abbrev pub in_order : {X : Type 0} → (X → ℕ) → List X → List X
in_order node [] = []
in_order node (x ∷ others) = put node x (in_order node others)

-- the findings of rules in document order
abbrev pub told_in : List Line → List Told
told_in lines = in_order (λ (told : Told). told.node) (told_from 0 lines)
