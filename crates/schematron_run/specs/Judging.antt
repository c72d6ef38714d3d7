-- What a rule file finds in a document (ISO/IEC 19757-3, sections 5 and 6): each node is judged by the first rule of each active pattern
-- whose context matches it.
use Rattle.std.specs.Prelude.{ℕ, ◌+◌, Bool, true, false, List, [], ◌∷◌, ◌++◌, map, flat_map, slice_get, Option, Some, None, Result, Ok, Err, codes}
use Rattle.inv_base.specs.Tree.{Node, Name}
use Rattle.node_arena.specs.Moves.{tree_node}
use Rattle.node_locations.specs.Locations.{location}
use Rattle.xpath_items.specs.declared.outcome.DynError.{DynError}
use Rattle.xpath_meaning.specs.Values.{Value}
use Rattle.xpath_meaning.specs.Items.{text_of}
use Rattle.xpath_meaning.specs.Texts.{with_separator}
use Rattle.xpath_meaning.specs.Meaning.{mean, at_top, truth_of}
use Rattle.xpath_meaning.specs.Patterns.{matches}
use Rattle.schematron_texts.specs.Messages.{squeezed}
use Rattle.xpath_items.specs.Codes.{code_text}
use Rattle.schematron_findings.specs.declared.finding.FindingKind.{FindingKind}
use Rattle.schematron_findings.specs.declared.finding.FindingKind.TheVariants as f
use Rattle.schematron_findings.specs.declared.finding.Finding.{Finding}
use Rattle.schematron_findings.specs.declared.finding.Line.{Line}
use Rattle.schematron_findings.specs.declared.finding.Line.TheVariants as l
use Rattle.schematron_meaning.specs.declared.assertion.AssertionKind.{AssertionKind}
use Rattle.schematron_meaning.specs.declared.assertion.AssertionKind.TheVariants as q
use Rattle.schematron_meaning.specs.Rules.{Let, Part, words, values, the_name, Assertion, Rule, Pattern, Phase, Rules}
use Rattle.schematron_meaning.specs.Phases.{Active}

-- variables with their values, of which the last of a name counts
abbrev pub Variables : Type 0
Variables = List (List ℕ × Value)

-- Lets, each evaluated at the node with those before it. An error is the value of its variable, and told where that is read.
abbrev pub filled : List Node → ℕ → List Let → Variables → Variables
filled nodes n [] outer = outer
filled nodes n (l ∷ lets) outer = filled nodes n lets (outer ++ (l.name, mean nodes l.value (at_top n outer)) ∷ [])

-- Messages

-- what a message says of an error
abbrev pub error_text : DynError → List ℕ
error_text error = codes "[error " ++ (code_text error ++ codes "]")

-- the texts of items, a space between them; an error says its code in brackets
abbrev pub words_of : List Node → Value → List ℕ
words_of nodes (Ok items) = with_separator (32 ∷ []) (map (text_of nodes) items)
words_of nodes (Err error) = error_text error

-- the local name of a node, where it has a name
abbrev pub local_name : Option Name → List ℕ
local_name None = []
local_name (Some name) = name.local

abbrev pub part_text : List Node → ℕ → Variables → Part → List ℕ
part_text nodes n outer (words text) = text
part_text nodes n outer (values e) = words_of nodes (mean nodes e (at_top n outer))
part_text nodes n outer the_name = local_name (tree_node nodes n).name

-- what a message says at a node
abbrev pub message_at : List Node → ℕ → Variables → List Part → List ℕ
message_at nodes n outer parts = squeezed (flat_map (part_text nodes n outer) parts)

-- Assertions

-- what is told of an assertion whose test comes to this, if anything is
abbrev pub told_of : AssertionKind → Result Bool DynError → Option FindingKind
told_of q.Assert (Ok true) = None
told_of q.Assert (Ok false) = Some f.Failed
told_of q.Report (Ok true) = Some f.Reported
told_of q.Report (Ok false) = None
told_of kind (Err error) = Some (f.Error error)

abbrev pub finding_of : List Node → ℕ → Variables → Assertion → FindingKind → Finding
finding_of nodes n outer assertion outcome = record {
  outcome = outcome;
  test = assertion.test.text;
  location = location nodes n;
  message = message_at nodes n outer assertion.message;
  id = assertion.id;
  flag = assertion.flag;
  role = assertion.role;
  level = assertion.level;
}

abbrev pub lines_told : List Node → ℕ → Variables → Assertion → Option FindingKind → List Line
lines_told nodes n outer assertion None = []
lines_told nodes n outer assertion (Some outcome) = l.Found (finding_of nodes n outer assertion outcome) ∷ []

abbrev pub by_assertion : List Node → ℕ → Variables → Assertion → List Line
by_assertion nodes n outer assertion =
    lines_told nodes n outer assertion (told_of assertion.kind (truth_of (mean nodes assertion.test.expression (at_top n outer))))

-- Rules and patterns

-- a node judged by the rule of that number in its pattern
abbrev pub by_rule : List Node → Variables → ℕ → ℕ → Rule → List Line
by_rule nodes outer n k rule = l.Fired n k rule.context.text ∷ flat_map (by_assertion nodes n (filled nodes n rule.lets outer)) rule.assertions

-- a node judged by the first rule whose context matches it, where the first rule has the number
abbrev pub by_first : List Node → Variables → Node → ℕ → List Rule → List Line
by_first nodes outer node k [] = []
by_first nodes outer node k (rule ∷ rules) = elim (matches nodes outer rule.context.expression node) [
  | true ↦ by_rule nodes outer node.number k rule
  | false ↦ by_first nodes outer node (k + 1) rules
]

-- a pattern over all nodes: its lets have the document as their node
abbrev pub by_pattern : List Node → Variables → Pattern → List Line
by_pattern nodes outer pattern =
    let inner : Variables = filled nodes 0 pattern.lets outer in
    l.Pattern pattern.id ∷ flat_map (λ (node : Node). by_first nodes inner node 0 pattern.rules) nodes

-- Rule files

-- the lets of the phase that is active
abbrev pub lets_of : List Phase → Option ℕ → List Let
lets_of phases None = []
lets_of phases (Some n) = elim (slice_get phases n) [ None ↦ [] | Some phase ↦ phase.lets ]

-- the variables of the whole file: the schema's, then those of the phase
abbrev pub file_variables : List Node → Rules → Active → Variables
file_variables nodes rules active = filled nodes 0 (lets_of rules.phases active.phase) (filled nodes 0 rules.lets [])

abbrev pub by_number : List Node → Variables → List Pattern → ℕ → List Line
by_number nodes outer patterns n = elim (slice_get patterns n) [ None ↦ [] | Some pattern ↦ by_pattern nodes outer pattern ]

-- all that the active patterns find in the document of these nodes, pattern by pattern and node by node
abbrev pub findings : Rules → Active → List Node → List Line
findings rules active nodes = flat_map (by_number nodes (file_variables nodes rules active) rules.patterns) active.patterns
