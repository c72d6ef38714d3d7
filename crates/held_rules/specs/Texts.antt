-- Texts in memory: the document that one is, what it says as a rule file (ISO/IEC 19757-3), and what that finds in a document. A text that is no document
-- says nothing, nor does a rule file that is refused.
use Rattle.std.specs.Prelude.{◌≡◌, ℕ, List, Option, Some, None, Result, Ok, Err}
use Rattle.inv_base.specs.Tree.{Node}
use Rattle.xml_state.specs.declared.limits.Limits.{Limits}
use Rattle.xml_state.specs.Sizes.{document_limits}
use Rattle.xml_state.specs.declared.fault.XmlFault.{XmlFault}
use Rattle.xml_profile.specs.Profile as profile
use Rattle.node_arena.specs.Document.{Document, built}
use Rattle.node_arena.specs.Moves.{tree_nodes}
use Rattle.schematron_meaning.specs.declared.fault.Fault.{Fault}
use Rattle.schematron_meaning.specs.Rules.{Rules, rules_of}
use Rattle.schematron_meaning.specs.Phases.{Active, active_of, the_default}
use Rattle.schematron_rules.specs.Said.{CameFrom}
use Rattle.schematron_rules.specs.Seen.{seen_rules, seen_active}
use Rattle.schematron_findings.specs.declared.finding.Line.{Line}
use Rattle.schematron_run.specs.Judging.{findings}
use Rattle.held_rules.specs.declared.ready.Ready as code

-- ---- documents

-- how large a document may be: what every document may be that the program reads
abbrev pub limits : Limits
limits = document_limits

-- the nodes of a document with their places, and its names
abbrev pub document_read : profile.Document → Document
document_read found = record { nodes = (built found.events).nodes; names = found.names }

abbrev pub unless_refused : Result profile.Document XmlFault → Option (List Node)
unless_refused (Err fault) = None
unless_refused (Ok found) = Some (tree_nodes (document_read found))

-- the nodes of the document that the bytes are, if they are one
unfoldable pub nodes_in : List ℕ → Option (List Node)
nodes_in bytes = unless_refused (profile.document limits bytes)

-- ---- rule files

-- what a rule file says, nothing where it is refused
abbrev pub unless_faulty : Result Rules Fault → Option Rules
unless_faulty (Ok rules) = Some rules
unless_faulty (Err fault) = None

abbrev pub rules_in : Option (List Node) → Option Rules
rules_in None = None
rules_in (Some nodes) = unless_faulty (rules_of nodes)

-- rules with what is active of them
pub record Ready : Type 0 where
  pub rules : Rules
  pub active : Active

abbrev pub with_active : Rules → Option Active → Option Ready
with_active rules None = None
with_active rules (Some active) = Some (record { rules = rules; active = active })

-- with what is active where no phase is asked for
abbrev pub by_default : Option Rules → Option Ready
by_default None = None
by_default (Some rules) = with_active rules (active_of rules the_default)

-- what a text says as a rule file, with what is active by default
unfoldable pub ready_in : List ℕ → Option Ready
ready_in text = by_default (rules_in (nodes_in text))

-- what it finds in a document
abbrev pub found_by : Ready → List Node → List Line
found_by ready nodes = findings ready.rules ready.active nodes

-- ---- what the code has

abbrev pub seen_ready : code.Ready → Ready
seen_ready ready = record { rules = seen_rules ready.rules; active = seen_active ready.active }

-- What is active came from the rules.
abbrev pub IsReady : code.Ready → Type 0
IsReady ready = CameFrom (seen_rules ready.rules) (seen_active ready.active)

abbrev pub AreReady : Option code.Ready → Type 0
AreReady ready = (one : code.Ready) → ready ≡ Some one → IsReady one
