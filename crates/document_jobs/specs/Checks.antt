-- What is answered to a check: what rule files find in a document (ISO/IEC 19757-3).
use Rattle.std.specs.Prelude.{◌≡◌, ℕ, Bool, true, false, ◌||◌, List, [], ◌∷◌, ◌++◌, map, codes, decimal, chars, encode_utf8_all, Option, Some, None, option_map}
use Rattle.std.specs.Prelude.{unwrap_or, slice_get, Result, Ok, Err, if◌then◌else◌}
use Rattle.std.proofs.Common.{◌⊎◌}
use Rattle.std.specs.List.{All, list_any}
use Rattle.inv_base.specs.Outside.{SinkView}
use Rattle.inv_base.specs.Tree.{Node}
use Rattle.inv_base.specs.Writing.{WritesAll, WritesFront}
use Rattle.xml_profile.specs.Profile as profile
use Rattle.rule_library.specs.Library.{Held, Home, home_from, name_of}
use Rattle.node_arena.specs.Moves.{tree_nodes}
use Rattle.schematron_meaning.specs.declared.attribute.Attribute.{Attribute}
use Rattle.schematron_meaning.specs.Words.{attribute_word}
use Rattle.schematron_meaning.specs.declared.fault.Fault.{Fault}
use Rattle.schematron_meaning.specs.declared.fault.RuleKind.{RuleKind}
use Rattle.schematron_meaning.specs.declared.fault.RuleKind.TheVariants as k
use Rattle.schematron_meaning.specs.declared.fault.ExpressionFault.{ExpressionFault}
use Rattle.schematron_meaning.specs.declared.fault.ExpressionFault.TheVariants as x
use Rattle.schematron_meaning.specs.Rules.{Rules, rules_of}
use Rattle.schematron_meaning.specs.Phases.{Active, active_of, the_default}
use Rattle.schematron_rules.specs.Said.{CameFrom}
use Rattle.schematron_rules.specs.Seen.{seen_rules, seen_active}
use Rattle.schematron_compile.specs.Answers.{told, is_memory, Tells}
use Rattle.schematron_compile.specs.declared.compiling.RuleFault.{RuleFault}
use Rattle.schematron_findings.specs.declared.level.Level.{Level}
use Rattle.schematron_findings.specs.declared.finding.FindingKind.{FindingKind}
use Rattle.schematron_findings.specs.declared.finding.Finding.{Finding}
use Rattle.schematron_findings.specs.declared.finding.Line.{Line}
use Rattle.schematron_run.specs.Judging.{findings}
use Rattle.svrl_report.specs.Plain.{is_failed_by, is_error_by, is_found, all_lines, plain_report}
use Rattle.svrl_report.specs.Svrl.{svrl_report}
use Rattle.job_protocol.specs.declared.status.Status.{Status}
use Rattle.job_protocol.specs.declared.status.Status.TheVariants as statuses
use Rattle.job_protocol.specs.Outside.{TakesOrFails}
use Rattle.job_protocol.specs.Protocol.{Answer, Protocol, ends, refusal, by_result, document_protocol}
use Rattle.job_protocol.specs.Libraries.{library_protocol}
use Rattle.job_protocol.specs.Views.{document_read, texts_of}
use Rattle.json_text.specs.Layout.{document}
use Rattle.findings_json.specs.FindingsJson.{findings_json}
use Rattle.job_protocol.specs.declared.formats.ReportFormat.{ReportFormat}
use Rattle.job_protocol.specs.declared.formats.ReportFormat.TheVariants as formats
use Rattle.document_jobs.specs.declared.checks.Checking.{Checking}
use Rattle.document_jobs.specs.Queries.{placed, syntax_text, type_text}
use Rattle.document_jobs.specs.declared.checks.Named as code
use Rattle.document_jobs.specs.declared.checks.Chosen as chosen_code

-- ---- why a rule file is refused

-- the name of a kind of fault
abbrev pub rule_kind_text : RuleKind → List ℕ
rule_kind_text k.NotSchematron = codes "NotSchematron"
rule_kind_text k.BadBinding = codes "BadBinding"
rule_kind_text k.BadElement = codes "BadElement"
rule_kind_text k.MissingAttribute = codes "MissingAttribute"
rule_kind_text k.DuplicateId = codes "DuplicateId"
rule_kind_text k.NoSuchPattern = codes "NoSuchPattern"
rule_kind_text k.NoSuchRule = codes "NoSuchRule"
rule_kind_text k.Cycle = codes "Cycle"
rule_kind_text (k.Expression fault) = codes "Expression"
rule_kind_text k.TooMany = codes "TooMany"
rule_kind_text k.Memory = codes "Memory"

abbrev pub rule_attribute_text : Option Attribute → List ℕ
rule_attribute_text None = 0x2D ∷ []
rule_attribute_text (Some name) = attribute_word name

-- why an expression is refused, with the number of the character or the token where there is one
abbrev pub rule_expression_text : ExpressionFault → List ℕ
rule_expression_text (x.Syntax fault) = syntax_text fault
rule_expression_text (x.Type kind token) = placed (type_text kind) token

-- what is told behind the attribute
abbrev pub reason_text : RuleKind → List ℕ
reason_text (k.Expression fault) = codes ": " ++ rule_expression_text fault
reason_text _ = []

-- a fault with its file and the place there, and its attribute, or `-`
abbrev pub fault_line : List ℕ → ℕ → RuleFault → List ℕ
fault_line file place fault =
    codes "einv: " ++ (file ++ (codes ": " ++ (rule_kind_text fault.kind ++ (codes " at " ++ (decimal place
    ++ (0x20 ∷ (rule_attribute_text fault.attribute ++ (reason_text fault.kind ++ 0xA ∷ []))))))))

-- the name of the file of that number among those of a rule file of that name: some file has each place of a node
abbrev pub file_at : List ℕ → Held → ℕ → List ℕ
file_at name held number = unwrap_or (option_map name_of (slice_get held.files number)) name

abbrev pub line_at : List ℕ → Held → RuleFault → Option Home → List ℕ
line_at name held fault None = fault_line name fault.place.byte fault
line_at name held fault (Some home) = fault_line (file_at name held home.file) home.place fault

-- a fault by the file that has its place, and the place in that file
abbrev pub home_line : List ℕ → Held → RuleFault → List ℕ
home_line name held fault = line_at name held fault (home_from 0 held.files fault.place.byte)

-- the same of a fault that tells a node of the document, whose place it has
abbrev pub rule_line : List ℕ → Held → Fault → List ℕ
rule_line name held fault = home_line name held (told held.document fault)

abbrev pub no_phase_line : List ℕ → List ℕ → List ℕ
no_phase_line file phase = codes "einv: " ++ (file ++ (codes ": NoPhase " ++ (phase ++ 0xA ∷ [])))

-- ---- rule files

-- what follows by the rules of a file with its parts, or its first fault
abbrev pub by_rules : List ℕ → Held → (Rules → Protocol) → Result Rules Fault → Protocol
by_rules name held next found = by_result (λ fault. ends (refusal statuses.RulesRefused (rule_line name held fault))) next found

-- what the rule file of that name says with the parts that it takes of other files, and what follows by it
abbrev pub said_protocol : List ℕ → (Rules → Protocol) → Protocol
said_protocol name next = library_protocol name (λ held. by_rules name held next (rules_of (tree_nodes held.document)))

-- a rule file with its name
pub record Named : Type 0 where
  pub name : List ℕ
  pub rules : Rules

abbrev pub with_name : List ℕ → Rules → Named
with_name name rules = record { name = name; rules = rules }

-- what the rule files of these names say, one after another, and what follows by all of them
abbrev pub all_said : List (List ℕ) → (List Named → Protocol) → Protocol
all_said [] next = next []
all_said (name ∷ names) next = said_protocol name (λ rules. all_said names (λ others. next (with_name name rules ∷ others)))

-- rules with what is active of them
pub record Chosen : Type 0 where
  pub rules : Rules
  pub active : Active

abbrev pub with_active : Rules → Active → Chosen
with_active rules active = record { rules = rules; active = active }

abbrev pub with_more : Chosen → Result (List Chosen) (List ℕ) → Result (List Chosen) (List ℕ)
with_more one (Ok others) = Ok (one ∷ others)
with_more one (Err name) = Err name

-- what is active in each file by the name of a phase, or the name of the first file that has no such phase
abbrev pub chosen : List ℕ → List Named → Result (List Chosen) (List ℕ)
chosen phase [] = Ok []
chosen phase (file ∷ files) = elim (active_of file.rules (chars phase)) [
  | None ↦ Err file.name
  | (Some active) ↦ with_more (with_active file.rules active) (chosen phase files)
]

-- what follows by what is active, or the refusal of a file without the phase
abbrev pub by_phase : List ℕ → (List Chosen → Protocol) → Result (List Chosen) (List ℕ) → Protocol
by_phase phase next found = by_result (λ name. ends (refusal statuses.RulesRefused (no_phase_line name phase))) next found

-- the phase that is asked for where none is named
abbrev pub phase_asked : Option (List ℕ) → List ℕ
phase_asked None = the_default
phase_asked (Some phase) = phase

-- what is active of the rule files, of which all are read before one is refused for its phases, and what follows by it
abbrev pub chosen_protocol : List ℕ → List (List ℕ) → (List Chosen → Protocol) → Protocol
chosen_protocol phase names next = all_said names (λ files. by_phase phase next (chosen phase files))

-- ---- the report

-- all that is found, file by file
unfoldable pub all_found : List Node → List Chosen → List (List Line)
all_found nodes files = map (λ (file : Chosen). findings file.rules file.active nodes) files

-- a fatal assertion failed, or one is in error
abbrev pub finding_counts : FindingKind → Level → Bool
finding_counts outcome level = is_failed_by outcome level || is_error_by outcome

-- the line tells one that counts against the document
abbrev pub counts : Line → Bool
counts = is_found (λ (f : Finding). finding_counts f.outcome f.level)

unfoldable pub finding_status : List (List Line) → Status
finding_status found = if list_any counts (all_lines found) then statuses.Findings else statuses.Done

-- the report in a format, by the names of the rule files and of the document's
abbrev pub report_text : ReportFormat → List (List ℕ) → List ℕ → List (List Line) → List ℕ
report_text formats.Plain names file found = plain_report found
report_text formats.Svrl names file found = encode_utf8_all (svrl_report found)
report_text formats.Json names file found = encode_utf8_all (document (findings_json (chars file) (map chars names) found))

-- what is answered by the text of what is found
abbrev pub reported : (List (List Line) → List ℕ) → List (List Line) → Answer
reported text found = record { status = finding_status found; out = text found; err = [] }

-- the rule files before the document, and one report over all of them
abbrev pub check_protocol : ReportFormat → Option (List ℕ) → List (List ℕ) → List ℕ → Protocol
check_protocol format phase names file =
    chosen_protocol (phase_asked phase) names (λ files. document_protocol file (λ found. ends (reported (report_text format names file)
    (all_found (tree_nodes (document_read found)) files))))

-- ---- what the code has

-- the text of a report as it is asked for
abbrev pub report_asked : Checking → List (List Line) → List ℕ
report_asked asked found = report_text asked.format (texts_of asked.rules.now) asked.file.now found

-- what is judged once it is known what is active: the document
abbrev pub judged_next : (List (List Line) → List ℕ) → List Chosen → profile.Document → Protocol
judged_next text files found = ends (reported text (all_found (tree_nodes (document_read found)) files))

abbrev pub chosen_next : (List (List Line) → List ℕ) → List ℕ → List Chosen → Protocol
chosen_next text file files = document_protocol file (judged_next text files)

-- what follows once all rule files are read
abbrev pub said_next : (List (List Line) → List ℕ) → List ℕ → List ℕ → List Named → Protocol
said_next text phase file files = by_phase phase (chosen_next text file) (chosen phase files)

-- a rule file as the definitions have it
abbrev pub named_of : code.Named → Named
named_of file = with_name file.name.now (seen_rules file.rules)

abbrev pub chosen_of : chosen_code.Chosen → Chosen
chosen_of file = with_active (seen_rules file.rules.now) (seen_active file.active)

-- A document can be judged by what is active, which came from the rules.
unfoldable pub CanJudge : Chosen → Type 0
CanJudge file = CameFrom file.rules file.active

abbrev pub AreChosen : List Chosen → Type 0
AreChosen files = All CanJudge files

abbrev pub IsRefusalBy : Bool → List ℕ → Held → RuleFault → Status → SinkView → SinkView → Type 0
IsRefusalBy true name held fault status before after = (status ≡ statuses.Memory) × (after ≡ before)
IsRefusalBy false name held fault status before after = (status ≡ statuses.RulesRefused) × TakesOrFails (home_line name held fault) before after

-- The status of a fault of a rule file with its parts, whose line was told; want of memory has none.
abbrev pub IsRuleRefusal : List ℕ → Held → RuleFault → Status → SinkView → SinkView → Type 0
IsRuleRefusal name held fault status before after = IsRefusalBy (is_memory fault.kind) name held fault status before after

-- The same of its first fault.
abbrev pub IsRulesRefusal : List ℕ → Held → Status → SinkView → SinkView → Type 0
IsRulesRefusal name held status before after = (fault : RuleFault) × Tells held.document fault (rules_of (tree_nodes held.document)) ×
    IsRuleRefusal name held fault status before after

-- A file has no such phase, and its line was told; or memory ran out.
abbrev pub IsPhaseRefusal : List ℕ → Result (List Chosen) (List ℕ) → Status → SinkView → SinkView → Type 0
IsPhaseRefusal phase found status before after =
    ((status ≡ statuses.Memory) × (after ≡ before))
    ⊎ ((name : List ℕ) × (found ≡ Err name) × (status ≡ statuses.RulesRefused) × TakesOrFails (no_phase_line name phase) before after)

-- The report was written, or a front of it where a write failed; where memory ran out nothing was.
abbrev pub Reports : Status → (List (List Line) → List ℕ) → List (List Line) → SinkView → SinkView → Type 0
Reports status text found before after =
    ((status ≡ finding_status found) × WritesAll (text found) before after)
    ⊎ (((status ≡ statuses.WriteFault) × WritesFront (text found) before after) ⊎ ((status ≡ statuses.Memory) × (after ≡ before)))
