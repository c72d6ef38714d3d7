-- The plain report: a line for each finding, and how many there are of each sort. Texts are bytes of UTF-8.
use Rattle.std.specs.Prelude.{ℕ, min, Bool, true, false, List, [], ◌∷◌, ◌++◌, Option, Some, None, codes, decimal, encode_utf8_all, flat_map}
use Rattle.std.specs.List.{count_by}
use Rattle.inv_base.specs.Counts.{last_count}
use Rattle.inv_base.specs.Text.{quoted}
use Rattle.schematron_findings.specs.declared.level.Level.{Level}
use Rattle.schematron_findings.specs.declared.level.Level.TheVariants as l
use Rattle.schematron_findings.specs.declared.finding.FindingKind.{FindingKind}
use Rattle.schematron_findings.specs.declared.finding.FindingKind.TheVariants as k
use Rattle.schematron_findings.specs.declared.finding.Finding.{Finding}
use Rattle.schematron_findings.specs.declared.finding.Line.{Line}
use Rattle.schematron_findings.specs.declared.finding.Line.TheVariants as line
use Rattle.svrl_report.specs.declared.tally.Tally.{Tally}
use Rattle.xpath_items.specs.Codes.{code_text}

-- how the line of a failed assertion begins
abbrev pub failed_word : Level → List ℕ
failed_word l.Fatal = codes "failed"
failed_word l.Warning = codes "warning"
failed_word l.Information = codes "information"

-- how the line of a finding begins
abbrev pub outcome_text : FindingKind → Level → List ℕ
outcome_text k.Failed level = failed_word level
outcome_text k.Reported level = codes "reported"
outcome_text (k.Error error) level = codes "error " ++ code_text error

abbrev pub id_text : Option (List ℕ) → List ℕ
id_text None = 0x2D ∷ []
id_text (Some id) = encode_utf8_all id

-- a finding: what it came to, the assertion's id, where the node stands, and the quoted message
abbrev pub finding_line : Finding → List ℕ
finding_line finding =
    outcome_text finding.outcome finding.level
    ++ (0x20 ∷ (id_text finding.id ++ (0x20 ∷ (encode_utf8_all finding.location ++ (0x20 ∷ (encode_utf8_all (quoted finding.message) ++ 0xA ∷ []))))))

-- patterns and judged nodes have no line
abbrev pub line_text : Line → List ℕ
line_text (line.Pattern id) = []
line_text (line.Fired node rule context) = []
line_text (line.Found finding) = finding_line finding

abbrev pub lines_text : List Line → List ℕ
lines_text lines = flat_map line_text lines

-- what is counted
abbrev pub is_failed_by : FindingKind → Level → Bool
is_failed_by k.Failed l.Fatal = true
is_failed_by _ _ = false

abbrev pub is_minor_by : FindingKind → Level → Bool
is_minor_by k.Failed l.Warning = true
is_minor_by k.Failed l.Information = true
is_minor_by _ _ = false

abbrev pub is_reported_by : FindingKind → Bool
is_reported_by k.Reported = true
is_reported_by _ = false

abbrev pub is_error_by : FindingKind → Bool
is_error_by (k.Error error) = true
is_error_by _ = false

-- the line tells an assertion of which the test holds
abbrev pub is_found : (Finding → Bool) → Line → Bool
is_found test (line.Found finding) = test finding
is_found test _ = false

-- a fatal assertion failed
abbrev pub is_failed : Line → Bool
is_failed = is_found (λ (f : Finding). is_failed_by f.outcome f.level)

abbrev pub is_reported : Line → Bool
is_reported = is_found (λ (f : Finding). is_reported_by f.outcome)

abbrev pub is_error : Line → Bool
is_error = is_found (λ (f : Finding). is_error_by f.outcome)

-- an assertion failed that isn't fatal
abbrev pub is_minor : Line → Bool
is_minor = is_found (λ (f : Finding). is_minor_by f.outcome f.level)

-- how many lines pass, a number that stops at the greatest of 64 bits
abbrev pub count_of : (Line → Bool) → List Line → ℕ
count_of test lines = min (count_by test lines) last_count

-- how many lines there are of each sort
abbrev pub tally_of : List Line → Tally
tally_of lines = record {
  failed = count_of is_failed lines;
  reported = count_of is_reported lines;
  errors = count_of is_error lines;
  minor =
      count_of is_minor lines;
}

abbrev pub number_text : ℕ → List ℕ
number_text n = decimal n

abbrev pub counts_line : Tally → List ℕ
counts_line tally =
    codes "failed " ++ (number_text tally.failed
    ++ (codes ", reported " ++ (number_text tally.reported
    ++ (codes ", errors " ++ (number_text tally.errors
    ++ (codes ", minor " ++ (number_text tally.minor ++ 0xA ∷ [])))))))

-- all findings of several rule files
abbrev pub all_lines : List (List Line) → List Line
all_lines findings = flat_map (λ lines. lines) findings

-- the report on the findings of several rule files: their lines in the order of the files, and one line of counts
unfoldable pub plain_report : List (List Line) → List ℕ
plain_report findings = lines_text (all_lines findings) ++ counts_line (tally_of (all_lines findings))
