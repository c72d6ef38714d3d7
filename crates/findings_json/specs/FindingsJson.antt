-- What rule files find in a document (ISO/IEC 19757-3) as JSON data: one object. What isn't there isn't written.
use Rattle.std.specs.Prelude.{ℕ, List, [], ◌∷◌, codes, chars, drop, map, slice_get, Option, Some, None}
use Rattle.std.specs.Borrow.{Bor}
use Rattle.schematron_findings.specs.declared.level.Level.{Level}
use Rattle.schematron_findings.specs.declared.finding.FindingKind.{FindingKind}
use Rattle.schematron_findings.specs.declared.finding.FindingKind.TheVariants as k
use Rattle.schematron_findings.specs.declared.finding.Finding.{Finding}
use Rattle.schematron_findings.specs.declared.finding.Line.{Line}
use Rattle.schematron_findings.specs.declared.finding.Line.TheVariants as line
use Rattle.xpath_items.specs.Codes.{code_text}
use Rattle.svrl_report.specs.declared.tally.Tally.{Tally}
use Rattle.svrl_report.specs.Plain.{failed_word, tally_of, all_lines}
use Rattle.json_text.specs.Json.{Json, nothing}
use Rattle.json_text.specs.Making.{followed_by, joined, text_member, number_member, array_member, object_member, object, each}

-- ---- a finding

-- what it came to, in one word
abbrev pub kind_text : FindingKind → Level → List ℕ
kind_text k.Failed level = failed_word level
kind_text k.Reported level = codes "reported"
kind_text (k.Error error) level = codes "error"

-- the code of an error
abbrev pub code_member : FindingKind → Json
code_member k.Failed = nothing
code_member k.Reported = nothing
code_member (k.Error error) = text_member (codes "code") (code_text error)

-- a text where there is one
abbrev pub member_if : List ℕ → Option (List ℕ) → Json
member_if name None = nothing
member_if name (Some text) = text_member name text

-- the members in front of the place of its node, and the one behind it
abbrev pub finding_head : Finding → Json
finding_head f = joined
    (text_member (codes "kind") (kind_text f.outcome f.level)
    ∷ code_member f.outcome
    ∷ member_if (codes "id") f.id
    ∷ text_member (codes "location") f.location
    ∷ [])

abbrev pub message_member : Finding → Json
message_member f = text_member (codes "message") f.message

-- with the rule file as it was named
abbrev pub finding_object : Option (List ℕ) → Finding → Json
finding_object rules f = object (member_if (codes "rules") rules ∷ finding_head f ∷ message_member f ∷ [])

-- ---- all findings

-- patterns and judged nodes are no findings
abbrev pub line_object : Option (List ℕ) → Line → Json
line_object rules (line.Pattern id) = nothing
line_object rules (line.Fired node rule context) = nothing
line_object rules (line.Found finding) = finding_object rules finding

abbrev pub file_objects : Option (List ℕ) → List Line → Json
file_objects rules lines = each (line_object rules) lines

-- The findings of several rule files, in the order of the files, the first of which has the first of the names. Those of a file
-- without a name say none.
abbrev pub all_objects : List (List ℕ) → List (List Line) → Json
all_objects names [] = nothing
all_objects names (lines ∷ files) = followed_by (file_objects (slice_get names 0) lines) (all_objects (drop 1 names) files)

-- how many there are of each sort
abbrev pub tally_members : Tally → Json
tally_members tally = joined
    (number_member (codes "failed") tally.failed
    ∷ number_member (codes "reported") tally.reported
    ∷ number_member (codes "errors") tally.errors
    ∷ number_member (codes "minor") tally.minor
    ∷ [])

abbrev pub counts_member : Tally → Json
counts_member tally = object_member (codes "counts") (tally_members tally ∷ [])

-- The name of the document's file, what the rule files of these names find, and how many findings there are of each sort.
unfoldable pub findings_json : List ℕ → List (List ℕ) → List (List Line) → Json
findings_json file names findings = object
    (text_member (codes "file") file
    ∷ array_member (codes "findings") (all_objects names findings)
    ∷ counts_member (tally_of (all_lines findings))
    ∷ [])

-- the characters of names that are lent
abbrev pub names_of : List (Bor (List ℕ)) → List (List ℕ)
names_of names = map (λ name. chars name.now) names
