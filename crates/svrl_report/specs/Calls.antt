-- The calls of a pen that write the report, with texts in UTF-8. proofs/ has the law that they are the calls of its
-- tree.
use Rattle.std.specs.Prelude.{ℕ, List, [], ◌∷◌, ◌++◌, Option, Some, None, codes, encode_utf8_all, flat_map, Result, OnOk, ◌≡◌}
use Rattle.xml_write.specs.declared.pen.PenState.{PenState}
use Rattle.xml_write.specs.declared.pen.PenState.TheVariants.{PastTag}
use Rattle.xml_write.specs.Calls.{Call, call_start, call_attribute, call_declare, call_text, call_end}
use Rattle.schematron_findings.specs.declared.finding.FindingKind.{FindingKind}
use Rattle.schematron_findings.specs.declared.finding.FindingKind.TheVariants as k
use Rattle.schematron_findings.specs.declared.finding.Finding.{Finding}
use Rattle.schematron_findings.specs.declared.finding.Line.{Line}
use Rattle.schematron_findings.specs.declared.finding.Line.TheVariants as line
use Rattle.svrl_report.specs.Svrl.{svrl_uri, flag_of, role_of}

abbrev pub given_calls : List ℕ → Option (List ℕ) → List Call
given_calls name None = []
given_calls name (Some value) = call_attribute name (encode_utf8_all value) ∷ []

-- an element that has attributes alone
abbrev pub pattern_calls : Option (List ℕ) → List Call
pattern_calls id = call_start (codes "svrl:active-pattern") ∷ (given_calls (codes "id") id ++ call_end (codes "svrl:active-pattern") ∷ [])

abbrev pub fired_calls : List ℕ → List Call
fired_calls context =
    call_start (codes "svrl:fired-rule") ∷ call_attribute (codes "context") (encode_utf8_all context) ∷ call_end (codes "svrl:fired-rule") ∷ []

-- the name of a finding's element
abbrev pub element_of : FindingKind → List ℕ
element_of k.Failed = codes "svrl:failed-assert"
element_of k.Reported = codes "svrl:successful-report"
element_of (k.Error error) = codes "svrl:failed-assert"

-- what the assertion tests, and where the node stands
abbrev pub place_calls : Finding → List Call
place_calls f = call_attribute (codes "test") (encode_utf8_all f.test) ∷ call_attribute (codes "location") (encode_utf8_all f.location) ∷ []

abbrev pub flag_calls : FindingKind → Option (List ℕ) → List Call
flag_calls outcome flag = given_calls (codes "flag") (flag_of outcome flag)

abbrev pub role_calls : FindingKind → Option (List ℕ) → List Call
role_calls outcome role = given_calls (codes "role") (role_of outcome role)

-- what marks the assertion
abbrev pub mark_calls : Finding → List Call
mark_calls f = given_calls (codes "id") f.id ++ (flag_calls f.outcome f.flag ++ role_calls f.outcome f.role)

-- a text of these bytes, where it has one
abbrev pub byte_calls : List ℕ → List Call
byte_calls [] = []
byte_calls (b ∷ bytes) = call_text (b ∷ bytes) ∷ []

abbrev pub text_calls : List ℕ → List Call
text_calls text = byte_calls (encode_utf8_all text)

abbrev pub message_calls : List ℕ → List Call
message_calls message = call_start (codes "svrl:text") ∷ (text_calls message ++ call_end (codes "svrl:text") ∷ [])

abbrev pub start_calls : Finding → List Call
start_calls f = call_start (element_of f.outcome) ∷ (place_calls f ++ mark_calls f)

abbrev pub finding_calls : Finding → List Call
finding_calls f = start_calls f ++ (message_calls f.message ++ call_end (element_of f.outcome) ∷ [])

abbrev pub line_calls : Line → List Call
line_calls (line.Pattern id) = pattern_calls id
line_calls (line.Fired node rule context) = fired_calls context
line_calls (line.Found finding) = finding_calls finding

abbrev pub lines_calls : List Line → List Call
lines_calls lines = flat_map line_calls lines

abbrev pub files_calls : List (List Line) → List Call
files_calls files = flat_map lines_calls files

-- the root with the prefix of the names, and what stands in it
abbrev pub report_calls : List (List Line) → List Call
report_calls files =
    call_start (codes "svrl:schematron-output") ∷ call_declare (codes "svrl") svrl_uri ∷ (files_calls files ++ call_end (codes "svrl:schematron-output") ∷ [])

-- Where the calls were made, the last of them ended an element.
abbrev pub IsPastOk : {E : Type 0} → Result (Unit {0}) E → PenState → Type 0
IsPastOk result state = OnOk result (state ≡ PastTag)
