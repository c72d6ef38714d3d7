-- A small report: `<r>`, LF, a space, `<a> "b" </a>`, LF, `</r>`. Of the white space between elements there are no nodes.
use Rattle.std.specs.Prelude.{ℕ, ◌≡◌, List, [], ◌∷◌, length, codes, false, true, Some, None, refl}
use Rattle.std.specs.Fmt.{digits}
use Rattle.inv_base.specs.Characters.{is_white_space}
use Rattle.inv_base.specs.declared.tree.Kind.TheVariants as tree
use Rattle.inv_terms.specs.declared.violations.Name.TheVariants as names
use Rattle.node_arena.specs.Document.{Document, document_node}
use Rattle.bind_meaning.specs.declared.fault.BindFault.{BindFault}
use Rattle.bind_meaning.specs.declared.fault.BindKind.TheVariants as kinds
use Rattle.schematron_findings.specs.declared.level.Level.TheVariants as levels
use Rattle.schematron_findings.specs.declared.finding.FindingKind.TheVariants as outcomes
use Rattle.schematron_findings.specs.declared.finding.Finding.{Finding}
use Rattle.schematron_findings.specs.declared.finding.Line.{Line}
use Rattle.schematron_findings.specs.declared.finding.Line.TheVariants as line
use Rattle.svrl_report.specs.Plain.{tally_of}
use Rattle.validation_report.specs.Told.{Told, told_in}
use Rattle.validation_report.specs.Validating.{Validated, place_of, fault_text, passed_at, unread_at, misplaced_at, told_text, count_text, counts_against}
use Rattle.validation_report.specs.Validating.{shown}

abbrev finding : List ℕ → Finding
finding message = record {
  outcome = outcomes.Failed;
  test = [];
  location = codes "/r";
  message = message;
  id = None;
  flag = None;
  role = None;
  level = levels.Warning;
}

abbrev found : List ℕ → Line
found message = line.Found (finding message)

abbrev judged : ℕ → Line
judged node = line.Fired node 0 []

abbrev told : ℕ → List ℕ → Told
told node message = record { node = node; finding = finding message }

abbrev fault : BindFault
fault = record { kind = kinds.Disagree; name = names.Nothing; node = 2 }

abbrev small : Document
small = record {
  nodes = document_node
      ∷ record { number = 1; kind = tree.Element; name = Some 0; above = 0 ∷ []; text = []; place = 0 }
      ∷ record { number = 2; kind = tree.Element; name = Some 1; above = 1 ∷ 0 ∷ []; text = []; place = 5 }
      ∷ record { number = 3; kind = tree.Text; name = None; above = 2 ∷ 1 ∷ 0 ∷ []; text = codes " \"b\" "; place = 8 }
      ∷ [];
  names = record { uri = []; local = codes "r" } ∷ record { uri = []; local = codes "a" } ∷ [];
}

-- two patterns, each of which judges nodes in document order
abbrev lines : List Line
lines = line.Pattern None ∷ judged 1 ∷ found (codes "x") ∷ judged 2 ∷ found (codes "y") ∷ found (codes "z")
    ∷ line.Pattern None ∷ judged 0 ∷ judged 1 ∷ found (codes "w") ∷ []

abbrev v : Validated
v = record {
  content = codes "<r>\n <a> \"b\" </a>\n</r>";
  document = small;
  faults = fault ∷ [];
  passed = 2 ∷ [];
  unread = 2 ∷ [];
  misplaced = 2 ∷ [];
  lines = lines;
}

in_document_order : told_in lines ≡ told 1 (codes "x") ∷ told 1 (codes "w") ∷ told 2 (codes "y") ∷ told 2 (codes "z") ∷ []
in_document_order = refl

where_it_stands : place_of v 2 ≡ record { line = 2; column = 2 }
where_it_stands = refl

its_fault : fault_text v fault ≡ codes "fault Disagree - /*:r[namespace-uri()=''][1]/*:a[namespace-uri()=''][1] at 2:2 \"\"\n"
unfolding digits lib.Utf8.encode
its_fault = refl

passed_over : passed_at v 2 ≡ codes "passed over /*:r[namespace-uri()=''][1]/*:a[namespace-uri()=''][1] at 2:2\n"
unfolding digits lib.Utf8.encode
passed_over = refl

unread_here : unread_at v 2 ≡ codes "unread /*:r[namespace-uri()=''][1]/*:a[namespace-uri()=''][1] at 2:2 \"\\\"b\\\"\"\n"
unfolding digits lib.Utf8.encode is_white_space
unread_here = refl

misplaced_here : misplaced_at v 2 ≡ codes "misplaced /*:r[namespace-uri()=''][1]/*:a[namespace-uri()=''][1] at 2:2\n"
unfolding digits lib.Utf8.encode
misplaced_here = refl

-- sixty characters are shown, and of one more the first sixty
all_shown : shown (codes "123456789-123456789-123456789-123456789-123456789-123456789-") ≡ codes "123456789-123456789-123456789-123456789-123456789-123456789-"
all_shown = refl

front_shown : shown (codes "123456789-123456789-123456789-123456789-123456789-123456789-1")
    ≡ codes "123456789-123456789-123456789-123456789-123456789-123456789-.."
front_shown = refl

its_finding : told_text v (told 1 (codes "x")) ≡ codes "warning - /r at 1:1 \"x\"\n"
unfolding digits lib.Utf8.encode
its_finding = refl

how_many : count_text (length v.faults) (length v.passed) (length v.unread) (length v.misplaced) (tally_of lines)
    ≡ codes "faults 1, passed over 1, unread 1, misplaced 1, failed 0, reported 0, errors 0, minor 4\n"
unfolding digits
how_many = refl

-- a warning alone counts against nothing, a fault does, and so does a misplaced element
warned : counts_against 0 0 (tally_of lines) ≡ false
warned = refl

refused : counts_against 1 0 (tally_of lines) ≡ true
refused = refl

out_of_order : counts_against 0 1 (tally_of lines) ≡ true
out_of_order = refl
