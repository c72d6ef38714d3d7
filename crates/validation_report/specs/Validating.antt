-- The report of a validation: as lines for a person, and in the Schematron Validation Report Language. Texts are bytes of
-- UTF-8.
use Rattle.std.specs.Prelude.{ℕ, nat_lt, Bool, true, false, ◌||◌, List, [], ◌∷◌, ◌++◌, length, take, map, flat_map, codes, decimal, encode_utf8_all}
use Rattle.inv_base.specs.Text.{quoted}
use Rattle.inv_terms.specs.Values.{trimmed}
use Rattle.line_places.specs.declared.place.LinePlace.{LinePlace}
use Rattle.line_places.specs.Places.{place_in}
use Rattle.node_arena.specs.Document.{Document, node_at}
use Rattle.node_arena.specs.Moves.{tree_nodes, tree_node}
use Rattle.node_locations.specs.Locations.{location}
use Rattle.bind_meaning.specs.declared.fault.BindFault.{BindFault}
use Rattle.bind_meaning.specs.Losses.{own_text}
use Rattle.schematron_findings.specs.declared.finding.Finding.{Finding}
use Rattle.schematron_findings.specs.declared.finding.Line.{Line}
use Rattle.svrl_report.specs.declared.tally.Tally.{Tally}
use Rattle.svrl_report.specs.Plain.{outcome_text, id_text, tally_of, counts_line}
use Rattle.svrl_report.specs.Svrl.{svrl_report}
use Rattle.bind_meaning.specs.KindTexts.{kind_text}
use Rattle.validation_report.specs.declared.places.Located.{Located}
use Rattle.validation_report.specs.declared.places.Unread.{Unread}
use Rattle.validation_report.specs.Told.{fault_finding, reading_lines, Told, told_in}

-- what a validation comes to: the file's bytes and the document that they are; the faults of reading, the elements that were
-- passed over, the nodes that are unread and the elements that are misplaced, each of them in document order; and what rules
-- find
pub record Validated : Type 0 where
  pub content : List ℕ
  pub document : Document
  pub faults : List BindFault
  pub passed : List ℕ
  pub unread : List ℕ
  pub misplaced : List ℕ
  pub lines : List Line

-- ---- the lines

-- where the node of that number stands in the file
abbrev pub place_of : Validated → ℕ → LinePlace
place_of v node = place_in v.content (node_at v.document.nodes node).place

-- ` at 8:3`
abbrev pub at_text : LinePlace → List ℕ
at_text place = codes " at " ++ (decimal place.line ++ (0x3A ∷ decimal place.column))

-- a finding behind a word: the id or `-`, where its node stands, and the quoted message
abbrev pub finding_text : List ℕ → Finding → LinePlace → List ℕ
finding_text word finding place =
    word ++ (0x20 ∷ (id_text finding.id ++ (0x20 ∷ (encode_utf8_all finding.location
    ++ (at_text place ++ (0x20 ∷ (encode_utf8_all (quoted finding.message) ++ 0xA ∷ [])))))))

-- a fault of reading, by its kind
abbrev pub fault_text : Validated → BindFault → List ℕ
fault_text v fault = finding_text (codes "fault " ++ kind_text fault.kind) (fault_finding v.document fault) (place_of v fault.node)

-- an element behind a word: where it stands
abbrev pub element_text : List ℕ → List ℕ → LinePlace → List ℕ
element_text word text place = word ++ (0x20 ∷ (encode_utf8_all text ++ (at_text place ++ 0xA ∷ [])))

-- an element that was passed over
abbrev pub passed_at : Validated → ℕ → List ℕ
passed_at v node = element_text (codes "passed over") (location (tree_nodes v.document) node) (place_of v node)

-- how many characters of a text are shown
abbrev pub shown_characters : ℕ
shown_characters = 60

-- a text as it is shown: where it has more characters than that, the first ones and two dots
abbrev pub shown : List ℕ → List ℕ
shown text = elim (nat_lt shown_characters (length text)) [ true ↦ take shown_characters text ++ codes ".." | false ↦ text ]

-- what is shown of a node's own text, the white space at its ends left out
abbrev pub value_at : Document → ℕ → List ℕ
value_at document node = shown (trimmed (own_text (tree_nodes document) (tree_node (tree_nodes document) node)))

-- a node that nothing reads: where it stands, and its quoted value
abbrev pub unread_text : List ℕ → LinePlace → List ℕ → List ℕ
unread_text text place value =
    codes "unread " ++ (encode_utf8_all text ++ (at_text place ++ (0x20 ∷ (encode_utf8_all (quoted value) ++ 0xA ∷ []))))

abbrev pub unread_at : Validated → ℕ → List ℕ
unread_at v node = unread_text (location (tree_nodes v.document) node) (place_of v node) (value_at v.document node)

-- an element that a schema wouldn't have where it stands
abbrev pub misplaced_at : Validated → ℕ → List ℕ
misplaced_at v node = element_text (codes "misplaced") (location (tree_nodes v.document) node) (place_of v node)

-- a finding of a rule, by what it came to
abbrev pub told_text : Validated → Told → List ℕ
told_text v told = finding_text (outcome_text told.finding.outcome told.finding.level) told.finding (place_of v told.node)

-- how many faults, elements that were passed over, unread nodes and misplaced elements there are, and how many findings of
-- each sort
abbrev pub count_text : ℕ → ℕ → ℕ → ℕ → Tally → List ℕ
count_text faults passed unread misplaced tally =
    codes "faults " ++ (decimal faults ++ (codes ", passed over " ++ (decimal passed ++ (codes ", unread " ++ (decimal unread
    ++ (codes ", misplaced " ++ (decimal misplaced ++ (codes ", " ++ counts_line tally))))))))

-- ---- the reports

-- faults, elements that were passed over, unread nodes, misplaced elements, and findings, each in document order, and one
-- line of counts
unfoldable pub plain_validation : Validated → List ℕ
plain_validation v =
    flat_map (fault_text v) v.faults
    ++ (flat_map (passed_at v) v.passed
    ++ (flat_map (unread_at v) v.unread
    ++ (flat_map (misplaced_at v) v.misplaced
    ++ (flat_map (told_text v) (told_in v.lines)
    ++ count_text (length v.faults) (length v.passed) (length v.unread) (length v.misplaced) (tally_of v.lines)))))

-- the reading as one rule file, and the findings of rules behind it
unfoldable pub svrl_validation : Validated → List ℕ
svrl_validation v = encode_utf8_all (svrl_report (reading_lines v.document v.faults v.misplaced ∷ v.lines ∷ []))

-- ---- the answer

-- There is a fault, or an element that is misplaced, or a fatal assertion failed, or one is in error.
abbrev pub counts_against : ℕ → ℕ → Tally → Bool
counts_against faults misplaced tally = nat_lt 0 faults || (nat_lt 0 misplaced || (nat_lt 0 tally.failed || nat_lt 0 tally.errors))

unfoldable pub has_findings : Validated → Bool
has_findings v = counts_against (length v.faults) (length v.misplaced) (tally_of v.lines)

-- ---- what is told, whatever form it takes

-- a finding, and where its node stands in the file
pub record Placed : Type 0 where
  pub finding : Finding
  pub place : LinePlace

-- how many there are of each sort
pub record Counts : Type 0 where
  pub faults : ℕ
  pub passed : ℕ
  pub unread : ℕ
  pub misplaced : ℕ
  pub tally : Tally

pub record Contents : Type 0 where
  pub faults : List Placed
  pub passed : List Located
  pub unread : List Unread
  pub misplaced : List Located
  pub findings : List Placed
  pub counts : Counts

abbrev pub placed : Validated → ℕ → Finding → Placed
placed v node finding = record { finding = finding; place = place_of v node }

abbrev pub fault_placed : Validated → BindFault → Placed
fault_placed v fault = placed v fault.node (fault_finding v.document fault)

abbrev pub told_placed : Validated → Told → Placed
told_placed v told = placed v told.node told.finding

-- where an element stands in its document and its file
abbrev pub located : Validated → ℕ → Located
located v node = record { location = location (tree_nodes v.document) node; place = place_of v node }

abbrev pub unread_located : Validated → ℕ → Unread
unread_located v node = record { element = located v node; value = value_at v.document node }

abbrev pub counts_of : Validated → Counts
counts_of v = record {
  faults = length v.faults;
  passed = length v.passed;
  unread = length v.unread;
  misplaced = length v.misplaced;
  tally = tally_of v.lines;
}

-- each in document order
unfoldable pub contents_of : Validated → Contents
contents_of v = record {
  faults = map (fault_placed v) v.faults;
  passed = map (located v) v.passed;
  unread = map (unread_located v) v.unread;
  misplaced = map (located v) v.misplaced;
  findings = map (told_placed v) (told_in v.lines);
  counts = counts_of v;
}

-- what is told of a validation
pub record Report : Type 0 where
  pub plain : List ℕ
  pub svrl : List ℕ
  pub findings : Bool
  pub contents : Contents

abbrev pub report_of : Validated → Report
report_of v = record { plain = plain_validation v; svrl = svrl_validation v; findings = has_findings v; contents = contents_of v }

-- the report in SVRL, or the plain one
abbrev pub validation_text : Bool → Validated → List ℕ
validation_text true v = svrl_validation v
validation_text false v = plain_validation v
