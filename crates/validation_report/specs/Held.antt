-- What the code keeps of a report until it is written.
use Rattle.std.specs.Prelude.{◌≡◌, ℕ, ◌<◌, suc, List, [], ◌∷◌, ◌++◌, length, get_or, map, flat_map, codes, encode_utf8_all, Option, Some, None, slice_get}
use Rattle.std.specs.List.{All}
use Rattle.line_places.specs.declared.place.LinePlace.{LinePlace}
use Rattle.line_places.specs.Places.{place_in}
use Rattle.node_arena.specs.Document.{Document, node_at}
use Rattle.node_arena.specs.Moves.{tree_nodes}
use Rattle.node_locations.specs.Locations.{location}
use Rattle.bind_meaning.specs.declared.fault.BindFault.{BindFault}
use Rattle.schematron_findings.specs.declared.finding.Finding.{Finding}
use Rattle.schematron_findings.specs.declared.finding.Line.{Line}
use Rattle.schematron_findings.specs.declared.finding.Line.TheVariants as line
use Rattle.svrl_report.specs.Plain.{outcome_text, tally_of}
use Rattle.svrl_report.specs.Svrl.{svrl_report}
use Rattle.validation_report.specs.declared.places.Spot.{Spot}
use Rattle.validation_report.specs.declared.places.Located.{Located}
use Rattle.validation_report.specs.declared.places.Unread.{Unread}
use Rattle.validation_report.specs.declared.places.Spots.{Spots}
use Rattle.validation_report.specs.declared.reading.ReadingFindings.{ReadingFindings}
use Rattle.validation_report.specs.Told.{in_order}
use Rattle.validation_report.specs.Validating.{finding_text, element_text, unread_text, value_at, count_text, counts_against, Validated, Placed, Counts, Contents, Report}

-- ---- what the reading finds

-- The nodes of all that the reading finds are the document's.
pub record AreWithin (document : Document) (reading : ReadingFindings) : Type 0 where
  pub faults : All (λ (fault : BindFault). fault.node < length document.nodes) reading.faults.now
  pub passed : All (λ (n : ℕ). n < length document.nodes) reading.passed.now
  pub unread : All (λ (n : ℕ). n < length document.nodes) reading.unread.now
  pub misplaced : All (λ (n : ℕ). n < length document.nodes) reading.misplaced.now

-- what a validation comes to, of these
abbrev pub validation_of : List ℕ → Document → ReadingFindings → List Line → Validated
validation_of content document reading lines = record {
  content = content;
  document = document;
  faults = reading.faults.now;
  passed = reading.passed.now;
  unread = reading.unread.now;
  misplaced = reading.misplaced.now;
  lines = lines;
}

-- ---- where findings stand

-- where a node of a document stands in its file
abbrev pub place_at : Document → List ℕ → ℕ → LinePlace
place_at document content node = place_in content (node_at document.nodes node).place

abbrev pub spot_at : Document → List ℕ → ℕ → ℕ → Spot
spot_at document content number node = record { node = node; line = number; place = place_at document content node }

-- the spots of faults whose lines begin with that number
abbrev pub fault_spots : Document → List ℕ → ℕ → List BindFault → List Spot
fault_spots document content number [] = []
fault_spots document content number (fault ∷ faults) =
    spot_at document content number fault.node ∷ fault_spots document content (suc number) faults

-- the node that is judged behind a line
abbrev pub node_behind : ℕ → Line → ℕ
node_behind node (line.Pattern id) = node
node_behind node (line.Fired judged rule context) = judged
node_behind node (line.Found finding) = node

-- the spot of a line that tells a finding
abbrev pub spots_at : Document → List ℕ → ℕ → ℕ → Line → List Spot
spots_at document content number node (line.Pattern id) = []
spots_at document content number node (line.Fired judged rule context) = []
spots_at document content number node (line.Found finding) = spot_at document content number node ∷ []

-- the spots of lines that begin with that number, behind a judged node
abbrev pub spots_from : Document → List ℕ → ℕ → ℕ → List Line → List Spot
spots_from document content number node [] = []
spots_from document content number node (line ∷ lines) =
    spots_at document content number (node_behind node line) line ++ spots_from document content (suc number) (node_behind node line) lines

abbrev pub spots_of : Document → List ℕ → List Line → List Spot
spots_of document content lines = spots_from document content 0 0 lines

-- in document order
abbrev pub ordered : List Spot → List Spot
ordered spots = in_order (λ (spot : Spot). spot.node) spots

-- where an element stands in its document and its file
abbrev pub located_at : Document → List ℕ → ℕ → Located
located_at document content node = record { location = location (tree_nodes document) node; place = place_at document content node }

abbrev pub unread_of : Document → List ℕ → ℕ → Unread
unread_of document content node = record { element = located_at document content node; value = value_at document node }

-- ---- what is printed of it

abbrev pub line_text : (Finding → List ℕ) → LinePlace → Line → List ℕ
line_text word place (line.Pattern id) = []
line_text word place (line.Fired node rule context) = []
line_text word place (line.Found finding) = finding_text (word finding) finding place

abbrev pub optional_text : (Finding → List ℕ) → LinePlace → Option Line → List ℕ
optional_text word place None = []
optional_text word place (Some line) = line_text word place line

-- the line of a finding of these
abbrev pub spot_text : (Finding → List ℕ) → List Line → Spot → List ℕ
spot_text word lines spot = optional_text word spot.place (slice_get lines spot.line)

-- the word of a fault of reading, and that of a finding of a rule
abbrev pub fault_word : Finding → List ℕ
fault_word finding = codes "fault " ++ encode_utf8_all finding.test

abbrev pub outcome_word : Finding → List ℕ
outcome_word finding = outcome_text finding.outcome finding.level

-- the line of an element behind a word
abbrev pub located_text : List ℕ → Located → List ℕ
located_text word located = element_text word located.location located.place

abbrev pub held_unread : Unread → List ℕ
held_unread unread = unread_text unread.element.location unread.element.place unread.value

abbrev pub held_counts : Spots → List Line → List ℕ
held_counts spots rules =
    count_text (length spots.faults.items) (length spots.passed.items) (length spots.unread.items) (length spots.misplaced.items) (tally_of rules)

abbrev pub held_plain : List Line → List Line → Spots → List ℕ
held_plain reading rules spots =
    flat_map (spot_text fault_word reading) spots.faults.items
    ++ (flat_map (located_text (codes "passed over")) spots.passed.items
    ++ (flat_map held_unread spots.unread.items
    ++ (flat_map (located_text (codes "misplaced")) spots.misplaced.items
    ++ (flat_map (spot_text outcome_word rules) spots.findings.items
    ++ held_counts spots rules))))

-- ---- what is told of it

abbrev pub placed_line : LinePlace → Line → List Placed
placed_line place (line.Pattern id) = []
placed_line place (line.Fired node rule context) = []
placed_line place (line.Found finding) = record { finding = finding; place = place } ∷ []

abbrev pub placed_if : LinePlace → Option Line → List Placed
placed_if place None = []
placed_if place (Some line) = placed_line place line

-- the finding of these at a spot
abbrev pub placed_in : List Line → Spot → List Placed
placed_in lines spot = placed_if spot.place (slice_get lines spot.line)

abbrev pub held_numbers : Spots → List Line → Counts
held_numbers spots rules = record {
  faults = length spots.faults.items;
  passed = length spots.passed.items;
  unread = length spots.unread.items;
  misplaced = length spots.misplaced.items;
  tally = tally_of rules;
}

abbrev pub held_contents : List Line → List Line → Spots → Contents
held_contents reading rules spots = record {
  faults = flat_map (placed_in reading) spots.faults.items;
  passed = spots.passed.items;
  unread = spots.unread.items;
  misplaced = spots.misplaced.items;
  findings = flat_map (placed_in rules) spots.findings.items;
  counts = held_numbers spots rules;
}

-- of two lists of lines what the reading finds, and what rules find
abbrev pub reading_in : List (List Line) → List Line
reading_in found = get_or found 0 []

abbrev pub rules_in : List (List Line) → List Line
rules_in found = get_or found 1 []

unfoldable pub held : List (List Line) → Spots → Report
held found spots = record {
  plain = held_plain (reading_in found) (rules_in found) spots;
  svrl = encode_utf8_all (svrl_report found);
  findings = counts_against (length spots.faults.items) (length spots.misplaced.items) (tally_of (rules_in found));
  contents = held_contents (reading_in found) (rules_in found) spots;
}

-- There are no spots yet.
pub record AreNone (spots : Spots) : Type 0 where
  pub faults : spots.faults.items ≡ []
  pub passed : spots.passed.items ≡ []
  pub unread : spots.unread.items ≡ []
  pub misplaced : spots.misplaced.items ≡ []
  pub findings : spots.findings.items ≡ []

-- The spots are those of the faults, of the elements that were passed over, of the unread nodes, of the misplaced elements, and
-- of the findings in document order.
pub record ArePlaced (v : Validated) (spots : Spots) : Type 0 where
  pub faults : spots.faults.items ≡ fault_spots v.document v.content 2 v.faults
  pub passed : spots.passed.items ≡ map (located_at v.document v.content) v.passed
  pub unread : spots.unread.items ≡ map (unread_of v.document v.content) v.unread
  pub misplaced : spots.misplaced.items ≡ map (located_at v.document v.content) v.misplaced
  pub findings : spots.findings.items ≡ ordered (spots_of v.document v.content v.lines)
