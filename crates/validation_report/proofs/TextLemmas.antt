-- What is kept of a report tells the report.
use Rattle.std.proofs.Common.{◌≡◌, ℕ, suc, List, [], ◌∷◌, ◌++◌, length, drop, map, flat_map, Some, refl, ap, sym, ◌∙◌, codes}
use Rattle.std.specs.Prelude.{encode_utf8_all}
use Rattle.std.specs.List.{slice_get}
use Rattle.std.proofs.lemmas.List.{length-map}
use Rattle.bind_meaning.specs.declared.fault.BindFault.{BindFault}
use Rattle.bind_meaning.specs.declared.fault.BindKind.{BindKind}
use Rattle.bind_meaning.specs.declared.fault.BindKind.TheVariants as kinds
use Rattle.schematron_findings.specs.declared.finding.Finding.{Finding}
use Rattle.schematron_findings.specs.declared.finding.Line.{Line}
use Rattle.schematron_findings.specs.declared.finding.Line.TheVariants as line
use Rattle.svrl_report.specs.Plain.{tally_of}
use Rattle.svrl_report.specs.Svrl.{svrl_report}
use Rattle.bind_meaning.specs.KindTexts.{kind_text}
use Rattle.validation_report.specs.declared.places.Spot.{Spot}
use Rattle.validation_report.specs.declared.places.Spots.{Spots}
use Rattle.validation_report.specs.Told.{fault_finding, fault_line, misplaced_line, reading_lines, Told, told_from, told_in, in_order}
use Rattle.validation_report.specs.Validating.{Validated, finding_text, fault_text, passed_at, unread_at, misplaced_at, told_text, count_text, plain_validation}
use Rattle.validation_report.specs.Validating.{svrl_validation, counts_against, has_findings, report_of, fault_placed, told_placed, contents_of}
use Rattle.validation_report.specs.Held.{place_at, spot_at, fault_spots, spots_from, spots_of, ordered, located_at, unread_of, optional_text, spot_text, fault_word}
use Rattle.validation_report.specs.Held.{outcome_word, located_text, held_unread, held_plain, reading_in, rules_in, held, ArePlaced}
use Rattle.validation_report.specs.Held.{placed_if, placed_in, held_contents}
use Rattle.validation_report.proofs.ListLemmas.{stands, flat_map-map, flat_map-one}
use Rattle.validation_report.proofs.OrderLemmas.{tagged, map-in_order}
use lib.Utf8.{encode}

kind-bytes : (kind : BindKind) → encode_utf8_all (kind_text kind) ≡ kind_text kind
unfolding lib.Utf8.encode
kind-bytes kinds.UnknownRoot = refl
kind-bytes kinds.Excess = refl
kind-bytes kinds.ElementInValue = refl
kind-bytes kinds.BadValue = refl
kind-bytes kinds.CodeNotListed = refl
kind-bytes kinds.CurrencyDiffers = refl
kind-bytes kinds.Disagree = refl
kind-bytes kinds.Missing = refl
kind-bytes kinds.Memory = refl

module _ (v : Validated) where
  -- ---- faults

  -- what is told of each fault, by what is told at its spot
  faults-are : {Y : Type 0} (of_spot : Spot → List Y) (of_fault : BindFault → List Y) (whole rest : List Line)
      → ((number : ℕ) (fault : BindFault) → slice_get whole number ≡ Some (fault_line v.document fault)
      → of_spot (spot_at v.document v.content number fault.node) ≡ of_fault fault)
      → (number : ℕ) (faults : List BindFault) → drop number whole ≡ map (fault_line v.document) faults ++ rest
      → flat_map of_spot (fault_spots v.document v.content number faults) ≡ flat_map of_fault faults
  faults-are of_spot of_fault whole rest one number [] e = refl
  faults-are of_spot of_fault whole rest one number (fault ∷ faults) e =
      let at = stands whole number (fault_line v.document fault) (map (fault_line v.document) faults ++ rest) e in
      ap (λ t. t ++ flat_map of_spot (fault_spots v.document v.content (suc number) faults)) (one number fault at.here)
      ∙ ap (λ t. of_fault fault ++ t) (faults-are of_spot of_fault whole rest one (suc number) faults at.behind)

  one-fault : (whole : List Line) (number : ℕ) (fault : BindFault) → slice_get whole number ≡ Some (fault_line v.document fault)
      → spot_text fault_word whole (spot_at v.document v.content number fault.node) ≡ fault_text v fault
  one-fault whole number fault e =
      ap (optional_text fault_word (place_at v.document v.content fault.node)) e
      ∙ ap (λ word. finding_text (codes "fault " ++ word) (fault_finding v.document fault) (place_at v.document v.content fault.node)) (kind-bytes fault.kind)

  many-faults : (number : ℕ) (faults : List BindFault) → length (fault_spots v.document v.content number faults) ≡ length faults
  many-faults number [] = refl
  many-faults number (fault ∷ faults) = ap suc (many-faults (suc number) faults)

  -- ---- elements and nodes that are told by themselves

  passed-are : (nodes : List ℕ)
      → flat_map (located_text (codes "passed over")) (map (located_at v.document v.content) nodes) ≡ flat_map (passed_at v) nodes
  passed-are nodes = flat_map-map (located_text (codes "passed over")) (located_at v.document v.content) nodes

  unread-are : (nodes : List ℕ) → flat_map held_unread (map (unread_of v.document v.content) nodes) ≡ flat_map (unread_at v) nodes
  unread-are nodes = flat_map-map held_unread (unread_of v.document v.content) nodes

  misplaced-are : (nodes : List ℕ)
      → flat_map (located_text (codes "misplaced")) (map (located_at v.document v.content) nodes) ≡ flat_map (misplaced_at v) nodes
  misplaced-are nodes = flat_map-map (located_text (codes "misplaced")) (located_at v.document v.content) nodes

  -- ---- findings

  abbrev spot_node : Spot → ℕ
  spot_node spot = spot.node

  abbrev told_node : Told → ℕ
  told_node told = told.node

  -- what is told of each finding, by what is told at its spot
  module _ {Y : Type 0} (of_spot : Spot → List Y) (of_told : Told → List Y) (whole : List Line)
      (one : (number node : ℕ) (finding : Finding) → slice_get whole number ≡ Some (line.Found finding)
      → of_spot (spot_at v.document v.content number node) ≡ of_told (record { node = node; finding = finding })) where
    abbrev tag_spot : Spot → ℕ × List Y
    tag_spot = tagged spot_node of_spot

    abbrev tag_told : Told → ℕ × List Y
    tag_told = tagged told_node of_told

    told-are : (number node : ℕ) (lines : List Line) → drop number whole ≡ lines
        → map tag_spot (spots_from v.document v.content number node lines) ≡ map tag_told (told_from node lines)
    told-are number node [] e = refl
    told-are number node (line.Pattern id ∷ lines) e =
        told-are (suc number) node lines (stands whole number (line.Pattern id) lines e).behind
    told-are number node (line.Fired judged rule context ∷ lines) e =
        told-are (suc number) judged lines (stands whole number (line.Fired judged rule context) lines e).behind
    told-are number node (line.Found finding ∷ lines) e =
        let at = stands whole number (line.Found finding) lines e in
        ap (λ t. t ∷ map tag_spot (spots_from v.document v.content (suc number) node lines)) (ap (λ t. (node, t)) (one number node finding at.here))
        ∙ ap (λ t. tag_told (record { node = node; finding = finding }) ∷ t) (told-are (suc number) node lines at.behind)

    abbrev second : ℕ × List Y → List Y
    second pair = pair.1

    ordered-are : flat_map of_spot (ordered (spots_of v.document v.content whole)) ≡ flat_map of_told (told_in whole)
    ordered-are =
        sym (flat_map-map second tag_spot (ordered (spots_of v.document v.content whole)))
        ∙ (ap (flat_map second) (map-in_order spot_node of_spot (spots_of v.document v.content whole)
        ∙ (ap (in_order (λ (pair : ℕ × List Y). pair.0)) (told-are 0 0 whole refl)
        ∙ sym (map-in_order told_node of_told (told_from 0 whole))))
        ∙ flat_map-map second tag_told (told_in whole))

  -- ---- the report

  module _ (spots : Spots) (p : ArePlaced v spots) where
    faults-placed : flat_map (spot_text fault_word (reading_lines v.document v.faults v.misplaced)) spots.faults.items ≡ flat_map (fault_text v) v.faults
    faults-placed =
        let whole = reading_lines v.document v.faults v.misplaced in
        ap (flat_map (spot_text fault_word whole)) p.faults
        ∙ faults-are (spot_text fault_word whole) (fault_text v) whole (map (misplaced_line v.document) v.misplaced) (one-fault whole) 2 v.faults refl

    passed-placed : flat_map (located_text (codes "passed over")) spots.passed.items ≡ flat_map (passed_at v) v.passed
    passed-placed = ap (flat_map (located_text (codes "passed over"))) p.passed ∙ passed-are v.passed

    unread-placed : flat_map held_unread spots.unread.items ≡ flat_map (unread_at v) v.unread
    unread-placed = ap (flat_map held_unread) p.unread ∙ unread-are v.unread

    misplaced-placed : flat_map (located_text (codes "misplaced")) spots.misplaced.items ≡ flat_map (misplaced_at v) v.misplaced
    misplaced-placed = ap (flat_map (located_text (codes "misplaced"))) p.misplaced ∙ misplaced-are v.misplaced

    findings-placed : flat_map (spot_text outcome_word v.lines) spots.findings.items ≡ flat_map (told_text v) (told_in v.lines)
    findings-placed =
        ap (flat_map (spot_text outcome_word v.lines)) p.findings
        ∙ ordered-are (spot_text outcome_word v.lines) (told_text v) v.lines
        (λ number node finding e. ap (optional_text outcome_word (place_at v.document v.content node)) e)

    fault-count : length spots.faults.items ≡ length v.faults
    fault-count = ap length p.faults ∙ many-faults 2 v.faults

    passed-count : length spots.passed.items ≡ length v.passed
    passed-count = ap length p.passed ∙ length-map v.passed (located_at v.document v.content)

    unread-count : length spots.unread.items ≡ length v.unread
    unread-count = ap length p.unread ∙ length-map v.unread (unread_of v.document v.content)

    misplaced-count : length spots.misplaced.items ≡ length v.misplaced
    misplaced-count = ap length p.misplaced ∙ length-map v.misplaced (located_at v.document v.content)

    plain-is : held_plain (reading_lines v.document v.faults v.misplaced) v.lines spots ≡ plain_validation v
    unfolding plain_validation
    plain-is = λ i.
        faults-placed i
        ++ (passed-placed i
        ++ (unread-placed i
        ++ (misplaced-placed i
        ++ (findings-placed i
        ++ count_text (fault-count i) (passed-count i) (unread-count i) (misplaced-count i) (tally_of v.lines)))))

    answer-is : counts_against (length spots.faults.items) (length spots.misplaced.items) (tally_of v.lines) ≡ has_findings v
    unfolding has_findings
    answer-is = λ i. counts_against (fault-count i) (misplaced-count i) (tally_of v.lines)

    contents-are : held_contents (reading_lines v.document v.faults v.misplaced) v.lines spots ≡ contents_of v
    unfolding contents_of
    contents-are =
        let whole = reading_lines v.document v.faults v.misplaced in
        let faults : flat_map (placed_in whole) spots.faults.items ≡ map (fault_placed v) v.faults =
        ap (flat_map (placed_in whole)) p.faults
        ∙ (faults-are (placed_in whole) (λ fault. fault_placed v fault ∷ []) whole (map (misplaced_line v.document) v.misplaced)
        (λ number fault e. ap (placed_if (place_at v.document v.content fault.node)) e) 2 v.faults refl
        ∙ flat_map-one (fault_placed v) v.faults) in
        let findings : flat_map (placed_in v.lines) spots.findings.items ≡ map (told_placed v) (told_in v.lines) =
        ap (flat_map (placed_in v.lines)) p.findings
        ∙ (ordered-are (placed_in v.lines) (λ told. told_placed v told ∷ []) v.lines
        (λ number node finding e. ap (placed_if (place_at v.document v.content node)) e)
        ∙ flat_map-one (told_placed v) (told_in v.lines)) in
        λ i. record {
          faults = faults i;
          passed = p.passed i;
          unread = p.unread i;
          misplaced = p.misplaced i;
          findings = findings i;
          counts = record {
            faults = fault-count i;
            passed = passed-count i;
            unread = unread-count i;
            misplaced = misplaced-count i;
            tally = tally_of v.lines;
          };
        }

    report-is : held (reading_lines v.document v.faults v.misplaced ∷ v.lines ∷ []) spots ≡ report_of v
    unfolding held svrl_validation
    report-is = λ i. record { plain = plain-is i; svrl = svrl_validation v; findings = answer-is i; contents = contents-are i }

-- what is kept where all stands that is told
pub kept-report : (v : Validated) (reading : List Line) (spots : Spots) → reading ≡ reading_lines v.document v.faults v.misplaced → ArePlaced v spots
    → held (reading ∷ v.lines ∷ []) spots ≡ report_of v
kept-report v reading spots e p = (λ i. held (e i ∷ v.lines ∷ []) spots) ∙ report-is v spots p

-- ---- the parts of what is kept

pub held-plain : (found : List (List Line)) (spots : Spots) → (held found spots).plain ≡ held_plain (reading_in found) (rules_in found) spots
unfolding held
held-plain found spots = refl

pub held-svrl : (found : List (List Line)) (spots : Spots) → (held found spots).svrl ≡ encode_utf8_all (svrl_report found)
unfolding held
held-svrl found spots = refl

pub held-contents : (found : List (List Line)) (spots : Spots) → (held found spots).contents ≡ held_contents (reading_in found) (rules_in found) spots
unfolding held
held-contents found spots = refl

pub held-findings : (found : List (List Line)) (spots : Spots)
    → (held found spots).findings ≡ counts_against (length spots.faults.items) (length spots.misplaced.items) (tally_of (rules_in found))
unfolding held
held-findings found spots = refl
