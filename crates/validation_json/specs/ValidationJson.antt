-- What a validation tells (EN 16931-1; ISO/IEC 19757-3) as JSON data: one object. What isn't there isn't written.
use Rattle.std.specs.Prelude.{ℕ, List, [], ◌∷◌, codes}
use Rattle.line_places.specs.declared.place.LinePlace.{LinePlace}
use Rattle.schematron_findings.specs.declared.finding.Finding.{Finding}
use Rattle.validation_report.specs.declared.places.Located.{Located}
use Rattle.validation_report.specs.declared.places.Unread.{Unread}
use Rattle.validation_report.specs.Validating.{Placed, Counts, Contents}
use Rattle.findings_json.specs.FindingsJson.{member_if, finding_head, message_member, tally_members}
use Rattle.json_text.specs.Json.{Json, nothing}
use Rattle.json_text.specs.Making.{joined, text_member, number_member, array_member, object_member, object, each}

-- where something stands in the file
abbrev pub place_members : LinePlace → Json
place_members place = joined (number_member (codes "line") place.line ∷ number_member (codes "column") place.column ∷ [])

-- where it stands in the document and in the file
abbrev pub located_members : List ℕ → LinePlace → Json
located_members location place = joined (text_member (codes "location") location ∷ place_members place ∷ [])

-- the name of a term or a group, where the semantic model has one
abbrev pub name_member : List ℕ → Json
name_member [] = nothing
name_member (c ∷ name) = text_member (codes "name") (c ∷ name)

-- a fault of reading, by its kind and the term or the group that it names
abbrev pub fault_object : Finding → LinePlace → Json
fault_object f place = object
    (text_member (codes "kind") f.test
    ∷ member_if (codes "term") f.id
    ∷ name_member f.message
    ∷ located_members f.location place
    ∷ [])

-- an element that was passed over, or one that is misplaced
abbrev pub located_object : Located → Json
located_object one = object (located_members one.location one.place ∷ [])

-- an unread node, with what is shown of its own text
abbrev pub unread_object : Unread → Json
unread_object one = object (located_members one.element.location one.element.place ∷ text_member (codes "value") one.value ∷ [])

-- a finding of a rule
abbrev pub finding_object : Finding → LinePlace → Json
finding_object f place = object (finding_head f ∷ place_members place ∷ message_member f ∷ [])

-- the findings at their places, in an array
abbrev pub placed_objects : (Finding → LinePlace → Json) → List Placed → Json
placed_objects said findings = each (λ (one : Placed). said one.finding one.place) findings

-- how many there are of each sort
abbrev pub counts_member : Counts → Json
counts_member counts = object_member (codes "counts")
    (number_member (codes "faults") counts.faults
    ∷ number_member (codes "passed_over") counts.passed
    ∷ number_member (codes "unread") counts.unread
    ∷ number_member (codes "misplaced") counts.misplaced
    ∷ tally_members counts.tally
    ∷ [])

-- The name of the document's file, and all that is told of it, each sort in an array.
unfoldable pub validation_json : List ℕ → Contents → Json
validation_json file told = object
    (text_member (codes "file") file
    ∷ array_member (codes "faults") (placed_objects fault_object told.faults)
    ∷ array_member (codes "passed_over") (each located_object told.passed)
    ∷ array_member (codes "unread") (each unread_object told.unread)
    ∷ array_member (codes "misplaced") (each located_object told.misplaced)
    ∷ array_member (codes "findings") (placed_objects finding_object told.findings)
    ∷ counts_member told.counts
    ∷ [])
