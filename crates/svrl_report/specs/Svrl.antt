-- The report in the Schematron Validation Report Language (ISO/IEC 19757-3, annex D) as a tree, whose canonical text is
-- written. What the standard leaves open: an assertion in error is a failed one, whose flag is the code of the error
-- and whose role is `error`.
use Rattle.std.specs.Prelude.{ℕ, List, [], ◌∷◌, ◌++◌, Option, Some, None, codes}
use Rattle.inv_base.specs.Tree.{Name, Attribute, Forest, no_more, a_text, an_element}
use Rattle.xml_write.specs.Canonical.{Declaration, canonical_text}
use Rattle.schematron_findings.specs.declared.finding.FindingKind.{FindingKind}
use Rattle.schematron_findings.specs.declared.finding.FindingKind.TheVariants as k
use Rattle.schematron_findings.specs.declared.finding.Finding.{Finding}
use Rattle.schematron_findings.specs.declared.finding.Line.{Line}
use Rattle.schematron_findings.specs.declared.finding.Line.TheVariants as line
use Rattle.xpath_items.specs.Codes.{code_text}
use Rattle.svrl_report.specs.Plain.{all_lines}

abbrev pub svrl_uri : List ℕ
svrl_uri = codes "http://purl.oclc.org/dsdl/svrl"

-- an element's name
abbrev pub svrl : List ℕ → Name
svrl local = record { uri = svrl_uri; local = local }

-- an attribute, which is in no namespace
abbrev pub given : List ℕ → List ℕ → Attribute
given name value = record { name = record { uri = []; local = name }; value = value }

-- an attribute where it is given
abbrev pub given_if : List ℕ → Option (List ℕ) → List Attribute
given_if name None = []
given_if name (Some value) = given name value ∷ []

abbrev pub outcome_name : FindingKind → List ℕ
outcome_name k.Failed = codes "failed-assert"
outcome_name k.Reported = codes "successful-report"
outcome_name (k.Error error) = codes "failed-assert"

abbrev pub flag_of : FindingKind → Option (List ℕ) → Option (List ℕ)
flag_of (k.Error error) flag = Some (code_text error)
flag_of _ flag = flag

abbrev pub role_of : FindingKind → Option (List ℕ) → Option (List ℕ)
role_of (k.Error error) role = Some (codes "error")
role_of _ role = role

abbrev pub finding_attributes : Finding → List Attribute
finding_attributes f =
    given (codes "test") f.test ∷ given (codes "location") f.location
    ∷ (given_if (codes "id") f.id ++ (given_if (codes "flag") (flag_of f.outcome f.flag) ++ given_if (codes "role") (role_of f.outcome f.role)))

-- a text, where it has a character
abbrev pub text_if : List ℕ → Forest
text_if [] = no_more
text_if (c ∷ text) = a_text (c ∷ text) no_more

-- the element of a line, and what follows it
abbrev pub line_element : Line → Forest → Forest
line_element (line.Pattern id) rest = an_element (svrl (codes "active-pattern")) (given_if (codes "id") id) no_more rest
line_element (line.Fired node rule context) rest = an_element (svrl (codes "fired-rule")) (given (codes "context") context ∷ []) no_more rest
line_element (line.Found f) rest =
    an_element (svrl (outcome_name f.outcome)) (finding_attributes f) (an_element (svrl (codes "text")) [] (text_if f.message) no_more) rest

abbrev pub line_elements : List Line → Forest
line_elements [] = no_more
line_elements (line ∷ lines) = line_element line (line_elements lines)

-- the report on the findings of several rule files, in the order of the files
abbrev pub svrl_tree : List (List Line) → Forest
svrl_tree findings = an_element (svrl (codes "schematron-output")) [] (line_elements (all_lines findings)) no_more

-- the prefix of its names
abbrev pub svrl_declarations : List Declaration
svrl_declarations = record { prefix = codes "svrl"; uri = svrl_uri } ∷ []

unfoldable pub svrl_report : List (List Line) → List ℕ
svrl_report findings = canonical_text svrl_declarations (svrl_tree findings)
