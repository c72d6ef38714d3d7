-- What a trial of so many lines comes to: the generated invoice is written as UBL, read, written as CII and read, and the UBL document is
-- judged by a built-in rule file.
use Rattle.std.specs.Prelude.{ℕ, Bool, true, false, ◌&&◌, List, [], ◌∷◌, ◌++◌, length, codes, decimal, encode_utf8_all, Option, Some, None, option_map}
use Rattle.inv_base.specs.Tree.{Node}
use Rattle.term_table.specs.declared.terms.Term.{Term}
use Rattle.term_table.specs.Contexts.{root_context}
use Rattle.inv_terms.specs.declared.entries.Entry.{Entry}
use Rattle.inv_terms.specs.Values.{spelled}
use Rattle.inv_terms.specs.Listing.{value_in}
use Rattle.bind_meaning.specs.declared.tables.Syntax.TheVariants as syntaxes
use Rattle.schematron_findings.specs.declared.finding.Line.{Line}
use Rattle.svrl_report.specs.Plain.{tally_of, counts_line}
use Rattle.trial_invoice.specs.Generated.{trial_entries}
use Rattle.trial_run.specs.Comparing.{same_entries}
use Rattle.held_rules.specs.Texts.{Ready, nodes_in, ready_in}
use Rattle.held_rules.specs.Texts as held
use Rattle.trial_run.specs.Memory.{written, terms_read}
use Rattle.trial_run.specs.declared.trial.Trial.{Trial}

-- ---- the built-in rule file

unfoldable pub rule_text : List ℕ
rule_text =
    codes "<schema xmlns=\"http://purl.oclc.org/dsdl/schematron\" queryBinding=\"xslt2\">\n"
    ++ (codes "<ns prefix=\"cac\" uri=\"urn:oasis:names:specification:ubl:schema:xsd:CommonAggregateComponents-2\"/>\n"
    ++ (codes "<ns prefix=\"cbc\" uri=\"urn:oasis:names:specification:ubl:schema:xsd:CommonBasicComponents-2\"/>\n"
    ++ (codes "<pattern><rule context=\"cac:InvoiceLine\">\n"
    ++ (codes "<assert test=\"xs:decimal(cbc:LineExtensionAmount) = cbc:InvoicedQuantity * cac:Price/cbc:PriceAmount\">\n"
    ++ (codes "The net amount of a line is its quantity times its price.</assert>\n"
    ++ (codes "<report test=\"cbc:ID = count(//cac:InvoiceLine)\">This is the last line.</report>\n"
    ++ (codes "</rule></pattern></schema>\n")))))))

-- what it says, with what is active of it
unfoldable pub trial_rules : Option Ready
trial_rules = ready_in rule_text

-- ---- what is found in a document

abbrev pub found_by : Option Ready → List Node → List Line
found_by None nodes = []
found_by (Some ready) nodes = held.found_by ready nodes

abbrev pub found_in : Option Ready → Option (List Node) → List Line
found_in rules None = []
found_in rules (Some nodes) = found_by rules nodes

-- what the built-in rule file finds in the document that the bytes are
unfoldable pub trial_findings : List ℕ → List Line
trial_findings bytes = found_in trial_rules (nodes_in bytes)

-- ---- a trial

-- the UBL text, its terms, their CII text, and the terms of that
abbrev pub ubl_text : ℕ → List ℕ
ubl_text lines = written syntaxes.Ubl (trial_entries lines)

abbrev pub terms_of_ubl : ℕ → List Entry
terms_of_ubl lines = terms_read (ubl_text lines)

abbrev pub cii_text : ℕ → List ℕ
cii_text lines = written syntaxes.Cii (terms_of_ubl lines)

abbrev pub terms_of_cii : ℕ → List Entry
terms_of_cii lines = terms_read (cii_text lines)

-- BT-112, the total with tax
abbrev pub total_term : Term
total_term = record { number = 112; part = 0 }

abbrev pub total_in : List Entry → Option (List ℕ)
total_in es = option_map spelled (value_in es total_term root_context)

-- Both readings have the terms of the invoice.
abbrev pub same_terms : List Entry → List Entry → List Entry → Bool
same_terms es first last = same_entries es first && same_entries first last

-- The trial of so many lines, whose judging took so many steps. The total is that of the last reading, and the terms are the same where both
-- readings say what the generated invoice says.
unfoldable pub trial_of : ℕ → ℕ → Trial
trial_of lines steps = record {
  lines = lines;
  total = total_in (terms_of_cii lines);
  same_terms = same_terms (trial_entries lines) (terms_of_ubl lines) (terms_of_cii lines);
  ubl_bytes = length (ubl_text lines);
  cii_bytes = length (cii_text lines);
  tally = tally_of (trial_findings (ubl_text lines));
  steps = steps;
}

-- ---- its text

abbrev pub total_text : Option (List ℕ) → List ℕ
total_text None = 0x2D ∷ []
total_text (Some total) = encode_utf8_all total

abbrev pub yes_or_no : Bool → List ℕ
yes_or_no true = codes "yes"
yes_or_no false = codes "no"

-- the total, whether the terms are the same, and the sizes of the documents
abbrev pub documents_text : Trial → List ℕ
documents_text trial =
    codes "total " ++ (total_text trial.total
    ++ (codes "\nsame terms " ++ (yes_or_no trial.same_terms
    ++ (codes "\nbytes " ++ (decimal trial.ubl_bytes ++ (0x20 ∷ (decimal trial.cii_bytes ++ 0xA ∷ [])))))))

unfoldable pub trial_text : Trial → List ℕ
trial_text trial =
    codes "lines " ++ (decimal trial.lines ++
    (0xA ∷ (documents_text trial ++ (counts_line trial.tally ++ (codes "steps " ++ (decimal trial.steps ++ 0xA ∷ []))))))
