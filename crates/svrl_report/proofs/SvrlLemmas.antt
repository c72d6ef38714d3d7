-- The calls that are made are those of the tree.
use Rattle.std.proofs.Common.{◌≡◌, ℕ, ◌<◌, List, [], ◌∷◌, ◌++◌, length, Option, Some, None, Result, map, refl, ap, sym, subst, ◌∙◌, append_assoc, length-append}
use Rattle.std.proofs.Common.{codes, arith}
use Rattle.std.specs.Prelude.{encode_utf8_all}
use Rattle.std.specs.Result.{IsErr}
use Rattle.std.specs.Str.{chars, IsUtf8}
use Rattle.std.proofs.lemmas.List.{map-append}
use Rattle.std.proofs.lemmas.Grind.{flat_map-append}
use Rattle.std.proofs.lemmas.Str.{length-encode, len_utf8_bounds}
use Rattle.inv_base.specs.Outside.{SinkView}
use Rattle.inv_base.specs.Writing.{Writes}
use Rattle.inv_base.specs.Tree.{Forest, no_more, an_element, Attribute}
use Rattle.inv_base.proofs.TextLemmas.{encode-chars}
use Rattle.inv_base.proofs.WritingLemmas.{WritesFront-more, Writes-append, Writes-at_err}
use Rattle.xml_write.specs.declared.pen.PenState.{PenState}
use Rattle.xml_write.specs.declared.pen.PenState.TheVariants.{Fresh}
use Rattle.xml_write.specs.Canonical.{Declaration, canonical_text}
use Rattle.xml_write.specs.Writers.{WriterView, writing, Made, Broke}
use Rattle.xml_write.specs.Calls.{Call, call_start, call_declare, call_text, call_end, call_close, appended_by_all, attribute_calls, calls_inside, calls_of}
use Rattle.xml_write.specs.Calls.{encoded}
use Rattle.xml_write.proofs.CallsLemmas.{appended_by_all-append}
use Rattle.schematron_findings.specs.declared.finding.FindingKind.{FindingKind}
use Rattle.schematron_findings.specs.declared.finding.FindingKind.TheVariants as k
use Rattle.schematron_findings.specs.declared.finding.Finding.{Finding}
use Rattle.schematron_findings.specs.declared.finding.Line.{Line}
use Rattle.schematron_findings.specs.declared.finding.Line.TheVariants as line
use Rattle.xpath_items.specs.declared.outcome.DynError.{DynError}
use Rattle.xpath_items.specs.declared.outcome.DynError.TheVariants as e
use Rattle.xpath_items.specs.Codes.{code_text}
use Rattle.svrl_report.specs.Plain.{all_lines}
use Rattle.svrl_report.specs.Svrl.{svrl, svrl_uri, svrl_declarations, svrl_tree, svrl_report, given_if, flag_of, role_of, outcome_name, finding_attributes}
use Rattle.svrl_report.specs.Svrl.{text_if, line_element, line_elements}
use Rattle.svrl_report.specs.Calls.{given_calls, element_of, place_calls, flag_calls, mark_calls, byte_calls, text_calls, message_calls, start_calls}
use Rattle.svrl_report.specs.Calls.{finding_calls, line_calls, lines_calls, files_calls, report_calls}
use lib.Utf8.{encode}

-- a text is the bytes of its characters
pub bytes-of : (text cs : List ℕ) → IsUtf8 text → chars text ≡ cs → text ≡ encode_utf8_all cs
bytes-of text cs u e = sym (encode-chars text u) ∙ ap encode_utf8_all e

pub code-bytes : (error : DynError) → code_text error ≡ encode_utf8_all (code_text error)
unfolding lib.Utf8.encode
code-bytes e.FOAR0001 = refl
code-bytes e.FOAR0002 = refl
code-bytes e.FORG0001 = refl
code-bytes e.FORG0006 = refl
code-bytes e.XPTY0004 = refl
code-bytes e.XPTY0018 = refl
code-bytes e.XPTY0019 = refl
code-bytes e.XPTY0020 = refl

abbrev inside : Forest → List Call
inside forest = map encoded (calls_inside svrl_declarations forest)

abbrev attributes_made : List Attribute → List Call
attributes_made attributes = map encoded (attribute_calls svrl_declarations attributes)

given-are : (name : List ℕ) (value : Option (List ℕ)) → attributes_made (given_if name value) ≡ given_calls (encode_utf8_all name) value
given-are name None = refl
given-are name (Some value) = refl

attributes-append : (a b : List Attribute) → attributes_made (a ++ b) ≡ attributes_made a ++ attributes_made b
attributes-append a b = ap (map encoded) (map-append _ a b) ∙ map-append encoded (attribute_calls svrl_declarations a) (attribute_calls svrl_declarations b)

id-bytes : encode_utf8_all (codes "id") ≡ codes "id"
unfolding lib.Utf8.encode
id-bytes = refl

flag-bytes : encode_utf8_all (codes "flag") ≡ codes "flag"
unfolding lib.Utf8.encode
flag-bytes = refl

role-bytes : encode_utf8_all (codes "role") ≡ codes "role"
unfolding lib.Utf8.encode
role-bytes = refl

marks-are : (f : Finding)
    → attributes_made (given_if (codes "id") f.id ++
    (given_if (codes "flag") (flag_of f.outcome f.flag) ++ given_if (codes "role") (role_of f.outcome f.role))) ≡ mark_calls f
marks-are f =
    attributes-append (given_if (codes "id") f.id) _
    ∙ (ap (λ t. attributes_made (given_if (codes "id") f.id) ++ t) (attributes-append (given_if (codes "flag") (flag_of f.outcome f.flag)) _)
    ∙ (ap (λ t. t ++ (attributes_made (given_if (codes "flag") (flag_of f.outcome f.flag)) ++
    attributes_made (given_if (codes "role") (role_of f.outcome f.role))))
    (given-are (codes "id") f.id ∙ ap (λ n. given_calls n f.id) id-bytes)
    ∙ (ap (λ t. given_calls (codes "id") f.id ++ (t ++ attributes_made (given_if (codes "role") (role_of f.outcome f.role))))
    (given-are (codes "flag") (flag_of f.outcome f.flag) ∙ ap (λ n. given_calls n (flag_of f.outcome f.flag)) flag-bytes)
    ∙ ap (λ t. given_calls (codes "id") f.id ++ (flag_calls f.outcome f.flag ++ t))
    (given-are (codes "role") (role_of f.outcome f.role) ∙ ap (λ n. given_calls n (role_of f.outcome f.role)) role-bytes))))

attributes-are : (f : Finding) → attributes_made (finding_attributes f) ≡ place_calls f ++ mark_calls f
unfolding lib.Utf8.encode
attributes-are f = ap (λ t. place_calls f ++ t) (marks-are f)

-- a text that has a character has a byte
some_bytes : (bytes : List ℕ) → 0 < length bytes → call_text bytes ∷ [] ≡ byte_calls bytes
some_bytes [] h = absurd (omega (arith, h))
some_bytes (b ∷ bytes) h = refl

text-is : (message : List ℕ) → inside (text_if message) ≡ text_calls message
text-is [] = refl
text-is (c ∷ message) =
    let longer = len_utf8_bounds c in
    some_bytes (encode_utf8_all (c ∷ message)) (omega (arith, length-append (encode c) (encode_utf8_all message), length-encode c, longer.0))

message-is : (message : List ℕ) → inside (an_element (svrl (codes "text")) [] (text_if message) no_more) ≡ message_calls message
unfolding lib.Utf8.encode
message-is message =
    ap (λ t. call_start (codes "svrl:text") ∷ t) (map-append encoded (calls_inside svrl_declarations (text_if message)) (call_end (codes "svrl:text") ∷ [])
    ∙ ap (λ t. t ++ call_end (codes "svrl:text") ∷ []) (text-is message))

name-is : (outcome : FindingKind) → encode_utf8_all (codes "svrl:" ++ outcome_name outcome) ≡ element_of outcome
unfolding lib.Utf8.encode
name-is k.Failed = refl
name-is k.Reported = refl
name-is (k.Error error) = refl

finding-is : (f : Finding) (rest : Forest) → inside (line_element (line.Found f) rest) ≡ finding_calls f ++ inside rest
finding-is f rest =
    let attributes : List Call = attribute_calls svrl_declarations (finding_attributes f) in
    let message : List Call = calls_inside svrl_declarations (an_element (svrl (codes "text")) [] (text_if f.message) no_more) in
    let name : List ℕ = codes "svrl:" ++ outcome_name f.outcome in
    let after : List Call = call_end name ∷ calls_inside svrl_declarations rest in
    ap (λ t. call_start (encode_utf8_all name) ∷ t) (map-append encoded attributes (message ++ after)
    ∙ (ap (λ t. t ++ map encoded (message ++ after)) (attributes-are f)
    ∙ ap (λ t. (place_calls f ++ mark_calls f) ++ t) (map-append encoded message after ∙ ap (λ t. t ++ map encoded after) (message-is f.message))))
    ∙ (ap (λ n. call_start n ∷ ((place_calls f ++ mark_calls f) ++ (message_calls f.message ++ call_end n ∷ inside rest))) (name-is f.outcome)
    ∙ (ap (λ t. start_calls f ++ t) (sym (append_assoc (message_calls f.message) (call_end (element_of f.outcome) ∷ []) (inside rest)))
    ∙ sym (append_assoc (start_calls f) (message_calls f.message ++ call_end (element_of f.outcome) ∷ []) (inside rest))))

pattern-is : (id : Option (List ℕ)) (rest : Forest) → inside (line_element (line.Pattern id) rest) ≡ line_calls (line.Pattern id) ++ inside rest
unfolding lib.Utf8.encode
pattern-is None rest = refl
pattern-is (Some id) rest = refl

line-is : (l : Line) (rest : Forest) → inside (line_element l rest) ≡ line_calls l ++ inside rest
unfolding lib.Utf8.encode
line-is (line.Pattern id) rest = pattern-is id rest
line-is (line.Fired node rule context) rest = refl
line-is (line.Found f) rest = finding-is f rest

lines-are : (lines : List Line) → inside (line_elements lines) ≡ lines_calls lines
lines-are [] = refl
lines-are (l ∷ lines) = line-is l (line_elements lines) ∙ ap (λ t. line_calls l ++ t) (lines-are lines)

files-are : (files : List (List Line)) → lines_calls (all_lines files) ≡ files_calls files
files-are [] = refl
files-are (file ∷ files) = flat_map-append line_calls file (all_lines files) ∙ ap (λ t. lines_calls file ++ t) (files-are files)

calls-are : (files : List (List Line)) → map encoded (calls_of svrl_declarations (svrl_tree files)) ≡ report_calls files ++ call_close ∷ []
unfolding lib.Utf8.encode
calls-are files =
    let end : List Call = call_end (codes "svrl:schematron-output") ∷ [] in
    let start : List Call → List Call = λ t. call_start (codes "svrl:schematron-output") ∷ encoded (call_declare (codes "svrl") svrl_uri) ∷ t in
    ap start (map-append encoded (calls_inside svrl_declarations (line_elements (all_lines files)))
    (call_end (codes "svrl:schematron-output") ∷ call_close ∷ [])
    ∙ (ap (λ t. t ++ call_end (codes "svrl:schematron-output") ∷ call_close ∷ []) (lines-are (all_lines files) ∙ files-are files)
    ∙ sym (append_assoc (files_calls files) end (call_close ∷ []))))

-- The report in bytes, by the law of the pen

abbrev IsLaw : Type 0
IsLaw = (declarations : List Declaration) (document : Forest) → appended_by_all Fresh (map encoded (calls_of declarations document)) ≡ encode_utf8_all
    (canonical_text declarations document)

module _ (files : List (List Line)) (law : IsLaw) (pen : PenState) (fresh : pen ≡ Fresh) where
  whole-text : appended_by_all pen (report_calls files) ++ 0xA ∷ [] ≡ encode_utf8_all (svrl_report files)
  unfolding svrl_report
  whole-text =
      sym (appended_by_all-append pen (report_calls files) (call_close ∷ []))
      ∙ (ap (λ state. appended_by_all state (report_calls files ++ call_close ∷ [])) fresh
      ∙ (ap (appended_by_all Fresh) (sym (calls-are files)) ∙ law svrl_declarations (svrl_tree files)))

  pub report-broke : {T E : Type 0} (result : Result T E) (before after : SinkView) → Broke (writing pen) before (report_calls files) after → IsErr result →
      Writes result (encode_utf8_all (svrl_report files)) before after
  report-broke result before after b i =
      let P : List ℕ → Type 0 = λ x. Writes result x before after in
      subst P whole-text (Writes-at_err result _ _ _ i (WritesFront-more (appended_by_all pen (report_calls files)) (0xA ∷ []) before after b))

  pub report-written : {T E : Type 0} (result : Result T E) (v : WriterView) (before between after : SinkView) →
      Made (writing pen) before (report_calls files) v between → Writes result (0xA ∷ []) between after
      → Writes result (encode_utf8_all (svrl_report files)) before after
  report-written result v before between after m c =
      let P : List ℕ → Type 0 = λ x. Writes result x before after in
      subst P whole-text (Writes-append result (appended_by_all pen (report_calls files)) (0xA ∷ []) before between after m.sink c)
