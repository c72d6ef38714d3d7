-- The one line that a refusal writes to the error output.
use Rattle.std.specs.Prelude.{ℕ, List, [], ◌∷◌, ◌++◌, codes, decimal, encode_utf8_all}
use Rattle.code_lists.specs.declared.fault.ListFault.{ListFault}
use Rattle.code_lists.specs.declared.fault.ListFault.TheVariants as list_faults
use Rattle.xml_tokens.specs.declared.kind.XmlKind.{XmlKind}
use Rattle.xml_tokens.specs.declared.kind.XmlKind.TheVariants as kinds
use Rattle.xml_state.specs.declared.fault.XmlFault.{XmlFault}
use Rattle.rule_library.specs.Readings.{Fault}
use Rattle.rule_library.specs.declared.faults.LoadKind.{LoadKind}
use Rattle.rule_library.specs.declared.faults.LoadKind.TheVariants as loads

-- the name of a kind of fault
abbrev pub kind_text : XmlKind → List ℕ
kind_text kinds.TagTooLong = codes "TagTooLong"
kind_text kinds.NotUtf8 = codes "NotUtf8"
kind_text kinds.BadChar = codes "BadChar"
kind_text kinds.Doctype = codes "Doctype"
kind_text kinds.BadDeclaration = codes "BadDeclaration"
kind_text kinds.BadMarkup = codes "BadMarkup"
kind_text kinds.BadReference = codes "BadReference"
kind_text kinds.TextOutside = codes "TextOutside"
kind_text kinds.TooManyAttributes = codes "TooManyAttributes"
kind_text kinds.NameTooLong = codes "NameTooLong"
kind_text kinds.Mismatched = codes "Mismatched"
kind_text kinds.SecondRoot = codes "SecondRoot"
kind_text kinds.BadNamespace = codes "BadNamespace"
kind_text kinds.UndeclaredPrefix = codes "UndeclaredPrefix"
kind_text kinds.DuplicateAttribute = codes "DuplicateAttribute"
kind_text kinds.TooDeep = codes "TooDeep"
kind_text kinds.TooManyNames = codes "TooManyNames"
kind_text kinds.TooManyNodes = codes "TooManyNodes"
kind_text kinds.TooLong = codes "TooLong"
kind_text kinds.Truncated = codes "Truncated"
kind_text kinds.NoRoot = codes "NoRoot"
kind_text kinds.Memory = codes "Memory"

abbrev pub bad_word_line : ℕ → List ℕ
bad_word_line number = codes "einv: bad word " ++ (decimal number ++ 0xA ∷ [])

abbrev pub read_fault_line : List ℕ → List ℕ
read_fault_line file = codes "einv: " ++ (file ++ codes ": read fault\n")

abbrev pub document_line : List ℕ → XmlFault → List ℕ
document_line file fault = codes "einv: " ++ (file ++ (codes ": " ++ (kind_text fault.kind ++ (codes " at " ++ (decimal fault.place.byte ++ 0xA ∷ [])))))

-- why a file of code lists is refused, behind its name
abbrev pub list_fault_text : ListFault → List ℕ
list_fault_text list_faults.NotToml = codes "NotToml"
list_fault_text (list_faults.NotALists key) = codes "NotALists " ++ encode_utf8_all key
list_fault_text (list_faults.BadCode key) = codes "BadCode " ++ encode_utf8_all key
list_fault_text list_faults.Memory = codes "Memory"

abbrev pub list_line : List ℕ → ListFault → List ℕ
list_line file fault = codes "einv: " ++ (file ++ (codes ": " ++ (list_fault_text fault ++ 0xA ∷ [])))

abbrev pub too_long_line : List ℕ → List ℕ
too_long_line file = codes "einv: " ++ (file ++ codes ": TooLong\n")

-- the name of a kind of fault of a rule file or of a part that it takes of another file
abbrev pub load_kind_text : LoadKind → List ℕ
load_kind_text loads.Read = codes "Read"
load_kind_text (loads.Xml kind) = kind_text kind
load_kind_text loads.BadHref = codes "BadHref"
load_kind_text loads.IncludeCycle = codes "IncludeCycle"
load_kind_text loads.TooManyFiles = codes "TooManyFiles"
load_kind_text loads.NotSame = codes "NotSame"
load_kind_text loads.TooDeep = codes "TooDeep"
load_kind_text loads.TooManyNodes = codes "TooManyNodes"
load_kind_text loads.TooManyNames = codes "TooManyNames"
load_kind_text loads.Memory = codes "Memory"

-- how the line ends: with the attribute of an element that asks for a part, or `-` where what is put in passes a limit;
-- of a file that is no document it ends as the line of a document
abbrev pub load_end_text : LoadKind → List ℕ
load_end_text loads.Read = codes "\n"
load_end_text (loads.Xml kind) = codes "\n"
load_end_text loads.BadHref = codes " href\n"
load_end_text loads.IncludeCycle = codes " href\n"
load_end_text loads.TooManyFiles = codes " href\n"
load_end_text loads.NotSame = codes " href\n"
load_end_text loads.TooDeep = codes " -\n"
load_end_text loads.TooManyNodes = codes " -\n"
load_end_text loads.TooManyNames = codes " -\n"
load_end_text loads.Memory = codes "\n"

abbrev pub load_line : Fault → List ℕ
load_line fault = codes "einv: " ++
    (fault.file ++ (codes ": " ++ (load_kind_text fault.kind ++ (codes " at " ++ (decimal fault.place ++ load_end_text fault.kind)))))
