-- A comment or a processing instruction that is read byte by byte: of the bytes that came, what can still matter.
use Rattle.std.specs.Prelude.{ℕ, ◌+◌, Bool, true, false, not, ◌&&◌, ◌||◌, List, [], ◌∷◌, drop, Option, Some, None, option_and_then, if◌then◌else◌, codes}
use Rattle.xml_tokens.specs.declared.kind.XmlKind.{XmlKind}
use Rattle.xml_tokens.specs.declared.kind.XmlKind.TheVariants.{NotUtf8, BadChar}
use Rattle.xml_tokens.specs.declared.beginning.Position.{Position}
use Rattle.xml_tokens.specs.declared.spelling.Spelling.{Spelling}
use Rattle.xml_tokens.specs.declared.spelling.Spelling.TheVariants.{Between, Inside, Broken}
use Rattle.xml_tokens.specs.declared.asides.Inner.{Inner}
use Rattle.xml_tokens.specs.declared.asides.Inner.TheVariants.{Comment, Instruction}
use Rattle.xml_tokens.specs.declared.asides.OpenAside.{OpenAside}
use Rattle.xml_tokens.specs.declared.asides.ClosedAside.{ClosedAside}
use Rattle.xml_tokens.specs.Searches.{begins_with, ends_inside}
use Rattle.xml_tokens.specs.References.{if_char}
use Rattle.xml_tokens.specs.Markup.{an_aside, ends_target}
use Rattle.xml_tokens.specs.Beginnings.{Beginning, good, bad, later, may_declare}
use Rattle.xml_tokens.specs.Spelling.{spelling_behind, ended, is_wrong}
use Rattle.xml_tokens.specs.Comments as comments
use Rattle.xml_tokens.specs.Instructions as instructions

-- nothing has come of what stands inside
abbrev pub begun : Inner → OpenAside
begun inner = record { spelling = Between; has_wrong = false; inner = inner }

-- The byte ends it.
abbrev pub is_ended_by : Inner → ℕ → Bool
is_ended_by (Comment comment) b = comments.is_ended_by comment b
is_ended_by (Instruction instruction) b = instructions.is_ended_by instruction b

-- what stands inside with a byte that doesn't end it, and the Char that the byte ends if any
abbrev pub inner_behind : Inner → ℕ → Option ℕ → Inner
inner_behind (Comment comment) b c = Comment (comments.comment_behind comment b)
inner_behind (Instruction instruction) b c = Instruction (instructions.instruction_behind instruction b c)

-- the fault of what stands inside, where all are Chars
abbrev pub own_fault : Inner → Option XmlKind
own_fault (Comment comment) = comments.own_fault comment
own_fault (Instruction instruction) = instructions.own_fault instruction

-- the Char that the byte ends, if any
abbrev pub ended_char : Spelling → ℕ → Option ℕ
ended_char spelling b = option_and_then if_char (ended spelling b)

-- the comment or instruction with a byte that doesn't end it
abbrev pub aside_behind : OpenAside → ℕ → OpenAside
aside_behind aside b = record {
  spelling = spelling_behind aside.spelling b;
  has_wrong = aside.has_wrong || is_wrong (ended aside.spelling b);
  inner = inner_behind aside.inner b (ended_char aside.spelling b);
}

-- the fault of what stands inside: it isn't UTF-8, or not all are Chars, or its own
abbrev pub fault_by : Spelling → Bool → Option XmlKind → Option XmlKind
fault_by Between has_wrong own = if has_wrong then Some BadChar else own
fault_by (Inside more low high value) has_wrong own = Some NotUtf8
fault_by Broken has_wrong own = Some NotUtf8

abbrev pub fault_inside : OpenAside → Option XmlKind
fault_inside aside = fault_by aside.spelling aside.has_wrong (own_fault aside.inner)

-- where it leads: it is still open, or has ended with so many bytes, with a fault or none
pub data Course : Type 0 where
  stays_open : OpenAside → Course
  ends_with : Option XmlKind → ℕ → Course

-- where it leads by further bytes, behind so many that came
abbrev pub course : ℕ → OpenAside → List ℕ → Course
course n aside [] = stays_open aside
course n aside (b ∷ bytes) = elim (is_ended_by aside.inner b) [
  | true ↦ ends_with (fault_inside aside) (n + 1)
  | false ↦ course (n + 1) (aside_behind aside b) bytes
]

-- what it begins
abbrev pub begins_by : Course → Beginning
begins_by (stays_open aside) = later
begins_by (ends_with None n) = good an_aside n
begins_by (ends_with (Some kind) n) = bad kind n

-- what is open behind bytes, if it is
abbrev pub if_open : Course → Option OpenAside
if_open (stays_open aside) = Some aside
if_open (ends_with fault n) = None

-- The bytes are the XML declaration or may become it: they spell `<?xml` and white space, or a front of that, where it
-- may stand.
abbrev pub may_be_declaration : Position → List ℕ → Bool
may_be_declaration position bytes = may_declare position &&
    (ends_inside (codes "<?xml") bytes || (begins_with (codes "<?xml") bytes && ends_target (drop 5 bytes)))

-- the open comment or instruction that these bytes are, if they are one and no declaration
unfoldable pub open_aside : Position → List ℕ → Option OpenAside
open_aside position bytes = elim (begins_with (codes "<!--") bytes) [
  | true ↦ if_open (course 4 (begun (Comment comments.begun)) (drop 4 bytes))
  | false ↦ elim (begins_with (codes "<?") bytes && not (may_be_declaration position bytes)) [
    | true ↦ if_open (course 2 (begun (Instruction instructions.begun)) (drop 2 bytes))
    | false ↦ None
  ]
]

-- what the code found: the end, behind so many bytes that came, or where it stands
abbrev pub found_course : ℕ → OpenAside → Option ClosedAside → Course
found_course n aside None = stays_open aside
found_course n aside (Some closed) = ends_with closed.fault (n + closed.len)
