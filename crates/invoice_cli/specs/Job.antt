-- What the words behind the program's name ask for. A word is the bytes of its text.
use Rattle.std.specs.Prelude.{ℕ, ◌+◌, ◌*◌, ◌-◌, nat_eq, nat_le, nat_lt, Bool, true, false, not, ◌&&◌, List, [], ◌∷◌, ◌++◌, length, map, Option, Some, None}
use Rattle.std.specs.Prelude.{is_none, option_map, bytes_eq, codes, if◌then◌else◌, String, string_bytes}
use Rattle.std.specs.Global.{Global}
use Rattle.std.specs.List.{starts_with}
use Rattle.bind_meaning.specs.declared.tables.Syntax.{Syntax}
use Rattle.bind_meaning.specs.declared.tables.Syntax.TheVariants as syntaxes
use Rattle.job_protocol.specs.declared.formats.ReportFormat.{ReportFormat}
use Rattle.job_protocol.specs.declared.formats.ReportFormat.TheVariants as report_formats
use Rattle.invoice_jobs.specs.Sources.{Sources}
use Rattle.invoice_jobs.specs.declared.formats.AnswerFormat.{AnswerFormat}
use Rattle.invoice_jobs.specs.declared.formats.AnswerFormat.TheVariants as formats
use Rattle.invoice_cli.specs.declared.options.Optioned.{Optioned}
use Rattle.invoice_cli.specs.declared.options.Optioned.TheVariants as commands
use Rattle.invoice_cli.specs.declared.options.Switch.{Switch}
use Rattle.invoice_cli.specs.declared.options.Switch.TheVariants as switches

-- The outline of a file; the terms of an invoice, as lines or as JSON, by the code lists of a file or the built-in ones and by
-- the terms that another file adds or none; where its totals differ, likewise, as lines or as JSON; its page, likewise; the invoice in a syntax,
-- likewise; the same, where nothing of its document is lost; what rule files find in a document, plain, in SVRL or as JSON, by
-- the patterns of a phase or those that each file has by default; all that is wrong with an invoice, in these forms, by such
-- files beside it; an invoice's attached document of that number; the value of an expression at a document; a trial of the
-- whole tool on a generated invoice of so many lines; the help; the version; or the number of the first word that fits no
-- command, counted from 1, where a missing word counts as one behind the last.
pub data Job : Type 0 where
  outline : List ℕ → Job
  show : AnswerFormat → Sources → List ℕ → Job
  totals : AnswerFormat → Sources → List ℕ → Job
  view : Sources → List ℕ → Job
  convert : Syntax → Sources → List ℕ → Job
  convert_whole : Syntax → Sources → List ℕ → Job
  check : ReportFormat → Option (List ℕ) → List (List ℕ) → List ℕ → Job
  validate : ReportFormat → Sources → List ℕ → Job
  extract : ℕ → List ℕ → Job
  query : List ℕ → List ℕ → Job
  trial : ℕ → Job
  help : Job
  version : Job
  bad_word : ℕ → Job

-- the job, where no word is left; else that word, of this number, is bad
abbrev pub with_no_more : ℕ → Job → List (List ℕ) → Job
with_no_more number job [] = job
with_no_more number job (word ∷ words) = bad_word number

-- A word that begins with two dashes is no operand.
abbrev pub is_option : List ℕ → Bool
is_option word = starts_with nat_eq word (codes "--")

-- the word of this number as the last operand
abbrev pub last_operand : (List ℕ → Job) → ℕ → List (List ℕ) → Job
last_operand job number [] = bad_word number
last_operand job number (word ∷ words) = if is_option word then bad_word number else with_no_more (number + 1) (job word) words

-- ---- options: between the command and its operands, in any order

-- the files of code lists and of extension terms, and the syntax to write; whether a conversion has to keep all, whether the
-- answer is JSON and whether the report is SVRL, the phase, and the rule files
pub record Options : Type 0 where
  pub codes_file : Option (List ℕ)
  pub extension_file : Option (List ℕ)
  pub target : Option Syntax
  pub whole : Bool
  pub json : Bool
  pub svrl : Bool
  pub phase : Option (List ℕ)
  pub rules : List (List ℕ)

abbrev pub none_given : Options
none_given = record { codes_file = None; extension_file = None; target = None; whole = false; json = false; svrl = false; phase = None; rules = [] }

abbrev pub switch_named : List ℕ → Option Switch
switch_named word =
    if bytes_eq word (codes "--codes") then Some switches.CodeLists
    else (if bytes_eq word (codes "--extension") then Some switches.Extension
    else (if bytes_eq word (codes "--to") then Some switches.SyntaxToWrite
    else (if bytes_eq word (codes "--whole") then Some switches.Whole
    else (if bytes_eq word (codes "--json") then Some switches.Json
    else (if bytes_eq word (codes "--svrl") then Some switches.Svrl
    else (if bytes_eq word (codes "--phase") then Some switches.Phase
    else (if bytes_eq word (codes "--rules") then Some switches.RuleFile
    else None)))))))

-- which options a command has
abbrev pub has : Optioned → Switch → Bool
has commands.Show switches.CodeLists = true
has commands.Show switches.Extension = true
has commands.Show switches.Json = true
has commands.Show _ = false
has commands.Totals switches.CodeLists = true
has commands.Totals switches.Extension = true
has commands.Totals switches.Json = true
has commands.Totals _ = false
has commands.View switches.CodeLists = true
has commands.View switches.Extension = true
has commands.View _ = false
has commands.Convert switches.CodeLists = true
has commands.Convert switches.Extension = true
has commands.Convert switches.SyntaxToWrite = true
has commands.Convert switches.Whole = true
has commands.Convert _ = false
has commands.Check switches.Json = true
has commands.Check switches.Svrl = true
has commands.Check switches.Phase = true
has commands.Check switches.RuleFile = true
has commands.Check _ = false
has commands.Validate switches.CodeLists = true
has commands.Validate switches.Extension = true
has commands.Validate switches.Json = true
has commands.Validate switches.Svrl = true
has commands.Validate _ = false

-- An option may be given once, that of a rule file sixteen times. A report is in SVRL or as JSON, and not both.
abbrev pub may_follow : Options → Switch → Bool
may_follow given switches.CodeLists = is_none given.codes_file
may_follow given switches.Extension = is_none given.extension_file
may_follow given switches.SyntaxToWrite = is_none given.target
may_follow given switches.Whole = not given.whole
may_follow given switches.Json = not given.json && not given.svrl
may_follow given switches.Svrl = not given.svrl && not given.json
may_follow given switches.Phase = is_none given.phase
may_follow given switches.RuleFile = nat_lt (length given.rules) 16

abbrev pub if_so : Bool → Switch → Option Switch
if_so true switch = Some switch
if_so false switch = None

-- an option that the command has, and that may still be given
abbrev pub if_offered : Optioned → Options → Option Switch → Option Switch
if_offered command given None = None
if_offered command given (Some switch) = if_so (has command switch && may_follow given switch) switch

abbrev pub offered : Optioned → Options → List ℕ → Option Switch
offered command given word = if_offered command given (switch_named word)

-- Such an option takes the word behind it, whatever it is.
abbrev pub takes_value : Switch → Bool
takes_value switches.Whole = false
takes_value switches.Json = false
takes_value switches.Svrl = false
takes_value _ = true

abbrev pub syntax_named : List ℕ → Option Syntax
syntax_named word = if bytes_eq word (codes "ubl") then Some syntaxes.Ubl else (if bytes_eq word (codes "cii") then Some syntaxes.Cii else None)

abbrev pub with_target : Options → Syntax → Options
with_target given syntax = record given { target = Some syntax }

abbrev pub with_whole : Options → Options
with_whole given = record given { whole = true }

abbrev pub with_json : Options → Options
with_json given = record given { json = true }

abbrev pub with_svrl : Options → Options
with_svrl given = record given { svrl = true }

-- the options with one more that takes no value
abbrev pub with_flag : Options → Switch → Options
with_flag given switches.Whole = with_whole given
with_flag given switches.Json = with_json given
with_flag given _ = with_svrl given

-- the options with the value of one more, if it is one
abbrev pub with_value : Options → Switch → List ℕ → Option Options
with_value given switches.CodeLists value = Some (record given { codes_file = Some value })
with_value given switches.Extension value = Some (record given { extension_file = Some value })
with_value given switches.SyntaxToWrite value = option_map (with_target given) (syntax_named value)
with_value given switches.Whole value = Some (with_whole given)
with_value given switches.Json value = Some (with_json given)
with_value given switches.Svrl value = Some (with_svrl given)
with_value given switches.Phase value = Some (record given { phase = Some value })
with_value given switches.RuleFile value = Some (record given { rules = given.rules ++ value ∷ [] })

abbrev pub or_bad : ℕ → (Options → Job) → Option Options → Job
or_bad number further None = bad_word number
or_bad number further (Some given) = further given

-- the last word, which may be an option: where that takes a value, the value is missing
abbrev pub last_word : (Options → ℕ → List (List ℕ) → Job) → Options → ℕ → List ℕ → Option Switch → Job
last_word further given number word None = further given number (word ∷ [])
last_word further given number word (Some switch) = if takes_value switch then bad_word (number + 1) else further (with_flag given switch) (number + 1) []

-- what follows by the options, the number of the word behind them, and the words from there on
abbrev pub optioned : Optioned → (Options → ℕ → List (List ℕ) → Job) → Options → ℕ → List (List ℕ) → Job
optioned command further given number [] = further given number []
optioned command further given number (word ∷ []) = last_word further given number word (offered command given word)
optioned command further given number (word ∷ (value ∷ words)) = elim (offered command given word) [
  | None ↦ further given number (word ∷ (value ∷ words))
  | (Some switch) ↦ elim (takes_value switch) [
    | false ↦ optioned command further (with_flag given switch) (number + 1) (value ∷ words)
    | true ↦ or_bad (number + 1) (λ more. optioned command further more (number + 2) words) (with_value given switch value)
  ]
]

-- ---- the commands

-- the files that may stand beside an invoice's document
abbrev pub sources : Options → Sources
sources given = record { codes_file = given.codes_file; extension_file = given.extension_file }

abbrev pub format_of : Bool → AnswerFormat
format_of true = formats.Json
format_of false = formats.Lines

abbrev pub report_format : Bool → Bool → ReportFormat
report_format true svrl = report_formats.Json
report_format false true = report_formats.Svrl
report_format false false = report_formats.Plain

abbrev pub show_of : Options → ℕ → List (List ℕ) → Job
show_of given number words = last_operand (show (format_of given.json) (sources given)) number words

abbrev pub totals_of : Options → ℕ → List (List ℕ) → Job
totals_of given number words = last_operand (totals (format_of given.json) (sources given)) number words

abbrev pub view_of : Options → ℕ → List (List ℕ) → Job
view_of given number words = last_operand (view (sources given)) number words

abbrev pub conversion : Bool → Syntax → Sources → List ℕ → Job
conversion true = convert_whole
conversion false = convert

-- Without a syntax to write, the word where the file would stand is bad.
abbrev pub convert_of : Options → ℕ → List (List ℕ) → Job
convert_of given number words = elim given.target [
  | None ↦ bad_word number
  | (Some syntax) ↦ last_operand (conversion given.whole syntax (sources given)) number words
]

-- Without a rule file, likewise.
abbrev pub check_of : Options → ℕ → List (List ℕ) → Job
check_of given number words = elim given.rules [
  | [] ↦ bad_word number
  | (file ∷ files) ↦ last_operand (check (report_format given.json given.svrl) given.phase (file ∷ files)) number words
]

abbrev pub validate_of : Options → ℕ → List (List ℕ) → Job
validate_of given number words = last_operand (validate (report_format given.json given.svrl) (sources given)) number words

abbrev pub is_digit : ℕ → Bool
is_digit c = nat_le 48 c && nat_le c 57

abbrev pub digits_value : ℕ → List ℕ → Option ℕ
digits_value n [] = Some n
digits_value n (digit ∷ digits) = if is_digit digit then digits_value (10 * n + (digit - 48)) digits else None

abbrev pub at_most : ℕ → Option ℕ → Option ℕ
at_most most None = None
at_most most (Some number) = if nat_le number most then Some number else None

-- a number from 1 to the most, in decimal digits without a leading zero
abbrev pub number_up_to : ℕ → List ℕ → Option ℕ
number_up_to most [] = None
number_up_to most (digit ∷ digits) = if nat_eq digit 48 then None else at_most most (digits_value 0 (digit ∷ digits))

-- what follows by the number that the second word is
abbrev pub by_number : (ℕ → Job) → Option ℕ → Job
by_number further None = bad_word 2
by_number further (Some number) = further number

abbrev pub extract_of : List (List ℕ) → Job
extract_of [] = bad_word 2
extract_of (word ∷ words) = by_number (λ number. last_operand (extract number) 3 words) (number_up_to 9999 word)

-- the most lines of a trial's invoice
abbrev pub most_lines : ℕ
most_lines = 10000

abbrev pub try_of : List (List ℕ) → Job
try_of [] = bad_word 2
try_of (word ∷ words) = by_number (λ lines. with_no_more 3 (trial lines) words) (number_up_to most_lines word)

-- An expression that begins with two dashes is none.
abbrev pub query_of : List (List ℕ) → Job
query_of [] = bad_word 2
query_of (word ∷ words) = if is_option word then bad_word 2 else last_operand (query word) 3 words

abbrev pub job : List (List ℕ) → Job
job [] = bad_word 1
job (command ∷ words) =
    if bytes_eq command (codes "outline") then last_operand outline 2 words
    else (if bytes_eq command (codes "show") then optioned commands.Show show_of none_given 2 words
    else (if bytes_eq command (codes "totals") then optioned commands.Totals totals_of none_given 2 words
    else (if bytes_eq command (codes "view") then optioned commands.View view_of none_given 2 words
    else (if bytes_eq command (codes "convert") then optioned commands.Convert convert_of none_given 2 words
    else (if bytes_eq command (codes "check") then optioned commands.Check check_of none_given 2 words
    else (if bytes_eq command (codes "validate") then optioned commands.Validate validate_of none_given 2 words
    else (if bytes_eq command (codes "extract") then extract_of words
    else (if bytes_eq command (codes "query") then query_of words
    else (if bytes_eq command (codes "try") then try_of words
    else (if bytes_eq command (codes "--help") then with_no_more 2 help words
    else (if bytes_eq command (codes "--version") then with_no_more 2 version words
    else bad_word 1)))))))))))

abbrev pub words_of : List (String Global) → List (List ℕ)
words_of words = map string_bytes words
