-- What files hold and are read as, what converting them answers, and what is read of that: what conversions give back speaks of these.
use Rattle.std.specs.Prelude.{◌≡◌, ℕ, List, [], Option, Some, None, Ok, true}
use Rattle.inv_base.specs.Files.{Files, bytes_under}
use Rattle.code_lists.specs.CodeFiles.{Lists, built_in_lists, file_lists}
use Rattle.extension_files.specs.declared.terms.ExtTerm.{ExtTerm}
use Rattle.extension_files.specs.ExtensionFiles.{file_terms}
use Rattle.inv_terms.specs.declared.entries.Entry.{Entry}
use Rattle.xml_profile.specs.Profile.{IsXml, document}
use Rattle.xml_profile.specs.Profile as profile
use Rattle.node_arena.specs.Moves.{tree_nodes}
use Rattle.bind_meaning.specs.Terms.{Read}
use Rattle.bind_meaning.specs.declared.tables.Syntax.{Syntax}
use Rattle.bind_run.specs.Extensions.{rows_for, judged}
use Rattle.bind_run.specs.Reading.{first_lost}
use Rattle.written_laws.specs.Texts.{exactly}
use Rattle.extension_laws.specs.Texts.{tree_by, text_by, IsCarriedIn, AreReadBy}
use Rattle.job_protocol.specs.Protocol.{Answer, done, is_within, list_limit, document_limits}
use Rattle.job_protocol.specs.Runs.{IsContentOf, AreListed}
use Rattle.job_protocol.specs.Views.{document_read}
use Rattle.invoice_jobs.specs.Sources.{Sources, ReadingProfile}

-- ---- what the files beside a document give

-- The lists are those of a file, or the built-in ones.
pub data AreLists (files : Files) : Option (List ℕ) → Lists → Type 0 where
  built_in : AreLists files None built_in_lists
  of_file : (name : List ℕ) (lists : Lists) → is_within list_limit (bytes_under name files) ≡ true → file_lists (bytes_under name files) ≡ Ok lists
      → AreLists files (Some name) lists

-- The terms are those of a file with which each of the three tables is well formed, or none.
pub data AreTerms (files : Files) : Option (List ℕ) → List ExtTerm → Type 0 where
  none : AreTerms files None []
  of_a_file : (name : List ℕ) (terms : List ExtTerm) → is_within list_limit (bytes_under name files) ≡ true → file_terms (bytes_under name files) ≡ Ok terms
      → judged (rows_for terms) ≡ Ok tt → AreTerms files (Some name) terms

pub record IsProfile (files : Files) (sources : Sources) (reading_profile : ReadingProfile) : Type 0 where
  pub lists_are : AreLists files sources.codes_file reading_profile.lists
  pub terms_are : AreTerms files sources.extension_file reading_profile.terms

-- ---- what an invoice is written as, and what bytes are read as, by these

abbrev pub text_of_invoice : Syntax → ReadingProfile → List Entry → List ℕ
text_of_invoice syntax reading_profile es = text_by (rows_for reading_profile.terms) syntax es

abbrev pub IsCarriedBy : Syntax → ReadingProfile → List Entry → Type 0
IsCarriedBy syntax reading_profile es = IsCarriedIn (rows_for reading_profile.terms) syntax es

abbrev pub AreReadAs : List ℕ → ReadingProfile → Read → Type 0
AreReadAs bytes reading_profile read = AreReadBy (rows_for reading_profile.terms) bytes reading_profile.lists read

-- The file is read as this invoice.
abbrev pub IsReadAs : Files → List ℕ → ReadingProfile → Read → Type 0
IsReadAs files file reading_profile read = AreReadAs (bytes_under file files) reading_profile read

-- A file holds the text, and the files beside it give this.
pub record Holds (files : Files) (file text : List ℕ) (sources : Sources) (reading_profile : ReadingProfile) : Type 0 where
  pub same : bytes_under file files ≡ text
  pub profile_is : IsProfile files sources reading_profile

-- ---- what converting answers

-- The text of the invoice in the syntax is XML of exactly the tree of its document there, and is read as exactly its entries, with nothing passed over.
pub record IsDocumentText (syntax : Syntax) (reading_profile : ReadingProfile) (es : List Entry) : Type 0 where
  pub tree : IsXml document_limits (text_of_invoice syntax reading_profile es) (tree_by (rows_for reading_profile.terms) syntax es)
  pub read : AreReadAs (text_of_invoice syntax reading_profile es) reading_profile (exactly es)

-- The answer is the text of an invoice that was read, which the syntax carries.
pub record IsConversion (syntax : Syntax) (reading_profile : ReadingProfile) (read : Read) (answer : Answer) : Type 0 where
  pub carried : IsCarriedBy syntax reading_profile read.entries
  pub answer_is : answer ≡ done (text_of_invoice syntax reading_profile read.entries)
  pub text : IsDocumentText syntax reading_profile read.entries

-- The files beside the document were accepted, it was read by them as an invoice, and the answer is its text.
pub record IsConverted (files : Files) (syntax : Syntax) (sources : Sources) (file : List ℕ) (answer : Answer) : Type 0 where
  pub reading_profile : ReadingProfile
  pub profile_is : IsProfile files sources reading_profile
  pub read : Read
  pub read_as : IsReadAs files file reading_profile read
  pub gives : IsConversion syntax reading_profile read answer

-- The lists are those of some content of the file, which is its own where the files are told, or the built-in ones.
abbrev pub AreAccepted : Option Files → Option (List ℕ) → Lists → Type 0
AreAccepted held None lists = lists ≡ built_in_lists
AreAccepted held (Some name) lists = AreListed held name lists

-- The terms are those of some content of the file, likewise, and each of the three tables is well formed with them.
pub record AreAdded (held : Option Files) (name : List ℕ) (terms : List ExtTerm) : Type 0 where
  pub content : List ℕ
  pub of_file : IsContentOf held name content
  pub within : is_within list_limit content ≡ true
  pub are : file_terms content ≡ Ok terms
  pub good : judged (rows_for terms) ≡ Ok tt

abbrev pub AreAddedOrNone : Option Files → Option (List ℕ) → List ExtTerm → Type 0
AreAddedOrNone held None terms = terms ≡ []
AreAddedOrNone held (Some name) terms = AreAdded held name terms

-- The same of some content of each file, which is its own where the files are told.
pub record IsConvertedThere (held : Option Files) (syntax : Syntax) (sources : Sources) (file : List ℕ) (answer : Answer) : Type 0 where
  pub reading_profile : ReadingProfile
  pub lists_are : AreAccepted held sources.codes_file reading_profile.lists
  pub terms_are : AreAddedOrNone held sources.extension_file reading_profile.terms
  pub content : List ℕ
  pub of_file : IsContentOf held file content
  pub read : Read
  pub read_as : AreReadAs content reading_profile read
  pub gives : IsConversion syntax reading_profile read answer

-- ---- where nothing may be lost

-- Nothing of such a document is lost by these terms: no element is passed over, and no element or attribute of the table is unread.
abbrev pub NothingIsLost : List ℕ → ReadingProfile → Type 0
NothingIsLost content reading_profile = (found : profile.Document) → document document_limits content ≡ Ok found
    → first_lost (rows_for reading_profile.terms) (tree_nodes (document_read found)) ≡ None

-- The answer is that of a conversion, and nothing of the document was lost.
pub record IsConvertedWhole (held : Option Files) (syntax : Syntax) (sources : Sources) (file : List ℕ) (answer : Answer) : Type 0 where
  pub converted : IsConvertedThere held syntax sources file answer
  pub whole : NothingIsLost converted.content converted.reading_profile
