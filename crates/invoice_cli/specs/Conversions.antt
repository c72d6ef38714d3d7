-- What conversions give: the document of an invoice that was read, which means the same in both syntaxes, whatever terms a user adds.
use Rattle.std.specs.Prelude.{◌≡◌, ℕ, List, Option}
use Rattle.inv_base.specs.Files.{Files}
use Rattle.inv_terms.specs.declared.entries.Entry.{Entry}
use Rattle.bind_meaning.specs.Terms.{Read}
use Rattle.bind_meaning.specs.declared.tables.Syntax.{Syntax}
use Rattle.job_protocol.specs.declared.status.Status.TheVariants as statuses
use Rattle.job_protocol.specs.Protocol.{Answer, done}
use Rattle.job_protocol.specs.Runs.{EndsIn}
use Rattle.invoice_jobs.specs.Sources.{Sources, ReadingProfile}
use Rattle.invoice_jobs.specs.declared.formats.AnswerFormat.{AnswerFormat}
use Rattle.invoice_jobs.specs.Invoices.{listing_in}
use Rattle.invoice_jobs.specs.Conversions.{IsProfile, IsReadAs, IsCarriedBy, text_of_invoice, Holds, IsDocumentText, IsConverted, IsConvertedThere}
use Rattle.invoice_jobs.specs.Conversions.{IsConvertedWhole}
use Rattle.invoice_cli.specs.Job.{show, convert, convert_whole}
use Rattle.invoice_cli.specs.Answer.{protocol_of, answer_to}

-- What was written in the first syntax is a document of the invoice, and is read as exactly these terms. Where the other carries them too, converting it to
-- that writes the same terms, and converting this back writes the first bytes again: with the same code lists and the same extension terms throughout.
pub record IsConvertedBack (steps : ℕ) (first other : Syntax) (sources : Sources) (reading_profile : ReadingProfile) (es : List Entry) : Type 0 where
  pub text : IsDocumentText first reading_profile es
  pub shown : (format : AnswerFormat) (files : Files) (file : List ℕ) → Holds files file (text_of_invoice first reading_profile es) sources reading_profile →
      answer_to steps (show format sources file) files ≡ done (listing_in format es 0)
  pub back : IsCarriedBy other reading_profile es → (files : Files) (file : List ℕ) → Holds files file (text_of_invoice first reading_profile es) sources
      reading_profile
      → answer_to steps (convert other sources file) files ≡ done (text_of_invoice other reading_profile es)
  pub again : IsCarriedBy other reading_profile es → (files : Files) (file : List ℕ) → Holds files file (text_of_invoice other reading_profile es) sources
      reading_profile
      → answer_to steps (convert first sources file) files ≡ done (text_of_invoice first reading_profile es)

pub record ConversionsReturn : Type 0 where
  -- Converting an invoice that the syntax carries writes the syntax's document of it, and that can be converted back.
  pub carried : (steps : ℕ) (first other : Syntax) (sources : Sources) (file : List ℕ) (files : Files) (reading_profile : ReadingProfile) (read : Read)
      → IsProfile files sources reading_profile → IsReadAs files file reading_profile read → IsCarriedBy first reading_profile read.entries
      → (answer_to steps (convert first sources file) files ≡ done (text_of_invoice first reading_profile read.entries)) ×
      IsConvertedBack steps first other sources reading_profile read.entries
  -- From the answer: Done is answered only where the code lists and the extension terms were accepted, the file was read by them as an invoice and the syntax
  -- carries it. What was answered is its text, a document of exactly the tree of the invoice's, which is read as exactly its entries ..
  pub answered : (steps : ℕ) (syntax : Syntax) (sources : Sources) (file : List ℕ) (files : Files)
      → (answer_to steps (convert syntax sources file) files).status ≡ statuses.Done
      → IsConverted files syntax sources file (answer_to steps (convert syntax sources file) files)
  -- .. and so is each answer with which the job ends where each file has some content, which is its own where the files are told.
  pub ended : (steps : ℕ) (syntax : Syntax) (sources : Sources) (file : List ℕ) (held : Option Files) (count : ℕ) (answer : Answer)
      → EndsIn held (protocol_of steps (convert syntax sources file)) count answer → answer.status ≡ statuses.Done
      → IsConvertedThere held syntax sources file answer
  -- Where nothing may be lost, Done is answered only where nothing is: no element of the document is passed over, and none of the table's is unread.
  -- What was answered is what converting it answers.
  pub whole : (steps : ℕ) (syntax : Syntax) (sources : Sources) (file : List ℕ) (held : Option Files) (count : ℕ) (answer : Answer)
      → EndsIn held (protocol_of steps (convert_whole syntax sources file)) count answer → answer.status ≡ statuses.Done
      → IsConvertedWhole held syntax sources file answer
