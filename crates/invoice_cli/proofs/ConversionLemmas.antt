-- What conversions write is read back.
use Rattle.std.proofs.Common.{◌≡◌, ℕ, List, Option, ◌∙◌}
use Rattle.inv_base.specs.Files.{Files, bytes_under}
use Rattle.inv_terms.specs.declared.entries.Entry.{Entry}
use Rattle.inv_terms.specs.Listing.{IsInvoice}
use Rattle.inv_terms.specs.Whole.{IsValid}
use Rattle.bind_meaning.specs.Terms.{Read}
use Rattle.bind_meaning.specs.declared.tables.Syntax.{Syntax}
use Rattle.bind_run.specs.Extensions.{AreGood}
use Rattle.written_laws.specs.Texts.{exactly}
use Rattle.job_protocol.specs.declared.status.Status.TheVariants as statuses
use Rattle.job_protocol.specs.Protocol.{Answer, done, answer_of}
use Rattle.job_protocol.specs.Runs.{EndsIn}
use Rattle.invoice_jobs.specs.Sources.{Sources, ReadingProfile}
use Rattle.invoice_jobs.specs.Invoices.{converted, listed, convert_protocol, convert_whole_protocol}
use Rattle.invoice_jobs.specs.Conversions.{AreReadAs, IsProfile, IsReadAs, IsCarriedBy, text_of_invoice, Holds, IsDocumentText, IsConverted, IsConvertedThere}
use Rattle.invoice_jobs.specs.Conversions.{IsConvertedWhole}
use Rattle.invoice_jobs.proofs.ConversionLemmas.{read-goes, converted-done}
use Rattle.invoice_cli.specs.Job.{convert}
use Rattle.invoice_cli.specs.Answer.{answer_to}
use Rattle.invoice_cli.specs.Conversions.{ConversionsReturn}

module _
    (written_read : (files : Files) (file : List ℕ) (sources : Sources) (reading_profile : ReadingProfile) (syntax : Syntax) (es : List Entry)
    → IsInvoice es → IsValid es reading_profile.lists → IsCarriedBy syntax reading_profile es
    → Holds files file (text_of_invoice syntax reading_profile es) sources reading_profile → IsReadAs files file reading_profile (exactly es))
  where
    converts : (steps : ℕ) (files : Files) (file : List ℕ) (sources : Sources) (reading_profile : ReadingProfile) (first other : Syntax) (es : List Entry)
        → IsInvoice es → IsValid es reading_profile.lists
        → IsCarriedBy first reading_profile es → IsCarriedBy other reading_profile es → Holds files file (text_of_invoice first reading_profile es) sources
        reading_profile
        → answer_to steps (convert other sources file) files ≡ done (text_of_invoice other reading_profile es)
    converts steps files file sources reading_profile first other es invoice valid by too held =
        read-goes files sources file reading_profile (exactly es) (converted other) held.profile_is (written_read files file sources reading_profile first es
        invoice valid by held)
        ∙ converted-done other reading_profile (exactly es) files too

    pub conversions-return : ((files : Files) (sources : Sources) (reading_profile : ReadingProfile) → IsProfile files sources reading_profile
        → AreGood reading_profile.terms)
        → ((files : Files) (file : List ℕ) (reading_profile : ReadingProfile) (read : Read) → AreGood reading_profile.terms
        → IsReadAs files file reading_profile read
        → IsInvoice read.entries × IsValid read.entries reading_profile.lists)
        → ((bytes : List ℕ) (reading_profile : ReadingProfile) (read : Read) (syntax : Syntax) → AreGood reading_profile.terms
        → AreReadAs bytes reading_profile read
        → IsCarriedBy syntax reading_profile read.entries → IsDocumentText syntax reading_profile read.entries)
        → ((files : Files) (syntax : Syntax) (sources : Sources) (file : List ℕ) → (answer_of (convert_protocol syntax sources file) files).status
        ≡ statuses.Done
        → IsConverted files syntax sources file (answer_of (convert_protocol syntax sources file) files))
        → ((held : Option Files) (syntax : Syntax) (sources : Sources) (file : List ℕ) (count : ℕ) (answer : Answer)
        → EndsIn held (convert_protocol syntax sources file) count answer → answer.status ≡ statuses.Done → IsConvertedThere held syntax sources file answer)
        → ((held : Option Files) (syntax : Syntax) (sources : Sources) (file : List ℕ) (count : ℕ) (answer : Answer)
        → EndsIn held (convert_whole_protocol syntax sources file) count answer → answer.status ≡ statuses.Done
        → IsConvertedWhole held syntax sources file answer)
        → ConversionsReturn
    conversions-return are_good read_valid texts told ended whole = record {
      carried = λ steps first other sources file files reading_profile read are is by.
          let terms = are_good files sources reading_profile are in
          let valid = read_valid files file reading_profile read terms is in (
            read-goes files sources file reading_profile read (converted first) are is ∙ converted-done first reading_profile read files by,
            record {
              text = texts (bytes_under file files) reading_profile read first terms is by;
              shown = λ format others name held.
                  read-goes others sources name reading_profile (exactly read.entries) (listed format) held.profile_is
                  (written_read others name sources reading_profile first read.entries valid.0 valid.1 by held);
              back = λ too others name held. converts steps others name sources reading_profile first other read.entries valid.0 valid.1 by too held;
              again = λ too others name held. converts steps others name sources reading_profile other first read.entries valid.0 valid.1 too by held;
            },
          );
      answered = λ steps syntax sources file files good. told files syntax sources file good;
      ended = λ steps syntax sources file held count answer is good. ended held syntax sources file count answer is good;
      whole = λ steps syntax sources file held count answer is good. whole held syntax sources file count answer is good;
    }
