-- Where converting is done: what was read, and what is read of what was written.
use Rattle.std.proofs.Common.{◌≡◌, ℕ, true, List, [], Option, Some, None, Result, Ok, Err, refl, sym, ap, subst, ◌∙◌}
use Rattle.inv_base.specs.Files.{Files}
use Rattle.code_lists.specs.CodeFiles.{Lists, built_in_lists, file_lists}
use Rattle.inv_terms.specs.declared.entries.Entry.{Entry}
use Rattle.inv_terms.specs.Listing.{IsInvoice}
use Rattle.inv_terms.specs.Whole.{IsValid}
use Rattle.xml_profile.specs.Profile as profile
use Rattle.node_arena.specs.Moves.{tree_nodes}
use Rattle.extension_files.specs.declared.terms.ExtTerm.{ExtTerm}
use Rattle.extension_files.specs.ExtensionFiles.{file_terms}
use Rattle.bind_rows.specs.declared.rows.Row.{Row}
use Rattle.bind_rows.specs.declared.tables.DocumentType.{DocumentType}
use Rattle.bind_meaning.specs.Terms.{Read}
use Rattle.bind_meaning.specs.declared.fault.BindFault.{BindFault}
use Rattle.bind_meaning.specs.declared.tables.Syntax.{Syntax}
use Rattle.bind_carrying.specs.declared.carrying.NotCarried.{NotCarried}
use Rattle.bind_carrying.specs.Carrying.{carrying}
use Rattle.bind_run.specs.Extensions.{rows_for, judged, AreGood}
use Rattle.bind_run.specs.Reading.{first_lost, invoice_by}
use Rattle.written_laws.specs.Texts.{exactly}
use Rattle.extension_laws.specs.Texts.{AreOpen, AreReadBy, IsCarriedIn, target_rows, text_by, tree_by}
use Rattle.job_protocol.specs.declared.status.Status.TheVariants as statuses
use Rattle.job_protocol.specs.Protocol.{Answer, Protocol, done, refusal, answer_of, readings, is_within, list_limit, document_limits}
use Rattle.job_protocol.specs.Runs.{EndsIn}
use Rattle.job_protocol.specs.Views.{document_read}
use Rattle.invoice_jobs.proofs.EndLemmas.{end_is_answer, document_done, lists_done, terms_done, answer_ends}
use Rattle.xml_state.specs.declared.fault.XmlFault.{XmlFault}
use Rattle.node_arena.specs.Document.{Document}
use Rattle.invoice_jobs.specs.Sources.{Sources, ReadingProfile, extended_protocol, listed_protocol, profile_protocol, with_terms}
use Rattle.invoice_jobs.specs.Invoices.{invoice_line, condition_line, by_invoice, invoice_protocol, by_carrying, converted, convert_protocol}
use Rattle.invoice_jobs.specs.Invoices.{by_loss, convert_whole_protocol, lost_line, whole_invoice_protocol}
use Rattle.invoice_jobs.specs.Conversions.{AreLists, built_in, of_file, AreTerms, none, of_a_file, AreReadAs, IsCarriedBy, text_of_invoice, IsDocumentText}
use Rattle.invoice_jobs.specs.Conversions.{IsConverted, AreAccepted, AreAddedOrNone, IsConvertedThere, IsConvertedWhole}

-- ---- the ends of what follows by an invoice

-- The syntax carried it, and its text was answered.
carrying-done : (held : Option Files) (text : List ℕ) (carried : Result (Unit {0}) NotCarried) (n : ℕ) (a : Answer)
    → EndsIn held (by_carrying text carried) n a → a.status ≡ statuses.Done
    → (carried ≡ Ok tt) × (a ≡ done text)
carrying-done held text (Ok fits) n a ended good = (refl, end_is_answer held (done text) a n ended)
carrying-done held text (Err fault) n a ended good =
    let refused = ap (λ (x : Answer). x.status) (end_is_answer held (refusal statuses.Unable (condition_line fault)) a n ended) in
    absurd (let z : statuses.Unable ≡ statuses.Done = sym refused ∙ good in cc)

-- It was read.
record IsInvoiceDone (held : Option Files) (found : Result Read BindFault) (next : Read → Protocol) (a : Answer) : Type 0 where
  pub read : Read
  pub is : found ≡ Ok read
  pub count : ℕ
  pub ends_in : EndsIn held (next read) count a

invoice-done : (held : Option Files) (file : List ℕ) (found : profile.Document) (next : Read → Protocol) (invoice : Result Read BindFault) (n : ℕ) (a : Answer)
    → EndsIn held (by_invoice file (document_read found) next invoice) n a → a.status ≡ statuses.Done → IsInvoiceDone held invoice next a
invoice-done held file found next (Ok read) n a ended good = record { read = read; is = refl; count = n; ends_in = ended }
invoice-done held file found next (Err fault) n a ended good =
    let refused = ap (λ (x : Answer). x.status) (end_is_answer held (refusal statuses.DocumentRefused (invoice_line file (document_read found) fault)) a n
    ended) in
    absurd (let z : statuses.DocumentRefused ≡ statuses.Done = sym refused ∙ good in cc)

-- Nothing was lost.
loss-done : (held : Option Files) (document : Document) (next : Protocol) (lost : Option ℕ) (n : ℕ) (a : Answer)
    → EndsIn held (by_loss document next lost) n a → a.status ≡ statuses.Done → (lost ≡ None) × EndsIn held next n a
loss-done held document next None n a ended good = (refl, ended)
loss-done held document next (Some k) n a ended good =
    let refused = ap (λ (x : Answer). x.status) (end_is_answer held (refusal statuses.Unable (lost_line document k)) a n ended) in
    absurd (let z : statuses.Unable ≡ statuses.Done = sym refused ∙ good in cc)

same-found : (a b : profile.Document) → ◌≡◌ {A = Result profile.Document XmlFault} (Ok a) (Ok b) → a ≡ b
same-found a b e = cc

-- The files beside the document were accepted, and what follows by them ends with the answer.
module _ (held : Option Files) (codes_file extension_file : Option (List ℕ)) (a : Answer) (good : a.status ≡ statuses.Done) (R : Type 0)
    (protocol : ReadingProfile → Protocol) (no_terms : AreGood [])
    (terms_good : (bytes : List ℕ) (terms : List ExtTerm) → file_terms bytes ≡ Ok terms → judged (rows_for terms) ≡ Ok tt → AreGood terms)
    (follows : (p : ReadingProfile) (m : ℕ) → AreAccepted held codes_file p.lists → AreAddedOrNone held extension_file p.terms → AreGood p.terms
    → EndsIn held (protocol p) m a → R)
  where
    added-done : (o : Option (List ℕ)) → o ≡ extension_file → (lists : Lists) (n : ℕ) → AreAccepted held codes_file lists
        → EndsIn held (extended_protocol o (λ terms. protocol (record { lists = lists; terms = terms }))) n a → R
    added-done None e lists n accepted ended =
        follows (record { lists = lists; terms = [] }) n accepted (subst (λ x. AreAddedOrNone held x []) e refl) no_terms ended
    added-done (Some name) e lists n accepted ended =
        let t = terms_done held name (λ terms. protocol (record { lists = lists; terms = terms })) n a ended good in
        follows (record { lists = lists; terms = t.terms }) t.count accepted (subst (λ x. AreAddedOrNone held x t.terms) e t.are)
        (terms_good t.are.content t.terms t.are.are t.are.good) t.ends_in

    lists-done : (o : Option (List ℕ)) → o ≡ codes_file → (n : ℕ)
        → EndsIn held (with_terms (listed_protocol o) extension_file protocol) n a → R
    lists-done None e n ended = added-done extension_file refl built_in_lists n (subst (λ x. AreAccepted held x built_in_lists) e refl) ended
    lists-done (Some name) e n ended =
        let l = lists_done held name (λ lists. extended_protocol extension_file (λ terms. protocol (record { lists = lists; terms = terms }))) n a ended good in
        added-done extension_file refl l.lists l.count (subst (λ x. AreAccepted held x l.lists) e l.are) l.ends_in

    profile-done : (n : ℕ) → EndsIn held (profile_protocol (record { codes_file = codes_file; extension_file = extension_file }) protocol) n a → R
    profile-done n ended = lists-done codes_file refl n ended

-- What is read and carried is written as a document, and that is read as it.
pub text-of : ((bytes : List ℕ) (reading_profile : ReadingProfile) (read : Read) → AreGood reading_profile.terms → AreReadAs bytes reading_profile read
    → IsInvoice read.entries × IsValid
    read.entries reading_profile.lists)
    → ((terms : List ExtTerm) → AreGood terms → AreOpen (rows_for terms))
    → ((tables : DocumentType → List Row) (syntax : Syntax) (es : List Entry) (lists : Lists) → AreOpen tables → IsInvoice es → IsValid es lists
    → IsCarriedIn tables
    syntax es
    → profile.IsXml document_limits (text_by tables syntax es) (tree_by tables syntax es))
    → ((tables : DocumentType → List Row) (syntax : Syntax) (es : List Entry) (lists : Lists) → AreOpen tables → IsInvoice es → IsValid es lists
    → IsCarriedIn tables
    syntax es
    → AreReadBy tables (text_by tables syntax es) lists (exactly es))
    → (bytes : List ℕ) (reading_profile : ReadingProfile) (read : Read) (syntax : Syntax) → AreGood reading_profile.terms → AreReadAs bytes reading_profile read
    → IsCarriedBy syntax reading_profile read.entries
    → IsDocumentText syntax reading_profile read.entries
text-of valid opened xml round bytes reading_profile read syntax good is by =
    let v = valid bytes reading_profile read good is in
    let each = opened reading_profile.terms good in
    record {
      tree = xml (rows_for reading_profile.terms) syntax read.entries reading_profile.lists each v.0 v.1 by;
      read = round (rows_for reading_profile.terms) syntax read.entries reading_profile.lists each v.0 v.1 by;
    }

module _
    (texts : (bytes : List ℕ) (reading_profile : ReadingProfile) (read : Read) (syntax : Syntax) → AreGood reading_profile.terms
    → AreReadAs bytes reading_profile read → IsCarriedBy syntax reading_profile
    read.entries
    → IsDocumentText syntax reading_profile read.entries)
    (no_terms : AreGood [])
    (terms_good : (bytes : List ℕ) (terms : List ExtTerm) → file_terms bytes ≡ Ok terms → judged (rows_for terms) ≡ Ok tt → AreGood terms)
  where
    by-reading_profile : (held : Option Files) (syntax : Syntax) (sources : Sources) (file : List ℕ) (reading_profile : ReadingProfile) (n : ℕ) (a : Answer)
        → AreAccepted held sources.codes_file reading_profile.lists
        → AreAddedOrNone held sources.extension_file reading_profile.terms → AreGood reading_profile.terms
        → EndsIn held (invoice_protocol file reading_profile (λ read. converted syntax (record { reading_profile = reading_profile; read = read }))) n a
        → a.status ≡ statuses.Done
        → IsConvertedThere held syntax sources file a
    by-reading_profile held syntax sources file reading_profile n a accepted added terms_are ended good =
        let next : Read → Protocol = λ read. converted syntax (record { reading_profile = reading_profile; read = read }) in
        let d = document_done held file (λ found. by_invoice file (document_read found) next
        (invoice_by (rows_for reading_profile.terms) (tree_nodes (document_read found)) reading_profile.lists)) n a ended good in
        let i = invoice-done held file d.found next (invoice_by (rows_for reading_profile.terms) (tree_nodes (document_read d.found)) reading_profile.lists)
        d.count a d.ends_in
        good in
        let c = carrying-done held (text_of_invoice syntax reading_profile i.read.entries)
        (carrying (target_rows (rows_for reading_profile.terms) syntax i.read.entries) i.read.entries) i.count a i.ends_in good in
        let is : AreReadAs d.content reading_profile i.read = record { found = d.found; is = d.is; invoice = i.is } in
        record {
          reading_profile = reading_profile;
          lists_are = accepted;
          terms_are = added;
          content = d.content;
          of_file = d.of_file;
          read = i.read;
          read_as = is;
          gives = record { carried = c.0; answer_is = c.1; text = texts d.content reading_profile i.read syntax terms_are is c.0 };
        }

    pub convert-ended : (held : Option Files) (syntax : Syntax) (sources : Sources) (file : List ℕ) (n : ℕ) (a : Answer)
        → EndsIn held (convert_protocol syntax sources file) n a → a.status ≡ statuses.Done → IsConvertedThere held syntax sources file a
    convert-ended held syntax sources file n a ended good =
        profile-done held sources.codes_file sources.extension_file a good (IsConvertedThere held syntax sources file a)
        (λ p. invoice_protocol file p (λ read. converted syntax (record { reading_profile = p; read = read }))) no_terms terms_good
        (λ p m accepted added terms_are ends. by-reading_profile held syntax sources file p m a accepted added terms_are ends good) n ended

    -- ---- the same, where nothing of the document may be lost

    by-whole_profile : (held : Option Files) (syntax : Syntax) (sources : Sources) (file : List ℕ) (reading_profile : ReadingProfile) (n : ℕ) (a : Answer)
        → AreAccepted held sources.codes_file reading_profile.lists
        → AreAddedOrNone held sources.extension_file reading_profile.terms → AreGood reading_profile.terms
        → EndsIn held (whole_invoice_protocol file reading_profile (λ read. converted syntax (record { reading_profile = reading_profile; read = read }))) n a
        → a.status ≡ statuses.Done
        → IsConvertedWhole held syntax sources file a
    by-whole_profile held syntax sources file reading_profile n a accepted added terms_are ended good =
        let next : Read → Protocol = λ read. converted syntax (record { reading_profile = reading_profile; read = read }) in
        let lost : profile.Document → Option ℕ = λ found. first_lost (rows_for reading_profile.terms) (tree_nodes (document_read found)) in
        let d = document_done held file (λ found. by_invoice file (document_read found) (λ read. by_loss (document_read found) (next read) (lost found))
        (invoice_by (rows_for reading_profile.terms) (tree_nodes (document_read found)) reading_profile.lists)) n a ended good in
        let i = invoice-done held file d.found (λ read. by_loss (document_read d.found) (next read) (lost d.found))
        (invoice_by (rows_for reading_profile.terms) (tree_nodes (document_read d.found)) reading_profile.lists) d.count a d.ends_in good in
        let l = loss-done held (document_read d.found) (next i.read) (lost d.found) i.count a i.ends_in good in
        let c = carrying-done held (text_of_invoice syntax reading_profile i.read.entries)
        (carrying (target_rows (rows_for reading_profile.terms) syntax i.read.entries) i.read.entries) i.count a l.1 good in
        let is : AreReadAs d.content reading_profile i.read = record { found = d.found; is = d.is; invoice = i.is } in
        record {
          converted = record {
            reading_profile = reading_profile;
            lists_are = accepted;
            terms_are = added;
            content = d.content;
            of_file = d.of_file;
            read = i.read;
            read_as = is;
            gives = record { carried = c.0; answer_is = c.1; text = texts d.content reading_profile i.read syntax terms_are is c.0 };
          };
          whole = λ found found_is. ap lost (same-found found d.found (sym found_is ∙ d.is)) ∙ l.0;
        }

    pub whole-ended : (held : Option Files) (syntax : Syntax) (sources : Sources) (file : List ℕ) (n : ℕ) (a : Answer)
        → EndsIn held (convert_whole_protocol syntax sources file) n a → a.status ≡ statuses.Done → IsConvertedWhole held syntax sources file a
    whole-ended held syntax sources file n a ended good =
        profile-done held sources.codes_file sources.extension_file a good (IsConvertedWhole held syntax sources file a)
        (λ p. whole_invoice_protocol file p (λ read. converted syntax (record { reading_profile = p; read = read }))) no_terms terms_good
        (λ p m accepted added terms_are ends. by-whole_profile held syntax sources file p m a accepted added terms_are ends good) n ended

-- ---- where the files are told

are-lists : (files : Files) (codes_file : Option (List ℕ)) (lists : Lists) → AreAccepted (Some files) codes_file lists → AreLists files codes_file lists
are-lists files None lists is = subst (AreLists files None) (sym is) built_in
are-lists files (Some name) lists are =
    let same = are.of_file files refl in
    of_file name lists (subst (λ bytes. is_within list_limit bytes ≡ true) same are.within) (subst (λ bytes. file_lists bytes ≡ Ok lists) same are.are)

are-terms : (files : Files) (extension_file : Option (List ℕ)) (terms : List ExtTerm) → AreAddedOrNone (Some files) extension_file terms
    → AreTerms files extension_file terms
are-terms files None terms is = subst (AreTerms files None) (sym is) none
are-terms files (Some name) terms are =
    let same = are.of_file files refl in
    of_a_file name terms (subst (λ bytes. is_within list_limit bytes ≡ true) same are.within) (subst (λ bytes. file_terms bytes ≡ Ok terms) same are.are)
    are.good

told : (files : Files) (syntax : Syntax) (sources : Sources) (file : List ℕ) (a : Answer) → IsConvertedThere (Some files) syntax sources file a
    → IsConverted files syntax sources file a
told files syntax sources file a there = record {
  reading_profile = there.reading_profile;
  profile_is = record {
    lists_are = are-lists files sources.codes_file there.reading_profile.lists there.lists_are;
    terms_are = are-terms files sources.extension_file there.reading_profile.terms there.terms_are;
  };
  read = there.read;
  read_as = subst (λ bytes. AreReadAs bytes there.reading_profile there.read) (there.of_file files refl) there.read_as;
  gives = there.gives;
}

pub convert-done : ((held : Option Files) (syntax : Syntax) (sources : Sources) (file : List ℕ) (n : ℕ) (a : Answer)
    → EndsIn held (convert_protocol syntax sources file) n a → a.status ≡ statuses.Done → IsConvertedThere held syntax sources file a)
    → (files : Files) (syntax : Syntax) (sources : Sources) (file : List ℕ) → (answer_of (convert_protocol syntax sources file) files).status ≡ statuses.Done
    → IsConverted files syntax sources file (answer_of (convert_protocol syntax sources file) files)
convert-done ended files syntax sources file good =
    let protocol = convert_protocol syntax sources file in
    told files syntax sources file (answer_of protocol files) (ended (Some files) syntax sources file (readings protocol files) (answer_of protocol files)
    (answer_ends files protocol) good)
