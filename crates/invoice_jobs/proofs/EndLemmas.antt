-- Where a protocol ends in Done, what it read was accepted; and the answer to files is one with which it ends.
use Rattle.std.proofs.Common.{◌≡◌, ℕ, suc, List, Option, Some, Result, Ok, Err, Bool, true, false, refl, ap, sym, ◌∙◌}
use Rattle.inv_base.specs.Files.{Files, bytes_under}
use Rattle.code_lists.specs.CodeFiles.{Lists, file_lists}
use Rattle.code_lists.specs.declared.fault.ListFault.{ListFault}
use Rattle.extension_files.specs.declared.fault.ExtFault.{ExtFault}
use Rattle.extension_files.specs.declared.terms.ExtTerm.{ExtTerm}
use Rattle.extension_files.specs.ExtensionFiles.{file_terms}
use Rattle.bind_run.specs.declared.extensions.BadRow.{BadRow}
use Rattle.bind_run.specs.Extensions.{rows_for, judged}
use Rattle.xml_state.specs.declared.fault.XmlFault.{XmlFault}
use Rattle.xml_state.specs.declared.limits.Limits.{Limits}
use Rattle.xml_profile.specs.Profile.{document}
use Rattle.xml_profile.specs.Profile as profile
use Rattle.job_protocol.specs.declared.status.Status.TheVariants as statuses
use Rattle.job_protocol.specs.Protocol.{Answer, Protocol, ends, loads, takes, refusal, by_result, by_test, by_lists, is_within, document_limits, list_limit}
use Rattle.job_protocol.specs.Protocol.{document_protocol, lists_protocol, answer_of, readings}
use Rattle.job_protocol.specs.Lines.{document_line, list_line, too_long_line}
use Rattle.job_protocol.specs.Runs.{IsContentOf, AreListed, EndsIn, at_end, refused_at, loaded, too_long_at, taken}
use Rattle.invoice_jobs.specs.Sources.{extension_line, bad_row_line, by_good, by_terms, terms_protocol}
use Rattle.invoice_jobs.specs.Conversions.{AreAdded}

-- ---- where a job is done, what it read was accepted

pub end_is_answer : (held : Option Files) (answer a : Answer) (n : ℕ) → EndsIn held (ends answer) n a → a ≡ answer
end_is_answer held answer a n at_end = refl

-- A document was had, and the rest ends with the answer.
pub record HasLoaded (held : Option Files) (limits : Limits) (name : List ℕ) (next : profile.Document → Protocol) (a : Answer) : Type 0 where
  pub content : List ℕ
  pub of_file : IsContentOf held name content
  pub found : profile.Document
  pub is : document limits content ≡ Ok found
  pub count : ℕ
  pub ends_in : EndsIn held (next found) count a

-- The lists of a file were had, and the rest ends with the answer.
pub record HasTaken (held : Option Files) (name : List ℕ) (next : Lists → Protocol) (a : Answer) : Type 0 where
  pub lists : Lists
  pub are : AreListed held name lists
  pub count : ℕ
  pub ends_in : EndsIn held (next lists) count a

-- The terms of a file were had, and the rest ends with the answer.
pub record HasAdded (held : Option Files) (name : List ℕ) (next : List ExtTerm → Protocol) (a : Answer) : Type 0 where
  pub terms : List ExtTerm
  pub are : AreAdded held name terms
  pub count : ℕ
  pub ends_in : EndsIn held (next terms) count a

load_done : (held : Option Files) (limits : Limits) (name : List ℕ) (refused : XmlFault → Answer) (next : profile.Document → Protocol) (n : ℕ) (a : Answer)
    → ((fault : XmlFault) → (refused fault).status ≡ statuses.Done → ⊥) → EndsIn held (loads limits name refused (λ bytes found. next found)) n a
    → a.status ≡ statuses.Done
    → HasLoaded held limits name next a
load_done held limits name refused next n a never (refused_at {fault} is fails) good = absurd (never fault good)
load_done held limits name refused next n a never (loaded {content} {found} {n = m} is fits further) good =
    record { content = content; of_file = is; found = found; is = fits; count = m; ends_in = further }

pub document_done : (held : Option Files) (name : List ℕ) (next : profile.Document → Protocol) (n : ℕ) (a : Answer)
    → EndsIn held (document_protocol name next) n a
    → a.status ≡ statuses.Done
    → HasLoaded held document_limits name next a
document_done held name next n a ended good =
    load_done held document_limits name (λ fault. refusal statuses.DocumentRefused (document_line name fault)) next n a
    (λ fault e. let z : statuses.DocumentRefused ≡ statuses.Done = e in cc) ended good

lists_found : (held : Option Files) (name : List ℕ) (next : Lists → Protocol) (content : List ℕ) (found : Result Lists ListFault) (n : ℕ) (a : Answer)
    → IsContentOf held name content → is_within list_limit content ≡ true
    → file_lists content ≡ found → EndsIn held (by_lists name next found) n a → a.status ≡ statuses.Done → HasTaken held name next a
lists_found held name next content (Ok lists) n a is within are ended good =
    record { lists = lists; are = record { content = content; of_file = is; within = within; are = are }; count = n; ends_in = ended }
lists_found held name next content (Err fault) n a is within are ended good =
    let refused = ap (λ (x : Answer). x.status) (end_is_answer held (refusal statuses.RulesRefused (list_line name fault)) a n ended) in
    absurd (let z : statuses.RulesRefused ≡ statuses.Done = sym refused ∙ good in cc)

take_done : (held : Option Files) (limit : ℕ) (name : List ℕ) (too_long : Answer) (next : List ℕ → Protocol) (n : ℕ) (a : Answer)
    → (too_long.status ≡ statuses.Done → ⊥)
    → EndsIn held (takes limit name too_long next) n a → a.status ≡ statuses.Done
    → (content : List ℕ) × IsContentOf held name content × (is_within limit content ≡ true) × ((m : ℕ) × EndsIn held (next content) m a)
take_done held limit name too_long next n a never (too_long_at is long) good = absurd (never good)
take_done held limit name too_long next n a never (taken {content} {n = m} is within further) good = (content, is, within, (m, further))

pub lists_done : (held : Option Files) (name : List ℕ) (next : Lists → Protocol) (n : ℕ) (a : Answer) → EndsIn held (lists_protocol name next) n a
    → a.status ≡ statuses.Done → HasTaken held name next a
lists_done held name next n a ended good =
    let t = take_done held list_limit name (refusal statuses.RulesRefused (too_long_line name)) (λ bytes. by_lists name next (file_lists bytes)) n a
    (λ e. let z : statuses.RulesRefused ≡ statuses.Done = e in cc) ended good in
    lists_found held name next t.0 (file_lists t.0) t.3.0 a t.1 t.2 refl t.3.1 good

module _ (held : Option Files) (name : List ℕ) (next : List ExtTerm → Protocol) (content : List ℕ) (n : ℕ) (a : Answer)
    (is : IsContentOf held name content) (within : is_within list_limit content ≡ true) (good : a.status ≡ statuses.Done) where
  -- a line was told
  not_done : {A : Type 0} → (line : List ℕ) → EndsIn held (ends (refusal statuses.RulesRefused line)) n a → A
  not_done line ended =
      let refused = ap (λ (x : Answer). x.status) (end_is_answer held (refusal statuses.RulesRefused line) a n ended) in
      absurd (let z : statuses.RulesRefused ≡ statuses.Done = sym refused ∙ good in cc)

  good_found : (terms : List ExtTerm) (found : Result (Unit {0}) BadRow) → file_terms content ≡ Ok terms → judged (rows_for terms) ≡ found
      → EndsIn held (by_good name terms next found) n a
      → HasAdded held name next a
  good_found terms (Ok good) are formed ended =
      record { terms = terms; are = record { content = content; of_file = is; within = within; are = are; good = formed }; count = n; ends_in = ended }
  good_found terms (Err bad) are formed ended = not_done (bad_row_line name bad) ended

  terms_found : (found : Result (List ExtTerm) ExtFault) → file_terms content ≡ found → EndsIn held (by_terms name next found) n a → HasAdded held name next a
  terms_found (Ok terms) are ended = good_found terms (judged (rows_for terms)) are refl ended
  terms_found (Err fault) are ended = not_done (extension_line name fault) ended

pub terms_done : (held : Option Files) (name : List ℕ) (next : List ExtTerm → Protocol) (n : ℕ) (a : Answer) → EndsIn held (terms_protocol name next) n a
    → a.status ≡ statuses.Done
    → HasAdded held name next a
terms_done held name next n a ended good =
    let t = take_done held list_limit name (refusal statuses.RulesRefused (too_long_line name)) (λ bytes. by_terms name next (file_terms bytes)) n a
    (λ e. let z : statuses.RulesRefused ≡ statuses.Done = e in cc) ended good in
    terms_found held name next t.0 t.3.0 a t.1 t.2 good (file_terms t.0) refl t.3.1

-- ---- the answer to files is one with which the job ends, where each has its own content

content_told : (files : Files) (name : List ℕ) → IsContentOf (Some files) name (bytes_under name files)
content_told files name other is = let same : files ≡ other = cc in ap (bytes_under name) same

pub answer_ends : (files : Files) (protocol : Protocol) → EndsIn (Some files) protocol (readings protocol files) (answer_of protocol files)
answer_ends files (ends answer) = at_end
answer_ends files (loads limits name refused next) = go (document limits (bytes_under name files))
    (λ found. answer_ends files (next (bytes_under name files) found)) refl
  where
    go : (r : Result profile.Document XmlFault)
        → ((found : profile.Document) → EndsIn (Some files) (next (bytes_under name files) found)
        (readings (next (bytes_under name files) found) files) (answer_of (next (bytes_under name files) found) files))
        → document limits (bytes_under name files) ≡ r
        → EndsIn (Some files) (loads limits name refused next)
        (suc (by_result (λ fault. 0) (λ found. readings (next (bytes_under name files) found) files) r))
        (by_result refused (λ found. answer_of (next (bytes_under name files) found) files) r)
    go (Ok found) further is = loaded (content_told files name) is (further found)
    go (Err fault) further is = refused_at (content_told files name) is
answer_ends files (takes limit name too_long next) = go (is_within limit (bytes_under name files)) (answer_ends files (next (bytes_under name files))) refl
  where
    go : (b : Bool) → EndsIn (Some files) (next (bytes_under name files)) (readings (next (bytes_under name files)) files)
        (answer_of (next (bytes_under name files)) files)
        → is_within limit (bytes_under name files) ≡ b
        → EndsIn (Some files) (takes limit name too_long next) (suc (by_test 0 (readings (next (bytes_under name files)) files) b))
        (by_test too_long (answer_of (next (bytes_under name files)) files) b)
    go true further is = taken (content_told files name) is further
    go false further is = too_long_at (content_told files name) is
