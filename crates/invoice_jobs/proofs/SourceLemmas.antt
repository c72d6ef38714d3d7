-- How a job goes on, or ends, by the files beside its document.
use Rattle.std.proofs.Common.{◌≡◌, ◌≢◌, ℕ, List, [], Option, Some, None, Result, Ok, Err, inl, inr, refl, ap, sym, subst, ◌∙◌, arith}
use Rattle.std.specs.Prelude.{IfOk, IfErr, OnOk}
use Rattle.inv_base.specs.Outside.{ShelfView, SinkView}
use Rattle.code_lists.specs.CodeFiles.{Lists}
use Rattle.extension_files.specs.declared.fault.ExtFault.{ExtFault}
use Rattle.extension_files.specs.declared.fault.ExtFault.TheVariants as ext_faults
use Rattle.extension_files.specs.declared.terms.ExtTerm.{ExtTerm}
use Rattle.extension_files.specs.ExtensionFiles.{file_terms}
use Rattle.bind_rows.specs.declared.rows.Row.{Row}
use Rattle.bind_rows.specs.declared.tables.DocumentType.{DocumentType}
use Rattle.bind_rows.specs.declared.tables.DocumentType.TheVariants as document_type
use Rattle.bind_table.specs.declared.judging.TableFault.{TableFault}
use Rattle.bind_table.specs.WellFormed.{first_fault}
use Rattle.bind_run.specs.declared.extensions.BadRow.{BadRow}
use Rattle.bind_run.specs.declared.extensions.ExtendFault.{ExtendFault}
use Rattle.bind_run.specs.declared.extensions.ExtendFault.TheVariants as extend_faults
use Rattle.bind_run.specs.Extensions.{rows_for, as_bad_row, judged_in, or_later, judged, AreGood, IsBadRow}
use Rattle.job_protocol.specs.declared.status.Status.{Status}
use Rattle.job_protocol.specs.declared.status.Status.TheVariants as statuses
use Rattle.job_protocol.specs.Protocol.{Protocol, ends, refusal, lists_protocol, taken_protocol}
use Rattle.job_protocol.specs.Outside.{TakesOrFails, HasRead}
use Rattle.job_protocol.specs.Runs.{AreListed, Runs, Continues, Fails}
use Rattle.job_protocol.proofs.Ends.{behind_lists}
use Rattle.job_protocol.proofs.FileLemmas.{memory_in, refused_here}
use Rattle.invoice_jobs.specs.declared.sources.Extended.{Extended}
use Rattle.invoice_jobs.specs.Sources.{listed_protocol, extension_line, bad_row_line, by_good, by_terms, terms_protocol, extended_protocol, with_terms}
use Rattle.invoice_jobs.specs.Sources.{IsExtensionRefusal, IsRowRefusal, IsRefusedBy}

-- ---- the lists

pub listed_goes_on : (file : List ℕ) (result : Result Lists Status) (shelf mid : ShelfView) (err mid_err : SinkView)
    → IfOk result (λ lists. AreListed shelf.held file lists) → OnOk result (HasRead 1 shelf mid) → OnOk result (mid_err ≡ err)
    → IfOk result (λ lists. Continues (listed_protocol (Some file)) lists shelf mid err mid_err)
listed_goes_on file (Ok lists) shelf mid err mid_err are read quiet = λ next shelf' out out' err' status further.
    behind_lists file shelf mid shelf' out out' err mid_err err' status read quiet next lists are further
listed_goes_on file (Err status) shelf mid err mid_err are read quiet = tt

pub listed_fails : (file : List ℕ) (result : Result Lists Status) (shelf mid : ShelfView) (err err' : SinkView)
    → IfErr result (λ status. (next : Lists → Protocol) (out : SinkView)
    → Runs (lists_protocol file next) (record { shelf = shelf; out = out; err = err }) (record { shelf = mid; out = out; err = err' }) status)
    → IfErr result (λ status. Fails (listed_protocol (Some file)) status shelf mid err err')
listed_fails file (Ok lists) shelf mid err err' fails = tt
listed_fails file (Err status) shelf mid err err' fails = fails

-- ---- tables that are well formed with the terms

is_well_formed : (table : DocumentType) (rows : List Row) (judgement : Result (Unit {0}) TableFault) → as_bad_row table rows judgement ≡ Ok tt → judgement
    ≡ Ok tt
is_well_formed table rows (Ok good) e = refl
is_well_formed table rows (Err fault) e = cc

both_good : (first later : Result (Unit {0}) BadRow) → or_later first later ≡ Ok tt → (first ≡ Ok tt) × (later ≡ Ok tt)
both_good (Ok good) later e = (refl, e)
both_good (Err bad) later e = cc

-- Where no table has a bad row, each is well formed.
pub each_formed : (tables : DocumentType → List Row) → judged tables ≡ Ok tt → (table : DocumentType) → first_fault (tables table) ≡ Ok tt
each_formed tables good table =
    let first = both_good (judged_in document_type.Invoice (tables document_type.Invoice))
    (or_later (judged_in document_type.CreditNote (tables document_type.CreditNote)) (judged_in document_type.Cii (tables document_type.Cii))) good in
    let others = both_good (judged_in document_type.CreditNote (tables document_type.CreditNote)) (judged_in document_type.Cii (tables document_type.Cii))
    first.1 in
    each table first.0 others.0 others.1
  where
    each : (w : DocumentType) → judged_in document_type.Invoice (tables document_type.Invoice) ≡ Ok tt
        → judged_in document_type.CreditNote (tables document_type.CreditNote) ≡ Ok tt
        → judged_in document_type.Cii (tables document_type.Cii) ≡ Ok tt → first_fault (tables w) ≡ Ok tt
    each document_type.Invoice a b c = is_well_formed document_type.Invoice (tables document_type.Invoice) (first_fault (tables document_type.Invoice)) a
    each document_type.CreditNote a b c = is_well_formed document_type.CreditNote (tables document_type.CreditNote) (first_fault (tables
        document_type.CreditNote)) b
    each document_type.Cii a b c = is_well_formed document_type.Cii (tables document_type.Cii) (first_fault (tables document_type.Cii)) c

-- And where each is, none has.
pub none_bad : (tables : DocumentType → List Row) → ((table : DocumentType) → first_fault (tables table) ≡ Ok tt) → judged tables ≡ Ok tt
none_bad tables formed =
    ap (λ found. or_later (as_bad_row document_type.Invoice (tables document_type.Invoice) found)
    (or_later (judged_in document_type.CreditNote (tables document_type.CreditNote)) (judged_in document_type.Cii (tables document_type.Cii))))
    (formed document_type.Invoice)
    ∙ (ap (λ found. or_later (as_bad_row document_type.CreditNote (tables document_type.CreditNote) found) (judged_in document_type.Cii (tables
    document_type.Cii))) (formed document_type.CreditNote)
    ∙ ap (as_bad_row document_type.Cii (tables document_type.Cii)) (formed document_type.Cii))

-- The status of a fault of tables, whose line was told, is that of the bad row.
pub row_refused : (fault : ExtendFault) (good : Result (Unit {0}) BadRow) (name : List ℕ) (status : Status) (before after : SinkView)
    → (fault ≢ extend_faults.Memory → IsBadRow fault good) → IsRowRefusal fault name status before after → IsRefusedBy good name status before after
row_refused extend_faults.Memory good name status before after is refused = inl refused
row_refused (extend_faults.BadRow bad) (Ok good) name status before after is refused = absurd (is (λ e. cc))
row_refused (extend_faults.BadRow bad) (Err other) name status before after is refused =
    let same : extend_faults.BadRow bad ≡ extend_faults.BadRow other = is (λ e. cc) in
    let row : other ≡ bad = cc in
    inr ((other, refl, subst (λ b. TakesOrFails (bad_row_line name b) before after) (sym row) refused.1), refused.0)

-- ---- the terms of a file

module _ (file : List ℕ) (bytes : List ℕ) (shelf mid : ShelfView) (err mid_err : SinkView)
    (goes_on : Continues (taken_protocol file) bytes shelf mid err mid_err) where
  -- what follows by the bytes is this protocol
  by_protocol : (next : List ExtTerm → Protocol) (protocol : Protocol) → by_terms file next (file_terms bytes) ≡ protocol
      → (shelf' : ShelfView) (out out' err' : SinkView) (status : Status)
      → Runs protocol (record { shelf = mid; out = out; err = mid_err }) (record { shelf = shelf'; out = out'; err = err' }) status
      → Runs (terms_protocol file next) (record { shelf = shelf; out = out; err = err }) (record { shelf = shelf'; out = out'; err = err' }) status
  by_protocol next protocol is shelf' out out' err' status further =
      goes_on (λ content. by_terms file next (file_terms content)) shelf' out out' err' status
      (subst (λ c. Runs c (record { shelf = mid; out = out; err = mid_err }) (record { shelf = shelf'; out = out'; err = err' }) status) (sym is) further)

  -- The tables are well formed with them.
  pub terms_go_on : (terms : List ExtTerm) → file_terms bytes ≡ Ok terms → AreGood terms → (mid_err' : SinkView) → mid_err' ≡ mid_err
      → Continues (terms_protocol file) terms shelf mid err mid_err'
  terms_go_on terms are good mid_err' quiet = λ next shelf' out out' err' status further.
      by_protocol next (next terms) (ap (by_terms file next) are ∙ ap (by_good file terms next) (none_bad (rows_for terms) good.formed)) shelf' out out' err'
      status
      (subst (λ e. Runs (next terms) (record { shelf = mid; out = out; err = e }) (record { shelf = shelf'; out = out'; err = err' }) status) quiet further)

  module _ (read : HasRead 1 shelf mid) (quiet : mid_err ≡ err) (err' : SinkView) where
    no_memory : err' ≡ mid_err → Fails (terms_protocol file) statuses.Memory shelf mid err err'
    no_memory still = λ next out. memory_in file shelf mid out err err' (terms_protocol file next) (λ files. omega arith) read (still ∙ quiet)

    -- A line was told.
    line_told : (line : List ℕ) → ((next : List ExtTerm → Protocol) → by_terms file next (file_terms bytes) ≡ ends (refusal statuses.RulesRefused line))
        → TakesOrFails line mid_err err' → Fails (terms_protocol file) statuses.RulesRefused shelf mid err err'
    line_told line is takes = λ next out.
        by_protocol next (ends (refusal statuses.RulesRefused line)) (is next) mid out out err' statuses.RulesRefused
        (refused_here statuses.RulesRefused line mid out mid_err err' tt takes)

    -- The file gives no terms.
    no_terms : (fault : ExtFault) → file_terms bytes ≡ Err fault → TakesOrFails (extension_line file fault) mid_err err'
        → Fails (terms_protocol file) statuses.RulesRefused shelf mid err err'
    no_terms fault fails takes = line_told (extension_line file fault) (λ next. ap (by_terms file next) fails) takes

    pub terms_fail : (fault : ExtFault) (status : Status) → (fault ≢ ext_faults.Memory → file_terms bytes ≡ Err fault)
        → IsExtensionRefusal fault file status mid_err err'
        → Fails (terms_protocol file) status shelf mid err err'
    terms_fail ext_faults.Memory status fails refusal = rw refusal.0 (no_memory refusal.1)
    terms_fail ext_faults.NotToml status fails refusal = rw refusal.0 (no_terms ext_faults.NotToml (fails (λ e. cc)) refusal.1)
    terms_fail (ext_faults.NotAnExtension key) status fails refusal = rw refusal.0 (no_terms (ext_faults.NotAnExtension key) (fails (λ e. cc)) refusal.1)
    terms_fail (ext_faults.BadTerm place) status fails refusal = rw refusal.0 (no_terms (ext_faults.BadTerm place) (fails (λ e. cc)) refusal.1)

    -- A table isn't well formed with them.
    pub tables_fail : (terms : List ExtTerm) (status : Status) → file_terms bytes ≡ Ok terms → IsRefusedBy (judged (rows_for terms)) file status mid_err err'
        → Fails (terms_protocol file) status shelf mid err err'
    tables_fail terms status are (inl memory) = rw memory.0 (no_memory memory.1)
    tables_fail terms status are (inr told) =
        let bad = told.0.0 in
        rw told.1 (line_told (bad_row_line file bad) (λ next. ap (by_terms file next) are ∙ ap (by_good file terms next) told.0.1) told.0.2)

    -- The terms were had; whether the tables are well formed with them, the result tells.
    pub extending_fails : (terms : List ExtTerm) (result : Result Extended Status) → file_terms bytes ≡ Ok terms
        → IfErr result (λ status. IsRefusedBy (judged (rows_for terms)) file status mid_err err')
        → IfErr result (λ status. Fails (terms_protocol file) status shelf mid err err')
    extending_fails terms (Ok extended) are refused = tt
    extending_fails terms (Err status) are refused = tables_fail terms status are refused

  pub extending_goes_on : (terms : List ExtTerm) (result : Result Extended Status) (mid_err' : SinkView) → file_terms bytes ≡ Ok terms
      → IfOk result (λ extended. (extended.extension ≡ terms) × (mid_err' ≡ mid_err)) → IfOk result (λ extended. AreGood extended.extension)
      → IfOk result (λ extended. Continues (terms_protocol file) extended.extension shelf mid err mid_err')
  extending_goes_on terms (Ok extended) mid_err' are same good = terms_go_on extended.extension (are ∙ ap Ok (sym same.0)) good mid_err' same.1
  extending_goes_on terms (Err status) mid_err' are same good = tt

-- ---- none are named

pub no_terms_go_on : (extended : Extended) (shelf : ShelfView) (err : SinkView) → extended.extension ≡ []
    → Continues (extended_protocol None) extended.extension shelf shelf err err
no_terms_go_on extended shelf err is = λ next shelf' out out' err' status further.
    subst (λ t. Runs (next t) (record { shelf = shelf; out = out; err = err }) (record { shelf = shelf'; out = out'; err = err' }) status) is further

-- ---- both

-- Lists by whatever protocol, and the terms behind them.
module _ (listed : (Lists → Protocol) → Protocol) (file : Option (List ℕ)) where
  module _ (lists : Lists) (shelf mid shelf' : ShelfView) (err mid_err err' : SinkView) (goes_on : Continues listed lists shelf mid err mid_err) where
    pub profile_goes_on : (terms : List ExtTerm) → Continues (extended_protocol file) terms mid shelf' mid_err err'
        → Continues (with_terms listed file) (record { lists = lists; terms = terms }) shelf shelf' err err'
    profile_goes_on terms extended = λ next shelf'' out out' err'' status further.
        goes_on (λ l. extended_protocol file (λ t. next (record { lists = l; terms = t }))) shelf'' out out' err'' status
        (extended (λ t. next (record { lists = lists; terms = t })) shelf'' out out' err'' status further)

    pub profile_fails : (status : Status) → Fails (extended_protocol file) status mid shelf' mid_err err'
        → Fails (with_terms listed file) status shelf shelf' err err'
    profile_fails status extended = λ next out.
        goes_on (λ l. extended_protocol file (λ t. next (record { lists = l; terms = t }))) shelf' out out err' status
        (extended (λ t. next (record { lists = lists; terms = t })) out)

  pub no_lists : (status : Status) (shelf shelf' : ShelfView) (err err' : SinkView) → Fails listed status shelf shelf' err err'
      → Fails (with_terms listed file) status shelf shelf' err err'
  no_lists status shelf shelf' err err' fails = λ next out. fails (λ l. extended_protocol file (λ t. next (record { lists = l; terms = t }))) out
