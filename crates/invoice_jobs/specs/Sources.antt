-- The files beside the document of a job on an invoice, and what they give: code lists, and extension terms.
use Rattle.std.specs.Prelude.{◌≡◌, ℕ, List, [], ◌∷◌, ◌++◌, codes, decimal, encode_utf8_all, Option, Some, None, Result, Err}
use Rattle.std.specs.Option.{option_map}
use Rattle.std.proofs.Common.{◌⊎◌}
use Rattle.inv_base.specs.Outside.{SinkView}
use Rattle.code_lists.specs.CodeFiles.{Lists, built_in_lists}
use Rattle.term_table.specs.declared.terms.Term.{Term}
use Rattle.inv_listing.specs.Listing.{term_text}
use Rattle.extension_files.specs.declared.fault.ExtFault.{ExtFault}
use Rattle.extension_files.specs.declared.fault.ExtFault.TheVariants as ext_faults
use Rattle.extension_files.specs.declared.terms.ExtTerm.{ExtTerm}
use Rattle.extension_files.specs.ExtensionFiles.{file_terms}
use Rattle.bind_table.specs.declared.judging.TableKind.{TableKind}
use Rattle.bind_table.specs.declared.judging.TableKind.TheVariants as table_kinds
use Rattle.bind_run.specs.declared.extensions.BadRow.{BadRow}
use Rattle.bind_run.specs.declared.extensions.ExtendFault.{ExtendFault}
use Rattle.bind_run.specs.declared.extensions.ExtendFault.TheVariants as extend_faults
use Rattle.bind_run.specs.Extensions.{rows_for, judged}
use Rattle.job_protocol.specs.declared.status.Status.{Status}
use Rattle.job_protocol.specs.declared.status.Status.TheVariants as statuses
use Rattle.job_protocol.specs.Outside.{TakesOrFails}
use Rattle.job_protocol.specs.Protocol.{Protocol, ends, refusal, by_result, lists_protocol, taken_protocol}
use Rattle.job_protocol.specs.Views.{text_of}
use Rattle.invoice_jobs.specs.declared.sources.ReadingProfile.{ReadingProfile as HeldProfile}
use Rattle.invoice_jobs.specs.declared.sources.Sources.{Sources as NamedSources}

-- the files beside the document, as far as they are named: of code lists, and of terms
pub record Sources : Type 0 where
  pub codes_file : Option (List ℕ)
  pub extension_file : Option (List ℕ)

abbrev pub no_sources : Sources
no_sources = record { codes_file = None; extension_file = None }

-- what an invoice is read and written by: the code lists, and the extension terms
pub record ReadingProfile : Type 0 where
  pub lists : Lists
  pub terms : List ExtTerm

-- ---- code lists

-- the lists of a file, or the built-in ones, and what follows by them
abbrev pub listed_protocol : Option (List ℕ) → (Lists → Protocol) → Protocol
listed_protocol None next = next built_in_lists
listed_protocol (Some file) next = lists_protocol file next

-- ---- terms

-- why a file is none of extension terms, behind its name
abbrev pub extension_fault_text : ExtFault → List ℕ
extension_fault_text ext_faults.NotToml = codes "NotToml"
extension_fault_text (ext_faults.NotAnExtension key) = codes "NotAnExtension " ++ encode_utf8_all key
extension_fault_text (ext_faults.BadTerm place) = codes "BadTerm " ++ decimal place
extension_fault_text ext_faults.Memory = codes "Memory"

abbrev pub extension_line : List ℕ → ExtFault → List ℕ
extension_line file fault = codes "einv: " ++ (file ++ (codes ": " ++ (extension_fault_text fault ++ 0xA ∷ [])))

abbrev pub table_kind_text : TableKind → List ℕ
table_kind_text table_kinds.Ambiguous = codes "Ambiguous "
table_kind_text table_kinds.UnknownTerm = codes "UnknownTerm "
table_kind_text table_kinds.OutsideContext = codes "OutsideContext "

abbrev pub term_or_dash : Option Term → List ℕ
term_or_dash None = 0x2D ∷ []
term_or_dash (Some term) = term_text term

-- what is wrong with a table that the terms of a file extend, and at which term
abbrev pub bad_row_line : List ℕ → BadRow → List ℕ
bad_row_line file bad = codes "einv: " ++ (file ++ (codes ": " ++ (table_kind_text bad.kind ++ (term_or_dash bad.term ++ 0xA ∷ []))))

abbrev pub by_good : List ℕ → List ExtTerm → (List ExtTerm → Protocol) → Result (Unit {0}) BadRow → Protocol
by_good file terms next good = by_result (λ bad. ends (refusal statuses.RulesRefused (bad_row_line file bad))) (λ yes. next terms) good

-- the terms of a file, if each of the three tables is well formed with them, and what follows by them
abbrev pub by_terms : List ℕ → (List ExtTerm → Protocol) → Result (List ExtTerm) ExtFault → Protocol
by_terms file next found =
    by_result (λ fault. ends (refusal statuses.RulesRefused (extension_line file fault))) (λ terms. by_good file terms next (judged (rows_for terms))) found

abbrev pub terms_protocol : List ℕ → (List ExtTerm → Protocol) → Protocol
terms_protocol file next = taken_protocol file (λ bytes. by_terms file next (file_terms bytes))

-- the same, or no terms where no file is named
abbrev pub extended_protocol : Option (List ℕ) → (List ExtTerm → Protocol) → Protocol
extended_protocol None next = next []
extended_protocol (Some file) next = terms_protocol file next

-- ---- both

-- the lists that a protocol gives, and the terms of the file that is named
abbrev pub with_terms : ((Lists → Protocol) → Protocol) → Option (List ℕ) → (ReadingProfile → Protocol) → Protocol
with_terms listed extension_file next = listed (λ lists. extended_protocol extension_file (λ terms. next (record { lists = lists; terms = terms })))

abbrev pub profile_protocol : Sources → (ReadingProfile → Protocol) → Protocol
profile_protocol sources next = with_terms (listed_protocol sources.codes_file) sources.extension_file next

-- ---- what the code has

abbrev pub sources_of : NamedSources → Sources
sources_of sources = record { codes_file = option_map text_of sources.codes_file; extension_file = option_map text_of sources.extension_file }

abbrev pub profile_of : HeldProfile → ReadingProfile
profile_of reading_profile = record { lists = reading_profile.lists; terms = reading_profile.extension }

-- The status of a fault whose line was told; want of memory has none.
abbrev pub IsExtensionRefusal : ExtFault → List ℕ → Status → SinkView → SinkView → Type 0
IsExtensionRefusal ext_faults.Memory name status before after = (status ≡ statuses.Memory) × (after ≡ before)
IsExtensionRefusal fault name status before after = (status ≡ statuses.RulesRefused) × TakesOrFails (extension_line name fault) before after

abbrev pub IsRowRefusal : ExtendFault → List ℕ → Status → SinkView → SinkView → Type 0
IsRowRefusal extend_faults.Memory name status before after = (status ≡ statuses.Memory) × (after ≡ before)
IsRowRefusal (extend_faults.BadRow bad) name status before after = (status ≡ statuses.RulesRefused) × TakesOrFails (bad_row_line name bad) before after

-- The status of terms with which the tables aren't well formed, whose line was told; want of memory has none.
abbrev pub IsRefusedBy : Result (Unit {0}) BadRow → List ℕ → Status → SinkView → SinkView → Type 0
IsRefusedBy good name status before after =
    ((status ≡ statuses.Memory) × (after ≡ before))
    ⊎ (((bad : BadRow) × (good ≡ Err bad) × TakesOrFails (bad_row_line name bad) before after) × (status ≡ statuses.RulesRefused))
