-- A document of a job with the lines of its file.
use Rattle.std.specs.Prelude.{◌≡◌, List, ℕ, Option}
use Rattle.inv_base.specs.Outside.{SinkView}
use Rattle.line_places.specs.Places.{Lines, AreLinesOf}
use Rattle.node_arena.specs.Document.{Document}
use Rattle.xml_document.specs.Loading.{IsLoaded}
use Rattle.xml_document.specs.declared.loading.LoadFault.{LoadFault}
use Rattle.xml_document.specs.declared.loading.LoadFault.TheVariants as load_faults
use Rattle.job_protocol.specs.declared.status.Status.{Status}
use Rattle.job_protocol.specs.declared.status.Status.TheVariants as statuses
use Rattle.job_protocol.specs.Protocol.{document_limits}
use Rattle.job_protocol.specs.Lines.{read_fault_line, document_line}
use Rattle.job_protocol.specs.Outside.{TakesOrFails}

-- The document is that of some content, which is this one where it is told, and the lines are those of the same content.
pub record IsPlaced (told : Option (List ℕ)) (doc : Document) (lines : Lines) : Type 0 where
  pub loaded : IsLoaded document_limits told doc
  pub placed : AreLinesOf lines loaded.content

-- The status of a document's fault, whose line was told; want of memory has none.
abbrev pub IsDocumentRefusal : LoadFault → List ℕ → Status → SinkView → SinkView → Type 0
IsDocumentRefusal load_faults.Read name status before after = (status ≡ statuses.ReadFault) × TakesOrFails (read_fault_line name) before after
IsDocumentRefusal (load_faults.Refused fault) name status before after =
    (status ≡ statuses.DocumentRefused) × TakesOrFails (document_line name fault) before after
IsDocumentRefusal load_faults.Memory name status before after = (status ≡ statuses.Memory) × (after ≡ before)
