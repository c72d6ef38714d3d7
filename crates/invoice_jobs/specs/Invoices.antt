-- What is answered to a job that reads an invoice.
use Rattle.std.specs.Prelude.{◌≡◌, ◌≢◌, ℕ, List, [], ◌∷◌, ◌++◌, codes, decimal, encode_utf8_all, Option, Some, None, Result}
use Rattle.std.proofs.Common.{◌⊎◌}
use Rattle.inv_base.specs.Outside.{SinkView}
use Rattle.inv_terms.specs.declared.attachments.AttachFault.{AttachFault}
use Rattle.inv_terms.specs.declared.attachments.AttachFault.TheVariants as attach
use Rattle.inv_terms.specs.Attachments.{attached}
use Rattle.inv_terms.specs.declared.entries.Entry.{Entry}
use Rattle.inv_listing.specs.Listing.{name_text, listing}
use Rattle.json_text.specs.Layout.{document}
use Rattle.invoice_json.specs.InvoiceJson.{invoice_json}
use Rattle.node_arena.specs.Document.{Document, node_at}
use Rattle.inv_base.specs.Tree.{Node}
use Rattle.inv_base.specs.declared.tree.Kind.{Kind}
use Rattle.inv_base.specs.declared.tree.Kind.TheVariants as node_kinds
use Rattle.node_arena.specs.Moves.{tree_node, tree_nodes}
use Rattle.bind_meaning.specs.declared.fault.BindFault.{BindFault}
use Rattle.bind_meaning.specs.declared.fault.BindKind.TheVariants as kinds
use Rattle.bind_meaning.specs.KindTexts.{kind_text}
use Rattle.bind_meaning.specs.Terms.{Read}
use Rattle.bind_carrying.specs.declared.carrying.NotCarried.{NotCarried}
use Rattle.bind_meaning.specs.declared.tables.Syntax.{Syntax}
use Rattle.bind_carrying.specs.Carrying.{carrying}
use Rattle.bind_run.specs.declared.reading.ReadInvoice.{ReadInvoice}
use Rattle.bind_run.specs.Extensions.{rows_for}
use Rattle.bind_run.specs.Reading.{first_lost, invoice_by}
use Rattle.extension_laws.specs.Texts.{target_rows, text_by}
use Rattle.job_protocol.specs.declared.status.Status.{Status}
use Rattle.job_protocol.specs.declared.status.Status.TheVariants as statuses
use Rattle.job_protocol.specs.Outside.{TakesOrFails}
use Rattle.job_protocol.specs.Protocol.{Protocol, ends, done, refusal, by_result, document_protocol}
use Rattle.job_protocol.specs.Views.{document_read}
use Rattle.invoice_jobs.specs.declared.formats.AnswerFormat.{AnswerFormat}
use Rattle.invoice_jobs.specs.declared.formats.AnswerFormat.TheVariants as formats
use Rattle.invoice_jobs.specs.declared.invoices.Loaded.{Loaded}
use Rattle.invoice_jobs.specs.Sources.{Sources, ReadingProfile, no_sources, profile_protocol, profile_of, term_or_dash}

-- a fault with its term or group, and its place, which is that of its node
abbrev pub invoice_line : List ℕ → Document → BindFault → List ℕ
invoice_line file document fault =
    codes "einv: " ++ (file ++ (codes ": " ++ (kind_text fault.kind ++
    (name_text fault.name ++ (codes " at " ++ (decimal (node_at document.nodes fault.node).place ++ 0xA ∷ []))))))

-- what follows by an invoice, or its first fault
abbrev pub by_invoice : List ℕ → Document → (Read → Protocol) → Result Read BindFault → Protocol
by_invoice file document next read = by_result (λ fault. ends (refusal statuses.DocumentRefused (invoice_line file document fault))) next read

-- the invoice of a document by these lists and terms, and what follows by it
abbrev pub invoice_protocol : List ℕ → ReadingProfile → (Read → Protocol) → Protocol
invoice_protocol file reading_profile next =
    document_protocol file (λ found. by_invoice file (document_read found) next
    (invoice_by (rows_for reading_profile.terms) (tree_nodes (document_read found)) reading_profile.lists))

-- what a job works on: what an invoice is read and written by, and what was read
pub record Given : Type 0 where
  pub reading_profile : ReadingProfile
  pub read : Read

-- the invoice of a document by what the files beside it give, and what follows by it
abbrev pub read_protocol : Sources → List ℕ → (Given → Protocol) → Protocol
read_protocol sources file next = profile_protocol sources (λ reading_profile. invoice_protocol file reading_profile (λ read. next (record {
  reading_profile =
      reading_profile;
  read = read;
})))

-- the terms of an invoice, in listing order, and how many elements were passed over
abbrev pub listing_in : AnswerFormat → List Entry → ℕ → List ℕ
listing_in formats.Lines entries passed_over = listing entries passed_over
listing_in formats.Json entries passed_over = encode_utf8_all (document (invoice_json entries passed_over))

abbrev pub listed : AnswerFormat → Given → Protocol
listed format given = ends (done (listing_in format given.read.entries given.read.passed_over))

abbrev pub show_protocol : AnswerFormat → Sources → List ℕ → Protocol
show_protocol format sources file = read_protocol sources file (listed format)

-- ---- the invoice in a syntax

-- the condition that fails, with the term of its first entry, or `-`
abbrev pub condition_line : NotCarried → List ℕ
condition_line fault = codes "einv: condition " ++ (decimal fault.condition ++ (0x20 ∷ (term_or_dash fault.term ++ 0xA ∷ [])))

-- the canonical document of the invoice, or the condition that fails
abbrev pub by_carrying : List ℕ → Result (Unit {0}) NotCarried → Protocol
by_carrying document carried = by_result (λ fault. ends (refusal statuses.Unable (condition_line fault))) (λ yes. ends (done document)) carried

abbrev pub converted : Syntax → Given → Protocol
converted syntax given =
    by_carrying (text_by (rows_for given.reading_profile.terms) syntax given.read.entries)
    (carrying (target_rows (rows_for given.reading_profile.terms) syntax given.read.entries) given.read.entries)

abbrev pub convert_protocol : Syntax → Sources → List ℕ → Protocol
convert_protocol syntax sources file = read_protocol sources file (converted syntax)

-- ---- the invoice in a syntax, where nothing of the document is lost

-- what stands in front of the name of such a node
abbrev pub name_prefix : Kind → List ℕ
name_prefix kind = elim kind [ node_kinds.Document ↦ [] | node_kinds.Element ↦ [] | node_kinds.Attribute ↦ codes "@" | node_kinds.Text ↦ [] ]

-- the local name of an element, or that of an attribute behind `@`
abbrev pub node_name : Node → List ℕ
node_name node = elim node.name [ None ↦ [] | Some name ↦ name_prefix node.kind ++ encode_utf8_all name.local ]

-- the first node that is lost, at the place of its element
abbrev pub lost_line : Document → ℕ → List ℕ
lost_line document n = codes "einv: lost at " ++
    (decimal (node_at document.nodes n).place ++ (0x20 ∷ (node_name (tree_node (tree_nodes document) n) ++ 0xA ∷ [])))

-- what follows where nothing is lost
abbrev pub by_loss : Document → Protocol → Option ℕ → Protocol
by_loss document next None = next
by_loss document next (Some n) = ends (refusal statuses.Unable (lost_line document n))

-- the invoice of a document of which nothing is lost, by these lists and terms, and what follows by it
abbrev pub whole_invoice_protocol : List ℕ → ReadingProfile → (Read → Protocol) → Protocol
whole_invoice_protocol file reading_profile next =
    document_protocol file (λ found. by_invoice file (document_read found)
    (λ read. by_loss (document_read found) (next read) (first_lost (rows_for reading_profile.terms) (tree_nodes (document_read found))))
    (invoice_by (rows_for reading_profile.terms) (tree_nodes (document_read found)) reading_profile.lists))

abbrev pub whole_protocol : Sources → List ℕ → (Given → Protocol) → Protocol
whole_protocol sources file next =
    profile_protocol sources (λ reading_profile. whole_invoice_protocol file reading_profile
    (λ read. next (record { reading_profile = reading_profile; read = read })))

abbrev pub convert_whole_protocol : Syntax → Sources → List ℕ → Protocol
convert_whole_protocol syntax sources file = whole_protocol sources file (converted syntax)

-- ---- an attached document

abbrev pub attach_fault_text : AttachFault → List ℕ
attach_fault_text attach.NoSuch = codes "NoSuch"
attach_fault_text attach.NotBase64 = codes "NotBase64"
attach_fault_text attach.WriteFault = codes "WriteFault"
attach_fault_text attach.Memory = codes "Memory"

abbrev pub attachment_line : ℕ → AttachFault → List ℕ
attachment_line number fault = codes "einv: attachment " ++ (decimal number ++ (codes ": " ++ (attach_fault_text fault ++ 0xA ∷ [])))

-- the bytes of the document, or why there are none
abbrev pub extracted : ℕ → Read → Protocol
extracted number read =
    by_result (λ fault. ends (refusal statuses.Unable (attachment_line number fault))) (λ bytes. ends (done bytes)) (attached read.entries number)

abbrev pub extract_protocol : ℕ → List ℕ → Protocol
extract_protocol number file = read_protocol no_sources file (λ given. extracted number given.read)

-- ---- what the code has

-- what was read, as the definitions have it
abbrev pub read_of : ReadInvoice → Read
read_of read = record { entries = read.invoice; passed_over = read.passed_over }

abbrev pub given_of : Loaded → Given
given_of loaded = record { reading_profile = profile_of loaded.reading_profile; read = read_of loaded.read }

-- The status of a fault whose line was told; want of memory has none.
abbrev pub IsInvoiceRefusal : Document → List ℕ → BindFault → Status → SinkView → SinkView → Type 0
IsInvoiceRefusal document file fault status before after =
    ((fault.kind ≡ kinds.Memory) × (status ≡ statuses.Memory) × (after ≡ before))
    ⊎ ((fault.kind ≢ kinds.Memory) × (status ≡ statuses.DocumentRefused) × TakesOrFails (invoice_line file document fault) before after)
