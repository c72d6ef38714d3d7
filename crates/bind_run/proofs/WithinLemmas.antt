-- The first fault of a document as an invoice stands at one of its nodes.
use Rattle.std.proofs.Common.{◌≡◌, ℕ, ◌<◌, List, length, Option, Result, Ok, Err}
use Rattle.std.specs.Prelude.{◌≢◌, IfErr}
use Rattle.code_lists.specs.CodeFiles.{Lists}
use Rattle.node_arena.specs.Document.{Document, AreNumbered}
use Rattle.node_arena.specs.Moves.{tree_nodes}
use Rattle.bind_rows.specs.declared.rows.Row.{Row}
use Rattle.bind_meaning.specs.declared.fault.BindFault.{BindFault}
use Rattle.bind_meaning.specs.declared.fault.BindKind.TheVariants as kinds
use Rattle.bind_meaning.specs.Terms.{Read, terms_of}
use Rattle.bind_terms.proofs.Within.{document-first}
use Rattle.bind_run.specs.declared.reading.ReadInvoice.{ReadInvoice}
use Rattle.bind_run.specs.declared.reading.WholeRead.{WholeRead}
use Rattle.bind_run.specs.Reading.{Reads, ReadsWhole}

pub reads-within : (count : ℕ) (expected : Result Read BindFault) (result : Result ReadInvoice BindFault) → Reads expected result
    → ((fault : BindFault) → expected ≡ Err fault → fault.node < count) → IfErr result (λ fault. fault.kind ≢ kinds.Memory → fault.node < count)
reads-within count expected (Ok found) reads h = tt
reads-within count expected (Err fault) reads h = λ other. h fault (reads other)

pub whole-within : (count : ℕ) (expected : Result Read BindFault) (lost : Option ℕ) (result : Result WholeRead BindFault) → ReadsWhole expected lost result
    → ((fault : BindFault) → expected ≡ Err fault → fault.node < count) → IfErr result (λ fault. fault.kind ≢ kinds.Memory → fault.node < count)
whole-within count expected lost (Ok found) reads h = tt
whole-within count expected lost (Err fault) reads h = λ other. h fault (reads other)

-- the same of a document
pub document-within : (document : Document) → AreNumbered 0 document.nodes → 1 < length document.nodes → (lists : Lists) (rows : List Row) (fault : BindFault)
    → terms_of (tree_nodes document) rows lists ≡ Err fault → fault.node < length document.nodes
document-within document numbers rooted lists rows fault is = (document-first document numbers rooted lists rows fault is).0
