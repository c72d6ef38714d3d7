use Rattle.std.proofs.Common.{inl, inr, refl}
use Rattle.inv_terms.specs.declared.attachments.AttachFault.TheVariants as attach
use Rattle.job_protocol.specs.declared.status.Status.TheVariants as statuses
use Rattle.job_protocol.proofs.Ends.{memory_here}
use Rattle.invoice_jobs.specs.Invoices.{read_of, extracted}
use Rattle.invoice_jobs.proofs.InvoiceLemmas.{is_extracted, not_extracted}
use Rattle.invoice_jobs.proofs.invoices.write_attachment.Goals as goal

pub returns-in-Ok : goal.returns-in-Ok
returns-in-Ok g c = λ shelf. let written = c.in-Ok.ensures in
    is_extracted c.args.number (read_of c.args.read.now) shelf (g.O.Sink.view c.args.out.now) written.0 statuses.Done (g.O.Sink.view c.attachment.new.out)
    (g.E.Sink.view c.args.err.now) written.1 (inl (refl, written.2))

pub returns-in-Err-WriteFault : goal.returns-in-Err-WriteFault
returns-in-Err-WriteFault g c = λ shelf. let written = (rw c.in-Err-WriteFault.field-0-is at c.in-Err-WriteFault.ensures) in
    is_extracted c.args.number (read_of c.args.read.now) shelf (g.O.Sink.view c.args.out.now) written.0 statuses.WriteFault (g.O.Sink.view c.attachment.new.out)
    (g.E.Sink.view c.args.err.now) written.1 (inr (refl, written.2))

pub returns-in-Err-Memory : goal.returns-in-Err-Memory
returns-in-Err-Memory g c = λ shelf. rw (rw c.in-Err-Memory.field-0-is at c.in-Err-Memory.ensures)
    (memory_here (extracted c.args.number (read_of c.args.read.now)) shelf (g.O.Sink.view c.args.out.now) (g.E.Sink.view c.args.err.now))

pub returns-in-Err-NoSuch : goal.returns-in-Err-NoSuch
returns-in-Err-NoSuch g c = λ shelf. let none = (rw c.in-Err-NoSuch.field-0-is at c.in-Err-NoSuch.ensures) in
    rw none.1 (not_extracted c.args.number (read_of c.args.read.now) shelf (g.O.Sink.view c.args.out.now) attach.NoSuch
    (g.E.Sink.view c.args.err.now) (g.E.Sink.view c.tell_attach_fault.new.err) none.0 c.tell_attach_fault.ensures)

pub returns-in-Err-NotBase64 : goal.returns-in-Err-NotBase64
returns-in-Err-NotBase64 g c = λ shelf. let none = (rw c.in-Err-NotBase64.field-0-is at c.in-Err-NotBase64.ensures) in
    rw none.1 (not_extracted c.args.number (read_of c.args.read.now) shelf (g.O.Sink.view c.args.out.now) attach.NotBase64
    (g.E.Sink.view c.args.err.now) (g.E.Sink.view c.tell_attach_fault-in-Err-NotBase64.new.err) none.0 c.tell_attach_fault-in-Err-NotBase64.ensures)
