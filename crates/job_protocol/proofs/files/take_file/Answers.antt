use Rattle.std.proofs.Common.{refl, arith}
use Rattle.job_protocol.specs.Protocol.{taken_protocol}
use Rattle.job_protocol.proofs.FileLemmas.{taken_goes_on, unread_file, long_file, memory_in}
use Rattle.job_protocol.proofs.files.take_file.Goals as goal

pub returns-in-Ok-clause-goes_on : goal.returns-in-Ok-clause-goes_on
returns-in-Ok-clause-goes_on g c =
    let reads = c.in-Ok.ensures.reads in
    taken_goes_on c.args.name.now (g.S.Shelf.view c.args.shelf.now) (g.S.Shelf.view c.read_whole.new.shelf) (g.E.Sink.view c.args.err.now)
    (g.E.Sink.view c.args.err.now)
    (record { held = reads.held; opens = reads.opens; faults = reads.quiet (λ e. cc) }) refl c.in-Ok.bytes.items c.in-Ok.ensures.bytes

pub returns-in-Err-Read-clause-fails : goal.returns-in-Err-Read-clause-fails
returns-in-Err-Read-clause-fails g c = λ next out.
    unread_file c.args.name.now (g.S.Shelf.view c.args.shelf.now) (g.S.Shelf.view c.read_whole.new.shelf) out (g.E.Sink.view c.args.err.now)
    (g.E.Sink.view c.tell_read_fault.new.err) (rw c.in-Err-Read.field-0-is at c.in-Err-Read.ensures.reads) c.tell_read_fault.ensures next

pub returns-in-Err-TooLong-clause-fails : goal.returns-in-Err-TooLong-clause-fails
returns-in-Err-TooLong-clause-fails g c = λ next out.
    let reads = rw c.in-Err-TooLong.field-0-is at c.in-Err-TooLong.ensures.reads in
    long_file c.args.name.now (g.S.Shelf.view c.args.shelf.now) (g.S.Shelf.view c.read_whole.new.shelf) out (g.E.Sink.view c.args.err.now)
    (g.E.Sink.view c.tell_too_long.new.err) (record { held = reads.held; opens = reads.opens; faults = reads.quiet (λ e. cc) })
    (c.in-Err-TooLong.ensures.too_long cc) c.tell_too_long.ensures next

pub returns-in-Err-Memory-clause-fails : goal.returns-in-Err-Memory-clause-fails
returns-in-Err-Memory-clause-fails g c = λ next out.
    let reads = rw c.in-Err-Memory.field-0-is at c.in-Err-Memory.ensures.reads in
    memory_in c.args.name.now (g.S.Shelf.view c.args.shelf.now) (g.S.Shelf.view c.read_whole.new.shelf) out (g.E.Sink.view c.args.err.now)
    (g.E.Sink.view c.args.err.now) (taken_protocol c.args.name.now next) (λ files. omega arith)
    (record { held = reads.held; opens = reads.opens; faults = reads.quiet (λ e. cc) }) refl
