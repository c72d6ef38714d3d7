use Rattle.std.proofs.Common.{ap}
use Rattle.std.specs.Prelude.{encode_utf8_all}
use Rattle.inv_base.specs.Memory.{Taken}
use Rattle.bind_write.specs.Documents.{document_text}
use Rattle.trial_run.proofs.MemoryLemmas.{written-kept}
use Rattle.trial_run.proofs.reading.written_by.Goals as goal

pub returns-in-Ok : goal.returns-in-Ok
returns-in-Ok c =
    let text = encode_utf8_all (document_text c.args.table.now c.args.invoice.now) in
    written-kept c.args.syntax c.args.invoice.now text c.in_ok-text.text c.write.new.out
    (ap (λ rows. encode_utf8_all (document_text rows c.args.invoice.now)) c.requires)
    (ap (λ (s : Taken). s.bytes) c.in_ok-text.ensures) c.in-Ok.ensures
