use Rattle.std.proofs.Common.{◌+◌, Some, arith}
use Rattle.std.proofs.lemmas.Grind.{common_steps}
use Rattle.inv_base.specs.contracts.mem_shelf.MemShelf.{the_view}
use Rattle.inv_base.specs.declared.mem_shelf.Opened.{Opened}
use Rattle.inv_base.proofs.FilesLemmas.{Reads-behind_read}
use Rattle.inv_base.proofs.mem_shelf.MemShelfShelf.read.Goals as goal

pub returns-in-Some-clause-reads : goal.returns-in-Some-clause-reads
returns-in-Some-clause-reads c =
    let inside = c.self.inside in
    let count = c.give-count.result in
    let opened : Opened = record { file = c.in-Some.opened.file; position = c.in-Some.opened.position + count } in
    let behind = the_view (record {
      alloc = inside.alloc;
      files = inside.files;
      opened = Some opened;
      piece = inside.piece;
      failing = inside.failing;
      calls =
          c.saturating_add-self-inside.result;
      faults = inside.faults;
      opens = inside.opens;
    }) in
    Reads-behind_read count c.args.self.now behind c.args.buf.now c.give-count.new.buf
    (grind (arith, common_steps)) (grind (arith, common_steps)) (grind (arith, common_steps)) (grind (arith, common_steps))
