use Rattle.std.proofs.Common.{refl, subst}
use Rattle.std.specs.Prelude.{IfOk}
use Rattle.xml_document.specs.Whole.{IsReadWhole, IsTooLong}
use Rattle.xml_document.proofs.ReadingLemmas.{failed_from, opened_from}
use Rattle.xml_document.proofs.whole.read_whole.Goals as goal

pub returns-in-Err-clause-reads : goal.returns-in-Err-clause-reads
returns-in-Err-clause-reads g c =
    let opened = c.in-Err.ensures in
    failed_from _ _ (g.S.Shelf.view c.args.shelf.now) (g.S.Shelf.view c.open.new.self) refl opened.held opened.opens opened.faults.0 opened.faults.1

pub returns : goal.returns
returns g c =
    let opened = c.in-Ok.ensures in
    let read = c.read_open.ensures in
    record {
      reads = opened_from _ _ (g.S.Shelf.view c.args.shelf.now) (g.S.Shelf.view c.open.new.self)
          (g.S.Shelf.view c.read_open.new.shelf) opened.held opened.opens opened.faults read.reads;
      bytes = subst (λ told. IfOk c.read_open.result (λ bytes. IsReadWhole c.args.limit told bytes.items)) opened.left read.bytes;
      too_long = λ is. subst (λ told. IsTooLong c.args.limit told (g.S.Shelf.view c.read_open.new.shelf).left) opened.left (read.too_long is);
    }
