use Rattle.std.proofs.Common.{refl, subst}
use Rattle.std.specs.Prelude.{IfOk}
use Rattle.xml_document.specs.Loading.{IsLoadedAndGiven, IsRefused, StopsInTime}
use Rattle.xml_document.proofs.ReadingLemmas.{failed_from, opened_from}
use Rattle.xml_document.proofs.loading.load_giving.Goals as goal

pub returns-in-Err-clause-reads : goal.returns-in-Err-clause-reads
returns-in-Err-clause-reads g c =
    let opened = c.in-Err.ensures in
    failed_from _ _ (g.S.Shelf.view c.args.shelf.now) (g.S.Shelf.view c.open.new.self) refl opened.held opened.opens opened.faults.0 opened.faults.1

pub returns : goal.returns
returns g c =
    let limits = c.args.limits in
    let opened = c.in-Ok.ensures in
    let read = c.read_open.ensures in
    record {
      reads = opened_from _ _ (g.S.Shelf.view c.args.shelf.now) (g.S.Shelf.view c.open.new.self)
          (g.S.Shelf.view c.read_open.new.shelf) opened.held opened.opens opened.faults read.reads;
      loaded = subst (λ told. IfOk c.read_open.result (λ loaded. IsLoadedAndGiven limits told loaded.length loaded.doc
          (g.B.ByteReceiver.taken c.args.bytes.now) (g.B.ByteReceiver.taken c.read_open.new.bytes))) opened.left read.loaded;
      refused = λ fault is. subst (λ told. IsRefused limits told fault) opened.left (read.refused fault is);
      stops = λ fault is. subst (λ told. StopsInTime limits told (g.S.Shelf.view c.read_open.new.shelf).left) opened.left (read.stops fault is);
    }
