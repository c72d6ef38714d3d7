use Rattle.rule_library.specs.Turns.{state_of}
use Rattle.rule_library.proofs.LoadLemmas.{reaches_all, loads, load_fails, load_full, load_full_behind}
use Rattle.rule_library.proofs.GiveLemmas.{library_gives}
use Rattle.rule_library.proofs.loading.load.Goals as goal

pub returns-in-Err-clause-fails : goal.returns-in-Err-clause-fails
returns-in-Err-clause-fails g c = c.in-Err.ensures.fails _

pub returns-in-Err-begin-clause-fails : goal.returns-in-Err-begin-clause-fails
returns-in-Err-begin-clause-fails g c =
    load_full c.args.name.now c.in-Ok.file c.want_of_memory.result (g.S.Shelf.view c.args.shelf.now)
    (g.S.Shelf.view c.read_file.new.shelf) c.in-Ok.ensures.read c.want_of_memory.ensures

pub finished-requires : goal.finished-requires
finished-requires g c =
    let walk = c.go_over.new.walk in
    let all = reaches_all c.args.name.now c.in-Ok.file c.in-Ok-begin.walk walk (g.S.Shelf.view c.args.shelf.now) (g.S.Shelf.view c.read_file.new.shelf)
    (g.S.Shelf.view c.go_over.new.shelf)
    c.in-Ok.ensures.read c.in-Ok-begin.ensures.begins c.in-Ok-go_over.ensures.done in
    record {
      stands = c.in-Ok-go_over.ensures.stands;
      whole = library_gives (g.S.Shelf.view c.args.shelf.now).held c.args.name.now (state_of walk) all.count c.files_are_documents.ensures all.leads;
    }

pub returns-in-Ok-finished-clause-loaded : goal.returns-in-Ok-finished-clause-loaded
returns-in-Ok-finished-clause-loaded g c =
    loads c.args.name.now c.in-Ok.file c.in-Ok-begin.walk c.go_over.new.walk c.in-Ok-finished.library (g.S.Shelf.view c.args.shelf.now)
    (g.S.Shelf.view c.read_file.new.shelf) (g.S.Shelf.view c.go_over.new.shelf)
    c.in-Ok.ensures.read c.in-Ok-begin.ensures.begins c.in-Ok-go_over.ensures.done c.in-Ok-finished.ensures

pub returns-in-Err-finished-clause-fails : goal.returns-in-Err-finished-clause-fails
returns-in-Err-finished-clause-fails g c =
    load_full_behind c.args.name.now c.in-Ok.file c.in-Ok-begin.walk c.go_over.new.walk c.want_of_memory-in-Err-finished.result
    (g.S.Shelf.view c.args.shelf.now) (g.S.Shelf.view c.read_file.new.shelf) (g.S.Shelf.view c.go_over.new.shelf)
    c.in-Ok.ensures.read c.in-Ok-begin.ensures.begins c.in-Ok-go_over.ensures.done c.want_of_memory-in-Err-finished.ensures

pub returns-in-Err-go_over-clause-fails : goal.returns-in-Err-go_over-clause-fails
returns-in-Err-go_over-clause-fails g c =
    load_fails c.args.name.now c.in-Ok.file c.in-Ok-begin.walk c.in-Err-go_over.fault (g.S.Shelf.view c.args.shelf.now) (g.S.Shelf.view c.read_file.new.shelf)
    (g.S.Shelf.view c.go_over.new.shelf)
    c.in-Ok.ensures.read c.in-Ok-begin.ensures.begins c.in-Err-go_over.ensures.fails
