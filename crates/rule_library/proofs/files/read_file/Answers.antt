use Rattle.std.proofs.Common.{string_bytes}
use Rattle.rule_library.specs.Readings.{reads}
use Rattle.rule_library.proofs.LeadsLemmas.{fails_full}
use Rattle.rule_library.proofs.ReadLemmas.{was_read, file_fails}
use Rattle.rule_library.proofs.files.read_file.Goals as goal

pub returns-in-Err-clause-fails : goal.returns-in-Err-clause-fails
returns-in-Err-clause-fails g c = λ next. fails_full (reads c.args.name.now next) c.want_of_memory.result
    (g.S.Shelf.view c.args.shelf.now) c.want_of_memory.ensures

pub returns-in-Ok-load_sized-clause-read : goal.returns-in-Ok-load_sized-clause-read
returns-in-Ok-load_sized-clause-read g c =
    let loaded = c.in-Ok-load_sized.ensures in
    was_read c.args.name.now (string_bytes c.in-Ok.copied) c.args.start c.in-Ok-load_sized.loaded.length c.in-Ok-load_sized.loaded.doc
    (g.S.Shelf.view c.args.shelf.now) (g.S.Shelf.view c.load_sized.new.shelf)
    c.in-Ok.ensures.ok loaded.loaded loaded.reads.held loaded.reads.opens (loaded.reads.quiet (λ e. cc))

pub returns-in-Err-load_sized-clause-fails : goal.returns-in-Err-load_sized-clause-fails
returns-in-Err-load_sized-clause-fails g c =
    let failed = c.in-Err-load_sized.ensures in
    λ next. file_fails c.args.name.now next c.in-Err-load_sized.fault c.fault_of_file.result (g.S.Shelf.view c.args.shelf.now)
    (g.S.Shelf.view c.load_sized.new.shelf)
    c.fault_of_file.ensures failed.reads.held failed.reads.opens failed.reads.rises (λ e. failed.reads.rose (cc))
    (λ other. failed.reads.quiet (λ e. other (cc)))
    (λ wrong e. failed.refused wrong (cc)) (λ wrong e. failed.stops wrong (cc))
