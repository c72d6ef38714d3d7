use Rattle.std.proofs.Common.{◌≡◌, ◌++◌, map, length}
use Rattle.std.specs.Vec.Iter.{into_iter_items, into_iter_len}
use Rattle.rule_library.specs.Library.{named}
use Rattle.rule_library.proofs.loading.names_of.Given as goal

abbrev pub invariant-files : goal.invariant-files
invariant-files l =
    (l.names.items ++ map named (into_iter_items l.file-iterator) ≡ map named l.fn.files.items) ×
    (into_iter_len l.file-iterator ≡ length (into_iter_items l.file-iterator))
