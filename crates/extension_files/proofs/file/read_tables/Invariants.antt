use Rattle.std.proofs.Common.{◌≡◌, ◌≤◌, ◌+◌, length, drop}
use Rattle.toml.specs.View.{items_view}
use Rattle.extension_files.specs.ExtensionFiles as spec
use Rattle.extension_files.proofs.FileLemmas.{behind}
use Rattle.extension_files.proofs.file.read_tables.Given as goal

abbrev pub invariant-tables : goal.invariant-tables
invariant-tables l =
    (behind l.terms (spec.terms_from l.before (length l.terms + 1) (items_view (drop l.table-index l.table-items))) ≡ spec.terms_from 0 1
    (items_view l.table-items))
    × ((length l.terms ≤ l.before) × (l.before ≤ 99))
