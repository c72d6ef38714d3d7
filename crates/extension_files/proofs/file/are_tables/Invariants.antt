use Rattle.std.proofs.Common.{◌≡◌, drop}
use Rattle.toml.specs.View.{items_view}
use Rattle.extension_files.specs.ExtensionFiles as spec
use Rattle.extension_files.proofs.file.are_tables.Given as goal

abbrev pub invariant-items : goal.invariant-items
invariant-items l = spec.are_tables (items_view (drop l.item-index l.item-items)) ≡ spec.are_tables (items_view l.item-items)
