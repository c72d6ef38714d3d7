use Rattle.std.proofs.Common.{◌≡◌, [], drop}
use Rattle.toml.specs.View.{items_view}
use Rattle.code_lists.specs.CodeFiles as spec
use Rattle.code_lists.proofs.file.read_codes.Given as goal

abbrev pub invariant-items : goal.invariant-items
invariant-items l =
    spec.with_items l.codes (items_view (drop l.item-index l.item-items)) ≡ spec.with_items [] (items_view l.item-items)
