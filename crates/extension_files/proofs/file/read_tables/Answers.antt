use Rattle.std.proofs.Common.{◌≡◌, ◌≤◌, ◌+◌, ◌++◌, ◌∷◌, [], length, drop, sym, ap, ◌∙◌, arith}
use Rattle.std.proofs.lemmas.List.{length-append}
use Rattle.toml.specs.View.{view, items_view}
use Rattle.extension_files.specs.ExtensionFiles.{terms_from}
use Rattle.extension_files.proofs.FileLemmas.{behind, tables-turn}
use Rattle.extension_files.proofs.ExtensionLemmas.{value-rises}
use Rattle.extension_files.proofs.file.read_tables.Goals as goal

pub tables-preserved : goal.tables-preserved
tables-preserved c =
    let (sofar, (few, most)) = c.tables.invariant in
    let all = c.deref-table-items.result.now in
    let term = c.in-Some.term in
    let told = sym c.in-Some.is ∙ c.in_ok-term.ensures in
    let turned = tables-turn all c.tables.table-index c.tables.before c.tables.terms sofar c.table-item.result c.tables-test.true c.table-item.is term told in
    let (above, top) = value-rises c.tables.before (view c.table-item.result) term told in
    let pushed : c.push.new.self ≡ c.tables.terms ++ term ∷ [] = c.in_ok-push-in-Some.ensures.ok in
    let count : length c.push.new.self ≡ length c.tables.terms + 1 = ap length pushed ∙ length-append c.tables.terms (term ∷ []) in
    let rises : length c.push.new.self ≤ term.number = omega (arith, count, few, above) in (
      ap (λ terms. behind terms (terms_from term.number (length terms + 1) (items_view (drop (c.tables.table-index + 1) all)))) pushed ∙ turned,
      (rises, top),
    )
