use Rattle.std.proofs.Common.{nat_eq, ap, sym, ◌∙◌}
use Rattle.std.specs.Prelude.{slice_index_or}
use Rattle.indexmap.specs.IndexMap.{get}
use Rattle.schematron_expansion.specs.Sizes.{assertions_inside_at, assertions_inside_all}
use Rattle.schematron_faults.proofs.CountLemmas.{sizes-more, mapped}
use Rattle.schematron_faults.proofs.sizes.sizes_of.Goals as goal

pub places-preserved : goal.places-preserved
places-preserved c =
    let inside = ap (λ l. slice_index_or l c.places.at 0) (c.requires ∙ ap (assertions_inside_all c.args.file.now) (sym c.entries-entries.ensures))
    ∙ mapped (assertions_inside_at c.args.file.now) 0 c.entries-entries.result.now c.places.at c.index-entries-at.result c.places-test.true
    c.index-entries-at.is in
    sizes-more c.args.file.now c.entries-entries.result.now c.places.at c.index-entries-at.result (slice_index_or c.args.inside.now c.places.at 0)
    (λ n. get nat_eq c.places.sizes n) (λ n. get nat_eq c.take_entry.new.sizes n) c.places-test.true c.index-entries-at.is inside c.places.invariant
    c.in_ok-take_entry.ensures
