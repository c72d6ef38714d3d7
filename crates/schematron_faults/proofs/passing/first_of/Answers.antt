use Rattle.std.proofs.Common.{Some, ap, sym, ◌∙◌, false}
use Rattle.std.specs.Prelude.{slice_index_or}
use Rattle.schematron_meaning.specs.Counts.{added}
use Rattle.schematron_expansion.specs.Counted.{is_counted, counted_among}
use Rattle.schematron_expansion.specs.Sizes.{assertions_at, assertions_among}
use Rattle.schematron_faults.specs.Stopped.{seen_sums, stopped}
use Rattle.schematron_faults.proofs.CountLemmas.{mapped, passing-begin, passing-more, passing-here}
use Rattle.schematron_faults.proofs.passing.first_of.Goals as goal

pub places-init : goal.places-init
places-init c = passing-begin c.args.file.now c.entries-entries.result.now
    (seen_sums c.no_sums-before.result) c.no_sums-before.ensures c.entries-entries.ensures

pub sums_at-requires-clause-inclusions : goal.sums_at-requires-clause-inclusions
sums_at-requires-clause-inclusions c =
    ap (λ l. slice_index_or l c.places.at 0) (c.requires.inclusions ∙ ap (assertions_among c.args.file.now) (sym c.entries-entries.ensures))
    ∙ mapped (assertions_at c.args.file.now) 0 c.entries-entries.result.now c.places.at c.index-entries-at.result c.places-test.true c.index-entries-at.is

pub sums_at-requires-clause-counted : goal.sums_at-requires-clause-counted
sums_at-requires-clause-counted c =
    ap (λ l. slice_index_or l c.places.at false) (c.requires.counted ∙ ap (counted_among c.args.file.now.entries) (sym c.entries-entries.ensures))
    ∙ mapped (is_counted c.args.file.now.entries) false c.entries-entries.result.now c.places.at c.index-entries-at.result c.places-test.true
    c.index-entries-at.is

pub returns-then-passes_any : goal.returns-then-passes_any
returns-then-passes_any c =
    ap Some c.too_many.ensures
    ∙ passing-here c.args.file.now c.entries-entries.result.now c.places.at c.index-entries-at.result (seen_sums c.places.before)
    (seen_sums c.added-after.result) _ c.places-test.true c.index-entries-at.is
    (c.added-after.ensures ∙ ap (λ t. stopped (added (seen_sums c.places.before) t)) c.sums_at.ensures)
    (sym c.passes_any.ensures ∙ c.if-passes_any.true) c.places.invariant

pub places-preserved : goal.places-preserved
places-preserved c =
    passing-more c.args.file.now c.entries-entries.result.now c.places.at c.index-entries-at.result (seen_sums c.places.before)
    (seen_sums c.added-after.result) _ c.places-test.true c.index-entries-at.is
    (c.added-after.ensures ∙ ap (λ t. stopped (added (seen_sums c.places.before) t)) c.sums_at.ensures)
    (sym c.passes_any.ensures ∙ c.if-passes_any.false) c.places.invariant
