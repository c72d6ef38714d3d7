use Rattle.std.proofs.Common.{map, sym, subst}
use Rattle.term_table.specs.Runs.{IsInOrder, IsNested}
use Rattle.inv_terms.specs.Listing.{seat_of}
use Rattle.page_values.proofs.PlaceLemmas.{inside-order, inside-nested, inside-not-root}
use Rattle.page_values.proofs.places.occurrence.Goals as goal

pub returns-clause-place : goal.returns-clause-place
returns-clause-place c = record {
  order = subst (λ es. IsInOrder (map seat_of es)) (sym c.run_in.ensures)
      (inside-order c.args.place.now.entries.now c.context_inside-context.result c.requires.order);
  nested = subst IsNested (sym c.context_inside-context.ensures) (inside-nested c.args.place.now.context _);
  counted = λ none. absurd (inside-not-root c.args.place.now.context c.context_inside-context.result _ c.context_inside-context.ensures none);
}
