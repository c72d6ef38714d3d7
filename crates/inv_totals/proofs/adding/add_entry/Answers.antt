use Rattle.std.proofs.Common.{refl, sym, ap, ◌∙◌, max}
use Rattle.inv_totals.specs.declared.adding.Tally.{Tally}
use Rattle.inv_totals.proofs.TallyLemmas.{Counts, counted, added_part}
use Rattle.inv_totals.proofs.adding.add_entry.Goals as goal

pub returns-in-Some : goal.returns-in-Some
returns-in-Some c = λ es so_far.
    let old = c.args.tally.now in
    let mid : Tally = record {
      sums = old.sums;
      categories = old.categories;
      taxes = c.with_tax-tally.result;
      breakdowns = c.max-tally.result;
      key =
          old.key;
    } in
    let counts : Counts c.args.e.now old mid =
    record {
      sums = refl;
      categories = refl;
      taxes = c.with_tax-tally.ensures;
      breakdowns = c.max-tally.ensures ∙ ap
          (max old.breakdowns) c.breakdown_of.ensures;
    } in
    added_part c.args.i.now es c.args.e.now old mid so_far counts c.add_part.result c.add_part.new.tally c.in-Some.part (sym c.of.ensures
    ∙ c.in-Some.is) c.add_part.ensures

pub returns-in-None : goal.returns-in-None
returns-in-None c = λ es so_far.
    let old = c.args.tally.now in
    let mid : Tally = record {
      sums = old.sums;
      categories = old.categories;
      taxes = c.with_tax-tally.result;
      breakdowns = c.max-tally.result;
      key =
          old.key;
    } in
    let counts : Counts c.args.e.now old mid =
    record {
      sums = refl;
      categories = refl;
      taxes = c.with_tax-tally.ensures;
      breakdowns = c.max-tally.ensures ∙ ap
          (max old.breakdowns) c.breakdown_of.ensures;
    } in
    counted c.args.i.now es c.args.e.now old mid so_far counts (sym c.of.ensures ∙ c.in-None.is)
