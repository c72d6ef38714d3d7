use Rattle.std.proofs.Common.{◌<◌, ◌∙◌, None, refl, sym, subst}
use Rattle.std.proofs.lemmas.List.{length-set}
use Rattle.schematron_run.proofs.ListLemmas.{below_at}
use Rattle.schematron_run.proofs.MarkLemmas.{clear_begin, clear_next, clear_end}
use Rattle.schematron_run.proofs.firsts.clear.Goals as goal

pub touched-init : goal.touched-init
touched-init c = record { long = refl; rest = clear_begin c.args.table.now c.args.touched.now c.requires.touched }

pub bounds-table-number : goal.bounds-table-number
bounds-table-number c =
    rw c.number.ensures
    (subst (λ k. c.n-item.result < k) (sym c.touched.invariant.long)
    (below_at _ c.args.touched.now c.touched.n-index c.n-item.result c.requires.within c.n-item.is c.touched-test.true))

pub touched-preserved : goal.touched-preserved
touched-preserved c =
    let within = subst (λ k. c.n-item.result < k) (sym c.touched.invariant.long)
    (below_at _ c.args.touched.now c.touched.n-index c.n-item.result c.requires.within c.n-item.is c.touched-test.true) in
    record {
      long = length-set c.touched.table c.number.result None ∙ c.touched.invariant.long;
      rest = rw c.number.ensures (clear_next c.touched.table c.args.touched.now c.touched.n-index c.n-item.result c.n-item.is c.touched-test.true within
          c.touched.invariant.rest);
    }

pub returns-clause-clear : goal.returns-clause-clear
returns-clause-clear c = clear_end c.touched.table c.args.touched.now c.touched.n-index c.touched-test.false c.touched.invariant.rest
