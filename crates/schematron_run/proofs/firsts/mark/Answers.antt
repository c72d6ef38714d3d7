use Rattle.std.proofs.Common.{◌<◌, ◌∙◌, sym, subst}
use Rattle.schematron_run.proofs.ListLemmas.{below_at}
use Rattle.schematron_run.proofs.MarkLemmas.{marked_next, marked_all}
use Rattle.schematron_run.proofs.firsts.mark.Goals as goal

pub mark_one-requires-clause-within : goal.mark_one-requires-clause-within
mark_one-requires-clause-within c =
    subst (λ k. c.n-item.result < k) (sym c.marks.invariant.long)
    (below_at _ c.args.marks.now c.marks.n-index c.n-item.result c.requires.within c.n-item.is c.marks-test.true)

pub mark_one-requires-clause-touched : goal.mark_one-requires-clause-touched
mark_one-requires-clause-touched c = c.marks.invariant.touched

pub marks-preserved : goal.marks-preserved
marks-preserved c = record {
  long = c.mark_one.ensures.long ∙ c.marks.invariant.long;
  touched = c.in_ok-mark_one.ensures.touched;
  ahead = marked_next c.args.marks.now c.marks.n-index c.n-item.result c.args.rule c.args.table.now c.marks.table c.mark_one.new.table c.n-item.is
      c.marks-test.true
      c.in_ok-mark_one.ensures.kept c.marks.invariant.ahead;
}

pub returns-clause-kept : goal.returns-clause-kept
returns-clause-kept c = marked_all c.args.marks.now c.marks.n-index c.args.rule c.args.table.now c.marks.table c.marks-test.false c.marks.invariant.ahead
