use Rattle.xpath_steps.proofs.SetLemmas.{kept_in, kept_out, kept_both}
use Rattle.xpath_steps.proofs.sets.combined.Goals as goal

pub returns-in-Intersect : goal.returns-in-Intersect
returns-in-Intersect c =
    kept_in c.args.operator c.args.xs.items c.args.ys.items c.sorted.result.items c.deref.result.now c.deref-in-Intersect.result.now c.those_in.result
    c.in-Intersect.is c.sorted.ensures.same c.deref.ensures.value c.deref-in-Intersect.ensures.value c.those_in.ensures

pub returns-in-Except : goal.returns-in-Except
returns-in-Except c =
    kept_out c.args.operator c.args.xs.items c.args.ys.items c.sorted-in-Except.result.items c.deref-in-Except.result.now c.deref-in-Except-2.result.now
    c.those_in-in-Except.result
    c.in-Except.is c.sorted-in-Except.ensures.same c.deref-in-Except.ensures.value c.deref-in-Except-2.ensures.value c.those_in-in-Except.ensures

pub returns-in_default : goal.returns-in_default
returns-in_default c =
    kept_both c.args.operator c.args.xs.items c.args.ys.items c.deref-in_default.result.now c.all_of.result c.in_default.not-Intersect c.in_default.not-Except
    c.deref-in_default.ensures.value c.all_of.ensures
