use Rattle.xpath_walks.specs.Walks.{IsWalked}
use Rattle.xpath_marks.proofs.InsideLemmas.{Gone}
use Rattle.xpath_marks.proofs.inside.all_inside.Given as goal

abbrev pub invariant-from : goal.invariant-from
invariant-from g l = (w : IsWalked l.dynamic.doc.now) → Gone l.dynamic w l.from l.n-index l.around l.out.items
