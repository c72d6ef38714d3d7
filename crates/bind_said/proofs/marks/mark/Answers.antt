use Rattle.std.proofs.Common.{true, length, ◌≤◌, ap, sym, ◌∙◌, arith}
use Rattle.std.specs.Prelude.{slice_set}
use Rattle.std.proofs.lemmas.Bool.Decides.{nat_tests}
use Rattle.bind_said.proofs.MarkLemmas.{mark-one, mark-outside}
use Rattle.bind_said.proofs.marks.mark.Goals as goal

pub returns-then-place-len : goal.returns-then-place-len
returns-then-place-len c = ap (λ k. slice_set c.args.marks.now.items k true) c.number-place.ensures ∙ mark-one c.args.marks.now.items c.args.n

pub returns-else-place-len : goal.returns-else-place-len
returns-else-place-len c =
    let place = c.number-place.ensures in
    let long = c.len.ensures in
    let past = c.if-place-len.false in
    let behind : length c.args.marks.now.items ≤ c.args.n = grind (arith, nat_tests) in
    mark-outside c.args.marks.now.items c.args.n behind
