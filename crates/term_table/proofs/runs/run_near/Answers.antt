use Rattle.std.proofs.Common.{◌≡◌, true, false, sym, ap, subst, ◌∙◌, take}
use Rattle.std.specs.List.Sorted.{IsPartitionedBy, IsPartitionPoint}
use Rattle.term_table.specs.Contexts.{is_inside}
use Rattle.term_table.proofs.RunLemmas.{ahead_first, ahead_point, inside_first, run-is}
use Rattle.term_table.proofs.runs.run_near.Goals as goal

pub count_ahead-first-requires : goal.count_ahead-first-requires
count_ahead-first-requires g c = ahead_first g.T.Seated.seat_of c.args.seats.now c.args.context c.requires.context c.requires.order

pub len_inside-len-requires : goal.len_inside-len-requires
len_inside-len-requires g c =
    let f = g.T.Seated.seat_of in
    let k = c.count_ahead-first.result in
    subst (IsPartitionedBy (λ x. is_inside c.args.context (f x).context)) (sym c.split_at.ensures.back)
    (inside_first f c.args.seats.now c.args.context c.requires.context c.requires.order k
    (ahead_point f c.args.seats.now c.args.context c.requires.context c.requires.order k c.count_ahead-first.ensures.bound c.count_ahead-first.ensures.point))

pub returns : goal.returns
returns g c =
    let f = g.T.Seated.seat_of in
    let xs = c.args.seats.now in
    let context = c.args.context in
    let k = c.count_ahead-first.result in
    let m = c.len_inside-len.result in
    let first = ahead_point f xs context c.requires.context c.requires.order k c.count_ahead-first.ensures.bound c.count_ahead-first.ensures.point in
    let back = c.split_at.ensures.back in
    let second = subst (λ ys. IsPartitionPoint (λ x. is_inside context (f x).context ≡ true) (λ x. is_inside context (f x).context ≡ false) ys m) back
    c.len_inside-len.ensures.point in
    record { run = c.split_at-2.ensures.front ∙ (ap (take m) back ∙ sym (run-is f xs context c.requires.context c.requires.order k m first second)) }
