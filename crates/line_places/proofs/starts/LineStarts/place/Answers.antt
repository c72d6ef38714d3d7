use Rattle.std.proofs.Common.{◌≡◌, ◌∙◌, ◌∷◌, ap, arith, get_or}
use Rattle.std.specs.Prelude.{min}
use Rattle.std.proofs.lemmas.Bool.Decides.{nat_tests}
use Rattle.line_places.specs.Places.{count_to}
use Rattle.line_places.proofs.StartLemmas.{never_falls, count_within, rise_count, start_reached}
use Rattle.line_places.proofs.LineLemmas.{placed}
use Rattle.line_places.proofs.starts.LineStarts.place.Goals as goal

pub count_to-count-requires : goal.count_to-count-requires
count_to-count-requires c = rw c.deref.ensures.value (never_falls 0 c.self.inside.length c.self.inside.starts.items c.self.invariant)

pub start_of-start-requires : goal.start_of-start-requires
start_of-start-requires c = rw (c.count_to-count.ensures, c.deref.ensures.value, c.deref-2.ensures.value)
    (count_within c.min-within.result c.self.inside.starts.items)

pub overflow_add-result : goal.overflow_add-result
overflow_add-result c =
    let within = count_within c.min-within.result c.self.inside.starts.items in
    let all = rise_count 0 c.self.inside.length c.self.inside.starts.items c.self.invariant in
    let count : c.count_to-count.result ≡ count_to c.min-within.result c.self.inside.starts.items = c.count_to-count.ensures ∙
    ap (count_to c.min-within.result) c.deref.ensures.value in
    omega (arith, within, all, count)

pub overflow_sub-result : goal.overflow_sub-result
overflow_sub-result c =
    let reached = start_reached 0 c.self.inside.length c.min-within.result c.self.inside.starts.items c.self.invariant (omega arith) in
    rw (c.start_of-start.ensures, c.count_to-count.ensures, c.deref.ensures.value, c.deref-2.ensures.value) reached

pub returns : goal.returns
returns c = λ content are.
    let starts = c.self.inside.starts.items in
    let count : c.count_to-count.result ≡ count_to c.min-within.result starts = c.count_to-count.ensures ∙
    ap (count_to c.min-within.result) c.deref.ensures.value in
    let start : c.start_of-start.result ≡ get_or (0 ∷ starts) c.count_to-count.result 0 =
    c.start_of-start.ensures ∙ ap (λ xs. get_or (0 ∷ xs) c.count_to-count.result 0) c.deref-2.ensures.value in
    placed (record { starts = starts; length = c.self.inside.length }) content c.args.byte c.min-within.result c.count_to-count.result c.start_of-start.result
    (rw (← c.self.view_is) at are) c.min-within.ensures count start
