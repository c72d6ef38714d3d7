use Rattle.std.proofs.Common.{◌≡◌, Bool, true, false, map, ap, sym, ◌∙◌}
use Rattle.std.specs.Prelude.{not}
use Rattle.std.specs.Bool.{OnFalse}
use Rattle.std.proofs.lemmas.Bool.{false≢true}
use Rattle.std.proofs.lemmas.Result.{on_ok_weaker}
use Rattle.std.specs.Ordering.{nat_cmp}
use Rattle.std.specs.Cmp.Lexicographic.{slice_cmp}
use Rattle.std.specs.BTreeSet.{insert_key}
use Rattle.bind_terms.specs.Telling.{seat_of_first}
use Rattle.bind_terms.specs.Rooms.{has_key}
use Rattle.bind_terms.proofs.Rooms.{room-new, room-old}
use Rattle.bind_terms.specs.Inputs.{nodes_of}
use Rattle.bind_terms.proofs.violations.put_violations_at.Goals as goal

on-false : (b : Bool) (P : Type 0) → OnFalse b P → b ≡ false → P
on-false true P h e = absurd (false≢true (sym e))
on-false false P h e = h

pub returns-then-added : goal.returns-then-added
returns-then-added g c =
    on_ok_weaker c.put_violations_in.result
    (λ put. room-new (nodes_of c.args.told.now.input.now)
    (map seat_of_first c.args.told.now.firsts.now) c.args.context c.args.seat c.in-Some.seat c.in-Some.is c.args.seen.now.places.keys c.insert.new.self.keys
    c.in_ok-added-in-Some.added (c.in_ok-added-in-Some.ensures.added ∙ ap (λ key. not (has_key c.args.seen.now.places.keys key)) c.key_of.ensures)
    (g.K.Keeper.given c.args.keeper.now) (g.K.Keeper.given c.put_violations_in.new.keeper) c.if-added.true
    (c.in_ok-added-in-Some.ensures.keys ∙ ap (insert_key (slice_cmp nat_cmp) c.args.seen.now.places.keys) c.key_of.ensures) put) c.put_violations_in.ensures

pub returns-else-added : goal.returns-else-added
returns-else-added g c =
    room-old (nodes_of c.args.told.now.input.now)
    (map seat_of_first c.args.told.now.firsts.now) c.args.context c.args.seat c.in-Some.seat c.in-Some.is c.args.seen.now.places.keys c.insert.new.self.keys
    c.in_ok-added-in-Some.added (c.in_ok-added-in-Some.ensures.added ∙ ap (λ key. not (has_key c.args.seen.now.places.keys key)) c.key_of.ensures)
    (g.K.Keeper.given c.args.keeper.now) c.if-added.false (on-false c.in_ok-added-in-Some.added _ c.in_ok-added-in-Some.ensures.unchanged c.if-added.false)
