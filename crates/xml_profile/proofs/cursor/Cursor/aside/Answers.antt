use Rattle.std.proofs.Common.{length, refl, sym, ◌∙◌}
use Rattle.xml_profile.proofs.TurnLemmas.{breaks-as}
use Rattle.xml_profile.proofs.InsideLemmas.{inside-closed, inside-stays, inside-beyond}
use Rattle.xml_profile.proofs.cursor.Cursor.aside.Goals as goal

pub returns-in-Some : goal.returns-in-Some
returns-in-Some g c = λ bytes inside.
    c.close.ensures _ bytes inside.came (inside-closed c.args.reading.ended c.args.reading.limits c.args.self.now c.args.held.now bytes c.args.piece.now inside
    _ _ (c.in-Some.ensures.course (length bytes)))

pub returns-then-not-has_room_behind : goal.returns-then-not-has_room_behind
returns-then-not-has_room_behind g c = λ bytes inside.
    breaks-as _ _ _ _ _ _ _ _ c.too_long.ensures
    (inside-beyond c.args.reading.ended c.args.reading.limits c.args.self.now c.args.held.now bytes c.args.piece.now inside _ _ _
    (c.in-None.ensures.course (length bytes))
    (sym c.has_room_behind.ensures ∙ c.if-not-has_room_behind.true) (λ events t. t))

pub returns-else-not-has_room_behind : goal.returns-else-not-has_room_behind
returns-else-not-has_room_behind g c = λ bytes inside.
    inside-stays c.args.reading.ended c.args.reading.limits c.args.self.now c.args.held.now bytes c.args.piece.now inside _ _ _
    (c.in-None.ensures.course (length bytes)) refl
    (sym c.has_room_behind.ensures ∙ c.if-not-has_room_behind.false) (λ events t. t)
