use Rattle.std.proofs.Common.{◌++◌, sym, ◌∙◌}
use Rattle.xml_profile.proofs.TurnLemmas.{breaks-as}
use Rattle.xml_profile.proofs.InsideLemmas.{close-beyond, close-wrong, close-right, close-behind}
use Rattle.xml_profile.proofs.cursor.Cursor.close.Goals as goal

pub returns-then-not-has_room_behind : goal.returns-then-not-has_room_behind
returns-then-not-has_room_behind g c = λ held bytes long is.
    breaks-as _ _ _ _ _ _ _ _ c.too_long.ensures (close-beyond _ _ _ _ _ _ _ _ is (sym c.has_room_behind.ensures ∙ c.if-not-has_room_behind.true)
    (λ events t. t))

pub returns-in-Some : goal.returns-in-Some
returns-in-Some g c = λ held bytes long is.
    close-wrong _ _ _ _ _ _ _ _ _ _ c.in-Some.is is (sym c.has_room_behind.ensures ∙ c.if-not-has_room_behind.false) c.fault_at.ensures (λ events t. t)

pub returns-in-None : goal.returns-in-None
returns-in-None g c = λ held bytes long is.
    c.pass_aside.ensures held (bytes ++ c.args.piece.now) (close-right _ _ _ _ _ c.in-None.is is) (close-behind bytes _ _ _ _ long c.split_at.ensures.back)
