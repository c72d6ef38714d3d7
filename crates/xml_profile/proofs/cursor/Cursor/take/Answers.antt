use Rattle.std.proofs.Common.{sym, ◌∙◌}
use Rattle.xml_profile.proofs.TokenLemmas.{token-within}
use Rattle.xml_profile.proofs.TurnLemmas.{breaks-as, refuses, goes-on, is-beyond, advanced}
use Rattle.xml_profile.proofs.cursor.Cursor.take.Goals as goal

pub returns-then-not-has_room : goal.returns-then-not-has_room
returns-then-not-has_room g c =
    breaks-as _ _ _ _ _ _ _ _ c.too_long.ensures (is-beyond _ _ _ _ _ _ _ _ c.requires.begins (sym c.has_room.ensures ∙ c.if-not-has_room.true) (λ events t. t))

pub advance-requires-clause-within : goal.advance-requires-clause-within
advance-requires-clause-within g c = (token-within c.args.self.now.open_elements _ _ _ _ c.requires.begins).1

pub returns-in-Ok : goal.returns-in-Ok
returns-in-Ok g c =
    advanced _ _ _ _ _ _ _ _ _ c.advance.ensures.cursor
    (goes-on _ _ _ _ _ _ _ _ _ _ c.requires.begins (sym c.has_room.ensures ∙ c.if-not-has_room.false) c.in-Ok.ensures c.advance.ensures.behind)

pub returns-in-Err : goal.returns-in-Err
returns-in-Err g c = refuses _ _ _ _ _ _ _ _ _ c.requires.begins (sym c.has_room.ensures ∙ c.if-not-has_room.false) c.in-Err.ensures
