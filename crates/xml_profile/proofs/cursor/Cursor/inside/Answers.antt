use Rattle.std.proofs.Common.{◌≡◌, ◌<◌, false, ◌==◌, length, sym, ◌∙◌, arith}
use Rattle.std.proofs.lemmas.Bool.Decides.{nat_tests}
use Rattle.xml_profile.proofs.RunLemmas.{run-at, run-taken, run-refused}
use Rattle.xml_profile.proofs.TurnLemmas.{advanced}
use Rattle.xml_profile.proofs.cursor.Cursor.inside.Goals as goal

pub returns-in-Ok : goal.returns-in-Ok
returns-in-Ok g c =
    let text = c.run_at_front-text.result.now in
    let full : (length text == 0) ≡ false = sym c.is_empty.ensures ∙ c.if-is_empty.false in
    let some : 0 < length text = grind (arith, nat_tests) in
    let run = run-at _ _ _ _ _ c.run_at_front-text.utf8 some c.run_at_front-text.ensures.plain c.front_within.ensures.front c.front_within.ensures.within
    c.run_at_front-text.ensures.front c.requires.at.within in
    advanced _ _ _ _ _ _ _ _ _ c.advance.ensures.cursor
    (run-taken _ _ _ _ _ _ _ _ _ c.requires.position c.requires.inside run c.in-Ok.ensures c.advance.ensures.behind)

pub returns-in-Err : goal.returns-in-Err
returns-in-Err g c =
    let text = c.run_at_front-text.result.now in
    let full : (length text == 0) ≡ false = sym c.is_empty.ensures ∙ c.if-is_empty.false in
    let some : 0 < length text = grind (arith, nat_tests) in
    let run = run-at _ _ _ _ _ c.run_at_front-text.utf8 some c.run_at_front-text.ensures.plain c.front_within.ensures.front c.front_within.ensures.within
    c.run_at_front-text.ensures.front c.requires.at.within in
    run-refused _ _ _ _ _ _ _ _ c.requires.position c.requires.inside run c.in-Err.ensures
