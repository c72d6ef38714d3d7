use Rattle.std.proofs.Common.{◌≡◌, ◌==◌, true, length, sym, ◌∙◌, arith}
use Rattle.std.proofs.lemmas.Bool.Decides.{nat_tests}
use Rattle.xml_profile.proofs.CourseLemmas.{goes-nowhere, goes-farther, goes-to, goes-wrong, goes-to-end}
use Rattle.xml_profile.proofs.cursor.Cursor.read.Goals as goal

pub turns-init : goal.turns-init
turns-init g c = goes-nowhere _ _ _ _ _ c.requires

pub turns-preserved : goal.turns-preserved
turns-preserved g c = goes-farther _ _ _ _ _ _ _ _ _ _ _ c.turns.invariant c.in-Behind.ensures.1

pub returns-in-Unfinished : goal.returns-in-Unfinished
returns-in-Unfinished g c = goes-to _ _ _ _ _ _ _ _ _ _ _ c.turns.invariant c.in-Unfinished.ensures

pub returns-in-Stopped : goal.returns-in-Stopped
returns-in-Stopped g c = goes-wrong _ _ _ _ _ _ _ _ _ _ c.turns.invariant c.in-Stopped.ensures

pub returns : goal.returns
returns g c =
    let test : (length c.turns.rest.now == 0) ≡ true = sym c.is_empty.ensures ∙ c.turns-test.false in
    let none : length c.turns.rest.now ≡ 0 = grind (arith, nat_tests) in
    goes-to-end _ _ _ _ _ _ _ _ none c.turns.invariant
