use Rattle.std.proofs.Common.{arith, refl}
use Rattle.bind_walk.proofs.PassLemmas.{adding_fits, adding_hit, adding_past, adding_end, named-says}
use Rattle.bind_walk.proofs.passed.add_named.Goals as goal

pub overflow_add-behind : goal.overflow_add-behind
overflow_add-behind c = omega (arith, c.ranges.to.fits, adding_fits _ _ _ _ _ c.lines.invariant.some c.lines-test.true c.index-lines-at.is)

pub overflow_add-behind-in-lines : goal.overflow_add-behind-in-lines
overflow_add-behind-in-lines c = omega (arith, c.ranges.to.fits, adding_fits _ _ _ _ _ c.lines.invariant.some c.lines-test.true c.index-lines-at.is)

pub lines-preserved-in_ok-push : goal.lines-preserved-in_ok-push
lines-preserved-in_ok-push c =
    adding_hit _ _ _ _ _ _ _ _ c.index-lines-at.result c.is_number.result _ _
    (named-says _ c.index-lines-at.result c.args.m c.args.name c.is_number.result c.names_lead_through.ensures c.requires.within c.requires.named
    c.is_number.ensures)
    c.lines.invariant c.lines-test.true c.index-lines-at.is c.if-is_number.true refl c.in_ok-push.ensures.items

pub lines-preserved : goal.lines-preserved
lines-preserved c =
    adding_past _ _ _ _ _ _ _ _ c.index-lines-at.result c.is_number.result
    (named-says _ c.index-lines-at.result c.args.m c.args.name c.is_number.result c.names_lead_through.ensures c.requires.within c.requires.named
    c.is_number.ensures)
    c.lines.invariant c.lines-test.true c.index-lines-at.is c.if-is_number.false

pub returns : goal.returns
returns c = adding_end _ _ _ _ _ _ _ _ c.lines.invariant c.lines-test.false
