use Rattle.std.proofs.Common.{◌<◌, subst, sym, ◌∙◌, arith}
use Rattle.std.specs.Option.{IfSome}
use Rattle.rule_library.proofs.NodeLemmas.{level-around, level-low, level-outermost}
use Rattle.rule_library.proofs.moves.level_by.Goals as goal

pub levels-preserved : goal.levels-preserved
levels-preserved g c =
    let doc = c.args.doc.now in
    let of = c.is_of_a_tree.ensures.tree in
    let at = c.levels.at in
    let leads = c.moves_lead_on.ensures doc of.tree of.has_nodes at c.levels.invariant.within in
    let around = level-around doc at c.in-Some.around leads (sym c.parent.ensures.node ∙ c.in-Some.is) in
    let low = subst (λ r. IfSome r (λ m. m < at)) c.in-Some.is c.parent.ensures.before in
    record {
      within = omega (arith, low, c.levels.invariant.within);
      level = omega (arith, around, c.levels.invariant.level);
    }

pub levels-smaller : goal.levels-smaller
levels-smaller g c = subst (λ r. IfSome r (λ m. m < c.levels.at)) c.in-Some.is c.parent.ensures.before

pub overflow_add-level : goal.overflow_add-level
overflow_add-level g c =
    let doc = c.args.doc.now in
    let of = c.is_of_a_tree.ensures in
    let low = level-low doc c.args.n (c.moves_lead_on.ensures doc of.tree.tree of.tree.has_nodes c.args.n c.requires.within) in
    omega (arith, low, c.levels.invariant.level, of.few, c.requires.within)

pub returns : goal.returns
returns g c =
    let out = level-outermost c.args.doc.now c.levels.at (sym c.parent.ensures.node ∙ c.in_default.is) in
    omega (arith, out, c.levels.invariant.level)
