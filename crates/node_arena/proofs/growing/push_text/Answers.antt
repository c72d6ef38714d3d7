use Rattle.std.proofs.Common.{refl, arith, ap, ◌∙◌, ◌++◌, sym, chars}
use Rattle.node_arena.specs.Slots.{path, kept, text_nodes}
use Rattle.node_arena.proofs.GrowingLemmas.{growing-more, path-more, kept-more}
use Rattle.node_arena.proofs.growing.push_text.Goals as goal

pub returns-in-Some-clause-growing : goal.returns-in-Some-clause-growing
returns-in-Some-clause-growing c =
    growing-more _ _ _ _ _ _ c.requires.growing refl c.push_within.ensures.items c.push_within-in-Some.ensures.items
    (omega (arith, c.len-number.ensures, c.args.nodes.now.ok.0))

pub returns-in-Some-clause-nodes : goal.returns-in-Some-clause-nodes
returns-in-Some-clause-nodes c =
    kept-more _ _ _ _ _ _ c.requires.growing refl c.push_within.ensures.items c.push_within-in-Some.ensures.items
    (omega (arith, c.len-number.ensures, c.args.nodes.now.ok.0))
    ∙ ap (λ place. kept c.args.nodes.now.items ++ text_nodes (kept c.args.nodes.now.items) (path (kept c.args.nodes.now.items) c.args.current)
    (chars c.args.text.now) place) (sym c.in-Some.is)

pub returns-in-Some-clause-around : goal.returns-in-Some-clause-around
returns-in-Some-clause-around c =
    path-more _ _ _ _ _ _ c.requires.growing refl c.push_within.ensures.items c.push_within-in-Some.ensures.items
    (omega (arith, c.len-number.ensures, c.args.nodes.now.ok.0))
