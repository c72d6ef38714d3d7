use Rattle.std.proofs.Common.{length, ap, ◌∙◌, arith}
use Rattle.node_arena.specs.Document.{Built}
use Rattle.node_arena.proofs.BuilderLemmas.{count_text, count_none}
use Rattle.node_arena.proofs.builder.Builder.count_nodes.Goals as goal

pub returns-in-Some : goal.returns-in-Some
returns-in-Some c = count_text c.self.inside.nodes.items _ _ _ _ _ (omega (arith, c.len.ensures, c.self.inside.nodes.ok.0)) c.in-Some.is ∙
    ap (λ (b : Built). length b.nodes) c.self.view_is

pub returns-in-None : goal.returns-in-None
returns-in-None c = count_none c.self.inside.nodes.items _ _ _ _ (omega (arith, c.len-in-None.ensures, c.self.inside.nodes.ok.0)) c.in-None.is ∙
    ap (λ (b : Built). length b.nodes) c.self.view_is
