use Rattle.std.proofs.Common.{ap, sym, ⊎_elim, ◌∙◌}
use Rattle.node_arena.specs.Keys.{is_attribute_kind}
use Rattle.node_arena.proofs.MoveLemmas.{answers_sibling, answers_no_sibling, moved, not_moved}
use Rattle.node_arena.proofs.doc.Doc.next_sibling.Goals as goal

pub returns-in-Attribute : goal.returns-in-Attribute
returns-in-Attribute g c =
    let leads = answers_no_sibling _ _ _ _ _ c.self.invariant c.self.view_is c.args.n c.requires
    (ap is_attribute_kind (sym c.kind.ensures ∙ c.in-Attribute.is)) in
    not_moved _ _ _ _ _ leads.node c.tick.ensures

pub returns-in-Document : goal.returns-in-Document
returns-in-Document g c =
    let is = ⊎_elim (ap is_attribute_kind) (⊎_elim (ap is_attribute_kind) (ap is_attribute_kind)) c.in-Document.is in
    let leads = answers_sibling _ _ _ _ _ c.self.invariant c.self.view_is c.args.n c.requires (ap is_attribute_kind (sym c.kind.ensures) ∙ is) in
    moved _ _ _ _ _ _ _ _ c.linked.ensures c.deref.ensures.value leads.node leads.behind_it c.tick.ensures
