use Rattle.std.proofs.Common.{◌≡◌, ◌∙◌, ℕ, Option, None, ap, sym}
use Rattle.std.proofs.lemmas.List.{get_or-map}
use Rattle.std.proofs.lemmas.Result.{IfOk-weaker}
use Rattle.std.proofs.lemmas.Str.{chars-nil}
use Rattle.inv_base.specs.Tree.{Node}
use Rattle.node_arena.specs.Document.{document_node, node_at}
use Rattle.node_arena.specs.Moves.{node_of}
use Rattle.validation_report.specs.Told.{local_name}
use Rattle.validation_report.proofs.texts.local_name_of.Goals as goal

pub returns-in-None : goal.returns-in-None
returns-in-None c =
    let d = c.args.doc.now in
    let placed = node_at d.nodes c.args.n in
    let same = get_or-map (node_of d.names) d.nodes c.args.n document_node _ c.requires in
    let none : placed.name ≡ None = sym c.name.ensures.value ∙ c.in-None.is in
    IfOk-weaker c.of-in-None.result _ _
    (λ text is. is ∙ (chars-nil
    ∙ sym (ap (λ (x : Node). local_name x.name) same ∙ ap (λ (o : Option ℕ). local_name (node_of d.names (record placed { name = o })).name) none)))
    c.of-in-None.ensures
