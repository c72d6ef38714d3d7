use Rattle.std.proofs.Common.{ap, ◌∙◌}
use Rattle.node_arena.specs.Document.{node_at}
use Rattle.rule_library.specs.Readings.{File, file_at}
use Rattle.rule_library.specs.Walk.{same_names, element_name, parent_name}
use Rattle.rule_library.proofs.PartLemmas.{fits-whole, fits-inside}
use Rattle.rule_library.proofs.parts.is_unfit.Goals as goal

pub returns-then-not-bare : goal.returns-then-not-bare
returns-then-not-bare c = fits-whole c.args.walk.now c.args.n c.args.k c.args.bare c.if-not-bare.true

pub returns : goal.returns
returns c =
    let part = c.doc.ensures ∙ ap (λ (f : File). f.document) (c.file_in.ensures ∙ ap (file_at c.args.k) c.as_slice.ensures.value) in
    let root = c.has_root.ensures ∙
    (λ i. same_names (element_name (part i) 1) (parent_name (c.top_doc-doc.ensures i) (node_at (c.top_doc-doc.ensures i).nodes c.args.n))) in
    fits-inside c.args.walk.now c.args.n c.args.k c.args.bare c.has_root.result c.if-not-bare.false root
