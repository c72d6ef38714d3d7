use Rattle.std.proofs.Common.{◌<◌, Some, length, refl, ap, subst, ◌∙◌, arith}
use Rattle.node_arena.specs.Document.{Document}
use Rattle.rule_library.specs.Readings.{File, file_at}
use Rattle.rule_library.proofs.parts.descend.Goals as goal

pub returns : goal.returns
returns c =
    let k = c.args.k in
    let doc = c.doc.ensures ∙ ap (λ (f : File). f.document) (c.file_in.ensures ∙ ap (file_at k) c.as_slice.ensures.value) in
    let base = c.count_open-base.ensures in
    let start = c.document-start.ensures in
    record {
      files = refl;
      joined = refl;
      long = refl;
      outer = c.in_ok-push.ensures.items;
      top = λ i. record { file = k; bare = c.args.bare; base = base.count i; at = Some (start.number i) };
      some = omega (arith, base.count, base.some);
      begun = subst (λ (d : Document). 0 < length d.nodes) doc (subst (λ m. m < length c.doc.result.now.nodes) start.number start.within);
    }
