use Rattle.std.proofs.Common.{ap, ◌∙◌}
use Rattle.xml_write.specs.Sizes.{gauged_by_all}
use Rattle.bind_write.specs.Roots.{root_calls}
use Rattle.bind_write.proofs.RootLemmas.{OneRoot, one_root}
use Rattle.bind_write.proofs.DocumentLemmas.{Found, found-some, found-none, root-line, same_calls}
use Rattle.bind_write.proofs.SizeLemmas.{Laws, sizes-none, sizes-some, same_gauge}
use Rattle.bind_write.proofs.sizes.measure.Goals as goal

pub put_root-requires-clause-source : goal.put_root-requires-clause-source
put_root-requires-clause-source c =
    (found-some _ _ _ _ c.whole-source.result _ (one_root c.args.b.now c.requires.laid) c.whole-source.ensures c.rows.ensures c.entries-entries.ensures.entries
    c.lines.ensures c.in-Some.root c.in-Some.ensures).is.source_is

pub put_root-requires-clause-lines : goal.put_root-requires-clause-lines
put_root-requires-clause-lines c =
    (found-some _ _ _ _ c.whole-source.result _ (one_root c.args.b.now c.requires.laid) c.whole-source.ensures c.rows.ensures c.entries-entries.ensures.entries
    c.lines.ensures c.in-Some.root c.in-Some.ensures).is.lines_are

pub returns-in-None : goal.returns-in-None
returns-in-None c =
    let r : OneRoot c.args.b.now = one_root c.args.b.now c.requires.laid in
    let laws : Laws = record {
      bytes = c.gauged_calls_are_sizes.ensures.bytes;
      longest_tag = c.gauged_calls_are_sizes.ensures.longest_tag;
      nodes =
          c.gauged_calls_are_sizes.ensures.nodes;
    } in
    rw c.new.ensures (sizes-none c.args.b.now c.args.i.now laws r
    (found-none _ _ _ _ c.whole-source.result _ r c.whole-source.ensures c.rows.ensures c.entries-entries.ensures.entries c.lines.ensures c.in-None.ensures))

pub returns-in-Ok : goal.returns-in-Ok
returns-in-Ok c =
    let r : OneRoot c.args.b.now = one_root c.args.b.now c.requires.laid in
    let laws : Laws = record {
      bytes = c.gauged_calls_are_sizes.ensures.bytes;
      longest_tag = c.gauged_calls_are_sizes.ensures.longest_tag;
      nodes =
          c.gauged_calls_are_sizes.ensures.nodes;
    } in
    let f : Found c.args.b.now c.args.i.now r c.whole-source.result c.in-Some.root =
    found-some _ _ _ _ c.whole-source.result _ r c.whole-source.ensures c.rows.ensures c.entries-entries.ensures.entries c.lines.ensures c.in-Some.root
    c.in-Some.ensures in
    let made = c.in-Ok.ensures.makes r.cs r.inside
    (root-line _ _ _ _ c.whole-source.result _ r c.whole-source.ensures c.rows.ensures c.entries-entries.ensures.entries c.lines.ensures c.in-Some.root f) in
    let root = c.in-Some.root in
    let calls = root_calls root.source.entries.now root.line.now.step r.cs r.inside root.held root.source.context in
    sizes-some c.args.b.now c.args.i.now laws r f.rooted calls _ _ f.first
    (same_calls _ _ _ _ c.whole-source.result _ r c.whole-source.ensures c.rows.ensures c.entries-entries.ensures.entries c.lines.ensures c.in-Some.root f)
    (same_gauge _ _ made.writer ∙ ap (λ x. gauged_by_all x calls) c.new-gauge.ensures) c.close.ensures

pub returns-in-Err : goal.returns-in-Err
returns-in-Err c =
    let r : OneRoot c.args.b.now = one_root c.args.b.now c.requires.laid in
    let f : Found c.args.b.now c.args.i.now r c.whole-source.result c.in-Some.root =
    found-some _ _ _ _ c.whole-source.result _ r c.whole-source.ensures c.rows.ensures c.entries-entries.ensures.entries c.lines.ensures c.in-Some.root
    c.in-Some.ensures in
    absurd (c.in-Err.ensures.makes r.cs r.inside
    (root-line _ _ _ _ c.whole-source.result _ r c.whole-source.ensures c.rows.ensures c.entries-entries.ensures.entries c.lines.ensures c.in-Some.root f))
