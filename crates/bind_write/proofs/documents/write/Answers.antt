use Rattle.bind_write.proofs.RootLemmas.{OneRoot, one_root}
use Rattle.bind_write.proofs.DocumentLemmas.{Found, found-some, found-none, root-line, same_calls, nothing-written, root-broke, root-written}
use Rattle.bind_write.proofs.documents.write.Goals as goal

pub put_root-requires-clause-source : goal.put_root-requires-clause-source
put_root-requires-clause-source g c =
    (found-some _ _ _ _ c.whole-source.result _ (one_root c.args.b.now c.requires.laid) c.whole-source.ensures c.rows.ensures c.entries-entries.ensures.entries
    c.lines.ensures c.in-Some.root c.in-Some.ensures).is.source_is

pub put_root-requires-clause-lines : goal.put_root-requires-clause-lines
put_root-requires-clause-lines g c =
    (found-some _ _ _ _ c.whole-source.result _ (one_root c.args.b.now c.requires.laid) c.whole-source.ensures c.rows.ensures c.entries-entries.ensures.entries
    c.lines.ensures c.in-Some.root c.in-Some.ensures).is.lines_are

pub returns-in_err-put_root-in-Some : goal.returns-in_err-put_root-in-Some
returns-in_err-put_root-in-Some g c =
    let r : OneRoot c.args.b.now = one_root c.args.b.now c.requires.laid in
    let f : Found c.args.b.now c.args.i.now r c.whole-source.result c.in-Some.root =
    found-some _ _ _ _ c.whole-source.result _ r c.whole-source.ensures c.rows.ensures c.entries-entries.ensures.entries c.lines.ensures c.in-Some.root
    c.in-Some.ensures in
    root-broke c.args.b.now c.args.i.now r f.rooted f.first c.calls_append_canonical_text.ensures.bytes _
    (same_calls _ _ _ _ c.whole-source.result _ r c.whole-source.ensures c.rows.ensures c.entries-entries.ensures.entries c.lines.ensures c.in-Some.root f) _
    c.new-pen.ensures _ _ _
    (c.in_err-put_root-in-Some.ensures.makes r.cs r.inside
    (root-line _ _ _ _ c.whole-source.result _ r c.whole-source.ensures c.rows.ensures c.entries-entries.ensures.entries c.lines.ensures c.in-Some.root f))
    c.from_residual.ensures.0

pub returns-in-None : goal.returns-in-None
returns-in-None g c =
    let r : OneRoot c.args.b.now = one_root c.args.b.now c.requires.laid in
    nothing-written c.args.b.now c.args.i.now r _
    (found-none _ _ _ _ c.whole-source.result _ r c.whole-source.ensures c.rows.ensures c.entries-entries.ensures.entries c.lines.ensures c.in-None.ensures)

pub returns-in_ok-put_root-in-Some : goal.returns-in_ok-put_root-in-Some
returns-in_ok-put_root-in-Some g c =
    let r : OneRoot c.args.b.now = one_root c.args.b.now c.requires.laid in
    let f : Found c.args.b.now c.args.i.now r c.whole-source.result c.in-Some.root =
    found-some _ _ _ _ c.whole-source.result _ r c.whole-source.ensures c.rows.ensures c.entries-entries.ensures.entries c.lines.ensures c.in-Some.root
    c.in-Some.ensures in
    root-written c.args.b.now c.args.i.now r f.rooted f.first c.calls_append_canonical_text.ensures.bytes _
    (same_calls _ _ _ _ c.whole-source.result _ r c.whole-source.ensures c.rows.ensures c.entries-entries.ensures.entries c.lines.ensures c.in-Some.root f) _
    c.new-pen.ensures _ _ _ _ _
    (c.in_ok-put_root-in-Some.ensures.makes r.cs r.inside
    (root-line _ _ _ _ c.whole-source.result _ r c.whole-source.ensures c.rows.ensures c.entries-entries.ensures.entries c.lines.ensures c.in-Some.root f))
    c.close.ensures
