use Rattle.std.proofs.Common.{get_or, ap, string_bytes}
use Rattle.xml_events.proofs.PlaceLemmas.{filed-in, filed-still, on_err}
use Rattle.xml_events.proofs.kept.file_in.Goals as goal

pub returns-in_err-insert-clause-err : goal.returns-in_err-insert-clause-err
returns-in_err-insert-clause-err c =
    let at = get_or c.args.places.now c.args.space in
    on_err c.from_residual.result
    (λ n local. filed-still c.args.places.now c.args.space (at c.index-places-space.result) c.insert.new.self n local c.requires
    (ap at c.index-places-space.is) c.in_err-insert.ensures.err)

pub returns-clause-ok : goal.returns-clause-ok
returns-clause-ok c = λ n local.
    let at = get_or c.args.places.now c.args.space in
    filed-in c.args.places.now c.args.space (at c.index-places-space.result) c.insert.new.self n local c.requires (ap at c.index-places-space.is)
    (string_bytes c.args.key) c.args.place c.in_ok-insert.ensures.updates
