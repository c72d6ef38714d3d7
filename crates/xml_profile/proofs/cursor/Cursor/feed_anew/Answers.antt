use Rattle.std.proofs.Common.{sym, ◌∙◌}
use Rattle.xml_profile.proofs.FeedLemmas.{reaches-memory, breaks-from}
use Rattle.xml_profile.proofs.KeptLemmas.{nothing-before, at-as, front-kept, extended, reaches-leaves, leaves-as}
use Rattle.xml_profile.proofs.cursor.Cursor.feed_anew.Goals as goal

pub read-requires : goal.read-requires
read-requires g c = at-as _ _ _ _ (nothing-before _ _ c.requires.empty) c.requires.at

pub returns-then-is_err : goal.returns-then-is_err
returns-then-is_err g c = breaks-from _ _ _ _ _ _ _ _ (sym (nothing-before _ _ c.requires.empty)) (reaches-memory _ _ _ _ _ _ _ _ c.in-Ok.ensures)

pub returns-else-is_err : goal.returns-else-is_err
returns-else-is_err g c =
    leaves-as _ _ _ _ _ _ _ _ _ _ (sym (nothing-before _ _ c.requires.empty))
    (reaches-leaves _ _ _ _ _ _ _ _ _ _ c.in-Ok.ensures c.inside_of-held.ensures
    (front-kept _ _ _ _ _ _ c.requires.empty c.kept_len-len.ensures c.split_at.ensures.front
    (extended _ c.args.rest.now.items c.split_at.result.0.now _ (sym c.is_err.ensures.value ∙ c.if-is_err.false) c.extend_from_slice.ensures.items)))

pub returns-in-Err : goal.returns-in-Err
returns-in-Err g c = breaks-from _ _ _ _ _ _ _ _ (sym (nothing-before _ _ c.requires.empty)) c.in-Err.ensures
