use Rattle.std.proofs.Common.{◌++◌, ap}
use Rattle.xml_profile.proofs.KeptLemmas.{going-some, going-rest, kept-some, kept-none, at-more, fed-as}
use Rattle.xml_profile.proofs.cursor.Cursor.feed.Goals as goal

pub feed_aside-requires : goal.feed_aside-requires
feed_aside-requires g c = going-some _ _ _ _ _ c.in-Some.is c.requires

pub returns-in-Some : goal.returns-in-Some
returns-in-Some g c = λ bytes kept. c.feed_aside.ensures bytes (kept-some c.args.reading.limits _ _ _ _ bytes c.in-Some.is kept)

pub feed_rest-requires : goal.feed_rest-requires
feed_rest-requires g c = at-more _ _ _ _ (going-rest _ _ _ _ c.in-None.is c.requires)

pub returns-in-None : goal.returns-in-None
returns-in-None g c = λ bytes kept.
    fed-as _ _ _ _ _ _ _ _ _ _ _ (ap (λ r. r ++ c.args.piece.now) (kept-none c.args.reading.limits _ _ _ bytes c.in-None.is kept)) c.feed_rest.ensures
