use Rattle.xml_profile.proofs.FinishLemmas.{feed-read, feed-told}
use Rattle.xml_profile.proofs.reader.Reader.feed.Goals as goal

pub returns-clause-read : goal.returns-clause-read
returns-clause-read g c = feed-read _ _ _ _ _ _ c.feed_piece.ensures

pub returns-clause-told : goal.returns-clause-told
returns-clause-told g c = feed-told _ _ _ _ _ _ c.feed_piece.ensures
