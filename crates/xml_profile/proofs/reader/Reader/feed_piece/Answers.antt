use Rattle.xml_profile.proofs.ReaderLemmas.{feeds-again-at, feeds-on-at, feeds-wrong-at, sound-going, left-sound}
use Rattle.xml_profile.proofs.reader.Reader.feed_piece.Goals as goal

pub returns-in-Some : goal.returns-in-Some
returns-in-Some g c = feeds-again-at _ _ _ _ _ _ _ _ c.in-Some.is _ c.self.view_is

pub feed-requires : goal.feed-requires
feed-requires g c = sound-going _ _ _ _ _ c.in_default.is c.self.invariant

pub returns-in-Ok : goal.returns-in-Ok
returns-in-Ok g c = feeds-on-at _ _ _ _ _ _ _ _ _ _ _ _ c.in_default.is c.in-Ok.ensures _ c.self.view_is

pub returns-in-Err : goal.returns-in-Err
returns-in-Err g c = feeds-wrong-at _ _ _ _ _ _ _ _ c.feed.new.inside c.feed.new.self c.clear.new.self.items _ c.in_default.is c.in-Err.ensures _ c.self.view_is

pub invariant_of-self : goal.invariant_of-self
invariant_of-self g c = left-sound _ _ _ _ _ _ _ _ _ _ _ c.in_default.is c.self.invariant c.in-Ok.ensures

pub invariant_of-self-in-Err : goal.invariant_of-self-in-Err
invariant_of-self-in-Err g c = c.clear.ensures.items
