use Rattle.std.proofs.Common.{sym}
use Rattle.xml_profile.proofs.KeptLemmas.{nothing-before, at-as, fed-as, fed-behind, stays-leaves}
use Rattle.xml_profile.proofs.cursor.Cursor.feed_aside.Goals as goal

pub aside-requires : goal.aside-requires
aside-requires g c = c.requires.within

pub feed_anew-requires-clause-at : goal.feed_anew-requires-clause-at
feed_anew-requires-clause-at g c = at-as _ _ _ _ (sym (nothing-before _ _ c.requires.none)) (c.in-Behind.ensures c.requires.bytes c.requires.inside).at

pub feed_anew-requires-clause-empty : goal.feed_anew-requires-clause-empty
feed_anew-requires-clause-empty g c = c.requires.none

pub returns-in-Behind : goal.returns-in-Behind
returns-in-Behind g c = λ bytes inside. fed-behind _ _ _ _ _ _ _ _ _ _ _ _ _ (c.in-Behind.ensures bytes inside)
    (fed-as _ _ _ _ _ _ _ _ _ _ _ (nothing-before _ _ c.requires.none) c.feed_anew.ensures)

pub returns-in-Unfinished : goal.returns-in-Unfinished
returns-in-Unfinished g c = λ bytes inside. stays-leaves _ _ _ _ _ _ _ _ _ (c.in-Unfinished.ensures bytes inside) c.requires.none

pub returns-in-Stopped : goal.returns-in-Stopped
returns-in-Stopped g c = λ bytes inside. c.in-Stopped.ensures bytes inside
