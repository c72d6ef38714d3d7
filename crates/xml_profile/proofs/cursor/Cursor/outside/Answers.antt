use Rattle.std.proofs.Common.{◌<◌, arith}
use Rattle.xml_profile.proofs.BlankLemmas.{blank-passed}
use Rattle.xml_profile.proofs.TurnLemmas.{advanced}
use Rattle.xml_profile.proofs.cursor.Cursor.outside.Goals as goal

pub returns : goal.returns
returns g c =
    let some : 0 < c.blank_len-len.result = omega arith in
    advanced _ _ _ _ _ _ _ _ _ c.advance.ensures.cursor
    (blank-passed _ _ _ _ _ _ _ _ _ c.requires.position c.requires.outside c.requires.at.within c.front_within.ensures.front c.front_within.ensures.within some
    c.blank_len-len.ensures.within
    c.blank_len-len.ensures.blank c.pass.ensures c.advance.ensures.behind)
