use Rattle.std.proofs.Common.{◌≡◌, ◌+◌, nat_le, true, arith}
use Rattle.std.proofs.lemmas.Bool.Decides.{nat_tests}
use Rattle.xml_profile.proofs.TurnLemmas.{refuses}
use Rattle.xml_profile.proofs.InsideLemmas.{passed-aside}
use Rattle.xml_profile.proofs.cursor.Cursor.pass_aside.Goals as goal

pub returns-in-Ok : goal.returns-in-Ok
returns-in-Ok g c = λ held bytes is behind. passed-aside _ _ _ _ _ _ _ _ _ _ is c.requires c.in-Ok.ensures behind c.move_on.ensures

pub returns-in-Err : goal.returns-in-Err
returns-in-Err g c = λ held bytes is behind.
    let room : nat_le (c.args.self.now.place + c.args.len) c.args.reading.limits.bytes ≡ true = grind (arith, nat_tests) in
    refuses _ _ _ _ _ _ _ _ _ is room c.in-Err.ensures
