use Rattle.std.proofs.Common.{◌≡◌, ◌≤◌, length, true, rules}
use Rattle.xml_tokens.specs.Searches.{begins_with}
use Rattle.xml_tokens.proofs.CutLemmas.{boundary-word}
use Rattle.xml_tokens.proofs.literals.behind_word.Goals as goal

pub split_at-requires : goal.split_at-requires
split_at-requires c =
    let begins : begins_with c.args.word.now c.args.text.now ≡ true = search rules in
    let long : length c.args.word.now ≤ length c.args.text.now = search rules in
    boundary-word c.args.word.now c.args.text.now c.utf8.word c.utf8.text long begins
