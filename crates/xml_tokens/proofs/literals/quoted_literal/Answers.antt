use Rattle.std.proofs.Common.{◌≡◌, ◌<◌, length, get_or, true, rules}
use Rattle.xml_tokens.specs.Searches.{is_quote}
use Rattle.xml_tokens.proofs.CutLemmas.{boundary-one}
use Rattle.xml_tokens.proofs.LiteralLemmas.{quote-low}
use Rattle.xml_tokens.proofs.literals.quoted_literal.Goals as goal

pub split_at-requires : goal.split_at-requires
split_at-requires c =
    let is : is_quote (get_or c.args.text.now 0 0) ≡ true = search rules in
    let some : 0 < length c.args.text.now = search rules in
    boundary-one c.args.text.now c.utf8.text some (quote-low (get_or c.args.text.now 0 0) is)
