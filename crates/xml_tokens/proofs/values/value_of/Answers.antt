use Rattle.std.proofs.Common.{◌≡◌, false, rules}
use Rattle.std.specs.List.{list_any}
use Rattle.xml_tokens.specs.Told.{says_more}
use Rattle.xml_tokens.proofs.ValueLemmas.{plain-told}
use Rattle.xml_tokens.proofs.values.value_of.Goals as goal

pub returns-then-not-any_says_more : goal.returns-then-not-any_says_more
returns-then-not-any_says_more c =
    let none : list_any says_more c.args.value.now ≡ false = search rules in
    plain-told c.args.value.now c.utf8.value none
