use Rattle.std.proofs.Common.{◌≡◌, true, false, rules}
use Rattle.xml_tokens.specs.Told.{are_chars}
use Rattle.xml_tokens.proofs.ExtentLemmas.{right-text, wrong-chars, wrong-bytes}
use Rattle.xml_tokens.proofs.extents.text_of.Goals as goal

pub returns-in-Ok : goal.returns-in-Ok
returns-in-Ok c =
    let right : are_chars c.in-Ok.text.now ≡ true = search rules in
    right-text c.args.inside.now c.in-Ok.text.now c.in-Ok.ensures.cases.0 c.in-Ok.ensures.cases.1 right

pub returns-in-Ok-2 : goal.returns-in-Ok-2
returns-in-Ok-2 c =
    let wrong : are_chars c.in-Ok.text.now ≡ false = search rules in
    wrong-chars c.args.inside.now c.in-Ok.text.now c.in-Ok.ensures.cases.0 c.in-Ok.ensures.cases.1 wrong

pub returns-in-Err : goal.returns-in-Err
returns-in-Err c = wrong-bytes c.args.inside.now c.in-Err.ensures.cases.0
