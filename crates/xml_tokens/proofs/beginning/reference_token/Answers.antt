use Rattle.xml_tokens.proofs.TokenLemmas.{reference-to, reference-broken, reference-later}
use Rattle.xml_tokens.proofs.beginning.reference_token.Goals as goal

pub returns-in-Character : goal.returns-in-Character
returns-in-Character c = reference-to c.args.bytes.now c.in-Character.c c.in-Character.length c.in-Character.ensures

pub returns-in-Broken : goal.returns-in-Broken
returns-in-Broken c = reference-broken c.args.bytes.now c.in-Broken.length c.in-Broken.ensures

pub returns-in-Unfinished : goal.returns-in-Unfinished
returns-in-Unfinished c = reference-later c.args.bytes.now c.in-Unfinished.ensures
