use Rattle.xml_tokens.proofs.TokenLemmas.{character-good, character-bad, character-broken, character-later}
use Rattle.xml_tokens.proofs.beginning.character_token.Goals as goal

pub returns-in-Some : goal.returns-in-Some
returns-in-Some c = character-good c.args.byte c.args.bytes.now c.in-Character.number c.in-Character.length c.in-Some.c c.in-Character.ensures c.in-Some.ensures

pub returns-in-None : goal.returns-in-None
returns-in-None c = character-bad c.args.byte c.args.bytes.now c.in-Character.number c.in-Character.length c.in-Character.ensures c.in-None.ensures

pub returns-in-Broken : goal.returns-in-Broken
returns-in-Broken c = character-broken c.args.byte c.args.bytes.now c.in-Broken.length c.in-Broken.ensures

pub returns-in-Unfinished : goal.returns-in-Unfinished
returns-in-Unfinished c = character-later c.args.byte c.args.bytes.now c.in-Unfinished.ensures
