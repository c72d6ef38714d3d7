use Rattle.xml_tokens.proofs.PlainLemmas.{front-front, plain-front}
use Rattle.xml_tokens.proofs.run.any_run.Goals as goal

pub returns-clause-plain : goal.returns-clause-plain
returns-clause-plain c = plain-front c.before_end.result.now c.chars_front.result.now c.chars_front.utf8
    (front-front c.before_end.result.now c.text_front.result.now c.chars_front.result.now c.text_front.ensures.front c.chars_front.ensures.front)
    c.before_end.ensures.none c.chars_front.ensures.chars
