use Rattle.std.proofs.Common.{take, chars}
use Rattle.std.proofs.lemmas.Iterator.{YieldsList-from_chars, YieldsList-from_take, text_from_collect}
use Rattle.std.proofs.lemmas.Iterator.Consumers.{YieldsList-at}
use Rattle.validation_report.proofs.CharacterLemmas.{collected}
use Rattle.validation_report.proofs.values.front_of.Goals as goal

pub returns : goal.returns
returns c =
    collected c.collect.result (take 60 (chars c.args.text.now))
    (text_from_collect c.collect.result c.collect.ensures.ran
    (YieldsList-from_take 60 (YieldsList-at c.take.ensures.source (YieldsList-from_chars c.args.text.now c.utf8.text cc)) c.take.ensures.count))
