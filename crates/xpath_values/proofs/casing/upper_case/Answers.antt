use Rattle.std.proofs.Common.{rules}
use Rattle.std.specs.Prelude.{map}
use Rattle.std.specs.Str.{chars}
use Rattle.std.proofs.lemmas.Iterator.{YieldsList-from_chars, YieldsList-from_map, text_from_collect}
use Rattle.xpath_meaning.specs.Texts.{upper}
use Rattle.xpath_values.proofs.CharacterLemmas.{collected}
use Rattle.xpath_values.proofs.casing.upper_case.Goals as goal

pub returns : goal.returns
returns c =
    collected c.collect.result (map upper (chars c.args.text.now))
    (text_from_collect c.collect.result c.collect.ensures.ran
    (YieldsList-from_map _ upper (YieldsList-from_chars c.args.text.now c.utf8.text cc) c.map.ensures.closure (λ x r q k. search rules)))
