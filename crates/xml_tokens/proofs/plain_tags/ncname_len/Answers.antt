use Rattle.std.proofs.Common.{not, position, ap, sym, ◌∙◌}
use Rattle.xml_tokens.specs.Ascii.{is_plain_name_char}
use Rattle.xml_tokens.proofs.PlainTagLemmas.{ncname-at, rest-of}
use Rattle.xml_tokens.proofs.plain_tags.ncname_len.Goals as goal

pub returns-in-Some-clause-name : goal.returns-in-Some-clause-name
returns-in-Some-clause-name c = ncname-at c.args.bytes.now c.in-Some.end c.in-len1-up.len_at_least
    (sym c.is_plain_name_start.ensures ∙ c.if-is_plain_name_start.true)
    (c.in-Some.ensures ∙ ap (position (λ b. not (is_plain_name_char b))) (rest-of c.args.bytes.now))
