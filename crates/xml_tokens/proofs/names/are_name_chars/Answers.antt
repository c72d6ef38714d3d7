use Rattle.inv_base.specs.Characters.{is_name_char}
use Rattle.xml_tokens.proofs.AsciiLemmas.{plain-all}
use Rattle.xml_tokens.proofs.names.are_name_chars.Goals as goal

pub returns-then-are_plain_name_chars : goal.returns-then-are_plain_name_chars
returns-then-are_plain_name_chars c = plain-all is_name_char _ c.args.text.now _ c.as_bytes.ensures.value c.are_plain_name_chars.ensures
    c.if-are_plain_name_chars.true
