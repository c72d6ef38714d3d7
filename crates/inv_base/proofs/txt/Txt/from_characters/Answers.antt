use Rattle.std.proofs.Common.{rules, sym, ◌≡◌, string_bytes}
use Rattle.std.specs.Prelude.{encode_utf8_all}
use Rattle.std.proofs.lemmas.Str.{chars_from_encodes, IsUtf8-string_bytes}
use Rattle.inv_base.proofs.txt.Txt.from_characters.Goals as goal

pub returns : goal.returns
returns c =
    let e : string_bytes c.in_ok-text.text ≡ encode_utf8_all c.args.characters.now = search rules in
    sym (chars_from_encodes c.args.characters.now (string_bytes c.in_ok-text.text) (IsUtf8-string_bytes c.in_ok-text.text) (sym e))
