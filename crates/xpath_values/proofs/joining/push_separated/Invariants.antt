use Rattle.std.proofs.Common.{◌≡◌, ◌++◌, drop, map, string_bytes}
use Rattle.std.specs.Str.{chars}
use Rattle.xpath_meaning.specs.Texts.{behind_separator}
use Rattle.xpath_values.specs.Alike.{text_in}
use Rattle.xpath_values.proofs.joining.push_separated.Given as goal

abbrev pub invariant-items : goal.invariant-items
invariant-items l =
    chars (string_bytes l.out) ++ behind_separator (chars l.separator) (map text_in (drop l.item-index l.items))
    ≡ chars (string_bytes l.initial.out) ++ behind_separator (chars l.separator) (map text_in l.items)
