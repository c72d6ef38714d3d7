use Rattle.std.proofs.Common.{◌≡◌, ◌++◌, ℕ, List, length, drop, string_bytes}
use Rattle.std.specs.BTreeMap.{get}
use Rattle.std.specs.Ordering.{nat_cmp}
use Rattle.std.specs.Str.{chars}
use Rattle.xpath_meaning.specs.Texts.{translated}
use Rattle.xpath_values.specs.Translations.{Translates}
use Rattle.xpath_values.proofs.translating.translated_by.Given as goal

abbrev pub invariant-characters : goal.invariant-characters
invariant-characters l = (from to : List ℕ) → Translates (get nat_cmp l.table) from to
    → chars (string_bytes l.out) ++ translated (drop (length l.yielded) (chars l.text)) from to ≡ translated (chars l.text) from to
