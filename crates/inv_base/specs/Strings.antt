-- The characters of a text, lent or its own.
use Rattle.std.specs.Prelude.{ℕ, List, chars, string_bytes}
use Rattle.inv_base.specs.declared.strings.Held.{Held}
use Rattle.inv_base.specs.declared.strings.Held.TheVariants.{Lent, Own}

abbrev pub characters : Held → List ℕ
characters (Lent text) = chars text.now
characters (Own text) = chars (string_bytes text)
