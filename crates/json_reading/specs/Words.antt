-- The words `true`, `false` and `null` (RFC 8259, section 3), letter by letter.
use Rattle.std.specs.Prelude.{ℕ, ◌==◌, Option, Some, None, if◌then◌else◌}
use Rattle.json_reading.specs.declared.item.ItemKind.{ItemKind}
use Rattle.json_reading.specs.declared.item.ItemKind.TheVariants.{True, False, Null}
use Rattle.json_reading.specs.declared.mode.Letters.{Letters}
use Rattle.json_reading.specs.declared.mode.Letters.TheVariants.{T, Tr, Tru, F, Fa, Fal, Fals, N, Nu, Nul}

abbrev pub word_begun : ℕ → Option Letters
word_begun b = if b == 0x74 then Some T else (if b == 0x66 then Some F else (if b == 0x6E then Some N else None))

-- the letter that has to come next
unfoldable pub letter : Letters → ℕ
letter T = 0x72
letter Tr = 0x75
letter Tru = 0x65
letter F = 0x61
letter Fa = 0x6C
letter Fal = 0x73
letter Fals = 0x65
letter N = 0x75
letter Nu = 0x6C
letter Nul = 0x6C

-- what is read behind it; nothing where the word is whole
unfoldable pub longer : Letters → Option Letters
longer T = Some Tr
longer Tr = Some Tru
longer Tru = None
longer F = Some Fa
longer Fa = Some Fal
longer Fal = Some Fals
longer Fals = None
longer N = Some Nu
longer Nu = Some Nul
longer Nul = None

-- the value that the word is
unfoldable pub word_kind : Letters → ItemKind
word_kind T = True
word_kind Tr = True
word_kind Tru = True
word_kind F = False
word_kind Fa = False
word_kind Fal = False
word_kind Fals = False
word_kind N = Null
word_kind Nu = Null
word_kind Nul = Null
