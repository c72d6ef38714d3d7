-- How differences are printed.
use Rattle.std.specs.Prelude.{ℕ, List, [], ◌∷◌, ◌++◌, length, codes, decimal, flat_map, Option, Some, None, Ok, Err}
use Rattle.inv_decimal.specs.Number.{ScaledDecimal}
use Rattle.inv_decimal.specs.WrittenNumber.{decimal_text, scaled_text}
use Rattle.inv_listing.specs.Listing.{context_text, term_text}
use Rattle.inv_totals.specs.Numbers.{Number}
use Rattle.inv_totals.specs.declared.found.Difference.{Difference}

-- a stated value with its digits, or `-`
abbrev pub stated_text : Option ScaledDecimal → List ℕ
stated_text None = 0x2D ∷ []
stated_text (Some s) = scaled_text s

abbrev pub computed_text : Number → List ℕ
computed_text (Ok x) = decimal_text x
computed_text (Err fault) = codes "out of range"

-- `BG-23[1] BT-117 stated 2.00 computed 0`
abbrev pub line : Difference → List ℕ
line d = context_text d.context ++ (term_text d.term
    ++ (codes " stated " ++ (stated_text d.stated ++ (codes " computed " ++ (computed_text d.computed ++ 0xA ∷ [])))))

abbrev pub count_line : ℕ → List ℕ
count_line count = codes "differ " ++ (decimal count ++ 0xA ∷ [])

-- a line each, and how many they are
unfoldable pub differences_text : List Difference → List ℕ
differences_text ds = flat_map line ds ++ count_line (length ds)
