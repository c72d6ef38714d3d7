-- How sections and tables begin where they have a class, or columns.
use Rattle.std.proofs.Common.{◌≡◌, false, List, [], ◌∷◌, ◌++◌, map, length, refl, true≢false, ℕ}
use Rattle.std.specs.Prelude.{◌==◌, codes}
use Rattle.std.specs.List.{flat_map}
use Rattle.page_tables.specs.Tables.{Column}
use Rattle.page_layouts.specs.Sections.{section_start}
use Rattle.page_layouts.specs.Tables.{column_text, table_start}

pub section_start-some : (class : List ℕ) → (length class == 0) ≡ false → codes "<section class=\"" ++ (class ++ codes "\">\n") ≡ section_start class
section_start-some [] h = absurd (true≢false h)
section_start-some (c ∷ class) h = refl

pub table_start-some : {X : Type 0} (g : X → Column) (xs : List X) → (length xs == 0) ≡ false
    → codes "<table>\n<thead>\n<tr>\n" ++ (flat_map column_text (map g xs) ++ codes "</tr>\n</thead>\n<tbody>\n") ≡ table_start (map g xs)
table_start-some g [] h = absurd (true≢false h)
table_start-some g (x ∷ xs) h = refl
