-- A section of the page: its class, its heading and what it holds.
use Rattle.std.specs.Prelude.{ℕ, Bool, true, false, List, [], ◌∷◌, ◌++◌, codes, if◌then◌else◌}
use Rattle.page_tables.specs.Tables.{Column}
use Rattle.page_layouts.specs.Tables.{table_start}

abbrev pub is_nothing : List ℕ → Bool
is_nothing [] = true
is_nothing (c ∷ text) = false

abbrev pub section_start : List ℕ → List ℕ
section_start [] = codes "<section>\n"
section_start (c ∷ class) = codes "<section class=\"" ++ ((c ∷ class) ++ codes "\">\n")

abbrev pub heading : List ℕ → List ℕ
heading [] = []
heading (c ∷ text) = codes "<h2>" ++ ((c ∷ text) ++ codes "</h2>\n")

-- how a section begins, by its class, its heading and the columns of its table
abbrev pub head_of : List ℕ → List ℕ → List Column → List ℕ
head_of class text columns = section_start class ++ (heading text ++ table_start columns)

-- what is held in a section, unless it is nothing
abbrev pub in_section : List ℕ → List ℕ → List ℕ → List ℕ
in_section head text end = if is_nothing text then [] else head ++ (text ++ end)
