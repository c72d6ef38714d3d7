-- How the writer goes: a section is begun only where something is written in it.
use Rattle.std.specs.Prelude.{◌≡◌, ℕ, Bool, ◌||◌, not, List, [], ◌++◌, map, if◌then◌else◌}
use Rattle.inv_base.specs.Outside.{SinkView}
use Rattle.inv_base.specs.Printing.{Prints}
use Rattle.std.specs.Borrow.{Bor}
use Rattle.page_tables.specs.declared.forms.Align.{Align}
use Rattle.page_tables.specs.Tables.{Column, column_lent}
use Rattle.page_layouts.specs.declared.pens.Pen.{Pen}
use Rattle.page_layouts.specs.Sections.{head_of, is_nothing}

-- ---- sections that are begun where something comes

-- the class, the heading and the columns of a section that may be begun
abbrev pub Head : Type 0
Head = List ℕ × List ℕ × List Column

abbrev pub head_text : Head → List ℕ
head_text head = head_of head.0 head.1 head.2

abbrev pub head_lent : Bor (List ℕ) × Bor (List ℕ) × Bor (List (Align × Bor (List ℕ))) → Head
head_lent head = (head.0.now, head.1.now, map column_lent head.2.now)

-- what begins the section
abbrev pub opening : Bool → Head → List ℕ
opening begun head = if begun then [] else head_text head

-- a piece, in front of which the section is begun, unless the piece is nothing
abbrev pub behind_head : Bool → Head → List ℕ → List ℕ
behind_head begun head piece = if is_nothing piece then [] else opening begun head ++ piece

-- The piece was written in the section.
pub record Shows (head : Head) (piece : List ℕ) (before after : Pen) (from to : SinkView) : Type 0 where
  pub prints : Prints (behind_head before.begun head piece) before.printer.failed after.printer.failed from to
  pub begun : after.begun ≡ (before.begun || not (is_nothing piece))
