-- Files in memory that never fail, and an output that takes everything.
use Rattle.std.specs.Prelude.{ℕ, false, List, drop, Some, None}
use Rattle.inv_base.specs.Counts.{next_count}
use Rattle.inv_base.specs.Files.{content_of}
use Rattle.inv_base.specs.Outside.{ShelfView, SinkView}

-- files, the newest first, the bytes left of the open one, and how often one was opened
pub record SureFiles : Type 0 where
  pub files : List (List ℕ × List ℕ)
  pub left : List ℕ
  pub opens : ℕ

-- what they show as a shelf: they tell their content, and every other name is empty
abbrev pub sure_shelf_of : SureFiles → ShelfView
sure_shelf_of s = record { held = Some (record { named = s.files; others_absent = false }); left = Some s.left; faults = 0; opens = s.opens }

-- the files behind an open of the name, and behind a read that gives so many bytes
abbrev pub behind_sure_open : List ℕ → SureFiles → SureFiles
behind_sure_open name s = record s { left = content_of name s.files; opens = next_count s.opens }

abbrev pub behind_sure_read : ℕ → SureFiles → SureFiles
behind_sure_read count s = record s { left = drop count s.left }

-- what an output shows that takes everything: nothing of its content
abbrev pub taking_all : SinkView
taking_all = record { told = None; faults = 0 }
