-- What is computed of the tables.
use Rattle.std.specs.Prelude.{◌≡◌, true, length, refl}
use Rattle.term_table.specs.SemanticModel.{terms}
use Rattle.term_table.specs.Groups.{parent_of, occurrence_of}
use Rattle.page_tables.specs.Standing.{standings, all_stand_once}

count : length standings ≡ 181
count = refl

pub stand : all_stand_once ≡ true
unfolding terms parent_of occurrence_of
stand = refl
