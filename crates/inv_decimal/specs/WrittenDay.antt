-- The written forms of a day, as characters: YYYY-MM-DD and YYYYMMDD, the complete calendar dates of ISO 8601.
use Rattle.std.specs.Prelude.{ℕ, List, ◌∷◌, ◌++◌, length, take, drop, Option, None, ◌==◌, ◌&&◌, if◌then◌else◌, slice_index}
use Rattle.std.specs.List.{list_all}
use Rattle.std.specs.Char.{is_ascii_digit}
use Rattle.std.specs.Str.Parse.{digits_value}
use Rattle.inv_decimal.specs.Digits.{last_digits}
use Rattle.inv_decimal.specs.CivilDay.{CivilDay, day_of}

-- the day that the digits of its year, month and day write, if there is one
unfoldable pub day_from : List ℕ → List ℕ → List ℕ → Option CivilDay
day_from year month day =
    if list_all is_ascii_digit (year ++ (month ++ day))
    then day_of (digits_value 10 year) (digits_value 10 month) (digits_value 10 day)
    else None

unfoldable pub read_plain_day : List ℕ → Option CivilDay
read_plain_day cs =
    if length cs == 8 then day_from (take 4 cs) (take 2 (drop 4 cs)) (drop 6 cs) else None

unfoldable pub read_dashed_day : List ℕ → Option CivilDay
read_dashed_day cs =
    if (length cs == 10) && (slice_index cs 4 == 45) && (slice_index cs 7 == 45)
    then day_from (take 4 cs) (take 2 (drop 5 cs)) (drop 8 cs)
    else None

-- the days in those forms
unfoldable pub plain_day_text : CivilDay → List ℕ
plain_day_text d = last_digits 4 d.year ++ (last_digits 2 d.month ++ last_digits 2 d.day)

unfoldable pub dashed_day_text : CivilDay → List ℕ
dashed_day_text d =
    last_digits 4 d.year ++ (45 ∷ (last_digits 2 d.month ++ (45 ∷ last_digits 2 d.day)))
