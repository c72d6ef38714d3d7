-- A day of the Gregorian calendar, on which ISO 8601 dates rest. The crate `jiff` decides which days there are.
use Rattle.std.specs.Prelude.{ℕ, ◌≤◌, ◌&&◌, Bool, Option, Some, None, nat_le, if◌then◌else◌, pos}
use Rattle.std.specs.declared.cmp.Ordering.{Ordering}
use Rattle.std.specs.Ordering.{nat_cmp, ordering_then}
use Rattle.jiff.specs.Words.{IsDate, days_in_month}

pub record CivilDay : Type 0 where
  pub year : ℕ
  pub month : ℕ
  pub day : ℕ

-- the calendar has this day, and its year is one of 1 to 9999
pub record IsDay (d : CivilDay) : Type 0 where
  pub in_era : 1 ≤ d.year
  pub exists : IsDate (pos d.year) (pos d.month) (pos d.day)

-- the same as a test
abbrev pub is_day : CivilDay → Bool
is_day d =
    nat_le 1 d.year && nat_le d.year 9999 && nat_le 1 d.month && nat_le d.month 12
    && nat_le 1 d.day
    && nat_le d.day (days_in_month (pos d.year) d.month)

-- the day of that year, month and day, if there is one
abbrev pub day_of : ℕ → ℕ → ℕ → Option CivilDay
day_of year month day =
    let d : CivilDay = record { year = year; month = month; day = day } in
    if is_day d then Some d else None

-- by year, then by month, then by day
abbrev pub day_cmp : CivilDay → CivilDay → Ordering
day_cmp a b =
    ordering_then (nat_cmp a.year b.year) (ordering_then (nat_cmp a.month b.month) (nat_cmp a.day b.day))
