-- How far readings were gone through, and what was left of the shelf then.
use Rattle.std.specs.Prelude.{◌≡◌, ℕ, ◌≤◌, zero, suc, List, length, Option, option_map, Ok}
use Rattle.inv_base.specs.Counts.{next_count}
use Rattle.inv_base.specs.Files.{Files, bytes_under}
use Rattle.inv_base.specs.Outside.{ShelfView, WhereTold}
use Rattle.xml_profile.specs.Profile as profile
use Rattle.xml_profile.specs.Profile.{document}
use Rattle.xml_state.specs.Sizes.{rule_limits}
use Rattle.rule_library.specs.Readings.{Readings, reads}

-- the bytes of a file, where the files are told
abbrev pub told_under : List ℕ → Option Files → Option (List ℕ)
told_under name held = option_map (bytes_under name) held

-- The readings are the others behind so many files. Each was a document, of some content, which is the file's own where
-- the files are told.
pub data Leads (held : Option Files) : Readings → ℕ → Readings → Type 0 where
  here : {a : Readings} → Leads held a 0 a
  read : {name : List ℕ} {next : ℕ → profile.Document → Readings} {content : List ℕ} {found : profile.Document} {n : ℕ} {b : Readings}
      → WhereTold (told_under name held) (λ bytes. content ≡ bytes) → document rule_limits content ≡ Ok found
      → Leads held (next (length content) found) n b → Leads held (reads name next) (suc n) b

-- the count behind so many calls
abbrev pub counted : ℕ → ℕ → ℕ
counted zero count = count
counted (suc n) count = counted n (next_count count)

-- So many files were opened and read without a fault, and the files stay.
pub record HasRead (n : ℕ) (before after : ShelfView) : Type 0 where
  pub held : after.held ≡ before.held
  pub opens : after.opens ≡ counted n before.opens
  pub faults : after.faults ≡ before.faults

-- The files that were read lead from the first readings to the others.
pub record Reaches (first others : Readings) (before after : ShelfView) : Type 0 where
  pub count : ℕ
  pub has_read : HasRead count before after
  pub leads : Leads before.held first count others

-- Files were read, and then another was opened that the readings have next.
pub record Stops (first : Readings) (before after : ShelfView) : Type 0 where
  pub count : ℕ
  pub name : List ℕ
  pub next : ℕ → profile.Document → Readings
  pub held : after.held ≡ before.held
  pub opens : after.opens ≡ counted (suc count) before.opens
  pub rises : before.faults ≤ after.faults
  pub leads : Leads before.held first count (reads name next)
