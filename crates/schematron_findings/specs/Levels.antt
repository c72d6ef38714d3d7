-- How much an assertion weighs (ISO/IEC 19757-3, section 5.4.2, `flag` and `role`, whose words the standard leaves
-- open).
use Rattle.std.specs.Prelude.{ℕ, true, false, List, Option, Some, None, codes, unwrap_or}
use Rattle.std.specs.Str.{bytes_eq}
use Rattle.schematron_findings.specs.declared.level.Level.{Level}
use Rattle.schematron_findings.specs.declared.level.Level.TheVariants.{Fatal, Warning, Information}

-- the level that a word says
abbrev pub level_said : List ℕ → Option Level
level_said word = elim (bytes_eq word (codes "warning")) [
  | true ↦ Some Warning
  | false ↦ elim (bytes_eq word (codes "information")) [ true ↦ Some Information | false ↦ None ]
]

-- the same of a word that may be missing
abbrev pub level_in : Option (List ℕ) → Option Level
level_in None = None
level_in (Some word) = level_said word

-- the level by flag and role: the flag counts before the role where it says one
abbrev pub level_of : Option (List ℕ) → Option (List ℕ) → Level
level_of flag role = elim (level_in flag) [ Some level ↦ level | None ↦ unwrap_or (level_in role) Fatal ]
