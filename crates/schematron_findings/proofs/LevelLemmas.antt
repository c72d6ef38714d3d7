-- The words that say a level.
use Rattle.std.proofs.Common.{◌≡◌, ℕ, Bool, true, false, List, Option, Some, None, refl, ap, ◌∙◌, codes}
use Rattle.std.specs.Str.{chars, bytes_eq}
use Rattle.schematron_findings.specs.declared.level.Level.{Level}
use Rattle.schematron_findings.specs.declared.level.Level.TheVariants.{Warning, Information}
use Rattle.schematron_findings.specs.Levels.{level_said}

warning-ascii : chars (codes "warning") ≡ codes "warning"
unfolding chars
warning-ascii = refl

information-ascii : chars (codes "information") ≡ codes "information"
unfolding chars
information-ascii = refl

abbrev said_by : Bool → Bool → Option Level
said_by warning information = elim warning as (λ _. Option Level) [
  | true ↦ Some Warning
  | false ↦ elim information as (λ _. Option Level) [ true ↦ Some Information | false ↦ None ]
]

-- by the two comparisons of a word
pub said : (word : List ℕ) (warning information : Bool) → warning ≡ bytes_eq word (chars (codes "warning")) →
    information ≡ bytes_eq word (chars (codes "information"))
    → said_by warning information ≡ level_said word
said word warning information p q =
    ap (λ b. said_by b information) (p ∙ ap (bytes_eq word) warning-ascii)
    ∙ ap (said_by (bytes_eq word (codes "warning"))) (q ∙ ap (bytes_eq word) information-ascii)
