-- The phases of a rule file (ISO/IEC 19757-3, section 5.4.11): which patterns are judged.
use Rattle.std.specs.Prelude.{ℕ, suc, Bool, true, false, List, [], ◌∷◌, length, Option, Some, None, codes}
use Rattle.std.specs.List.{range_with_len}
use Rattle.std.specs.Str.{bytes_eq}
use Rattle.schematron_meaning.specs.Rules.{Rules, Phase}

-- what is active: the number of the phase, none where all patterns are, and the numbers of the patterns
pub record Active : Type 0 where
  pub phase : Option ℕ
  pub patterns : List ℕ

abbrev pub all_phases : List ℕ
all_phases = codes "#ALL"

abbrev pub the_default : List ℕ
the_default = codes "#DEFAULT"

abbrev pub all_active : Rules → Active
all_active rules = record { phase = None; patterns = range_with_len 0 (length rules.patterns) }

abbrev pub has_id : List ℕ → Phase → Bool
has_id name phase = elim phase.id [ None ↦ false | Some id ↦ bytes_eq id name ]

-- the first phase of the name from one on, of which the number is given
abbrev pub phase_from : List ℕ → ℕ → List Phase → Option Active
phase_from name n [] = None
phase_from name n (phase ∷ phases) = elim (has_id name phase) [
  | true ↦ Some (record { phase = Some n; patterns = phase.patterns })
  | false ↦ phase_from name (suc n) phases
]

abbrev pub by_name : Rules → List ℕ → Option Active
by_name rules name = elim (bytes_eq name all_phases) [ true ↦ Some (all_active rules) | false ↦ phase_from name 0 rules.phases ]

-- what the file says is active where nothing is asked for: a phase that is called like the default one isn't meant
abbrev pub by_default : Rules → Option (List ℕ) → Option Active
by_default rules None = Some (all_active rules)
by_default rules (Some name) = elim (bytes_eq name the_default) [ true ↦ None | false ↦ by_name rules name ]

-- what is active by that name; none where no phase has it
abbrev pub active_of : Rules → List ℕ → Option Active
active_of rules name = elim (bytes_eq name the_default) [ true ↦ by_default rules rules.default_phase | false ↦ by_name rules name ]
