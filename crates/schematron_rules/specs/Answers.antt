-- What is answered where a phase is asked for.
use Rattle.std.specs.Prelude.{◌≡◌, Option, Some, None, Result, Ok, Err}
use Rattle.schematron_meaning.specs.declared.fault.PhaseFault.{PhaseFault}
use Rattle.schematron_meaning.specs.declared.fault.PhaseFault.TheVariants as f
use Rattle.schematron_meaning.specs.Phases as phases
use Rattle.schematron_rules.specs.Seen.{seen_active}

-- the call found no phase as the answer says, or memory ran out
abbrev pub NoPhaseAnswers : PhaseFault → Option phases.Active → Type 0
NoPhaseAnswers f.NoPhase answer = answer ≡ None
NoPhaseAnswers f.Memory answer = Unit {0}

abbrev pub PhaseAnswers : Result phases.Active PhaseFault → Option phases.Active → Type 0
PhaseAnswers (Ok active) answer = answer ≡ Some (seen_active active)
PhaseAnswers (Err fault) answer = NoPhaseAnswers fault answer
