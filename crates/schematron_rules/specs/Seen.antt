-- The rules of a file as the definitions have them.
use Rattle.std.specs.Prelude.{ℕ, List, [], map, slice_get, Option, Some, None}
use Rattle.xpath_plan.specs.Plans.{expression}
use Rattle.schematron_meaning.specs.Rules as spec
use Rattle.schematron_meaning.specs.Phases as phases
use Rattle.schematron_rules.specs.declared.rules.Let.{Let}
use Rattle.schematron_rules.specs.declared.rules.Shown.{Shown}
use Rattle.schematron_rules.specs.declared.rules.Part.{Part}
use Rattle.schematron_rules.specs.declared.rules.Part.TheVariants as p
use Rattle.schematron_rules.specs.declared.rules.Assertion.{Assertion}
use Rattle.schematron_rules.specs.declared.rules.Rule.{Rule}
use Rattle.schematron_rules.specs.declared.rules.Expanded.{Expanded}
use Rattle.schematron_rules.specs.declared.rules.Phase.{Phase}
use Rattle.schematron_rules.specs.declared.rules.Compiled.{Compiled}

abbrev pub seen_let : Let → spec.Let
seen_let x = record { name = x.name; value = expression x.plan }

abbrev pub seen_lets : List Let → List spec.Let
seen_lets lets = map seen_let lets

abbrev pub seen_shown : Shown → spec.Shown
seen_shown x = record { text = x.text; expression = expression x.plan }

abbrev pub seen_part : Part → spec.Part
seen_part (p.Words text) = spec.words text
seen_part (p.Values plan) = spec.values (expression plan)
seen_part p.Name = spec.the_name

abbrev pub seen_assertion : Assertion → spec.Assertion
seen_assertion x =
    record { kind = x.kind; test = seen_shown x.test; id = x.id; flag = x.flag; role = x.role; level = x.level; message = map seen_part x.message }

abbrev pub seen_rule : Rule → spec.Rule
seen_rule x = record { context = seen_shown x.context; lets = seen_lets x.lets; assertions = map seen_assertion x.assertions }

abbrev pub seen_pattern : Expanded → spec.Pattern
seen_pattern x = record { id = x.id; lets = seen_lets x.lets; rules = map seen_rule x.rules }

abbrev pub seen_phase : Phase → spec.Phase
seen_phase x = record { id = x.id; lets = seen_lets x.lets; patterns = x.patterns }

abbrev pub seen_phases : List Phase → List spec.Phase
seen_phases phases = map seen_phase phases

abbrev pub seen_compiled : Compiled → spec.Rules
seen_compiled x = record { default_phase = x.default_phase; lets = seen_lets x.lets; phases = seen_phases x.phases; patterns = map seen_pattern x.patterns }

-- what contracts see of rules is what the file comes to
abbrev pub seen_rules : Compiled → spec.Rules
seen_rules x = seen_compiled x

-- what contracts see of what is active is that
abbrev pub seen_active : phases.Active → phases.Active
seen_active x = x

-- the lets of the phase of that number
abbrev pub lets_in : List Phase → ℕ → List Let
lets_in phases n = elim (slice_get phases n) [ None ↦ [] | Some phase ↦ phase.lets ]

-- the lets of the schema, or of the phase of that number
abbrev pub all_lets : Compiled → Option ℕ → List Let
all_lets x None = x.lets
all_lets x (Some n) = lets_in x.phases n
