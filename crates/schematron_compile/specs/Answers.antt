-- What is answered where a rule file is compiled.
use Rattle.std.specs.Prelude.{◌≡◌, ℕ, ◌<◌, Bool, true, false, None, Result, Ok, Err}
use Rattle.std.proofs.Common.{◌⊎◌}
use Rattle.node_arena.specs.Document.{Document, node_at}
use Rattle.schematron_meaning.specs.declared.fault.Fault.{Fault}
use Rattle.schematron_meaning.specs.declared.fault.RuleKind.{RuleKind}
use Rattle.schematron_meaning.specs.declared.fault.RuleKind.TheVariants as k
use Rattle.schematron_meaning.specs.Rules as spec
use Rattle.schematron_rules.specs.declared.rules.Compiled.{Compiled}
use Rattle.schematron_rules.specs.Seen.{seen_compiled}
use Rattle.schematron_compile.specs.declared.compiling.RuleFault.{RuleFault}
use Rattle.schematron_compile.specs.declared.compiling.Refusal.{Refusal}
use Rattle.schematron_compile.specs.declared.compiling.Refusal.TheVariants as r

-- a fault as it is told: by the place of its node
abbrev pub told : Document → Fault → RuleFault
told document fault = record { kind = fault.kind; place = record { byte = (node_at document.nodes fault.node).place }; attribute = fault.attribute }

abbrev pub is_memory : RuleKind → Bool
is_memory k.Memory = true
is_memory _ = false

-- want of memory, which stands nowhere
abbrev pub want_of_memory : RuleFault
want_of_memory = record { kind = k.Memory; place = record { byte = 0 }; attribute = None }

-- The first fault of the document's file was told, or memory ran out.
abbrev pub Tells : Document → RuleFault → Result spec.Rules Fault → Type 0
Tells document fault answer = (fault ≡ want_of_memory) ⊎ ((first : Fault) × (answer ≡ Err first) × (fault ≡ told document first))

abbrev pub Compiles : Document → Result Compiled RuleFault → Result spec.Rules Fault → Type 0
Compiles document (Ok rules) answer = answer ≡ Ok (seen_compiled rules)
Compiles document (Err fault) answer = Tells document fault answer

-- Inside

-- The file was refused so, or memory ran out.
abbrev pub Refuses : Refusal → Result spec.Rules Fault → Type 0
Refuses (r.Refused fault) answer = answer ≡ Err fault
Refuses r.Memory answer = Unit {0}

abbrev pub ComesTo : Result Compiled Refusal → Result spec.Rules Fault → Type 0
ComesTo (Ok rules) answer = answer ≡ Ok (seen_compiled rules)
ComesTo (Err refusal) answer = Refuses refusal answer

-- The fault's node is one of so many.
abbrev pub IsOfANode : ℕ → Refusal → Type 0
IsOfANode count (r.Refused fault) = fault.node < count
IsOfANode count r.Memory = Unit {0}
