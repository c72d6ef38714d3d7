-- A rule file that is held in memory, compiled, and what is active of it by default.
use Rattle.std.proofs.Common.{◌≡◌, ℕ, true, false, true≢false, inl, inr, List, [], ◌∷◌, Option, Some, None, option_map, Result, Ok, Err, IfOk, OnOk, refl, sym}
use Rattle.std.proofs.Common.{ap, subst, ◌∙◌}
use Rattle.std.specs.Prelude.{nat_lt}
use Rattle.std.specs.List.{list_all}
use Rattle.std.specs.Str.{chars, IsAscii}
use Rattle.std.proofs.lemmas.Bool.{ltb-true, and_parts}
use Rattle.std.proofs.lemmas.Str.{chars-IsAscii}
use Rattle.std.proofs.lemmas.Str.Ascii.{IsAscii-nil, IsAscii-cons}
use Rattle.node_arena.specs.Document.{Document}
use Rattle.schematron_meaning.specs.declared.fault.Fault.{Fault}
use Rattle.schematron_meaning.specs.Rules.{Rules}
use Rattle.schematron_meaning.specs.Phases.{Active, active_of, the_default}
use Rattle.schematron_rules.specs.declared.rules.Compiled.{Compiled}
use Rattle.schematron_rules.specs.Seen.{seen_rules}
use Rattle.schematron_compile.specs.declared.compiling.RuleFault.{RuleFault}
use Rattle.schematron_compile.specs.Answers.{is_memory, Tells}
use Rattle.held_rules.specs.declared.ready.Ready as code
use Rattle.held_rules.specs.Texts.{unless_faulty, with_active, by_default, IsReady, AreReady}

-- a file that was refused says nothing
pub none-said : {E : Type 0} (document : Document) (fault : RuleFault) (answer : Result Rules Fault) (told : Result (Option Compiled) E) →
    Tells document fault answer
    → IfOk told (λ rules. option_map seen_rules rules ≡ None) → OnOk told (is_memory fault.kind ≡ false) →
    IfOk told (λ rules. option_map seen_rules rules ≡ unless_faulty answer)
none-said document fault answer (Err e) tells none is = tt
none-said document fault answer (Ok rules) (inl memory) none is = absurd (true≢false (sym (ap (λ (f : RuleFault). is_memory f.kind) memory) ∙ is))
none-said document fault answer (Ok rules) (inr first) none is = none ∙ sym (ap unless_faulty first.1)

ascii : (bytes : List ℕ) → list_all (λ b. nat_lt b 128) bytes ≡ true → IsAscii bytes
ascii [] e = IsAscii-nil
ascii (b ∷ bytes) e = let parts = and_parts (nat_lt b 128) (list_all (λ b. nat_lt b 128) bytes) e in
    IsAscii-cons b bytes (ltb-true b 128 parts.0) (ascii bytes parts.1)

default-chars : chars the_default ≡ the_default
default-chars = chars-IsAscii the_default (ascii the_default refl)

default-active : (rules : Rules) (answer : Option Active) → active_of rules (chars the_default) ≡ answer → answer ≡ active_of rules the_default
default-active rules answer e = sym e ∙ ap (active_of rules) default-chars

-- what is active by default, with its rules
pub active-ready : (rules : Rules) (active : Active) → active_of rules (chars the_default) ≡ Some active
    → Some (record { rules = rules; active = active }) ≡ by_default (Some rules)
active-ready rules active a = ap (with_active rules) (default-active rules (Some active) a)

-- nothing is active by default
pub nothing-ready : (rules : Rules) → active_of rules (chars the_default) ≡ None → None ≡ by_default (Some rules)
nothing-ready rules a = ap (with_active rules) (default-active rules None a)

pub are-ready : (ready : code.Ready) → IsReady ready → AreReady (Some ready)
are-ready ready is one e = let same : ready ≡ one = cc in subst IsReady same is

pub none-ready : AreReady None
none-ready one e = cc
