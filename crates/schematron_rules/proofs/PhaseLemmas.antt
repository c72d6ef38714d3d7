-- Phases by name.
use Rattle.std.proofs.Common.{◌≡◌, ℕ, zero, suc, ◌+◌, Bool, true, false, List, [], ◌∷◌, ◌++◌, Option, Some, None, Result, ap, sym, subst, ◌∙◌, ◌<◌, arith}
use Rattle.std.proofs.Common.{length, get_or, drop}
use Rattle.std.proofs.lemmas.List.{drop_more}
use Rattle.std.specs.List.{range_with_len}
use Rattle.std.specs.Str.{bytes_eq}
use Rattle.schematron_meaning.specs.Rules.{Phase}
use Rattle.schematron_meaning.specs.Phases as phases
use Rattle.schematron_meaning.specs.declared.fault.PhaseFault.{PhaseFault}
use Rattle.schematron_rules.specs.declared.rules.Phase.{Phase as Held}
use Rattle.schematron_rules.specs.Seen.{seen_phase, seen_phases}
use Rattle.schematron_rules.specs.Answers.{PhaseAnswers}

pub has_id_some : (name : List ℕ) (phase : Phase) (id : List ℕ) → phase.id ≡ Some id → phases.has_id name phase ≡ bytes_eq id name
has_id_some name phase id e = ap (λ (o : Option (List ℕ)). elim o as (λ _. Bool) [ None ↦ false | Some other ↦ bytes_eq other name ]) e

-- one number more
pub range_more : (a n : ℕ) → range_with_len a (suc n) ≡ range_with_len a n ++ (a + n) ∷ []
range_more a zero = ap (λ x. x ∷ []) (omega arith)
range_more a (suc n) = ap (λ xs. a ∷ xs) (range_more (a + 1) n ∙ ap (λ x. range_with_len (a + 1) n ++ x ∷ []) (omega arith))

pub numbers_more : (numbers more : List ℕ) (n : ℕ) → numbers ≡ range_with_len 0 n → more ≡ numbers ++ n ∷ [] → more ≡ range_with_len 0 (n + 1)
numbers_more numbers more n h e = e ∙ (ap (λ x. x ++ n ∷ []) h
    ∙ sym (ap (range_with_len 0) (let on : n + 1 ≡ suc n = omega arith in on)
    ∙ (range_more 0 n ∙ ap (λ x. range_with_len 0 n ++ x ∷ []) (let on : 0 + n ≡ n = omega arith in on))))

front : (all : List Held) (n : ℕ) (p : Held) → n < length all → p ≡ get_or all n p → seen_phases (drop n all) ≡ seen_phase p ∷ seen_phases (drop (n + 1) all)
front all n p within here = ap seen_phases (drop_more all n p within ∙ ap (λ x. x ∷ drop (n + 1) all) (sym here))

from_true : (name : List ℕ) (n : ℕ) (phase : Phase) (others : List Phase) → phases.has_id name phase ≡ true
    → phases.phase_from name n (phase ∷ others) ≡ Some (record { phase = Some n; patterns = phase.patterns })
from_true name n phase others h = ap (λ (b : Bool). elim b as (λ _. Option phases.Active) [
  | true ↦ Some (record { phase = Some n; patterns = phase.patterns })
  | false ↦ phases.phase_from name (suc n) others
]) h

from_false : (name : List ℕ) (n : ℕ) (phase : Phase) (others : List Phase) → phases.has_id name phase ≡ false
    → phases.phase_from name n (phase ∷ others) ≡ phases.phase_from name (n + 1) others
from_false name n phase others h = ap (λ (b : Bool). elim b as (λ _. Option phases.Active) [
  | true ↦ Some (record { phase = Some n; patterns = phase.patterns })
  | false ↦ phases.phase_from name (suc n) others
]) h
    ∙ ap (λ k. phases.phase_from name k others) (let on : suc n ≡ n + 1 = omega arith in on)

pub phase_found : (name : List ℕ) (all : List Held) (n : ℕ) (p : Held) (result : Result phases.Active PhaseFault) (answer : Option phases.Active)
    → n < length all → p ≡ get_or all n p → phases.has_id name (seen_phase p) ≡ true
    → phases.phase_from name n (seen_phases (drop n all)) ≡ answer → PhaseAnswers result (Some (record { phase = Some n; patterns = p.patterns }))
    → PhaseAnswers result answer
phase_found name all n p result answer within here h left found = subst (PhaseAnswers result)
    (sym (ap (phases.phase_from name n) (front all n p within here) ∙ from_true name n (seen_phase p) (seen_phases (drop (n + 1) all)) h) ∙ left) found

pub phase_on : (name : List ℕ) (all : List Held) (n : ℕ) (p : Held) (answer : Option phases.Active) → n < length all → p ≡ get_or all n p
    → phases.has_id name (seen_phase p) ≡ false
    → phases.phase_from name n (seen_phases (drop n all)) ≡ answer → phases.phase_from name (n + 1) (seen_phases (drop (n + 1) all)) ≡ answer
phase_on name all n p answer within here h left =
    sym (ap (phases.phase_from name n) (front all n p within here) ∙ from_false name n (seen_phase p) (seen_phases (drop (n + 1) all)) h) ∙ left
