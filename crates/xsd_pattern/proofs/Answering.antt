-- What `parse` and `holds` answer.
use Rattle.std.proofs.Common.{◌≡◌, ℕ, ◌≤◌, ◌<◌, Bool, true, false, List, Option, Some, None, Result, Err, inl, inr, refl, sym, ap, subst, ◌∙◌, ◌⊎◌, arith}
use Rattle.std.specs.Prelude.{IsTrue, ◌↔◌, IfOk}
use Rattle.std.proofs.lemmas.Result.{IfOk-weaker}
use Rattle.std.proofs.lemmas.Bool.{le-leb, lt-leb}
use Rattle.xsd_pattern.specs.declared.token.Class.{Class}
use Rattle.xsd_pattern.specs.declared.token.Token.{Token}
use Rattle.xsd_pattern.specs.declared.step.Step.{Step}
use Rattle.xsd_pattern.specs.declared.parts.Part.{Part}
use Rattle.xsd_pattern.specs.declared.fault.PatternFault.{PatternFault}
use Rattle.xsd_pattern.specs.declared.fault.PatternFault.TheVariants as f
use Rattle.xsd_pattern.specs.Classes.{has}
use Rattle.xsd_pattern.specs.Grammar.{Top}
use Rattle.xsd_pattern.specs.Spelling.{Spells}
use Rattle.xsd_pattern.specs.Lexing.{tokens_of}
use Rattle.xsd_pattern.specs.Finding.{Finds}
use Rattle.xsd_pattern.specs.Machine as m
use Rattle.xsd_pattern.specs.Matching.{sizes, size, size_by_tokens, fault_of, fault_by_size, fault_by_test, found_unless, cores, matches, IsFault}
use Rattle.xsd_pattern.specs.Matching.{found_by_core}
use Rattle.xsd_pattern.specs.Core.{Core, is_empty}
use Rattle.xsd_pattern.specs.Marks.{is_in}
use Rattle.xsd_pattern.specs.Steps.{code, has_at}
use Rattle.xsd_pattern.specs.States.{placed_from}
use Rattle.xsd_pattern.specs.Parts.{parts}
use Rattle.xsd_pattern.specs.Compiling.{part_by_tokens, part_of_text, IsCompiled, FromText}
use Rattle.xsd_pattern.proofs.Trees.{tree_of, of_maybe}
use Rattle.xsd_pattern.proofs.Folded.{read-folded}
use Rattle.xsd_pattern.proofs.Language.{is_in-yes, is_in-only}
use Rattle.xsd_pattern.proofs.Membership.{top-yes, top-only}
use Rattle.xsd_pattern.proofs.Standing.{Stands, wrapped, code-all, empty-all}
use Rattle.xsd_pattern.proofs.Readings.{Known, known, one-reading, size-spelled, core-spelled, size-through, part-spelled}

-- ---- faults

fault-small : (text : List ℕ) (p : Top Class) → Spells text p → size p ≤ 2000 → fault_of text ≡ None
fault-small text p h l = ap fault_by_size (size-spelled text p h) ∙ ap fault_by_test (le-leb (size p) 2000 l)

fault-large : (text : List ℕ) (p : Top Class) → Spells text p → 2000 < size p → fault_of text ≡ Some f.TooLarge
fault-large text p h l = ap fault_by_size (size-spelled text p h) ∙ ap fault_by_test (lt-leb (size p) 2000 l)

no_size : (o : Option (List (Token Class))) → part_by_tokens o ≡ None → size_by_tokens o ≡ None
no_size None e = refl
no_size (Some tokens) e = go (tree_of (placed_from 0 tokens)) (sym (read-folded parts (placed_from 0 tokens)) ∙ e) (size-through tokens)
  where
    go : (o : Option (Top (Option ℕ))) → of_maybe (m.of_top parts) o ≡ None → m.read sizes tokens ≡ of_maybe (m.of_top sizes) o → m.read sizes tokens ≡ None
    go None d k = k
    go (Some raw) d k = cc

fault-none : (text : List ℕ) → part_of_text text ≡ None → fault_of text ≡ Some f.Bad
fault-none text e = ap fault_by_size (no_size (tokens_of text) e)

-- ---- where a part is too large

pub record IsLarge (text : List ℕ) : Type 0 where
  pub pattern : Top Class
  pub spells : Spells text pattern
  pub large : 2000 < size pattern

large_by : (text : List ℕ) (o : Option (List (Token Class))) (p : Part) → tokens_of text ≡ o → part_by_tokens o ≡ Some p → 2000 < p.size → IsLarge text
large_by text None p e d l = cc
large_by text (Some tokens) p e d l = let k = known text tokens p e d in record { pattern = k.pattern; spells = k.spells; large = omega (arith, k.size_is, l) }

is_large : (text : List ℕ) → FromText text (Err f.TooLarge) → IsLarge text
is_large text (p, e, l) = large_by text (tokens_of text) p refl e l

-- ---- an error of `parse`

pub bad-err : (text : List ℕ) (fault : PatternFault) → FromText text (Err fault) → fault ≡ f.Bad → (p : Top Class) → Spells text p → ⊥
bad-err text f.Bad h e p s = part-spelled text p s h
bad-err text f.TooLarge h e p s = cc
bad-err text f.Memory h e p s = cc

pub large-err : (text : List ℕ) (fault : PatternFault) → FromText text (Err fault) → fault ≡ f.TooLarge → (p : Top Class) × Spells text p × (2000 < size p)
large-err text f.Bad h e = cc
large-err text f.TooLarge h e = let k = is_large text h in (k.pattern, k.spells, k.large)
large-err text f.Memory h e = cc

pub only-err : (text : List ℕ) (fault : PatternFault) → FromText text (Err fault) → (p : Top Class) → Spells text p → (fault ≡ f.Memory) ⊎ ((2000 < size p)
    × (fault ≡ f.TooLarge))
only-err text f.Bad h p s = absurd (part-spelled text p s h)
only-err text f.TooLarge h p s = let k = is_large text h in inr (subst (λ q. 2000 < size q) (one-reading text k.pattern p k.spells s) k.large, refl)
only-err text f.Memory h p s = inl refl

pub fault-err : (text : List ℕ) (fault : PatternFault) → FromText text (Err fault) → IsFault fault (fault_of text)
fault-err text f.Bad h = fault-none text h
fault-err text f.TooLarge h = let k = is_large text h in fault-large text k.pattern k.spells k.large
fault-err text f.Memory h = tt

-- ---- a pattern of `parse`

module _ (text : List ℕ) (tokens : List (Token Class)) (steps : List Step) (empty : Bool) (h : IsCompiled text tokens steps empty) where
  told : Known text tokens h.part
  told = known text tokens h.part h.tokens_are h.part_is

  pub pattern_of : Top Class
  pattern_of = told.pattern

  pub spells_of : Spells text pattern_of
  unfolding pattern_of
  spells_of = told.spells

  pub small_of : size pattern_of ≤ 2000
  unfolding pattern_of
  small_of = omega (arith, told.size_is, h.is_of.small)

  pub small-same : (p : Top Class) → Spells text p → size p ≤ 2000
  small-same p s = subst (λ q. size q ≤ 2000) (one-reading text pattern_of p spells_of s) small_of

  pub fault-ok : fault_of text ≡ None
  fault-ok = fault-small text pattern_of spells_of small_of

  -- ---- `holds`

  stands_of : Stands (has_at tokens) h.part (Finds has pattern_of)
  unfolding pattern_of
  stands_of = told.stands h.is_of.small

  pub core_of : Core (Option ℕ)
  core_of = wrapped h.part stands_of.inner

  pub steps-core : steps ≡ code core_of
  unfolding core_of
  steps-core = h.is_of.steps_are ∙ code-all (has_at tokens) h.part (Finds has pattern_of) stands_of

  pub empty-core : empty ≡ is_empty core_of
  unfolding core_of
  empty-core = h.is_of.empty_is ∙ empty-all (has_at tokens) h.part (Finds has pattern_of) stands_of

  in-yes : (t : List ℕ) → Finds has pattern_of t → is_in (has_at tokens) core_of t ≡ true
  unfolding core_of
  in-yes t g = is_in-yes (has_at tokens) core_of t (stands_of.yes t g)

  in-only : (t : List ℕ) → is_in (has_at tokens) core_of t ≡ true → Finds has pattern_of t
  unfolding core_of
  in-only t e = stands_of.only t (is_in-only (has_at tokens) core_of t e)

  pub finds-same : (p : Top Class) → Spells text p → (t : List ℕ) (b : Bool) → b ≡ is_in (has_at tokens) core_of t → IsTrue b ↔ Finds has p t
  finds-same p s t b e =
      let q : pattern_of ≡ p = one-reading text pattern_of p spells_of s in
      ((λ k. subst (λ r. Finds has r t) q (in-only t (sym e ∙ k))), (λ k. e ∙ in-yes t (subst (λ r. Finds has r t) (sym q) k)))

  matches-core : (t : List ℕ) → matches t text ≡ is_in has (m.of_top cores pattern_of) t
  matches-core t = ap (found_unless t text) fault-ok ∙ ap (found_by_core t) (core-spelled text pattern_of spells_of)

  same_bool : (a b : Bool) → (a ≡ true → b ≡ true) → (b ≡ true → a ≡ true) → a ≡ b
  same_bool true b u v = sym (u refl)
  same_bool false true u v = v refl
  same_bool false false u v = refl

  pub matches-same : (t : List ℕ) (b : Bool) → b ≡ is_in (has_at tokens) core_of t → b ≡ matches t text
  matches-same t b e = same_bool b (matches t text)
      (λ k. matches-core t ∙ is_in-yes has (m.of_top cores pattern_of) t (top-yes pattern_of t (in-only t (sym e ∙ k))))
      (λ k. e ∙ in-yes t (top-only pattern_of t (is_in-only has (m.of_top cores pattern_of) t (sym (matches-core t) ∙ k))))

  found_of : {E : Type 0} (result : Result Bool E) (given : List (Token Class)) (gone : List Step) (t : List ℕ) → given ≡ tokens → gone ≡ steps
      → ((x : Core (Option ℕ)) → gone ≡ code x → empty ≡ is_empty x → IfOk result (λ b. b ≡ is_in (has_at given) x t))
      → IfOk result (λ b. b ≡ is_in (has_at tokens) core_of t)
  found_of result given gone t e d g = subst (λ ts. IfOk result (λ b. b ≡ is_in (has_at ts) core_of t)) e (g core_of (d ∙ steps-core) empty-core)

  pub finds-result : {E : Type 0} (result : Result Bool E) (given : List (Token Class)) (gone : List Step) (t : List ℕ) → given ≡ tokens → gone ≡ steps
      → ((x : Core (Option ℕ)) → gone ≡ code x → empty ≡ is_empty x → IfOk result (λ b. b ≡ is_in (has_at given) x t))
      → (p : Top Class) → Spells text p → IfOk result (λ b. IsTrue b ↔ Finds has p t)
  finds-result result given gone t e d g p s = IfOk-weaker result (λ b. b ≡ is_in (has_at tokens) core_of t) (λ b. IsTrue b ↔ Finds has p t)
      (finds-same p s t) (found_of result given gone t e d g)

  pub value-result : {E : Type 0} (result : Result Bool E) (given : List (Token Class)) (gone : List Step) (t : List ℕ) → given ≡ tokens → gone ≡ steps
      → ((x : Core (Option ℕ)) → gone ≡ code x → empty ≡ is_empty x → IfOk result (λ b. b ≡ is_in (has_at given) x t)) → IfOk result (λ b. b ≡ matches t text)
  value-result result given gone t e d g = IfOk-weaker result (λ b. b ≡ is_in (has_at tokens) core_of t) (λ b. b ≡ matches t text) (matches-same t)
      (found_of result given gone t e d g)
