-- What the walk over a whole expression leaves is its typing.
use Rattle.std.proofs.Common.{◌≡◌, ℕ, List, [], Some, None, Ok, Err, map, sym, ap, ◌∙◌}
use Rattle.xpath_grammar.specs.Grammar.{Tree}
use Rattle.xpath_types.specs.declared.kinds.Kinds.{Kinds}
use Rattle.xpath_types.specs.declared.part.Part.{Part}
use Rattle.xpath_types.specs.declared.refusals.Refusal.{Refusal}
use Rattle.xpath_types.specs.Kinds.{nodes}
use Rattle.xpath_types.specs.Scopes.{Declared}
use Rattle.xpath_types.specs.Refusals.{first_of}
use Rattle.xpath_types.specs.Judging.{judged}
use Rattle.xpath_types.specs.Parts.{placed, facts}
use Rattle.xpath_types.specs.Walking.{Seen, walked}
use Rattle.xpath_types.specs.Typing.{typing_of, answer, outermost, AreStated}
use Rattle.xpath_types.proofs.WalkLaws.{told, walked-told}

pub stated : (declared : Declared) (x : Tree) (parts : List Part) → AreStated declared x parts →
    typing_of declared x ≡ Ok (record { expression = x; declared = declared; parts = parts })
unfolding typing_of
stated declared x parts known = ap (λ first. answer first (record { expression = x; declared = declared; parts = map facts (placed (outermost declared) 0 x) }))
    known.unrefused
    ∙ ap (λ parts. Ok (record { expression = x; declared = declared; parts = parts })) (sym known.parts_are)

module _ (declared : Declared) (x : Tree) (s : Seen) (bound : List (List ℕ × Kinds)) (begun : Seen) (empty : bound ≡ [])
    (none : begun ≡ record { parts = []; first = None })
    (is : s ≡ (walked declared nodes bound 0 begun x).1) where
  left : s ≡ (told declared nodes [] 0 (record { parts = []; first = None }) x).1
  left = is ∙ ((λ i. (walked declared nodes (empty i) 0 (none i) x).1) ∙
      ap (λ told. told.1) (walked-told declared nodes [] 0 (record { parts = []; first = None }) x))

  first_is : s.first ≡ first_of None (judged (outermost declared) 0 x).refusals
  first_is = ap (λ (s : Seen). s.first) left

  pub refused : (refusal : Refusal) → s.first ≡ Some refusal → typing_of declared x ≡ Err refusal
  unfolding typing_of
  refused refusal e = ap (λ first. answer first (record { expression = x; declared = declared; parts = map facts (placed (outermost declared) 0 x) }))
      (sym first_is ∙ e)

  pub accepted : s.first ≡ None → AreStated declared x s.parts
  accepted e = record { parts_are = ap (λ (s : Seen). s.parts) left; unrefused = sym first_is ∙ e }
