-- Indicators, one after another.
use Rattle.std.proofs.Common.{◌≡◌, ℕ, ◌+◌, ◌<◌, ◌≤◌, zero, suc, List, [], ◌∷◌, ◌++◌, length, get_or, take, flat_map, All, refl, sym, ap, ◌∙◌, append_assoc}
use Rattle.std.proofs.Common.{arith}
use Rattle.std.proofs.lemmas.List.{length-map, get_or-map, take_more}
use Rattle.std.proofs.lemmas.List.Elements.{All-get_or}
use Rattle.inv_base.specs.Tree.{Node}
use Rattle.bind_rows.specs.declared.rows.Row.{Row}
use Rattle.bind_meaning.specs.declared.picked.Picked.{Picked}
use Rattle.bind_meaning.specs.Kept.{kept, all_kept}
use Rattle.bind_meaning.specs.Picks.{Pick}
use Rattle.bind_meaning.specs.Judging.{Found, wrong_word}
use Rattle.bind_terms.specs.Faults.{Puts}
use Rattle.bind_terms.specs.Steps.{IsPickOfRow}
use Rattle.bind_terms.proofs.Tolds.{append-nil, puts-both, puts-none, puts-same}

-- the picks up to one were judged
pub record Worded (nodes : List Node) (picked : List Picked) (rows : List Row) (first : List Found → Type 0) (count : ℕ)
    (given : List Found → Type 0) : Type 0 where
  pub is : (picks : List Pick) → picked ≡ all_kept picks → All (IsPickOfRow rows) picks → Puts first given (flat_map (wrong_word nodes) (take count picks))

pub worded-none : (nodes : List Node) (picked : List Picked) (rows : List Row) (first : List Found → Type 0) → Worded nodes picked rows first 0 first
worded-none nodes picked rows first = record { is = λ picks e h. puts-none first }

words-append : (nodes : List Node) (xs ys : List Pick)
    → flat_map (wrong_word nodes) (xs ++ ys) ≡ flat_map (wrong_word nodes) xs ++ flat_map (wrong_word nodes) ys
words-append nodes [] ys = refl
words-append nodes (x ∷ xs) ys = ap (λ l. wrong_word nodes x ++ l) (words-append nodes xs ys)
    ∙ sym (append_assoc (wrong_word nodes x) (flat_map (wrong_word nodes) xs) (flat_map (wrong_word nodes) ys))

a-pick : (picks : List Pick) (count : ℕ) → count < length picks → Pick
a-pick [] count h = absurd (omega arith)
a-pick (p ∷ picks) count h = p

pub worded-more : (nodes : List Node) (picked : List Picked) (rows : List Row) (first : List Found → Type 0) (count : ℕ) (was given : List Found → Type 0)
    (one : Picked) → count < length picked → one ≡ get_or picked count one
    → Worded nodes picked rows first count was
    → ((pick : Pick) → kept pick ≡ one → IsPickOfRow rows pick → Puts was given (wrong_word nodes pick)) → Worded nodes picked rows first (count + 1) given
worded-more nodes picked rows first count was given one below at before step = record {
  is = λ picks e h.
      let long : count < length picks = omega (arith, below, ap length e, length-map picks kept) in
      let d : Pick = a-pick picks count long in
      let pick : Pick = get_or picks count d in
      let same : kept pick ≡ one = sym (get_or-map kept picks count d one long) ∙ (ap (λ l. get_or l count one) (sym e) ∙ sym at) in
      puts-same first given _ _
      (sym (ap (flat_map (wrong_word nodes)) (take_more picks count d long)
      ∙ (words-append nodes (take count picks) (pick ∷ []) ∙ ap (λ l. flat_map (wrong_word nodes) (take count picks) ++ l)
      (append-nil (wrong_word nodes pick)))))
      (puts-both first was given (flat_map (wrong_word nodes) (take count picks)) (wrong_word nodes pick) (before.is picks e h)
      (step pick same (All-get_or (IsPickOfRow rows) picks count d long h)));
}

take-all : (picks : List Pick) (count : ℕ) → length picks ≤ count → take count picks ≡ picks
take-all [] zero h = refl
take-all [] (suc count) h = refl
take-all (p ∷ picks) zero h = absurd (omega arith)
take-all (p ∷ picks) (suc count) h = ap (λ l. p ∷ l) (take-all picks count (omega arith))

pub worded-all : (nodes : List Node) (picked : List Picked) (rows : List Row) (first : List Found → Type 0) (count : ℕ) (given : List Found → Type 0)
    → length picked ≤ count
    → Worded nodes picked rows first count given
    → (picks : List Pick) → picked ≡ all_kept picks → All (IsPickOfRow rows) picks → Puts first given (flat_map (wrong_word nodes) picks)
worded-all nodes picked rows first count given past w picks e h =
    puts-same first given _ _ (ap (flat_map (wrong_word nodes)) (take-all picks count (omega (arith, past, ap length e, length-map picks kept))))
    (w.is picks e h)
