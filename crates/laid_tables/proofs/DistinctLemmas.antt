-- Numbers that are distinct, as a set tells it that holds those so far.
use Rattle.std.proofs.Common.{◌≡◌, ℕ, ◌<◌, ◌≤◌, ◌&&◌, ◌||◌, Bool, true, false, not, List, [], ◌∷◌, ◌++◌}
use Rattle.std.proofs.Common.{length, get_or, take, drop, refl, ap, sym, ◌∙◌, nat_eq, arith}
use Rattle.std.specs.List.{list_any}
use Rattle.std.proofs.lemmas.List.{length-map, get_or-map, drop_all}
use Rattle.std.proofs.lemmas.List.Folds.{list_any-append}
use Rattle.xml_state.specs.StartTags.{twice_behind}
use Rattle.xml_events.proofs.FlipLemmas.{nat_eq-flips}
use Rattle.bind_table.specs.declared.lines.Line.{Line}
use Rattle.bind_table.specs.Laid.{are_distinct}
use Rattle.laid_tables.specs.Lines.{line_numbers}

-- None of the numbers is among those before.
abbrev all_new : List ℕ → List ℕ → Bool
all_new before [] = true
all_new before (n ∷ ns) = not (list_any (nat_eq n) before) && all_new before ns

shuffle : (a b c d : Bool) → (not (a || (c || false)) && (b && not d)) ≡ ((not a && b) && not (c || d))
shuffle true b c d = refl
shuffle false true true d = refl
shuffle false true false d = refl
shuffle false false true d = refl
shuffle false false false d = refl

all_new-more : (before : List ℕ) (n : ℕ) (ns : List ℕ) → all_new (before ++ n ∷ []) ns ≡ (all_new before ns && not (list_any (nat_eq n) ns))
all_new-more before n [] = refl
all_new-more before n (m ∷ ns) =
    ap (λ x. not x && all_new (before ++ n ∷ []) ns) (list_any-append (nat_eq m) before (n ∷ []))
    ∙ (ap (λ x. not (list_any (nat_eq m) before || (x || false)) && all_new (before ++ n ∷ []) ns) (nat_eq-flips m n)
    ∙ (ap (λ x. not (list_any (nat_eq m) before || (nat_eq n m || false)) && x) (all_new-more before n ns)
    ∙ shuffle (list_any (nat_eq m) before) (all_new before ns) (nat_eq n m) (list_any (nat_eq n) ns)))

regroup : (a b c d e : Bool) → e ≡ ((b && not c) && d) → not (a || not e) ≡ ((not a && b) && (not c && d))
regroup true b c d e h = refl
regroup false true true d e h = ap (λ x. not (not x)) h
regroup false true false true e h = ap (λ x. not (not x)) h
regroup false true false false e h = ap (λ x. not (not x)) h
regroup false false c d e h = ap (λ x. not (not x)) h

twice_not : (b : Bool) → not (not b) ≡ b
twice_not true = refl
twice_not false = refl

behind : (before ns : List ℕ) → not (twice_behind nat_eq before ns) ≡ (all_new before ns && are_distinct ns)
behind before [] = refl
behind before (n ∷ ns) =
    ap (λ x. not (list_any (nat_eq n) before || x)) (sym (twice_not (twice_behind nat_eq (before ++ n ∷ []) ns)))
    ∙ regroup (list_any (nat_eq n) before) (all_new before ns) (list_any (nat_eq n) ns) (are_distinct ns) (not (twice_behind nat_eq (before ++ n ∷ []) ns))
    (behind (before ++ n ∷ []) ns ∙ ap (λ x. x && are_distinct ns) (all_new-more before n ns))

new-at_first : (ns : List ℕ) → all_new [] ns ≡ true
new-at_first [] = refl
new-at_first (n ∷ ns) = new-at_first ns

distinct-not_twice : (ns : List ℕ) → not (twice_behind nat_eq [] ns) ≡ are_distinct ns
distinct-not_twice ns = behind [] ns ∙ ap (λ x. x && are_distinct ns) (new-at_first ns)

-- ---- along the lines

pub number-within : (lines : List Line) (i : ℕ) → i < length lines → i < length (line_numbers lines)
number-within lines i l = let m = length-map lines (λ (line : Line). line.step.number) in omega (arith, m)

pub number-at : (lines : List Line) (i : ℕ) (line : Line) → i < length lines → line ≡ get_or lines i line
    → line.step.number ≡ get_or (line_numbers lines) i line.step.number
number-at lines i line l e = ap (λ (x : Line). x.step.number) e ∙ sym (get_or-map (λ (x : Line). x.step.number) lines i line line.step.number l)

pub some-twice : (ns : List ℕ) → true ≡ twice_behind nat_eq [] ns → false ≡ are_distinct ns
some-twice ns e = ap not e ∙ distinct-not_twice ns

pub none-twice : (lines : List Line) (i : ℕ) → length lines ≤ i
    → twice_behind nat_eq (take i (line_numbers lines)) (drop i (line_numbers lines)) ≡ twice_behind nat_eq [] (line_numbers lines)
    → true ≡ are_distinct (line_numbers lines)
none-twice lines i l e =
    let m : length (line_numbers lines) ≤ i = omega (arith, length-map lines (λ (line : Line). line.step.number)) in
    ap not (ap (twice_behind nat_eq (take i (line_numbers lines))) (sym (drop_all i (line_numbers lines) m)) ∙ e)
    ∙ distinct-not_twice (line_numbers lines)
