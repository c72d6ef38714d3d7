-- Parts that lead back: what labels rule out, what a way shows, and what rows of leading rules hold.
use Rattle.std.proofs.Common.{◌≡◌, ℕ, zero, suc, ◌+◌, ◌<◌, ◌≤◌, Bool, true, false, ◌||◌, true≢false, List, [], ◌∷◌, ◌++◌, length, take, get_or, map, Option}
use Rattle.std.proofs.Common.{Some, None, refl, ap, sym, subst, ◌∙◌, add-one, arith, ◌⊎◌, inl, inr}
use Rattle.std.specs.Prelude.{slice_get, nat_eq, nat_le, nat_lt, Vec, Result, Ok, Err, IfOk}
use Rattle.std.specs.List.{list_all, list_any}
use Rattle.std.proofs.lemmas.List.{take_more, take_all, get_or_past}
use Rattle.std.proofs.lemmas.List.Folds.{list_any-append}
use Rattle.std.proofs.lemmas.Option.{slice_get_read}
use Rattle.std.proofs.lemmas.Bool.Decides.{nat_tests}
use Rattle.schematron_graph.specs.declared.part.Part.{Part}
use Rattle.schematron_graph.specs.declared.part.Part.TheVariants.{Own, Puts}
use Rattle.schematron_graph.specs.declared.part.Spot.{Spot}
use Rattle.schematron_graph.specs.Rules.{bodies_of, body_of, part_leads, leads_within, is_back}
use Rattle.schematron_graph.specs.Back.{FirstAt, IsFirstIn, NoneBefore, FirstSpot, label_of, falls_to, all_fall, NeverRise, is_level, level_test, puts_rule}
use Rattle.schematron_graph.specs.Back.{leads_along, IsBackAt, leads_in, any_leads, next_row, row_of}
use Rattle.schematron_graph.proofs.RankedLemmas.{and-left, and-right, and-both}

bool_cases : (b : Bool) → (b ≡ true) ⊎ (b ≡ false)
bool_cases true = inl refl
bool_cases false = inr refl

or-left : (a b : Bool) → (a || b) ≡ false → a ≡ false
or-left true b e = cc
or-left false b e = refl

or-right : (a b : Bool) → (a || b) ≡ false → b ≡ false
or-right true b e = cc
or-right false b e = e

or-none : (a b : Bool) → a ≡ false → b ≡ false → (a || b) ≡ false
or-none true b p q = cc
or-none false b p q = q

or-first : (a b : Bool) → a ≡ true → (a || b) ≡ true
or-first true b p = refl
or-first false b p = cc

or-second : (a b : Bool) → b ≡ true → (a || b) ≡ true
or-second true b p = refl
or-second false b p = p

-- Loops

pub any-more : {A : Type 0} (test : A → Bool) (xs : List A) (k : ℕ) (x : A) → k < length xs → x ≡ get_or xs k x → list_any test (take k xs) ≡ false →
    test x ≡ false → list_any test (take (k + 1) xs) ≡ false
any-more test xs k x h e none t =
    ap (list_any test) (take_more xs k x h ∙ ap (λ d. take k xs ++ d ∷ []) (sym e))
    ∙ (list_any-append test (take k xs) (x ∷ []) ∙ or-none (list_any test (take k xs)) (list_any test (x ∷ [])) none (or-none (test x) false t refl))

pub any-all : {A : Type 0} (test : A → Bool) (xs : List A) (k : ℕ) → length xs ≤ k → list_any test (take k xs) ≡ false → list_any test xs ≡ false
any-all test xs k h none = ap (list_any test) (sym (take_all k xs h)) ∙ none

pub first-at : (test : Part → Bool) (parts : List Part) (k : ℕ) (part : Part) → k < length parts → part ≡ get_or parts k part →
    list_any test (take k parts) ≡ false → test part ≡ true → FirstAt test parts k
first-at test parts k part h e none t = record { part = part; there = slice_get_read parts (length parts) k part refl h e; passes = t; first = none }

-- what holds of the rules below one, and of that one
pub below-more : (P : ℕ → Type 0) (n : ℕ) → ((rule : ℕ) → rule < n → P rule) → P n → (rule : ℕ) → rule < n + 1 → P rule
below-more P n h p rule l = by (nat_eq rule n) refl
  where
    by : (b : Bool) → nat_eq rule n ≡ b → P rule
    by true q = let same : n ≡ rule = grind (arith, nat_tests) in subst P same p
    by false q = h rule (grind (arith, nat_tests))

pub length_bodies : {Z : Type 0} (rules : List (Vec Part Z)) → length (bodies_of rules) ≡ length rules
length_bodies [] = refl
length_bodies (body ∷ rules) = ap suc (length_bodies rules)

pub absent-empty : {Z : Type 0} (rules : List (Vec Part Z)) (rule : ℕ) → length rules ≤ rule → body_of (bodies_of rules) rule ≡ []
absent-empty rules rule h = get_or_past (bodies_of rules) rule [] (omega (arith, length_bodies rules, h))

pub never-rise : {Z : Type 0} (labels : List ℕ) (rules : List (Vec Part Z)) (n : ℕ) → length rules ≤ n →
    ((rule : ℕ) → rule < n → all_fall labels (label_of labels rule) (body_of (bodies_of rules) rule) ≡ true)
    → NeverRise labels (bodies_of rules)
never-rise labels rules n h below = λ rule. by rule (nat_lt rule n) refl
  where
    by : (rule : ℕ) (b : Bool) → nat_lt rule n ≡ b → all_fall labels (label_of labels rule) (body_of (bodies_of rules) rule) ≡ true
    by rule true q = below rule (grind (arith, nat_tests))
    by rule false q = ap (all_fall labels (label_of labels rule)) (absent-empty rules rule (let l : n ≤ rule = grind (arith, nat_tests) in omega (arith, l, h)))

pub none-before-all : {Z : Type 0} (test : ℕ → Part → Bool) (rules : List (Vec Part Z)) (n : ℕ) → length rules ≤ n → NoneBefore test (bodies_of rules) n →
    NoneBefore test (bodies_of rules) (length (bodies_of rules))
none-before-all test rules n h none = λ rule l. none rule (omega (arith, length_bodies rules, h, l))

-- Labels

module _ (labels : List ℕ) (rules : List (List Part)) (fall : NeverRise labels rules) (goal : ℕ) where
  apart : (other : ℕ) → label_of labels other < label_of labels goal → nat_eq other goal ≡ false
  apart other h = elim (bool_cases (nat_eq other goal)) [
    | inl same ↦ let e : label_of labels other ≡ label_of labels goal = ap (label_of labels) (let s : other ≡ goal = grind (arith, nat_tests) in s) in
        absurd (omega (arith, e, h))
    | inr differs ↦ differs
  ]

  lower : (other own : ℕ) → nat_le (label_of labels other) own ≡ true → own < label_of labels goal → label_of labels other < label_of labels goal
  lower other own e h = grind (arith, nat_tests)

  none-lead : (f : ℕ → Bool) → ((x : ℕ) → label_of labels x < label_of labels goal → f x ≡ false) → (own : ℕ) → own < label_of labels goal → (parts : List Part)
      → all_fall labels own parts ≡ true
      → list_any (part_leads f goal) parts ≡ false
  none-lead f h own l [] e = refl
  none-lead f h own l (Own thing ∷ parts) e = none-lead f h own l parts e
  none-lead f h own l (Puts other ∷ parts) e =
      let below : label_of labels other < label_of labels goal =
      lower other own (and-left (nat_le (label_of labels other) own) (all_fall labels own parts) e) l in
      or-none (nat_eq other goal || f other) (list_any (part_leads f goal) parts) (or-none (nat_eq other goal) (f other) (apart other below) (h other below))
      (none-lead f h own l parts (and-right (nat_le (label_of labels other) own) (all_fall labels own parts) e))

  leads-false : (depth rule : ℕ) → label_of labels rule < label_of labels goal → leads_within depth rules goal rule ≡ false
  leads-false zero rule h = refl
  leads-false (suc depth) rule h = none-lead (leads_within depth rules goal) (leads-false depth) (label_of labels rule) h (body_of rules rule) (fall rule)

  strictly : (other : ℕ) → nat_le (label_of labels other) (label_of labels goal) ≡ true → nat_eq (label_of labels other) (label_of labels goal) ≡ false →
      label_of labels other < label_of labels goal
  strictly other e n = grind (arith, nat_tests)

  -- where no part is level, none leads back
  back-none : (parts : List Part) → all_fall labels (label_of labels goal) parts ≡ true → list_any (is_level labels (label_of labels goal)) parts ≡ false →
      list_any (is_back rules goal) parts ≡ false
  back-none [] e n = refl
  back-none (Own thing ∷ parts) e n = back-none parts e n
  back-none (Puts other ∷ parts) e n =
      let below : label_of labels other < label_of labels goal =
      strictly other (and-left (nat_le (label_of labels other) (label_of labels goal)) (all_fall labels (label_of labels goal) parts) e)
      (or-left (nat_eq (label_of labels other) (label_of labels goal)) (list_any (is_level labels (label_of labels goal)) parts) n) in
      or-none (nat_eq other goal || leads_within (length rules) rules goal other) (list_any (is_back rules goal) parts)
      (or-none (nat_eq other goal) (leads_within (length rules) rules goal other) (apart other below) (leads-false (length rules) other below))
      (back-none parts (and-right (nat_le (label_of labels other) (label_of labels goal)) (all_fall labels (label_of labels goal) parts) e)
      (or-right (nat_eq (label_of labels other) (label_of labels goal)) (list_any (is_level labels (label_of labels goal)) parts) n))

all-take : {A : Type 0} (test : A → Bool) (k : ℕ) (xs : List A) → list_all test xs ≡ true → list_all test (take k xs) ≡ true
all-take test zero xs e = refl
all-take test (suc k) [] e = refl
all-take test (suc k) (x ∷ xs) e = and-both (test x) (list_all test (take k xs)) (and-left (test x) (list_all test xs) e)
    (all-take test k xs (and-right (test x) (list_all test xs) e))

pub level-none : (labels : List ℕ) (rules : List (List Part)) → NeverRise labels rules → (n : ℕ) → NoneBefore (level_test labels) rules n →
    NoneBefore (is_back rules) rules n
level-none labels rules fall n none = λ rule l. back-none labels rules fall rule (body_of rules rule) (fall rule) (none rule l)

pub level-some : (labels : List ℕ) (rules : List (List Part)) (spot : Spot) → NeverRise labels rules → FirstSpot (level_test labels) rules spot →
    IsBackAt rules spot → FirstSpot (is_back rules) rules spot
level-some labels rules spot fall first back = record {
  part = record {
    part = back.part;
    there = back.there;
    passes = back.back;
    first = back-none labels rules fall spot.rule (take spot.part (body_of rules spot.rule))
        (all-take (falls_to labels (label_of labels spot.rule)) spot.part (body_of rules spot.rule) (fall spot.rule)) first.part.first;
  };
  rule = level-none labels rules fall spot.rule first.rule;
}

-- A way

any-puts : (f : ℕ → Bool) (goal step : ℕ) (parts : List Part) → puts_rule step parts ≡ true → (nat_eq step goal || f step) ≡ true →
    list_any (part_leads f goal) parts ≡ true
any-puts f goal step [] e t = absurd (true≢false (sym e))
any-puts f goal step (Own thing ∷ parts) e t = any-puts f goal step parts e t
any-puts f goal step (Puts other ∷ parts) e t = elim (bool_cases (nat_eq other step)) [
  | inl same ↦ or-first (nat_eq other goal || f other) (list_any (part_leads f goal) parts) (let s : step ≡ other = grind (arith, nat_tests) in
      subst (λ x. (nat_eq x goal || f x) ≡ true) s t)
  | inr differs ↦ or-second (nat_eq other goal || f other) (list_any (part_leads f goal) parts)
      (any-puts f goal step parts (ap (λ b. b || puts_rule step parts) (sym differs) ∙ e) t)
]

along-by : (b rest : Bool) → (elim b as (λ _. Bool) [ true ↦ rest | false ↦ false ]) ≡ true → (b ≡ true) × (rest ≡ true)
along-by true rest e = (refl, e)
along-by false rest e = cc

along-leads : (rules : List (List Part)) (goal from : ℕ) (steps : List ℕ) → leads_along rules goal from steps ≡ true →
    (nat_eq from goal || leads_within (length steps) rules goal from) ≡ true
along-leads rules goal from [] e = or-first (nat_eq from goal) false e
along-leads rules goal from (step ∷ steps) e =
    let h = along-by (puts_rule step (body_of rules from)) (leads_along rules goal step steps) e in
    or-second (nat_eq from goal) (leads_within (suc (length steps)) rules goal from)
    (any-puts (leads_within (length steps) rules goal) goal step (body_of rules from) h.0 (along-leads rules goal step steps h.1))

leads-more : (f g : ℕ → Bool) (goal : ℕ) → ((x : ℕ) → f x ≡ true → g x ≡ true) → (parts : List Part) → list_any (part_leads f goal) parts ≡ true →
    list_any (part_leads g goal) parts ≡ true
leads-more f g goal h [] e = e
leads-more f g goal h (Own thing ∷ parts) e = leads-more f g goal h parts e
leads-more f g goal h (Puts other ∷ parts) e = elim (bool_cases (nat_eq other goal)) [
  | inl same ↦ or-first (nat_eq other goal || g other) (list_any (part_leads g goal) parts) (or-first (nat_eq other goal) (g other) same)
  | inr differs ↦ elim (bool_cases (f other)) [
    | inl leads ↦ or-first (nat_eq other goal || g other) (list_any (part_leads g goal) parts) (or-second (nat_eq other goal) (g other) (h other leads))
    | inr none ↦ or-second (nat_eq other goal || g other) (list_any (part_leads g goal) parts)
        (leads-more f g goal h parts (ap (λ b. b || list_any (part_leads f goal) parts) (sym (or-none (nat_eq other goal) (f other) differs none)) ∙ e))
  ]
]

leads-le : (d e : ℕ) → d ≤ e → (rules : List (List Part)) (goal rule : ℕ) → leads_within d rules goal rule ≡ true → leads_within e rules goal rule ≡ true
leads-le zero e h rules goal rule t = absurd (true≢false (sym t))
leads-le (suc d) zero h rules goal rule t = absurd (omega (arith, h))
leads-le (suc d) (suc e) h rules goal rule t = leads-more (leads_within d rules goal) (leads_within e rules goal) goal
    (λ x. leads-le d e (omega (arith, h)) rules goal x) (body_of rules rule) t

pub along-back : (rules : List (List Part)) (goal from n : ℕ) (steps : List ℕ) → n ≡ length rules → length steps ≤ n → leads_along rules goal from steps ≡ true
    → is_back rules goal (Puts from) ≡ true
along-back rules goal from n steps e h t = elim (bool_cases (nat_eq from goal)) [
  | inl same ↦ or-first (nat_eq from goal) (leads_within (length rules) rules goal from) same
  | inr differs ↦ or-second (nat_eq from goal) (leads_within (length rules) rules goal from)
      (leads-le (length steps) (length rules) (omega (arith, e, h)) rules goal from (ap (λ b. b || leads_within (length steps) rules goal from) (sym differs) ∙
      along-leads rules goal from steps t))
]

pub same-back : (rules : List (List Part)) (goal from : ℕ) → nat_eq from goal ≡ true → is_back rules goal (Puts from) ≡ true
same-back rules goal from e = or-first (nat_eq from goal) (leads_within (length rules) rules goal from) e

-- Rows

leads-same : (f g : ℕ → Bool) (goal : ℕ) → ((x : ℕ) → f x ≡ g x) → (part : Part) → part_leads f goal part ≡ part_leads g goal part
leads-same f g goal h (Own thing) = refl
leads-same f g goal h (Puts other) = ap (λ b. nat_eq other goal || b) (h other)

any-same : {A : Type 0} (p q : A → Bool) → ((x : A) → p x ≡ q x) → (xs : List A) → list_any p xs ≡ list_any q xs
any-same p q h [] = refl
any-same p q h (x ∷ xs) = ap (λ b. b || list_any p xs) (h x) ∙ ap (λ b. q x || b) (any-same p q h xs)

map-get : (f : List Part → Bool) (rules : List (List Part)) (rule : ℕ) → f [] ≡ false → get_or (map f rules) rule false ≡ f (body_of rules rule)
map-get f [] rule e = sym e
map-get f (body ∷ rules) zero e = refl
map-get f (body ∷ rules) (suc rule) e = map-get f rules rule e

row-is : (depth : ℕ) (rules : List (List Part)) (goal rule : ℕ) → leads_in (row_of depth rules goal) rule ≡ leads_within depth rules goal rule
row-is zero rules goal rule = map-get (λ body. false) rules rule refl
row-is (suc depth) rules goal rule =
    map-get (any_leads (row_of depth rules goal) goal) rules rule refl
    ∙ any-same (part_leads (leads_in (row_of depth rules goal)) goal) (part_leads (leads_within depth rules goal) goal)
    (leads-same (leads_in (row_of depth rules goal)) (leads_within depth rules goal) goal (row-is depth rules goal)) (body_of rules rule)

row-back : (rules : List (List Part)) (goal : ℕ) (row : List Bool) → row ≡ row_of (length rules) rules goal → (part : Part) →
    part_leads (leads_in row) goal part ≡ is_back rules goal part
row-back rules goal row e part =
    ap (λ r. part_leads (leads_in r) goal part) e
    ∙ leads-same (leads_in (row_of (length rules) rules goal)) (leads_within (length rules) rules goal) goal (row-is (length rules) rules goal) part

first-same : (p q : Part → Bool) → ((x : Part) → p x ≡ q x) → (parts : List Part) (found : Option ℕ) → IsFirstIn p parts found → IsFirstIn q parts found
first-same p q h parts None e = sym (any-same p q h parts) ∙ e
first-same p q h parts (Some k) e = record {
  part = e.part;
  there = e.there;
  passes = sym (h e.part) ∙ e.passes;
  first = sym (any-same p q h (take k parts)) ∙
      e.first;
}

pub row-first : {Z : Type 0} (rules : List (Vec Part Z)) (goal : ℕ) (row : List Bool) (parts : List Part) (found : Option ℕ) →
    row ≡ row_of (length rules) (bodies_of rules) goal → parts ≡ body_of (bodies_of rules) goal
    → IsFirstIn (part_leads (leads_in row) goal) parts found → IsFirstIn (is_back (bodies_of rules) goal) (body_of (bodies_of rules) goal) found
row-first rules goal row parts found e b first =
    subst (λ xs. IsFirstIn (is_back (bodies_of rules) goal) xs found) b
    (first-same (part_leads (leads_in row) goal) (is_back (bodies_of rules) goal)
    (row-back (bodies_of rules) goal row (e ∙ ap (λ n. row_of n (bodies_of rules) goal) (sym (length_bodies rules)))) parts found first)

pub row_next : (depth : ℕ) (rules : List (List Part)) (goal : ℕ) → next_row (row_of depth rules goal) goal rules ≡ row_of (depth + 1) rules goal
row_next depth rules goal = ap (λ n. row_of n rules goal) (sym (add-one depth))

pub back-at : {E : Type 0} (result : Result Bool E) (rules : List (List Part)) (spot : Spot) (other : ℕ) →
    slice_get (body_of rules spot.rule) spot.part ≡ Some (Puts other)
    → IfOk result (λ b. b ≡ true → is_back rules spot.rule (Puts other) ≡ true) → IfOk result (λ b. b ≡ true → IsBackAt rules spot)
back-at (Ok b) rules spot other there back = λ t. record { part = Puts other; there = there; back = back t }
back-at (Err e) rules spot other there back = tt
