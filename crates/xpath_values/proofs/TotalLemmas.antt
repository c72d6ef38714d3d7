-- Sums and extremes of items that are read.
use Rattle.std.proofs.Common.{◌≡◌, ℕ, ◌+◌, ◌<◌, ◌≤◌, true, false, List, [], ◌∷◌, ◌++◌, length, map, drop, get_or, Result, Ok, Err, ℤ, pos, refl, ap, sym, ◌∙◌}
use Rattle.std.proofs.Common.{subst, append_assoc}
use Rattle.std.specs.List.{list_all}
use Rattle.std.proofs.lemmas.Bool.{false≢true}
use Rattle.std.proofs.lemmas.List.{append-nil, at_drop_all}
use Rattle.inv_decimal.specs.Arithmetic as d
use Rattle.inv_decimal.specs.declared.fault.Overflow.{Overflow}
use Rattle.xpath_items.specs.declared.fault.Fault.{Fault}
use Rattle.xpath_items.specs.declared.fault.Fault.TheVariants as v
use Rattle.xpath_items.specs.declared.item.Item.{Item}
use Rattle.xpath_items.specs.declared.item.Item.TheVariants as i
use Rattle.xpath_items.specs.declared.outcome.DynError.{DynError}
use Rattle.xpath_items.specs.declared.outcome.DynError.TheVariants as e
use Rattle.xpath_items.specs.Faults.{Gives}
use Rattle.xpath_meaning.specs.Values.{then_}
use Rattle.xpath_meaning.specs.Numbers.{number, in_range}
use Rattle.xpath_meaning.specs.Collections.{all_taken, untyped_read, summand, summed, sum}
use Rattle.xpath_operators.proofs.OrderLemmas.{then_assoc}
use Rattle.xpath_values.specs.Alike.{is_number, number_in, sum_of}
use Rattle.xpath_values.proofs.CharacterLemmas.{rest_at}

-- a list taken member by member

abbrev behind : {Y : Type 0} → List Y → Result (List Y) DynError → Result (List Y) DynError
behind out r = then_ r (λ ys. Ok (out ++ ys))

one_behind : {Y : Type 0} (out : List Y) (y : Y) (r : Result (List Y) DynError) → behind out (then_ r (λ ys. Ok (y ∷ ys))) ≡ behind (out ++ y ∷ []) r
one_behind out y (Ok ys) = ap Ok (sym (append_assoc out (y ∷ []) ys))
one_behind out y (Err error) = refl

taken_step : {X Y : Type 0} (f : X → Result Y DynError) (xs : List X) (k : ℕ) (x : X) → k < length xs → x ≡ get_or xs k x →
    all_taken f (drop k xs) ≡ then_ (f x) (λ y. then_ (all_taken f (drop (k + 1) xs)) (λ ys. Ok (y ∷ ys)))
taken_step f xs k x l at = ap (all_taken f) (rest_at xs k x (l, at))

pub taken_more : {X Y : Type 0} (f : X → Result Y DynError) (xs : List X) (k : ℕ) (x : X) (y : Y) (out grown : List Y) → k < length xs → x ≡ get_or xs k x
    → behind out (all_taken f (drop k xs)) ≡ all_taken f xs → f x ≡ Ok y → grown ≡ out ++ y ∷ [] → behind grown (all_taken f (drop (k + 1) xs)) ≡ all_taken f xs
taken_more f xs k x y out grown l at h g e =
    ap (λ t. behind t (all_taken f (drop (k + 1) xs))) e
    ∙ (sym (one_behind out y (all_taken f (drop (k + 1) xs)))
    ∙ (sym (ap (behind out) (taken_step f xs k x l at ∙ ap (λ r. then_ r (λ z. then_ (all_taken f (drop (k + 1) xs)) (λ ys. Ok (z ∷ ys)))) g)) ∙ h))

pub taken_erred : {X Y : Type 0} (f : X → Result Y DynError) (xs : List X) (k : ℕ) (x : X) (out : List Y) (fault : Fault) → k < length xs → x ≡ get_or xs k x
    → behind out (all_taken f (drop k xs)) ≡ all_taken f xs → Gives (Err fault) (f x) → Gives (Err fault) (all_taken f xs)
taken_erred f xs k x out v.Memory l at h g = tt
taken_erred f xs k x out (v.Error error) l at h g =
    sym h ∙ ap (behind out) (taken_step f xs k x l at ∙ ap (λ r. then_ r (λ z. then_ (all_taken f (drop (k + 1) xs)) (λ ys. Ok (z ∷ ys)))) g)

pub taken_end : {X Y : Type 0} (f : X → Result Y DynError) (xs : List X) (k : ℕ) (out : List Y) → length xs ≤ k →
    behind out (all_taken f (drop k xs)) ≡ all_taken f xs → all_taken f xs ≡ Ok out
taken_end f xs k out l h = sym h ∙ (at_drop_all (λ x. behind out (all_taken f x)) xs k l ∙ ap Ok (append-nil out))

behind_none : {Y : Type 0} (r : Result (List Y) DynError) → behind [] r ≡ r
behind_none (Ok ys) = refl
behind_none (Err error) = refl

pub taken_start : {X Y : Type 0} (f : X → Result Y DynError) (xs : List X) (out : List Y) → out ≡ [] → behind out (all_taken f xs) ≡ all_taken f xs
taken_start f xs out e = ap (λ t. behind t (all_taken f xs)) e ∙ behind_none (all_taken f xs)

-- numbers

numbers_taken : (items : List Item) → list_all is_number items ≡ true → all_taken summand items ≡ Ok (map number_in items)
numbers_taken [] h = refl
numbers_taken (i.Node n ∷ items) h = absurd (false≢true h)
numbers_taken (i.Boolean b ∷ items) h = absurd (false≢true h)
numbers_taken (i.Number z ∷ items) h = ap (λ r. then_ r (λ ys. Ok (z ∷ ys))) (numbers_taken items h)
numbers_taken (i.String s ∷ items) h = absurd (false≢true h)
numbers_taken (i.Untyped s ∷ items) h = absurd (false≢true h)
numbers_taken (i.Date day ∷ items) h = absurd (false≢true h)

numbers_refused : (items : List Item) → list_all is_number items ≡ false → all_taken summand items ≡ Err e.FORG0006
numbers_refused [] h = absurd (false≢true (sym h))
numbers_refused (i.Node n ∷ items) h = refl
numbers_refused (i.Boolean b ∷ items) h = refl
numbers_refused (i.Number z ∷ items) h = ap (λ r. then_ r (λ ys. Ok (z ∷ ys))) (numbers_refused items h)
numbers_refused (i.String s ∷ items) h = refl
numbers_refused (i.Untyped s ∷ items) h = refl
numbers_refused (i.Date day ∷ items) h = refl

pub sum_summed : (items : List Item) → true ≡ list_all is_number items → summed (pos 0) (map number_in items) ≡ sum_of items
sum_summed items h = sym (ap (λ r. then_ r (λ numbers. summed (pos 0) numbers)) (numbers_taken items (sym h)))

pub sum_refused : (items : List Item) → false ≡ list_all is_number items → Err e.FORG0006 ≡ sum_of items
sum_refused items h = sym (ap (λ r. then_ r (λ numbers. summed (pos 0) numbers)) (numbers_refused items (sym h)))

summed_step : (total : ℤ) (items : List Item) (k : ℕ) (x : Item) → k < length items → x ≡ get_or items k x
    → summed total (map number_in (drop k items)) ≡ then_ (in_range (d.sum_of total (number_in x))) (λ next. summed next (map number_in (drop (k + 1) items)))
summed_step total items k x l at = ap (λ t. summed total (map number_in t)) (rest_at items k x (l, at))

pub summed_more : (items : List Item) (k : ℕ) (x : Item) (total z next : ℤ) (added : Result ℤ Overflow) (whole : Result ℤ DynError) → k < length items →
    x ≡ get_or items k x
    → summed total (map number_in (drop k items)) ≡ whole → z ≡ number_in x → added ≡ d.sum_of total z → Ok next ≡ in_range added →
    summed next (map number_in (drop (k + 1) items)) ≡ whole
summed_more items k x total z next added whole l at h ez ea en =
    ap (λ r. then_ r (λ n. summed n (map number_in (drop (k + 1) items)))) (en ∙ ap in_range (ea ∙ ap (d.sum_of total) ez)) ∙
    (sym (summed_step total items k x l at) ∙ h)

pub summed_erred : (items : List Item) (k : ℕ) (x : Item) (total z : ℤ) (error : DynError) (added : Result ℤ Overflow) (whole : Result ℤ DynError) →
    k < length items → x ≡ get_or items k x
    → summed total (map number_in (drop k items)) ≡ whole → z ≡ number_in x → added ≡ d.sum_of total z → Err error ≡ in_range added → Err error ≡ whole
summed_erred items k x total z error added whole l at h ez ea en =
    ap (λ r. then_ r (λ n. summed n (map number_in (drop (k + 1) items)))) (en ∙ ap in_range (ea ∙ ap (d.sum_of total) ez)) ∙
    (sym (summed_step total items k x l at) ∙ h)

pub sum_goes : (items read : List Item) (r : Result (List Item) Fault) → all_taken untyped_read items ≡ Ok read → Gives r (number (sum_of read)) →
    Gives r (sum items)
sum_goes items read r e g =
    subst (Gives r) (sym (ap (λ t. then_ t (λ xs. then_ (all_taken summand xs) (λ numbers. number (summed (pos 0) numbers)))) e ∙
    then_assoc (all_taken summand read) (λ numbers. summed (pos 0) numbers) (λ z. Ok (i.Number z ∷ [])))) g
