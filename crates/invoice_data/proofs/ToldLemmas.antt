-- What is told one behind the other.
use Rattle.std.proofs.Common.{◌≡◌, ℕ, suc, ◌+◌, ◌<◌, ◌≤◌, List, [], ◌∷◌, ◌++◌, append_assoc, append-nil, refl, sym, ap, ◌∙◌, map, drop, length, get_or, arith, length-append}
use Rattle.std.proofs.Math.Seq.{drop-cons, drop-append_seam}
use Rattle.std.proofs.lemmas.List.{drop_all}
use Rattle.invoice_data.specs.declared.faults.DataFault.{DataFault}
use Rattle.invoice_data.specs.declared.telling.Found.{Found}
use Rattle.invoice_data.specs.Told.{Told, nothing, both, one_fault}

pub both_assoc : (a b c : Told) → both (both a b) c ≡ both a (both b c)
unfolding both
both_assoc a b c = λ i. record { founds = append_assoc a.founds b.founds c.founds i; faults = append_assoc a.faults b.faults c.faults i }

pub both_nothing : (a : Told) → both a nothing ≡ a
unfolding both
both_nothing a = λ i. record { founds = append-nil a.founds i; faults = append-nil a.faults i }

pub same_both : (a : Told) → a ≡ both a nothing
same_both a = sym (both_nothing a)

pub nothing_both : (a : Told) → both nothing a ≡ a
unfolding both
nothing_both a = refl

-- what was told, of which the lists are given, and more
pub put : (a b : Told) (founds : List Found) (faults : List DataFault) → founds ≡ a.founds ++ b.founds → faults ≡ a.faults ++ b.faults
    → record { founds = founds; faults = faults } ≡ both a b
unfolding both
put a b founds faults e f = λ i. record { founds = e i; faults = f i }

pub fault_and_more : (a : Told) (fault : DataFault) (faults : List DataFault)
    → both (both a (one_fault fault)) (record { founds = []; faults = faults }) ≡ both a (record { founds = []; faults = fault ∷ faults })
unfolding both
fault_and_more a fault faults = both_assoc a (one_fault fault) (record { founds = []; faults = faults })

-- ---- steps of loops

-- one thing more is told, and the rest is still to come
pub told_more : (before after x y all : Told) → after ≡ both before x → both before (both x y) ≡ all → both after y ≡ all
told_more before after x y all e h = ap (λ t. both t y) e ∙ (both_assoc before x y ∙ h)

-- nothing is left to come
pub told_all : (told all : Told) → both told nothing ≡ all → told ≡ all
told_all told all h = same_both told ∙ h

dropped : {X : Type 0} (xs : List X) (i : ℕ) (x : X) → i < length xs → x ≡ get_or xs i x → drop i xs ≡ x ∷ drop (i + 1) xs
dropped xs i x within item =
    let next : suc i ≡ i + 1 = omega arith in
    drop-cons xs i x within ∙ (ap (λ y. y ∷ drop (suc i) xs) (sym item) ∙ ap (λ k. x ∷ drop k xs) next)

-- one more of the faults of a list
pub next_fault : {X : Type 0} (f : X → DataFault) (xs : List X) (i : ℕ) (x : X) (fault : DataFault) (before after all : Told) → i < length xs
    → x ≡ get_or xs i x → fault ≡ f x → after ≡ both before (one_fault fault) → both before (record { founds = []; faults = map f (drop i xs) }) ≡ all
    → both after (record { founds = []; faults = map f (drop (i + 1) xs) }) ≡ all
next_fault f xs i x fault before after all within item is put h =
    ap (λ t. both t (record { founds = []; faults = map f (drop (i + 1) xs) })) (put ∙ ap (λ one. both before (one_fault one)) is)
    ∙ (fault_and_more before (f x) (map f (drop (i + 1) xs))
    ∙ (ap (λ rest. both before (record { founds = []; faults = map f rest })) (sym (dropped xs i x within item)) ∙ h))

pub no_fault_left : {X : Type 0} (f : X → DataFault) (xs : List X) (i : ℕ) (told all : Told) → length xs ≤ i
    → both told (record { founds = []; faults = map f (drop i xs) }) ≡ all → told ≡ all
no_fault_left f xs i told all past h =
    told_all told all (sym (ap (λ rest. both told (record { founds = []; faults = map f rest })) (drop_all i xs past)) ∙ h)

-- ---- what was found

pub within_both : (t x after : Told) (n : ℕ) → n ≡ length t.founds → after ≡ both t x → n ≤ length after.founds
unfolding both
within_both t x after n e put =
    let whole = ap (λ (told : Told). length told.founds) put in
    let parts = length-append t.founds x.founds in
    omega arith

pub found_behind : (t x after : Told) (n : ℕ) → n ≡ length t.founds → after ≡ both t x → drop n after.founds ≡ x.founds
unfolding both
found_behind t x after n e put =
    ap (λ k. drop k after.founds) e ∙ (ap (λ (told : Told). drop (length t.founds) told.founds) put ∙ drop-append_seam t.founds x.founds)
