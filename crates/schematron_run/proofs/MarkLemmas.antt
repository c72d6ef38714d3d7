-- A table that keeps the first number of each node.
use Rattle.std.proofs.Common.{◌≡◌, ℕ, ◌+◌, ◌<◌, ◌≤◌, Bool, true, false, ⊎_elim, List, [], ◌∷◌, ◌++◌, length, set, drop, get_or, Option, Some, None, refl, ap}
use Rattle.std.proofs.Common.{sym, subst, ◌∙◌}
use Rattle.std.specs.Prelude.{◌==◌, ◌||◌}
use Rattle.std.proofs.lemmas.Bool.{cases_Bool, cases_lt, eqb-true, eq-eqb, false≢true, true≢false}
use Rattle.std.proofs.lemmas.List.{get_or-set_same, get_or-set_other, get_or_past, drop_all}
use Rattle.inv_base.specs.Tree.{is_among}
use Rattle.xpath_marks.proofs.AmongLemmas.{among_both}
use Rattle.schematron_run.specs.Firsts.{entry, given, first_there, is_there, AreTouched, AreBelow, IsClear, Marked}
use Rattle.schematron_run.proofs.ListLemmas.{drop_item}

pub there_first : (o : Option ℕ) → first_there o None ≡ o
there_first None = refl
there_first (Some k) = refl

pub firsts_assoc : (a b c : Option ℕ) → first_there (first_there a b) c ≡ first_there a (first_there b c)
firsts_assoc None b c = refl
firsts_assoc (Some k) b c = refl

-- what is kept of a node once another is marked
pub marked_elsewhere : (table : List (Option ℕ)) (n m : ℕ) (v : Option ℕ) → (m == n) ≡ false → entry (set table n v) m ≡ entry table m
marked_elsewhere table n m v other = get_or-set_other table n m v None (λ e. false≢true (sym other ∙ eq-eqb m n e))

pub marked_here : (table : List (Option ℕ)) (n m : ℕ) (v : Option ℕ) → n < length table → (m == n) ≡ true → entry (set table n v) m ≡ v
marked_here table n m v l same = subst (λ k. entry (set table n v) k ≡ v) (sym (eqb-true m n same)) (get_or-set_same table n v None l)

-- a node of which nothing was kept is one of those of which something is
pub touches : (table : List (Option ℕ)) (touched touched' : List ℕ) (n rule : ℕ) → n < length table → AreTouched table touched → touched' ≡ touched ++ n ∷ []
    → AreTouched (set table n (Some rule)) touched'
touches table touched touched' n rule l h e m =
    ap (is_among m) e ∙ (among_both m touched (n ∷ []) ∙ ⊎_elim
    (λ (same : (m == n) ≡ true). ap (λ b. is_among m touched || (b || false)) same ∙
    (or_true (is_among m touched) ∙ sym (ap is_there (marked_here table n m (Some rule) l same))))
    (λ (other : (m == n) ≡ false). ap (λ b. is_among m touched || (b || false)) other ∙
    (or_false (is_among m touched) ∙ (h m ∙ sym (ap is_there (marked_elsewhere table n m (Some rule) other)))))
    (cases_Bool (m == n)))
  where
    or_true : (b : Bool) → (b || true) ≡ true
    or_true true = refl
    or_true false = refl

    or_false : (b : Bool) → (b || false) ≡ b
    or_false true = refl
    or_false false = refl

-- marks one after the other

twice : (o : Option ℕ) (a b : Bool) (k : ℕ) → first_there (first_there o (given (a || false) k)) (given b k) ≡ first_there o (given (a || b) k)
twice (Some n) a b k = refl
twice None true b k = refl
twice None false b k = refl

pub marked_next : (marks : List ℕ) (i n rule : ℕ) (t0 t1 t2 : List (Option ℕ)) → n ≡ get_or marks i n → i < length marks → Marked (n ∷ []) rule t1 t2
    → ((new : List (Option ℕ)) → Marked (drop i marks) rule t1 new → Marked marks rule t0 new)
    → (new : List (Option ℕ)) → Marked (drop (i + 1) marks) rule t2 new → Marked marks rule t0 new
marked_next marks i n rule t0 t1 t2 at l one ahead new rest = ahead new (λ m.
    rest m
    ∙ (ap (λ o. first_there o (given (is_among m (drop (i + 1) marks)) rule)) (one m)
    ∙ (twice (entry t1 m) (m == n) (is_among m (drop (i + 1) marks)) rule
    ∙ ap (λ ns. first_there (entry t1 m) (given (is_among m ns) rule)) (sym (drop_item marks i n at l)))))

pub marked_all : (marks : List ℕ) (i rule : ℕ) (t0 t1 : List (Option ℕ)) → length marks ≤ i
    → ((new : List (Option ℕ)) → Marked (drop i marks) rule t1 new → Marked marks rule t0 new) → Marked marks rule t0 t1
marked_all marks i rule t0 t1 l ahead = ahead t1 (λ m.
    sym (ap (λ ns. first_there (entry t1 m) (given (is_among m ns) rule)) (drop_all i marks l) ∙ there_first (entry t1 m)))

-- a table that is cleared

pub nothing_there : (o : Option ℕ) → is_there o ≡ false → o ≡ None
nothing_there None e = refl
nothing_there (Some k) e = absurd (true≢false e)

pub clear_begin : (table : List (Option ℕ)) (touched : List ℕ) → AreTouched table touched → (n : ℕ) → is_among n touched ≡ false → entry table n ≡ None
clear_begin table touched h n other = nothing_there (entry table n) (sym (h n) ∙ other)

pub clear_next : (table : List (Option ℕ)) (touched : List ℕ) (i n : ℕ) → n ≡ get_or touched i n → i < length touched → n < length table
    → ((m : ℕ) → is_among m (drop i touched) ≡ false → entry table m ≡ None)
    → (m : ℕ) → is_among m (drop (i + 1) touched) ≡ false → entry (set table n None) m ≡ None
clear_next table touched i n at l within h m passed = ⊎_elim
    (λ (same : (m == n) ≡ true). marked_here table n m None within same)
    (λ (other : (m == n) ≡ false).
    marked_elsewhere table n m None other
    ∙ h m (ap (is_among m) (drop_item touched i n at l) ∙ (ap (λ b. b || is_among m (drop (i + 1) touched)) other ∙ passed)))
    (cases_Bool (m == n))

pub clear_end : (table : List (Option ℕ)) (touched : List ℕ) (i : ℕ) → length touched ≤ i
    → ((m : ℕ) → is_among m (drop i touched) ≡ false → entry table m ≡ None) → IsClear table
clear_end table touched i l h m = h m (ap (is_among m) (drop_all i touched l))

-- Only places of the table keep something.
pub kept_within : (table : List (Option ℕ)) (touched : List ℕ) → AreTouched table touched → AreBelow (length table) touched
kept_within table touched h n e = ⊎_elim
    (λ (l : n < length table). l)
    (λ (past : length table ≤ n). absurd (false≢true (sym (ap is_there (get_or_past table n None past)) ∙ (sym (h n) ∙ e))))
    (cases_lt n (length table))
