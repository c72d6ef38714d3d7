-- Numbers that stop: they pass where the true ones do, and what the rules of elements come to.
use Rattle.std.proofs.Common.{◌≡◌, ℕ, zero, suc, ◌+◌, ◌<◌, Bool, true, false, ◌&&◌, ◌||◌, cond, List, [], ◌∷◌, ◌++◌, map, length, take, drop, get_or, Option}
use Rattle.std.proofs.Common.{Some, None, refl, ap, sym, ◌∙◌, append-nil, length-append, arith}
use Rattle.std.specs.Prelude.{nat_eq, nat_le, nat_lt, filter, sum_by}
use Rattle.std.proofs.lemmas.List.Sums.{sum_by_push}
use Rattle.std.proofs.lemmas.Bool.Decides.{nat_tests}
use Rattle.schematron_graph.specs.Counts.{last_count}
use Rattle.schematron_meaning.specs.Entries.{Entry}
use Rattle.schematron_meaning.specs.Lookup.{is_own_rule, inside}
use Rattle.schematron_meaning.specs.Expansion.{File}
use Rattle.schematron_meaning.specs.Counts.{Tally, no_tally, added, assertions_of, tally_of, passes, passes_any, most_patterns, most_rules, most_assertions}
use Rattle.schematron_meaning.specs.declared.fault.RuleKind.TheVariants as k
use Rattle.schematron_meaning.specs.Showing.{fault, when}
use Rattle.schematron_meaning.specs.Faults.{too_many}
use Rattle.schematron_entries.specs.declared.entry.Entry.{Entry as Read}
use Rattle.schematron_entries.specs.Seen.{seen_entry, seen_entries}
use Rattle.schematron_expansion.specs.declared.found.Found.{Found}
use Rattle.schematron_expansion.specs.Found.{first_at, first_or}
use Rattle.schematron_faults.specs.declared.sizes.Size.{Size}
use Rattle.schematron_faults.specs.Passing.{passing_behind, first_passing}
use Rattle.schematron_faults.specs.Stopped.{stop, stopped, passing_stopped, size_in, size_found, AreSizes, grown, grown_if, is_rule_in, AddsRule, too_many_at}

-- Numbers that stop

pub stop-added : (a b : ℕ) → stop (stop a + stop b) ≡ stop (a + b)
stop-added a b = omega arith

pub stop-more : (a b : ℕ) → stop (stop a + b) ≡ stop (a + b)
stop-more a b = omega arith

at_most : (n limit : ℕ) → limit < last_count → nat_le (stop n) limit ≡ nat_le n limit
at_most n limit h = grind (arith, nat_tests)

more_than : (n limit : ℕ) → limit < last_count → nat_lt limit (stop n) ≡ nat_lt limit n
more_than n limit h = grind (arith, nat_tests)

-- A number that stops passes a limit where the true one does.
passes-stopped : (limit before after : ℕ) → limit < last_count → passes limit (stop before) (stop after) ≡ passes limit before after
passes-stopped limit before after h = ap (λ b. b && nat_lt limit (stop after)) (at_most before limit h) ∙
    ap (λ b. nat_le before limit && b) (more_than after limit h)

any-stopped : (before after : Tally) → passes_any (stopped before) (stopped after) ≡ passes_any before after
any-stopped before after =
    ap (λ b. b || (passes most_rules (stop before.rules) (stop after.rules) || passes most_assertions (stop before.assertions) (stop after.assertions)))
    (passes-stopped most_patterns before.patterns after.patterns (omega arith))
    ∙ (ap (λ b. passes most_patterns before.patterns after.patterns || (b || passes most_assertions (stop before.assertions) (stop after.assertions)))
    (passes-stopped most_rules before.rules after.rules (omega arith))
    ∙ ap (λ b. passes most_patterns before.patterns after.patterns || (passes most_rules before.rules after.rules || b))
    (passes-stopped most_assertions before.assertions after.assertions (omega arith)))

added-stopped : (t u : Tally) → stopped (added (stopped t) (stopped u)) ≡ stopped (added t u)
added-stopped t u =
    ap (λ n. record { patterns = n; rules = stop (stop t.rules + stop u.rules); assertions = stop (stop t.assertions + stop u.assertions) })
    (stop-added t.patterns u.patterns)
    ∙ (ap (λ n. record { patterns = stop (t.patterns + u.patterns); rules = n; assertions = stop (stop t.assertions + stop u.assertions) })
    (stop-added t.rules u.rules)
    ∙ ap (λ n. record { patterns = stop (t.patterns + u.patterns); rules = stop (t.rules + u.rules); assertions = n }) (stop-added t.assertions u.assertions))

-- The first element is the same, whether numbers stop or not.
pub stopped-behind : (file : File) (before : Tally) (es : List Entry) → passing_stopped file (stopped before) es ≡ passing_behind file before es
stopped-behind file before [] = refl
stopped-behind file before (e ∷ es) =
    ap (λ after. first_or (first_at e.number (too_many (stopped before) after e)) (passing_stopped file after es)) (added-stopped before (tally_of file e))
    ∙ (ap (λ b. first_or (first_at e.number (when b (fault k.TooMany None e))) (passing_stopped file (stopped (added before (tally_of file e))) es))
    (any-stopped before (added before (tally_of file e)))
    ∙ ap (first_or (first_at e.number (too_many before (added before (tally_of file e)) e))) (stopped-behind file (added before (tally_of file e)) es))

-- One entry more

one_later : (n : ℕ) → suc (n + 1) ≡ suc n + 1
one_later n = omega arith

pub drop-seen : (entries : List Read) (at : ℕ) (e : Read) → at < length entries → e ≡ get_or entries at e →
    drop at (seen_entries entries) ≡ seen_entry e ∷ drop (at + 1) (seen_entries entries)
drop-seen [] at e h g = absurd (omega (arith, h))
drop-seen (x ∷ entries) zero e h g = ap (λ y. seen_entry y ∷ seen_entries entries) (sym g)
drop-seen (x ∷ entries) (suc at) e h g = drop-seen entries at e (omega (arith, h)) g ∙
    ap (λ n. seen_entry e ∷ drop n (seen_entries (x ∷ entries))) (one_later at)

pub mapped : {A : Type 0} (f : Entry → A) (d : A) (entries : List Read) (at : ℕ) (e : Read) → at < length entries → e ≡ get_or entries at e →
    get_or (map f (seen_entries entries)) at d ≡ f (seen_entry e)
mapped f d [] at e h g = absurd (omega (arith, h))
mapped f d (x ∷ entries) zero e h g = ap (λ y. f (seen_entry y)) (sym g)
mapped f d (x ∷ entries) (suc at) e h g = mapped f d entries at e (omega (arith, h)) g

pub length-mapped : {A : Type 0} (f : Entry → A) (entries : List Read) → length (map f (seen_entries entries)) ≡ length entries
length-mapped f [] = refl
length-mapped f (x ∷ entries) = ap suc (length-mapped f entries)

take-seen : (entries : List Read) (at : ℕ) (e : Read) → at < length entries → e ≡ get_or entries at e →
    take (at + 1) (seen_entries entries) ≡ take at (seen_entries entries) ++ seen_entry e ∷ []
take-seen [] at e h g = absurd (omega (arith, h))
take-seen (x ∷ entries) zero e h g = ap (λ y. seen_entry y ∷ []) (sym g)
take-seen (x ∷ entries) (suc at) e h g = ap (λ n. take n (seen_entries (x ∷ entries))) (sym (one_later at)) ∙
    ap (λ t. seen_entry x ∷ t) (take-seen entries at e (omega (arith, h)) g)

-- Sizes

split : {X : Type 0} (b : Bool) (z : X) (ys zs : List X) → cond b (z ∷ (ys ++ zs)) (ys ++ zs) ≡ cond b (z ∷ ys) ys ++ zs
split true z ys zs = refl
split false z ys zs = refl

filter-last : {X : Type 0} (p : X → Bool) (xs : List X) (x : X) → filter p (xs ++ x ∷ []) ≡ filter p xs ++ cond (p x) (x ∷ []) []
filter-last p [] x = refl
filter-last p (y ∷ xs) x = ap (λ ys. cond (p y) (y ∷ ys) ys) (filter-last p xs x) ∙ split (p y) y (filter p xs) (cond (p x) (x ∷ []) [])

abbrev size_of : File → List Entry → Size
size_of file rules = record { rules = stop (length rules); assertions = stop (sum_by (λ (rule : Entry). assertions_of file rule.number) rules) }

size-last : (file : File) (rules : List Entry) (e : Entry) → size_of file (rules ++ e ∷ []) ≡ grown (size_of file rules) (stop (assertions_of file e.number))
size-last file rules e =
    let count : stop (length (rules ++ e ∷ [])) ≡ stop (stop (length rules) + 1) = ap stop (length-append rules (e ∷ [])) ∙ sym (stop-more (length rules) 1) in
    let total : stop (sum_by (λ (rule : Entry). assertions_of file rule.number) (rules ++ e ∷ [])) ≡ stop
    (stop (sum_by (λ (rule : Entry). assertions_of file rule.number) rules) + stop (assertions_of file e.number)) =
    ap stop (sum_by_push (λ (rule : Entry). assertions_of file rule.number) rules e)
    ∙ sym (stop-added (sum_by (λ (rule : Entry). assertions_of file rule.number) rules) (assertions_of file e.number)) in
    ap (λ n. record { rules = n; assertions = stop (sum_by (λ (rule : Entry). assertions_of file rule.number) (rules ++ e ∷ [])) }) count
    ∙ ap (λ n. record { rules = stop (stop (length rules) + 1); assertions = n }) total

size-more : (file : File) (es : List Entry) (e : Entry) (n : ℕ) → size_in file (es ++ e ∷ []) n ≡ grown_if (is_rule_in e n) (size_in file es n)
    (stop (assertions_of file e.number))
size-more file es e n =
    ap (size_of file) (filter-last (λ (x : Entry). is_rule_in x n) es e) ∙ by (is_rule_in e n)
  where
    by : (b : Bool) → size_of file (inside is_own_rule es n ++ cond b (e ∷ []) []) ≡ grown_if b (size_in file es n) (stop (assertions_of file e.number))
    by true = size-last file (inside is_own_rule es n) e
    by false = ap (size_of file) (append-nil (inside is_own_rule es n))

pub sizes-more : (file : File) (entries : List Read) (at : ℕ) (e : Read) (assertions : ℕ) (old new : ℕ → Option Size) → at < length entries →
    e ≡ get_or entries at e
    → assertions ≡ stop (assertions_of file (seen_entry e).number) → AreSizes old file (take at (seen_entries entries)) →
    AddsRule old new (seen_entry e) assertions
    → AreSizes new file (take (at + 1) (seen_entries entries))
sizes-more file entries at e assertions old new h g a known more = λ n.
    more n
    ∙ (ap (λ s. grown_if (is_rule_in (seen_entry e) n) s assertions) (known n)
    ∙ (ap (grown_if (is_rule_in (seen_entry e) n) (size_in file (take at (seen_entries entries)) n)) a
    ∙ (sym (size-more file (take at (seen_entries entries)) (seen_entry e) n) ∙ ap (λ es. size_in file es n) (sym (take-seen entries at e h g)))))

-- one rule counted
pub rule-added : (old new : ℕ → Option Size) (parent assertions : ℕ) (size : Size) → size ≡ grown (size_found (old parent)) assertions
    → ((n : ℕ) → new n ≡ cond (nat_eq parent n) (Some size) (old n)) → (n : ℕ) → size_found (new n) ≡ grown_if (nat_eq parent n) (size_found (old n)) assertions
rule-added old new parent assertions size s h = λ n. ap size_found (h n) ∙ by n (nat_eq parent n) refl
  where
    by : (n : ℕ) (b : Bool) → nat_eq parent n ≡ b → size_found (cond b (Some size) (old n)) ≡ grown_if b (size_found (old n)) assertions
    by n true q = let same : parent ≡ n = grind (arith, nat_tests) in s ∙ ap (λ m. grown (size_found (old m)) assertions) same
    by n false q = refl

-- The loops

pub passing-more : (file : File) (entries : List Read) (at : ℕ) (e : Read) (before after : Tally) (all : Option Found) → at < length entries →
    e ≡ get_or entries at e
    → after ≡ stopped (added before (stopped (tally_of file (seen_entry e)))) → passes_any before after ≡ false
    → passing_stopped file before (drop at (seen_entries entries)) ≡ all → passing_stopped file after (drop (at + 1) (seen_entries entries)) ≡ all
passing-more file entries at e before after all h g made none known =
    ap (λ b. first_or (first_at (seen_entry e).number (when b (fault k.TooMany None (seen_entry e))))
    (passing_stopped file after (drop (at + 1) (seen_entries entries)))) (sym none)
    ∙ (ap (λ a. first_or (first_at (seen_entry e).number (too_many before a (seen_entry e))) (passing_stopped file a (drop (at + 1) (seen_entries entries))))
    made
    ∙ (sym (ap (passing_stopped file before) (drop-seen entries at e h g)) ∙ known))

pub passing-here : (file : File) (entries : List Read) (at : ℕ) (e : Read) (before after : Tally) (all : Option Found) → at < length entries →
    e ≡ get_or entries at e
    → after ≡ stopped (added before (stopped (tally_of file (seen_entry e)))) → passes_any before after ≡ true
    → passing_stopped file before (drop at (seen_entries entries)) ≡ all → Some (too_many_at (seen_entry e)) ≡ all
passing-here file entries at e before after all h g made some known =
    ap (λ b. first_or (first_at (seen_entry e).number (when b (fault k.TooMany None (seen_entry e))))
    (passing_stopped file after (drop (at + 1) (seen_entries entries)))) (sym some)
    ∙ (ap (λ a. first_or (first_at (seen_entry e).number (too_many before a (seen_entry e))) (passing_stopped file a (drop (at + 1) (seen_entries entries))))
    made
    ∙ (sym (ap (passing_stopped file before) (drop-seen entries at e h g)) ∙ known))

pub passing-begin : (file : File) (entries : List Read) (before : Tally) → before ≡ no_tally → seen_entries entries ≡ file.entries
    → passing_stopped file before (seen_entries entries) ≡ first_passing file
passing-begin file entries before none e = ap (λ b. passing_stopped file b (seen_entries entries)) none ∙
    (ap (passing_stopped file no_tally) e ∙ stopped-behind file no_tally file.entries)
