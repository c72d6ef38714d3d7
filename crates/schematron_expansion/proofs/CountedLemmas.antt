-- Entries by their places: the one of a node, and the first of a name.
use Rattle.std.proofs.Common.{◌≡◌, ℕ, zero, suc, ◌+◌, Bool, true, false, cond, nat_eq, List, [], ◌∷◌, length, drop, slice_get, option_map, option_to_list, find}
use Rattle.std.proofs.Common.{Option, Some, None, refl, ap, sym, ◌∙◌, arith, chars, encode_utf8_all}
use Rattle.std.specs.List.{position_from}
use Rattle.std.proofs.lemmas.List.{length-drop}
use Rattle.schematron_meaning.specs.Entries.{Entry}
use Rattle.schematron_meaning.specs.Lookup.{at_node}
use Rattle.schematron_entries.specs.declared.entry.Entry.{Entry as Read}
use Rattle.schematron_entries.specs.Seen.{seen_entry, seen_entries}
use Rattle.schematron_expansion.specs.Counted.{numbers}
use Rattle.schematron_expansion.specs.Linked.{ArePatterns, is_pattern_named}
use Rattle.schematron_expansion.proofs.ChainLemmas.{same_number, behind_first}

get_first : {X : Type 0} (k : ℕ) (all : List X) (x : X) (xs : List X) → drop k all ≡ x ∷ xs → slice_get all k ≡ Some x
get_first zero all x xs d = ap (λ l. slice_get l 0) d
get_first (suc k) [] x xs d = ap (λ l. slice_get l 0) d
get_first (suc k) (y ∷ all) x xs d = get_first k all x xs d

-- what is at a place, if one was found
abbrev pub got_at : List Entry → Option ℕ → Option Entry
got_at all None = None
got_at all (Some at) = slice_get all at

abbrev pub listed_at : List Entry → Option ℕ → List Entry
listed_at all first = option_to_list (got_at all first)

-- the first that passes is the one at the place of the first that passes
first_found : (test : Entry → Bool) (all : List Entry) (k : ℕ) (es : List Entry) → drop k all ≡ es → got_at all (position_from test k es) ≡ find test es
first_found test all k [] d = refl
first_found test all k (e ∷ es) d =
    by (test e) (first_found test all (k + 1) es (behind_first all k e es (omega (arith, sym (length-drop k all) ∙ ap length d)) d))
  where
    by : (b : Bool) → got_at all (position_from test (k + 1) es) ≡ find test es
        → got_at all (cond b (Some k) (position_from test (k + 1) es)) ≡ cond b (Some e) (find test es)
    by true rest = get_first k all e es d
    by false rest = rest

by_number : (n k : ℕ) (es : List Entry) → position_from (nat_eq n) k (numbers es) ≡ position_from (λ (e : Entry). nat_eq e.number n) k es
by_number n k [] = refl
by_number n k (e ∷ es) = ap (λ b. cond b (Some k) (position_from (nat_eq n) (k + 1) (numbers es))) (same_number n e.number)
    ∙ ap (cond (nat_eq e.number n) (Some k)) (by_number n (k + 1) es)

found_at : (n : ℕ) (es : List Entry) → listed_at es (position_from (nat_eq n) 0 (numbers es)) ≡ at_node es n
found_at n es = ap (listed_at es) (by_number n 0 es) ∙ ap option_to_list (first_found (λ (e : Entry). nat_eq e.number n) es 0 es refl)

seen_get : (entries : List Read) (at : ℕ) → option_map seen_entry (slice_get entries at) ≡ slice_get (seen_entries entries) at
seen_get [] at = refl
seen_get (e ∷ entries) zero = refl
seen_get (e ∷ entries) (suc at) = seen_get entries at

pub entry_found : (entries : List Read) (numbered : List ℕ) (n : ℕ) (first : Option ℕ) → numbered ≡ numbers (seen_entries entries)
    → first ≡ position_from (nat_eq n) 0 numbered
    → listed_at (seen_entries entries) first ≡ at_node (seen_entries entries) n
entry_found entries numbered n first h is = ap (listed_at (seen_entries entries)) (is ∙ ap (position_from (nat_eq n) 0) h) ∙ found_at n (seen_entries entries)

pub entry_got : (entries : List Read) (numbered : List ℕ) (n at : ℕ) (first : Option ℕ) (got : Option Read) → numbered ≡ numbers (seen_entries entries)
    → first ≡ position_from (nat_eq n) 0 numbered
    → first ≡ Some at → got ≡ slice_get entries at → option_to_list (option_map seen_entry got) ≡ at_node (seen_entries entries) n
entry_got entries numbered n at first got h is some g = ap (λ o. option_to_list (option_map seen_entry o)) g
    ∙ (ap option_to_list (seen_get entries at) ∙ (sym (ap (listed_at (seen_entries entries)) some) ∙ entry_found entries numbered n first h is))

-- ---- abstract patterns by their names

pub pattern_found : (entries : List Read) (names : List ℕ → Option ℕ) (id : List ℕ) (first : Option ℕ) → ArePatterns names (seen_entries entries)
    → encode_utf8_all (chars id) ≡ id → first ≡ names id
    → got_at (seen_entries entries) first ≡ find (is_pattern_named (chars id)) (seen_entries entries)
pattern_found entries names id first known u is =
    ap (got_at (seen_entries entries)) (is ∙ known id u) ∙ first_found (is_pattern_named (chars id)) (seen_entries entries) 0 (seen_entries entries) refl

pub pattern_got : (entries : List Read) (names : List ℕ → Option ℕ) (id : List ℕ) (at : ℕ) (first : Option ℕ) (got : Option Read)
    → ArePatterns names (seen_entries entries) → encode_utf8_all (chars id) ≡ id
    → first ≡ names id → first ≡ Some at → got ≡ slice_get entries at → option_map seen_entry got ≡ find (is_pattern_named (chars id)) (seen_entries entries)
pattern_got entries names id at first got known u is some g = ap (option_map seen_entry) g
    ∙ (seen_get entries at ∙ (sym (ap (got_at (seen_entries entries)) some) ∙ pattern_found entries names id first known u is))
