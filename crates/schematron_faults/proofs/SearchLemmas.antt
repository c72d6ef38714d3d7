-- How a search goes on.
use Rattle.std.proofs.Common.{◌≡◌, ℕ, ◌+◌, ◌<◌, ◌≤◌, true, false, List, [], ◌∷◌, ◌++◌, length, drop, get_or, map, Option, Result, Ok, Err, OnOk, refl, ap, sym}
use Rattle.std.proofs.Common.{◌∙◌, subst}
use Rattle.std.specs.Prelude.{◌&&◌, not}
use Rattle.std.proofs.lemmas.Bool.{false≢true, and_parts}
use Rattle.std.proofs.lemmas.List.{drop_more, drop_all}
use Rattle.schematron_graph.specs.declared.budget.Budget.{Budget}
use Rattle.schematron_meaning.specs.Written.{Written}
use Rattle.schematron_expansion.specs.declared.found.Found.{Found}
use Rattle.schematron_faults.specs.declared.search.Search.{Search}
use Rattle.schematron_faults.specs.Least.{soonest}
use Rattle.schematron_faults.specs.Searching.{Keeps, is_passed, IsKnown, Goes, wants}
use Rattle.schematron_faults.specs.Staying.{is_changed}
use Rattle.schematron_faults.proofs.EachLemmas.{Each, each_all, each-weaker, each-front, each-behind}
use Rattle.schematron_faults.proofs.CoverLemmas.{soonest-append, soonest-nil}
use Rattle.schematron_faults.proofs.StandLemmas.{IsAt}
use Rattle.schematron_faults.proofs.SkipLemmas.{skipped, right_skipped}

-- ---- what a search goes by

pub keeps_itself : (s : Search) → Keeps s s
keeps_itself s = record { last = refl; again = refl; texts = refl }

pub keeps-trans : (s t u : Search) → Keeps s t → Keeps t u → Keeps s u
keeps-trans s t u g h = record { last = h.last ∙ g.last; again = h.again ∙ g.again; texts = h.texts ∙ g.texts }

same_passed : (s t : Search) → Keeps s t → (n : ℕ) → is_passed t n ≡ is_passed s n
same_passed s t k n = λ i. k.again i && not (is_changed (k.texts i) n)

known_on : (s t : Search) (ws : List Written) → Keeps s t → Each (IsKnown s) ws → Each (IsKnown t) ws
known_on s t ws k h = each-weaker (IsKnown s) (IsKnown t) ws (λ w known p. known (sym (same_passed s t k w.holder) ∙ p)) h

-- Nothing is passed over where it isn't gone over again.
pub none_passed : (s : Search) (ws : List Written) → s.again ≡ false → Each (IsKnown s) ws
none_passed s ws h = each_all (IsKnown s) ws (λ w p. absurd (false≢true (sym h ∙ (and_parts s.again (not (is_changed s.texts w.holder)) p).0)))

-- ---- parts of what is gone over

pub goes_none : (s : Search) → Goes s s []
goes_none s = record { best = λ known. sym (soonest-nil s.best s.last); keeps = keeps_itself s }

pub goes-append : (s t u : Search) (xs ys : List Written) → Goes s t xs → Goes t u ys → Goes s u (xs ++ ys)
goes-append s t u xs ys g h = record {
  best = λ known. h.best (known_on s t ys g.keeps (each-behind (IsKnown s) xs ys known))
      ∙ (ap (λ (x : Option Found). soonest x t.last ys) (g.best (each-front (IsKnown s) xs ys known))
      ∙ (ap (λ (l : Option ℕ). soonest (soonest s.best s.last xs) l ys) g.keeps.last ∙ sym (soonest-append s.best s.last xs ys)));
  keeps = keeps-trans s t u g.keeps h.keeps;
}

-- a search that begins as another, which has the same so far
pub goes_from : (s t u : Search) (ws : List Written) → Goes s t [] → Goes t u ws → Goes s u ws
goes_from s t u ws g h = goes-append s t u [] ws g h

-- a search of which turns were taken first
pub goes_turned : (s t : Search) (budget : Budget) (ws : List Written) → Goes (record s { budget = budget }) t ws → Goes s t ws
goes_turned s t budget ws g = record { best = g.best; keeps = record { last = g.keeps.last; again = g.keeps.again; texts = g.keeps.texts } }

pub on_ok : {A E : Type 0} (r : Result A E) {P Q : Type 0} → (P → Q) → OnOk r P → OnOk r Q
on_ok (Ok x) f p = f p
on_ok (Err x) f p = tt

-- ---- one expression

-- one whose fault wouldn't be told
pub goes_past : (s : Search) (n : ℕ) (ws : List Written) → wants s n ≡ false → Each (IsAt n) ws → Goes s s ws
goes_past s n ws h at = record { best = λ known. sym (skipped s.best s.last n ws h at); keeps = keeps_itself s }

-- one that is passed over
pub goes_known : (s : Search) (w : Written) → is_passed s w.holder ≡ true → Goes s s (w ∷ [])
goes_known s w p = record { best = λ known. sym (right_skipped s.best s.last w (known.0 p)); keeps = keeps_itself s }

-- ---- loops

-- One turn goes over the first of what is left.
pub goes_turn : (init s t : Search) (whole left xs ys : List Written) → left ≡ xs ++ ys → Goes s t xs → ((u : Search) → Goes s u left → Goes init u whole) →
    (u : Search) → Goes t u ys → Goes init u whole
goes_turn init s t whole left xs ys e g h u k = h u (subst (Goes s u) (sym e) (goes-append s t u xs ys g k))

-- Where nothing is left, the whole was gone over.
pub goes_end : (init s : Search) (whole left : List Written) → left ≡ [] → ((u : Search) → Goes s u left → Goes init u whole) → Goes init s whole
goes_end init s whole left e h = h s (subst (Goes s s) (sym e) (goes_none s))

pub seen_next : {X Y : Type 0} (f : X → Y) (xs : List X) (i : ℕ) (x : X) → x ≡ get_or xs i x → i < length xs → map f (drop i xs) ≡ f x ∷ map f (drop (i + 1) xs)
seen_next f xs i x at l = ap (map f) (drop_more xs i x l ∙ ap (λ y. y ∷ drop (i + 1) xs) (sym at))

pub seen_done : {X Y : Type 0} (f : X → Y) (xs : List X) (i : ℕ) → length xs ≤ i → map f (drop i xs) ≡ []
seen_done f xs i l = ap (map f) (drop_all i xs l)
