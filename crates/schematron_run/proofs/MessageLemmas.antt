-- Messages that grow by pieces.
use Rattle.std.proofs.Common.{◌≡◌, ℕ, ◌+◌, ◌<◌, ◌≤◌, List, [], ◌∷◌, ◌++◌, length, map, drop, get_or, refl, ap, sym, subst, ◌∙◌, append_assoc, append-nil}
use Rattle.std.specs.List.{flat_map}
use Rattle.std.proofs.lemmas.List.{drop_all}
use Rattle.std.proofs.lemmas.List.Concat.{flat_map-cons}
use Rattle.schematron_texts.specs.Messages.{Written, message_of}
use Rattle.schematron_run.specs.Telling.{Says}
use Rattle.schematron_run.proofs.ListLemmas.{drop_item, drop_seen, all_seen}

pub says_nothing : (m : Written) → Says [] m m
says_nothing m told e = e ∙ ap message_of (sym (append-nil told))

pub says_both : (a b : List ℕ) (m0 m1 m2 : Written) → Says a m0 m1 → Says b m1 m2 → Says (a ++ b) m0 m2
says_both a b m0 m1 m2 p q told e = q (told ++ a) (p told e) ∙ ap message_of (append_assoc told a b)

module _ {X : Type 0} (h : X → List ℕ) (g : List X → List ℕ) (more : (x : X) (xs : List X) → g (x ∷ xs) ≡ h x ++ g xs) where
  says_step : (xs : List X) (i : ℕ) (x : X) (m0 m1 m2 : Written) {whole : List ℕ} → drop i xs ≡ x ∷ drop (i + 1) xs → Says (h x) m1 m2
      → ((new : Written) → Says (g (drop i xs)) m1 new → Says whole m0 new) → (new : Written) → Says (g (drop (i + 1) xs)) m2 new → Says whole m0 new
  says_step xs i x m0 m1 m2 is s ahead new r =
      ahead new (subst (λ t. Says t m1 new) (sym (ap g is ∙ more x (drop (i + 1) xs))) (says_both (h x) (g (drop (i + 1) xs)) m1 m2 new s r))

  pub says_next : (xs : List X) (i : ℕ) (x : X) (m0 m1 m2 : Written) {whole : List ℕ} → x ≡ get_or xs i x → i < length xs → Says (h x) m1 m2
      → ((new : Written) → Says (g (drop i xs)) m1 new → Says whole m0 new) → (new : Written) → Says (g (drop (i + 1) xs)) m2 new → Says whole m0 new
  says_next xs i x m0 m1 m2 at l s ahead = says_step xs i x m0 m1 m2 (drop_item xs i x at l) s ahead

  pub says_all : (xs : List X) (i : ℕ) (m0 m1 : Written) {whole : List ℕ} → g [] ≡ [] → length xs ≤ i
      → ((new : Written) → Says (g (drop i xs)) m1 new → Says whole m0 new) → Says whole m0 m1
  says_all xs i m0 m1 none l ahead = ahead m1 (subst (λ t. Says t m1 m1) (sym (ap g (drop_all i xs l) ∙ none)) (says_nothing m1))

-- Items that are changed one after the other, and seen as they were
module _ {X Y : Type 0} (h : Y → List ℕ) (see : X → Y) where
  pub says_seen : (xs first : List X) (k : ℕ) (d : X) (m0 m1 m2 : Written) {whole : List ℕ} → k < length xs → map see xs ≡ map see first →
      Says (h (see (get_or xs k d))) m1 m2
      → ((new : Written) → Says (flat_map h (drop k (map see first))) m1 new → Says whole m0 new)
      → (new : Written) → Says (flat_map h (drop (k + 1) (map see first))) m2 new → Says whole m0 new
  says_seen xs first k d m0 m1 m2 within same s ahead =
      says_step h (flat_map h) (λ y ys. flat_map-cons h y ys) (map see first) k (see (get_or xs k d)) m0 m1 m2 (drop_seen see xs first k d within same) s ahead

  pub says_seen-all : (xs first : List X) (k : ℕ) (m0 m1 : Written) {whole : List ℕ} → length xs ≤ k → map see xs ≡ map see first
      → ((new : Written) → Says (flat_map h (drop k (map see first))) m1 new → Says whole m0 new) → Says whole m0 m1
  says_seen-all xs first k m0 m1 l same ahead =
      says_all h (flat_map h) (λ y ys. flat_map-cons h y ys) (map see first) k m0 m1 refl (all_seen see xs first k l same) ahead
