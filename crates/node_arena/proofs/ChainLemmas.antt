-- Chains that are linked from the last node back.
use Rattle.std.proofs.Common.{◌≡◌, ℕ, ◌+◌, ◌<◌, ◌≤◌, cond, List, length, drop, set, get_or, replicate, Option, Some, None, refl, ap, sym, ◌∙◌, arith, ⊎_elim}
use Rattle.std.proofs.lemmas.List.{drop_more, drop_all, length-replicate, get_or-replicate, length-map, length-set, get_or-map, get_or-set_same}
use Rattle.std.proofs.lemmas.List.{get_or-set_other, get_or_read}
use Rattle.std.proofs.lemmas.Bool.{eq-eqb, ne_eqb, cases_eq}
use Rattle.node_arena.specs.Document.{document_node, node_at}
use Rattle.node_arena.specs.Keys.{key_of, has_key, first_keyed, next_keyed, keys}
use Rattle.node_arena.specs.Slots.{kept}
use Rattle.node_arena.specs.declared.chains.Family.{Family}
use Rattle.node_arena.specs.declared.slot.Slot.{Slot}
use Rattle.node_arena.proofs.KeptLemmas.{kept_length}

-- The nodes from the n-th on are linked, and each key to the first of them.
pub record IsLinking (keyed initial first next : List (Option ℕ)) (n : ℕ) : Type 0 where
  pub within : n ≤ length keyed
  pub long : length next ≡ length keyed
  pub first_are : (key : ℕ) → key < length first → get_or first key None ≡ first_keyed key n (drop n keyed)
  pub behind_are : (m : ℕ) → n ≤ m → m < length keyed → get_or next m None ≡ next_keyed (get_or initial m None) m keyed
  pub before_are : (m : ℕ) → m < n → get_or next m None ≡ get_or initial m None

pub linking-begin : (keyed first next : List (Option ℕ)) → length next ≡ length keyed → ((key : ℕ) → key < length first → get_or first key None ≡ None)
    → IsLinking keyed next first next (length keyed)
linking-begin keyed first next long none = record {
  within = omega arith;
  long = long;
  first_are = λ key h. none key h ∙ sym (ap (first_keyed key (length keyed)) (drop_all (length keyed) keyed (omega arith)));
  behind_are = λ m h k. absurd (omega arith);
  before_are = λ m h. refl;
}

next_at : (other : Option ℕ) (keyed : List (Option ℕ)) (n : ℕ) (key : Option ℕ) → get_or keyed n None ≡ key
    → next_keyed other n keyed ≡ (elim key [ None ↦ other | Some k ↦ first_keyed k (n + 1) (drop (n + 1) keyed) ])
next_at other keyed n key is = ap (λ (o : Option ℕ). elim o [ None ↦ other | Some k ↦ first_keyed k (n + 1) (drop (n + 1) keyed) ]) is

module _ (keyed initial first next : List (Option ℕ)) (old n : ℕ) (linking : IsLinking keyed initial first next old) (step : old ≡ n + 1) where
  within : n < length keyed
  within = omega (arith, step, linking.within)

  firsts : (key : ℕ) → key < length first → get_or first key None ≡ first_keyed key (n + 1) (drop (n + 1) keyed)
  firsts key h = linking.first_are key h ∙ ap (λ m. first_keyed key m (drop m keyed)) step

  from_here : (key : ℕ) (k : Option ℕ) → get_or keyed n None ≡ k →
      first_keyed key n (drop n keyed) ≡ cond (has_key key k) (Some n) (first_keyed key (n + 1) (drop (n + 1) keyed))
  from_here key k is = ap (first_keyed key n) (drop_more keyed n None within) ∙
      ap (λ o. cond (has_key key o) (Some n) (first_keyed key (n + 1) (drop (n + 1) keyed))) is

  -- a node that is on no chain
  pub linking-none : get_or keyed n None ≡ None → IsLinking keyed initial first next n
  linking-none is = record {
    within = omega (arith, step, linking.within);
    long = linking.long;
    first_are = λ key h. firsts key h ∙ sym (from_here key None is);
    behind_are = λ m h k. ⊎_elim
        (λ (here : m ≡ n). linking.before_are m (omega (arith, here, step))
        ∙ sym (ap (λ j. next_keyed (get_or initial m None) j keyed) here ∙ next_at (get_or initial m None) keyed n None is))
        (λ other. linking.behind_are m (omega (arith, h, other, step)) k)
        (cases_eq m n);
    before_are = λ m h. linking.before_are m (omega (arith, h, step));
  }

  -- a node of a key
  pub linking-some : (key : ℕ) (value : Option ℕ) → get_or keyed n None ≡ Some key → key < length first → value ≡ get_or first key value
      → IsLinking keyed initial (set first key (Some n)) (set next n value) n
  linking-some key value is within_first read =
      let was : value ≡ first_keyed key (n + 1) (drop (n + 1) keyed) = get_or_read first key value within_first read None ∙ firsts key within_first in
      record {
        within = omega (arith, step, linking.within);
        long = length-set next n value ∙ linking.long;
        first_are = λ k h. ⊎_elim
            (λ (same : k ≡ key). ap (λ j. get_or (set first key (Some n)) j None) same
            ∙ (get_or-set_same first key (Some n) None within_first
            ∙ sym (from_here k (Some key) is ∙ ap (λ b. cond b (Some n) (first_keyed k (n + 1) (drop (n + 1) keyed))) (eq-eqb key k (sym same)))))
            (λ other. get_or-set_other first key k (Some n) None other
            ∙ (firsts k (omega (arith, h, length-set first key (Some n)))
            ∙ sym (from_here k (Some key) is ∙ ap (λ b. cond b (Some n) (first_keyed k (n + 1) (drop (n + 1) keyed))) (ne_eqb key k (λ e. other (sym e))))))
            (cases_eq k key);
        behind_are = λ m h k. ⊎_elim
            (λ (here : m ≡ n). ap (λ j. get_or (set next n value) j None) here
            ∙ (get_or-set_same next n value None (omega (arith, within, linking.long))
            ∙ (was ∙ sym (ap (λ j. next_keyed (get_or initial m None) j keyed) here ∙ next_at (get_or initial m None) keyed n (Some key) is))))
            (λ other. get_or-set_other next n m value None other ∙ linking.behind_are m (omega (arith, h, other, step)) k)
            (cases_eq m n);
        before_are = λ m h. get_or-set_other next n m value None (λ e. omega (arith, e, h)) ∙ linking.before_are m (omega (arith, h, step));
      }

-- the keys of nodes that are kept
pub length-keys : (family : Family) (slots : List Slot) → length (keys family (kept slots)) ≡ length slots
length-keys family slots = length-map (kept slots) (key_of family) ∙ kept_length slots

pub keyed_at : (family : Family) (slots : List Slot) (n : ℕ) (key : Option ℕ) → n < length slots → key ≡ key_of family (node_at (kept slots) n)
    → get_or (keys family (kept slots)) n None ≡ key
keyed_at family slots n key h is = get_or-map (key_of family) (kept slots) n document_node None (omega (arith, h, kept_length slots)) ∙ sym is

-- no links yet
pub none_yet : (links : List (Option ℕ)) (count : ℕ) → links ≡ replicate count None → (n : ℕ) → n < length links → get_or links n None ≡ None
none_yet links count is n h =
    let long : length links ≡ count = ap length is ∙ length-replicate count None in
    ap (λ l. get_or l n None) is ∙ get_or-replicate count n None None (omega (arith, h, long))
