-- The first node that is lost is the first one that is passed over or the first one that is unread, whichever stands before the other.
use Rattle.std.proofs.Common.{◌≡◌, ℕ, zero, suc, ◌+◌, ◌<◌, ◌≤◌, Bool, true, false, ◌||◌, List, [], ◌∷◌, map, filter, Option, Some, None, refl, sym, ap, ◌∙◌, arith}
use Rattle.std.specs.Prelude.{nat_lt, All, IfSome}
use Rattle.std.proofs.lemmas.Bool.Decides.{nat_tests}
use Rattle.inv_base.specs.Tree.{Node}
use Rattle.reading_laws.specs.Nodes.{Rise}
use Rattle.bind_rows.specs.declared.rows.Row.{Row}
use Rattle.bind_meaning.specs.Faults.{passed_nodes}
use Rattle.bind_meaning.specs.Losses.{is_unread, lost_nodes, unread_nodes}
use Rattle.bind_meaning.specs.Terms.{is_passed_over}
use Rattle.bind_run.specs.Reading.{earlier, first_of}

abbrev number : Node → ℕ
number node = node.number

-- the number of the first node of a sort
abbrev first_so : (Node → Bool) → List Node → Option ℕ
first_so is_so nodes = first_of (map number (filter is_so nodes))

-- Where there is one, it is at least this number.
abbrev FromOn : ℕ → Option ℕ → Type 0
FromOn k None = Unit {0}
FromOn k (Some n) = k ≤ n

from-more : (k m : ℕ) (o : Option ℕ) → k ≤ m → FromOn m o → FromOn k o
from-more k m None h f = tt
from-more k m (Some n) h f = omega (arith, h, f)

-- The numbers of nodes rise, so that of the first of a sort is none before the first.
first-from : (is_so : Node → Bool) (k : ℕ) (nodes : List Node) → Rise k nodes → FromOn k (first_so is_so nodes)
first-from is_so k [] r = tt
first-from is_so k (node ∷ nodes) r = go (is_so node) refl (first-from is_so (suc node.number) nodes r.1)
  where
    go : (b : Bool) → is_so node ≡ b → FromOn (suc node.number) (first_so is_so nodes) → FromOn k (first_so is_so (node ∷ nodes))
    go true e later = rw e r.0
    go false e later = rw e (from-more k (suc node.number) (first_so is_so nodes) (omega (arith, r.0)) later)

-- of a number and one from behind it on
earlier-first : (n : ℕ) (o : Option ℕ) → FromOn (suc n) o → earlier (Some n) o ≡ Some n
earlier-first n None f = refl
earlier-first n (Some m) f = at (nat_lt m n) refl
  where
    at : (b : Bool) → nat_lt m n ≡ b → (elim b as (λ _. Option ℕ) [ true ↦ Some m | false ↦ Some n ]) ≡ Some n
    at true e = let below : m < n = grind (arith, nat_tests, e) in absurd (omega (arith, below, f))
    at false e = refl

earlier-second : (n : ℕ) (o : Option ℕ) → FromOn (suc n) o → earlier o (Some n) ≡ Some n
earlier-second n None f = refl
earlier-second n (Some m) f = at (nat_lt n m) refl
  where
    at : (b : Bool) → nat_lt n m ≡ b → (elim b as (λ _. Option ℕ) [ true ↦ Some n | false ↦ Some m ]) ≡ Some n
    at true e = refl
    at false e = let above : m ≤ n = grind (arith, nat_tests, e) in absurd (omega (arith, above, f))

earlier-same : (n : ℕ) → earlier (Some n) (Some n) ≡ Some n
earlier-same n = at (nat_lt n n)
  where
    at : (b : Bool) → (elim b as (λ _. Option ℕ) [ true ↦ Some n | false ↦ Some n ]) ≡ Some n
    at true = refl
    at false = refl

first-either : (p q : Node → Bool) (k : ℕ) (nodes : List Node) → Rise k nodes
    → earlier (first_so p nodes) (first_so q nodes) ≡ first_so (λ node. p node || q node) nodes
first-either p q k [] r = refl
first-either p q k (node ∷ nodes) r = go (p node) (q node) refl refl (first-either p q (suc node.number) nodes r.1)
  where
    go : (a b : Bool) → p node ≡ a → q node ≡ b
        → earlier (first_so p nodes) (first_so q nodes) ≡ first_so (λ node. p node || q node) nodes
        → earlier (first_so p (node ∷ nodes)) (first_so q (node ∷ nodes)) ≡ first_so (λ node. p node || q node) (node ∷ nodes)
    go true true e f later = rw e (rw f (earlier-same node.number))
    go true false e f later = rw e (rw f (earlier-first node.number (first_so q nodes) (first-from q (suc node.number) nodes r.1)))
    go false true e f later = rw e (rw f (earlier-second node.number (first_so p nodes) (first-from p (suc node.number) nodes r.1)))
    go false false e f later = rw e (rw f later)

pub first-lost : (nodes : List Node) (rows : List Row) → Rise 0 nodes
    → earlier (first_of (passed_nodes nodes rows)) (first_of (unread_nodes nodes rows)) ≡ first_of (lost_nodes nodes rows)
unfolding passed_nodes unread_nodes lost_nodes
first-lost nodes rows r = first-either (is_passed_over nodes rows) (is_unread nodes rows) 0 nodes r

-- ---- within a document

pub first-within : (count : ℕ) (ns : List ℕ) → All (λ n. n < count) ns → IfSome (first_of ns) (λ n. n < count)
first-within count [] h = tt
first-within count (n ∷ ns) h = h zero n (omega arith)

pub earlier-within : (count : ℕ) (a b : Option ℕ) → IfSome a (λ n. n < count) → IfSome b (λ n. n < count) → IfSome (earlier a b) (λ n. n < count)
earlier-within count None b h k = k
earlier-within count (Some n) None h k = h
earlier-within count (Some n) (Some m) h k = at (nat_lt m n)
  where
    at : (b : Bool) → IfSome (elim b as (λ _. Option ℕ) [ true ↦ Some m | false ↦ Some n ]) (λ n. n < count)
    at true = k
    at false = h
