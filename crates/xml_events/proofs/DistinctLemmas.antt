-- A table of names has none twice.
use Rattle.std.proofs.Common.{◌≡◌, ℕ, zero, suc, ◌<◌, Bool, true, false, if◌then◌else◌, List, [], ◌∷◌, length, refl, ap, sym, ◌∙◌, subst, arith}
use Rattle.std.proofs.lemmas.Bool.{false≢true, and_from}
use Rattle.std.proofs.lemmas.Slice.Eq.{bytes_eq-Decides}
use Rattle.inv_base.specs.Tree.{Name}
use Rattle.xml_events.specs.Events.{name_at}
use Rattle.xml_events.specs.Names.{same_name, with_name, AreDistinct}

itself : (a b : Name) → a ≡ b → same_name a b ≡ true
itself a b e = and_from _ _ ((bytes_eq-Decides a.uri b.uri).1 (ap (λ (n : Name). n.uri) e))
    ((bytes_eq-Decides a.local b.local).1 (ap (λ (n : Name). n.local) e))

-- The name is none of them.
abbrev IsNew : Name → List Name → Type 0
IsNew name names = (k : ℕ) → k < length names → name_at names k ≡ name → ⊥

distinct_rest : (name : Name) (names : List Name) → AreDistinct (name ∷ names) → AreDistinct names
distinct_rest name names d = λ i j h k e. let same = d (suc i) (suc j) (omega (arith, h)) (omega (arith, k)) e in omega (arith, same)

distinct_new : (name : Name) (names : List Name) → AreDistinct (name ∷ names) → IsNew name names
distinct_new name names d = λ k h e. let same = d (suc k) 0 (omega (arith, h)) (omega arith) e in omega (arith, same)

distinct_more : (name : Name) (names : List Name) → IsNew name names → AreDistinct names → AreDistinct (name ∷ names)
distinct_more name names new d zero zero h k e = refl
distinct_more name names new d zero (suc j) h k e = absurd (new j (omega (arith, k)) (sym e))
distinct_more name names new d (suc i) zero h k e = absurd (new i (omega (arith, h)) e)
distinct_more name names new d (suc i) (suc j) h k e = ap suc (d i j (omega (arith, h)) (omega (arith, k)) e)

new_with : (names : List Name) (name n : Name) → IsNew n names → same_name n name ≡ false → IsNew n (with_name names name)
new_with [] name n new other zero h e = false≢true (sym other ∙ itself n name (sym e))
new_with [] name n new other (suc k) h e = omega (arith, h)
new_with (m ∷ names) name n new other k h e = by (same_name m name) refl (new_with names name n (λ i below is. new (suc i) (omega (arith, below)) is) other) k h
    e
  where
    by : (b : Bool) → same_name m name ≡ b → IsNew n (with_name names name) → IsNew n (with_name (m ∷ names) name)
    by true known rest = subst (λ b. IsNew n (if b then m ∷ names else m ∷ with_name names name)) (sym known) new
    by false known rest = subst (λ b. IsNew n (if b then m ∷ names else m ∷ with_name names name)) (sym known) behind
      where
        behind : (k : ℕ) → k < length (m ∷ with_name names name) → name_at (m ∷ with_name names name) k ≡ n → ⊥
        behind zero h e = new 0 (omega arith) e
        behind (suc k) h e = rest k (omega (arith, h)) e

pub distinct_with : (names : List Name) (name : Name) → AreDistinct names → AreDistinct (with_name names name)
distinct_with [] name d = distinct_more name [] (λ k h e. omega (arith, h)) d
distinct_with (n ∷ names) name d = by (same_name n name) refl (distinct_with names name (distinct_rest n names d))
  where
    by : (b : Bool) → same_name n name ≡ b → AreDistinct (with_name names name) → AreDistinct (with_name (n ∷ names) name)
    by true known rest = subst (λ b. AreDistinct (if b then n ∷ names else n ∷ with_name names name)) (sym known) d
    by false known rest =
        subst (λ b. AreDistinct (if b then n ∷ names else n ∷ with_name names name)) (sym known)
        (distinct_more n (with_name names name) (new_with names name n (distinct_new n names d) known) rest)

-- behind a name more, as the table is kept
pub distinct_kept : (old new names : List Name) (name : Name) → AreDistinct old → old ≡ names → new ≡ with_name names name → AreDistinct new
distinct_kept old new names name d view more = subst AreDistinct (sym (more ∙ ap (λ x. with_name x name) (sym view))) (distinct_with old name d)
