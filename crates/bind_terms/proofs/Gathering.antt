-- A map from spots to faults keeps all faults in their order.
use Rattle.std.proofs.Common.{◌≡◌, ℕ, Bool, true, false, not, cond, List, [], ◌∷◌, map, Option, Some, None, refl, sym, ap, ◌∙◌, subst, Ordering}
use Rattle.std.specs.Ordering.{nat_cmp, is_eq, is_lt, match_ordering}
use Rattle.std.specs.declared.cmp.Ordering.TheVariants.{Less, Equal, Greater}
use Rattle.std.specs.Cmp.Lexicographic.{slice_cmp}
use Rattle.std.specs.BTreeMap.{insert_entry}
use Rattle.std.specs.Map.{lookup}
use Rattle.std.proofs.lemmas.Bool.{false≢true}
use Rattle.term_table.proofs.RunLemmas.{never_before_itself}
use Rattle.bind_meaning.specs.declared.fault.BindFault.{BindFault}
use Rattle.bind_meaning.specs.declared.fault.BindKind.{BindKind}
use Rattle.bind_meaning.specs.Judging.{Found, earlier}
use Rattle.bind_meaning.specs.Faults.{spot, put_fault, in_fault_order}
use Rattle.bind_terms.specs.declared.found.Found.{Found as One}
use Rattle.bind_terms.specs.declared.found.Spot.{Spot}
use Rattle.bind_terms.specs.declared.found.Side.{Side}
use Rattle.bind_terms.specs.declared.found.Side.TheVariants as sides
use Rattle.bind_terms.specs.Faults.{side_of, spot_of, side_place, place_of, found_of, found_in, Puts, kept_fault, is_behind}
use Rattle.bind_terms.proofs.Holding.{place-is}
use Rattle.bind_terms.proofs.FaultOrder.{order, put_by, Behind, behind-trans, Rising, puts-rising, puts-append}

-- ---- spots

abbrev Kept : Type 0
Kept = List (Spot × BindFault)

abbrev one : Spot → BindFault → One
one s fault = record { spot = s; fault = fault }

spot-is : (s : Spot) (kind : BindKind) → spot (place_of s kind) ≡ spot_of s
spot-is s kind = go s.side
  where
    go : (side : Side) → spot (s.node ∷ side_place side kind) ≡ s.node ∷ side_of side
    go (sides.At row) = refl
    go (sides.Behind around place) = refl

spots-are : (s t : Spot) (k l : BindKind) → order (spot (place_of s k)) (spot (place_of t l)) ≡ order (spot_of s) (spot_of t)
spots-are s t k l = ap (λ x. order x (spot (place_of t l))) (spot-is s k) ∙ ap (order (spot_of s)) (spot-is t l)

side-told : (a b : Side) → side_of a ≡ side_of b → a ≡ b
side-told (sides.At r) (sides.At s) e = let k : r ≡ s = cc in ap sides.At k
side-told (sides.At r) (sides.Behind around place) e = absurd (let k : ◌≡◌ {A = List ℕ} (0 ∷ (r ∷ [])) (1 ∷ (around ∷ place)) = e in cc)
side-told (sides.Behind around place) (sides.At s) e = absurd (let k : ◌≡◌ {A = List ℕ} (1 ∷ (around ∷ place)) (0 ∷ (s ∷ [])) = e in cc)
side-told (sides.Behind a p) (sides.Behind b q) e =
    let k : a ≡ b = cc in
    let l : p ≡ q = cc in
    λ i. sides.Behind (k i) (l i)

spot-told : (s t : Spot) → spot_of s ≡ spot_of t → s ≡ t
spot-told s t e =
    let k : s.node ≡ t.node = cc in
    let rest : side_of s.side ≡ side_of t.side = cc in
    let l = side-told s.side t.side rest in
    λ i. record { node = k i; side = l i }

pub behind-itself : (s : Spot) (kind other : BindKind) (around : ℕ) (place : List ℕ) → s.side ≡ sides.Behind around place
    → false ≡ is_lt (order (place_of s kind) (place_of s other))
behind-itself s kind other around place e =
    sym (ap (λ side. is_lt (order (s.node ∷ side_place side kind) (s.node ∷ side_place side other))) e ∙ never_before_itself (s.node ∷ (1 ∷ (around ∷ place))))

pub at-one-spot : (a b : One) (result : Bool) → order (spot_of a.spot) (spot_of b.spot) ≡ Equal
    → result ≡ is_lt (order (place_of a.spot a.fault.kind) (place_of a.spot b.fault.kind))
    → result ≡ is_lt (order (found_of a).place (found_of b).place)
at-one-spot a b result e h =
    h ∙ ap (λ (t : Spot). is_lt (order (place_of a.spot a.fault.kind) (place_of t b.fault.kind)))
    (spot-told a.spot b.spot (place-is (spot_of a.spot) (spot_of b.spot) (ap is_eq e)))

not-false : (b : Bool) → not b ≡ false → b ≡ true
not-false true h = refl
not-false false h = absurd (false≢true (sym h))

not-true : (b : Bool) → not b ≡ true → b ≡ false
not-true true h = absurd (false≢true h)
not-true false h = refl

module _ (s : Spot) (fault : BindFault) (e : Spot × BindFault) (same : s ≡ e.0) where
  replaced : not (is_lt (order (place_of s fault.kind) (place_of s e.1.kind))) ≡ false → found_in (e.0, fault) ≡ earlier (found_in e) (found_in (s, fault))
  replaced h =
      let before : is_lt (order (place_of s fault.kind) (place_of e.0 e.1.kind)) ≡ true =
      ap (λ (t : Spot). is_lt (order (place_of s fault.kind) (place_of t e.1.kind))) (sym same) ∙ not-false _ h in
      ap (λ (t : Spot). found_in (t, fault)) (sym same) ∙ ap (λ b. elim b [ true ↦ found_in (s, fault) | false ↦ found_in e ]) (sym before)

  stayed : not (is_lt (order (place_of s fault.kind) (place_of s e.1.kind))) ≡ true → earlier (found_in e) (found_in (s, fault)) ≡ found_in e
  stayed h =
      let behind : is_lt (order (place_of s fault.kind) (place_of e.0 e.1.kind)) ≡ false =
      ap (λ (t : Spot). is_lt (order (place_of s fault.kind) (place_of t e.1.kind))) (sym same) ∙ not-true _ h in
      ap (λ b. elim b [ true ↦ found_in (s, fault) | false ↦ found_in e ]) behind

-- ---- one that is there already

kept-behind : (s : Spot) (es : Kept) → Behind (spot_of s) (map found_in es) → kept_fault s es ≡ None
kept-behind s [] h = refl
kept-behind s (e ∷ es) h =
    ap (λ b. cond b (Some e.1) (kept_fault s es)) (ap is_eq (ap (order (spot_of s)) (sym (spot-is e.0 e.1.kind)) ∙ h.0)) ∙ kept-behind s es h.1

put-known : (es : Kept) (s : Spot) (fault : BindFault) → Rising (map found_in es) → is_behind (kept_fault s es) (one s fault) ≡ true
    → put_fault (found_in (s, fault)) (map found_in es) ≡ map found_in es
put-known [] s fault rising h = absurd (false≢true h)
put-known (e ∷ es) s fault rising h =
    ap (λ o. put_by o (found_in (s, fault)) (found_in e) (map found_in es)) (spots-are s e.0 fault.kind e.1.kind)
    ∙ go (order (spot_of s) (spot_of e.0)) refl h (λ k. put-known es s fault rising.1 k)
  where
    go : (o : Ordering) → order (spot_of s) (spot_of e.0) ≡ o → is_behind (cond (is_eq o) (Some e.1) (kept_fault s es)) (one s fault) ≡ true
        → (is_behind (kept_fault s es) (one s fault) ≡ true → put_fault (found_in (s, fault)) (map found_in es) ≡ map found_in es)
        → put_by o (found_in (s, fault)) (found_in e) (map found_in es) ≡ found_in e ∷ map found_in es
    go Less d k rest =
        let behind : Behind (spot_of s) (map found_in es) =
        behind-trans (spot_of s) (spot (found_in e).place) (map found_in es) (ap (order (spot_of s)) (spot-is e.0 e.1.kind) ∙ d) rising.0 in
        absurd (false≢true (sym (ap (λ o. is_behind o (one s fault)) (kept-behind s es behind)) ∙ k))
    go Equal d k rest = ap (λ x. x ∷ map found_in es) (stayed s fault e (spot-told s e.0 (place-is (spot_of s) (spot_of e.0) (ap is_eq d))) k)
    go Greater d k rest = ap (λ l. found_in e ∷ l) (rest k)

-- ---- one that is kept

module _ (cmp : Spot → Spot → Ordering) (ordered : (a b : Spot) → cmp a b ≡ slice_cmp nat_cmp (spot_of a) (spot_of b)) where
  pub kept-is : (s : Spot) (es : Kept) (found : Option BindFault) → found ≡ lookup (λ other. is_eq (cmp s other)) es → found ≡ kept_fault s es
  kept-is s es found e = e ∙ ap (λ (p : Spot → Bool). lookup p es) (λ i other. is_eq (ordered s other i))

  put-new : (es : Kept) (s : Spot) (fault : BindFault) → is_behind (kept_fault s es) (one s fault) ≡ false
      → map found_in (insert_entry cmp es s fault) ≡ put_fault (found_in (s, fault)) (map found_in es)
  put-new [] s fault h = refl
  put-new (e ∷ es) s fault h =
      ap (λ o. map found_in (match_ordering o ((s, fault) ∷ (e ∷ es)) ((e.0, fault) ∷ es) (e ∷ insert_entry cmp es s fault))) (ordered s e.0)
      ∙ (go (order (spot_of s) (spot_of e.0)) refl h (λ k. put-new es s fault k)
      ∙ ap (λ o. put_by o (found_in (s, fault)) (found_in e) (map found_in es)) (sym (spots-are s e.0 fault.kind e.1.kind)))
    where
      go : (o : Ordering) → order (spot_of s) (spot_of e.0) ≡ o → is_behind (cond (is_eq o) (Some e.1) (kept_fault s es)) (one s fault) ≡ false
          → (is_behind (kept_fault s es) (one s fault) ≡ false → map found_in (insert_entry cmp es s fault) ≡ put_fault (found_in (s, fault)) (map found_in es))
          → map found_in (match_ordering o ((s, fault) ∷ (e ∷ es)) ((e.0, fault) ∷ es) (e ∷ insert_entry cmp es s fault)) ≡ put_by o (found_in (s, fault))
          (found_in e) (map found_in es)
      go Less d k rest = refl
      go Equal d k rest = ap (λ x. x ∷ map found_in es) (replaced s fault e (spot-told s e.0 (place-is (spot_of s) (spot_of e.0) (ap is_eq d))) k)
      go Greater d k rest = ap (λ l. found_in e ∷ l) (rest k)

  pub puts-new : (old new : Kept) (found : One) → is_behind (kept_fault found.spot old) found ≡ false → new ≡ insert_entry cmp old found.spot found.fault
      → Puts (λ fs. map found_in old ≡ in_fault_order fs) (λ fs. map found_in new ≡ in_fault_order fs) (found_of found ∷ [])
  puts-new old new found h put before was =
      ap (map found_in) put ∙ (put-new old found.spot found.fault h ∙ (ap (put_fault (found_of found)) was ∙ sym (puts-append [] before (found_of found ∷ []))))

pub puts-known : (old : Kept) (found : One) → is_behind (kept_fault found.spot old) found ≡ true
    → Puts (λ fs. map found_in old ≡ in_fault_order fs) (λ fs. map found_in old ≡ in_fault_order fs) (found_of found ∷ [])
puts-known old found h before was =
    sym (put-known old found.spot found.fault (subst Rising (sym was) (puts-rising [] before tt)) h)
    ∙ (ap (put_fault (found_of found)) was ∙ sym (puts-append [] before (found_of found ∷ [])))

pub entries-fault : (es : Kept) (fs : List Found) → map found_in es ≡ fs → map (λ (f : Found). f.fault) fs ≡ map (λ (e : Spot × BindFault). e.1) es
entries-fault es fs e = ap (map (λ (f : Found). f.fault)) (sym e) ∙ go es
  where
    go : (es : Kept) → map (λ (f : Found). f.fault) (map found_in es) ≡ map (λ (e : Spot × BindFault). e.1) es
    go [] = refl
    go (x ∷ xs) = ap (λ l. x.1 ∷ l) (go xs)
