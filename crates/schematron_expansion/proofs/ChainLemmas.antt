-- The chain of what stands in an element, and what all of it comes to together.
use Rattle.std.proofs.Common.{◌≡◌, ℕ, zero, suc, ◌+◌, ◌-◌, ◌<◌, ◌≤◌, Bool, true, false, cond, nat_eq, eqb-true, List, [], ◌∷◌, ◌++◌, length, get_or, drop}
use Rattle.std.proofs.Common.{Option, Some, None, IfSome, refl, ap, sym, subst, ◌∙◌, append_assoc, append-nil, arith}
use Rattle.std.specs.List.{position_from}
use Rattle.std.proofs.lemmas.List.{length-map, length-drop, get_or-drop, get_or-map, drop_more, drop-map}
use Rattle.std.proofs.Math.Dec.{eqb-zero-suc, eqb-suc-zero, eqb-suc-suc}
use Rattle.schematron_meaning.specs.Entries.{Entry}
use Rattle.schematron_entries.specs.Chains.{next_of}
use Rattle.schematron_entries.specs.declared.entry.Entry.{Entry as Read}
use Rattle.schematron_entries.specs.Seen.{seen_entry, seen_entries}
use Rattle.schematron_expansion.specs.Bodied.{parents, from_place}

pub same_number : (a b : ℕ) → nat_eq a b ≡ nat_eq b a
same_number zero zero = refl
same_number zero (suc b) = eqb-zero-suc b ∙ sym (eqb-suc-zero b)
same_number (suc a) zero = eqb-suc-zero a ∙ sym (eqb-zero-suc a)
same_number (suc a) (suc b) = eqb-suc-suc a b ∙ (same_number a b ∙ sym (eqb-suc-suc b a))

pub itself : (x : ℕ) → nat_eq x x ≡ true
itself zero = refl
itself (suc x) = eqb-suc-suc x x ∙ itself x

-- ---- places

-- the place is not before this one, there, and has the number
abbrev IsPlace : List ℕ → ℕ → ℕ → ℕ → Type 0
IsPlace all n k m = (k ≤ m) × ((m < length all) × (get_or all m 0 ≡ n))

later : (all : List ℕ) (n k : ℕ) (o : Option ℕ) → IfSome o (IsPlace all n (k + 1)) → IfSome o (IsPlace all n k)
later all n k None h = h
later all n k (Some m) h = (omega (arith, h.0), h.1)

begins_within : (all : List ℕ) (k x : ℕ) (xs : List ℕ) → drop k all ≡ x ∷ xs → k < length all
begins_within all k x xs d = omega (arith, sym (length-drop k all) ∙ ap length d)

pub behind_first : {X : Type 0} (all : List X) (k : ℕ) (x : X) (xs : List X) → k < length all → drop k all ≡ x ∷ xs → drop (k + 1) all ≡ xs
behind_first all k x xs within d = ap (drop 1) (sym (drop_more all k x within)) ∙ ap (drop 1) d

placed : (all : List ℕ) (n k : ℕ) (xs : List ℕ) → drop k all ≡ xs → (o : Option ℕ) → position_from (nat_eq n) k xs ≡ o → IfSome o (IsPlace all n k)
placed all n k [] d o h = subst (λ q. IfSome q (IsPlace all n k)) h tt
placed all n k (x ∷ xs) d o h = by (nat_eq n x) refl (placed all n (k + 1) xs (behind_first all k x xs (begins_within all k x xs d) d) o)
  where
    by : (b : Bool) → nat_eq n x ≡ b → (position_from (nat_eq n) (k + 1) xs ≡ o → IfSome o (IsPlace all n (k + 1))) → IfSome o (IsPlace all n k)
    by true e rest =
        let item : get_or all k 0 ≡ n =
        ap (λ i. get_or all i 0) (omega arith) ∙ (sym (get_or-drop k all 0 0) ∙ (ap (λ ys. get_or ys 0 0) d ∙ sym (eqb-true n x e))) in
        subst (λ q. IfSome q (IsPlace all n k)) (sym (ap (λ b. cond b (Some k) (position_from (nat_eq n) (k + 1) xs)) e) ∙ h)
        (omega arith, (begins_within all k x xs d, item))
    by false e rest = later all n k o (rest (sym (ap (λ b. cond b (Some k) (position_from (nat_eq n) (k + 1) xs)) e) ∙ h))

parents_length : (es : List Entry) → length (parents es) ≡ length es
parents_length es = length-map es (λ (e : Entry). e.parent)

-- the place is there, and its entry stands in the element
abbrev IsThere : List Entry → ℕ → ℕ → Type 0
IsThere es n at = (at < length es) × (get_or (parents es) at 0 ≡ n)

-- the next place is behind this one
abbrev pub GoesOn : ℕ → ℕ → Option ℕ → Type 0
GoesOn len at next = IfSome next (λ m. (at < m) × (m < len))

there : (es : List Entry) (n k : ℕ) (o : Option ℕ) → IfSome o (IsPlace (parents es) n k) → IfSome o (IsThere es n)
there es n k None h = h
there es n k (Some m) h = (omega (arith, h.1.0, parents_length es), h.1.1)

goes_on : (es : List Entry) (n at : ℕ) (o : Option ℕ) → IfSome o (IsPlace (parents es) n (at + 1)) → GoesOn (length es) at o
goes_on es n at None h = h
goes_on es n at (Some m) h = (omega (arith, h.0), omega (arith, h.1.0, parents_length es))

-- how far it is to the end
abbrev pub left_from : ℕ → Option ℕ → ℕ
left_from len None = 0
left_from len (Some at) = len - at

goes_down : (len at : ℕ) (next : Option ℕ) → at < len → GoesOn len at next → left_from len next < len - at
goes_down len at None within h = omega (arith, within)
goes_down len at (Some m) within h = omega (arith, within, h.0, h.1)

-- ---- what is found on a chain

-- What entries come to together is what each of the element comes to, one after another.
pub record IsChained {X : Type 0} (n : ℕ) (part : Entry → List X) (whole : List Entry → List X) : Type 0 where
  pub none : whole [] ≡ []
  pub passed : (e : Entry) (es : List Entry) → nat_eq n e.parent ≡ false → whole (e ∷ es) ≡ whole es
  pub taken : (e : Entry) (es : List Entry) → nat_eq n e.parent ≡ true → whole (e ∷ es) ≡ part e ++ whole es

-- What was found, and what the entries from the next place on come to, are the whole.
pub record OnChain {X : Type 0} (whole : List Entry → List X) (es : List Entry) (n : ℕ) (found : List X) (next : Option ℕ) : Type 0 where
  pub place : IfSome next (IsThere es n)
  pub left : found ++ whole (from_place es next) ≡ whole es

module _ {X : Type 0} (n : ℕ) (part : Entry → List X) (whole : List Entry → List X) (laws : IsChained n part whole) where
  -- what is between a place and the next one comes to nothing
  skipped : (es : List Entry) (k : ℕ) (rest : List Entry) → drop k es ≡ rest → whole (from_place es (position_from (nat_eq n) k (parents rest))) ≡ whole rest
  skipped es k [] d = refl
  skipped es k (e ∷ rest) d =
      by (nat_eq n e.parent) refl (skipped es (k + 1) rest (behind_first es k e rest (omega (arith, sym (length-drop k es) ∙ ap length d)) d))
    where
      by : (b : Bool) → nat_eq n e.parent ≡ b → whole (from_place es (position_from (nat_eq n) (k + 1) (parents rest))) ≡ whole rest
          → whole (from_place es (cond (nat_eq n e.parent) (Some k) (position_from (nat_eq n) (k + 1) (parents rest)))) ≡ whole (e ∷ rest)
      by true h more = ap (λ b. whole (from_place es (cond b (Some k) (position_from (nat_eq n) (k + 1) (parents rest))))) h ∙ ap whole d
      by false h more = ap (λ b. whole (from_place es (cond b (Some k) (position_from (nat_eq n) (k + 1) (parents rest))))) h
          ∙ (more ∙ sym (laws.passed e rest h))

  pub chain_begins : (es : List Entry) (numbers : List ℕ) (found : List X) (next : Option ℕ) → numbers ≡ parents es → found ≡ []
      → next ≡ position_from (nat_eq n) 0 numbers → OnChain whole es n found next
  chain_begins es numbers found next c p f =
      let is : next ≡ position_from (nat_eq n) 0 (parents es) = f ∙ ap (position_from (nat_eq n) 0) c in record {
        place = there es n 0 next (placed (parents es) n 0 (parents es) refl next (sym is));
        left = ap (λ ps. ps ++ whole (from_place es next)) p ∙ (ap (λ o. whole (from_place es o)) is ∙ skipped es 0 es refl);
      }

  -- one place on
  chain_goes : (es : List Entry) (at : ℕ) (numbers : List ℕ) (found more : List X) (e : Entry) (next : Option ℕ) → numbers ≡ parents es
      → OnChain whole es n found (Some at) → e ≡ get_or es at e
      → more ≡ found ++ part e → next ≡ next_of numbers at → OnChain whole es n more next × GoesOn (length es) at next
  chain_goes es at numbers found more e next c h here m f =
      let is : next ≡ position_from (nat_eq n) (at + 1) (parents (drop (at + 1) es)) =
      f ∙ (ap (λ xs. next_of xs at) c ∙ (ap (λ x. position_from (nat_eq x) (at + 1) (drop (at + 1) (parents es))) h.place.1
      ∙ ap (position_from (nat_eq n) (at + 1)) (drop-map (λ (y : Entry). y.parent) (at + 1) es))) in
      let known : IfSome next (IsPlace (parents es) n (at + 1)) =
      placed (parents es) n (at + 1) (parents (drop (at + 1) es)) (drop-map (λ (y : Entry). y.parent) (at + 1) es) next (sym is) in
      let front : drop at es ≡ e ∷ drop (at + 1) es = drop_more es at e h.place.0 ∙ ap (λ y. y ∷ drop (at + 1) es) (sym here) in
      let inside : nat_eq n e.parent ≡ true =
      ap (λ x. nat_eq x e.parent) (sym h.place.1 ∙ (get_or-map (λ (y : Entry). y.parent) es at e 0 h.place.0 ∙ ap (λ (y : Entry). y.parent) (sym here)))
      ∙ itself e.parent in (
        record {
          place = there es n (at + 1) next known;
          left = ap (λ ps. ps ++ whole (from_place es next)) m
              ∙ (append_assoc found (part e) (whole (from_place es next))
              ∙ (ap (λ ps. found ++ ps) (ap (λ ps. part e ++ ps) (ap (λ o. whole (from_place es o)) is ∙ skipped es (at + 1) (drop (at + 1) es) refl)
              ∙ (sym (laws.taken e (drop (at + 1) es) inside) ∙ ap whole (sym front)))
              ∙ h.left));
        },
        goes_on es n at next known,
      )

  -- the loop's step, where the entry is one of those that were read
  pub chain_on : (entries : List Read) (at : ℕ) (numbers : List ℕ) (found more : List X) (e : Read) (now next : Option ℕ)
      → now ≡ Some at → numbers ≡ parents (seen_entries entries)
      → OnChain whole (seen_entries entries) n found now → e ≡ get_or entries at e → more ≡ found ++ part (seen_entry e) → next ≡ next_of numbers at
      → OnChain whole (seen_entries entries) n more next × (left_from (length (seen_entries entries)) next < left_from (length (seen_entries entries)) now)
  chain_on entries at numbers found more e now next is c h here m f =
      let es : List Entry = seen_entries entries in
      let at_it : OnChain whole es n found (Some at) = subst (OnChain whole es n found) is h in
      let within : at < length entries = omega (arith, at_it.place.0, length-map entries seen_entry) in
      let both = chain_goes es at numbers found more (seen_entry e) next c at_it (ap seen_entry here
      ∙ sym (get_or-map seen_entry entries at e (seen_entry e) within)) m f in
      (both.0, subst (λ o. left_from (length es) next < left_from (length es) o) (sym is) (goes_down (length es) at next at_it.place.0 both.1))

  pub chain_ends : (es : List Entry) (found : List X) → OnChain whole es n found None → found ≡ whole es
  chain_ends es found h = sym (append-nil found) ∙ (ap (λ ps. found ++ ps) (sym laws.none) ∙ h.left)
