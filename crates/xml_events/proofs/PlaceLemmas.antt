-- Texts and names by their places.
use Rattle.std.proofs.Common.{◌≡◌, ℕ, zero, suc, ◌+◌, ◌<◌, ◌≤◌, Bool, true, false, ◌&&◌, ◌||◌, ◌==◌, List, [], ◌∷◌, ◌++◌, length, take, drop, get_or, set, refl}
use Rattle.std.proofs.Common.{sym, ap, subst, ◌∙◌, arith, string_bytes, true≢false, Option, Some, None, option_map, position, if◌then◌else◌, bytes_eq, Result}
use Rattle.std.proofs.Common.{Ok, Err, OnErr}
use Rattle.std.specs.BTreeMap.{get_by_text, is_at, UpdatesBy}
use Rattle.std.specs.Cmp.Lexicographic.{slice_cmp}
use Rattle.std.specs.Global.{Global}
use Rattle.std.specs.List.{list_any}
use Rattle.std.specs.Map.{lookup}
use Rattle.std.specs.Ordering.{nat_cmp}
use Rattle.std.specs.Prelude.{String}
use Rattle.std.specs.String.{string_cmp}
use Rattle.std.proofs.lemmas.Bool.Decides.{nat_tests, same_from_decides, Decides-like, Decides-and, Decides-eqb}
use Rattle.std.proofs.lemmas.List.{append-nil, drop_all, take_all}
use Rattle.std.proofs.lemmas.Map.Text.{btree_map_updates_text}
use Rattle.std.proofs.lemmas.Slice.Eq.{bytes_eq-Decides}
use Rattle.xml_events.specs.declared.kept.Kept.{Kept}
use Rattle.xml_events.specs.NameTables.{is_kept, KeepsOne, added}
use Rattle.xml_events.specs.Places.{Places, is_text, ArePlaced, place_in, AreFiled}
use Rattle.xml_events.proofs.FlipLemmas.{bytes_eq-flips}

-- Places behind one more.
module _ {X : Type 0} (test : X → Bool) where
  pub position-cons : (x : X) (xs : List X) → test x ≡ false → position test (x ∷ xs) ≡ option_map (λ n. n + 1) (position test xs)
  position-cons x xs e = grind (arith, nat_tests)

  pub position-first : (x : X) (xs : List X) → test x ≡ true → position test (x ∷ xs) ≡ Some 0
  position-first x xs e = grind (arith, nat_tests)

  pub any-here : (xs : List X) (n : ℕ) → position test xs ≡ Some n → list_any test xs ≡ true
  any-here [] n h = absurd (let e : None ≡ Some n = h in cc)
  any-here (x ∷ xs) n h = by (test x) refl (position test xs) refl (any-here xs)
    where
      by : (b : Bool) → test x ≡ b → (o : Option ℕ) → position test xs ≡ o → ((k : ℕ) → position test xs ≡ Some k → list_any test xs ≡ true) →
          (test x || list_any test xs) ≡ true
      by true e o f rest = ap (λ b. b || list_any test xs) e
      by false e None f rest = absurd (let g : None ≡ Some n = ap (option_map (λ n. n + 1)) (sym f) ∙ (sym (position-cons x xs e) ∙ h) in cc)
      by false e (Some k) f rest = ap (λ b. b || list_any test xs) e ∙ rest k f

  pub any-nowhere : (xs : List X) → position test xs ≡ None → list_any test xs ≡ false
  any-nowhere [] h = refl
  any-nowhere (x ∷ xs) h = by (test x) refl (position test xs) refl (any-nowhere xs)
    where
      by : (b : Bool) → test x ≡ b → (o : Option ℕ) → position test xs ≡ o → (position test xs ≡ None → list_any test xs ≡ false) →
          (test x || list_any test xs) ≡ false
      by true e o f rest = absurd (let g : Some 0 ≡ None = sym (position-first x xs e) ∙ h in cc)
      by false e None f rest = ap (λ b. b || list_any test xs) e ∙ rest f
      by false e (Some k) f rest = absurd (let g : Some (k + 1) ≡ None = ap (option_map (λ n. n + 1)) (sym f) ∙ (sym (position-cons x xs e) ∙ h) in cc)

  place-push : (xs : List X) (x : X) → test x ≡ true → position test xs ≡ None → position test (xs ++ x ∷ []) ≡ Some (length xs)
  place-push [] x e h = position-first x [] e
  place-push (y ∷ xs) x e h = by (test y) refl (position test xs) refl (place-push xs x e)
    where
      by : (b : Bool) → test y ≡ b → (o : Option ℕ) → position test xs ≡ o → (position test xs ≡ None → position test (xs ++ x ∷ []) ≡ Some (length xs)) →
          position test (y ∷ (xs ++ x ∷ [])) ≡ Some (length (y ∷ xs))
      by true f o g rest = absurd (let g : Some 0 ≡ None = sym (position-first y xs f) ∙ h in cc)
      by false f None g rest =
          let one : length xs + 1 ≡ length (y ∷ xs) = omega arith in
          position-cons y (xs ++ x ∷ []) f ∙ (ap (option_map (λ n. n + 1)) (rest g) ∙ ap Some one)
      by false f (Some k) g rest = absurd (let j : Some (k + 1) ≡ None = ap (option_map (λ n. n + 1)) (sym g) ∙ (sym (position-cons y xs f) ∙ h) in cc)

  place-still : (xs : List X) (x : X) → test x ≡ false → position test (xs ++ x ∷ []) ≡ position test xs
  place-still [] x e = position-cons x [] e
  place-still (y ∷ xs) x e = by (test y) refl (place-still xs x e)
    where
      by : (b : Bool) → test y ≡ b → position test (xs ++ x ∷ []) ≡ position test xs → position test (y ∷ (xs ++ x ∷ [])) ≡ position test (y ∷ xs)
      by true f rest = position-first y (xs ++ x ∷ []) f ∙ sym (position-first y xs f)
      by false f rest = position-cons y (xs ++ x ∷ []) f ∙ (ap (option_map (λ n. n + 1)) rest ∙ sym (position-cons y xs f))

-- a text more, by any text
text-push : (texts : List (String Global)) (last : String Global) (text other : List ℕ) → string_bytes last ≡ text → position (is_text text) texts ≡ None
    → position (is_text other) (texts ++ last ∷ []) ≡ (if bytes_eq text other then Some (length texts) else position (is_text other) texts)
text-push texts last text other is absent = by (bytes_eq text other) refl
  where
    by : (b : Bool) → bytes_eq text other ≡ b → position (is_text other)
        (texts ++ last ∷ []) ≡ (if b then Some (length texts) else position (is_text other) texts)
    by true e =
        let same : text ≡ other = (bytes_eq-Decides text other).0 e in
        place-push (is_text other) texts last (ap (bytes_eq other) is ∙ (bytes_eq-flips other text ∙ e))
        (subst (λ x. position (is_text x) texts ≡ None) same absent)
    by false e = place-still (is_text other) texts last (ap (bytes_eq other) is ∙ (bytes_eq-flips other text ∙ e))

-- Nothing is placed.
pub placed-nothing : (places : Places) → places.entries ≡ [] → ArePlaced places []
placed-nothing places e = record { place = λ text. ap (lookup (is_at (λ (k : String Global). slice_cmp nat_cmp text (string_bytes k)))) e }

-- The same places and texts.
pub placed-same : (places same : Places) (texts still : List (String Global)) → same.entries ≡ places.entries → still ≡ texts → ArePlaced places texts →
    ArePlaced same still
placed-same places same texts still e is placed = record {
  place = λ text.
      ap (lookup (is_at (λ (k : String Global). slice_cmp nat_cmp text (string_bytes k)))) e ∙ (placed.place text ∙ ap (position (is_text text)) (sym is));
}

-- A text more.
pub placed-push : (places more : Places) (texts new : List (String Global)) (key last : String Global) (text : List ℕ) (n : ℕ) → ArePlaced places texts →
    position (is_text text) texts ≡ None → string_bytes key ≡ text
    → string_bytes last ≡ text → n ≡ length texts → UpdatesBy string_cmp (λ (k : String Global). slice_cmp nat_cmp (string_bytes key) (string_bytes k)) places
    more (Some n) → new ≡ texts ++ last ∷ [] → ArePlaced more new
placed-push places more texts new key last text n placed absent k l at updates is = subst (ArePlaced more) (sym is) (record {
  place = λ other.
      btree_map_updates_text (string_bytes key) places more (Some n) updates other
      ∙ (ap (λ x. if bytes_eq x other then Some n else get_by_text places other) k
      ∙ (ap (λ m. if bytes_eq text other then Some m else get_by_text places other) at
      ∙ (ap (λ (o : Option ℕ). if bytes_eq text other then Some (length texts) else o) (placed.place other) ∙ sym (text-push texts last text other l absent))));
})

-- A name more, by any name.
kept-flips : (space n : ℕ) (local other : List ℕ) → ((n == space) && bytes_eq other local) ≡ ((space == n) && bytes_eq local other)
kept-flips space n local other =
    same_from_decides _ _ (Decides-and _ _ (Decides-eqb n space) (bytes_eq-Decides other local))
    (Decides-like _ (λ p. (sym p.0, sym p.1)) (λ p. (sym p.0, sym p.1)) (Decides-and _ _ (Decides-eqb space n) (bytes_eq-Decides local other)))

kept-push : (keys : List Kept) (last : Kept) (space n : ℕ) (local other : List ℕ) → last.space ≡ space → string_bytes last.local ≡ local →
    position (is_kept space local) keys ≡ None
    → position (is_kept n other) (keys ++ last ∷ []) ≡ (if (space == n) && bytes_eq local other then Some (length keys) else position (is_kept n other) keys)
kept-push keys last space n local other s l absent = by ((space == n) && bytes_eq local other) refl
  where
    tested : is_kept n other last ≡ ((space == n) && bytes_eq local other)
    tested = ap (λ m. (n == m) && bytes_eq other (string_bytes last.local)) s ∙ (ap (λ x. (n == space) && bytes_eq other x) l ∙ kept-flips space n local other)

    by : (b : Bool) → ((space == n) && bytes_eq local other) ≡ b →
        position (is_kept n other) (keys ++ last ∷ []) ≡ (if b then Some (length keys) else position (is_kept n other) keys)
    by true e =
        let p = (Decides-and _ _ (Decides-eqb space n) (bytes_eq-Decides local other)).0 e in
        place-push (is_kept n other) keys last (tested ∙ e)
        (subst (λ m. position (is_kept m other) keys ≡ None) p.0 (subst (λ x. position (is_kept space x) keys ≡ None) p.1 absent))
    by false e = place-still (is_kept n other) keys last (tested ∙ e)

-- Nothing is filed.
pub filed-nothing : AreFiled [] []
filed-nothing = record { place = λ space local. refl }

-- The same places by name, and the same names.
pub filed-same : (places same : List Places) (keys still : List Kept) → ((n : ℕ) (local : List ℕ) → place_in same n local ≡ place_in places n local) →
    still ≡ keys → AreFiled places keys → AreFiled same still
filed-same places same keys still e is filed = record { place = λ n local. e n local ∙ (filed.place n local ∙ ap (position (is_kept n local)) (sym is)) }

-- A name more.
pub filed-push : (places more : List Places) (keys new : List Kept) (last : Kept) (space n : ℕ) (local bytes : List ℕ) → AreFiled places keys →
    position (is_kept space local) keys ≡ None → last.space ≡ space
    → string_bytes last.local ≡ local → bytes ≡ local → n ≡ length keys
    → ((m : ℕ) (other : List ℕ) → place_in more m other ≡ (if (space == m) && bytes_eq bytes other then Some n else place_in places m other)) → new ≡ keys ++
    last ∷ [] → AreFiled more new
filed-push places more keys new last space n local bytes filed absent s l b at places_are is = subst (AreFiled more) (sym is) (record {
  place = λ m other.
      places_are m other
      ∙ (ap (λ x. if (space == m) && bytes_eq x other then Some n else place_in places m other) b
      ∙ (ap (λ k. if (space == m) && bytes_eq local other then Some k else place_in places m other) at
      ∙ (ap (λ (o : Option ℕ). if (space == m) && bytes_eq local other then Some (length keys) else o) (filed.place m other) ∙
      sym (kept-push keys last space m local other s l absent))));
})

-- A map more of no names.
pub place-reach : (places : List Places) (empty : Places) (n : ℕ) (local : List ℕ) → empty.entries ≡ [] →
    place_in (places ++ empty ∷ []) n local ≡ place_in places n local
place-reach [] empty zero local e = ap (lookup (is_at (λ (k : String Global). slice_cmp nat_cmp local (string_bytes k)))) e
place-reach [] empty (suc n) local e = refl
place-reach (first ∷ places) empty zero local e = refl
place-reach (first ∷ places) empty (suc n) local e = place-reach places empty n local e

-- The place by the map of the namespace.
pub place-inside : (places : List Places) (space : ℕ) (inside : Places) (local : List ℕ) → space < length places → inside ≡ get_or places space inside →
    get_by_text inside local ≡ place_in places space local
place-inside [] space inside local h e = absurd (omega arith)
place-inside (first ∷ places) zero inside local h e = ap (λ (m : Places). get_by_text m local) e
place-inside (first ∷ places) (suc space) inside local h e = place-inside places space inside local (omega (arith, h)) e

pub place-outside : (places : List Places) (space : ℕ) (local : List ℕ) → length places ≤ space → None ≡ place_in places space local
place-outside [] space local h = refl
place-outside (first ∷ places) zero local h = absurd (omega arith)
place-outside (first ∷ places) (suc space) local h = place-outside places space local (omega (arith, h))

-- The map of one namespace changes.
place-here : (places : List Places) (space : ℕ) (inside : Places) (local : List ℕ) → space < length places →
    place_in (set places space inside) space local ≡ get_by_text inside local
place-here [] space inside local h = absurd (omega arith)
place-here (first ∷ places) zero inside local h = refl
place-here (first ∷ places) (suc space) inside local h = place-here places space inside local (omega (arith, h))

place-other : (places : List Places) (space : ℕ) (inside : Places) (n : ℕ) (local : List ℕ) → (space ≡ n → ⊥) →
    place_in (set places space inside) n local ≡ place_in places n local
place-other [] space inside n local h = refl
place-other (first ∷ places) zero inside zero local h = absurd (h refl)
place-other (first ∷ places) zero inside (suc n) local h = refl
place-other (first ∷ places) (suc space) inside zero local h = refl
place-other (first ∷ places) (suc space) inside (suc n) local h = place-other places space inside n local (λ e. h (ap suc e))

module _ (places : List Places) (space : ℕ) (inside new : Places) (n : ℕ) (local : List ℕ) (h : space < length places)
    (is : inside ≡ get_or places space inside) where
  elsewhere : (space == n) ≡ false → place_in (set places space new) n local ≡ place_in places n local
  elsewhere e = place-other places space new n local (λ p. true≢false (sym ((Decides-eqb space n).1 p) ∙ e))

  at-it : (space == n) ≡ true → place_in (set places space new) n local ≡ get_by_text new local
  at-it e = ap (λ m. place_in (set places space new) m local) (sym ((Decides-eqb space n).0 e)) ∙ place-here places space new local h

  pub filed-in : (key : List ℕ) (place : ℕ) → UpdatesBy string_cmp (λ (k : String Global). slice_cmp nat_cmp key (string_bytes k)) inside new (Some place)
      → place_in (set places space new) n local ≡ (if (space == n) && bytes_eq key local then Some place else place_in places n local)
  filed-in key place updates = by (space == n) refl
    where
      here : get_by_text new local ≡ (if bytes_eq key local then Some place else place_in places space local)
      here =
          btree_map_updates_text key inside new (Some place) updates local
          ∙ ap (λ (o : Option ℕ). if bytes_eq key local then Some place else o) (place-inside places space inside local h is)

      by : (b : Bool) → (space == n) ≡ b → place_in (set places space new) n local ≡ (if b && bytes_eq key local then Some place else place_in places n local)
      by true e = at-it e ∙ (here ∙ ap (λ m. if bytes_eq key local then Some place else place_in places m local) ((Decides-eqb space n).0 e))
      by false e = elsewhere e

  pub filed-still : new.entries ≡ inside.entries → place_in (set places space new) n local ≡ place_in places n local
  filed-still f = by (space == n) refl
    where
      here : get_by_text new local ≡ place_in places space local
      here = ap (lookup (is_at (λ (k : String Global). slice_cmp nat_cmp local (string_bytes k)))) f ∙ place-inside places space inside local h is

      by : (b : Bool) → (space == n) ≡ b → place_in (set places space new) n local ≡ place_in places n local
      by true e = at-it e ∙ (here ∙ ap (λ m. place_in places m local) ((Decides-eqb space n).0 e))
      by false e = elsewhere e

pub on_err : {T E P : Type 0} (r : Result T E) → P → OnErr r P
on_err (Ok value) p = tt
on_err (Err error) p = p

-- What is written through the slice of a list is the list.
pub written-whole : (n : ℕ) (new old : List Places) → length new ≡ n → length old ≡ n → take n (new ++ drop (length new) old) ≡ new
written-whole n new old l m = ap (λ x. take n (new ++ x)) (drop_all (length new) old (omega (arith, l, m))) ∙
    (ap (take n) (append-nil new) ∙ take_all n new (omega (arith, l)))

-- What is kept is one more.
pub keeps-added : (space : ℕ) (local : List ℕ) (keys new : List Kept) (last : Kept) → position (is_kept space local) keys ≡ None → last.space ≡ space →
    string_bytes last.local ≡ local → new ≡ keys ++ last ∷ [] → KeepsOne space local keys new
keeps-added space local keys new last absent s l is = subst (KeepsOne space local keys) (sym is)
    (added last (any-nowhere (is_kept space local) keys absent) s l)
