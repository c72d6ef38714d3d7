-- Marks moved over a text end where the text is one that the operators have.
use Rattle.std.proofs.Common.{◌≡◌, ℕ, Bool, true, false, ◌&&◌, ◌||◌, List, [], ◌∷◌, ◌++◌, refl, sym, ap, subst, ◌⊎◌, inl, inr}
use Rattle.xsd_pattern.specs.Cuts.{Cut, AllIn, joined}
use Rattle.xsd_pattern.specs.Core.{Core, Has, Run, is_empty}
use Rattle.xsd_pattern.specs.Core as r
use Rattle.xsd_pattern.specs.Marks.{Marked, plain, unmarked, at_end, moved, found, is_in, nothing, one, both, either, maybe, again}

-- ---- tests

pub or_true : (a b : Bool) → a || b ≡ true → (a ≡ true) ⊎ (b ≡ true)
or_true true b e = inl refl
or_true false b e = inr e

pub or_left : (a b : Bool) → a ≡ true → a || b ≡ true
or_left true b e = refl
or_left false b e = cc

pub or_right : (a b : Bool) → b ≡ true → a || b ≡ true
or_right true b e = refl
or_right false b e = e

pub and_true : (a b : Bool) → a && b ≡ true → (a ≡ true) × (b ≡ true)
and_true true b e = (refl, e)
and_true false b e = cc

pub and_yes : (a b : Bool) → a ≡ true → b ≡ true → a && b ≡ true
and_yes true b e h = h
and_yes false b e h = cc

-- ---- cuts

abbrev pub head_or : ℕ → List ℕ → ℕ
head_or d [] = d
head_or d (c ∷ text) = c

abbrev pub tail_of : List ℕ → List ℕ
tail_of [] = []
tail_of (c ∷ text) = text

pub cut_nil : (P Q : List ℕ → Type 0) (front back : List ℕ) → [] ≡ front ++ back → P front → Q back → P [] × Q []
cut_nil P Q [] back e h k = (h, subst Q (sym e) k)
cut_nil P Q (c ∷ front) back e h k = cc

-- Either the front is empty, or it begins with the first character.
abbrev pub Begun : (List ℕ → Type 0) → (List ℕ → Type 0) → ℕ → List ℕ → Type 0
Begun P Q c text = (P [] × Q (c ∷ text)) ⊎ Cut (λ front. P (c ∷ front)) Q text

cut_at : (P Q : List ℕ → Type 0) (c : ℕ) (text front back : List ℕ) → c ∷ text ≡ front ++ back → P front → Q back → Begun P Q c text
cut_at P Q c text [] back e h k = inl (h, subst Q (sym e) k)
cut_at P Q c text (d ∷ front) back e h k = inr (front, back, ap tail_of e, subst (λ x. P (x ∷ front)) (sym (ap (head_or 0) e)) h, k)

pub cut_cons : (P Q : List ℕ → Type 0) (c : ℕ) (text : List ℕ) → Cut P Q (c ∷ text) → Begun P Q c text
cut_cons P Q c text (front, back, e, h, k) = cut_at P Q c text front back e h k

-- the first part that isn't empty begins with the first character
pub run_at : (P : List ℕ → Type 0) (c : ℕ) (text : List ℕ) (parts : List (List ℕ)) → AllIn P parts → c ∷ text ≡ joined parts
    → Cut (λ front. P (c ∷ front)) (Run P) text
run_at P c text [] h e = cc
run_at P c text ([] ∷ parts) (h, k) e = run_at P c text parts k e
run_at P c text ((d ∷ part) ∷ parts) (h, k) e = (part, joined parts, ap tail_of e, subst (λ x. P (x ∷ part)) (sym (ap (head_or 0) e)) h, (parts, k, refl))

pub run_cons : (P : List ℕ → Type 0) (c : ℕ) (text : List ℕ) → Run P (c ∷ text) → Cut (λ front. P (c ∷ front)) (Run P) text
run_cons P c text (parts, h, e) = run_at P c text parts h e

pub run_more : (P : List ℕ → Type 0) (front back : List ℕ) → P front → Run P back → Run P (front ++ back)
run_more P front back h (parts, k, e) = (front ∷ parts, (h, k), ap (λ text. front ++ text) e)

module _ {C : Type 0} (has : C → ℕ → Bool) where
  -- from some mark the text leads to the end
  abbrev pub Rest : (Marked C) → List ℕ → Type 0
  Rest nothing text = ⊥
  Rest (one class mark) text = (mark ≡ true) × (text ≡ [])
  Rest (both x y) text = Cut (Rest x) (Has has (plain y)) text ⊎ Rest y text
  Rest (either x y) text = Rest x text ⊎ Rest y text
  Rest (maybe x) text = Rest x text
  Rest (again x) text = Cut (Rest x) (Run (Has has (plain x))) text

  -- ---- the empty text

  pub empty-yes : (x : (Core C)) → is_empty x ≡ true → Has has x []
  empty-yes r.nothing e = refl
  empty-yes (r.one class) e = cc
  empty-yes (r.both x y) e = let h = and_true (is_empty x) (is_empty y) e in ([], [], refl, empty-yes x h.0, empty-yes y h.1)
  empty-yes (r.either x y) e = elim (or_true (is_empty x) (is_empty y) e) [ inl h ↦ inl (empty-yes x h) | inr h ↦ inr (empty-yes y h) ]
  empty-yes (r.maybe x) e = inl refl
  empty-yes (r.again x) e = ([], [], refl, empty-yes x e, ([], tt, refl))

  pub empty-only : (x : (Core C)) → Has has x [] → is_empty x ≡ true
  empty-only r.nothing h = refl
  empty-only (r.one class) (c, e, h) = cc
  empty-only (r.both x y) (front, back, e, h, k) = let n = cut_nil (Has has x) (Has has y) front back e h k in and_yes (is_empty x) (is_empty y)
      (empty-only x n.0) (empty-only y n.1)
  empty-only (r.either x y) (inl h) = or_left (is_empty x) (is_empty y) (empty-only x h)
  empty-only (r.either x y) (inr h) = or_right (is_empty x) (is_empty y) (empty-only y h)
  empty-only (r.maybe x) h = refl
  empty-only (r.again x) (front, back, e, h, k) = empty-only x (cut_nil (Has has x) (Run (Has has x)) front back e h k).0

  pub end-yes : (x : (Marked C)) → at_end x ≡ true → Rest x []
  end-yes nothing e = cc
  end-yes (one class mark) e = (e, refl)
  end-yes (both x y) e = elim (or_true (at_end y) (at_end x && is_empty (plain y)) e) [
    | inl h ↦ inr (end-yes y h)
    | inr h ↦ let k = and_true (at_end x) (is_empty (plain y)) h in inl ([], [], refl, end-yes x k.0, empty-yes (plain y) k.1)
  ]
  end-yes (either x y) e = elim (or_true (at_end x) (at_end y) e) [ inl h ↦ inl (end-yes x h) | inr h ↦ inr (end-yes y h) ]
  end-yes (maybe x) e = end-yes x e
  end-yes (again x) e = ([], [], refl, end-yes x e, ([], tt, refl))

  pub end-only : (x : (Marked C)) → Rest x [] → at_end x ≡ true
  end-only nothing h = absurd h
  end-only (one class mark) h = h.0
  end-only (both x y) (inl (front, back, e, h, k)) = let n = cut_nil (Rest x) (Has has (plain y)) front back e h k in
      or_right (at_end y) (at_end x && is_empty (plain y)) (and_yes (at_end x) (is_empty (plain y)) (end-only x n.0) (empty-only (plain y) n.1))
  end-only (both x y) (inr h) = or_left (at_end y) (at_end x && is_empty (plain y)) (end-only y h)
  end-only (either x y) (inl h) = or_left (at_end x) (at_end y) (end-only x h)
  end-only (either x y) (inr h) = or_right (at_end x) (at_end y) (end-only y h)
  end-only (maybe x) h = end-only x h
  end-only (again x) (front, back, e, h, k) = end-only x (cut_nil (Rest x) (Run (Has has (plain x))) front back e h k).0

  -- ---- marks leave the pattern

  pub plain-unmarked : (x : (Core C)) → plain (unmarked x) ≡ x
  plain-unmarked r.nothing = refl
  plain-unmarked (r.one class) = refl
  plain-unmarked (r.both x y) = λ i. r.both (plain-unmarked x i) (plain-unmarked y i)
  plain-unmarked (r.either x y) = λ i. r.either (plain-unmarked x i) (plain-unmarked y i)
  plain-unmarked (r.maybe x) = λ i. r.maybe (plain-unmarked x i)
  plain-unmarked (r.again x) = λ i. r.again (plain-unmarked x i)

  pub plain-moved : (c : ℕ) (here : Bool) (x : (Marked C)) → plain (moved has c here x) ≡ plain x
  plain-moved c here nothing = refl
  plain-moved c here (one class mark) = refl
  plain-moved c here (both x y) = λ i. r.both (plain-moved c here x i) (plain-moved c (at_end x || (here && is_empty (plain x))) y i)
  plain-moved c here (either x y) = λ i. r.either (plain-moved c here x i) (plain-moved c here y i)
  plain-moved c here (maybe x) = λ i. r.maybe (plain-moved c here x i)
  plain-moved c here (again x) = λ i. r.again (plain-moved c (here || at_end x) x i)

  pub no_marks : (x : (Core C)) (text : List ℕ) → Rest (unmarked x) text → ⊥
  no_marks r.nothing text h = h
  no_marks (r.one class) text (e, k) = cc
  no_marks (r.both x y) text (inl (front, back, e, h, k)) = no_marks x front h
  no_marks (r.both x y) text (inr h) = no_marks y text h
  no_marks (r.either x y) text (inl h) = no_marks x text h
  no_marks (r.either x y) text (inr h) = no_marks y text h
  no_marks (r.maybe x) text h = no_marks x text h
  no_marks (r.again x) text (front, back, e, h, k) = no_marks x front h

  -- ---- a character

  -- the text goes on from a mark, or is one of the pattern that begins here
  abbrev pub Goes : Bool → (Marked C) → List ℕ → Type 0
  Goes here x text = Rest x text ⊎ ((here ≡ true) × Has has (plain x) text)

  has_moved : (c : ℕ) (here : Bool) (x : (Marked C)) (text : List ℕ) → Has has (plain (moved has c here x)) text → Has has (plain x) text
  has_moved c here x text h = subst (λ p. Has has p text) (plain-moved c here x) h

  moved_has : (c : ℕ) (here : Bool) (x : (Marked C)) (text : List ℕ) → Has has (plain x) text → Has has (plain (moved has c here x)) text
  moved_has c here x text h = subst (λ p. Has has p text) (sym (plain-moved c here x)) h

  run_moved : (c : ℕ) (here : Bool) (x : (Marked C)) (text : List ℕ) → Run (Has has (plain (moved has c here x))) text → Run (Has has (plain x)) text
  run_moved c here x text h = subst (λ p. Run (Has has p) text) (plain-moved c here x) h

  moved_run : (c : ℕ) (here : Bool) (x : (Marked C)) (text : List ℕ) → Run (Has has (plain x)) text → Run (Has has (plain (moved has c here x))) text
  moved_run c here x text h = subst (λ p. Run (Has has p) text) (sym (plain-moved c here x)) h

  pub moved-only : (c : ℕ) (here : Bool) (x : (Marked C)) (text : List ℕ) → Rest (moved has c here x) text → Goes here x (c ∷ text)
  moved-only c here nothing text h = absurd h
  moved-only c here (one class mark) text (e, k) = let h = and_true here (has class c) e in inr (h.0, (c, ap (λ t. c ∷ t) k, h.1))
  moved-only c here (both x y) text (inl (front, back, e, h, k)) = elim (moved-only c here x front h) [
    | inl g ↦ inl (inl (c ∷ front, back, ap (λ t. c ∷ t) e, g, has_moved c (at_end x || (here && is_empty (plain x))) y back k))
    | inr (b, g) ↦ inr (b, (c ∷ front, back, ap (λ t. c ∷ t) e, g, has_moved c (at_end x || (here && is_empty (plain x))) y back k))
  ]
  moved-only c here (both x y) text (inr h) = elim (moved-only c (at_end x || (here && is_empty (plain x))) y text h) [
    | inl g ↦ inl (inr g)
    | inr (b, g) ↦ elim (or_true (at_end x) (here && is_empty (plain x)) b) [
      | inl e ↦ inl (inl ([], c ∷ text, refl, end-yes x e, g))
      | inr e ↦ let k = and_true here (is_empty (plain x)) e in inr (k.0, ([], c ∷ text, refl, empty-yes (plain x) k.1, g))
    ]
  ]
  moved-only c here (either x y) text (inl h) = elim (moved-only c here x text h) [ inl g ↦ inl (inl g) | inr (b, g) ↦ inr (b, inl g) ]
  moved-only c here (either x y) text (inr h) = elim (moved-only c here y text h) [ inl g ↦ inl (inr g) | inr (b, g) ↦ inr (b, inr g) ]
  moved-only c here (maybe x) text h = elim (moved-only c here x text h) [ inl g ↦ inl g | inr (b, g) ↦ inr (b, inr g) ]
  moved-only c here (again x) text (front, back, e, h, k) = let run = run_moved c (here || at_end x) x back k in elim (moved-only c
      (here || at_end x) x front h) [
        | inl g ↦ inl (c ∷ front, back, ap (λ t. c ∷ t) e, g, run)
        | inr (b, g) ↦ elim (or_true here (at_end x) b) [
          | inl n ↦ inr (n, (c ∷ front, back, ap (λ t. c ∷ t) e, g, run))
          | inr n ↦ inl (
            [],
            c ∷ text,
            refl,
            end-yes x n,
            subst (Run (Has has (plain x))) (ap (λ t. c ∷ t) (sym e)) (run_more (Has has (plain x))
                (c ∷ front) back g run),
          )
        ]
      ]

  pub moved-yes : (c : ℕ) (here : Bool) (x : (Marked C)) (text : List ℕ) → Goes here x (c ∷ text) → Rest (moved has c here x) text
  moved-yes c here nothing text (inl h) = absurd h
  moved-yes c here nothing text (inr (b, e)) = cc
  moved-yes c here (one class mark) text (inl (e, k)) = cc
  moved-yes c here (one class mark) text (inr (b, (d, e, h))) = (
    and_yes here (has class c) b (subst (λ x. has class x ≡ true) (sym (ap (head_or 0) e)) h),
    ap tail_of e,
  )
  moved-yes c here (both x y) text (inl (inl cut)) = elim (cut_cons (Rest x) (Has has (plain y)) c text cut) [
    | inl (h, k) ↦ inr (moved-yes c (at_end x || (here && is_empty (plain x))) y text (inr (or_left (at_end x) (here && is_empty (plain x)) (end-only x h), k)))
    | inr (front, back, e, h, k) ↦ inl (front, back, e, moved-yes c here x front (inl h), moved_has c (at_end x || (here && is_empty (plain x))) y back k)
  ]
  moved-yes c here (both x y) text (inl (inr h)) = inr (moved-yes c (at_end x || (here && is_empty (plain x))) y text (inl h))
  moved-yes c here (both x y) text (inr (b, cut)) = elim (cut_cons (Has has (plain x)) (Has has (plain y)) c text cut) [
    | inl (h, k) ↦ inr (moved-yes c (at_end x || (here && is_empty (plain x))) y text (inr (
      or_right (at_end x) (here && is_empty (plain x)) (and_yes here
          (is_empty (plain x)) b (empty-only (plain x) h)),
      k,
    )))
    | inr (front, back, e, h, k) ↦ inl (front, back, e, moved-yes c here x front (inr (b, h)), moved_has c (at_end x || (here && is_empty (plain x))) y back k)
  ]
  moved-yes c here (either x y) text (inl (inl h)) = inl (moved-yes c here x text (inl h))
  moved-yes c here (either x y) text (inl (inr h)) = inr (moved-yes c here y text (inl h))
  moved-yes c here (either x y) text (inr (b, inl h)) = inl (moved-yes c here x text (inr (b, h)))
  moved-yes c here (either x y) text (inr (b, inr h)) = inr (moved-yes c here y text (inr (b, h)))
  moved-yes c here (maybe x) text (inl h) = moved-yes c here x text (inl h)
  moved-yes c here (maybe x) text (inr (b, inl e)) = cc
  moved-yes c here (maybe x) text (inr (b, inr h)) = moved-yes c here x text (inr (b, h))
  moved-yes c here (again x) text (inl cut) = elim (cut_cons (Rest x) (Run (Has has (plain x))) c text cut) [
    | inl (h, run) ↦ let (front, back, e, g, k) = run_cons (Has has (plain x)) c text run in (
      front,
      back,
      e,
      moved-yes c (here || at_end x) x front (inr (or_right here (at_end x) (end-only x h), g)),
      moved_run c (here || at_end x) x back k,
    )
    | inr (front, back, e, h, k) ↦ (front, back, e, moved-yes c (here || at_end x) x front (inl h), moved_run c (here || at_end x) x back k)
  ]
  moved-yes c here (again x) text (inr (b, cut)) = elim (cut_cons (Has has (plain x)) (Run (Has has (plain x))) c text cut) [
    | inl (h, run) ↦ let (front, back, e, g, k) = run_cons (Has has (plain x)) c text run in (
      front,
      back,
      e,
      moved-yes c (here || at_end x) x front (inr (or_left here (at_end x) b, g)),
      moved_run c (here || at_end x) x back k,
    )
    | inr (front, back, e, h, k) ↦ (
      front,
      back,
      e,
      moved-yes c (here || at_end x) x front (inr (or_left here (at_end x) b, h)),
      moved_run c (here || at_end x) x back k,
    )
  ]

  -- ---- texts

  pub found-yes : (x : (Marked C)) (text : List ℕ) → Rest x text → found has x text ≡ true
  found-yes x [] h = end-only x h
  found-yes x (c ∷ text) h = found-yes (moved has c false x) text (moved-yes c false x text (inl h))

  pub found-only : (x : (Marked C)) (text : List ℕ) → found has x text ≡ true → Rest x text
  found-only x [] e = end-yes x e
  found-only x (c ∷ text) e = elim (moved-only c false x text (found-only (moved has c false x) text e)) [ inl h ↦ h | inr (b, h) ↦ cc ]

  pub is_in-yes : (x : (Core C)) (text : List ℕ) → Has has x text → is_in has x text ≡ true
  is_in-yes x [] h = empty-only x h
  is_in-yes x (c ∷ text) h = found-yes _ text (moved-yes c true (unmarked x) text (inr (refl, subst (λ p. Has has p (c ∷ text)) (sym (plain-unmarked x)) h)))

  pub is_in-only : (x : (Core C)) (text : List ℕ) → is_in has x text ≡ true → Has has x text
  is_in-only x [] e = empty-yes x e
  is_in-only x (c ∷ text) e = elim (moved-only c true (unmarked x) text (found-only _ text e)) [
    | inl h ↦ absurd (no_marks x (c ∷ text) h)
    | inr (b, h) ↦ subst (λ p. Has has p (c ∷ text)) (plain-unmarked x) h
  ]
