-- A pattern is found where what it comes down to has the text.
use Rattle.std.proofs.Common.{◌≡◌, ℕ, Bool, true, false, List, [], ◌∷◌, ◌++◌, Option, Some, None, length, refl, sym, ap, subst, ◌∙◌, ◌⊎◌, inl, inr, append-nil}
use Rattle.std.proofs.Common.{zero, suc, arith}
use Rattle.xsd_pattern.specs.declared.token.Class.{Class}
use Rattle.xsd_pattern.specs.declared.token.Repeat.{Repeat}
use Rattle.xsd_pattern.specs.Classes.{has, any, least, more}
use Rattle.xsd_pattern.specs.Cuts.{Cut, AllIn, joined}
use Rattle.xsd_pattern.specs.Grammar.{Re, Branch, Piece, Atom, Top}
use Rattle.xsd_pattern.specs.Grammar as g
use Rattle.xsd_pattern.specs.Finding.{Parted, IsUpTo, IsOne, InRe, InBranch, InAtom, FindsLine, Finds}
use Rattle.xsd_pattern.specs.Core.{Core, Has, Run, times, up_to}
use Rattle.xsd_pattern.specs.Core as r
use Rattle.xsd_pattern.specs.Matching.{cores, is_nothing, pick, both_of, may, either_of, repeated, open_at, line_of}
use Rattle.xsd_pattern.specs.Machine as m
use Rattle.xsd_pattern.proofs.Repeats.{all_in, parted-yes, parted-only}

abbrev HasOf : Core Class → List ℕ → Type 0
HasOf x = Has has x

nothing_is : (x : Core Class) → is_nothing x ≡ true → x ≡ r.nothing
nothing_is r.nothing e = refl
nothing_is (r.one class) e = cc
nothing_is (r.both x y) e = cc
nothing_is (r.either x y) e = cc
nothing_is (r.maybe x) e = cc
nothing_is (r.again x) e = cc

pick-yes : (b : Bool) (x y : Core Class) (t : List ℕ) → (b ≡ true → HasOf x t) → (b ≡ false → HasOf y t) → HasOf (pick b x y) t
pick-yes true x y t h k = h refl
pick-yes false x y t h k = k refl

pick-only : (Q : Type 0) (b : Bool) (x y : Core Class) (t : List ℕ) → (b ≡ true → HasOf x t → Q) → (b ≡ false → HasOf y t → Q) → HasOf (pick b x y) t → Q
pick-only Q true x y t h k p = h refl p
pick-only Q false x y t h k p = k refl p

empty_of : (x : Core Class) (t : List ℕ) → is_nothing x ≡ true → HasOf x t → t ≡ []
empty_of x t e h = subst (λ y. HasOf y t) (nothing_is x e) h

of_empty : (x : Core Class) (t : List ℕ) → is_nothing x ≡ true → t ≡ [] → HasOf x t
of_empty x t e h = subst (λ y. HasOf y t) (sym (nothing_is x e)) h

both-yes : (x y : Core Class) (t : List ℕ) → Cut (HasOf x) (HasOf y) t → HasOf (both_of x y) t
both-yes x y t (front, back, e, h, k) = pick-yes (is_nothing x) y _ t
    (λ b. subst (HasOf y) (sym (e ∙ ap (λ f. f ++ back) (empty_of x front b h))) k)
    (λ n. pick-yes (is_nothing y) x (r.both x y) t
    (λ b. subst (HasOf x) (sym (e ∙ (ap (λ f. front ++ f) (empty_of y back b k) ∙ append-nil front))) h)
    (λ n. (front, back, e, h, k)))

both-only : (x y : Core Class) (t : List ℕ) → HasOf (both_of x y) t → Cut (HasOf x) (HasOf y) t
both-only x y t h = pick-only _ (is_nothing x) y _ t
    (λ b k. ([], t, refl, of_empty x [] b refl, k))
    (λ n p. pick-only _ (is_nothing y) x (r.both x y) t (λ b k. (t, [], sym (append-nil t), k, of_empty y [] b refl)) (λ n c. c) p) h

may-yes : (x : Core Class) (t : List ℕ) → (t ≡ []) ⊎ HasOf x t → HasOf (may x) t
may-yes x t h = pick-yes (is_nothing x) r.nothing (r.maybe x) t (λ b. elim h [ inl e ↦ e | inr k ↦ empty_of x t b k ]) (λ n. h)

may-only : (x : Core Class) (t : List ℕ) → HasOf (may x) t → (t ≡ []) ⊎ HasOf x t
may-only x t h = pick-only _ (is_nothing x) r.nothing (r.maybe x) t (λ b e. inl e) (λ n k. k) h

either-yes : (x y : Core Class) (t : List ℕ) → HasOf x t ⊎ HasOf y t → HasOf (either_of x y) t
either-yes x y t h = pick-yes (is_nothing x) (may y) _ t
    (λ b. may-yes y t (elim h [ inl k ↦ inl (empty_of x t b k) | inr k ↦ inr k ]))
    (λ n. pick-yes (is_nothing y) (may x) (r.either x y) t (λ b. may-yes x t (elim h [ inl k ↦ inr k | inr k ↦ inl (empty_of y t b k) ])) (λ n. h))

either-only : (x y : Core Class) (t : List ℕ) → HasOf (either_of x y) t → HasOf x t ⊎ HasOf y t
either-only x y t h = pick-only _ (is_nothing x) (may y) _ t
    (λ b k. elim (may-only y t k) [ inl e ↦ inl (of_empty x t b e) | inr k ↦ inr k ])
    (λ n p. pick-only _ (is_nothing y) (may x) (r.either x y) t (λ b k. elim (may-only x t k) [ inl e ↦ inr (of_empty y t b e) | inr k ↦ inl k ])
    (λ n k. k) p) h

-- parts of nothing are nothing
joined_empty : (x : Core Class) (parts : List (List ℕ)) → is_nothing x ≡ true → AllIn (HasOf x) parts → joined parts ≡ []
joined_empty x [] b h = refl
joined_empty x (part ∷ parts) b (h, k) = (λ i. empty_of x part b h i ++ joined parts) ∙ joined_empty x parts b k

repeated-yes : (q : Repeat) (x : Core Class) (t : List ℕ) → Parted q (HasOf x) t → HasOf (repeated q x) t
repeated-yes q x t (parts, l, m, h, e) = pick-yes (is_nothing x) r.nothing _ t (λ b. e
    ∙ joined_empty x parts b h) (λ n. parted-yes has q x t (parts, l, m, h, e))

some_empty : (x : Core Class) (n : ℕ) → is_nothing x ≡ true → (parts : List (List ℕ)) × (length parts ≡ n) × AllIn (HasOf x) parts × ([] ≡ joined parts)
some_empty x zero b = ([], refl, tt, refl)
some_empty x (suc n) b = let (parts, l, h, e) = some_empty x n b in ([] ∷ parts, ap suc l, (of_empty x [] b refl, h), e)

pub up_to_least : (n low : ℕ) (high : Option ℕ) → n ≡ low → IsUpTo n low high
up_to_least n low None e = tt
up_to_least n low (Some high) e = omega arith

repeated-only : (q : Repeat) (x : Core Class) (t : List ℕ) → HasOf (repeated q x) t → Parted q (HasOf x) t
repeated-only q x t h = pick-only _ (is_nothing x) r.nothing _ t
    (λ b e. let (parts, l, k, d) = some_empty x (least q) b in (parts, omega (arith, l), up_to_least (length parts) (least q) (more q) l, k, e ∙ d))
    (λ n k. parted-only has q x t k) h

-- ---- trees

mutual
  re-yes : (x : Re Class) (t : List ℕ) → InRe has x t → HasOf (m.of_re cores x) t
  re-yes (g.only b) t h = branch-yes b t h
  re-yes (g.or x b) t (inl h) = either-yes _ _ t (inl (re-yes x t h))
  re-yes (g.or x b) t (inr h) = either-yes _ _ t (inr (branch-yes b t h))

  branch-yes : (b : Branch Class) (t : List ℕ) → InBranch has b t → HasOf (m.of_branch cores b) t
  branch-yes g.none t h = h
  branch-yes (g.then b (g.once a)) t (front, back, e, h, k) = both-yes _ _ t (front, back, e, branch-yes b front h, atom-yes a back k)
  branch-yes (g.then b (g.many a q)) t (front, back, e, h, (parts, l, n, k, d)) =
      both-yes _ _ t (
        front,
        back,
        e,
        branch-yes b front h,
        repeated-yes q _ back (
          parts,
          l,
          n,
          all_in (InAtom has a) (HasOf (m.of_atom cores a)) (atom-yes a) parts k,
          d,
        ),
      )

  atom-yes : (a : Atom Class) (t : List ℕ) → InAtom has a t → HasOf (m.of_atom cores a) t
  atom-yes (g.one class) t h = h
  atom-yes (g.group x) t h = re-yes x t h

mutual
  re-only : (x : Re Class) (t : List ℕ) → HasOf (m.of_re cores x) t → InRe has x t
  re-only (g.only b) t h = branch-only b t h
  re-only (g.or x b) t h = elim (either-only (m.of_re cores x) (m.of_branch cores b) t h) [ inl k ↦ inl (re-only x t k) | inr k ↦ inr (branch-only b t k) ]

  branch-only : (b : Branch Class) (t : List ℕ) → HasOf (m.of_branch cores b) t → InBranch has b t
  branch-only g.none t h = h
  branch-only (g.then b (g.once a)) t h = let (front, back, e, k, d) = both-only (m.of_branch cores b) (m.of_atom cores a) t h in (
    front,
    back,
    e,
    branch-only b front k,
    atom-only a back d,
  )
  branch-only (g.then b (g.many a q)) t h = let (front, back, e, k, d) = both-only (m.of_branch cores b) (repeated q (m.of_atom cores a)) t h in
      let (parts, l, n, u, v) = repeated-only q (m.of_atom cores a) back d in
      (front, back, e, branch-only b front k, (parts, l, n, all_in (HasOf (m.of_atom cores a)) (InAtom has a) (atom-only a) parts u, v))

  atom-only : (a : Atom Class) (t : List ℕ) → HasOf (m.of_atom cores a) t → InAtom has a t
  atom-only (g.one class) t h = h
  atom-only (g.group x) t h = re-only x t h

-- ---- lines

any_run : (t : List ℕ) → Run (IsOne has any) t
any_run [] = ([], tt, refl)
any_run (c ∷ t) = let (parts, h, e) = any_run t in ((c ∷ []) ∷ parts, ((c, refl, refl), h), ap (λ x. c ∷ x) e)

open-yes : (b : Bool) (t : List ℕ) → (b ≡ true → t ≡ []) → HasOf (open_at b) t
open-yes true t h = h refl
open-yes false [] h = inl refl
open-yes false (c ∷ t) h = inr (c ∷ [], t, refl, (c, refl, refl), any_run t)

open-only : (b : Bool) (t : List ℕ) → HasOf (open_at b) t → b ≡ true → t ≡ []
open-only true t h e = h
open-only false t h e = cc

line-yes : (s : Bool) (b : Branch Class) (e : Bool) (t : List ℕ) → FindsLine has s b e t → HasOf (line_of s (m.of_branch cores b) e) t
line-yes s b e t h = both-yes (open_at s) _ t (
  h.before,
  h.found ++ h.after,
  h.cut,
  open-yes s h.before h.at_begin,
  both-yes (m.of_branch cores b) (open_at e) (h.found ++ h.after) (h.found, h.after, refl, branch-yes b h.found h.in_branch, open-yes e h.after h.at_end),
)

line-only : (s : Bool) (b : Branch Class) (e : Bool) (t : List ℕ) → HasOf (line_of s (m.of_branch cores b) e) t → FindsLine has s b e t
line-only s b e t h = let (before, rest, d, k, l) = both-only (open_at s) (both_of (m.of_branch cores b) (open_at e)) t h in
    let (found, after, f, u, v) = both-only (m.of_branch cores b) (open_at e) rest l in
    record {
      before = before;
      found = found;
      after = after;
      cut = d ∙ ap (λ x. before
          ++ x) f;
      in_branch = branch-only b found u;
      at_begin = open-only s before k;
      at_end = open-only e after v;
    }

pub top-yes : (p : Top Class) (t : List ℕ) → Finds has p t → HasOf (m.of_top cores p) t
top-yes (g.line s b e) t h = line-yes s b e t h
top-yes (g.lines p s b e) t (inl h) = either-yes (m.of_top cores p) (line_of s (m.of_branch cores b) e) t (inl (top-yes p t h))
top-yes (g.lines p s b e) t (inr h) = either-yes (m.of_top cores p) (line_of s (m.of_branch cores b) e) t (inr (line-yes s b e t h))

pub top-only : (p : Top Class) (t : List ℕ) → HasOf (m.of_top cores p) t → Finds has p t
top-only (g.line s b e) t h = line-only s b e t h
top-only (g.lines p s b e) t h = elim (either-only (m.of_top cores p) (line_of s (m.of_branch cores b) e) t h) [
  | inl k ↦ inl (top-only p t k)
  | inr k ↦ inr
      (line-only s b e t k)
]
