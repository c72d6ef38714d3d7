-- A part has as many characters as the pattern that it is of, up to 2,001.
use Rattle.std.proofs.Common.{◌≡◌, ℕ, ◌+◌, ◌*◌, ◌≤◌, ◌<◌, Bool, true, false, Option, Some, None, inl, inr, refl, ap, subst, arith}
use Rattle.std.specs.Prelude.{if◌then◌else◌, nat_lt, min, max}
use Rattle.std.proofs.lemmas.Bool.{ltb-true, ltb-false, cases_lt}
use Rattle.std.proofs.Math.Nat.{mul-le-mul_left}
use Rattle.xsd_pattern.specs.declared.token.Repeat.{Repeat}
use Rattle.xsd_pattern.specs.declared.token.Repeat.TheVariants.{Question, Star, Plus, Counted}
use Rattle.xsd_pattern.specs.declared.parts.Part.{Part}
use Rattle.xsd_pattern.specs.Grammar.{Re, Branch, Piece, Atom, Top}
use Rattle.xsd_pattern.specs.Grammar as g
use Rattle.xsd_pattern.specs.Machine as m
use Rattle.xsd_pattern.specs.Matching.{repeated_size, sizes}
use Rattle.xsd_pattern.specs.Parts.{is_nothing, large, joined, followed, alternated, either_part, copied, repeated_part, open_part, line_part, parts}
use Rattle.xsd_pattern.proofs.Standing.{if_cases}

-- the size is this number, or 2,001 where that is more
abbrev pub IsSize : Part → ℕ → Type 0
IsSize p n = p.size ≡ min n 2001

joined-size : (n : ℕ) (a b : Part) → (joined n a b).size ≡ n
joined-size n a b = if_cases (λ (q : Part). q.size ≡ n) (is_nothing a.steps) _ _ (λ e. refl) (λ e. if_cases (λ (q : Part). q.size ≡ n)
    (is_nothing b.steps) _ _ (λ e. refl) (λ e. refl))

alternated-size : (n : ℕ) (a b : Part) → (alternated n a b).size ≡ n
alternated-size n a b = if_cases (λ (q : Part). q.size ≡ n) (is_nothing a.steps) _ _ (λ e. refl) (λ e. if_cases (λ (q : Part). q.size ≡ n)
    (is_nothing b.steps) _ _ (λ e. refl) (λ e. refl))

copied-size : (size n : ℕ) (o : Option ℕ) (p : Part) → (copied size n o p).size ≡ size
copied-size size n o p = if_cases (λ (q : Part). q.size ≡ size) (is_nothing p.steps) _ _ (λ e. refl) (λ e. refl)

sum_capped : (a b x y : ℕ) → a ≡ min x 2001 → b ≡ min y 2001 → 2000 < a + b → 2001 ≡ min (x + y) 2001
sum_capped a b x y e d l = omega arith

sum_small : (a b x y s : ℕ) → a ≡ min x 2001 → b ≡ min y 2001 → a + b ≤ 2000 → s ≡ a + b → s ≡ min (x + y) 2001
sum_small a b x y s e d l k = omega arith

followed-size : (a b : Part) (x y : ℕ) → IsSize a x → IsSize b y → IsSize (followed a b) (x + y)
followed-size a b x y e d = if_cases (λ (q : Part). IsSize q (x + y)) (nat_lt 2000 (a.size + b.size)) _ _
    (λ t. sum_capped a.size b.size x y e d (ltb-true 2000 (a.size + b.size) t))
    (λ t. sum_small a.size b.size x y _ e d (ltb-false 2000 (a.size + b.size) t) (joined-size (a.size + b.size) a b))

either-size : (a b : Part) (x y : ℕ) → IsSize a x → IsSize b y → IsSize (either_part a b) (x + y)
either-size a b x y e d = if_cases (λ (q : Part). IsSize q (x + y)) (nat_lt 2000 (a.size + b.size)) _ _
    (λ t. sum_capped a.size b.size x y e d (ltb-true 2000 (a.size + b.size) t))
    (λ t. sum_small a.size b.size x y _ e d (ltb-false 2000 (a.size + b.size) t) (alternated-size (a.size + b.size) a b))

times_more : (n f : ℕ) → 1 ≤ f → n ≤ n * f
times_more n f l = omega (arith, mul-le-mul_left n l)

-- products stop like sums
capped : (s n f : ℕ) → 1 ≤ f → s ≡ min n 2001 → min (s * f) 2001 ≡ min (n * f) 2001
capped s n f l e = elim (cases_lt n 2002) [
  | inl h ↦ let d : s ≡ n = omega (arith, h, e) in ap (λ k. min (k * f) 2001) d
  | inr h ↦ let d : s ≡ 2001 = omega (arith, h, e) in omega (arith, times_more n f l, times_more s f l)
]

counted-size : (p : Part) (x f n : ℕ) (o : Option ℕ) → 1 ≤ f → IsSize p x
    → IsSize (if nat_lt 2000 (p.size * f) then large else copied (p.size * f) n o p) (x * f)
counted-size p x f n o l e = if_cases (λ (q : Part). IsSize q (x * f)) (nat_lt 2000 (p.size * f)) _ _
    (λ t. omega (arith, ltb-true 2000 (p.size * f) t, capped p.size x f l e))
    (λ t. omega (arith, copied-size (p.size * f) n o p, ltb-false 2000 (p.size * f) t, capped p.size x f l e))

repeated-size : (q : Repeat) (p : Part) (x : ℕ) → IsSize p x → IsSize (repeated_part q p) (repeated_size x q)
repeated-size Question p x e = e
repeated-size Star p x e = e
repeated-size Plus p x e = e
repeated-size (Counted n None) p x e = counted-size p x (n + 1) n None (omega arith) e
repeated-size (Counted n (Some k)) p x e = counted-size p x (max (n + k) 1) n (Some k) (omega arith) e

open-size : (b : Bool) → IsSize (open_part b) 0
open-size true = refl
open-size false = refl

sum_of : (a b : ℕ) (p : Part) → a ≡ b → IsSize p a → IsSize p b
sum_of a b p e h = subst (IsSize p) e h

line-size : (s : Bool) (b : Part) (e : Bool) (x : ℕ) → IsSize b x → IsSize (line_part s b e) x
line-size s b e x h = sum_of (0 + (x + 0)) x (line_part s b e) (omega arith)
    (followed-size (open_part s) (followed b (open_part e)) 0 (x + 0) (open-size s) (followed-size b (open_part e) x 0 h (open-size e)))

mutual
  re-size : (x : Re (Option ℕ)) → IsSize (m.of_re parts x) (m.of_re sizes x)
  re-size (g.only b) = branch-size b
  re-size (g.or x b) = either-size (m.of_re parts x) (m.of_branch parts b) (m.of_re sizes x) (m.of_branch sizes b) (re-size x) (branch-size b)

  branch-size : (b : Branch (Option ℕ)) → IsSize (m.of_branch parts b) (m.of_branch sizes b)
  branch-size g.none = refl
  branch-size (g.then b (g.once a)) = followed-size (m.of_branch parts b) (m.of_atom parts a) (m.of_branch sizes b) (m.of_atom sizes a) (branch-size b)
      (atom-size a)
  branch-size (g.then b (g.many a q)) = followed-size (m.of_branch parts b) (repeated_part q (m.of_atom parts a)) (m.of_branch sizes b) (repeated_size
      (m.of_atom sizes a) q)
      (branch-size b) (repeated-size q (m.of_atom parts a) (m.of_atom sizes a) (atom-size a))

  atom-size : (a : Atom (Option ℕ)) → IsSize (m.of_atom parts a) (m.of_atom sizes a)
  atom-size (g.one place) = refl
  atom-size (g.group x) = re-size x

pub top-size : (t : Top (Option ℕ)) → IsSize (m.of_top parts t) (m.of_top sizes t)
top-size (g.line s b e) = line-size s (m.of_branch parts b) e (m.of_branch sizes b) (branch-size b)
top-size (g.lines t s b e) = either-size (m.of_top parts t) (line_part s (m.of_branch parts b) e) (m.of_top sizes t) (m.of_branch sizes b)
    (top-size t) (line-size s (m.of_branch parts b) e (m.of_branch sizes b) (branch-size b))
