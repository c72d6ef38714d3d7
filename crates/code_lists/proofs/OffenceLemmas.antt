-- The first offence in byte order, among offences whose keys ascend.
use Rattle.std.proofs.Common.{◌≡◌, Bool, true, false, List, [], ◌∷◌, ◌++◌, Option, Some, None, Ordering, Less, Equal, Greater, refl, sym, ap, ◌∙◌}
use Rattle.std.proofs.Common.{if◌then◌else◌}
use Rattle.std.specs.List.{AllByRecursion}
use Rattle.std.specs.Ordering.{is_lt}
use Rattle.std.proofs.lemmas.Cmp.{nat_list_cmp_total}
use Rattle.std.proofs.lemmas.Bool.{false≢true}
use Rattle.code_lists.specs.CodeFiles.{Offence, first_of}
use Rattle.code_lists.proofs.KeyLemmas.{key_cmp, after-not}

-- the earlier of an offence and another one, if there is one
abbrev pick : Option Offence → Offence → Offence
pick found o = elim found [ None ↦ o | Some p ↦ if is_lt (key_cmp p.0 o.0) then p else o ]

less_of : (o : Ordering) → is_lt o ≡ true → o ≡ Less
less_of Less h = refl
less_of Equal h = absurd (false≢true h)
less_of Greater h = absurd (false≢true h)

skip_by : (o x p : Offence) → key_cmp o.0 x.0 ≡ Less → (b : Bool) → is_lt (key_cmp p.0 x.0) ≡ b → pick (Some (if b then p else x)) o ≡ pick (Some p) o
skip_by o x p h true e = refl
skip_by o x p h false e =
    let x_after : is_lt (key_cmp x.0 o.0) ≡ false = after-not o.0 x.0 h in
    let p_after : is_lt (key_cmp p.0 o.0) ≡ false = p_by (is_lt (key_cmp p.0 o.0)) refl in
    rw (x_after, p_after) refl
  where
    p_by : (b : Bool) → is_lt (key_cmp p.0 o.0) ≡ b → is_lt (key_cmp p.0 o.0) ≡ false
    p_by false g = g
    p_by true g = absurd (false≢true (sym e ∙ ap is_lt (nat_list_cmp_total.trans p.0 o.0 x.0 (less_of (key_cmp p.0 o.0) g) h)))

skip_pick : (o x : Offence) (found : Option Offence) → key_cmp o.0 x.0 ≡ Less → pick (Some (pick found x)) o ≡ pick found o
skip_pick o x None h = rw (after-not o.0 x.0 h) refl
skip_pick o x (Some p) h = skip_by o x p h (is_lt (key_cmp p.0 x.0)) refl

-- an offence behind one with an earlier key counts for nothing
pub skip : (o x : Offence) (os : List Offence) → key_cmp o.0 x.0 ≡ Less → first_of (o ∷ (x ∷ os)) ≡ first_of (o ∷ os)
skip o x os h = ap Some (skip_pick o x (first_of os) h)

-- nor do many
pub skip_all : (o : Offence) (xs os : List Offence) → AllByRecursion (λ x. key_cmp o.0 x.0 ≡ Less) xs → first_of (o ∷ (xs ++ os)) ≡ first_of (o ∷ os)
skip_all o [] os h = refl
skip_all o (x ∷ xs) os h = skip o x (xs ++ os) h.0 ∙ skip_all o xs os h.1
