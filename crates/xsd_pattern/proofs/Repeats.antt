-- So many parts between bounds, and the operators that have them.
use Rattle.std.proofs.Common.{◌≡◌, ℕ, suc, zero, ◌+◌, ◌≤◌, Bool, List, [], ◌∷◌, ◌++◌, length, Option, Some, None, refl, sym, ap, subst, ◌∙◌, inl, inr, arith}
use Rattle.std.proofs.Common.{append_assoc, length-append}
use Rattle.xsd_pattern.specs.declared.token.Repeat.{Repeat}
use Rattle.xsd_pattern.specs.Cuts.{AllIn, joined}
use Rattle.xsd_pattern.specs.Classes.{least, more}
use Rattle.xsd_pattern.specs.Finding.{IsUpTo, Parted}
use Rattle.xsd_pattern.specs.Core.{Core, Has, Run, times, up_to}
use Rattle.xsd_pattern.specs.Core as r

pub all_in : (P Q : List ℕ → Type 0) → ((t : List ℕ) → P t → Q t) → (parts : List (List ℕ)) → AllIn P parts → AllIn Q parts
all_in P Q f [] h = tt
all_in P Q f (part ∷ parts) (h, k) = (f part h, all_in P Q f parts k)

pub all_append : (P : List ℕ → Type 0) (a b : List (List ℕ)) → AllIn P a → AllIn P b → AllIn P (a ++ b)
all_append P [] b h k = k
all_append P (part ∷ a) b (h, g) k = (h, all_append P a b g k)

pub joined-append : (a b : List (List ℕ)) → joined (a ++ b) ≡ joined a ++ joined b
joined-append [] b = refl
joined-append (part ∷ a) b = ap (λ t. part ++ t) (joined-append a b) ∙ sym (append_assoc part (joined a) (joined b))

-- parts of the one are parts of the other
pub parted_map : (q : Repeat) (P Q : List ℕ → Type 0) → ((t : List ℕ) → P t → Q t) → (text : List ℕ) → Parted q P text → Parted q Q text
parted_map q P Q f text (parts, l, m, h, e) = (parts, l, m, all_in P Q f parts h, e)

module _ {C : Type 0} (has : C → ℕ → Bool) where
  abbrev HasOf : Core C → List ℕ → Type 0
  HasOf x = Has has x

  -- ---- so many, and then the rest

  times-yes : (n : ℕ) (x rest : Core C) (parts : List (List ℕ)) → n ≤ length parts → AllIn (HasOf x) parts
      → ((more : List (List ℕ)) → length parts ≡ n + length more → AllIn (HasOf x) more → HasOf rest (joined more)) → HasOf (times n x rest) (joined parts)
  times-yes zero x rest parts l h k = k parts (omega arith) h
  times-yes (suc n) x rest [] l h k = absurd (omega arith)
  times-yes (suc n) x rest (part ∷ parts) l (h, g) k = (
    part,
    joined parts,
    refl,
    h,
    times-yes n x rest parts (omega arith) g (λ more e. k more (omega (arith, e))),
  )

  abbrev Exactly : ℕ → Core C → Core C → List ℕ → Type 0
  Exactly n x rest text = (parts : List (List ℕ)) × (back : List ℕ) × (length parts ≡ n) × AllIn (HasOf x) parts × HasOf rest back × (text ≡ joined parts
      ++ back)

  times-only : (n : ℕ) (x rest : Core C) (text : List ℕ) → HasOf (times n x rest) text → Exactly n x rest text
  times-only zero x rest text h = ([], text, refl, tt, h, refl)
  times-only (suc n) x rest text (front, behind, e, h, k) = let (parts, back, l, g, m, d) = times-only n x rest behind k in
      (front ∷ parts, back, omega (arith, l), (h, g), m, e ∙ (ap (λ t. front ++ t) d ∙ sym (append_assoc front (joined parts) back)))

  -- ---- at most so many

  fill-yes : (n : ℕ) (x : Core C) (parts : List (List ℕ)) → length parts ≤ n → AllIn (HasOf x) parts → HasOf (times n (r.maybe x) r.nothing) (joined parts)
  fill-yes zero x [] l h = refl
  fill-yes zero x (part ∷ parts) l h = absurd (omega arith)
  fill-yes (suc n) x [] l h = ([], [], refl, inl refl, fill-yes n x [] (omega arith) tt)
  fill-yes (suc n) x (part ∷ parts) l (h, k) = (part, joined parts, refl, inr h, fill-yes n x parts (omega arith) k)

  abbrev AtMost : ℕ → Core C → List ℕ → Type 0
  AtMost n x text = (parts : List (List ℕ)) × (length parts ≤ n) × AllIn (HasOf x) parts × (text ≡ joined parts)

  fill-only : (n : ℕ) (x : Core C) (text : List ℕ) → HasOf (times n (r.maybe x) r.nothing) text → AtMost n x text
  fill-only zero x text e = ([], omega arith, tt, e)
  fill-only (suc n) x text (front, behind, e, inl d, k) = let (parts, l, g, f) = fill-only n x behind k in (
    parts,
    omega (arith, l),
    g,
    e ∙ (ap (λ t. t
        ++ behind) d ∙ f),
  )
  fill-only (suc n) x text (front, behind, e, inr h, k) = let (parts, l, g, f) = fill-only n x behind k in (
    front ∷ parts,
    omega (arith, l),
    (h, g),
    e
        ∙ ap (λ t. front ++ t) f,
  )

  run_again : (x : Core C) (parts : List (List ℕ)) → AllIn (HasOf x) parts → HasOf (r.maybe (r.again x)) (joined parts)
  run_again x [] h = inl refl
  run_again x (part ∷ parts) (h, k) = inr (part, joined parts, refl, h, (parts, k, refl))

  up-yes : (low : ℕ) (high : Option ℕ) (x : Core C) (all more : List (List ℕ)) → IsUpTo (length all) low high → length all ≡ low + length more
      → AllIn (HasOf x) more
      → HasOf (up_to high x) (joined more)
  up-yes low None x all more l e h = run_again x more h
  up-yes low (Some n) x all more l e h = fill-yes n x more (omega arith) h

  abbrev Behind : ℕ → Option ℕ → Core C → List ℕ → Type 0
  Behind low high x text = (parts : List (List ℕ)) × IsUpTo (low + length parts) low high × AllIn (HasOf x) parts × (text ≡ joined parts)

  up-only : (low : ℕ) (high : Option ℕ) (x : Core C) (text : List ℕ) → HasOf (up_to high x) text → Behind low high x text
  up-only low None x text (inl e) = ([], tt, tt, e)
  up-only low None x text (inr (front, back, e, h, (parts, k, d))) = (front ∷ parts, tt, (h, k), e ∙ ap (λ t. front ++ t) d)
  up-only low (Some n) x text h = let (parts, l, g, d) = fill-only n x text h in (parts, omega (arith, l), g, d)

  up_to_of : (a b low : ℕ) (high : Option ℕ) → a ≡ b → IsUpTo a low high → IsUpTo b low high
  up_to_of a b low high e h = subst (λ n. IsUpTo n low high) e h

  pub parted-yes : (q : Repeat) (x : Core C) (text : List ℕ) → Parted q (HasOf x) text → HasOf (times (least q) x (up_to (more q) x)) text
  parted-yes q x text (parts, l, m, h, e) = subst (HasOf (times (least q) x (up_to (more q) x))) (sym e)
      (times-yes (least q) x (up_to (more q) x) parts l h (λ others d g. up-yes (least q) (more q) x parts others m d g))

  pub parted-only : (q : Repeat) (x : Core C) (text : List ℕ) → HasOf (times (least q) x (up_to (more q) x)) text → Parted q (HasOf x) text
  parted-only q x text h = let (parts, back, l, g, m, d) = times-only (least q) x (up_to (more q) x) text h in
      let (others, n, k, e) = up-only (least q) (more q) x back m in (
        parts ++ others,
        omega (arith, length-append parts others, l),
        up_to_of (least q + length others) (length (parts ++ others)) (least q) (more q) (omega (arith, length-append parts others, l)) n,
        all_append (HasOf x) parts others g k,
        d ∙ (ap (λ t. joined parts ++ t) e ∙ sym (joined-append parts others)),
      )
