-- Where a comment ends, and whether `--` stands inside, byte by byte.
use Rattle.std.proofs.Common.{◌≡◌, ℕ, zero, suc, ◌+◌, ◌==◌, Bool, true, false, not, ◌&&◌, ◌||◌, List, [], ◌∷◌, ◌++◌, take, refl, sym, ap, ◌∙◌, subst, arith}
use Rattle.std.proofs.Common.{if◌then◌else◌, Option, Some, None, option_map, is_none, take-take}
use Rattle.std.specs.Prelude.{codes}
use Rattle.std.proofs.lemmas.Bool.Decides.{nat_tests}
use Rattle.xml_tokens.specs.Searches.{begins_with, place_of}
use Rattle.xml_tokens.specs.declared.comments.Hyphens.{Hyphens}
use Rattle.xml_tokens.specs.declared.comments.Hyphens.TheVariants.{Zero, One, Two}
use Rattle.xml_tokens.specs.Comments.{one_more, hyphens_behind, are_two}
use Rattle.xml_tokens.proofs.CutLemmas.{begins-front}

-- how many bytes stand before the `>` that ends a comment, and whether `--` stands inside
pub record Close : Type 0 where
  pub before : ℕ
  pub faulty : Bool

close-is : (k l : ℕ) (t u : Bool) → k ≡ l → t ≡ u → ◌≡◌ {A = Close} (record { before = k; faulty = t }) (record { before = l; faulty = u })
close-is k l t u e f = λ i. record { before = e i; faulty = f i }

abbrev pub one_farther : Close → Close
one_farther x = record { before = suc x.before; faulty = x.faulty }

-- byte by byte, behind hyphens
abbrev pub close_from : Hyphens → Bool → List ℕ → Option Close
close_from h faulty [] = None
close_from h faulty (b ∷ bytes) = elim (are_two h && b == 0x3E) [
  | true ↦ Some (record { before = 0; faulty = faulty })
  | false ↦ option_map one_farther (close_from (hyphens_behind h b) (faulty || are_two h) bytes)
]

-- no `--` stands in it
abbrev pub is_right : List ℕ → Bool
is_right bytes = is_none (place_of (codes "--") bytes)

-- by the first `-->`
abbrev pub closed_at : List ℕ → ℕ → Close
closed_at bytes n = record { before = n; faulty = not (is_right (take n bytes ++ codes "-")) }

abbrev pub found : List ℕ → Option ℕ → Option Close
found bytes None = None
found bytes (Some n) = Some (closed_at bytes n)

abbrev pub close_of : List ℕ → Option Close
close_of bytes = found bytes (place_of (codes "-->") bytes)

-- the hyphens themselves, and how many bytes of the end follow them before the `>`
abbrev pub spelt_hyphens : Hyphens → List ℕ
spelt_hyphens Zero = []
spelt_hyphens One = 0x2D ∷ []
spelt_hyphens Two = 0x2D ∷ (0x2D ∷ [])

abbrev pub to_come : Hyphens → ℕ
to_come Zero = 2
to_come One = 1
to_come Two = 0

abbrev pub behind_hyphens : ℕ → Bool → Close → Close
behind_hyphens k faulty x = record { before = x.before + k; faulty = faulty || x.faulty }

-- The first place, by the first bytes.
abbrev one_on : Option ℕ → Option ℕ
one_on x = option_map (λ n. 1 + n) x

place-other : (b : ℕ) (bytes : List ℕ) → (b == 0x2D) ≡ false → place_of (codes "-->") (b ∷ bytes) ≡ one_on (place_of (codes "-->") bytes)
place-other b bytes e = ap (λ t. elim (t && begins_with (codes "->") bytes) [ true ↦ Some 0 | false ↦ one_on (place_of (codes "-->") bytes) ]) e

place-one : (b : ℕ) (bytes : List ℕ) → (b == 0x2D) ≡ false → place_of (codes "-->") (0x2D ∷ (b ∷ bytes)) ≡ one_on (place_of (codes "-->") (b ∷ bytes))
place-one b bytes e = ap (λ t. elim (t && begins_with (codes ">") bytes) [ true ↦ Some 0 | false ↦ one_on (place_of (codes "-->") (b ∷ bytes)) ]) e

place-two : (b : ℕ) (bytes : List ℕ) → (b == 0x3E) ≡ false →
    place_of (codes "-->") (0x2D ∷ (0x2D ∷ (b ∷ bytes))) ≡ one_on (place_of (codes "-->") (0x2D ∷ (b ∷ bytes)))
place-two b bytes e = ap (λ t. elim (t && true) [ true ↦ Some 0 | false ↦ one_on (place_of (codes "-->") (0x2D ∷ (b ∷ bytes))) ]) e

place-end : (b : ℕ) (bytes : List ℕ) → (b == 0x3E) ≡ true → place_of (codes "-->") (0x2D ∷ (0x2D ∷ (b ∷ bytes))) ≡ Some 0
place-end b bytes e = ap (λ t. elim (t && true) [ true ↦ Some 0 | false ↦ one_on (place_of (codes "-->") (0x2D ∷ (b ∷ bytes))) ]) e

none-on : (x : Option ℕ) → is_none (one_on x) ≡ is_none x
none-on None = refl
none-on (Some n) = refl

right-other : (b : ℕ) (bytes : List ℕ) → (b == 0x2D) ≡ false → is_right (b ∷ bytes) ≡ is_right bytes
right-other b bytes e = ap (λ t. is_none (elim (t && begins_with (codes "-") bytes) [ true ↦ Some 0 | false ↦ one_on (place_of (codes "--") bytes) ])) e ∙
    none-on (place_of (codes "--") bytes)

right-one : (b : ℕ) (bytes : List ℕ) → (b == 0x2D) ≡ false → is_right (0x2D ∷ (b ∷ bytes)) ≡ is_right bytes
right-one b bytes e =
    ap (λ t. is_none (elim (t && true) [ true ↦ Some 0 | false ↦ one_on (place_of (codes "--") (b ∷ bytes)) ])) e
    ∙ (none-on (place_of (codes "--") (b ∷ bytes)) ∙ right-other b bytes e)

-- Behind a byte that is no hyphen, behind none, one or two of them.
abbrev farther : ℕ → Close → Close
farther k x = record { before = x.before + k; faulty = x.faulty }

abbrev farther_wrong : ℕ → Close → Close
farther_wrong k x = record { before = x.before + k; faulty = true }

close-other : (b : ℕ) (bytes : List ℕ) → (b == 0x2D) ≡ false → close_of (b ∷ bytes) ≡ option_map (farther 1) (close_of bytes)
close-other b bytes e = ap (found (b ∷ bytes)) (place-other b bytes e) ∙ by (place_of (codes "-->") bytes)
  where
    by : (x : Option ℕ) → found (b ∷ bytes) (one_on x) ≡ option_map (farther 1) (found bytes x)
    by None = refl
    by (Some n) =
        let one : 1 + n ≡ suc n = omega arith in
        let sum : 1 + n ≡ n + 1 = omega arith in
        ap Some (close-is (1 + n) (n + 1) _ _ sum (ap (λ k. not (is_right (take k (b ∷ bytes) ++ codes "-"))) one ∙
        ap not (right-other b (take n bytes ++ codes "-") e)))

close-one : (b : ℕ) (bytes : List ℕ) → (b == 0x2D) ≡ false → close_of (0x2D ∷ (b ∷ bytes)) ≡ option_map (farther 2) (close_of bytes)
close-one b bytes e = ap (found (0x2D ∷ (b ∷ bytes))) (place-one b bytes e ∙ ap one_on (place-other b bytes e)) ∙ by (place_of (codes "-->") bytes)
  where
    by : (x : Option ℕ) → found (0x2D ∷ (b ∷ bytes)) (one_on (one_on x)) ≡ option_map (farther 2) (found bytes x)
    by None = refl
    by (Some n) =
        let two : 1 + (1 + n) ≡ suc (suc n) = omega arith in
        let sum : 1 + (1 + n) ≡ n + 2 = omega arith in
        ap Some (close-is (1 + (1 + n)) (n + 2) _ _ sum (ap (λ k. not (is_right (take k (0x2D ∷ (b ∷ bytes)) ++ codes "-"))) two ∙
        ap not (right-one b (take n bytes ++ codes "-") e)))

close-two : (b : ℕ) (bytes : List ℕ) → (b == 0x2D) ≡ false → (b == 0x3E) ≡ false →
    close_of (0x2D ∷ (0x2D ∷ (b ∷ bytes))) ≡ option_map (farther_wrong 3) (close_of bytes)
close-two b bytes e f =
    ap (found (0x2D ∷ (0x2D ∷ (b ∷ bytes)))) (place-two b bytes f ∙ ap one_on (place-one b bytes e ∙ ap one_on (place-other b bytes e))) ∙
    by (place_of (codes "-->") bytes)
  where
    by : (x : Option ℕ) → found (0x2D ∷ (0x2D ∷ (b ∷ bytes))) (one_on (one_on (one_on x))) ≡ option_map (farther_wrong 3) (found bytes x)
    by None = refl
    by (Some n) =
        let three : 1 + (1 + (1 + n)) ≡ suc (suc (suc n)) = omega arith in
        let sum : 1 + (1 + (1 + n)) ≡ n + 3 = omega arith in
        ap Some (close-is (1 + (1 + (1 + n))) (n + 3) _ _ sum (ap (λ k. not (is_right (take k (0x2D ∷ (0x2D ∷ (b ∷ bytes))) ++ codes "-"))) three))

close-three : (bytes : List ℕ) → close_of (0x2D ∷ (0x2D ∷ (0x2D ∷ bytes))) ≡ option_map (farther_wrong 1) (close_of (0x2D ∷ (0x2D ∷ bytes)))
close-three bytes = by (place_of (codes "-->") (0x2D ∷ (0x2D ∷ bytes)))
  where
    wrong : (n : ℕ) → not (is_right (take (suc n) (0x2D ∷ (0x2D ∷ (0x2D ∷ bytes))) ++ codes "-")) ≡ true
    wrong zero = refl
    wrong (suc n) = refl

    by : (x : Option ℕ) → found (0x2D ∷ (0x2D ∷ (0x2D ∷ bytes))) (one_on x) ≡ option_map (farther_wrong 1) (found (0x2D ∷ (0x2D ∷ bytes)) x)
    by None = refl
    by (Some n) =
        let one : 1 + n ≡ suc n = omega arith in
        let sum : 1 + n ≡ n + 1 = omega arith in
        ap Some (close-is (1 + n) (n + 1) _ _ sum (ap (λ k. not (is_right (take k (0x2D ∷ (0x2D ∷ (0x2D ∷ bytes))) ++ codes "-"))) one ∙ wrong n))

close-end : (b : ℕ) (bytes : List ℕ) → (b == 0x3E) ≡ true → close_of (0x2D ∷ (0x2D ∷ (b ∷ bytes))) ≡ Some (record { before = 0; faulty = false })
close-end b bytes e = ap (found (0x2D ∷ (0x2D ∷ (b ∷ bytes)))) (place-end b bytes e)

-- a function of what a function gives
map-both : (f g h : Close → Close) (x : Option Close) → ((y : Close) → f (g y) ≡ h y) → option_map f (option_map g x) ≡ option_map h x
map-both f g h None e = refl
map-both f g h (Some y) e = ap Some (e y)

or-false : (t u : Bool) → ((t || false) || u) ≡ (t || u)
or-false true u = refl
or-false false u = refl

or-true : (t u : Bool) → ((t || true) || u) ≡ (t || true)
or-true true u = refl
or-true false u = refl

or-nothing : (t : Bool) → t ≡ (t || false)
or-nothing true = refl
or-nothing false = refl

-- Byte by byte it ends where the first `-->` stands.
pub close-found : (h : Hyphens) (faulty : Bool) (bytes : List ℕ) →
    close_from h faulty bytes ≡ option_map (behind_hyphens (to_come h) faulty) (close_of (spelt_hyphens h ++ bytes))
close-found Zero faulty [] = refl
close-found One faulty [] = refl
close-found Two faulty [] = refl
close-found h faulty (b ∷ bytes) = by (λ h' faulty'. close-found h' faulty' bytes) h (b == 0x2D) (b == 0x3E) refl refl
  where
    is-hyphen : (b == 0x2D) ≡ true → b ≡ 0x2D
    is-hyphen e = grind (arith, nat_tests)

    both-not : (b == 0x2D) ≡ true → (b == 0x3E) ≡ true → ⊥
    both-not e f = grind (arith, nat_tests)

    by : ((h : Hyphens) (faulty : Bool) → close_from h faulty bytes ≡ option_map (behind_hyphens (to_come h) faulty) (close_of (spelt_hyphens h ++ bytes)))
        → (h : Hyphens) (t u : Bool) → (b == 0x2D) ≡ t → (b == 0x3E) ≡ u
        → (elim (are_two h && u) [
          | true ↦ Some (record { before = 0; faulty = faulty })
          | false ↦ option_map one_farther (close_from (if t then one_more h else Zero) (faulty || are_two h) bytes)
        ])
        ≡ option_map (behind_hyphens (to_come h) faulty) (close_of (spelt_hyphens h ++ (b ∷ bytes)))
    by rest Zero true u e f =
        ap (option_map one_farther) (rest One (faulty || false))
        ∙ (map-both one_farther (behind_hyphens 1 (faulty || false)) (behind_hyphens 2 faulty) (close_of (0x2D ∷ bytes))
        (λ y. close-is _ _ _ _ (omega arith) (or-false faulty y.faulty))
        ∙ ap (λ x. option_map (behind_hyphens 2 faulty) (close_of (x ∷ bytes))) (sym (is-hyphen e)))
    by rest One true u e f =
        ap (option_map one_farther) (rest Two (faulty || false))
        ∙ (map-both one_farther (behind_hyphens 0 (faulty || false)) (behind_hyphens 1 faulty) (close_of (0x2D ∷ (0x2D ∷ bytes)))
        (λ y. close-is _ _ _ _ (omega arith) (or-false faulty y.faulty))
        ∙ ap (λ x. option_map (behind_hyphens 1 faulty) (close_of (0x2D ∷ (x ∷ bytes)))) (sym (is-hyphen e)))
    by rest Two true true e f = absurd (both-not e f)
    by rest Two true false e f =
        ap (option_map one_farther) (rest Two (faulty || true))
        ∙ (map-both one_farther (behind_hyphens 0 (faulty || true)) (λ y. behind_hyphens 0 faulty (farther_wrong 1 y)) (close_of (0x2D ∷ (0x2D ∷ bytes)))
        (λ y. close-is _ _ _ _ (omega arith) (or-true faulty y.faulty))
        ∙ (sym (map-both (behind_hyphens 0 faulty) (farther_wrong 1) (λ y. behind_hyphens 0 faulty (farther_wrong 1 y)) (close_of (0x2D ∷ (0x2D ∷ bytes)))
        (λ y. refl))
        ∙ (ap (option_map (behind_hyphens 0 faulty)) (sym (close-three bytes))
        ∙ ap (λ x. option_map (behind_hyphens 0 faulty) (close_of (0x2D ∷ (0x2D ∷ (x ∷ bytes))))) (sym (is-hyphen e)))))
    by rest Zero false u e f =
        ap (option_map one_farther) (rest Zero (faulty || false))
        ∙ (map-both one_farther (behind_hyphens 2 (faulty || false)) (λ y. behind_hyphens 2 faulty (farther 1 y)) (close_of bytes)
        (λ y. close-is _ _ _ _ (omega arith) (or-false faulty y.faulty))
        ∙ (sym (map-both (behind_hyphens 2 faulty) (farther 1) (λ y. behind_hyphens 2 faulty (farther 1 y)) (close_of bytes) (λ y. refl))
        ∙ ap (option_map (behind_hyphens 2 faulty)) (sym (close-other b bytes e))))
    by rest One false u e f =
        ap (option_map one_farther) (rest Zero (faulty || false))
        ∙ (map-both one_farther (behind_hyphens 2 (faulty || false)) (λ y. behind_hyphens 1 faulty (farther 2 y)) (close_of bytes)
        (λ y. close-is _ _ _ _ (omega arith) (or-false faulty y.faulty))
        ∙ (sym (map-both (behind_hyphens 1 faulty) (farther 2) (λ y. behind_hyphens 1 faulty (farther 2 y)) (close_of bytes) (λ y. refl))
        ∙ ap (option_map (behind_hyphens 1 faulty)) (sym (close-one b bytes e))))
    by rest Two false true e f =
        ap Some (close-is 0 (0 + 0) faulty (faulty || false) (omega arith) (or-nothing faulty)) ∙
        ap (option_map (behind_hyphens 0 faulty)) (sym (close-end b bytes f))
    by rest Two false false e f =
        ap (option_map one_farther) (rest Zero (faulty || true))
        ∙ (map-both one_farther (behind_hyphens 2 (faulty || true)) (λ y. behind_hyphens 0 faulty (farther_wrong 3 y)) (close_of bytes)
        (λ y. close-is _ _ _ _ (omega arith) (or-true faulty y.faulty))
        ∙ (sym (map-both (behind_hyphens 0 faulty) (farther_wrong 3) (λ y. behind_hyphens 0 faulty (farther_wrong 3 y)) (close_of bytes) (λ y. refl))
        ∙ ap (option_map (behind_hyphens 0 faulty)) (sym (close-two b bytes e f))))

-- Before the end stand two hyphens.
pub ends-in-hyphens : (bytes : List ℕ) (n : ℕ) → place_of (codes "-->") bytes ≡ Some n → take (n + 2) bytes ≡ take n bytes ++ (0x2D ∷ (0x2D ∷ []))
ends-in-hyphens [] n e = absurd (cc e)
ends-in-hyphens (b ∷ bytes) n e = by (ends-in-hyphens bytes) (begins_with (codes "-->") (b ∷ bytes)) (place_of (codes "-->") bytes) refl refl e
  where
    by : ((m : ℕ) → place_of (codes "-->") bytes ≡ Some m → take (m + 2) bytes ≡ take m bytes ++ (0x2D ∷ (0x2D ∷ [])))
        → (t : Bool) (x : Option ℕ) → begins_with (codes "-->") (b ∷ bytes) ≡ t → place_of (codes "-->") bytes ≡ x →
        (elim t [ true ↦ Some 0 | false ↦ one_on x ]) ≡ Some n
        → take (n + 2) (b ∷ bytes) ≡ take n (b ∷ bytes) ++ (0x2D ∷ (0x2D ∷ []))
    by rest true x t p f =
        let none : 0 ≡ n = cc f in
        let front : take 2 (b ∷ bytes) ≡ 0x2D ∷ (0x2D ∷ []) = sym (take-take 2 3 (b ∷ bytes) (omega arith)) ∙
        ap (take 2) (begins-front (codes "-->") (b ∷ bytes) t) in
        subst (λ k. take (k + 2) (b ∷ bytes) ≡ take k (b ∷ bytes) ++ (0x2D ∷ (0x2D ∷ []))) none front
    by rest false None t p f = absurd (cc f)
    by rest false (Some m) t p f =
        let one : 1 + m ≡ n = cc f in
        let is : n ≡ suc m = omega arith in
        let two : n + 2 ≡ suc (m + 2) = omega arith in
        ap (λ k. take k (b ∷ bytes)) two ∙ (ap (λ x. b ∷ x) (rest m p) ∙ ap (λ k. take k (b ∷ bytes) ++ (0x2D ∷ (0x2D ∷ []))) (sym is))
