-- The longest text that closes a string, as far as a loop over its characters has come.
use Rattle.std.proofs.Common.{◌≡◌, ℕ, suc, ◌+◌, Bool, true, false, cond, eqb, List, [], ◌∷◌, Option, Some, None, refl, sym, ap, ◌∙◌, arith}
use Rattle.xpath_tokens.specs.Longest.{one_longer, longest}
use Rattle.xpath_tokens.specs.Words.{closes}
use Rattle.xpath_tokens.specs.Scanning.{behind}
use Rattle.xpath_tokens.proofs.LongestLaws.{longest-false}

-- the first of two ends that is there
abbrev pub or_else : Option ℕ → Option ℕ → Option ℕ
or_else None end = end
or_else (Some n) end = Some n

-- the end, given what is known behind i characters
unfoldable pub ending : ℕ → Bool → Option ℕ → ℕ → List ℕ → Option ℕ
ending quote closed end i text = or_else (behind i (longest (closes quote closed) text)) end

some_closed : (quote : ℕ) (text : List ℕ) → (n : ℕ) × (longest (closes quote true) text ≡ Some n)
unfolding longest closes
some_closed quote [] = (0, refl)
some_closed quote (c ∷ text) = by_cases (longest (λ rest. closes quote true (c ∷ rest)) text) where
  by_cases : (x : Option ℕ) → (n : ℕ) × (one_longer x true ≡ Some n)
  by_cases None = (0, refl)
  by_cases (Some n) = (suc n, refl)

more : (i : ℕ) (x : Option ℕ) → behind i (one_longer x false) ≡ behind (i + 1) x
more i None = refl
more i (Some n) = ap Some (omega arith)

-- inside the string
pub ending-open : (quote : ℕ) (end : Option ℕ) (i c : ℕ) (text : List ℕ) →
    ending quote false end i (c ∷ text) ≡ ending quote (eqb c quote) (cond (eqb c quote) (Some (i + 1)) end) (i + 1) text
unfolding ending longest closes
ending-open quote end i c text = ap (λ x. or_else x end) (more i (longest (closes quote (eqb c quote)) text)) ∙ by_cases (eqb c quote) where
  by_cases : (b : Bool) → or_else (behind (i + 1) (longest (closes quote b) text)) end ≡ or_else (behind (i + 1) (longest (closes quote b) text))
      (cond b (Some (i + 1)) end)
  by_cases true = let found = some_closed quote text in rw found.1 refl
  by_cases false = refl

-- behind a quote that is doubled
pub ending-doubled : (quote i c : ℕ) (text : List ℕ) → eqb c quote ≡ true → ending quote true (Some i) i (c ∷ text) ≡ ending quote false (Some i) (i + 1) text
unfolding ending longest closes
ending-doubled quote i c text e =
    ap (λ b. or_else (behind i (one_longer (longest (λ rest. elim b [ true ↦ closes quote false rest | false ↦ false ]) text) true)) (Some i)) e
    ∙ by_cases (longest (closes quote false) text) where
      by_cases : (x : Option ℕ) → or_else (behind i (one_longer x true)) (Some i) ≡ or_else (behind (i + 1) x) (Some i)
      by_cases None = ap Some (omega arith)
      by_cases (Some n) = ap Some (omega arith)

-- behind the quote that ends it
pub ending-closed : (quote i c : ℕ) (text : List ℕ) → eqb c quote ≡ false → ending quote true (Some i) i (c ∷ text) ≡ Some i
unfolding ending longest closes
ending-closed quote i c text e =
    ap (λ b. or_else (behind i (one_longer (longest (λ rest. elim b [ true ↦ closes quote false rest | false ↦ false ]) text) true)) (Some i)) e
    ∙ ap (λ x. or_else (behind i (one_longer x true)) (Some i)) (longest-false text) ∙ ap Some (let e : i + 0 ≡ i = omega arith in e)

-- at the end of the text
pub ending-none : (quote : ℕ) (closed : Bool) (end : Option ℕ) (i : ℕ) → (closed ≡ true → end ≡ Some i) → ending quote closed end i [] ≡ end
unfolding ending longest closes
ending-none quote true end i h = rw (h refl) (ap Some (omega arith))
ending-none quote false end i h = refl

-- at the beginning
pub ending-begin : (quote : ℕ) (text : List ℕ) → ending quote false None 0 text ≡ longest (closes quote false) text
unfolding ending
ending-begin quote text = by_cases (longest (closes quote false) text) where
  by_cases : (x : Option ℕ) → or_else (behind 0 x) None ≡ x
  by_cases None = refl
  by_cases (Some n) = ap Some (omega arith)

-- the steps of the loop, where the text goes on with the character c

pub open-step : (quote : ℕ) (end : Option ℕ) (i c : ℕ) (rest all : List ℕ) (closed : Bool) (whole : Option ℕ) → closed ≡ false → all ≡ c ∷ rest
    → ending quote closed end i all ≡ whole → ending quote (eqb c quote) (cond (eqb c quote) (Some (i + 1)) end) (i + 1) rest ≡ whole
open-step quote end i c rest all closed whole e d same = sym (ending-open quote end i c rest) ∙ ap (ending quote false end i) (sym d) ∙
    ap (λ b. ending quote b end i all) (sym e) ∙ same

pub doubled-step : (quote : ℕ) (end : Option ℕ) (i c : ℕ) (rest all : List ℕ) (closed : Bool) (whole : Option ℕ) → closed ≡ true → end ≡ Some i → all ≡ c ∷ rest
    → eqb c quote ≡ true
    → ending quote closed end i all ≡ whole → ending quote false end (i + 1) rest ≡ whole
doubled-step quote end i c rest all closed whole e f d t same = ap (λ x. ending quote false x (i + 1) rest) f ∙ sym (ending-doubled quote i c rest t)
    ∙ ap (ending quote true (Some i) i) (sym d) ∙ ap (λ x. ending quote true x i all) (sym f) ∙ ap (λ b. ending quote b end i all) (sym e) ∙ same

pub closed-step : (quote : ℕ) (end : Option ℕ) (i c : ℕ) (rest all : List ℕ) (closed : Bool) (whole : Option ℕ) → closed ≡ true → end ≡ Some i → all ≡ c ∷ rest
    → eqb c quote ≡ false
    → ending quote closed end i all ≡ whole → end ≡ whole
closed-step quote end i c rest all closed whole e f d t same = f ∙ sym (ending-closed quote i c rest t)
    ∙ ap (ending quote true (Some i) i) (sym d) ∙ ap (λ x. ending quote true x i all) (sym f) ∙ ap (λ b. ending quote b end i all) (sym e) ∙ same
