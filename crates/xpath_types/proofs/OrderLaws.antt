-- The order of refusals, and the parts of an expression in their order.
use Rattle.std.proofs.Common.{◌≡◌, ℕ, ◌+◌, ◌&&◌, ◌||◌, Bool, true, false, List, [], ◌∷◌, ◌++◌, Option, Some, None, length, map, nat_lt, nat_eq, refl, sym, ap}
use Rattle.std.proofs.Common.{◌∙◌, All, Contains, if◌then◌else◌, MatchOption, arith, subst, inl, inr, suc}
use Rattle.std.proofs.lemmas.Bool.Decides.{nat_tests}
use Rattle.std.proofs.lemmas.List.{map-append}
use Rattle.std.proofs.lemmas.List.Elements.{All-cons, All-nil, Contains-append_right, Contains-append_left, Contains-append_cases}
use Rattle.xpath_grammar.specs.Grammar as g
use Rattle.xpath_grammar.specs.Grammar.{Tree, Parts}
use Rattle.xpath_grammar.specs.declared.expr.Form.{Form}
use Rattle.xpath_grammar.specs.Places.{parts_from, inner_parts}
use Rattle.xpath_types.specs.declared.refusals.Refusal.{Refusal}
use Rattle.xpath_types.specs.Refusals.{order, is_before, first_of}
use Rattle.xpath_types.specs.Judging.{Environment, inside, behind, judged}
use Rattle.xpath_types.specs.Parts.{placed, placed_inside, Placed}

mutual
  unfolding placed parts_from

  pub placed-parts : (x : Tree) (env : Environment) (token : ℕ) → map (λ (at : Placed). (at.token, at.part)) (placed env token x) ≡ parts_from token x
  placed-parts (g.leaf x) env token = refl
  placed-parts (g.node form parts) env token = ap (λ inner. (token, g.node form parts) ∷ inner) (placed-inner parts env form token)

  placed-inner : (parts : Parts) (env : Environment) (form : Form) (token : ℕ) →
      map (λ (at : Placed). (at.token, at.part)) (placed_inside env form token parts) ≡ inner_parts token parts
  placed-inner g.none env form token = refl
  placed-inner (g.more label x parts) env form token =
      let start : ℕ = token + length (g.label_tokens label) in
      let ahead : Environment = behind form label (judged (inside form label env) start x).kinds env in
      map-append (λ (at : Placed). (at.token, at.part)) (placed (inside form label env) start x) (placed_inside ahead form (start + length (g.written x)) parts)
      ∙ (λ j. placed-parts x (inside form label env) start j ++ placed-inner parts ahead form (start + length (g.written x)) j)

-- a place in the order, by a token and a number
before : ℕ → ℕ → ℕ → ℕ → Bool
before t k u l = nat_lt t u || (nat_eq t u && nat_lt k l)

behind-first : (t k u l v m : ℕ) → before t k u l ≡ true → before t k v m ≡ false → before u l v m ≡ false
unfolding before
behind-first t k u l v m a b = grind (arith, nat_tests)

not-before : (t k u l v m : ℕ) → before t k u l ≡ false → before u l v m ≡ false → before t k v m ≡ false
unfolding before
not-before t k u l v m a b = grind (arith, nat_tests)

not-itself : (t k : ℕ) → before t k t k ≡ false
unfolding before
not-itself t k = grind (arith, nat_tests)

after_token : (a b : Refusal) → is_before a b ≡ before a.token (order a.kind) b.token (order b.kind)
unfolding before
after_token a b = refl

itself : (a : Refusal) → is_before a a ≡ false
itself a = after_token a a ∙ not-itself a.token (order a.kind)

passed : (x f r : Refusal) → is_before x f ≡ true → is_before x r ≡ false → is_before f r ≡ false
passed x f r a b = after_token f r ∙ behind-first x.token (order x.kind) f.token (order f.kind) r.token (order r.kind) (sym (after_token x f) ∙ a)
    (sym (after_token x r) ∙ b)

still : (x f r : Refusal) → is_before x f ≡ false → is_before f r ≡ false → is_before x r ≡ false
still x f r a b = after_token x r ∙ not-before x.token (order x.kind) f.token (order f.kind) r.token (order r.kind) (sym (after_token x f) ∙ a)
    (sym (after_token f r) ∙ b)

-- of a refusal and others, the first: one of them, and none before it
record IsFirst (first : Refusal) (refusals : List Refusal) (found : Option Refusal) : Type 0 where
  is : found ≡ Some first
  among : Contains refusals first
  none : All (λ other. is_before other first ≡ false) refusals

least : (refusals : List Refusal) (f : Refusal) → (first : Refusal) × IsFirst first (f ∷ refusals) (first_of (Some f) refusals)
least [] f = (
  f,
  record {
    is = refl;
    among = (0, omega arith, refl);
    none =
        All-cons (λ other. is_before other f ≡ false) f [] (itself f) (All-nil (λ other. is_before other f ≡ false));
  },
)
least (x ∷ refusals) f = by (is_before x f) refl (least refusals x) (least refusals f) where
  by : (b : Bool) → is_before x f ≡ b → (first : Refusal) × IsFirst first (x ∷ refusals) (first_of (Some x) refusals) → (first : Refusal) ×
      IsFirst first (f ∷ refusals) (first_of (Some f) refusals)
      → (first : Refusal) × IsFirst first (f ∷ x ∷ refusals) (first_of (if b then Some x else Some f) refusals)
  by true e (first, h) other = (
    first,
    record {
      is = h.is;
      among = Contains-append_right (f ∷ []) (x ∷ refusals) first h.among;
      none = All-cons (λ other. is_before other first ≡ false) f (x ∷ refusals) (passed x f first e (h.none 0 x (omega arith))) h.none;
    },
  )
  by false e other (first, h) = (
    first,
    record {
      is = h.is;
      among = elim (Contains-append_cases (f ∷ []) refusals first h.among) [
        | inl here ↦ Contains-append_left (f ∷ []) (x ∷ refusals) first here
        | inr later ↦ Contains-append_right (f ∷ x ∷ []) refusals first later
      ];
      none = All-cons (λ other. is_before other first ≡ false) f (x ∷ refusals) (h.none 0 x (omega arith))
          (All-cons (λ other. is_before other first ≡ false) x refusals (still x f first e (h.none 0 x (omega arith)))
          (λ k d within. h.none (suc k) d (omega arith)));
    },
  )

pub first-least : (refusals : List Refusal) → MatchOption (first_of None refusals) (refusals ≡ [])
    (λ first. Contains refusals first × All (λ other. is_before other first ≡ false) refusals)
first-least [] = refl
first-least (x ∷ refusals) = let found = least refusals x in
    subst (λ o. MatchOption o (x ∷ refusals ≡ []) (λ first. Contains (x ∷ refusals) first × All (λ other. is_before other first ≡ false) (x ∷ refusals)))
    (sym found.1.is) (found.1.among, found.1.none)
