-- Rules that were built: what one more changes, and what none is left for.
use Rattle.std.proofs.Common.{◌≡◌, ℕ, zero, suc, ◌+◌, ◌-◌, ◌<◌, ◌≤◌, Bool, true, false, ◌&&◌, true≢false, List, [], ◌∷◌, ◌++◌, length, set, get_or, Option}
use Rattle.std.proofs.Common.{Some, None, is_some, cond, refl, ap, sym, subst, ◌∙◌, append-nil, length-append, zero-add, arith, ◌⊎◌, inl, inr}
use Rattle.std.specs.Prelude.{slice_get, nat_eq, nat_lt}
use Rattle.std.specs.List.{list_all, flat_map}
use Rattle.std.proofs.Math.ListN.{get_or-append}
use Rattle.std.proofs.Math.Seq.{get_or-append_seam}
use Rattle.std.proofs.lemmas.List.{length-set}
use Rattle.std.proofs.lemmas.List.Sums.{sum_by-set, count_by-le-length}
use Rattle.std.proofs.lemmas.List.Folds.{list_all-append}
use Rattle.std.proofs.lemmas.Option.{slice_get_within, get_or_from_slice_get}
use Rattle.std.proofs.lemmas.Bool.Decides.{nat_tests}
use Rattle.std.proofs.lemmas.Grind.{flat_map-append}
use Rattle.schematron_graph.specs.declared.part.Part.{Part}
use Rattle.schematron_graph.specs.declared.part.Part.TheVariants.{Own, Puts}
use Rattle.schematron_graph.specs.declared.building.Substitute.{Substitute}
use Rattle.schematron_graph.specs.Rules.{body_of, part_ends, most_depth, ends_within, ends, things_of, things_within, things_where, things_put, expansion}
use Rattle.schematron_graph.specs.Ranked.{found, things_behind, is_below}
use Rattle.schematron_graph.specs.Built.{parts_put, parts_found, built_body, is_built_found, is_settled, is_ready, built_count, FitsRule, Fits, IsClosed}
use Rattle.schematron_graph.specs.Built.{is_unbuilt_found, is_next, ranked_with, put_with}
use Rattle.schematron_graph.proofs.RankedLemmas.{and-left, and-right, and-both, behind-push, length-behind, things_of-Agrees}
use Rattle.schematron_graph.proofs.DepthLemmas.{ends-le, things-le, absent-body, absent-ends, absent-things}

-- Rules that are ready

module _ (rules ranked : List (List Part)) (puts : List (Option Substitute)) (fits : Fits rules ranked puts) where
  ends-found : (rule : ℕ) (f : Option (Option Substitute)) → slice_get puts rule ≡ f → is_built_found f ≡ true
      → ends_within (suc (built_count puts)) rules rule ≡ true
  ends-found rule None e b = absent-ends rules rule (built_count puts) (absent-body puts rules rule fits.whole e)
  ends-found rule (Some None) e b = absurd (true≢false (sym b))
  ends-found rule (Some (Some put)) e b = let r : FitsRule rules ranked (built_count puts) rule put = fits.each rule put e in r.ends_there

  pub ready-ends : (body : List Part) → is_ready puts body ≡ true → list_all (part_ends (ends_within (suc (built_count puts)) rules)) body ≡ true
  ready-ends [] e = refl
  ready-ends (Own thing ∷ body) e = ready-ends body e
  ready-ends (Puts rule ∷ body) e =
      and-both (ends_within (suc (built_count puts)) rules rule) (list_all (part_ends (ends_within (suc (built_count puts)) rules)) body)
      (ends-found rule (slice_get puts rule) refl (and-left (is_settled puts rule) (is_ready puts body) e))
      (ready-ends body (and-right (is_settled puts rule) (is_ready puts body) e))

  things-found : (rule : ℕ) (f : Option (Option Substitute)) → slice_get puts rule ≡ f → is_built_found f ≡ true
      → flat_map (things_of (found (things_behind ranked))) (parts_found f) ≡ things_within (most_depth rules) rules rule
  things-found rule None e b = sym (absent-things rules rule (length rules) (absent-body puts rules rule fits.whole e))
  things-found rule (Some None) e b = absurd (true≢false (sym b))
  things-found rule (Some (Some put)) e b = let r : FitsRule rules ranked (built_count puts) rule put = fits.each rule put e in r.things

  pub ready-things : (body : List Part) → is_ready puts body ≡ true
      → flat_map (things_of (found (things_behind ranked))) (built_body puts body) ≡ flat_map (things_of (things_within (most_depth rules) rules)) body
  ready-things [] e = refl
  ready-things (Own thing ∷ body) e = ap (λ t. thing ∷ t) (ready-things body e)
  ready-things (Puts rule ∷ body) e =
      flat_map-append (things_of (found (things_behind ranked))) (parts_found (slice_get puts rule)) (built_body puts body)
      ∙ (ap (λ t. t ++ flat_map (things_of (found (things_behind ranked))) (built_body puts body))
      (things-found rule (slice_get puts rule) refl (and-left (is_settled puts rule) (is_ready puts body) e))
      ∙ ap (λ t. things_within (most_depth rules) rules rule ++ t) (ready-things body (and-right (is_settled puts rule) (is_ready puts body) e)))

  below-found : (rule : ℕ) (f : Option (Option Substitute)) → slice_get puts rule ≡ f → list_all (is_below (length ranked)) (parts_found f) ≡ true
  below-found rule None e = refl
  below-found rule (Some None) e = refl
  below-found rule (Some (Some put)) e = let r : FitsRule rules ranked (built_count puts) rule put = fits.each rule put e in r.below

  pub built-below : (body : List Part) → list_all (is_below (length ranked)) (built_body puts body) ≡ true
  built-below [] = refl
  built-below (Own thing ∷ body) = built-below body
  built-below (Puts rule ∷ body) =
      list_all-append (is_below (length ranked)) (parts_found (slice_get puts rule)) (built_body puts body)
      ∙ and-both (list_all (is_below (length ranked)) (parts_found (slice_get puts rule))) (list_all (is_below (length ranked)) (built_body puts body))
      (below-found rule (slice_get puts rule) refl) (built-below body)

-- One more ranked body

behind-length : (ranked : List (List Part)) → length (things_behind ranked) ≡ length ranked
behind-length ranked = length-behind things_of [] ranked ∙ zero-add (length ranked)

found-kept : (ranked : List (List Part)) (parts : List Part) (k : ℕ) → k < length ranked →
    found (things_behind (ranked ++ parts ∷ [])) k ≡ found (things_behind ranked) k
found-kept ranked parts k h =
    ap (λ t. found t k) (behind-push things_of [] ranked parts)
    ∙ get_or-append (things_behind ranked) (flat_map (things_of (found (things_behind ranked))) parts ∷ []) [] k (omega (arith, h, behind-length ranked))

found-new : (ranked : List (List Part)) (parts : List Part) →
    found (things_behind (ranked ++ parts ∷ [])) (length ranked) ≡ flat_map (things_of (found (things_behind ranked))) parts
found-new ranked parts =
    ap (λ t. found t (length ranked)) (behind-push things_of [] ranked parts)
    ∙ (ap (found (things_behind ranked ++ flat_map (things_of (found (things_behind ranked))) parts ∷ [])) (sym (behind-length ranked))
    ∙ get_or-append_seam (things_behind ranked) (flat_map (things_of (found (things_behind ranked))) parts) [] [])

parts-kept : (ranked : List (List Part)) (more parts : List Part) → list_all (is_below (length ranked)) parts ≡ true
    → flat_map (things_of (found (things_behind (ranked ++ more ∷ [])))) parts ≡ flat_map (things_of (found (things_behind ranked))) parts
parts-kept ranked more [] e = refl
parts-kept ranked more (part ∷ parts) e =
    ap (λ t. t ++ flat_map (things_of (found (things_behind (ranked ++ more ∷ [])))) parts)
    (things_of-Agrees.below (found (things_behind (ranked ++ more ∷ []))) (found (things_behind ranked)) (length ranked) part
    (and-left (is_below (length ranked) part) (list_all (is_below (length ranked)) parts) e) (λ k h. found-kept ranked more k h))
    ∙ ap (λ t. things_of (found (things_behind ranked)) part ++ t)
    (parts-kept ranked more parts (and-right (is_below (length ranked) part) (list_all (is_below (length ranked)) parts) e))

pub ranked-kept : (ranked : List (List Part)) (more parts : List Part) → list_all (is_below (length ranked)) parts ≡ true
    → flat_map (things_of (found (things_behind (ranked_with ranked more)))) parts ≡ flat_map (things_of (found (things_behind ranked))) parts
ranked-kept ranked [] parts e = refl
ranked-kept ranked (one ∷ []) parts e = refl
ranked-kept ranked (one ∷ two ∷ more) parts e = parts-kept ranked (one ∷ two ∷ more) parts e

pub ranked-new : (ranked : List (List Part)) (parts : List Part)
    → flat_map (things_of (found (things_behind (ranked_with ranked parts)))) (parts_put (put_with ranked parts)) ≡ flat_map
    (things_of (found (things_behind ranked))) parts
ranked-new ranked [] = refl
ranked-new ranked (one ∷ []) = refl
ranked-new ranked (one ∷ two ∷ parts) = append-nil (found (things_behind (ranked ++ (one ∷ two ∷ parts) ∷ [])) (length ranked)) ∙
    found-new ranked (one ∷ two ∷ parts)

ranked-longer : (ranked : List (List Part)) (parts : List Part) → length ranked ≤ length (ranked_with ranked parts)
ranked-longer ranked [] = omega arith
ranked-longer ranked (one ∷ []) = omega arith
ranked-longer ranked (one ∷ two ∷ parts) = omega (arith, length-append ranked ((one ∷ two ∷ parts) ∷ []))

below-le : (m n : ℕ) → m ≤ n → (parts : List Part) → list_all (is_below m) parts ≡ true → list_all (is_below n) parts ≡ true
below-le m n h [] e = refl
below-le m n h (Own thing ∷ parts) e = below-le m n h parts e
below-le m n h (Puts rule ∷ parts) e =
    and-both (nat_lt rule n) (list_all (is_below n) parts) (less (and-left (nat_lt rule m) (list_all (is_below m) parts) e))
    (below-le m n h parts (and-right (nat_lt rule m) (list_all (is_below m) parts) e))
  where
    less : nat_lt rule m ≡ true → nat_lt rule n ≡ true
    less l = grind (arith, nat_tests)

pub kept-below : (ranked : List (List Part)) (more parts : List Part) → list_all (is_below (length ranked)) parts ≡ true →
    list_all (is_below (length (ranked_with ranked more))) parts ≡ true
kept-below ranked more parts e = below-le (length ranked) (length (ranked_with ranked more)) (ranked-longer ranked more) parts e

last-below : (n m : ℕ) → m ≡ n + 1 → nat_lt n m ≡ true
last-below n m e = grind (arith, nat_tests)

pub new-below : (ranked : List (List Part)) (parts : List Part) → list_all (is_below (length ranked)) parts ≡ true →
    list_all (is_below (length (ranked_with ranked parts))) (parts_put (put_with ranked parts)) ≡ true
new-below ranked [] e = refl
new-below ranked (one ∷ []) e = e
new-below ranked (one ∷ two ∷ parts) e =
    ap (λ b. b && true) (last-below (length ranked) (length (ranked ++ (one ∷ two ∷ parts) ∷ [])) (length-append ranked ((one ∷ two ∷ parts) ∷ [])))

-- One more rule that is built

get-set : {A : Type 0} (xs : List A) (k j : ℕ) (x y : A) → slice_get (set xs k x) j ≡ Some y → ((j ≡ k) × (x ≡ y)) ⊎ (slice_get xs j ≡ Some y)
get-set [] k j x y e = inr e
get-set (a ∷ xs) zero zero x y e = inl (refl, let same : x ≡ y = cc in same)
get-set (a ∷ xs) zero (suc j) x y e = inr e
get-set (a ∷ xs) (suc k) zero x y e = inr e
get-set (a ∷ xs) (suc k) (suc j) x y e = elim (get-set xs k j x y e) [ inl h ↦ inl (ap suc h.0, h.1) | inr h ↦ inr h ]

count-more : (puts : List (Option Substitute)) (rule : ℕ) (put : Substitute) → slice_get puts rule ≡ Some None → built_count (set puts rule (Some put))
    ≡ built_count puts + 1
count-more puts rule put e =
    let f : Option Substitute → ℕ = λ x. cond (is_some x) 1 0 in
    let s : built_count (set puts rule (Some put)) + f (get_or puts rule None) ≡ built_count puts + 1 =
    sum_by-set f puts rule (Some put) None (slice_get_within puts rule None e) in
    let n : f (get_or puts rule None) ≡ 0 = ap f (get_or_from_slice_get puts rule None None e) in
    omega (arith, s, n)

pub unbuilt-found : (f : Option (Option Substitute)) → is_unbuilt_found f ≡ true → f ≡ Some None
unbuilt-found None e = absurd (true≢false (sym e))
unbuilt-found (Some None) e = refl
unbuilt-found (Some (Some put)) e = absurd (true≢false (sym e))

module _ (rules ranked : List (List Part)) (puts : List (Option Substitute)) (fits : Fits rules ranked puts) (rule : ℕ) (unbuilt : slice_get puts rule
    ≡ Some None)
    (ready : is_ready puts (body_of rules rule) ≡ true) where
  abbrev parts : List Part
  parts = built_body puts (body_of rules rule)

  abbrev put : Substitute
  put = put_with ranked parts

  abbrev after : List (Option Substitute)
  after = set puts rule (Some put)

  counted : built_count after ≡ suc (built_count puts)
  counted = let e : built_count after ≡ built_count puts + 1 = count-more puts rule put unbuilt in omega (arith, e)

  whole-after : length after ≡ length rules
  whole-after = length-set puts rule (Some put) ∙ fits.whole

  count-within : built_count after ≤ length rules
  count-within = let h : built_count after ≤ length after = count_by-le-length is_some after in omega (arith, h, whole-after)

  ends-new : ends_within (suc (built_count after)) rules rule ≡ true
  ends-new = ap (λ n. list_all (part_ends (ends_within n rules)) (body_of rules rule)) counted ∙ ready-ends rules ranked puts fits (body_of rules rule) ready

  things-new : flat_map (things_of (found (things_behind (ranked_with ranked parts)))) (parts_put put) ≡ things_within (most_depth rules) rules rule
  things-new =
      ranked-new ranked parts
      ∙ (ready-things rules ranked puts fits (body_of rules rule) ready
      ∙ sym (things-le (most_depth rules) (suc (most_depth rules)) (omega arith) rules rule
      (ends-le (suc (built_count after)) (most_depth rules) (omega (arith, count-within)) rules rule ends-new)))

  fits-new : FitsRule rules (ranked_with ranked parts) (built_count after) rule put
  fits-new = record { ends_there = ends-new; below = new-below ranked parts (built-below rules ranked puts fits (body_of rules rule)); things = things-new }

  fits-old : (x : ℕ) (p : Substitute) → slice_get puts x ≡ Some (Some p) → FitsRule rules (ranked_with ranked parts) (built_count after) x p
  fits-old x p e =
      let r : FitsRule rules ranked (built_count puts) x p = fits.each x p e in
      record {
        ends_there = ends-le (suc (built_count puts)) (suc (built_count after)) (omega (arith, counted)) rules x r.ends_there;
        below = kept-below ranked parts (parts_put p) r.below;
        things = ranked-kept ranked parts (parts_put p) r.below ∙ r.things;
      }

  same-some : (p : Substitute) → Some put ≡ Some p → put ≡ p
  same-some p e = cc

  fits-each : (x : ℕ) (p : Substitute) → slice_get after x ≡ Some (Some p) → FitsRule rules (ranked_with ranked parts) (built_count after) x p
  fits-each x p e = elim (get-set puts rule x (Some put) (Some p) e) [
    | inl h ↦ subst (λ n. FitsRule rules (ranked_with ranked parts) (built_count after) n p) (sym h.0)
        (subst (λ q. FitsRule rules (ranked_with ranked parts) (built_count after) rule q) (same-some p h.1) fits-new)
    | inr h ↦ fits-old x p h
  ]

  pub Fits-more : Fits rules (ranked_with ranked parts) after
  Fits-more = record { whole = whole-after; each = fits-each }

  pub count-after : built_count after ≡ built_count puts + 1
  count-after = count-more puts rule put unbuilt

-- Rules that can't be built

and_false : (b : Bool) → (b && false) ≡ false
and_false true = refl
and_false false = refl

not_all-later : (a built ready all : Bool) → built ≡ true → (built && ready) ≡ false → (ready ≡ false → all ≡ false) → (a && all) ≡ false
not_all-later a built ready all t e h = ap (λ b. a && b) (h (ap (λ b. b && ready) (sym t) ∙ e)) ∙ and_false a

not_all-by : (puts : List (Option Substitute)) (rule : ℕ) (a ready all : Bool) (f : Option (Option Substitute)) → slice_get puts rule ≡ f →
    (slice_get puts rule ≡ Some None → a ≡ false)
    → (is_settled puts rule && ready) ≡ false → (ready ≡ false → all ≡ false) → (a && all) ≡ false
not_all-by puts rule a ready all None k none e h = not_all-later a (is_settled puts rule) ready all (ap is_built_found k) e h
not_all-by puts rule a ready all (Some None) k none e h = ap (λ b. b && all) (none k)
not_all-by puts rule a ready all (Some (Some put)) k none e h = not_all-later a (is_settled puts rule) ready all (ap is_built_found k) e h

not_all : (test : ℕ → Bool) (puts : List (Option Substitute)) (body : List Part) → ((x : ℕ) → slice_get puts x ≡ Some None → test x ≡ false) →
    is_ready puts body ≡ false → list_all (part_ends test) body ≡ false
not_all test puts [] h e = absurd (true≢false e)
not_all test puts (Own thing ∷ body) h e = not_all test puts body h e
not_all test puts (Puts rule ∷ body) h e =
    not_all-by puts rule (test rule) (is_ready puts body) (list_all (part_ends test) body) (slice_get puts rule) refl (h rule) e (not_all test puts body h)

not-ends : (rules : List (List Part)) (puts : List (Option Substitute)) → IsClosed rules puts → (depth rule : ℕ) → slice_get puts rule ≡ Some None →
    ends_within depth rules rule ≡ false
not-ends rules puts closed zero rule e = refl
not-ends rules puts closed (suc depth) rule e = not_all (ends_within depth rules) puts (body_of rules rule) (λ x h. not-ends rules puts closed depth x h)
    (closed rule e)

-- Once no rule is left

module _ (rules ranked : List (List Part)) (puts : List (Option Substitute)) (fits : Fits rules ranked puts) (closed : IsClosed rules puts) where
  count-below : built_count puts ≤ length rules
  count-below = let h : built_count puts ≤ length puts = count_by-le-length is_some puts in omega (arith, h, fits.whole)

  ends-by : (rule : ℕ) (f : Option (Option Substitute)) → slice_get puts rule ≡ f → is_built_found f ≡ ends rules rule
  ends-by rule None e = sym (absent-ends rules rule (length rules) (absent-body puts rules rule fits.whole e))
  ends-by rule (Some None) e = sym (not-ends rules puts closed (most_depth rules) rule e)
  ends-by rule (Some (Some put)) e =
      let r : FitsRule rules ranked (built_count puts) rule put = fits.each rule put e in
      sym (ends-le (suc (built_count puts)) (most_depth rules) (omega (arith, count-below)) rules rule r.ends_there)

  pub built-ends : (rule : ℕ) → is_settled puts rule ≡ ends rules rule
  built-ends rule = ends-by rule (slice_get puts rule) refl

  put-by : (rule : ℕ) (f : Option (Option Substitute)) → slice_get puts rule ≡ f →
      flat_map (things_of (found (things_behind ranked))) (parts_found f) ≡ things_put rules rule
  put-by rule None e =
      sym (ap (λ b. things_where b (most_depth rules) rules rule) (sym (built-ends rule) ∙ ap is_built_found e) ∙
      absent-things rules rule (length rules) (absent-body puts rules rule fits.whole e))
  put-by rule (Some None) e = sym (ap (λ b. things_where b (most_depth rules) rules rule) (sym (built-ends rule) ∙ ap is_built_found e))
  put-by rule (Some (Some put)) e =
      let r : FitsRule rules ranked (built_count puts) rule put = fits.each rule put e in
      r.things ∙ sym (ap (λ b. things_where b (most_depth rules) rules rule) (sym (built-ends rule) ∙ ap is_built_found e))

  pub built-expansion : (body : List Part) → flat_map (things_of (found (things_behind ranked))) (built_body puts body) ≡ expansion rules body
  built-expansion [] = refl
  built-expansion (Own thing ∷ body) = ap (λ t. thing ∷ t) (built-expansion body)
  built-expansion (Puts rule ∷ body) =
      flat_map-append (things_of (found (things_behind ranked))) (parts_found (slice_get puts rule)) (built_body puts body)
      ∙ (ap (λ t. t ++ flat_map (things_of (found (things_behind ranked))) (built_body puts body)) (put-by rule (slice_get puts rule) refl)
      ∙ ap (λ t. things_put rules rule ++ t) (built-expansion body))

-- Loops

pub next-parts : (rules : List (List Part)) (puts : List (Option Substitute)) (rule : ℕ) → is_next rules puts rule ≡ true → (slice_get puts rule ≡ Some None) ×
    (is_ready puts (body_of rules rule) ≡ true)
next-parts rules puts rule e = (
  unbuilt-found (slice_get puts rule) (and-left (is_unbuilt_found (slice_get puts rule)) (is_ready puts (body_of rules rule)) e),
  and-right (is_unbuilt_found (slice_get puts rule)) (is_ready puts (body_of rules rule)) e,
)

-- none so far is next
abbrev pub NoneNext : List (List Part) → List (Option Substitute) → ℕ → Type 0
NoneNext rules puts n = (rule : ℕ) → rule < n → is_next rules puts rule ≡ false

pub none-more : (rules : List (List Part)) (puts : List (Option Substitute)) (n : ℕ) → NoneNext rules puts n → is_next rules puts n ≡ false →
    NoneNext rules puts (n + 1)
none-more rules puts n h e = λ rule l. by rule l (nat_eq rule n) refl
  where
    by : (rule : ℕ) → rule < n + 1 → (b : Bool) → nat_eq rule n ≡ b → is_next rules puts rule ≡ false
    by rule l true q = let same : rule ≡ n = grind (arith, nat_tests) in ap (is_next rules puts) same ∙ e
    by rule l false q = h rule (grind (arith, nat_tests))

pub none-closed : (rules : List (List Part)) (puts : List (Option Substitute)) (n : ℕ) → length puts ≤ n → NoneNext rules puts n → IsClosed rules puts
none-closed rules puts n h none = λ rule e.
    ap (λ f. is_unbuilt_found f && is_ready puts (body_of rules rule)) (sym e) ∙
    none rule (let l : rule < length puts = slice_get_within puts rule None e in omega (arith, l, h))

pub fewer-unbuilt : (rules ranked : List (List Part)) (before after : List (Option Substitute)) (n m k : ℕ) → n ≡ length rules → Fits rules ranked after →
    m ≡ built_count before → k ≡ m + 1 → k ≡ built_count after → n - k < n - m
fewer-unbuilt rules ranked before after n m k e fits a b c =
    let h : built_count after ≤ length after = count_by-le-length is_some after in
    omega (arith, e, fits.whole, a, b, c, h)

-- a rule built
pub build-fits : (rules ranked ranked_after : List (List Part)) (puts puts_after : List (Option Substitute)) (rule : ℕ) (made : List Part) (put_there :
    Substitute) →
    Fits rules ranked puts → is_next rules puts rule ≡ true
    → made ≡ built_body puts (body_of rules rule) → ranked_after ≡ ranked_with ranked made → put_there ≡ put_with ranked made →
    puts_after ≡ set puts rule (Some put_there)
    → Fits rules ranked_after puts_after × (built_count puts_after ≡ built_count puts + 1)
build-fits rules ranked ranked_after puts puts_after rule made put_there fits next p q r s =
    let n = next-parts rules puts rule next in
    let e : ranked_after ≡ ranked_with ranked (built_body puts (body_of rules rule)) = q ∙ ap (ranked_with ranked) p in
    let f : puts_after ≡ set puts rule (Some (put_with ranked (built_body puts (body_of rules rule)))) = s ∙
    ap (λ x. set puts rule (Some x)) (r ∙ ap (put_with ranked) p) in (
      subst (λ x. Fits rules x puts_after) (sym e) (subst (λ x. Fits rules (ranked_with ranked (built_body puts (body_of rules rule))) x) (sym f)
          (Fits-more rules ranked puts fits rule n.0 n.1)),
      ap built_count f ∙ count-after rules ranked puts fits rule n.0 n.1,
    )
