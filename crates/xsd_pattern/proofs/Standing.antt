-- Parts as steps stand for the texts of the patterns that they are parts of.
use Rattle.std.proofs.Common.{◌≡◌, ℕ, zero, suc, ◌+◌, ◌≤◌, Bool, true, false, ◌&&◌, ◌||◌, List, [], ◌∷◌, ◌++◌, length, Option, Some, None, refl, sym, ap, subst}
use Rattle.std.proofs.Common.{◌∙◌, ◌⊎◌, inl, inr, append-nil, append_assoc, arith}
use Rattle.std.specs.Prelude.{if◌then◌else◌, ◌==◌, nat_lt, max, ◌*◌}
use Rattle.std.proofs.Math.Nat.{mul-le-mul_left}
use Rattle.std.proofs.lemmas.Bool.{ltb-false, ne_eqb}
use Rattle.xsd_pattern.specs.declared.token.Repeat.{Repeat}
use Rattle.xsd_pattern.specs.declared.token.Repeat.TheVariants.{Question, Star, Plus, Counted}
use Rattle.xsd_pattern.specs.declared.step.Step.{Step}
use Rattle.xsd_pattern.specs.declared.step.Step.TheVariants as s
use Rattle.xsd_pattern.specs.declared.parts.Part.{Part}
use Rattle.xsd_pattern.specs.Cuts.{Cut, AllIn, joined as all_joined}
use Rattle.xsd_pattern.specs.Classes.{more}
use Rattle.xsd_pattern.specs.Finding.{IsOne, IsUpTo, Parted}
use Rattle.xsd_pattern.specs.Core.{Core, Has, Run, is_empty, times, up_to}
use Rattle.xsd_pattern.specs.Core as r
use Rattle.xsd_pattern.specs.Matching.{repeated_size}
use Rattle.xsd_pattern.specs.Steps.{code}
use Rattle.xsd_pattern.specs.Parts.{part, is_nothing, large, no_part, one_part, looped, optional, all_steps, is_empty_part, with_size, with_flags, joined}
use Rattle.xsd_pattern.specs.Parts.{followed, alternated, either_part, copies, tail_steps, copied, repeated_part, open_part}
use Rattle.xsd_pattern.proofs.Repeats.{all_in, all_append, joined-append, parted_map, parted-yes, parted-only}

abbrev pub loop_of : Bool → Core (Option ℕ) → Core (Option ℕ)
loop_of false x = x
loop_of true x = r.again x

abbrev pub option_of : Bool → Core (Option ℕ) → Core (Option ℕ)
option_of false x = x
option_of true x = r.maybe x

abbrev pub wrapped : Part → Core (Option ℕ) → Core (Option ℕ)
wrapped p x = option_of p.absent (loop_of p.again x)

-- ---- steps

no-steps : (a b : List Step) → is_nothing (a ++ b) ≡ true → (is_nothing a ≡ true) × (is_nothing b ≡ true)
no-steps [] b e = (refl, e)
no-steps (x ∷ a) b e = cc

code-loop : (b : Bool) (x : Core (Option ℕ)) (steps : List Step) (empty : Bool) → steps ≡ code x → empty ≡ is_empty x
    → looped b empty steps ≡ code (loop_of b x)
code-loop false x steps empty e d = e
code-loop true x steps empty e d = λ i. s.Loop (length (e i)) ∷ (e i ++ s.End (d i) ∷ [])

code-option : (a : Bool) (x : Core (Option ℕ)) (steps : List Step) → steps ≡ code x → optional a steps ≡ code (option_of a x)
code-option false x steps e = e
code-option true x steps e = λ i. s.Save ∷ (e i ++ s.Join ∷ [])

empty-wrapped : (a b : Bool) (x : Core (Option ℕ)) → a || is_empty x ≡ is_empty (option_of a (loop_of b x))
empty-wrapped false false x = refl
empty-wrapped false true x = refl
empty-wrapped true b x = refl

code-times : (n : ℕ) (x rest : Core (Option ℕ)) → copies n (code x) ++ code rest ≡ code (times n x rest)
code-times zero x rest = refl
code-times (suc n) x rest = append_assoc (code x) (copies n (code x)) (code rest) ∙ ap (λ t. code x ++ t) (code-times n x rest)

empty_all : (n : ℕ) (x rest : Core (Option ℕ)) → is_empty x ≡ true → is_empty rest ≡ true → is_empty (times n x rest) ≡ true
empty_all zero x rest h k = k
empty_all (suc n) x rest h k = λ i. h i && empty_all n x rest h k i

suc_zero : (n : ℕ) → (suc n == 0) ≡ false
suc_zero n = ne_eqb (suc n) 0 (λ e. absurd (omega arith))

-- ---- cases of tests

pub if_cases : {X : Type 0} (P : X → Type 0) (b : Bool) (u v : X) → (b ≡ true → P u) → (b ≡ false → P v) → P (if b then u else v)
if_cases P true u v f g = f refl
if_cases P false u v f g = g refl

module _ (has : Option ℕ → ℕ → Bool) where
  pub record Stands (p : Part) (P : List ℕ → Type 0) : Type 0 where
    pub inner : Core (Option ℕ)
    pub steps : p.steps ≡ code inner
    pub empty : p.empty ≡ is_empty inner
    pub yes : (t : List ℕ) → P t → Has has (wrapped p inner) t
    pub only : (t : List ℕ) → Has has (wrapped p inner) t → P t

  abbrev HasOf : Core (Option ℕ) → List ℕ → Type 0
  HasOf x = Has has x

  empty-times : (n : ℕ) (x rest : Core (Option ℕ)) (b : Bool) → is_empty x ≡ b → is_empty rest ≡ true → (n == 0) || b ≡ is_empty (times n x rest)
  empty-times zero x rest b h k = sym k
  empty-times (suc n) x rest true h k = (λ i. suc_zero n i || true) ∙ sym (empty_all (suc n) x rest h k)
  empty-times (suc n) x rest false h k = (λ i. suc_zero n i || false) ∙ (λ i. sym h i && is_empty (times n x rest))

  -- ---- what has no steps has the empty text alone

  code_nil : (x : Core (Option ℕ)) → is_nothing (code x) ≡ true → (t : List ℕ) → HasOf x t → t ≡ []
  code_nil r.nothing e t h = h
  code_nil (r.one class) e t h = cc
  code_nil (r.both x y) e t (front, back, d, h, k) = let n = no-steps (code x) (code y) e in d ∙ (λ i. code_nil x n.0 front h i ++ code_nil y n.1 back k i)
  code_nil (r.either x y) e t h = cc
  code_nil (r.maybe x) e t h = cc
  code_nil (r.again x) e t h = cc

  code_has : (x : Core (Option ℕ)) → is_nothing (code x) ≡ true → HasOf x []
  code_has r.nothing e = refl
  code_has (r.one class) e = cc
  code_has (r.both x y) e = let n = no-steps (code x) (code y) e in ([], [], refl, code_has x n.0, code_has y n.1)
  code_has (r.either x y) e = cc
  code_has (r.maybe x) e = cc
  code_has (r.again x) e = cc

  run_nil : (x : Core (Option ℕ)) → is_nothing (code x) ≡ true → (parts : List (List ℕ)) → AllIn (HasOf x) parts → all_joined parts ≡ []
  run_nil x e [] h = refl
  run_nil x e (part ∷ parts) (h, k) = λ i. code_nil x e part h i ++ run_nil x e parts k i

  loop_nil : (b : Bool) (x : Core (Option ℕ)) → is_nothing (code x) ≡ true → (t : List ℕ) → HasOf (loop_of b x) t → t ≡ []
  loop_nil false x e t h = code_nil x e t h
  loop_nil true x e t (front, back, d, h, (parts, k, f)) = d ∙ (λ i. code_nil x e front h i ++ (f ∙ run_nil x e parts k) i)

  wrapped_nil : (a b : Bool) (x : Core (Option ℕ)) → is_nothing (code x) ≡ true → (t : List ℕ) → HasOf (option_of a (loop_of b x)) t → t ≡ []
  wrapped_nil false b x e t h = loop_nil b x e t h
  wrapped_nil true b x e t (inl h) = h
  wrapped_nil true b x e t (inr h) = loop_nil b x e t h

  loop_has : (b : Bool) (x : Core (Option ℕ)) → is_nothing (code x) ≡ true → HasOf (loop_of b x) []
  loop_has false x e = code_has x e
  loop_has true x e = ([], [], refl, code_has x e, ([], tt, refl))

  wrapped_has : (a b : Bool) (x : Core (Option ℕ)) → is_nothing (code x) ≡ true → HasOf (option_of a (loop_of b x)) []
  wrapped_has false b x e = loop_has b x e
  wrapped_has true b x e = inl refl

  inner_nil : (p : Part) (P : List ℕ → Type 0) (st : Stands p P) → is_nothing p.steps ≡ true → is_nothing (code st.inner) ≡ true
  inner_nil p P st e = ap is_nothing (sym st.steps) ∙ e

  nil_only : (p : Part) (P : List ℕ → Type 0) (st : Stands p P) → is_nothing p.steps ≡ true → (t : List ℕ) → P t → t ≡ []
  nil_only p P st e t h = wrapped_nil p.absent p.again st.inner (inner_nil p P st e) t (st.yes t h)

  nil_yes : (p : Part) (P : List ℕ → Type 0) (st : Stands p P) → is_nothing p.steps ≡ true → P []
  nil_yes p P st e = st.only [] (wrapped_has p.absent p.again st.inner (inner_nil p P st e))

  -- ---- a part with its flags

  pub code-all : (p : Part) (P : List ℕ → Type 0) (st : Stands p P) → all_steps p ≡ code (wrapped p st.inner)
  code-all p P st = code-option p.absent (loop_of p.again st.inner) (looped p.again p.empty p.steps)
      (code-loop p.again st.inner p.steps p.empty st.steps st.empty)

  pub empty-all : (p : Part) (P : List ℕ → Type 0) (st : Stands p P) → is_empty_part p ≡ is_empty (wrapped p st.inner)
  empty-all p P st = (λ i. p.absent || st.empty i) ∙ empty-wrapped p.absent p.again st.inner

  pub map_stands : (p : Part) (P Q : List ℕ → Type 0) → Stands p P → ((t : List ℕ) → Q t → P t) → ((t : List ℕ) → P t → Q t) → Stands p Q
  map_stands p P Q st f g = record { inner = st.inner; steps = st.steps; empty = st.empty; yes = λ t h. st.yes t (f t h); only = λ t h. g t (st.only t h) }

  size_stands : (n : ℕ) (p : Part) (P : List ℕ → Type 0) → Stands p P → Stands (with_size n p) P
  size_stands n p P st = record { inner = st.inner; steps = st.steps; empty = st.empty; yes = st.yes; only = st.only }

  option_in : (a : Bool) (x : Core (Option ℕ)) (t : List ℕ) → HasOf (option_of a x) t → (t ≡ []) ⊎ HasOf x t
  option_in false x t h = inr h
  option_in true x t h = h

  option_yes : (a : Bool) (x : Core (Option ℕ)) (t : List ℕ) → HasOf x t → HasOf (option_of a x) t
  option_yes false x t h = h
  option_yes true x t h = inr h

  loop_yes : (b : Bool) (x : Core (Option ℕ)) (t : List ℕ) → HasOf x t → HasOf (loop_of b x) t
  loop_yes false x t h = h
  loop_yes true x t h = (t, [], sym (append-nil t), h, ([], tt, refl))

  abbrev Runs : Core (Option ℕ) → List ℕ → Type 0
  Runs x = Run (HasOf x)

  run_append : (x : Core (Option ℕ)) (a b : List ℕ) → Runs x a → Runs x b → Runs x (a ++ b)
  run_append x a b (parts, h, e) (others, k, d) = (parts ++ others, all_append (HasOf x) parts others h k, (λ i. e i ++ d i) ∙ sym (joined-append parts others))

  loop_run : (b : Bool) (x : Core (Option ℕ)) (t : List ℕ) → HasOf (loop_of b x) t → Runs x t
  loop_run false x t h = (t ∷ [], (h, tt), sym (append-nil t))
  loop_run true x t (front, back, e, h, (parts, k, d)) = (front ∷ parts, (h, k), e ∙ ap (λ u. front ++ u) d)

  wrapped_run : (a b : Bool) (x : Core (Option ℕ)) (t : List ℕ) → HasOf (option_of a (loop_of b x)) t → Runs x t
  wrapped_run a b x t h = elim (option_in a (loop_of b x) t h) [ inl e ↦ ([], tt, e) | inr k ↦ loop_run b x t k ]

  runs_flat : (x : Core (Option ℕ)) (parts : List (List ℕ)) → AllIn (Runs x) parts → Runs x (all_joined parts)
  runs_flat x [] h = ([], tt, refl)
  runs_flat x (part ∷ parts) (h, k) = run_append x part (all_joined parts) h (runs_flat x parts k)

  run_maybe : (x : Core (Option ℕ)) (t : List ℕ) → Runs x t → HasOf (r.maybe (r.again x)) t
  run_maybe x t ([], h, e) = inl e
  run_maybe x t (part ∷ parts, (h, k), e) = inr (part, all_joined parts, e, h, (parts, k, refl))

  maybe_run : (x : Core (Option ℕ)) (t : List ℕ) → HasOf (r.maybe (r.again x)) t → Runs x t
  maybe_run x t (inl e) = ([], tt, e)
  maybe_run x t (inr h) = loop_run true x t h

  -- any number of what is wrapped is any number of what is inside
  flat_run : (a b : Bool) (x : Core (Option ℕ)) (parts : List (List ℕ)) → AllIn (HasOf (option_of a (loop_of b x))) parts → Runs x (all_joined parts)
  flat_run a b x parts h = runs_flat x parts (all_in (HasOf (option_of a (loop_of b x))) (Runs x) (wrapped_run a b x) parts h)

  inside_wrapped : (a b : Bool) (x : Core (Option ℕ)) (t : List ℕ) → HasOf x t → HasOf (option_of a (loop_of b x)) t
  inside_wrapped a b x t h = option_yes a (loop_of b x) t (loop_yes b x t h)

  -- ---- quantifiers

  optional_stands : (p : Part) (P : List ℕ → Type 0) → Stands p P → Stands (with_flags true p.again p) (λ t. (t ≡ []) ⊎ P t)
  optional_stands p P st = record {
    inner = st.inner;
    steps = st.steps;
    empty = st.empty;
    yes = λ t h. elim h [ inl e ↦ inl e | inr k ↦ option_in p.absent (loop_of p.again st.inner) t (st.yes t k) ];
    only = λ t h. elim h [ inl e ↦ inl e | inr k ↦ inr (st.only t (option_yes p.absent (loop_of p.again st.inner) t k)) ];
  }

  question_parts : (P : List ℕ → Type 0) (t : List ℕ) → (t ≡ []) ⊎ P t → Parted Question P t
  question_parts P t (inl e) = ([], omega arith, omega arith, tt, e)
  question_parts P t (inr h) = (t ∷ [], omega arith, omega arith, (h, tt), sym (append-nil t))

  parts_question : (P : List ℕ → Type 0) (t : List ℕ) → Parted Question P t → (t ≡ []) ⊎ P t
  parts_question P t ([], l, m, h, e) = inl e
  parts_question P t (part ∷ [], l, m, (h, k), e) = inr (subst P (sym (e ∙ append-nil part)) h)
  parts_question P t (part ∷ other ∷ parts, l, m, h, e) = absurd (omega arith)

  star_stands : (p : Part) (P : List ℕ → Type 0) → Stands p P → Stands (with_flags true true p) (Parted Star P)
  star_stands p P st = record {
    inner = st.inner;
    steps = st.steps;
    empty = st.empty;
    yes = λ t (parts, l, m, h, e). run_maybe st.inner t (subst (Runs st.inner) (sym e) (flat_run p.absent p.again st.inner parts (all_in P (HasOf
        (wrapped p st.inner)) st.yes parts h)));
    only = λ t h. let (parts, k, e) = maybe_run st.inner t h in
        (parts, omega arith, tt, all_in (HasOf st.inner) P (λ u g. st.only u (inside_wrapped p.absent p.again st.inner u g)) parts k, e);
  }

  plus-yes : (a b : Bool) (x : Core (Option ℕ)) (parts : List (List ℕ)) → 1 ≤ length parts → AllIn (HasOf (option_of a (loop_of b x))) parts
      → HasOf (option_of a (r.again x)) (all_joined parts)
  plus-yes a b x [] l h = absurd (omega arith)
  plus-yes true b x (part ∷ parts) l h = run_maybe x (part ++ all_joined parts) (flat_run true b x (part ∷ parts) h)
  plus-yes false b x (part ∷ parts) l (h, k) = first b (flat_run false b x parts k) h
    where
      first : (b : Bool) → Runs x (all_joined parts) → HasOf (loop_of b x) part → HasOf (r.again x) (part ++ all_joined parts)
      first false run g = (part, all_joined parts, refl, g, run)
      first true run (front, back, e, g, more) = (
        front,
        back ++ all_joined parts,
        ap (λ t. t ++ all_joined parts) e
            ∙ append_assoc front back (all_joined parts),
        g,
        run_append x back (all_joined parts) more run,
      )

  plus-only : (a b : Bool) (x : Core (Option ℕ)) (t : List ℕ) → HasOf (option_of a (r.again x)) t → Parted Plus (HasOf (option_of a (loop_of b x))) t
  plus-only true b x t (inl e) = ([] ∷ [], omega arith, tt, (inl refl, tt), e)
  plus-only true b x t (inr (front, back, e, h, (parts, k, d))) = (
    front ∷ parts,
    omega arith,
    tt,
    (inside_wrapped true b x front h, all_in (HasOf x) (HasOf (option_of true (loop_of b x))) (inside_wrapped true b x) parts k),
    e ∙ ap (λ u. front ++ u) d,
  )
  plus-only false b x t (front, back, e, h, (parts, k, d)) = (
    front ∷ parts,
    omega arith,
    tt,
    (inside_wrapped false b x front h, all_in (HasOf x) (HasOf (loop_of b x)) (inside_wrapped false b x) parts k),
    e ∙ ap (λ u. front ++ u) d,
  )

  plus_stands : (p : Part) (P : List ℕ → Type 0) → Stands p P → Stands (with_flags p.absent true p) (Parted Plus P)
  plus_stands p P st = record {
    inner = st.inner;
    steps = st.steps;
    empty = st.empty;
    yes = λ t (parts, l, m, h, e). subst (HasOf (option_of p.absent (r.again st.inner))) (sym e)
        (plus-yes p.absent p.again st.inner parts l (all_in P (HasOf (wrapped p st.inner)) st.yes parts h));
    only = λ t h. parted_map Plus (HasOf (wrapped p st.inner)) P st.only t (plus-only p.absent p.again st.inner t h);
  }

  -- ---- braces

  abbrev tail_of : Option ℕ → Bool → Core (Option ℕ) → Core (Option ℕ)
  tail_of None b x = r.maybe (r.again x)
  tail_of (Some m) b x = times m (r.maybe (loop_of b x)) r.nothing

  code-tail : (o : Option ℕ) (p : Part) (P : List ℕ → Type 0) (st : Stands p P) → tail_steps o p ≡ code (tail_of o p.again st.inner)
  code-tail None p P st = code-option true (r.again st.inner) _ (code-loop true st.inner p.steps p.empty st.steps st.empty)
  code-tail (Some m) p P st =
      ap (copies m) (code-option true (loop_of p.again st.inner) _ (code-loop p.again st.inner p.steps p.empty st.steps st.empty))
      ∙ (sym (append-nil (copies m (code (r.maybe (loop_of p.again st.inner))))) ∙ code-times m (r.maybe (loop_of p.again st.inner)) r.nothing)

  empty-tail : (o : Option ℕ) (b : Bool) (x : Core (Option ℕ)) → is_empty (tail_of o b x) ≡ true
  empty-tail None b x = refl
  empty-tail (Some m) b x = empty_all m (r.maybe (loop_of b x)) r.nothing refl refl

  times_map : (n : ℕ) (x y rest other : Core (Option ℕ)) → ((t : List ℕ) → HasOf x t → HasOf y t) → ((t : List ℕ) → HasOf rest t → HasOf other t)
      → (t : List ℕ) → HasOf (times n x rest) t → HasOf (times n y other) t
  times_map zero x y rest other f g t h = g t h
  times_map (suc n) x y rest other f g t (front, back, e, h, k) = (front, back, e, f front h, times_map n x y rest other f g back k)

  same_text : (x : Core (Option ℕ)) (t : List ℕ) → HasOf x t → HasOf x t
  same_text x t h = h

  tail-yes : (o : Option ℕ) (a b : Bool) (x : Core (Option ℕ)) (t : List ℕ) → HasOf (up_to o (option_of a (loop_of b x))) t → HasOf (tail_of o b x) t
  tail-yes None a b x t h = let (parts, k, e) = maybe_run (option_of a (loop_of b x)) t h in run_maybe x t (subst (Runs x) (sym e) (flat_run a b x parts k))
  tail-yes (Some m) a b x t h = times_map m (r.maybe (option_of a (loop_of b x))) (r.maybe (loop_of b x)) r.nothing r.nothing
      (λ u g. elim g [ inl e ↦ inl e | inr k ↦ option_in a (loop_of b x) u k ]) (same_text r.nothing) t h

  tail-only : (o : Option ℕ) (a b : Bool) (x : Core (Option ℕ)) (t : List ℕ) → HasOf (tail_of o b x) t → HasOf (up_to o (option_of a (loop_of b x))) t
  tail-only None a b x t h = let (parts, k, e) = maybe_run x t h in
      run_maybe (option_of a (loop_of b x)) t (parts, all_in (HasOf x) (HasOf (option_of a (loop_of b x))) (inside_wrapped a b x) parts k, e)
  tail-only (Some m) a b x t h = times_map m (r.maybe (loop_of b x)) (r.maybe (option_of a (loop_of b x))) r.nothing r.nothing
      (λ u g. elim g [ inl e ↦ inl e | inr k ↦ inr (option_yes a (loop_of b x) u k) ]) (same_text r.nothing) t h

  counted_stands : (size n : ℕ) (o : Option ℕ) (p : Part) (P : List ℕ → Type 0) → Stands p P
      → Stands (part (copies n (all_steps p) ++ tail_steps o p) size ((n == 0) || is_empty_part p) false false) (Parted (Counted n o) P)
  counted_stands size n o p P st =
      let w = wrapped p st.inner in
      let tail = tail_of o p.again st.inner in
      record {
        inner = times n w tail;
        steps = (λ i. copies n (code-all p P st i) ++ code-tail o p P st i) ∙ code-times n w tail;
        empty = empty-times n w tail (is_empty_part p) (sym (empty-all p P st)) (empty-tail o p.again st.inner);
        yes = λ t h. times_map n w w (up_to o w) tail (same_text w) (tail-yes o p.absent p.again st.inner) t
            (parted-yes has (Counted n o) w t (parted_map (Counted n o) P (HasOf w) st.yes t h));
        only = λ t h. parted_map (Counted n o) (HasOf w) P st.only t
            (parted-only has (Counted n o) w t (times_map n w w tail (up_to o w) (same_text w) (tail-only o p.absent p.again st.inner) t h));
      }

  nil_parts : (P : List ℕ → Type 0) (n : ℕ) → P [] → (parts : List (List ℕ)) × (length parts ≡ n) × AllIn P parts × ([] ≡ all_joined parts)
  nil_parts P zero h = ([], refl, tt, refl)
  nil_parts P (suc n) h = let (parts, l, k, e) = nil_parts P n h in ([] ∷ parts, ap suc l, (h, k), e)

  up_to_same : (n low : ℕ) (high : Option ℕ) → n ≡ low → IsUpTo n low high
  up_to_same n low None e = tt
  up_to_same n low (Some high) e = omega arith

  joined_nil : (P : List ℕ → Type 0) → ((t : List ℕ) → P t → t ≡ []) → (parts : List (List ℕ)) → AllIn P parts → all_joined parts ≡ []
  joined_nil P f [] h = refl
  joined_nil P f (part ∷ parts) (h, k) = λ i. f part h i ++ joined_nil P f parts k i

  nil_counted : (size n : ℕ) (o : Option ℕ) (p : Part) (P : List ℕ → Type 0) → Stands p P → is_nothing p.steps ≡ true
      → Stands (with_size size p) (Parted (Counted n o) P)
  nil_counted size n o p P st e = map_stands (with_size size p) P (Parted (Counted n o) P) (size_stands size p P st)
      (λ t (parts, l, m, h, d). subst P (sym (d ∙ joined_nil P (nil_only p P st e) parts h)) (nil_yes p P st e))
      (λ t h. let (parts, l, k, d) = nil_parts P n (nil_yes p P st e) in (
        parts,
        omega (arith, l),
        up_to_same (length parts) n o l,
        k,
        nil_only p P st e t h ∙ d,
      ))

  copied_stands : (size n : ℕ) (o : Option ℕ) (p : Part) (P : List ℕ → Type 0) → Stands p P → Stands (copied size n o p) (Parted (Counted n o) P)
  copied_stands size n o p P st = if_cases (λ q. Stands q (Parted (Counted n o) P)) (is_nothing p.steps) _ _ (nil_counted size n o p P st)
      (λ e. counted_stands size n o p P st)

  -- ---- two parts

  both_stand : (n : ℕ) (a b : Part) (P Q : List ℕ → Type 0) → Stands a P → Stands b Q
      → Stands (part (all_steps a ++ all_steps b) n (is_empty_part a && is_empty_part b) false false) (Cut P Q)
  both_stand n a b P Q x y = record {
    inner = r.both (wrapped a x.inner) (wrapped b y.inner);
    steps = λ i. code-all a P x i ++ code-all b Q y i;
    empty = λ i. empty-all a P x i && empty-all b Q y i;
    yes = λ t (front, back, e, h, k). (front, back, e, x.yes front h, y.yes back k);
    only = λ t (front, back, e, h, k). (front, back, e, x.only front h, y.only back k);
  }

  joined_stands : (n : ℕ) (a b : Part) (P Q : List ℕ → Type 0) → Stands a P → Stands b Q → Stands (joined n a b) (Cut P Q)
  joined_stands n a b P Q x y = if_cases (λ q. Stands q (Cut P Q)) (is_nothing a.steps) _ _
      (λ e. map_stands (with_size n b) Q (Cut P Q) (size_stands n b Q y)
      (λ t (front, back, d, h, k). subst Q (sym (d ∙ ap (λ f. f ++ back) (nil_only a P x e front h))) k)
      (λ t h. ([], t, refl, nil_yes a P x e, h)))
      (λ n1. if_cases (λ q. Stands q (Cut P Q)) (is_nothing b.steps) _ _
      (λ e. map_stands (with_size n a) P (Cut P Q) (size_stands n a P x)
      (λ t (front, back, d, h, k). subst P (sym (d ∙ (ap (λ f. front ++ f) (nil_only b Q y e back k) ∙ append-nil front))) h)
      (λ t h. (t, [], sym (append-nil t), h, nil_yes b Q y e)))
      (λ n2. both_stand n a b P Q x y))

  choice_stands : (n : ℕ) (a b : Part) (P Q : List ℕ → Type 0) → Stands a P → Stands b Q
      → Stands (part (s.Save ∷ (all_steps a ++ s.Or ∷ (all_steps b ++ s.Join ∷ []))) n (is_empty_part a || is_empty_part b) false false) (λ t. P t ⊎ Q t)
  choice_stands n a b P Q x y = record {
    inner = r.either (wrapped a x.inner) (wrapped b y.inner);
    steps = λ i. s.Save ∷ (code-all a P x i ++ s.Or ∷ (code-all b Q y i ++ s.Join ∷ []));
    empty = λ i. empty-all a P x i || empty-all b Q y i;
    yes = λ t h. elim h [ inl k ↦ inl (x.yes t k) | inr k ↦ inr (y.yes t k) ];
    only = λ t h. elim h [ inl k ↦ inl (x.only t k) | inr k ↦ inr (y.only t k) ];
  }

  alternated_stands : (n : ℕ) (a b : Part) (P Q : List ℕ → Type 0) → Stands a P → Stands b Q → Stands (alternated n a b) (λ t. P t ⊎ Q t)
  alternated_stands n a b P Q x y = if_cases (λ q. Stands q (λ t. P t ⊎ Q t)) (is_nothing a.steps) _ _
      (λ e. map_stands (with_size n (with_flags true b.again b)) (λ t. (t ≡ []) ⊎ Q t) (λ t. P t ⊎ Q t) (size_stands n (with_flags true b.again b) (λ t.
      (t ≡ []) ⊎ Q t) (optional_stands b Q y))
      (λ t h. elim h [ inl k ↦ inl (nil_only a P x e t k) | inr k ↦ inr k ])
      (λ t h. elim h [ inl k ↦ inl (subst P (sym k) (nil_yes a P x e)) | inr k ↦ inr k ]))
      (λ n1. if_cases (λ q. Stands q (λ t. P t ⊎ Q t)) (is_nothing b.steps) _ _
      (λ e. map_stands (with_size n (with_flags true a.again a)) (λ t. (t ≡ []) ⊎ P t) (λ t. P t ⊎ Q t) (size_stands n (with_flags true a.again a) (λ t.
      (t ≡ []) ⊎ P t) (optional_stands a P x))
      (λ t h. elim h [ inl k ↦ inr k | inr k ↦ inl (nil_only b Q y e t k) ])
      (λ t h. elim h [ inl k ↦ inr (subst Q (sym k) (nil_yes b Q y e)) | inr k ↦ inl k ]))
      (λ n2. choice_stands n a b P Q x y))

  -- ---- unless the part is too large

  abbrev pub StandsIf : Part → (List ℕ → Type 0) → Type 0
  StandsIf p P = p.size ≤ 2000 → Stands p P

  pub followed_if : (a b : Part) (P Q : List ℕ → Type 0) → StandsIf a P → StandsIf b Q → StandsIf (followed a b) (Cut P Q)
  followed_if a b P Q x y = if_cases (λ (q : Part). StandsIf q (Cut P Q)) (nat_lt 2000 (a.size + b.size)) large (joined (a.size + b.size) a b)
      (λ e l. absurd (omega (arith, l)))
      (λ e l. joined_stands (a.size + b.size) a b P Q (x (omega (arith, ltb-false 2000 (a.size + b.size) e))) (y (omega (
        arith,
        ltb-false 2000 (a.size + b.size) e,
      ))))

  pub either_if : (a b : Part) (P Q : List ℕ → Type 0) → StandsIf a P → StandsIf b Q → StandsIf (either_part a b) (λ t. P t ⊎ Q t)
  either_if a b P Q x y = if_cases (λ (q : Part). StandsIf q (λ t. P t ⊎ Q t)) (nat_lt 2000 (a.size + b.size)) large (alternated (a.size + b.size) a b)
      (λ e l. absurd (omega (arith, l)))
      (λ e l. alternated_stands (a.size + b.size) a b P Q (x (omega (arith, ltb-false 2000 (a.size + b.size) e))) (y (omega (
        arith,
        ltb-false 2000 (a.size + b.size) e,
      ))))

  times_more : (size f : ℕ) → 1 ≤ f → size ≤ size * f
  times_more size f l = omega (arith, mul-le-mul_left size l)

  size_below : (size n : ℕ) (o : Option ℕ) → repeated_size size (Counted n o) ≤ 2000 → size ≤ 2000
  size_below size n None l = omega (arith, times_more size (n + 1) (omega arith), l)
  size_below size n (Some m) l = omega (arith, times_more size (max (n + m) 1) (omega arith), l)

  pub repeated_if : (q : Repeat) (p : Part) (P : List ℕ → Type 0) → StandsIf p P → StandsIf (repeated_part q p) (Parted q P)
  repeated_if Question p P x l = map_stands (with_flags true p.again p) (λ t. (t ≡ []) ⊎ P t) (Parted Question P) (optional_stands p P (x l))
      (parts_question P) (question_parts P)
  repeated_if Star p P x l = star_stands p P (x l)
  repeated_if Plus p P x l = plus_stands p P (x l)
  repeated_if (Counted n o) p P x l = if_cases (λ (q : Part). StandsIf q (Parted (Counted n o) P)) (nat_lt 2000 (repeated_size p.size (Counted n o))) large
      (copied (repeated_size p.size (Counted n o)) n o p)
      (λ e m. absurd (omega (arith, m)))
      (λ e m. copied_stands (repeated_size p.size (Counted n o)) n o p P (x (size_below p.size n o (ltb-false 2000 (repeated_size p.size (Counted n o)) e)))) l

  pub nothing_if : StandsIf no_part (λ t. t ≡ [])
  nothing_if l = record { inner = r.nothing; steps = refl; empty = refl; yes = λ t h. h; only = λ t h. h }

  pub one_if : (place : Option ℕ) → StandsIf (one_part place) (IsOne has place)
  one_if place l = record { inner = r.one place; steps = refl; empty = refl; yes = λ t h. h; only = λ t h. h }

  -- what may stand before or behind a line
  abbrev pub Open : Bool → List ℕ → Type 0
  Open closed t = closed ≡ true → t ≡ []

  any_run : ((c : ℕ) → has None c ≡ true) → (t : List ℕ) → Runs (r.one None) t
  any_run any [] = ([], tt, refl)
  any_run any (c ∷ t) = let (parts, h, e) = any_run any t in ((c ∷ []) ∷ parts, ((c, refl, any c), h), ap (λ u. c ∷ u) e)

  pub open_if : ((c : ℕ) → has None c ≡ true) → (closed : Bool) → StandsIf (open_part closed) (Open closed)
  open_if any true l = record { inner = r.nothing; steps = refl; empty = refl; yes = λ t h. h refl; only = λ t h e. h }
  open_if any false l = record { inner = r.one None; steps = refl; empty = refl; yes = λ t h. run_maybe (r.one None) t (any_run any t); only = λ t h e. cc }
