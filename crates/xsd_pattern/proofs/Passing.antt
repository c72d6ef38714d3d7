-- Going over the steps once moves the marks.
use Rattle.std.proofs.Common.{◌≡◌, ℕ, suc, ◌+◌, Bool, true, false, ◌&&◌, ◌||◌, List, [], ◌∷◌, ◌++◌, length, replicate, refl, sym, ap, subst, ◌∙◌, append_assoc}
use Rattle.std.proofs.Common.{append-nil, length-append, arith, ◌<◌, drop, take, get_or, inl, inr, add-one, drop-cons, Option}
use Rattle.std.specs.List.{slice_index_or}
use Rattle.std.proofs.Math.Seq.{get_or-append_seam}
use Rattle.std.proofs.lemmas.Bool.{cases_Bool}
use Rattle.std.proofs.Math.ListN.{set}
use Rattle.std.proofs.lemmas.List.{replicate-append-replicate, take_more_set, drop-set-lt}
use Rattle.xsd_pattern.specs.declared.step.Step.{Step}
use Rattle.xsd_pattern.specs.declared.step.Step.TheVariants as s
use Rattle.xsd_pattern.specs.declared.places.Place.{Place}
use Rattle.xsd_pattern.specs.Core.{Core, is_empty}
use Rattle.xsd_pattern.specs.Core as r
use Rattle.xsd_pattern.specs.Marks.{Marked, at_end, nothing, one, both, either, maybe, again, plain, unmarked, moved, found, is_in}
use Rattle.xsd_pattern.specs.Steps.{code, flat, At, at, place, Passed, with_marks, passed, ran, stepped, marked, ahead}
use Rattle.xsd_pattern.proofs.Language.{no_marks, end-yes, plain-unmarked, plain-moved}

-- ---- tests

both_law : (y x h e f : Bool) → y || ((x || (h && e)) && f) ≡ (y || (x && f)) || (h && (e && f))
both_law true x h e f = refl
both_law false true h e true = refl
both_law false true true true false = refl
both_law false true true false false = refl
both_law false true false e false = refl
both_law false false true e f = refl
both_law false false false e f = refl

either_law : (x y h e f : Bool) → (x || (h && e)) || (y || (h && f)) ≡ (x || y) || (h && (e || f))
either_law true y h e f = refl
either_law false true true true f = refl
either_law false true true false f = refl
either_law false true false e f = refl
either_law false false true true f = refl
either_law false false true false f = refl
either_law false false false e f = refl

maybe_law : (x h e : Bool) → h || (x || (h && e)) ≡ x || (h && true)
maybe_law true true e = refl
maybe_law true false e = refl
maybe_law false true e = refl
maybe_law false false e = refl

again_law : (x h e : Bool) → x || ((h || x) && e) ≡ x || (h && e)
again_law true h e = refl
again_law false true e = refl
again_law false false e = refl

none_law : (x e : Bool) → x || (false && e) ≡ x
none_law true e = refl
none_law false e = refl

-- ---- lists

module _ (has : Option ℕ → ℕ → Bool) where
  length-flat : (x : Marked (Option ℕ)) → length (flat x) ≡ length (code (plain x))
  length-flat nothing = refl
  length-flat (one class mark) = refl
  length-flat (both x y) = omega (arith, length-append (flat x) (flat y), length-append (code (plain x)) (code (plain y)), length-flat x, length-flat y)
  length-flat (either x y) = omega (
    arith,
    length-append (flat x) (false ∷ (flat y ++ false ∷ [])),
    length-append (flat y) (false ∷ []),
    length-append (code (plain x)) (s.Or ∷ (code (plain y) ++ s.Join ∷ [])),
    length-append (code (plain y)) (s.Join ∷ []),
    length-flat x,
    length-flat y,
  )
  length-flat (maybe x) = omega (arith, length-append (flat x) (false ∷ []), length-append (code (plain x)) (s.Join ∷ []), length-flat x)
  length-flat (again x) = omega (arith, length-append (flat x) (at_end x ∷ []), length-append (code (plain x)) (s.End (is_empty (plain x)) ∷ []), length-flat x)

  read_behind : (front : List Bool) (x : Bool) (back : List Bool) (n : ℕ) → n ≡ length front → slice_index_or (front ++ x ∷ back) n false ≡ x
  read_behind front x back n e = ap (λ k. slice_index_or (front ++ x ∷ back) k false) e ∙ get_or-append_seam front x back false

  marks-join : (a b : List Bool) (p : Passed) → with_marks a (with_marks b p) ≡ with_marks (a ++ b) p
  marks-join a b p = λ i. record { marks = sym (append_assoc a b p.marks) i; end = p.end }

  two_behind : (a m : List Bool) (x : Bool) → a ++ (x ∷ m) ≡ (a ++ x ∷ []) ++ m
  two_behind a m x = sym (append_assoc a (x ∷ []) m)

  three_behind : (a b m : List Bool) → a ++ (false ∷ (b ++ (false ∷ m))) ≡ (a ++ false ∷ (b ++ false ∷ [])) ++ m
  three_behind a b m = sym (append_assoc a (false ∷ (b ++ false ∷ [])) m ∙ ap (λ t. a ++ false ∷ t) (append_assoc b (false ∷ []) m))

  empty_moved : (c : ℕ) (here : Bool) (x : Marked (Option ℕ)) → is_empty (plain x) ≡ is_empty (plain (moved has c here x))
  empty_moved c here x = sym (ap is_empty (plain-moved has c here x))

  both_end : (c : ℕ) (h : Bool) (y : Marked (Option ℕ)) (x next e : Bool)
      → at_end (moved has c h y) || ((x || (next && e)) && is_empty (plain y)) ≡ (at_end (moved has c h y) || (x && is_empty (plain (moved has c h y)))) ||
      (next && (e && is_empty (plain y)))
  both_end c h y x next e = both_law (at_end (moved has c h y)) x next e (is_empty (plain y))
      ∙ ap (λ w. (at_end (moved has c h y) || (x && w)) || (next && (e && is_empty (plain y)))) (empty_moved c h y)

  ahead_end : (x : Marked (Option ℕ)) (marks : List Bool) → slice_index_or ((flat x ++ at_end x ∷ []) ++ marks) (length (code (plain x))) false ≡ at_end x
  ahead_end x marks = ap (λ m. slice_index_or m (length (code (plain x))) false) (append_assoc (flat x) (at_end x ∷ []) marks)
      ∙ read_behind (flat x) (at_end x) marks (length (code (plain x))) (sym (length-flat x))

  one_marks : (a : List Bool) (x : Bool) (p : Passed) → with_marks (false ∷ []) (with_marks a (with_marks (x ∷ []) p)) ≡ with_marks (false ∷ (a ++ x ∷ [])) p
  one_marks a x p = λ i. record { marks = false ∷ two_behind a p.marks x i; end = p.end }

  choice_marks : (a b : List Bool) (p : Passed)
      → with_marks (false ∷ []) (with_marks a (with_marks (false ∷ []) (with_marks b (with_marks (false ∷ []) p)))) ≡ with_marks (false ∷ (a ++ false ∷ (b
      ++ false ∷ []))) p
  choice_marks a b p = λ i. record { marks = false ∷ three_behind a b p.marks i; end = p.end }

  and_same : (b : Bool) → b ≡ b && true
  and_same true = refl
  and_same false = refl

  or_none : (x b : Bool) → x ≡ x || (b && false)
  or_none true b = refl
  or_none false true = refl
  or_none false false = refl

  -- ---- a pass

  abbrev Law : ℕ → Marked (Option ℕ) → Type 0
  Law c x = (here next : Bool) (places : List Place) (steps : List Step) (marks : List Bool)
      → passed has c (code (plain x) ++ steps) (flat x ++ marks) (at here next places)
      ≡ with_marks (flat (moved has c here x)) (passed has c steps marks
      (at (at_end x || (here && is_empty (plain x))) (at_end (moved has c here x) || (next && is_empty (plain x))) places))

  pub passed-code : (c : ℕ) (x : Marked (Option ℕ)) → Law c x
  passed-code c nothing here next places steps marks = λ i. passed has c steps marks (at (and_same here i) (and_same next i) places)
  passed-code c (one class mark) here next places steps marks = λ i. with_marks ((here && has class c) ∷ []) (passed has c steps marks (at
      (or_none mark here i) (or_none (here && has class c) next i) places))
  passed-code c (both x y) here next places steps marks =
      let h = at_end x || (here && is_empty (plain x)) in
      let n = at_end (moved has c here x) || (next && is_empty (plain x)) in
      (λ i. passed has c (append_assoc (code (plain x)) (code (plain y)) steps i) (append_assoc (flat x) (flat y) marks i) (at here next places))
      ∙ passed-code c x here next places (code (plain y) ++ steps) (flat y ++ marks)
      ∙ ap (with_marks (flat (moved has c here x))) (passed-code c y h n places steps marks)
      ∙ marks-join (flat (moved has c here x)) (flat (moved has c h y)) _
      ∙ (λ i. with_marks (flat (moved has c here x) ++ flat (moved has c h y)) (passed has c steps marks (at
      (both_law (at_end y) (at_end x) here (is_empty (plain x)) (is_empty (plain y)) i)
      (both_end c h y (at_end (moved has c here x)) next (is_empty (plain x)) i) places)))
  passed-code c (either x y) here next places steps marks =
      let b = at_end x || (here && is_empty (plain x)) in
      let n = at_end (moved has c here x) || (next && is_empty (plain x)) in
      let x' = flat (moved has c here x) in
      let y' = flat (moved has c here y) in
      (λ i. with_marks (false ∷ []) (passed has c (append_assoc (code (plain x)) (s.Or ∷ (code (plain y) ++ s.Join ∷ [])) steps i)
      (append_assoc (flat x) (false ∷ (flat y ++ false ∷ [])) marks i) (at here next (place here next ∷ places))))
      ∙ ap (with_marks (false ∷ [])) (passed-code c x here next (place here next ∷ places) (s.Or ∷ ((code (plain y) ++ s.Join ∷ [])
      ++ steps)) (false ∷ ((flat y ++ false ∷ []) ++ marks)))
      ∙ (λ i. with_marks (false ∷ []) (with_marks x' (with_marks (false ∷ []) (passed has c (append_assoc (code (plain y)) (s.Join ∷ []) steps i)
      (append_assoc (flat y) (false ∷ []) marks i) (at here next (place b n ∷ places))))))
      ∙ ap (λ p. with_marks (false ∷ []) (with_marks x' (with_marks (false ∷ []) p))) (passed-code c y here next (place b n ∷ places) (s.Join ∷ steps)
      (false ∷ marks))
      ∙ (λ i. choice_marks x' y' (passed has c steps marks (at (either_law (at_end x) (at_end y) here (is_empty (plain x)) (is_empty (plain y)) i)
      (either_law (at_end (moved has c here x)) (at_end (moved has c here y)) next (is_empty (plain x)) (is_empty (plain y)) i) places)) i)
  passed-code c (maybe x) here next places steps marks =
      let x' = flat (moved has c here x) in
      (λ i. with_marks (false ∷ []) (passed has c (append_assoc (code (plain x)) (s.Join ∷ []) steps i) (append_assoc (flat x) (false ∷ []) marks i)
      (at here next (place here next ∷ places))))
      ∙ ap (with_marks (false ∷ [])) (passed-code c x here next (place here next ∷ places) (s.Join ∷ steps) (false ∷ marks))
      ∙ (λ i. one_marks x' false (passed has c steps marks (at (maybe_law (at_end x) here (is_empty (plain x)) i) (maybe_law (at_end
      (moved has c here x)) next (is_empty (plain x)) i) places)) i)
  passed-code c (again x) here next places steps marks =
      let h = here || at_end x in
      let x' = flat (moved has c h x) in
      let end = s.End (is_empty (plain x)) in
      (λ i. with_marks (false ∷ []) (passed has c ((code (plain x) ++ end ∷ []) ++ steps) ((flat x ++ at_end x ∷ []) ++ marks)
      (at (here || ahead_end x marks i) false (place here next ∷ places))))
      ∙ (λ i. with_marks (false ∷ []) (passed has c (append_assoc (code (plain x)) (end ∷ []) steps i) (append_assoc (flat x) (at_end x ∷ []) marks i)
      (at h false (place here next ∷ places))))
      ∙ ap (with_marks (false ∷ [])) (passed-code c x h false (place here next ∷ places) (end ∷ steps) (at_end x ∷ marks))
      ∙ (λ i. with_marks (false ∷ []) (with_marks x' (with_marks (none_law (at_end (moved has c h x)) (is_empty (plain x)) i ∷ [])
      (passed has c steps marks (at (again_law (at_end x) here (is_empty (plain x)) i) (none_law (at_end (moved has c h x)) (is_empty (plain x)) i ||
      (next && is_empty (plain x))) places)))))
      ∙ one_marks x' (at_end (moved has c h x)) _

  -- ---- a whole pass

  pub record Moves (p : Passed) (c : ℕ) (x : Marked (Option ℕ)) (here : Bool) : Type 0 where
    pub marks : p.marks ≡ flat (moved has c here x)
    pub answer : p.end.behind ≡ at_end (moved has c here x)

  pub passed-whole : (c : ℕ) (x : Marked (Option ℕ)) (here : Bool) → Moves (passed has c (code (plain x)) (flat x) (at here false [])) c x here
  passed-whole c x here =
      let P : Passed → Type 0 = λ p. Moves p c x here in
      subst P (sym ((λ i. passed has c (sym (append-nil (code (plain x))) i) (sym (append-nil (flat x)) i) (at here false []))
      ∙ passed-code c x here false [] [] []))
      (record { marks = append-nil (flat (moved has c here x)); answer = none_law (at_end (moved has c here x)) (is_empty (plain x)) })

  pub ran-found : (x : Marked (Option ℕ)) (text : List ℕ) → ran has (code (plain x)) false (flat x) (at_end x) text ≡ found has x text
  ran-found x [] = refl
  ran-found x (c ∷ text) =
      let m = passed-whole c x false in
      (λ i. ran has (code (sym (plain-moved has c false x) i)) false (m.marks i) (m.answer i) text) ∙ ran-found (moved has c false x) text

  pub ran-is_in : (x : Core (Option ℕ)) (text : List ℕ) → ran has (code x) true (flat (unmarked x)) (is_empty x) text ≡ is_in has x text
  ran-is_in x [] = refl
  ran-is_in x (c ∷ text) =
      let m = passed-whole c (unmarked x) true in
      (λ i. let p = passed has c (code (sym (plain-unmarked has x) i)) (flat (unmarked x)) (at true false []) in ran has (code (sym
      (plain-unmarked has x) i)) false p.marks p.end.behind text)
      ∙ (λ i. ran has (code (sym (plain-moved has c true (unmarked x)) i)) false (m.marks i) (m.answer i) text)
      ∙ ran-found (moved has c true (unmarked x)) text

  -- ---- no marks

  no_end : (x : Core (Option ℕ)) → at_end (unmarked x) ≡ false
  no_end x = elim (cases_Bool (at_end (unmarked x))) [ inl e ↦ absurd (no_marks has x [] (end-yes has (unmarked x) e)) | inr e ↦ e ]

  step_first : {A : Type 0} (xs : List A) (k : ℕ) (x : A) → k < length xs → x ≡ get_or xs k x → drop k xs ≡ x ∷ drop (k + 1) xs
  step_first xs k x l e = drop-cons xs k x l ∙ (λ i. sym e i ∷ drop (sym (add-one k) i) xs)

  pub flat-unmarked : (x : Core (Option ℕ)) → flat (unmarked x) ≡ replicate (length (code x)) false
  flat-unmarked r.nothing = refl
  flat-unmarked (r.one class) = refl
  flat-unmarked (r.both x y) = (λ i. flat-unmarked x i ++ flat-unmarked y i) ∙ replicate-append-replicate (length (code x)) (length (code y)) false
      ∙ ap (λ n. replicate n false) (sym (length-append (code x) (code y)))
  flat-unmarked (r.either x y) =
      (λ i. false ∷ (flat-unmarked x i ++ false ∷ (flat-unmarked y i ++ replicate 1 false)))
      ∙ ap (λ t. false ∷ (replicate (length (code x)) false ++ false ∷ t)) (replicate-append-replicate (length (code y)) 1 false
      ∙ ap (λ n. replicate n false) (sym (length-append (code y) (s.Join ∷ []))))
      ∙ ap (λ t. false ∷ t) (replicate-append-replicate (length (code x)) (suc (length (code y ++ s.Join ∷ []))) false
      ∙ ap (λ n. replicate n false) (sym (length-append (code x) (s.Or ∷ (code y ++ s.Join ∷ [])))))
  flat-unmarked (r.maybe x) = (λ i. false ∷ (flat-unmarked x i ++ replicate 1 false))
      ∙ ap (λ t. false ∷ t) (replicate-append-replicate (length (code x)) 1 false ∙ ap (λ n. replicate n false) (sym (length-append (code x) (s.Join ∷ []))))
  flat-unmarked (r.again x) = (λ i. false ∷ (flat-unmarked x i ++ no_end x i ∷ []))
      ∙ ap (λ t. false ∷ t) (replicate-append-replicate (length (code x)) 1 false
      ∙ ap (λ n. replicate n false) (sym (length-append (code x) (s.End (is_empty x) ∷ []))))

  -- ---- the loop over the steps

  abbrev pub Going : ℕ → List Step → List Bool → List Bool → At → At → ℕ → Type 0
  Going c steps first marks start now k = with_marks (take k marks) (passed has c (drop k steps) (drop k marks) now) ≡ passed has c steps first start

  pub going_on : (c : ℕ) (steps : List Step) (first marks : List Bool) (start now : At) (k : ℕ) (step : Step) (mark new later : Bool) (next : At)
      → k < length steps → length marks ≡ length steps → step ≡ get_or steps k step → mark ≡ get_or marks k mark
      → new ≡ marked has c step now.before now.behind → later ≡ ahead step (drop (k + 1) marks)
      → stepped has c step mark later now.before now.behind now.places ≡ next
      → Going c steps first marks start now k → Going c steps first (set marks k new) start next (k + 1)
  going_on c steps first marks start now k step mark new later next l same step_is mark_is new_is later_is next_is h =
      (λ i. with_marks (take_more_set marks k new (omega (arith, same)) i) (passed has c (drop (k + 1) steps) (drop-set-lt (k + 1) marks k new
      (omega arith) i) (sym next_is i)))
      ∙ (λ i. with_marks (take k marks ++ new_is i ∷ []) (passed has c (drop (k + 1) steps) (drop (k + 1) marks) (stepped has c step mark
      (later_is i) now.before now.behind now.places)))
      ∙ sym (marks-join (take k marks) (marked has c step now.before now.behind ∷ []) _)
      ∙ (λ i. with_marks (take k marks) (passed has c (sym (step_first steps k step l step_is) i) (sym (step_first marks k mark (omega (
        arith,
        same,
      )) mark_is) i) now))
      ∙ h

  pub among : (x : Core (Option ℕ)) (steps : List Step) (empty : Bool) (initial : List Bool) (text : List ℕ) → steps ≡ code x → empty ≡ is_empty x
      → initial ≡ replicate (length steps) false → ran has steps true initial empty text ≡ is_in has x text
  among x steps empty initial text s_is e_is i_is =
      (λ i. ran has steps true (i_is i) (e_is i) text)
      ∙ (λ i. ran has (s_is i) true (replicate (length (s_is i)) false) (is_empty x) text)
      ∙ (λ i. ran has (code x) true (sym (flat-unmarked x) i) (is_empty x) text)
      ∙ ran-is_in x text
