-- The machine goes over the values as over the trees.
use Rattle.std.proofs.Common.{◌≡◌, Bool, false, List, [], ◌∷◌, Option, Some, None, refl, ap, ◌∙◌}
use Rattle.xsd_pattern.specs.declared.token.Token.{Token}
use Rattle.xsd_pattern.specs.declared.token.Token.TheVariants as tok
use Rattle.xsd_pattern.specs.Grammar.{Re, Branch, Atom, Top}
use Rattle.xsd_pattern.specs.Machine.{Algebra, Last, Frame, State, at, fresh, nothing, an_atom, ended}
use Rattle.xsd_pattern.specs.Machine as m
use Rattle.xsd_pattern.proofs.Trees.{trees, tree_of, of_maybe}

module _ {C R B A T : Type 0} (alg : Algebra C R B A T) where
  abbrev of_last : Last (Atom C) → Last A
  of_last fresh = fresh
  of_last nothing = nothing
  of_last (an_atom a) = an_atom (m.of_atom alg a)
  of_last ended = ended

  abbrev of_frame : Frame (Re C) (Branch C) → Frame R B
  of_frame frame = record { before = of_maybe (m.of_re alg) frame.before; branch = m.of_branch alg frame.branch }

  abbrev of_frames : List (Frame (Re C) (Branch C)) → List (Frame R B)
  of_frames [] = []
  of_frames (frame ∷ f) = of_frame frame ∷ of_frames f

  abbrev folded : State (Re C) (Branch C) (Atom C) (Top C) → State R B A T
  folded (at t s f r b l) = at (of_maybe (m.of_top alg) t) s (of_frames f) (of_maybe (m.of_re alg) r) (m.of_branch alg b) (of_last l)

  settled-folded : (b : (Branch C)) (l : Last (Atom C)) → m.settled alg (m.of_branch alg b) (of_last l) ≡ m.of_branch alg (m.settled trees b l)
  settled-folded b fresh = refl
  settled-folded b nothing = refl
  settled-folded b (an_atom a) = refl
  settled-folded b ended = refl

  branch-folded : (r : Option (Re C)) (b : (Branch C)) → m.with_branch alg (of_maybe (m.of_re alg) r) (m.of_branch alg b) ≡ m.of_re alg
      (m.with_branch trees r b)
  branch-folded None b = refl
  branch-folded (Some r) b = refl

  line-folded : (t : Option (Top C)) (s : Bool) (b : (Branch C)) (e : Bool)
      → m.with_line alg (of_maybe (m.of_top alg) t) s (m.of_branch alg b) e ≡ m.of_top alg (m.with_line trees t s b e)
  line-folded None s b e = refl
  line-folded (Some t) s b e = refl

  ended-folded : (l : Last (Atom C)) → m.is_ended alg (of_last l) ≡ m.is_ended trees l
  ended-folded fresh = refl
  ended-folded nothing = refl
  ended-folded (an_atom a) = refl
  ended-folded ended = refl

  pub step-folded : (token : (Token C)) (s : State (Re C) (Branch C) (Atom C) (Top C)) → m.step alg token (folded s) ≡ of_maybe folded (m.step trees token s)
  step-folded (tok.Item c) (at t s f r b fresh) = refl
  step-folded (tok.Item c) (at t s f r b nothing) = refl
  step-folded (tok.Item c) (at t s f r b (an_atom a)) = refl
  step-folded (tok.Item c) (at t s f r b ended) = refl
  step-folded (tok.Quantifier q) (at t s f r b fresh) = refl
  step-folded (tok.Quantifier q) (at t s f r b nothing) = refl
  step-folded (tok.Quantifier q) (at t s f r b (an_atom a)) = refl
  step-folded (tok.Quantifier q) (at t s f r b ended) = refl
  step-folded tok.Opens (at t s f r b fresh) = refl
  step-folded tok.Opens (at t s f r b nothing) = refl
  step-folded tok.Opens (at t s f r b (an_atom a)) = refl
  step-folded tok.Opens (at t s f r b ended) = refl
  step-folded tok.Closes (at t s [] r b l) = refl
  step-folded tok.Closes (at t s (frame ∷ f) r b l) =
      (λ i. Some (at (of_maybe (m.of_top alg) t) s (of_frames f) (of_maybe (m.of_re alg) frame.before) (m.of_branch alg frame.branch) (an_atom (alg.group
      (m.with_branch alg (of_maybe (m.of_re alg) r) (settled-folded b l i))))))
      ∙ (λ i. Some (at (of_maybe (m.of_top alg) t) s (of_frames f) (of_maybe (m.of_re alg) frame.before) (m.of_branch alg frame.branch) (an_atom (alg.group
      (branch-folded r (m.settled trees b l) i)))))
  step-folded tok.Bar (at t s [] r b l) =
      (λ i. Some (at (Some (m.with_line alg (of_maybe (m.of_top alg) t) s (settled-folded b l i) (ended-folded l i))) false [] None alg.none fresh))
      ∙ (λ i. Some (at (Some (line-folded t s (m.settled trees b l) (m.is_ended trees l) i)) false [] None alg.none fresh))
  step-folded tok.Bar (at t s (frame ∷ f) r b l) =
      (λ i. Some (at (of_maybe (m.of_top alg) t) s (of_frame frame ∷ of_frames f) (Some (m.with_branch alg (of_maybe (m.of_re alg) r)
      (settled-folded b l i))) alg.none nothing))
      ∙ (λ i. Some (at (of_maybe (m.of_top alg) t) s (of_frame frame ∷ of_frames f) (Some (branch-folded r (m.settled trees b l) i)) alg.none nothing))
  step-folded tok.Begins (at t s [] r b fresh) = refl
  step-folded tok.Begins (at t s [] r b nothing) = refl
  step-folded tok.Begins (at t s [] r b (an_atom a)) = refl
  step-folded tok.Begins (at t s [] r b ended) = refl
  step-folded tok.Begins (at t s (frame ∷ f) r b l) = refl
  step-folded tok.Ends (at t s [] r b fresh) = refl
  step-folded tok.Ends (at t s [] r b nothing) = refl
  step-folded tok.Ends (at t s [] r b (an_atom a)) = refl
  step-folded tok.Ends (at t s [] r b ended) = refl
  step-folded tok.Ends (at t s (frame ∷ f) r b l) = refl

  abbrev ran : List (Token C) → Option (State R B A T) → Option (State R B A T)
  ran tokens None = None
  ran tokens (Some s) = m.run alg tokens s

  run-folded : (tokens : List (Token C)) (s : State (Re C) (Branch C) (Atom C) (Top C)) → m.run alg tokens (folded s) ≡ of_maybe folded (m.run trees tokens s)
  run-folded [] s = refl
  run-folded (token ∷ tokens) s =
      ap (λ o. elim o [ None ↦ None | Some s' ↦ m.run alg tokens s' ]) (step-folded token s)
      ∙ elim (m.step trees token s) as (λ o. elim (of_maybe folded o) [ None ↦ None | Some s' ↦ m.run alg tokens s' ] ≡ of_maybe folded
      (elim o [ None ↦ None | Some s' ↦ m.run trees tokens s' ])) [
        | None ↦ refl
        | Some s' ↦ run-folded tokens s'
      ]

  finished-folded : (s : State (Re C) (Branch C) (Atom C) (Top C)) → m.finished alg (folded s) ≡ of_maybe (m.of_top alg) (m.finished trees s)
  finished-folded (at t s [] r b l) = (λ i. Some (m.with_line alg (of_maybe (m.of_top alg) t) s (settled-folded b l i) (ended-folded l i)))
      ∙ ap Some (line-folded t s (m.settled trees b l) (m.is_ended trees l))
  finished-folded (at t s (frame ∷ f) r b l) = refl

  pub read-folded : (tokens : List (Token C)) → m.read alg tokens ≡ of_maybe (m.of_top alg) (tree_of tokens)
  read-folded tokens =
      ap (λ o. elim o [ None ↦ None | Some s ↦ m.finished alg s ]) (run-folded tokens (m.start trees))
      ∙ elim (m.run trees tokens (m.start trees)) as (λ o. elim (of_maybe folded o) [ None ↦ None | Some s ↦ m.finished alg s ] ≡ of_maybe (m.of_top alg)
      (elim o [ None ↦ None | Some s ↦ m.finished trees s ])) [
        | None ↦ refl
        | Some s ↦ finished-folded s
      ]
