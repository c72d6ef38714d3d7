-- What is read is written so.
use Rattle.std.proofs.Common.{◌≡◌, Bool, false, List, [], ◌∷◌, ◌++◌, Option, Some, None, refl, sym, ap, subst, ◌∙◌, append_assoc, append-nil}
use Rattle.xsd_pattern.specs.declared.token.Token.{Token}
use Rattle.xsd_pattern.specs.declared.token.Token.TheVariants as tok
use Rattle.xsd_pattern.specs.declared.token.Repeat.{Repeat}
use Rattle.xsd_pattern.specs.Grammar.{Re, Branch, Piece, Atom, Top, re, branch, piece, atom, mark, a_line, written}
use Rattle.xsd_pattern.specs.Grammar as g
use Rattle.xsd_pattern.specs.Machine.{Algebra, Last, Frame, State, at, fresh, nothing, an_atom, ended}
use Rattle.xsd_pattern.specs.Machine as m
use Rattle.xsd_pattern.proofs.Trees.{trees, tree_of}
use Rattle.xsd_pattern.proofs.Complete.{read-written}

module _ {C : Type 0} where
  mutual
    pub tree-re : (x : (Re C)) → m.of_re trees x ≡ x
    tree-re (g.only b) = ap g.only (tree-branch b)
    tree-re (g.or x b) = λ i. g.or (tree-re x i) (tree-branch b i)

    pub tree-branch : (b : (Branch C)) → m.of_branch trees b ≡ b
    tree-branch g.none = refl
    tree-branch (g.then b (g.once a)) = λ i. g.then (tree-branch b i) (g.once (tree-atom a i))
    tree-branch (g.then b (g.many a q)) = λ i. g.then (tree-branch b i) (g.many (tree-atom a i) q)

    pub tree-atom : (a : (Atom C)) → m.of_atom trees a ≡ a
    tree-atom (g.one c) = refl
    tree-atom (g.group x) = ap g.group (tree-re x)

  pub tree-top : (t : (Top C)) → m.of_top trees t ≡ t
  tree-top (g.line b x e) = λ i. g.line b (tree-branch x i) e
  tree-top (g.lines t b x e) = λ i. g.lines (tree-top t i) b (tree-branch x i) e

  pub all-read : (t : (Top C)) → tree_of (written t) ≡ Some t
  all-read t = read-written trees t ∙ ap Some (tree-top t)

  -- ---- the text of a state

  abbrev before_text : Option (Re C) → List (Token C)
  before_text None = []
  before_text (Some r) = re r ++ tok.Bar ∷ []

  abbrev frames_text : List (Frame (Re C) (Branch C)) → List (Token C)
  frames_text [] = []
  frames_text (frame ∷ f) = frames_text f ++ (before_text frame.before ++ (branch frame.branch ++ tok.Opens ∷ []))

  abbrev lines_text : Option (Top C) → List (Token C)
  lines_text None = []
  lines_text (Some t) = written t ++ tok.Bar ∷ []

  abbrev last_text : Last (Atom C) → List (Token C)
  last_text fresh = []
  last_text nothing = []
  last_text (an_atom a) = atom a
  last_text ended = tok.Ends ∷ []

  abbrev text : (State (Re C) (Branch C) (Atom C) (Top C)) → List (Token C)
  text (at t s f r b l) = lines_text t ++ (mark s tok.Begins ++ (frames_text f ++ (before_text r ++ (branch b ++ last_text l))))

  -- ---- what holds of a state

  abbrev GoodFrames : List (Frame (Re C) (Branch C)) → Option (Re C) → Type 0
  GoodFrames [] r = r ≡ None
  GoodFrames (frame ∷ f) r = GoodFrames f frame.before

  abbrev GoodLast : Bool → List (Frame (Re C) (Branch C)) → (Branch C) → Last (Atom C) → Type 0
  GoodLast s [] b fresh = (s ≡ false) × (b ≡ g.none)
  GoodLast s (frame ∷ f) b fresh = ⊥
  GoodLast s [] b ended = Unit {0}
  GoodLast s (frame ∷ f) b ended = ⊥
  GoodLast s f b nothing = Unit {0}
  GoodLast s f b (an_atom a) = Unit {0}

  abbrev Good : (State (Re C) (Branch C) (Atom C) (Top C)) → Type 0
  Good (at t s f r b l) = GoodFrames f r × GoodLast s f b l

  abbrev Behind : (State (Re C) (Branch C) (Atom C) (Top C)) → (Token C) → Option (State (Re C) (Branch C) (Atom C) (Top C)) → Type 0
  Behind s token None = Unit {0}
  Behind s token (Some s') = Good s' × (text s' ≡ text s ++ token ∷ [])

  settled-text : (b : (Branch C)) (l : Last (Atom C)) → m.is_ended trees l ≡ false → branch b ++ last_text l ≡ branch (m.settled trees b l)
  settled-text b fresh e = append-nil (branch b)
  settled-text b nothing e = append-nil (branch b)
  settled-text b (an_atom a) e = refl
  settled-text b ended e = cc

  nest : List (Token C) → List (Token C) → List (Token C) → List (Token C) → List (Token C) → List (Token C)
  nest a b c d x = a ++ (b ++ (c ++ (d ++ x)))

  nest-push : (a b c d x y : List (Token C)) → (a ++ (b ++ (c ++ (d ++ x)))) ++ y ≡ a ++ (b ++ (c ++ (d ++ (x ++ y))))
  nest-push a b c d x y = append_assoc a (b ++ (c ++ (d ++ x))) y ∙ ap (λ t. a ++ t) (append_assoc b (c ++ (d ++ x)) y
      ∙ ap (λ t. b ++ t) (append_assoc c (d ++ x) y ∙ ap (λ t. c ++ t) (append_assoc d x y)))

  -- the text behind a token that comes behind what is settled
  pushed : (t : Option (Top C)) (s : Bool) (f : List (Frame (Re C) (Branch C))) (r : Option (Re C)) (b : (Branch C)) (l : Last (Atom C)) (token :
      (Token C)) → m.is_ended trees l ≡ false
      → text (at t s f r b l) ++ token ∷ [] ≡ lines_text t ++ (mark s tok.Begins ++ (frames_text f ++ (before_text r ++ (branch (m.settled trees b l)
      ++ token ∷ []))))
  pushed t s f r b l token e = nest-push (lines_text t) (mark s tok.Begins) (frames_text f) (before_text r) (branch b ++ last_text l) (token ∷ [])
      ∙ ap (λ x. lines_text t ++ (mark s tok.Begins ++ (frames_text f ++ (before_text r ++ (x ++ token ∷ []))))) (settled-text b l e)

  re-text : (r : Option (Re C)) (b : (Branch C)) → re (m.with_branch trees r b) ≡ before_text r ++ branch b
  re-text None b = refl
  re-text (Some x) b = sym (append_assoc (re x) (tok.Bar ∷ []) (branch b))

  line-text : (t : Option (Top C)) (s : Bool) (b : (Branch C)) (e : Bool) → written (m.with_line trees t s b e) ≡ lines_text t ++ a_line s b e
  line-text None s b e = refl
  line-text (Some t) s b e = sym (append_assoc (written t) (tok.Bar ∷ []) (a_line s b e))

  item-step : (c : C) (t : Option (Top C)) (s : Bool) (f : List (Frame (Re C) (Branch C))) (r : Option (Re C)) (b : (Branch C)) (l : Last (Atom C))
      → Good (at t s f r b l)
      → Behind (at t s f r b l) (tok.Item c) (m.step trees (tok.Item c) (at t s f r b l))
  item-step c t s f r b fresh h = ((h.0, tt), sym (pushed t s f r b fresh (tok.Item c) refl))
  item-step c t s f r b nothing h = ((h.0, tt), sym (pushed t s f r b nothing (tok.Item c) refl))
  item-step c t s f r b (an_atom a) h = ((h.0, tt), sym (pushed t s f r b (an_atom a) (tok.Item c) refl))
  item-step c t s f r b ended h = tt

  quantifier-step : (q : Repeat) (t : Option (Top C)) (s : Bool) (f : List (Frame (Re C) (Branch C))) (r : Option (Re C)) (b : (Branch C)) (l : Last
      (Atom C)) → Good (at t s f r b l)
      → Behind (at t s f r b l) (tok.Quantifier q) (m.step trees (tok.Quantifier q) (at t s f r b l))
  quantifier-step q t s f r b fresh h = tt
  quantifier-step q t s f r b nothing h = tt
  quantifier-step q t s f r b (an_atom a) h = (
    (h.0, tt),
    sym (pushed t s f r b (an_atom a) (tok.Quantifier q) refl
        ∙ ap (λ x. lines_text t ++ (mark s tok.Begins ++ (frames_text f ++ (before_text r ++ x)))) (append_assoc (branch b) (atom a) (tok.Quantifier q ∷ [])
        ∙ sym (append-nil (branch b ++ (atom a ++ tok.Quantifier q ∷ []))))),
  )
  quantifier-step q t s f r b ended h = tt

  opened : (t : Option (Top C)) (s : Bool) (f : List (Frame (Re C) (Branch C))) (r : Option (Re C)) (b : (Branch C)) (l : Last (Atom C))
      → m.is_ended trees l ≡ false → Good (at t s f r b l)
      → Behind (at t s f r b l) tok.Opens (Some (at t s (record { before = r; branch = m.settled trees b l } ∷ f) None g.none nothing))
  opened t s f r b l e h = ((h.0, tt), ap (λ x. lines_text t ++ (mark s tok.Begins ++ x)) (append-nil _) ∙ sym (pushed t s f r b l tok.Opens e))

  opens-step : (t : Option (Top C)) (s : Bool) (f : List (Frame (Re C) (Branch C))) (r : Option (Re C)) (b : (Branch C)) (l : Last (Atom C))
      → Good (at t s f r b l)
      → Behind (at t s f r b l) tok.Opens (m.step trees tok.Opens (at t s f r b l))
  opens-step t s f r b fresh h = opened t s f r b fresh refl h
  opens-step t s f r b nothing h = opened t s f r b nothing refl h
  opens-step t s f r b (an_atom a) h = opened t s f r b (an_atom a) refl h
  opens-step t s f r b ended h = tt

  group-text : (f c d x y : List (Token C)) → (f ++ (c ++ (d ++ tok.Opens ∷ []))) ++ (x ++ (y ++ tok.Closes ∷ [])) ≡ f ++ (c ++ (d ++ tok.Opens ∷ ((x
      ++ y) ++ tok.Closes ∷ [])))
  group-text f c d x y = append_assoc f (c ++ (d ++ tok.Opens ∷ [])) (x ++ (y ++ tok.Closes ∷ [])) ∙ ap (λ t. f ++ t) (append_assoc c (d
      ++ tok.Opens ∷ []) (x ++ (y ++ tok.Closes ∷ []))
      ∙ ap (λ t. c ++ t) (append_assoc d (tok.Opens ∷ []) (x ++ (y ++ tok.Closes ∷ [])) ∙ ap (λ t. d
      ++ tok.Opens ∷ t) (sym (append_assoc x y (tok.Closes ∷ [])))))

  closed-in : (t : Option (Top C)) (s : Bool) (frame : Frame (Re C) (Branch C)) (f : List (Frame (Re C) (Branch C))) (r : Option (Re C)) (b : (Branch C))
      (l : Last (Atom C)) → m.is_ended trees l ≡ false → Good (at t s (frame ∷ f) r b l)
      → Behind (at t s (frame ∷ f) r b l) tok.Closes (Some (at t s f frame.before frame.branch (an_atom (g.group (m.with_branch trees r
      (m.settled trees b l))))))
  closed-in t s frame f r b l e h = (
    (h.0, tt),
    sym (pushed t s (frame ∷ f) r b l tok.Closes e
        ∙ ap (λ x. lines_text t ++ (mark s tok.Begins ++ x)) (group-text (frames_text f) (before_text frame.before) (branch frame.branch) (before_text r)
        (branch (m.settled trees b l))
        ∙ ap (λ x. frames_text f ++ (before_text frame.before ++ (branch frame.branch ++ tok.Opens ∷ (x
        ++ tok.Closes ∷ [])))) (sym (re-text r (m.settled trees b l))))),
  )

  closes-step : (t : Option (Top C)) (s : Bool) (f : List (Frame (Re C) (Branch C))) (r : Option (Re C)) (b : (Branch C)) (l : Last (Atom C))
      → Good (at t s f r b l)
      → Behind (at t s f r b l) tok.Closes (m.step trees tok.Closes (at t s f r b l))
  closes-step t s [] r b l h = tt
  closes-step t s (frame ∷ f) r b fresh h = absurd h.1
  closes-step t s (frame ∷ f) r b nothing h = closed-in t s frame f r b nothing refl h
  closes-step t s (frame ∷ f) r b (an_atom a) h = closed-in t s frame f r b (an_atom a) refl h
  closes-step t s (frame ∷ f) r b ended h = absurd h.1

  barred-in : (t : Option (Top C)) (s : Bool) (frame : Frame (Re C) (Branch C)) (f : List (Frame (Re C) (Branch C))) (r : Option (Re C)) (b : (Branch C))
      (l : Last (Atom C)) → m.is_ended trees l ≡ false → Good (at t s (frame ∷ f) r b l)
      → Behind (at t s (frame ∷ f) r b l) tok.Bar (Some (at t s (frame ∷ f) (Some (m.with_branch trees r (m.settled trees b l))) g.none nothing))
  barred-in t s frame f r b l e h = (
    (h.0, tt),
    sym (pushed t s (frame ∷ f) r b l tok.Bar e
        ∙ ap (λ x. lines_text t ++ (mark s tok.Begins ++ (frames_text (frame ∷ f) ++ x)))
        (sym (append_assoc (before_text r) (branch (m.settled trees b l)) (tok.Bar ∷ [])) ∙ ap (λ x. x
        ++ tok.Bar ∷ []) (sym (re-text r (m.settled trees b l))) ∙ sym (append-nil _))),
  )

  -- at a line's end
  line-behind : (t : Option (Top C)) (s : Bool) (r : Option (Re C)) (b : (Branch C)) (e : Bool) → r ≡ None
      → lines_text t ++ (mark s tok.Begins ++ (before_text r ++ (branch b ++ mark e tok.Ends))) ≡ written (m.with_line trees t s b e)
  line-behind t s r b e n = ap (λ x. lines_text t ++ (mark s tok.Begins ++ (before_text x ++ (branch b ++ mark e tok.Ends)))) n ∙ sym (line-text t s b e)

  last-mark : (b : (Branch C)) (l : Last (Atom C)) → branch b ++ last_text l ≡ branch (m.settled trees b l) ++ mark (m.is_ended trees l) tok.Ends
  last-mark b fresh = refl
  last-mark b nothing = refl
  last-mark b (an_atom a) = sym (append-nil (branch b ++ atom a))
  last-mark b ended = refl

  line-whole : (t : Option (Top C)) (s : Bool) (r : Option (Re C)) (b : (Branch C)) (l : Last (Atom C)) → r ≡ None
      → text (at t s [] r b l) ≡ written (m.with_line trees t s (m.settled trees b l) (m.is_ended trees l))
  line-whole t s r b l n = ap (λ x. lines_text t ++ (mark s tok.Begins ++ (before_text r ++ x))) (last-mark b l)
      ∙ line-behind t s r (m.settled trees b l) (m.is_ended trees l) n

  bar-step : (t : Option (Top C)) (s : Bool) (f : List (Frame (Re C) (Branch C))) (r : Option (Re C)) (b : (Branch C)) (l : Last (Atom C))
      → Good (at t s f r b l)
      → Behind (at t s f r b l) tok.Bar (m.step trees tok.Bar (at t s f r b l))
  bar-step t s [] r b l h = ((refl, (refl, refl)), append-nil _ ∙ ap (λ x. x ++ tok.Bar ∷ []) (sym (line-whole t s r b l h.0)))
  bar-step t s (frame ∷ f) r b fresh h = absurd h.1
  bar-step t s (frame ∷ f) r b nothing h = barred-in t s frame f r b nothing refl h
  bar-step t s (frame ∷ f) r b (an_atom a) h = barred-in t s frame f r b (an_atom a) refl h
  bar-step t s (frame ∷ f) r b ended h = absurd h.1

  begins-step : (t : Option (Top C)) (s : Bool) (f : List (Frame (Re C) (Branch C))) (r : Option (Re C)) (b : (Branch C)) (l : Last (Atom C))
      → Good (at t s f r b l)
      → Behind (at t s f r b l) tok.Begins (m.step trees tok.Begins (at t s f r b l))
  begins-step t s [] r b fresh (n, (e, k)) = (
    (n, tt),
    (λ i. lines_text t ++ (tok.Begins ∷ (before_text (n i) ++ (branch (k i) ++ []))))
        ∙ (λ i. lines_text t ++ (mark (sym e i) tok.Begins ++ tok.Begins ∷ []))
        ∙ sym (nest-push (lines_text t) (mark s tok.Begins) [] [] [] (tok.Begins ∷ []))
        ∙ (λ i. (lines_text t ++ (mark s tok.Begins ++ (before_text (sym n i) ++ (branch (sym k i) ++ [])))) ++ tok.Begins ∷ []),
  )
  begins-step t s [] r b nothing h = tt
  begins-step t s [] r b (an_atom a) h = tt
  begins-step t s [] r b ended h = tt
  begins-step t s (frame ∷ f) r b l h = tt

  ends-step : (t : Option (Top C)) (s : Bool) (f : List (Frame (Re C) (Branch C))) (r : Option (Re C)) (b : (Branch C)) (l : Last (Atom C))
      → Good (at t s f r b l)
      → Behind (at t s f r b l) tok.Ends (m.step trees tok.Ends (at t s f r b l))
  ends-step t s [] r b fresh h = ((h.0, tt), sym (pushed t s [] r b fresh tok.Ends refl))
  ends-step t s [] r b nothing h = ((h.0, tt), sym (pushed t s [] r b nothing tok.Ends refl))
  ends-step t s [] r b (an_atom a) h = ((h.0, tt), sym (pushed t s [] r b (an_atom a) tok.Ends refl))
  ends-step t s [] r b ended h = tt
  ends-step t s (frame ∷ f) r b l h = tt

  step-sound : (token : (Token C)) (s : (State (Re C) (Branch C) (Atom C) (Top C))) → Good s → Behind s token (m.step trees token s)
  step-sound (tok.Item c) (at t s f r b l) h = item-step c t s f r b l h
  step-sound (tok.Quantifier q) (at t s f r b l) h = quantifier-step q t s f r b l h
  step-sound tok.Opens (at t s f r b l) h = opens-step t s f r b l h
  step-sound tok.Closes (at t s f r b l) h = closes-step t s f r b l h
  step-sound tok.Bar (at t s f r b l) h = bar-step t s f r b l h
  step-sound tok.Begins (at t s f r b l) h = begins-step t s f r b l h
  step-sound tok.Ends (at t s f r b l) h = ends-step t s f r b l h

  -- ---- a whole text

  abbrev Ends : (State (Re C) (Branch C) (Atom C) (Top C)) → List (Token C) → Option (State (Re C) (Branch C) (Atom C) (Top C)) → Type 0
  Ends s tokens None = Unit {0}
  Ends s tokens (Some s') = Good s' × (text s' ≡ text s ++ tokens)

  ends-join : (s s' : (State (Re C) (Branch C) (Atom C) (Top C))) (token : (Token C)) (tokens : List (Token C)) (o : Option (State (Re C) (Branch C)
      (Atom C) (Top C))) → text s' ≡ text s ++ token ∷ [] → Ends s' tokens o → Ends s (token ∷ tokens) o
  ends-join s s' token tokens None e h = tt
  ends-join s s' token tokens (Some s'') e (h, k) = (h, k ∙ ap (λ x. x ++ tokens) e ∙ append_assoc (text s) (token ∷ []) tokens)

  run-sound : (tokens : List (Token C)) (s : (State (Re C) (Branch C) (Atom C) (Top C))) → Good s → Ends s tokens (m.run trees tokens s)
  run-sound [] s h = (h, sym (append-nil (text s)))
  run-sound (token ∷ tokens) s h =
      let next : (o : Option (State (Re C) (Branch C) (Atom C) (Top C))) → Behind s token o
      → Ends s (token ∷ tokens) (elim o [ None ↦ None | Some s' ↦ m.run trees tokens s' ])
      = λ o k. elim o as (λ o. Behind s token o → Ends s (token ∷ tokens) (elim o [ None ↦ None | Some s' ↦ m.run trees tokens s' ])) [
        | None ↦ λ k. tt
        | Some s' ↦ λ k. ends-join s s' token tokens (m.run trees tokens s') k.1 (run-sound tokens s' k.0)
      ] k in
      next (m.step trees token s) (step-sound token s h)

  abbrev IsTree : List (Token C) → Option (Top C) → Type 0
  IsTree tokens None = Unit {0}
  IsTree tokens (Some t) = tokens ≡ written t

  finished-sound : (s : (State (Re C) (Branch C) (Atom C) (Top C))) → Good s → IsTree (text s) (m.finished trees s)
  finished-sound (at t s [] r b l) h = line-whole t s r b l h.0
  finished-sound (at t s (frame ∷ f) r b l) h = tt

  read-sound : (tokens : List (Token C)) (o : Option (State (Re C) (Branch C) (Atom C) (Top C))) → Ends (m.start trees) tokens o
      → IsTree tokens (elim o [ None ↦ None | Some s ↦ m.finished trees s ])
  read-sound tokens None h = tt
  read-sound tokens (Some s) (h, e) = subst (λ x. IsTree x (m.finished trees s)) e (finished-sound s h)

  pub tree-sound : (tokens : List (Token C)) → IsTree tokens (tree_of tokens)
  tree-sound tokens = read-sound tokens (m.run trees tokens (m.start trees)) (run-sound tokens (m.start trees) (refl, (refl, refl)))

  pub spelled : (tokens : List (Token C)) (t : (Top C)) → tree_of tokens ≡ Some t → tokens ≡ written t
  spelled tokens t e = subst (IsTree tokens) e (tree-sound tokens)
