-- What a tree is written as is read as its value.
use Rattle.std.proofs.Common.{◌≡◌, Bool, true, false, List, [], ◌∷◌, ◌++◌, Option, Some, None, refl, sym, ap, ◌∙◌, append_assoc, append-nil}
use Rattle.xsd_pattern.specs.declared.token.Token.{Token}
use Rattle.xsd_pattern.specs.declared.token.Token.TheVariants as tok
use Rattle.xsd_pattern.specs.Grammar.{Re, Branch, Piece, Atom, Top, re, branch, piece, atom, mark, a_line, written}
use Rattle.xsd_pattern.specs.Grammar as g
use Rattle.xsd_pattern.specs.Machine.{Algebra, Last, Frame, State, at, fresh, nothing, an_atom, ended}
use Rattle.xsd_pattern.specs.Machine as m

module _ {C R B A T : Type 0} (alg : Algebra C R B A T) where
  -- nothing stands behind the begin of a line or a group
  abbrev IsStart : Last A → Type 0
  IsStart fresh = Unit {0}
  IsStart nothing = Unit {0}
  IsStart (an_atom a) = ⊥
  IsStart ended = ⊥

  -- what stands behind a branch: the pieces before the last atom, and that atom
  abbrev front : (Branch C) → B
  front g.none = alg.none
  front (g.then b (g.once a)) = m.of_branch alg b
  front (g.then b (g.many a q)) = alg.many (m.of_branch alg b) (m.of_atom alg a) q

  abbrev last : Last A → (Branch C) → Last A
  last l g.none = l
  last l (g.then b (g.once a)) = an_atom (m.of_atom alg a)
  last l (g.then b (g.many a q)) = nothing

  settled-front : (l : Last A) (b : (Branch C)) → IsStart l → m.settled alg (front b) (last l b) ≡ m.of_branch alg b
  settled-front fresh g.none h = refl
  settled-front nothing g.none h = refl
  settled-front (an_atom a) g.none h = absurd h
  settled-front ended g.none h = absurd h
  settled-front l (g.then b (g.once a)) h = refl
  settled-front l (g.then b (g.many a q)) h = refl

  not_ended : (l : Last A) (b : (Branch C)) → IsStart l → m.is_ended alg (last l b) ≡ false
  not_ended fresh g.none h = refl
  not_ended nothing g.none h = refl
  not_ended (an_atom a) g.none h = absurd h
  not_ended ended g.none h = absurd h
  not_ended l (g.then b (g.once a)) h = refl
  not_ended l (g.then b (g.many a q)) h = refl

  abbrev goes : List (Token C) → Option (State R B A T) → Option (State R B A T)
  goes tokens None = None
  goes tokens (Some s) = m.run alg tokens s

  run-cons : (token : (Token C)) (tokens : List (Token C)) (s : State R B A T) → m.run alg (token ∷ tokens) s ≡ goes tokens (m.step alg token s)
  run-cons token tokens s = elim (m.step alg token s) as
      (λ o. elim o [ None ↦ None | Some s' ↦ m.run alg tokens s' ] ≡ goes tokens o) [ None ↦ refl | Some s' ↦ refl ]

  unless : (l : Last A) (s : State R B A T) → m.is_ended alg l ≡ false → m.unless_ended alg l s ≡ Some s
  unless fresh s e = refl
  unless nothing s e = refl
  unless (an_atom a) s e = refl
  unless ended s e = cc

  -- the alternatives before the last branch, and that branch
  abbrev before : (Re C) → Option R
  before (g.only b) = None
  before (g.or x b) = Some (m.of_re alg x)

  abbrev last_branch : (Re C) → (Branch C)
  last_branch (g.only b) = b
  last_branch (g.or x b) = b

  re-value : (x : (Re C)) → m.with_branch alg (before x) (m.settled alg (front (last_branch x)) (last nothing (last_branch x))) ≡ m.of_re alg x
  re-value (g.only b) = ap alg.only (settled-front nothing b tt)
  re-value (g.or x b) = ap (alg.or (m.of_re alg x)) (settled-front nothing b tt)

  mutual
    pub branch-run : (b : (Branch C)) (t : Option T) (s : Bool) (f : List (Frame R B)) (r : Option R) (l : Last A) (rest : List (Token C)) → IsStart l
        → m.run alg (branch b ++ rest) (at t s f r alg.none l) ≡ m.run alg rest (at t s f r (front b) (last l b))
    branch-run g.none t s f r l rest h = refl
    branch-run (g.then b (g.once a)) t s f r l rest h =
        ap (λ tokens. m.run alg tokens (at t s f r alg.none l)) (append_assoc (branch b) (atom a) rest)
        ∙ branch-run b t s f r l (atom a ++ rest) h
        ∙ atom-run a t s f r (front b) (last l b) rest (not_ended l b h)
        ∙ ap (λ x. m.run alg rest (at t s f r x (an_atom (m.of_atom alg a)))) (settled-front l b h)
    branch-run (g.then b (g.many a q)) t s f r l rest h =
        ap (λ tokens. m.run alg tokens (at t s f r alg.none l)) (append_assoc (branch b) (atom a ++ tok.Quantifier q ∷ []) rest ∙ ap (λ x. branch b
        ++ x) (append_assoc (atom a) (tok.Quantifier q ∷ []) rest))
        ∙ branch-run b t s f r l (atom a ++ (tok.Quantifier q ∷ rest)) h
        ∙ atom-run a t s f r (front b) (last l b) (tok.Quantifier q ∷ rest) (not_ended l b h)
        ∙ ap (λ x. m.run alg rest (at t s f r (alg.many x (m.of_atom alg a) q) nothing)) (settled-front l b h)

    pub atom-run : (a : (Atom C)) (t : Option T) (s : Bool) (f : List (Frame R B)) (r : Option R) (b : B) (l : Last A) (rest : List (Token C))
        → m.is_ended alg l ≡ false
        → m.run alg (atom a ++ rest) (at t s f r b l) ≡ m.run alg rest (at t s f r (m.settled alg b l) (an_atom (m.of_atom alg a)))
    atom-run (g.one c) t s f r b l rest e = run-cons (tok.Item c) rest (at t s f r b l) ∙ ap (goes rest) (unless l _ e)
    atom-run (g.group x) t s f r b l rest e =
        run-cons tok.Opens ((re x ++ tok.Closes ∷ []) ++ rest) (at t s f r b l)
        ∙ ap (goes ((re x ++ tok.Closes ∷ []) ++ rest)) (unless l _ e)
        ∙ ap (λ tokens. m.run alg tokens (at t s (record { before = r; branch = m.settled alg b l } ∷ f) None alg.none nothing)) (append_assoc (re x)
        (tok.Closes ∷ []) rest)
        ∙ re-run x t s (record { before = r; branch = m.settled alg b l }) f (tok.Closes ∷ rest)
        ∙ ap (λ v. m.run alg rest (at t s f r (m.settled alg b l) (an_atom (alg.group v)))) (re-value x)

    pub re-run : (x : (Re C)) (t : Option T) (s : Bool) (frame : Frame R B) (f : List (Frame R B)) (rest : List (Token C))
        → m.run alg (re x ++ rest) (at t s (frame ∷ f) None alg.none nothing) ≡ m.run alg rest (at t s (frame ∷ f) (before x) (front (last_branch x))
        (last nothing (last_branch x)))
    re-run (g.only b) t s frame f rest = branch-run b t s (frame ∷ f) None nothing rest tt
    re-run (g.or x b) t s frame f rest =
        ap (λ tokens. m.run alg tokens (at t s (frame ∷ f) None alg.none nothing)) (append_assoc (re x) (tok.Bar ∷ branch b) rest)
        ∙ re-run x t s frame f (tok.Bar ∷ (branch b ++ rest))
        ∙ ap (λ v. m.run alg (branch b ++ rest) (at t s (frame ∷ f) (Some v) alg.none nothing)) (re-value x)
        ∙ branch-run b t s (frame ∷ f) (Some (m.of_re alg x)) nothing rest tt

  -- ---- lines

  abbrev start_of : Bool → Last A
  start_of true = nothing
  start_of false = fresh

  is_start : (b : Bool) → IsStart (start_of b)
  is_start true = tt
  is_start false = tt

  abbrev line_state : Option T → Bool → (Branch C) → Bool → State R B A T
  line_state t b x true = at t b [] None (m.of_branch alg x) ended
  line_state t b x false = at t b [] None (front x) (last (start_of b) x)

  line-run : (t : Option T) (b : Bool) (x : (Branch C)) (e : Bool) (rest : List (Token C))
      → m.run alg (a_line b x e ++ rest) (at t false [] None alg.none fresh) ≡ m.run alg rest (line_state t b x e)
  line-run t true x true rest =
      ap (λ tokens. m.run alg tokens (at t true [] None alg.none nothing)) (append_assoc (branch x) (tok.Ends ∷ []) rest)
      ∙ branch-run x t true [] None nothing (tok.Ends ∷ rest) tt
      ∙ run-cons tok.Ends rest (at t true [] None (front x) (last nothing x))
      ∙ ap (goes rest) (unless (last nothing x) _ (not_ended nothing x tt))
      ∙ ap (λ v. m.run alg rest (at t true [] None v ended)) (settled-front nothing x tt)
  line-run t false x true rest =
      ap (λ tokens. m.run alg tokens (at t false [] None alg.none fresh)) (append_assoc (branch x) (tok.Ends ∷ []) rest)
      ∙ branch-run x t false [] None fresh (tok.Ends ∷ rest) tt
      ∙ run-cons tok.Ends rest (at t false [] None (front x) (last fresh x))
      ∙ ap (goes rest) (unless (last fresh x) _ (not_ended fresh x tt))
      ∙ ap (λ v. m.run alg rest (at t false [] None v ended)) (settled-front fresh x tt)
  line-run t true x false rest =
      ap (λ tokens. m.run alg tokens (at t true [] None alg.none nothing)) (append_assoc (branch x) [] rest) ∙ branch-run x t true [] None nothing rest tt
  line-run t false x false rest =
      ap (λ tokens. m.run alg tokens (at t false [] None alg.none fresh)) (append_assoc (branch x) [] rest) ∙ branch-run x t false [] None fresh rest tt

  line-value : (t : Option T) (b : Bool) (x : (Branch C)) (e : Bool) → m.finished alg (line_state t b x e) ≡ Some (m.with_line alg t b (m.of_branch alg x) e)
  line-value t b x true = refl
  line-value t b x false = (λ i. Some (m.with_line alg t b (settled-front (start_of b) x (is_start b) i) (not_ended (start_of b) x (is_start b) i)))

  line-bar : (t : Option T) (b : Bool) (x : (Branch C)) (e : Bool) (rest : List (Token C))
      → m.run alg (tok.Bar ∷ rest) (line_state t b x e) ≡ m.run alg rest (at (Some (m.with_line alg t b (m.of_branch alg x) e)) false [] None alg.none fresh)
  line-bar t b x true rest = refl
  line-bar t b x false rest = λ i. m.run alg rest (at (Some (m.with_line alg t b (settled-front (start_of b) x (is_start b) i) (not_ended (start_of b) x
      (is_start b) i))) false [] None alg.none fresh)

  abbrev top_state : (Top C) → State R B A T
  top_state (g.line b x e) = line_state None b x e
  top_state (g.lines t b x e) = line_state (Some (m.of_top alg t)) b x e

  top-bar : (t : (Top C)) (rest : List (Token C)) → m.run alg (tok.Bar ∷ rest) (top_state t) ≡ m.run alg rest (at (Some
      (m.of_top alg t)) false [] None alg.none fresh)
  top-bar (g.line b x e) rest = line-bar None b x e rest
  top-bar (g.lines t b x e) rest = line-bar (Some (m.of_top alg t)) b x e rest

  top-run : (t : (Top C)) (rest : List (Token C)) → m.run alg (written t ++ rest) (m.start alg) ≡ m.run alg rest (top_state t)
  top-run (g.line b x e) rest = line-run None b x e rest
  top-run (g.lines t b x e) rest =
      ap (λ tokens. m.run alg tokens (m.start alg)) (append_assoc (written t) (tok.Bar ∷ a_line b x e) rest)
      ∙ top-run t (tok.Bar ∷ (a_line b x e ++ rest))
      ∙ top-bar t (a_line b x e ++ rest)
      ∙ line-run (Some (m.of_top alg t)) b x e rest

  abbrev finish : Option (State R B A T) → Option T
  finish None = None
  finish (Some s) = m.finished alg s

  read-run : (tokens : List (Token C)) → m.read alg tokens ≡ finish (m.run alg tokens (m.start alg))
  read-run tokens = elim (m.run alg tokens (m.start alg)) as
      (λ o. elim o [ None ↦ None | Some s ↦ m.finished alg s ] ≡ finish o) [ None ↦ refl | Some s ↦ refl ]

  top-value : (t : (Top C)) → m.finished alg (top_state t) ≡ Some (m.of_top alg t)
  top-value (g.line b x e) = line-value None b x e
  top-value (g.lines t b x e) = line-value (Some (m.of_top alg t)) b x e

  pub read-written : (t : (Top C)) → m.read alg (written t) ≡ Some (m.of_top alg t)
  read-written t = read-run (written t) ∙ ap finish (ap (λ tokens. m.run alg tokens (m.start alg)) (sym (append-nil (written t))) ∙ top-run t []) ∙ top-value t
