-- A row that leaves the lines by a name stands apart itself, and is the only row at its line.
use Rattle.std.proofs.Common.{◌≡◌, ◌<◌, Bool, true, false, not, ◌&&◌, ◌||◌, List, [], ◌∷◌, refl, sym, ap, ◌∙◌, subst, arith}
use Rattle.std.specs.Prelude.{nat_lt}
use Rattle.std.proofs.lemmas.Bool.{false≢true, ltb-true}
use Rattle.bind_rows.specs.declared.rows.Step.{Step}
use Rattle.bind_rows.specs.Same.{same_step, choose}
use Rattle.bind_table.specs.Lines.{Cell, Plan, nothing, a_line, own_cells, into, add}
use Rattle.bind_table.proofs.SameLemmas.{step-sound}
use Rattle.bind_table.proofs.PathLemmas.{step-itself}
use Rattle.binding_laws.specs.Apart.{is_called, is_unguarded, is_nothing, Known, beyond, is_off, is_met_or_unwritten, is_unwritten, is_clear, is_apart}
use Rattle.extension_laws.specs.Ways.{part, are_unguarded, leaves_by_name}
use Rattle.extension_laws.proofs.AddLemmas.{both, or-first, Past, Sorted, called-as-itself}

-- No line has the step.
abbrev NoLine : Step → Plan → Type 0
NoLine s nothing = Unit {0}
NoLine s (a_line t cells inside rest) = (same_step s t ≡ false) × NoLine s rest

not-same : (s t : Step) → (s ≡ t → ⊥) → same_step s t ≡ false
not-same s t h = go (same_step s t) refl
  where
    go : (b : Bool) → same_step s t ≡ b → b ≡ false
    go false e = refl
    go true e = absurd (h (step-sound s t e))

none-behind : (s t : Step) (rest : Plan) → s ≡ t → Past t rest → NoLine s rest
none-behind s t nothing e p = tt
none-behind s t (a_line u cells inside rest) e p = (not-same s u (λ f. p.1.0 (sym e ∙ f)), none-behind s t rest e p.1.1)

none-above : (s t : Step) (rest : Plan) → s.number < t.number → Past t rest → NoLine s rest
none-above s t nothing l p = tt
none-above s t (a_line u cells inside rest) l p =
    let m = p.0 in
    (not-same s u (λ f. let n = ap (λ (x : Step). x.number) f in omega (arith, l, m, n)), none-above s t rest l p.1.1)

-- a line that leaves by a name is called only where it is its own
not-called : (s : Step) (q : List Step) (t : Step) (inside : Plan) (others : Bool)
    → (elim (is_called s.name t.name) [ true ↦ same_step s t && leaves_by_name q inside | false ↦ true ] && others) ≡ true
    → same_step s t ≡ false → is_called s.name t.name ≡ false
not-called s q t inside others h e = go (is_called s.name t.name) refl (both _ others h).0
  where
    go : (b : Bool) → is_called s.name t.name ≡ b → elim b [ true ↦ same_step s t && leaves_by_name q inside | false ↦ true ] ≡ true → b ≡ false
    go false c k = refl
    go true c k = absurd (false≢true (sym e ∙ (both (same_step s t) (leaves_by_name q inside) k).0))

clear-none : (known : Known) (s : Step) (q : List Step) (plan : Plan) → leaves_by_name (s ∷ q) plan ≡ true → NoLine s plan → is_clear known plan (s ∷ q) ≡ true
clear-none known s q nothing h none = refl
clear-none known s q (a_line t cells inside rest) h none =
    let c = not-called s q t inside (leaves_by_name (s ∷ q) rest) h none.0 in
    ap (λ b. elim b [
      | true ↦ (not (same_step s t) && (is_off known s.guards t cells inside ||
          elim q [ [] ↦ false | (u ∷ further) ↦ is_clear (beyond t.group known) inside (u ∷ further) ])) && is_clear known rest (s ∷ q)
      | false ↦ is_clear known rest (s ∷ q)
    ]) c
    ∙ clear-none known s q rest (both _ (leaves_by_name (s ∷ q) rest) h).1 none.1

-- what stands apart behind the first step
abbrev tail : Known → List Step → Plan → Bool
tail known q inside = elim q [ [] ↦ is_nothing inside | (u ∷ further) ↦ is_apart known inside (u ∷ further) ]

past : (known : Known) (s : Step) (q : List Step) (t : Step) (cells : List Cell) (inside rest : Plan) → same_step s t ≡ false → is_called s.name t.name ≡ false
    → is_apart known (a_line t cells inside rest) (s ∷ q) ≡ is_apart known rest (s ∷ q)
past known s q t cells inside rest a b =
    let called : Bool = is_off known s.guards t cells inside || elim q [ [] ↦ false | (u ∷ further) ↦ is_clear (beyond t.group known) inside (u ∷ further) ] in
    ap (λ x. elim x [
      | true ↦ is_met_or_unwritten known s.guards t cells inside && (is_clear known rest (s ∷ q) && tail (beyond t.group known) q inside)
      | false ↦ elim (is_called s.name t.name) [ true ↦ called && is_apart known rest (s ∷ q) | false ↦ is_apart known rest (s ∷ q) ]
    ]) a
    ∙ ap (λ x. elim x [ true ↦ called && is_apart known rest (s ∷ q) | false ↦ is_apart known rest (s ∷ q) ]) b

-- its own line
own-line : (known : Known) (s : Step) (q : List Step) (t : Step) (cells : List Cell) (inside rest : Plan) → is_unguarded s.guards ≡ true → same_step s t ≡ true
    → is_clear known rest (s ∷ q) ≡ true
    → tail (beyond t.group known) q inside ≡ true → is_apart known (a_line t cells inside rest) (s ∷ q) ≡ true
own-line known s q t cells inside rest free e c d =
    let below : Bool = tail (beyond t.group known) q inside in
    let otherwise : Bool = elim (is_called s.name t.name) [
      | true ↦ (is_off known s.guards t cells inside || elim q [ [] ↦ false | (u ∷ further) ↦ is_clear (beyond t.group known) inside (u ∷ further) ]) &&
          is_apart known rest (s ∷ q)
      | false ↦ is_apart known rest (s ∷ q)
    ] in
    ap (λ b. elim b [ true ↦ is_met_or_unwritten known s.guards t cells inside && (is_clear known rest (s ∷ q) && below) | false ↦ otherwise ]) e
    ∙ (ap (λ b. b && (is_clear known rest (s ∷ q) && below)) (or-first (is_unguarded s.guards) _ (is_unwritten known.gone t cells inside) free)
    ∙ (ap (λ b. b && below) c ∙ d))

module _ (cell : Cell) (s : Step) (q : List Step) (free : is_unguarded s.guards ≡ true)
    (below : (known : Known) (inside : Plan) → Sorted inside → (leaves_by_name q inside ≡ true) → tail known q (add q cell inside) ≡ true)
    (new : (known : Known) → tail known q (add q cell nothing) ≡ true) (known : Known) where
  own-by : (t : Step) (cells : List Cell) (inside rest : Plan) (a b : Bool) → same_step s t ≡ a → nat_lt s.number t.number ≡ b
      → Sorted (a_line t cells inside rest)
      → leaves_by_name (s ∷ q) (a_line t cells inside rest) ≡ true
      → is_apart known (into s (own_cells q cell) (add q cell) rest) (s ∷ q) ≡ true
      → is_apart known (choose a (λ _. a_line t (own_cells q cell cells) (add q cell inside) rest)
      (λ _. choose b (λ _. a_line s (own_cells q cell []) (add q cell nothing) (a_line t cells inside rest))
      (λ _. a_line t cells inside (into s (own_cells q cell) (add q cell) rest)))) (s ∷ q) ≡ true
  own-by t cells inside rest true b same less sorted h later =
      let k = both _ (leaves_by_name (s ∷ q) rest) h in
      let is : s ≡ t = step-sound s t same in
      let called : is_called s.name t.name ≡ true = subst (λ (x : Step). is_called s.name x.name ≡ true) is (called-as-itself s.name) in
      let w = both (same_step s t) (leaves_by_name q inside) (ap (λ b. elim b [ true ↦ same_step s t && leaves_by_name q inside | false ↦ true ]) (sym called) ∙
      k.0) in
      own-line known s q t (own_cells q cell cells) (add q cell inside) rest free same (clear-none known s q rest k.1 (none-behind s t rest is sorted.0))
      (below (beyond t.group known) inside sorted.1.0 w.1)
  own-by t cells inside rest false true same less sorted h later =
      let l = ltb-true s.number t.number less in
      own-line known s q s (own_cells q cell []) (add q cell nothing) (a_line t cells inside rest) free (step-itself s)
      (clear-none known s q (a_line t cells inside rest) h (same, none-above s t rest l sorted.0)) (new (beyond s.group known))
  own-by t cells inside rest false false same less sorted h later =
      past known s q t cells inside (into s (own_cells q cell) (add q cell) rest) same (not-called s q t inside (leaves_by_name (s ∷ q) rest) h same)
      ∙ later

  own-into : (plan : Plan) → Sorted plan → leaves_by_name (s ∷ q) plan ≡ true → is_apart known (into s (own_cells q cell) (add q cell) plan) (s ∷ q) ≡ true
  own-into nothing sorted h = own-line known s q s (own_cells q cell []) (add q cell nothing) nothing free (step-itself s) refl (new (beyond s.group known))
  own-into (a_line t cells inside rest) sorted h =
      own-by t cells inside rest (same_step s t) (nat_lt s.number t.number) refl refl sorted h
      (own-into rest sorted.1.1 (both _ (leaves_by_name (s ∷ q) rest) h).1)

pub own-apart : (cell : Cell) (s : Step) (q : List Step) → are_unguarded (s ∷ q) ≡ true → (known : Known) (plan : Plan) → Sorted plan
    → leaves_by_name (s ∷ q) plan ≡ true
    → is_apart known (add (s ∷ q) cell plan) (s ∷ q) ≡ true
own-apart cell s [] free known plan sorted h = own-into cell s [] (both (is_unguarded s.guards) true free).0 (λ k inside x y. absurd (false≢true y))
    (λ k. refl) known plan sorted h
own-apart cell s (u ∷ further) free known plan sorted h =
    let f = both (is_unguarded s.guards) (are_unguarded (u ∷ further)) free in
    own-into cell s (u ∷ further) f.0 (λ k inside x y. own-apart cell u further f.1 k inside x y)
    (λ k. own-apart cell u further f.1 k nothing tt refl) known plan sorted h

-- ---- a row that parts from another leaves it to leave by its name

module _ (v : Step) (own : List Cell → List Cell) (deeper : Plan → Plan) (s : Step) (q : List Step) (other : is_called s.name v.name ≡ false) where
  leaves-by : (t : Step) (cells : List Cell) (inside rest : Plan) (a b : Bool) → same_step v t ≡ a
      → leaves_by_name (s ∷ q) (into v own deeper rest) ≡ leaves_by_name (s ∷ q) rest
      → leaves_by_name (s ∷ q) (choose a (λ _. a_line t (own cells) (deeper inside) rest)
      (λ _. choose b (λ _. a_line v (own []) (deeper nothing) (a_line t cells inside rest)) (λ _. a_line t cells inside (into v own deeper rest))))
      ≡ leaves_by_name (s ∷ q) (a_line t cells inside rest)
  leaves-by t cells inside rest true b same later =
      let n : is_called s.name t.name ≡ false = subst (λ (x : Step). is_called s.name x.name ≡ false) (step-sound v t same) other in
      ap (λ b. elim b [ true ↦ same_step s t && leaves_by_name q (deeper inside) | false ↦ true ] && leaves_by_name (s ∷ q) rest) n
      ∙ sym (ap (λ b. elim b [ true ↦ same_step s t && leaves_by_name q inside | false ↦ true ] && leaves_by_name (s ∷ q) rest) n)
  leaves-by t cells inside rest false true same later = ap (λ b. elim b [ true ↦ same_step s v && leaves_by_name q (deeper nothing) | false ↦ true ] &&
      leaves_by_name (s ∷ q) (a_line t cells inside rest)) other
  leaves-by t cells inside rest false false same later =
      ap (λ r. elim (is_called s.name t.name) [ true ↦ same_step s t && leaves_by_name q inside | false ↦ true ] && r) later

  leaves-into : (plan : Plan) → leaves_by_name (s ∷ q) (into v own deeper plan) ≡ leaves_by_name (s ∷ q) plan
  leaves-into nothing = ap (λ b. elim b [ true ↦ same_step s v && leaves_by_name q (deeper nothing) | false ↦ true ] && true) other
  leaves-into (a_line t cells inside rest) = leaves-by t cells inside rest (same_step v t) (nat_lt v.number t.number) refl (leaves-into rest)

any-line : (b c d : Bool) → c ≡ true → d ≡ true → (elim b [ true ↦ c && d | false ↦ true ]) ≡ true
any-line true c d e f = rw (e, f) refl
any-line false c d e f = refl

and-true : (a b : Bool) → a ≡ true → b ≡ true → (a && b) ≡ true
and-true a b e f = rw (e, f) refl

module _ (s : Step) (own : List Cell → List Cell) (deeper : Plan → Plan) (q : List Step)
    (below : (inside : Plan) → leaves_by_name q inside ≡ true → leaves_by_name q (deeper inside) ≡ true) (new : leaves_by_name q (deeper nothing) ≡ true) where
  same-leaves-by : (t : Step) (cells : List Cell) (inside rest : Plan) (a b : Bool) → same_step s t ≡ a
      → leaves_by_name (s ∷ q) (a_line t cells inside rest) ≡ true
      → leaves_by_name (s ∷ q) (into s own deeper rest) ≡ true
      → leaves_by_name (s ∷ q) (choose a (λ _. a_line t (own cells) (deeper inside) rest)
      (λ _. choose b (λ _. a_line s (own []) (deeper nothing) (a_line t cells inside rest)) (λ _. a_line t cells inside (into s own deeper rest)))) ≡ true
  same-leaves-by t cells inside rest true b same h later =
      let k = both _ (leaves_by_name (s ∷ q) rest) h in
      let called : is_called s.name t.name ≡ true = subst (λ (x : Step). is_called s.name x.name ≡ true) (step-sound s t same) (called-as-itself s.name) in
      let w = both (same_step s t) (leaves_by_name q inside) (ap (λ b. elim b [ true ↦ same_step s t && leaves_by_name q inside | false ↦ true ]) (sym called) ∙
      k.0) in
      and-true (elim (is_called s.name t.name) [ true ↦ same_step s t && leaves_by_name q (deeper inside) | false ↦ true ]) (leaves_by_name (s ∷ q) rest)
      (any-line (is_called s.name t.name) (same_step s t) (leaves_by_name q (deeper inside)) same (below inside w.1)) k.1
  same-leaves-by t cells inside rest false true same h later =
      and-true (elim (is_called s.name s.name) [ true ↦ same_step s s && leaves_by_name q (deeper nothing) | false ↦ true ])
      (leaves_by_name (s ∷ q) (a_line t cells inside rest))
      (any-line (is_called s.name s.name) (same_step s s) (leaves_by_name q (deeper nothing)) (step-itself s) new) h
  same-leaves-by t cells inside rest false false same h later =
      and-true _ (leaves_by_name (s ∷ q) (into s own deeper rest)) (both _ (leaves_by_name (s ∷ q) rest) h).0 later

  same-leaves-into : (plan : Plan) → leaves_by_name (s ∷ q) plan ≡ true → leaves_by_name (s ∷ q) (into s own deeper plan) ≡ true
  same-leaves-into nothing h = and-true (elim (is_called s.name s.name) [ true ↦ same_step s s && leaves_by_name q (deeper nothing) | false ↦ true ]) true
      (any-line (is_called s.name s.name) (same_step s s) (leaves_by_name q (deeper nothing)) (step-itself s) new) refl
  same-leaves-into (a_line t cells inside rest) h = same-leaves-by t cells inside rest (same_step s t) (nat_lt s.number t.number) refl h
      (same-leaves-into rest (both _ (leaves_by_name (s ∷ q) rest) h).1)

pub leaves-add : (cell : Cell) (q path : List Step) → part q path ≡ true → (plan : Plan) → leaves_by_name q plan ≡ true
    → leaves_by_name q (add path cell plan) ≡ true
leaves-add cell [] path p plan h = absurd (false≢true p)
leaves-add cell (s ∷ q) [] p plan h = absurd (false≢true p)
leaves-add cell (s ∷ q) (v ∷ path) p plan h = by (is_called s.name v.name) refl p (λ k inside l. leaves-add cell q path k inside l)
  where
    new-leaves : part q path ≡ true → leaves_by_name q nothing ≡ true
    new-leaves k = go q k
      where
        go : (q : List Step) → part q path ≡ true → leaves_by_name q nothing ≡ true
        go [] k = absurd (false≢true k)
        go (u ∷ further) k = refl

    by : (b : Bool) → is_called s.name v.name ≡ b → elim b [ true ↦ same_step s v && part q path | false ↦ true ] ≡ true
        → (part q path ≡ true → (inside : Plan) → leaves_by_name q inside ≡ true → leaves_by_name q (add path cell inside) ≡ true)
        → leaves_by_name (s ∷ q) (into v (own_cells path cell) (add path cell) plan) ≡ true
    by false e k f = leaves-into v (own_cells path cell) (add path cell) s q e plan ∙ h
    by true e k f =
        let w = both (same_step s v) (part q path) k in
        let same : s ≡ v = step-sound s v w.0 in
        subst (λ x. leaves_by_name (s ∷ q) (into x (own_cells path cell) (add path cell) plan) ≡ true) same
        (same-leaves-into s (own_cells path cell) (add path cell) q (f w.1) (f w.1 nothing (new-leaves w.1)) plan h)
