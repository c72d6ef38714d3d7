-- A row that leaves the lines by a name changes nothing for the paths of other rows.
use Rattle.std.proofs.Common.{◌≡◌, ℕ, ◌<◌, ◌≤◌, Bool, true, false, not, ◌&&◌, ◌||◌, List, [], ◌∷◌, refl, sym, ap, ◌∙◌, subst, arith}
use Rattle.std.specs.Prelude.{nat_lt}
use Rattle.std.proofs.lemmas.Bool.{false≢true, ltb-true}
use Rattle.bind_rows.specs.declared.rows.Step.{Step}
use Rattle.bind_rows.specs.declared.names.ElementName.{ElementName}
use Rattle.bind_rows.specs.Same.{same_step, choose}
use Rattle.bind_table.specs.Lines.{Cell, Plan, nothing, a_line, own_cells, into, add}
use Rattle.bind_table.proofs.SameLemmas.{step-sound}
use Rattle.binding_laws.specs.Apart.{is_called, is_unguarded, is_nothing, Known, beyond, is_off, is_met_or_unwritten, is_unwritten, is_clear, is_apart}
use Rattle.bind_rows.specs.Namespaces.{uri_of}
use Rattle.std.specs.Str.{bytes_eq}
use Rattle.std.proofs.lemmas.Slice.Eq.{bytes_eq-Decides}
use Rattle.extension_laws.specs.Ways.{part, are_unguarded, finds}

pub both : (a b : Bool) → (a && b) ≡ true → (a ≡ true) × (b ≡ true)
both true b e = (refl, e)
both false b e = cc

-- ---- a line of another name changes nothing

module _ (s : Step) (own : List Cell → List Cell) (deeper : Plan → Plan) (known : Known) (v : Step) (path : List Step)
    (other : is_called v.name s.name ≡ false) where
  not-called : (t : Step) → same_step s t ≡ true → is_called v.name t.name ≡ false
  not-called t e = subst (λ (x : Step). is_called v.name x.name ≡ false) (step-sound s t e) other

  -- a line that isn't called so
  pub clear-past : (t : Step) (cells : List Cell) (inside rest : Plan) → is_called v.name t.name ≡ false
      → is_clear known (a_line t cells inside rest) (v ∷ path) ≡ is_clear known rest (v ∷ path)
  clear-past t cells inside rest n = ap (λ b. elim b [
    | true ↦ (not (same_step v t) && (is_off known v.guards t cells inside ||
        elim path [ [] ↦ false | (u ∷ further) ↦ is_clear (beyond t.group known) inside (u ∷ further) ])) && is_clear known rest (v ∷ path)
    | false ↦ is_clear known rest (v ∷ path)
  ]) n

  clear-behind : (t : Step) (cells : List Cell) (inside rest rest' : Plan) → is_clear known rest' (v ∷ path) ≡ is_clear known rest (v ∷ path)
      → is_clear known (a_line t cells inside rest') (v ∷ path) ≡ is_clear known (a_line t cells inside rest) (v ∷ path)
  clear-behind t cells inside rest rest' e = ap (λ r. elim (is_called v.name t.name) [
    | true ↦ (not (same_step v t) && (is_off known v.guards t cells inside ||
        elim path [ [] ↦ false | (u ∷ further) ↦ is_clear (beyond t.group known) inside (u ∷ further) ])) && r
    | false ↦ r
  ]) e

  clear-by : (t : Step) (cells : List Cell) (inside rest : Plan) (a b : Bool) → same_step s t ≡ a
      → is_clear known (into s own deeper rest) (v ∷ path) ≡ is_clear known rest (v ∷ path)
      → is_clear known (choose a (λ _. a_line t (own cells) (deeper inside) rest)
      (λ _. choose b (λ _. a_line s (own []) (deeper nothing) (a_line t cells inside rest)) (λ _. a_line t cells inside (into s own deeper rest))))
      (v ∷ path)
      ≡ is_clear known (a_line t cells inside rest) (v ∷ path)
  clear-by t cells inside rest true b same later =
      clear-past t (own cells) (deeper inside) rest (not-called t same) ∙ sym (clear-past t cells inside rest (not-called t same))
  clear-by t cells inside rest false true same later = clear-past s (own []) (deeper nothing) (a_line t cells inside rest) other
  clear-by t cells inside rest false false same later = clear-behind t cells inside rest (into s own deeper rest) later

  pub clear-into : (plan : Plan) → is_clear known (into s own deeper plan) (v ∷ path) ≡ is_clear known plan (v ∷ path)
  clear-into nothing = clear-past s (own []) (deeper nothing) nothing other
  clear-into (a_line t cells inside rest) = clear-by t cells inside rest (same_step s t) (nat_lt s.number t.number) refl (clear-into rest)

  -- ---- the same for the path's own lines

  called-itself : (t : Step) → same_step v t ≡ true → is_called v.name v.name ≡ true → same_step s t ≡ false
  called-itself t e c = go (same_step s t) refl
    where
      go : (b : Bool) → same_step s t ≡ b → b ≡ false
      go false f = refl
      go true f = absurd (false≢true (sym (not-called t f) ∙ subst (λ (x : Step). is_called v.name x.name ≡ true) (step-sound v t e) c))

  abbrev own_line : Step → List Cell → Plan → Plan → Bool
  own_line t cells inside rest = is_met_or_unwritten known v.guards t cells inside &&
      (is_clear known rest (v ∷ path) && elim path [ [] ↦ is_nothing inside | (u ∷ further) ↦ is_apart (beyond t.group known) inside (u ∷ further) ])

  abbrev called_line : Step → List Cell → Plan → Bool
  called_line t cells inside = is_off known v.guards t cells inside ||
      elim path [ [] ↦ false | (u ∷ further) ↦ is_clear (beyond t.group known) inside (u ∷ further) ]

  pub apart-past : (t : Step) (cells : List Cell) (inside rest : Plan) → same_step v t ≡ false → is_called v.name t.name ≡ false
      → is_apart known (a_line t cells inside rest) (v ∷ path) ≡ is_apart known rest (v ∷ path)
  apart-past t cells inside rest a b =
      ap (λ x. elim x [
        | true ↦ own_line t cells inside rest
        | false ↦ elim (is_called v.name t.name) [
          | true ↦ called_line t cells inside && is_apart known rest (v ∷ path)
          | false ↦ is_apart known rest (v ∷ path)
        ]
      ]) a
      ∙ ap (λ x. elim x [ true ↦ called_line t cells inside && is_apart known rest (v ∷ path) | false ↦ is_apart known rest (v ∷ path) ]) b

  not-same : (t : Step) → is_called v.name t.name ≡ false → is_called v.name v.name ≡ true → same_step v t ≡ false
  not-same t n c = go (same_step v t) refl
    where
      go : (b : Bool) → same_step v t ≡ b → b ≡ false
      go false f = refl
      go true f = absurd (false≢true (sym n ∙ subst (λ (x : Step). is_called v.name x.name ≡ true) (step-sound v t f) c))

  apart-behind : (t : Step) (cells : List Cell) (inside rest rest' : Plan) → is_clear known rest' (v ∷ path) ≡ is_clear known rest (v ∷ path)
      → is_apart known rest' (v ∷ path) ≡ is_apart known rest (v ∷ path)
      → is_apart known (a_line t cells inside rest') (v ∷ path) ≡ is_apart known (a_line t cells inside rest) (v ∷ path)
  apart-behind t cells inside rest rest' e f =
      ap (λ c. elim (same_step v t) [
        | true ↦ is_met_or_unwritten known v.guards t cells inside &&
            (c && elim path [ [] ↦ is_nothing inside | (u ∷ further) ↦ is_apart (beyond t.group known) inside (u ∷ further) ])
        | false ↦ elim (is_called v.name t.name) [
          | true ↦ called_line t cells inside && is_apart known rest' (v ∷ path)
          | false ↦ is_apart known rest' (v ∷ path)
        ]
      ]) e
      ∙ ap (λ r. elim (same_step v t) [
        | true ↦ own_line t cells inside rest
        | false ↦ elim (is_called v.name t.name) [ true ↦ called_line t cells inside && r | false ↦ r ]
      ]) f

  module _ (itself : is_called v.name v.name ≡ true) where
    apart-by : (t : Step) (cells : List Cell) (inside rest : Plan) (a b : Bool) → same_step s t ≡ a
        → is_apart known (into s own deeper rest) (v ∷ path) ≡ is_apart known rest (v ∷ path)
        → is_apart known (choose a (λ _. a_line t (own cells) (deeper inside) rest)
        (λ _. choose b (λ _. a_line s (own []) (deeper nothing) (a_line t cells inside rest)) (λ _. a_line t cells inside (into s own deeper rest))))
        (v ∷ path)
        ≡ is_apart known (a_line t cells inside rest) (v ∷ path)
    apart-by t cells inside rest true b same later =
        let n = not-called t same in
        let m = not-same t n itself in
        apart-past t (own cells) (deeper inside) rest m n ∙ sym (apart-past t cells inside rest m n)
    apart-by t cells inside rest false true same later = apart-past s (own []) (deeper nothing) (a_line t cells inside rest) (not-same s other itself) other
    apart-by t cells inside rest false false same later = apart-behind t cells inside rest (into s own deeper rest) (clear-into rest) later

    pub apart-into : (plan : Plan) → is_apart known (into s own deeper plan) (v ∷ path) ≡ is_apart known plan (v ∷ path)
    apart-into nothing = apart-past s (own []) (deeper nothing) nothing (not-same s other itself) other
    apart-into (a_line t cells inside rest) = apart-by t cells inside rest (same_step s t) (nat_lt s.number t.number) refl (apart-into rest)

-- ---- lines stand by their numbers, and no two beside one another have one step

abbrev pub Past : Step → Plan → Type 0
Past s nothing = Unit {0}
Past s (a_line t cells inside rest) = (s.number ≤ t.number) × ((s ≡ t → ⊥) × Past s rest)

abbrev pub Sorted : Plan → Type 0
Sorted nothing = Unit {0}
Sorted (a_line s cells inside rest) = Past s rest × (Sorted inside × Sorted rest)

text-itself : (a : List ℕ) → bytes_eq a a ≡ true
text-itself a = (bytes_eq-Decides a a).1 refl

pub called-as-itself : (v : ElementName) → is_called v v ≡ true
called-as-itself v = ap (λ b. elim b [ true ↦ bytes_eq (uri_of v.namespace) (uri_of v.namespace) | false ↦ false ]) (text-itself v.local) ∙
    text-itself (uri_of v.namespace)

pub absent : (s t : Step) (path : List Step) (rest : Plan) → s.number < t.number → Past t rest → finds (s ∷ path) rest ≡ false
absent s t path nothing l p = refl
absent s t path (a_line u cells inside rest) l p =
    ap (λ b. elim b [ true ↦ elim path [ [] ↦ true | (w ∷ further) ↦ finds (w ∷ further) inside ] | false ↦ finds (s ∷ path) rest ])
    (not-same-line (same_step s u) refl)
    ∙ absent s t path rest l p.1.1
  where
    not-same-line : (b : Bool) → same_step s u ≡ b → b ≡ false
    not-same-line false e = refl
    not-same-line true e =
        let n : s.number ≡ u.number = ap (λ (x : Step). x.number) (step-sound s u e) in
        let m = p.0 in
        absurd (omega (arith, l, n, m))

pub or-first : (a b c : Bool) → a ≡ true → ((a || b) || c) ≡ true
or-first true b c e = refl
or-first false b c e = absurd (false≢true e)

-- ---- the line of a step that both paths go through

module _ (s : Step) (own : List Cell → List Cell) (deeper : Plan → Plan) (u : Step) (further : List Step) (free : is_unguarded s.guards ≡ true)
    (below : (known : Known) (inside : Plan) → Sorted inside → finds (u ∷ further) inside ≡ true →
    is_apart known (deeper inside) (u ∷ further) ≡ is_apart known inside (u ∷ further)) where
  module _ (known : Known) where
    met : (t : Step) (cells : List Cell) (inside : Plan) → is_met_or_unwritten known s.guards t cells inside ≡ true
    met t cells inside = or-first (is_unguarded s.guards) _ (is_unwritten known.gone t cells inside) free

    own-is : (t : Step) (cells : List Cell) (inside rest : Plan) → same_step s t ≡ true
        → is_apart known (a_line t cells inside rest) (s ∷ u ∷ further) ≡ (is_clear known rest (s ∷ u ∷ further) &&
        is_apart (beyond t.group known) inside (u ∷ further))
    own-is t cells inside rest e =
        ap (λ b. elim b [
          | true ↦ is_met_or_unwritten known s.guards t cells inside &&
              (is_clear known rest (s ∷ u ∷ further) && is_apart (beyond t.group known) inside (u ∷ further))
          | false ↦ elim (is_called s.name t.name) [
            | true ↦ (is_off known s.guards t cells inside || is_clear (beyond t.group known) inside (u ∷ further)) && is_apart known rest (s ∷ u ∷ further)
            | false ↦ is_apart known rest (s ∷ u ∷ further)
          ]
        ]) e
        ∙ ap (λ b. b && (is_clear known rest (s ∷ u ∷ further) && is_apart (beyond t.group known) inside (u ∷ further))) (met t cells inside)

    same-behind : (t : Step) (cells : List Cell) (inside rest rest' : Plan) → same_step s t ≡ false
        → is_apart known rest' (s ∷ u ∷ further) ≡ is_apart known rest (s ∷ u ∷ further)
        → is_apart known (a_line t cells inside rest') (s ∷ u ∷ further) ≡ is_apart known (a_line t cells inside rest) (s ∷ u ∷ further)
    same-behind t cells inside rest rest' e f = other-is rest' ∙
        (ap (λ r. elim (is_called s.name t.name) [
          | true ↦ (is_off known s.guards t cells inside || is_clear (beyond t.group known) inside (u ∷ further)) && r
          | false ↦ r
        ]) f ∙ sym (other-is rest))
      where
        other-is : (r : Plan) → is_apart known (a_line t cells inside r) (s ∷ u ∷ further)
            ≡ elim (is_called s.name t.name) [
              | true ↦ (is_off known s.guards t cells inside || is_clear (beyond t.group known) inside (u ∷ further)) &&
                  is_apart known r (s ∷ u ∷ further)
              | false ↦ is_apart known r (s ∷ u ∷ further)
            ]
        other-is r = ap (λ b. elim b [
          | true ↦ is_met_or_unwritten known s.guards t cells inside &&
              (is_clear known r (s ∷ u ∷ further) && is_apart (beyond t.group known) inside (u ∷ further))
          | false ↦ elim (is_called s.name t.name) [
            | true ↦ (is_off known s.guards t cells inside || is_clear (beyond t.group known) inside (u ∷ further)) && is_apart known r (s ∷ u ∷ further)
            | false ↦ is_apart known r (s ∷ u ∷ further)
          ]
        ]) e

    finds-inside : (t : Step) (cells : List Cell) (inside rest : Plan) → same_step s t ≡ true → finds (s ∷ u ∷ further) (a_line t cells inside rest) ≡ true
        → finds (u ∷ further) inside ≡ true
    finds-inside t cells inside rest e h = ap (λ b. elim b [ true ↦ finds (u ∷ further) inside | false ↦ finds (s ∷ u ∷ further) rest ]) (sym e) ∙ h

    finds-behind : (t : Step) (cells : List Cell) (inside rest : Plan) → same_step s t ≡ false → finds (s ∷ u ∷ further) (a_line t cells inside rest) ≡ true
        → finds (s ∷ u ∷ further) rest ≡ true
    finds-behind t cells inside rest e h = ap (λ b. elim b [ true ↦ finds (u ∷ further) inside | false ↦ finds (s ∷ u ∷ further) rest ]) (sym e) ∙ h

    same-by : (t : Step) (cells : List Cell) (inside rest : Plan) (a b : Bool) → same_step s t ≡ a → nat_lt s.number t.number ≡ b
        → Sorted (a_line t cells inside rest)
        → finds (s ∷ u ∷ further) (a_line t cells inside rest) ≡ true
        → (finds (s ∷ u ∷ further) rest ≡ true → is_apart known (into s own deeper rest) (s ∷ u ∷ further) ≡ is_apart known rest (s ∷ u ∷ further))
        → is_apart known (choose a (λ _. a_line t (own cells) (deeper inside) rest)
        (λ _. choose b (λ _. a_line s (own []) (deeper nothing) (a_line t cells inside rest)) (λ _. a_line t cells inside (into s own deeper rest))))
        (s ∷ u ∷ further)
        ≡ is_apart known (a_line t cells inside rest) (s ∷ u ∷ further)
    same-by t cells inside rest true b same less sorted there later =
        own-is t (own cells) (deeper inside) rest same
        ∙ (ap (λ r. is_clear known rest (s ∷ u ∷ further) && r) (below (beyond t.group known) inside sorted.1.0 (finds-inside t cells inside rest same there))
        ∙ sym (own-is t cells inside rest same))
    same-by t cells inside rest false true same less sorted there later =
        absurd (false≢true (sym (absent s t (u ∷ further) rest (ltb-true s.number t.number less) sorted.0) ∙ finds-behind t cells inside rest same there))
    same-by t cells inside rest false false same less sorted there later =
        same-behind t cells inside rest (into s own deeper rest) same (later (finds-behind t cells inside rest same there))

    pub same-into : (plan : Plan) → Sorted plan → finds (s ∷ u ∷ further) plan ≡ true
        → is_apart known (into s own deeper plan) (s ∷ u ∷ further) ≡ is_apart known plan (s ∷ u ∷ further)
    same-into nothing sorted there = absurd (false≢true there)
    same-into (a_line t cells inside rest) sorted there =
        same-by t cells inside rest (same_step s t) (nat_lt s.number t.number) refl refl sorted there (λ h. same-into rest sorted.1.1 h)

-- ---- so a row that parts from the path changes nothing for it

pub apart-add : (cell : Cell) (path q : List Step) → part path q ≡ true → are_unguarded q ≡ true → (known : Known) (plan : Plan) → Sorted plan
    → finds path plan ≡ true
    → is_apart known (add q cell plan) path ≡ is_apart known plan path
apart-add cell [] q p free known plan sorted there = absurd (false≢true p)
apart-add cell (v ∷ path) [] p free known plan sorted there = absurd (false≢true p)
apart-add cell (v ∷ []) (s ∷ q) p free known plan sorted there = by (is_called v.name s.name) refl p
  where
    by : (b : Bool) → is_called v.name s.name ≡ b → elim b [ true ↦ same_step v s && false | false ↦ true ] ≡ true
        → is_apart known (into s (own_cells q cell) (add q cell) plan) (v ∷ []) ≡ is_apart known plan (v ∷ [])
    by false e h = apart-into s (own_cells q cell) (add q cell) known v [] e (called-as-itself v.name) plan
    by true e h = absurd (false≢true (sym (never (same_step v s)) ∙ h))
      where
        never : (b : Bool) → (b && false) ≡ false
        never true = refl
        never false = refl
apart-add cell (v ∷ u ∷ further) (s ∷ q) p free known plan sorted there =
    by (is_called v.name s.name) refl p (λ h k inside a b. apart-add cell (u ∷ further) q h
    (both (is_unguarded s.guards) (are_unguarded q) free).1 k inside a b)
  where
    by : (b : Bool) → is_called v.name s.name ≡ b → elim b [ true ↦ same_step v s && part (u ∷ further) q | false ↦ true ] ≡ true
        → (part (u ∷ further) q ≡ true → (known : Known) (inside : Plan) → Sorted inside → finds (u ∷ further) inside ≡ true →
        is_apart known (add q cell inside) (u ∷ further) ≡ is_apart known inside (u ∷ further))
        → is_apart known (into s (own_cells q cell) (add q cell) plan) (v ∷ u ∷ further) ≡ is_apart known plan (v ∷ u ∷ further)
    by false e h f = apart-into s (own_cells q cell) (add q cell) known v (u ∷ further) e (called-as-itself v.name) plan
    by true e h f =
        let w = both (same_step v s) (part (u ∷ further) q) h in
        let same : v ≡ s = step-sound v s w.0 in
        let at : finds (s ∷ u ∷ further) plan ≡ true = subst (λ x. finds (x ∷ u ∷ further) plan ≡ true) same there in
        let done = same-into s (own_cells q cell) (add q cell) u further (both (is_unguarded s.guards) (are_unguarded q) free).0 (f w.1) known plan sorted at in
        subst (λ x. is_apart known (into s (own_cells q cell) (add q cell) plan) (x ∷ u ∷ further) ≡ is_apart known plan (x ∷ u ∷ further)) (sym same) done
