-- Two paths that lead to the same elements still do where a row is added that parts from both.
use Rattle.std.proofs.Common.{◌≡◌, ◌<◌, Bool, true, false, not, ◌&&◌, ◌||◌, List, [], ◌∷◌, refl, sym, ap, ◌∙◌, subst}
use Rattle.std.specs.Prelude.{nat_lt, is_none}
use Rattle.std.proofs.lemmas.Bool.{false≢true, ltb-true}
use Rattle.bind_rows.specs.declared.rows.Step.{Step}
use Rattle.bind_rows.specs.Same.{same_step, choose}
use Rattle.bind_table.specs.Lines.{Cell, Plan, nothing, a_line, own_cells, add}
use Rattle.bind_table.proofs.SameLemmas.{step-sound}
use Rattle.binding_laws.specs.Apart.{is_called, is_unguarded, is_nothing, unknown, beyond, meets_all, is_off, is_clear, is_apart}
use Rattle.binding_laws.specs.Twins.{are_twins}
use Rattle.extension_laws.specs.Ways.{part, are_unguarded, finds}
use Rattle.extension_laws.proofs.AddLemmas.{both, Past, Sorted, absent, called-as-itself, clear-into, apart-add}

-- what a line says of the two paths, by the tests of its steps
abbrev inside_of : List Step → Step → Plan → Bool
inside_of path t inside = elim path [ [] ↦ is_nothing inside | (u ∷ further) ↦ is_apart (beyond t.group unknown) inside (u ∷ further) ]

abbrev off_of : List Step → Step → Step → List Cell → Plan → Bool
off_of path s t cells inside = is_off unknown s.guards t cells inside ||
    elim path [ [] ↦ false | (u ∷ further) ↦ is_clear (beyond t.group unknown) inside (u ∷ further) ]

abbrev line_by : Bool → Bool → Bool → Bool → Bool → Bool → Bool → Bool → Bool → Bool → Bool
line_by same_s same_v called met none clear below apart inside_s off_and =
    elim same_s [
      | true ↦ met && elim same_v [ true ↦ none && (clear && below) | false ↦ apart && inside_s ]
      | false ↦ not same_v &&
          elim called [ true ↦ off_and | false ↦ off_and ]
    ]

finds-behind : (s : Step) (path : List Step) (t : Step) (cells : List Cell) (inside rest : Plan) → same_step s t ≡ false
    → finds (s ∷ path) (a_line t cells inside rest) ≡ true → finds (s ∷ path) rest ≡ true
finds-behind s path t cells inside rest e h =
    ap (λ b. elim b [ true ↦ elim path [ [] ↦ true | (u ∷ further) ↦ finds (u ∷ further) inside ] | false ↦ finds (s ∷ path) rest ]) (sym e) ∙ h

called-part : (v s : Step) (path q : List Step) → part (v ∷ path) (s ∷ q) ≡ true → same_step v s ≡ false → is_called v.name s.name ≡ false
called-part v s path q p n = go (is_called v.name s.name) refl p
  where
    go : (b : Bool) → is_called v.name s.name ≡ b → elim b [ true ↦ same_step v s && part path q | false ↦ true ] ≡ true → b ≡ false
    go false e k = refl
    go true e k = absurd (false≢true (sym n ∙ (both (same_step v s) (part path q) k).0))

part-inside : (v s : Step) (path q : List Step) → part (v ∷ path) (s ∷ q) ≡ true → same_step v s ≡ true → part path q ≡ true
part-inside v s path q p e =
    let same : v ≡ s = step-sound v s e in
    let c : is_called v.name s.name ≡ true = subst (λ (x : Step). is_called v.name x.name ≡ true) same (called-as-itself v.name) in
    (both (same_step v s) (part path q) (ap (λ b. elim b [ true ↦ same_step v s && part path q | false ↦ true ]) (sym c) ∙ p)).1

part-long : (path q : List Step) → part path q ≡ true → (u : Step) × ((further : List Step) × (path ≡ u ∷ further))
part-long [] q p = absurd (false≢true p)
part-long (u ∷ further) q p = (u, (further, refl))

-- the line, taken apart
abbrev twins_line : Step → List Step → Step → List Step → Step → List Cell → Plan → Plan → Bool → Bool → Bool
twins_line s path v other t cells inside rest a b = elim a [
  | true ↦ meets_all unknown s.guards t cells inside && elim b [
    | true ↦ is_none t.group && (is_clear unknown rest (s ∷ path) && are_twins inside path other)
    | false ↦ is_apart unknown rest (v ∷ other) && inside_of path t inside
  ]
  | false ↦ not b && elim (is_called s.name t.name) [
    | true ↦ off_of path s t cells inside && are_twins rest (s ∷ path) (v ∷ other)
    | false ↦ are_twins rest (s ∷ path) (v ∷ other)
  ]
]

unfold-line : (s : Step) (path : List Step) (v : Step) (other : List Step) (t : Step) (cells : List Cell) (inside rest : Plan) (a b : Bool) → same_step s t ≡ a
    → same_step v t ≡ b
    → are_twins (a_line t cells inside rest) (s ∷ path) (v ∷ other) ≡ twins_line s path v other t cells inside rest a b
unfold-line s path v other t cells inside rest a b e f = λ i. twins_line s path v other t cells inside rest (e i) (f i)

or-same : (s t : Step) → (same_step s t ≡ true) × (s ≡ t) → same_step s t ≡ true
or-same s t w = w.0

module _ (cell : Cell) (w : Step) (q : List Step) (free : are_unguarded (w ∷ q) ≡ true) (s : Step) (path : List Step) (v : Step) (other : List Step)
    (ps : part (s ∷ path) (w ∷ q) ≡ true) (pv : part (v ∷ other) (w ∷ q) ≡ true)
    (below : part path q ≡ true → part other q ≡ true → (inside : Plan) → Sorted inside → finds path inside ≡ true → finds other inside ≡ true →
    are_twins (add q cell inside) path other ≡ are_twins inside path other) where
  abbrev put : Plan → Plan
  put plan = add (w ∷ q) cell plan

  free-step : is_unguarded w.guards ≡ true
  free-step = (both (is_unguarded w.guards) (are_unguarded q) free).0

  -- the line of the added path: a guard-free one, with more inside
  met-free : (t : Step) (cells cells' : List Cell) (inside inside' : Plan) → s ≡ w
      → meets_all unknown s.guards t cells' inside' ≡ meets_all unknown s.guards t cells inside
  met-free t cells cells' inside inside' e =
      let f : is_unguarded s.guards ≡ true = ap (λ (x : Step). is_unguarded x.guards) e ∙ free-step in
      first-true (is_unguarded s.guards) _ _ f
    where
      first-true : (a b c : Bool) → a ≡ true → (a || b) ≡ (a || c)
      first-true true b c h = refl
      first-true false b c h = absurd (false≢true h)

  apart-inside : (t : Step) (inside : Plan) → Sorted inside → (u : Step) (further : List Step) → path ≡ u ∷ further → part path q ≡ true
      → finds path inside ≡ true → inside_of path t (add q cell inside) ≡ inside_of path t inside
  apart-inside t inside sorted u further e p f =
      let fine : is_apart (beyond t.group unknown) (add q cell inside) (u ∷ further) ≡ is_apart (beyond t.group unknown) inside (u ∷ further) =
      apart-add cell (u ∷ further) q (subst (λ x. part x q ≡ true) e p) (both (is_unguarded w.guards) (are_unguarded q) free).1
      (beyond t.group unknown) inside sorted (subst (λ x. finds x inside ≡ true) e f) in
      subst (λ x. inside_of x t (add q cell inside) ≡ inside_of x t inside) (sym e) fine

  finds-inside : (x : Step) (p : List Step) (t : Step) (cells : List Cell) (inside rest : Plan) (u : Step) (further : List Step) → p ≡ u ∷ further
      → same_step x t ≡ true → finds (x ∷ p) (a_line t cells inside rest) ≡ true → finds p inside ≡ true
  finds-inside x p t cells inside rest u further e same h =
      let g : finds (x ∷ u ∷ further) (a_line t cells inside rest) ≡ true = subst (λ y. finds (x ∷ y) (a_line t cells inside rest) ≡ true) e h in
      subst (λ y. finds y inside ≡ true) (sym e) (ap (λ b. elim b [ true ↦ finds (u ∷ further) inside | false ↦ finds (x ∷ u ∷ further) rest ]) (sym same) ∙ g)

  here-by : (t : Step) (cells : List Cell) (inside rest : Plan) (a b : Bool) → same_step s t ≡ a → same_step v t ≡ b → w ≡ t
      → Sorted (a_line t cells inside rest)
      → finds (s ∷ path) (a_line t cells inside rest) ≡ true → finds (v ∷ other) (a_line t cells inside rest) ≡ true
      → are_twins (a_line t (own_cells q cell cells) (add q cell inside) rest) (s ∷ path) (v ∷ other) ≡ are_twins (a_line t cells inside rest) (s ∷ path)
      (v ∷ other)
  here-by t cells inside rest true b e f is sorted fs fv =
      let sw : same_step s w ≡ true = subst (λ x. same_step s x ≡ true) (sym is) e in
      let p = part-inside s w path q ps sw in
      let l = part-long path q p in
      let fp = finds-inside s path t cells inside rest l.0 l.1.0 l.1.1 e fs in
      let met = met-free t cells (own_cells q cell cells) inside (add q cell inside) (step-sound s w sw) in
      unfold-line s path v other t (own_cells q cell cells) (add q cell inside) rest true b e f
      ∙ (both-cases b f met p fp (l.0, (l.1.0, l.1.1)) ∙ sym (unfold-line s path v other t cells inside rest true b e f))
    where
      both-cases : (b : Bool) → same_step v t ≡ b
          → meets_all unknown s.guards t (own_cells q cell cells) (add q cell inside) ≡ meets_all unknown s.guards t cells inside → part path q ≡ true
          → finds path inside ≡ true
          → (u : Step) × ((further : List Step) × (path ≡ u ∷ further))
          → twins_line s path v other t (own_cells q cell cells) (add q cell inside) rest true b ≡ twins_line s path v other t cells inside rest true b
      both-cases true f met p fp l =
          let vw : same_step v w ≡ true = subst (λ x. same_step v x ≡ true) (sym is) f in
          let o = part-inside v w other q pv vw in
          let m = part-long other q o in
          let fo = finds-inside v other t cells inside rest m.0 m.1.0 m.1.1 f fv in
          let deep = below p o inside sorted.1.0 fp fo in
          λ i. met i && (is_none t.group && (is_clear unknown rest (s ∷ path) && deep i))
      both-cases false f met p fp l =
          let deep = apart-inside t inside sorted.1.0 l.0 l.1.0 l.1.1 p fp in
          λ i. met i && (is_apart unknown rest (v ∷ other) && deep i)
  here-by t cells inside rest false b e f is sorted fs fv =
      let sw : same_step s w ≡ false = subst (λ x. same_step s x ≡ false) (sym is) e in
      let n : is_called s.name t.name ≡ false = subst (λ (x : Step). is_called s.name x.name ≡ false) is (called-part s w path q ps sw) in
      unfold-line s path v other t (own_cells q cell cells) (add q cell inside) rest false b e f
      ∙ ((λ i. not b && elim (n i) [
        | true ↦ off_of path s t (own_cells q cell cells) (add q cell inside) && are_twins rest (s ∷ path) (v ∷ other)
        | false ↦ are_twins rest (s ∷ path) (v ∷ other)
      ])
      ∙ (sym (λ i. not b && elim (n i) [
        | true ↦ off_of path s t cells inside && are_twins rest (s ∷ path) (v ∷ other)
        | false ↦ are_twins rest (s ∷ path) (v ∷ other)
      ])
      ∙ sym (unfold-line s path v other t cells inside rest false b e f)))

  -- a new line is neither's
  not-new : (x : Step) (p : List Step) (t : Step) (cells : List Cell) (inside rest : Plan) → w.number < t.number → Past t rest → same_step w t ≡ false
      → finds (x ∷ p) (a_line t cells inside rest) ≡ true → same_step x w ≡ false
  not-new x p t cells inside rest l past n h = go (same_step x w) refl
    where
      go : (b : Bool) → same_step x w ≡ b → b ≡ false
      go false e = refl
      go true e =
          let same : x ≡ w = step-sound x w e in
          let at : finds (w ∷ p) (a_line t cells inside rest) ≡ true = subst (λ y. finds (y ∷ p) (a_line t cells inside rest) ≡ true) same h in
          absurd (false≢true (sym (absent w t p rest l past) ∙ finds-behind w p t cells inside rest n at))

  new-by : (t : Step) (cells : List Cell) (inside rest : Plan) → same_step s w ≡ false → same_step v w ≡ false
      → are_twins (a_line w (own_cells q cell []) (add q cell nothing) (a_line t cells inside rest)) (s ∷ path) (v ∷ other) ≡ are_twins
      (a_line t cells inside rest) (s ∷ path) (v ∷ other)
  new-by t cells inside rest e f =
      unfold-line s path v other w (own_cells q cell []) (add q cell nothing) (a_line t cells inside rest) false false e f
      ∙ (λ i. elim ((called-part s w path q ps e) i) [
        | true ↦ off_of path s w (own_cells q cell []) (add q cell nothing) &&
            are_twins (a_line t cells inside rest) (s ∷ path) (v ∷ other)
        | false ↦ are_twins (a_line t cells inside rest) (s ∷ path) (v ∷ other)
      ])

  behind-by : (t : Step) (cells : List Cell) (inside rest : Plan) (a b : Bool) → same_step s t ≡ a → same_step v t ≡ b → same_step w t ≡ false
      → Sorted (a_line t cells inside rest)
      → finds (s ∷ path) (a_line t cells inside rest) ≡ true → finds (v ∷ other) (a_line t cells inside rest) ≡ true
      → (finds (s ∷ path) rest ≡ true → finds (v ∷ other) rest ≡ true → are_twins (put rest) (s ∷ path) (v ∷ other) ≡ are_twins rest (s ∷ path) (v ∷ other))
      → are_twins (a_line t cells inside (put rest)) (s ∷ path) (v ∷ other) ≡ are_twins (a_line t cells inside rest) (s ∷ path) (v ∷ other)
  behind-by t cells inside rest true true e f n sorted fs fv later =
      let sw : same_step s w ≡ false = not-both s t e n in
      let c = clear-into w (own_cells q cell) (add q cell) unknown s path (called-part s w path q ps sw) rest in
      unfold-line s path v other t cells inside (put rest) true true e f
      ∙ ((λ i. meets_all unknown s.guards t cells inside && (is_none t.group && (c i && are_twins inside path other))) ∙
      sym (unfold-line s path v other t cells inside rest true true e f))
    where
      not-both : (x t : Step) → same_step x t ≡ true → same_step w t ≡ false → same_step x w ≡ false
      not-both x t e n = go (same_step x w) refl
        where
          go : (b : Bool) → same_step x w ≡ b → b ≡ false
          go false k = refl
          go true k = absurd (false≢true (sym n ∙ subst (λ y. same_step y t ≡ true) (step-sound x w k) e))
  behind-by t cells inside rest true false e f n sorted fs fv later =
      let a = apart-add cell (v ∷ other) (w ∷ q) pv free unknown rest sorted.1.1 (finds-behind v other t cells inside rest f fv) in
      unfold-line s path v other t cells inside (put rest) true false e f
      ∙ ((λ i. meets_all unknown s.guards t cells inside && (a i && inside_of path t inside)) ∙
      sym (unfold-line s path v other t cells inside rest true false e f))
  behind-by t cells inside rest false true e f n sorted fs fv later =
      unfold-line s path v other t cells inside (put rest) false true e f ∙ sym (unfold-line s path v other t cells inside rest false true e f)
  behind-by t cells inside rest false false e f n sorted fs fv later =
      let r = later (finds-behind s path t cells inside rest e fs) (finds-behind v other t cells inside rest f fv) in
      unfold-line s path v other t cells inside (put rest) false false e f
      ∙ ((λ i. elim (is_called s.name t.name) [ true ↦ off_of path s t cells inside && r i | false ↦ r i ]) ∙
      sym (unfold-line s path v other t cells inside rest false false e f))

  line-by : (t : Step) (cells : List Cell) (inside rest : Plan) (a b : Bool) → same_step w t ≡ a → nat_lt w.number t.number ≡ b
      → Sorted (a_line t cells inside rest)
      → finds (s ∷ path) (a_line t cells inside rest) ≡ true → finds (v ∷ other) (a_line t cells inside rest) ≡ true
      → (finds (s ∷ path) rest ≡ true → finds (v ∷ other) rest ≡ true → are_twins (put rest) (s ∷ path) (v ∷ other) ≡ are_twins rest (s ∷ path) (v ∷ other))
      → are_twins (choose a (λ _. a_line t (own_cells q cell cells) (add q cell inside) rest)
      (λ _. choose b (λ _. a_line w (own_cells q cell []) (add q cell nothing) (a_line t cells inside rest)) (λ _. a_line t cells inside (put rest))))
      (s ∷ path) (v ∷ other)
      ≡ are_twins (a_line t cells inside rest) (s ∷ path) (v ∷ other)
  line-by t cells inside rest true b same less sorted fs fv later =
      here-by t cells inside rest (same_step s t) (same_step v t) refl refl (step-sound w t same) sorted fs fv
  line-by t cells inside rest false true same less sorted fs fv later =
      let l = ltb-true w.number t.number less in
      new-by t cells inside rest (not-new s path t cells inside rest l sorted.0 same fs) (not-new v other t cells inside rest l sorted.0 same fv)
  line-by t cells inside rest false false same less sorted fs fv later =
      behind-by t cells inside rest (same_step s t) (same_step v t) refl refl same sorted fs fv later

  pub twins-into : (plan : Plan) → Sorted plan → finds (s ∷ path) plan ≡ true → finds (v ∷ other) plan ≡ true
      → are_twins (put plan) (s ∷ path) (v ∷ other) ≡ are_twins plan (s ∷ path) (v ∷ other)
  twins-into nothing sorted fs fv = absurd (false≢true fs)
  twins-into (a_line t cells inside rest) sorted fs fv =
      line-by t cells inside rest (same_step w t) (nat_lt w.number t.number) refl refl sorted fs fv (λ a b. twins-into rest sorted.1.1 a b)

pub twins-add : (cell : Cell) (path other q : List Step) → part path q ≡ true → part other q ≡ true → are_unguarded q ≡ true → (plan : Plan) → Sorted plan
    → finds path plan ≡ true → finds other plan ≡ true
    → are_twins (add q cell plan) path other ≡ are_twins plan path other
twins-add cell [] other q p o free plan sorted fp fo = absurd (false≢true p)
twins-add cell (s ∷ path) [] q p o free plan sorted fp fo = absurd (false≢true o)
twins-add cell (s ∷ path) (v ∷ other) [] p o free plan sorted fp fo = absurd (false≢true p)
twins-add cell (s ∷ path) (v ∷ other) (w ∷ q) p o free plan sorted fp fo =
    twins-into cell w q free s path v other p o (λ a b inside x y z. twins-add cell path other q a b
    (both (is_unguarded w.guards) (are_unguarded q) free).1 inside x y z) plan sorted fp fo
