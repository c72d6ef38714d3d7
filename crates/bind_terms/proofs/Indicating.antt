-- The first wrong word is the same whether the picks of all rows without a term are judged in the order of the rows, or those of
-- the indicators in the order of the document.
use Rattle.std.proofs.Common.{◌≡◌, ℕ, zero, suc, ◌<◌, Bool, true, false, not, ◌&&◌, List, [], ◌∷◌, ◌++◌, length, map, filter, flat_map, All, Option, Some, inl}
use Rattle.std.proofs.Common.{inr, refl, sym, ap, ◌∙◌, subst, arith}
use Rattle.std.specs.Prelude.{◌==◌, if◌then◌else◌}
use Rattle.std.proofs.lemmas.Bool.{false≢true}
use Rattle.std.proofs.lemmas.Bool.Decides.{nat_tests}
use Rattle.std.proofs.lemmas.Option.{same_Some}
use Rattle.std.proofs.lemmas.List.Elements.{All-head, All-tail}
use Rattle.std.proofs.lemmas.List.Concat.{flat_map-append}
use Rattle.inv_base.specs.Tree.{Node}
use Rattle.term_table.specs.declared.terms.Term.{Term}
use Rattle.inv_terms.specs.declared.violations.Name.TheVariants as names
use Rattle.inv_terms.specs.Values.{trimmed}
use Rattle.bind_rows.specs.declared.rows.Row.{Row}
use Rattle.bind_rows.specs.declared.rows.Check.{Check}
use Rattle.bind_rows.specs.declared.rows.Check.TheVariants as checks
use Rattle.bind_meaning.specs.declared.fault.BindKind.TheVariants as kinds
use Rattle.bind_meaning.specs.Elements.{string_at, is_one_of}
use Rattle.bind_meaning.specs.Picks.{Pick, Numbered, numbered, nodes_picked, picks_of_way, leaves_of, ways, last_of, has_any_term}
use Rattle.bind_meaning.specs.Judging.{Found, found, place_at, wrong_word, words}
use Rattle.bind_meaning.specs.Terms.{in_order, constant_picks}
use Rattle.node_arena.specs.Moves.{tree_node}
use Rattle.node_arena.proofs.FoundLemmas.{AreInOrder}
use Rattle.bind_terms.specs.Faults.{least_of}
use Rattle.bind_terms.specs.Reading.{is_indicator, has_indicator, indicator_picks}
use Rattle.bind_terms.specs.Steps.{row_numbered}
use Rattle.bind_terms.proofs.Order.{Among, among-flat_map, flat_map-among, among-filter, filter-among, AreOne, same-least}
use Rattle.bind_terms.proofs.Sound.{IsSound, rows-sound, unordered-sound}

-- ---- what a pick says by its check

abbrev word_by : List Node → Pick → Check → List Found
word_by nodes pick check = elim check [
  | (checks.Indicator term) ↦ elim (is_one_of words
      (trimmed (string_at nodes pick.node))) [ true ↦ [] | false ↦ found (place_at pick kinds.BadValue) kinds.BadValue (names.Term term) pick.node ∷ [] ]
  | _ ↦ []
]

no-word : (nodes : List Node) (pick : Pick) (check : Check) → pick.row.check ≡ check → is_indicator check ≡ false → wrong_word nodes pick ≡ []
no-word nodes pick checks.Nothing e h = ap (word_by nodes pick) e
no-word nodes pick checks.Scheme e h = ap (word_by nodes pick) e
no-word nodes pick checks.Format e h = ap (word_by nodes pick) e
no-word nodes pick (checks.Indicator term) e h = absurd (false≢true (sym h))

-- the fault is that of the pick
record IsWord (x : Found) (pick : Pick) : Type 0 where
  term : Term
  check : pick.row.check ≡ checks.Indicator term
  is : found (place_at pick kinds.BadValue) kinds.BadValue (names.Term term) pick.node ≡ x

word-or : (b : Bool) (x one : Found) → Among x (elim b [ true ↦ [] | false ↦ one ∷ [] ]) → one ≡ x
word-or true x one h = absurd h
word-or false x one (inl e) = e
word-or false x one (inr h) = absurd h

word-is : (nodes : List Node) (pick : Pick) (x : Found) (check : Check) → pick.row.check ≡ check → Among x (word_by nodes pick check) → IsWord x pick
word-is nodes pick x checks.Nothing e h = absurd h
word-is nodes pick x checks.Scheme e h = absurd h
word-is nodes pick x checks.Format e h = absurd h
word-is nodes pick x (checks.Indicator term) e h = record { term = term; check = e; is = word-or (is_one_of words (trimmed (string_at nodes pick.node))) x _ h }

-- ---- rows that check no indicator

nothing-in : {X : Type 0} (nodes : List Node) (f : X → List Pick) → ((x : X) → flat_map (wrong_word nodes) (f x) ≡ []) → (xs : List X)
    → flat_map (wrong_word nodes) (flat_map f xs) ≡ []
nothing-in nodes f h [] = refl
nothing-in nodes f h (x ∷ xs) = flat_map-append (wrong_word nodes) (f x) (flat_map f xs)
    ∙ (ap (λ l. l ++ flat_map (wrong_word nodes) (flat_map f xs)) (h x) ∙ nothing-in nodes f h xs)

way-nothing : (nodes : List Node) (k : ℕ) (row : Row) (way ns : List ℕ) → is_indicator row.check ≡ false
    → flat_map (wrong_word nodes) (map (λ n. record { place = k; row = row; elements = way; node = n }) ns) ≡ []
way-nothing nodes k row way [] h = refl
way-nothing nodes k row way (n ∷ ns) h =
    ap (λ l. l ++ flat_map (wrong_word nodes) (map (λ m. record { place = k; row = row; elements = way; node = m }) ns))
    (no-word nodes (record { place = k; row = row; elements = way; node = n }) row.check refl h) ∙ way-nothing nodes k row way ns h

row-nothing : (nodes : List Node) (k : ℕ) (row : Row) → is_indicator row.check ≡ false → flat_map (wrong_word nodes) (nodes_picked nodes k row) ≡ []
row-nothing nodes k row h = nothing-in nodes (picks_of_way nodes k row) (λ way. way-nothing nodes k row way (leaves_of nodes row.leaf (last_of way)) h)
    (ways nodes row.path 0)

abbrev picks_in : List Node → Numbered → List Pick
picks_in nodes r = nodes_picked nodes r.place r.row

rows-step : (b c : Bool) (nodes : List Node) (r : Numbered) (xs ys : List Numbered) → (c ≡ false → flat_map (wrong_word nodes) (picks_in nodes r) ≡ [])
    → flat_map (wrong_word nodes) (flat_map (picks_in nodes) xs) ≡ flat_map (wrong_word nodes) (flat_map (picks_in nodes) ys)
    → flat_map (wrong_word nodes) (flat_map (picks_in nodes) (if b && c then r ∷ xs else xs))
    ≡ flat_map (wrong_word nodes) (flat_map (picks_in nodes) (if b then r ∷ ys else ys))
rows-step false c nodes r xs ys none h = h
rows-step true true nodes r xs ys none h =
    flat_map-append (wrong_word nodes) (picks_in nodes r) (flat_map (picks_in nodes) xs)
    ∙ (ap (λ l. flat_map (wrong_word nodes) (picks_in nodes r) ++ l) h
    ∙ sym (flat_map-append (wrong_word nodes) (picks_in nodes r) (flat_map (picks_in nodes) ys)))
rows-step true false nodes r xs ys none h =
    h ∙ sym (flat_map-append (wrong_word nodes) (picks_in nodes r) (flat_map (picks_in nodes) ys)
    ∙ ap (λ l. l ++ flat_map (wrong_word nodes) (flat_map (picks_in nodes) ys)) (none refl))

pub rows-words : (nodes : List Node) (rows : List Numbered)
    → flat_map (wrong_word nodes) (flat_map (picks_in nodes) (filter (λ (r : Numbered). has_indicator r.row) rows))
    ≡ flat_map (wrong_word nodes) (flat_map (picks_in nodes) (filter (λ (r : Numbered). not (has_any_term r.row)) rows))
rows-words nodes [] = refl
rows-words nodes (r ∷ rows) =
    rows-step (not (has_any_term r.row)) (is_indicator r.row.check) nodes r (filter (λ (r : Numbered). has_indicator r.row) rows)
    (filter (λ (r : Numbered). not (has_any_term r.row)) rows)
    (row-nothing nodes r.place r.row) (rows-words nodes rows)

-- ---- in document order

among-all : {X : Type 0} (P : X → Type 0) (x : X) (xs : List X) → All P xs → Among x xs → P x
among-all P x [] h k = absurd k
among-all P x (y ∷ xs) h (inl e) = subst P e (All-head P y xs h)
among-all P x (y ∷ xs) h (inr k) = among-all P x xs (All-tail P y xs h) k

among-at : (nodes : List Node) (n : ℕ) → n < length nodes → Among (tree_node nodes n) nodes
among-at [] n h = absurd (omega arith)
among-at (node ∷ nodes) zero h = inl refl
among-at (node ∷ nodes) (suc n) h = inr (among-at nodes n (omega arith))

same-number : (n m : ℕ) → m ≡ n → (n == m) ≡ true
same-number n m e = grind (arith, nat_tests)

module _ (nodes : List Node) (order : AreInOrder nodes) (some : 0 < length nodes) (rows : List Row) where
  picks : List Pick
  picks = indicator_picks nodes rows

  leaves : (x : Found) → Among x (flat_map (wrong_word nodes) (in_order nodes picks)) → Among x (flat_map (wrong_word nodes) picks)
  leaves x h =
      let f = flat_map-among (wrong_word nodes) x (in_order nodes picks) h in
      let g = flat_map-among (λ (node : Node). filter (λ (pick : Pick). pick.node == node.number) picks) f.source nodes f.among in
      among-flat_map (wrong_word nodes) f.source x picks (filter-among (λ (pick : Pick). pick.node == g.source.number) f.source picks g.piece) f.piece

  enters : (x : Found) → Among x (flat_map (wrong_word nodes) picks) → Among x (flat_map (wrong_word nodes) (in_order nodes picks))
  unfolding picks
  enters x h =
      let f = flat_map-among (wrong_word nodes) x picks h in
      let sound = among-all (IsSound nodes order some rows) f.source picks (unordered-sound nodes order some rows has_indicator) f.among in
      let n = f.source.node in
      let here : Among f.source (in_order nodes picks) =
      among-flat_map (λ (node : Node). filter (λ (pick : Pick). pick.node == node.number) picks) (tree_node nodes n) f.source nodes
      (among-at nodes n sound.node)
      (among-filter (λ (pick : Pick). pick.node == (tree_node nodes n).number) f.source picks
      (same-number n (tree_node nodes n).number (order n sound.node)) f.among) in
      among-flat_map (wrong_word nodes) f.source x (in_order nodes picks) here f.piece

  one-word : (x y : Found) (p q : Pick) → IsWord x p → IsWord y q → row_numbered rows p.place ≡ Some p.row → row_numbered rows q.place ≡ Some q.row
      → x.place ≡ y.place → x ≡ y
  one-word x y p q a b e f same =
      let places : place_at p kinds.BadValue ≡ place_at q kinds.BadValue = ap (λ (z : Found). z.place) a.is ∙ (same ∙ sym (ap (λ (z : Found). z.place) b.is)) in
      let node : p.node ≡ q.node = cc in
      let place : p.place ≡ q.place = cc in
      let row : p.row ≡ q.row = same_Some _ _ (sym e ∙ (ap (row_numbered rows) place ∙ f)) in
      let check : checks.Indicator a.term ≡ checks.Indicator b.term = sym a.check ∙ (ap (λ (r : Row). r.check) row ∙ b.check) in
      let term : a.term ≡ b.term = cc in
      sym a.is ∙ ((λ i. found (places i) kinds.BadValue (names.Term (term i)) (node i)) ∙ b.is)

  one-each : AreOne (flat_map (wrong_word nodes) (in_order nodes picks))
  unfolding picks
  one-each x y h k same =
      let f = flat_map-among (wrong_word nodes) x (in_order nodes picks) h in
      let g = flat_map-among (wrong_word nodes) y (in_order nodes picks) k in
      let all = rows-sound nodes order some rows has_indicator in
      let a = among-all (IsSound nodes order some rows) f.source (in_order nodes picks) all f.among in
      let b = among-all (IsSound nodes order some rows) g.source (in_order nodes picks) all g.among in
      one-word x y f.source g.source (word-is nodes f.source x f.source.row.check refl f.piece)
      (word-is nodes g.source y g.source.row.check refl g.piece) a.of_row b.of_row same

  abbrev pub in_document_order : List Found
  in_document_order = flat_map (wrong_word nodes) (in_order nodes (indicator_picks nodes rows))

  abbrev pub in_row_order : List Found
  in_row_order = flat_map (wrong_word nodes) (indicator_picks nodes rows)

  pub words-leave : (x : Found) → Among x in_document_order → Among x in_row_order
  unfolding picks
  words-leave = leaves

  pub words-enter : (x : Found) → Among x in_row_order → Among x in_document_order
  unfolding picks
  words-enter = enters

  pub words-are-one : AreOne in_document_order
  unfolding picks
  words-are-one = one-each

  pub words-same : (o : Option Found)
      → least_of o (flat_map (wrong_word nodes) (in_order nodes (indicator_picks nodes rows)))
      ≡ least_of o (flat_map (wrong_word nodes) (constant_picks nodes rows))
  unfolding picks
  words-same o =
      same-least o (flat_map (wrong_word nodes) (in_order nodes picks)) (flat_map (wrong_word nodes) picks) leaves enters one-each
      ∙ ap (least_of o) (rows-words nodes (numbered 1 rows))
