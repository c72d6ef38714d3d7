-- What a well formed table says of each of its rows, and of each pick of a row.
use Rattle.std.proofs.Common.{◌≡◌, ℕ, suc, ◌+◌, Bool, true, not, List, [], ◌∷◌, length, map, filter, refl, ap}
use Rattle.std.specs.Prelude.{◌==◌}
use Rattle.std.specs.List.{AllByRecursion}
use Rattle.inv_base.specs.Tree.{Node}
use Rattle.bind_rows.specs.declared.rows.Row.{Row}
use Rattle.bind_rows.specs.declared.rows.Step.{Step}
use Rattle.bind_meaning.specs.Elements.{met}
use Rattle.bind_meaning.specs.Picks.{Pick, ways, last_of, leaves_of, picks_of_way, nodes_picked, has_any_term, Numbered, numbered, rows_where, all_picked}
use Rattle.bind_meaning.specs.Picks.{is_placeholder, without_placeholders}
use Rattle.bind_meaning.specs.Currencies.{Currencies, is_in_its_currency, in_their_currencies}
use Rattle.bind_meaning.specs.Terms.{term_picks}
use Rattle.reading_laws.proofs.ListLemmas.{each-map, each-flat, each-weaker, each-filter, each-passes, each-both, each-any}

-- ---- picks

-- the pick has a row of which that holds, with a term, and as many elements as its row has steps
pub record IsPickOf (R : Row → Type 0) (pick : Pick) : Type 0 where
  pub row : R pick.row
  pub term : has_any_term pick.row ≡ true
  pub long : length pick.elements ≡ length pick.row.path

module _ (nodes : List Node) where
  ways-long : (path : List Step) (n : ℕ) → AllByRecursion (λ (way : List ℕ). length way ≡ length path) (ways nodes path n)
  ways-long [] n = (refl, tt)
  ways-long (step ∷ path) n =
      each-flat (λ (way : List ℕ). length way ≡ length (step ∷ path)) (λ m. Unit {0}) (λ m. map (λ way. m ∷ way) (ways nodes path m))
      (λ m u. each-map (λ (way : List ℕ). length way ≡ length (step ∷ path)) (λ way. m ∷ way) (ways nodes path m)
      (each-weaker (λ (way : List ℕ). length way ≡ length path) (λ way. length (m ∷ way) ≡ length (step ∷ path)) (λ way h. ap suc h) (ways nodes path m)
      (ways-long path m)))
      (met nodes step n) (each-any (λ m. Unit {0}) (λ m. tt) (met nodes step n))

  module _ (R : Row → Type 0) where
    row-picks : (k : ℕ) (row : Row) → R row → has_any_term row ≡ true → AllByRecursion (IsPickOf R) (nodes_picked nodes k row)
    row-picks k row h term =
        each-flat (IsPickOf R) (λ (way : List ℕ). length way ≡ length row.path) (picks_of_way nodes k row)
        (λ way l. each-map (IsPickOf R) (λ n. record { place = k; row = row; elements = way; node = n }) (leaves_of nodes row.leaf (last_of way))
        (each-any (λ n. IsPickOf R (record { place = k; row = row; elements = way; node = n })) (λ n. record { row = h; term = term; long = l })
        (leaves_of nodes row.leaf (last_of way))))
        (ways nodes row.path 0) (ways-long row.path 0)

    numbered-rows : (k : ℕ) (rows : List Row) → AllByRecursion R rows → AllByRecursion (λ (r : Numbered). R r.row) (numbered k rows)
    numbered-rows k [] h = tt
    numbered-rows k (row ∷ rows) h = (h.0, numbered-rows (k + 1) rows h.1)

    pub picks-of : (rows : List Row) → AllByRecursion R rows → (c : Currencies) → AllByRecursion (IsPickOf R) (term_picks nodes c rows)
    picks-of rows h c =
        let termed : Numbered → Bool = λ (r : Numbered). has_any_term r.row in
        let all = all_picked nodes (rows_where has_any_term rows) in
        let each : AllByRecursion (IsPickOf R) all =
        each-flat (IsPickOf R) (λ (r : Numbered). R r.row × (has_any_term r.row ≡ true)) (λ (r : Numbered). nodes_picked nodes r.place r.row)
        (λ r w. row-picks r.place r.row w.0 w.1) (filter termed (numbered 1 rows))
        (each-both (λ (r : Numbered). R r.row) (λ (r : Numbered). has_any_term r.row ≡ true) (filter termed (numbered 1 rows))
        (each-filter (λ (r : Numbered). R r.row) termed (numbered 1 rows) (numbered-rows 1 rows h)) (each-passes termed (numbered 1 rows))) in
        let kept : AllByRecursion (IsPickOf R) (in_their_currencies nodes c (without_placeholders nodes all)) =
        each-filter (IsPickOf R) (is_in_its_currency nodes c) (without_placeholders nodes all)
        (each-filter (IsPickOf R) (λ pick. not (is_placeholder nodes all pick)) all each) in
        each-flat (IsPickOf R) (λ (node : Node). Unit {0})
        (λ (node : Node). filter (λ (pick : Pick). pick.node == node.number) (in_their_currencies nodes c (without_placeholders nodes all)))
        (λ node u. each-filter (IsPickOf R) (λ (pick : Pick). pick.node == node.number) (in_their_currencies nodes c (without_placeholders nodes all)) kept)
        nodes (each-any (λ (node : Node). Unit {0}) (λ node. tt) nodes)
