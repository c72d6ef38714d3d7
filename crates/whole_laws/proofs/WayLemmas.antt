-- What is at the end of a way along a row's path is said by the row.
use Rattle.std.proofs.Common.{◌≡◌, ℕ, ◌+◌, Bool, true, false, not, ◌&&◌, ◌||◌, List, [], ◌∷◌, ◌++◌, map, filter, inl, inr, refl, sym, ap, ◌∙◌, subst}
use Rattle.std.specs.Prelude.{◌==◌}
use Rattle.std.proofs.lemmas.Bool.{false≢true}
use Rattle.inv_base.specs.Tree.{Forest, an_element, Attribute, Node, is_among}
use Rattle.node_arena.specs.Moves.{is_child}
use Rattle.inv_terms.specs.Values.{is_blank}
use Rattle.bind_rows.specs.declared.rows.Step.{Step}
use Rattle.bind_rows.specs.declared.rows.Row.{Row}
use Rattle.bind_meaning.specs.Currencies.{currency_id}
use Rattle.bind_meaning.specs.Names.{has_element_name}
use Rattle.bind_meaning.specs.Elements.{both, number, children_named, attributes_named, leaves_at, are_met, met}
use Rattle.bind_meaning.specs.Losses.{own_text, is_of_the_table, is_unread}
use Rattle.bind_meaning.specs.Picks.{Pick, ways, last_of, leaves_of, picks_of_way, nodes_picked, has_any_term, Numbered, numbered, rows_where}
use Rattle.bind_meaning.specs.Said.{term_picks, is_picked, reached, says_constant, scheme_rows, is_constant, is_of_amount, is_currency, is_format, is_said}
use Rattle.bind_meaning.specs.Trees.{name_of}
use Rattle.binding_laws.proofs.TreeLemmas.{same-is, element_node, Lies}
use Rattle.binding_laws.proofs.NodeLemmas.{and-false}
use Rattle.binding_laws.proofs.RowLemmas.{called-self}
use Rattle.binding_laws.proofs.ReachLemmas.{Among, among-front, among-back, among-flat_map, among-filter, among-map, any-among}

-- ---- ways

-- The numbers are those of a way along the path.
abbrev pub IsWay : List Node → List Step → ℕ → List ℕ → Type 0
IsWay nodes [] p [] = Unit {0}
IsWay nodes [] p (n ∷ way) = ⊥
IsWay nodes (s ∷ path) p [] = ⊥
IsWay nodes (s ∷ path) p (n ∷ way) = Among n (met nodes s p) × IsWay nodes path n way

-- the end of a way that begins at a node
abbrev pub ending : ℕ → List ℕ → ℕ
ending p [] = p
ending p (n ∷ way) = ending n way

pub way-more : (nodes : List Node) (path : List Step) (p : ℕ) (way : List ℕ) (t : Step) (n : ℕ) → IsWay nodes path p way
    → Among n (met nodes t (ending p way)) → IsWay nodes (path ++ (t ∷ [])) p (way ++ (n ∷ []))
way-more nodes [] p [] t n h a = (a, tt)
way-more nodes [] p (m ∷ way) t n h a = absurd h
way-more nodes (s ∷ path) p [] t n h a = absurd h
way-more nodes (s ∷ path) p (m ∷ way) t n h a = (h.0, way-more nodes path m way t n h.1 a)

way-among : (nodes : List Node) (path : List Step) (p : ℕ) (way : List ℕ) → IsWay nodes path p way → Among way (ways nodes path p)
way-among nodes [] p [] h = inl refl
way-among nodes [] p (n ∷ way) h = absurd h
way-among nodes (s ∷ path) p [] h = absurd h
way-among nodes (s ∷ path) p (n ∷ way) h =
    among-flat_map (λ m. map (λ w. m ∷ w) (ways nodes path m)) n (n ∷ way) (met nodes s p) h.0
    (among-map (λ w. n ∷ w) way (ways nodes path n) (way-among nodes path n way h.1))

pub ending-more : (p : ℕ) (way : List ℕ) (n : ℕ) → ending p (way ++ (n ∷ [])) ≡ n
ending-more p [] n = refl
ending-more p (m ∷ way) n = ending-more m way n

pub last-more : (way : List ℕ) (n : ℕ) → last_of (way ++ (n ∷ [])) ≡ n
last-more [] n = refl
last-more (m ∷ []) n = refl
last-more (m ∷ (k ∷ way)) n = last-more (k ∷ way) n

-- an element of the step's name that meets its guards is where the step leads to
pub step-leads : (nodes : List Node) (p : ℕ) (above : List ℕ) (n : ℕ) (t : Step) (attrs : List Attribute) (inside rest : Forest)
    → Lies nodes (p ∷ above) n (an_element (name_of t.name) attrs inside rest) → are_met nodes t.guards n ≡ true → Among n (met nodes t p)
step-leads nodes p above n t attrs inside rest h e =
    let x : Node = element_node (p ∷ above) n (name_of t.name) in
    among-filter (are_met nodes t.guards) n (children_named nodes t.name p) e
    (among-map number x (filter (both (is_child p) (has_element_name t.name)) nodes)
    (among-filter (both (is_child p) (has_element_name t.name)) x nodes
    (ap (λ b. elim (b && true) [ true ↦ has_element_name t.name x | false ↦ false ]) (same-is p) ∙ called-self t.name)
    (subst (Among x) (sym h.is) (among-back x h.front _ (inl refl)))))

-- ---- what a row picks, and reaches

pub is-among : (x : ℕ) (xs : List ℕ) → Among x xs → is_among x xs ≡ true
is-among x [] a = absurd a
is-among x (y ∷ xs) (inl e) = ap (λ b. b || is_among x xs) (ap (λ m. x == m) e ∙ same-is x)
is-among x (y ∷ xs) (inr a) = ap (λ b. x == y || b) (is-among x xs a) ∙ or-true (x == y)
  where
    or-true : (b : Bool) → (b || true) ≡ true
    or-true true = refl
    or-true false = refl

record HasNumber (k : ℕ) (rows : List Row) (row : Row) : Type 0 where
  found : Numbered
  among : Among found (numbered k rows)
  is : found.row ≡ row

has-number : (k : ℕ) (rows : List Row) (row : Row) → Among row rows → HasNumber k rows row
has-number k [] row a = absurd a
has-number k (r ∷ rows) row (inl e) = record { found = record { place = k; row = r }; among = inl refl; is = e }
has-number k (r ∷ rows) row (inr a) = let w = has-number (k + 1) rows row a in record { found = w.found; among = inr w.among; is = w.is }

-- The row picks the node.
pub record Picks (nodes : List Node) (rows : List Row) (row : Row) (x : ℕ) : Type 0 where
  pub pick : Pick
  pub among : Among pick (term_picks nodes rows)
  pub row_is : pick.row ≡ row
  pub node_is : pick.node ≡ x

pub row-picks : (nodes : List Node) (rows : List Row) (row : Row) (way : List ℕ) (n x : ℕ) → Among row rows → has_any_term row ≡ true
    → IsWay nodes row.path 0 way → last_of way ≡ n → Among x (leaves_of nodes row.leaf n) → Picks nodes rows row x
row-picks nodes rows row way n x a term h e k =
    let w = has-number 1 rows row a in
    let r : Numbered = w.found in
    let own : IsWay nodes r.row.path 0 way = subst (λ (y : Row). IsWay nodes y.path 0 way) (sym w.is) h in
    let leaf : Among x (leaves_of nodes r.row.leaf (last_of way)) =
    subst (λ (y : Row). Among x (leaves_of nodes y.leaf (last_of way))) (sym w.is) (subst (λ m. Among x (leaves_of nodes row.leaf m)) (sym e) k) in
    let pick : Pick = record { place = r.place; row = r.row; elements = way; node = x } in
    record {
      pick = pick;
      among =
          among-flat_map (λ (y : Numbered). nodes_picked nodes y.place y.row) r pick (rows_where has_any_term rows)
          (among-filter (λ (y : Numbered). has_any_term y.row) r (numbered 1 rows) (ap has_any_term w.is ∙ term) w.among)
          (among-flat_map (picks_of_way nodes r.place r.row) way pick (ways nodes r.row.path 0) (way-among nodes r.row.path 0 way own)
          (among-map (λ m. record { place = r.place; row = r.row; elements = way; node = m }) x (leaves_of nodes r.row.leaf (last_of way)) leaf));
      row_is = w.is;
      node_is = refl;
    }

pub row-reaches : (nodes : List Node) (row : Row) (way : List ℕ) (n x : ℕ) → IsWay nodes row.path 0 way → last_of way ≡ n
    → Among x (leaves_at nodes row.leaf n) → Among x (reached nodes row)
row-reaches nodes row way n x h e k =
    among-flat_map (λ w. leaves_at nodes row.leaf (last_of w)) way x (ways nodes row.path 0) (way-among nodes row.path 0 way h)
    (subst (λ m. Among x (leaves_at nodes row.leaf m)) (sym e) k)

-- ---- what is said isn't unread

or-second : (a b c : Bool) → b ≡ true → (a || (b || c)) ≡ true
or-second true b c e = refl
or-second false true c e = refl
or-second false false c e = absurd (false≢true e)

or-third : (a b c d : Bool) → c ≡ true → (a || (b || (c || d))) ≡ true
or-third true b c d e = refl
or-third false true c d e = refl
or-third false false true d e = refl
or-third false false false d e = absurd (false≢true e)

pub said-picked : (nodes : List Node) (rows : List Row) (row : Row) (n : ℕ) → Picks nodes rows row n → is_said nodes rows n ≡ true
unfolding is_said
said-picked nodes rows row n p =
    ap (λ b. b || (is_constant nodes rows n || (is_currency nodes (term_picks nodes rows) n || is_format nodes (term_picks nodes rows) n)))
    (any-among (λ (pick : Pick). pick.node == n) p.pick (term_picks nodes rows) (ap (λ m. m == n) p.node_is ∙ same-is n) p.among)

pub said-constant : (nodes : List Node) (rows : List Row) (row : Row) (n : ℕ) → Among row rows → says_constant nodes n row ≡ true
    → is_said nodes rows n ≡ true
unfolding is_said
said-constant nodes rows row n a h =
    or-second (is_picked (term_picks nodes rows) n) (is_constant nodes rows n)
    (is_currency nodes (term_picks nodes rows) n || is_format nodes (term_picks nodes rows) n)
    (any-among (says_constant nodes n) row (rows ++ scheme_rows rows) h (among-front row rows (scheme_rows rows) a))

pub said-currency : (nodes : List Node) (rows : List Row) (row : Row) (m n : ℕ) → Picks nodes rows row n → is_of_amount row ≡ true
    → Among m (attributes_named nodes currency_id n) → is_said nodes rows m ≡ true
unfolding is_said
said-currency nodes rows row m n p amount a =
    or-third (is_picked (term_picks nodes rows) m) (is_constant nodes rows m) (is_currency nodes (term_picks nodes rows) m)
    (is_format nodes (term_picks nodes rows) m)
    (any-among (λ (pick : Pick). is_of_amount pick.row && is_among m (attributes_named nodes currency_id pick.node)) p.pick (term_picks nodes rows)
    ((λ i. is_of_amount (p.row_is i) && is_among m (attributes_named nodes currency_id (p.node_is i)))
    ∙ (ap (λ b. b && is_among m (attributes_named nodes currency_id n)) amount ∙ is-among m (attributes_named nodes currency_id n) a)) p.among)

-- A node is read where its own text is blank, or it is said.
abbrev pub IsRead : List Node → List Row → Node → Type 0
IsRead nodes rows node = is_unread nodes rows node ≡ false

pub blank-read : (nodes : List Node) (rows : List Row) (node : Node) → is_blank (own_text nodes node) ≡ true → IsRead nodes rows node
blank-read nodes rows node h =
    ap (λ b. is_of_the_table nodes rows node && (not b && not (is_said nodes rows node.number))) h ∙ and-false (is_of_the_table nodes rows node)

pub said-read : (nodes : List Node) (rows : List Row) (node : Node) → is_said nodes rows node.number ≡ true → IsRead nodes rows node
said-read nodes rows node h =
    ap (λ b. is_of_the_table nodes rows node && (not (is_blank (own_text nodes node)) && not b)) h
    ∙ (ap (λ b. is_of_the_table nodes rows node && b) (and-false (not (is_blank (own_text nodes node)))) ∙ and-false (is_of_the_table nodes rows node))
