-- Where nothing is lost, each node of the table that has a text is said, and what is said by a row with a term is told.
use Rattle.std.proofs.Common.{◌≡◌, ℕ, suc, Bool, true, false, not, ◌&&◌, ◌||◌, List, [], ◌∷◌, filter, map, length, Option, Some, None, is_some}
use Rattle.std.proofs.Common.{inl, inr, Ok}
use Rattle.std.proofs.Common.{All, refl, ap, sym, ◌∙◌, subst, arith}
use Rattle.std.specs.Prelude.{◌==◌, if◌then◌else◌}
use Rattle.std.specs.List.{list_all, AllByRecursion}
use Rattle.std.proofs.lemmas.Bool.{false≢true}
use Rattle.inv_base.specs.Tree.{Node}
use Rattle.code_lists.specs.CodeFiles.{Lists}
use Rattle.term_table.specs.declared.terms.Term.{Term}
use Rattle.inv_terms.specs.declared.entries.Entry.{Entry}
use Rattle.inv_terms.specs.Values.{is_blank}
use Rattle.bind_rows.specs.declared.rows.Form.{Form}
use Rattle.bind_rows.specs.declared.rows.Form.TheVariants as forms
use Rattle.bind_rows.specs.declared.rows.Row.{Row}
use Rattle.bind_meaning.specs.Elements.{string_at}
use Rattle.bind_meaning.specs.Currencies.{Currencies, currencies, in_their_currencies, is_in_its_currency}
use Rattle.bind_meaning.specs.Picks.{Pick, Numbered, has_any_term, is_placeholder, leaves_of, last_of, nodes_picked, numbered, picks_of_way, rows_where}
use Rattle.bind_meaning.specs.Picks.{term_in}
use Rattle.bind_meaning.specs.Picks.{ways, without_placeholders}
use Rattle.bind_meaning.specs.Seats.{Placed, placed}
use Rattle.bind_meaning.specs.Judging.{Told, told_by}
use Rattle.bind_meaning.specs.Values.{ParsedValue, coded, form_for, is_subject_character, note_of, parsed_in, plain_note}
use Rattle.bind_meaning.specs.Terms.{Read, in_order, is_passed_over, place_all, terms_of}
use Rattle.bind_meaning.specs.Said.{is_constant, is_currency, is_format, is_picked, is_said, term_picks}
use Rattle.bind_meaning.specs.Losses.{is_lost, is_of_the_table, is_unread, lost_nodes, own_text}
use Rattle.reading_laws.proofs.ListLemmas.{and-true, each-any, each-flat, each-map, each-passes, neither, or-left, or-right, all-of-each}
use Rattle.binding_laws.proofs.ReachLemmas.{Among, among-filter, among-flat_map, among-map, any-among, any-is}
use Rattle.kept_laws.specs.Kept.{is_entered, is_entered_at, is_kept, is_kept_value, is_left, is_left_at, told_of}
use Rattle.kept_laws.proofs.ToldLemmas.{read-without}

-- ---- lists

at-among : {X : Type 0} (P : X → Type 0) (x : X) (xs : List X) → AllByRecursion P xs → Among x xs → P x
at-among P x [] all m = absurd m
at-among P x (y ∷ xs) all (inl e) = subst P e all.0
at-among P x (y ∷ xs) all (inr m) = at-among P x xs all.1 m

each-of-among : {X : Type 0} (P : X → Type 0) (xs : List X) → ((x : X) → Among x xs → P x) → AllByRecursion P xs
each-of-among P [] f = tt
each-of-among P (x ∷ xs) f = (f x (inl refl), each-of-among P xs (λ y m. f y (inr m)))

none-mapped : {X Y : Type 0} (f : X → Y) (p : X → Bool) (xs : List X) → map f (filter p xs) ≡ [] → AllByRecursion (λ x. p x ≡ false) xs
none-mapped f p [] h = tt
none-mapped {X = X} {Y = Y} f p (x ∷ xs) h = go (p x) refl h (none-mapped f p xs)
  where
    go : (b : Bool) → p x ≡ b → map f (if b then x ∷ filter p xs else filter p xs) ≡ []
        → (map f (filter p xs) ≡ [] → AllByRecursion (λ y. p y ≡ false) xs) → (p x ≡ false) × AllByRecursion (λ y. p y ≡ false) xs
    go true e k r = absurd (let z : suc (length (map f (filter p xs))) ≡ 0 = ap length k in omega arith)
    go false e k r = (e, r k)

none-filtered : {X : Type 0} (p : X → Bool) (xs : List X) → AllByRecursion (λ x. p x ≡ false) xs → filter p xs ≡ []
none-filtered p [] h = refl
none-filtered p (x ∷ xs) h = ap (λ b. if b then x ∷ filter p xs else filter p xs) h.0 ∙ none-filtered p xs h.1

-- ---- each pick of a row with a term tells something

first-note : (string : List ℕ) → (s : ParsedValue) × Among s (note_of string)
first-note [] = (_, inl refl)
first-note (first ∷ []) = (_, inl refl)
first-note (first ∷ (a ∷ [])) = (_, inl refl)
first-note (first ∷ (a ∷ (b ∷ []))) = (_, inl refl)
first-note (first ∷ (a ∷ (b ∷ (c ∷ [])))) = (_, inl refl)
first-note (first ∷ (a ∷ (b ∷ (c ∷ (last ∷ text))))) =
    go ((first == 35) && (last == 35)) (list_all is_subject_character (a ∷ b ∷ c ∷ []) && not (is_blank text))
  where
    string : List ℕ
    string = first ∷ (a ∷ (b ∷ (c ∷ (last ∷ text))))

    go : (x y : Bool) → (s : ParsedValue) × Among s (elim x [
      | true ↦ elim y [ true ↦ coded (a ∷ b ∷ c ∷ []) text | false ↦ plain_note string ]
      | false ↦ plain_note string
    ])
    go true true = (_, inl refl)
    go true false = (_, inl refl)
    go false y = (_, inl refl)

first-parsed : (form : Form) (term : Term) (string : List ℕ) → (s : ParsedValue) × Among s (parsed_in form term string)
first-parsed forms.Model term string = (_, inl refl)
first-parsed forms.PlainDate term string = (_, inl refl)
first-parsed forms.DueDateTypeCode term string = (_, inl refl)
first-parsed forms.CodedNote term string = first-note string
first-parsed (forms.Typed data_type) term string = (_, inl refl)
first-parsed forms.TypedPlainDate term string = (_, inl refl)

first-told : (nodes : List Node) (p : Placed) → has_any_term p.pick.row ≡ true → (s : ParsedValue) × Among {X = Told} (record { placed = p; parsed = s }) (told_by nodes p)
first-told nodes p h = go (term_in p.pick.row.content) h
  where
    string : List ℕ
    string = string_at nodes p.pick.node

    go : (o : Option Term) → is_some o ≡ true → (s : ParsedValue) × Among {X = Told} (record { placed = p; parsed = s }) (map (λ s. record { placed = p; parsed = s })
        (elim o [ None ↦ [] | Some term ↦ parsed_in (form_for p.pick.row.form term) term string ]))
    go None k = absurd (false≢true k)
    go (Some term) k =
        let all = parsed_in (form_for p.pick.row.form term) term string in
        let s = first-parsed (form_for p.pick.row.form term) term string in
        (s.0, among-map (λ s. record { placed = p; parsed = s }) s.0 all s.1)

have-terms : (nodes : List Node) (rows : List Row) → AllByRecursion (λ (pick : Pick). has_any_term pick.row ≡ true) (term_picks nodes rows)
have-terms nodes rows =
    each-flat (λ (pick : Pick). has_any_term pick.row ≡ true) (λ (r : Numbered). has_any_term r.row ≡ true)
    (λ (r : Numbered). nodes_picked nodes r.place r.row) of-row (rows_where has_any_term rows)
    (each-passes (λ (r : Numbered). has_any_term r.row) (numbered 1 rows))
  where
    of-row : (r : Numbered) → has_any_term r.row ≡ true → AllByRecursion (λ (pick : Pick). has_any_term pick.row ≡ true) (nodes_picked nodes r.place r.row)
    of-row r h =
        each-flat (λ (pick : Pick). has_any_term pick.row ≡ true) (λ way. Unit {0}) (picks_of_way nodes r.place r.row)
        (λ way u. each-map (λ (pick : Pick). has_any_term pick.row ≡ true) (λ n. record { place = r.place; row = r.row; elements = way; node = n })
        (leaves_of nodes r.row.leaf (last_of way)) (each-any (λ n. has_any_term r.row ≡ true) (λ n. h) (leaves_of nodes r.row.leaf (last_of way))))
        (ways nodes r.row.path 0) (each-any (λ way. Unit {0}) (λ way. tt) (ways nodes r.row.path 0))

-- ---- what is picked is told, unless it is left

module _ (nodes : List Node) (rows : List Row) (es : List Entry) (entered : AllByRecursion (λ (t : Told). is_entered es t ≡ true) (told_of nodes rows)) where
  c : Currencies
  c = currencies nodes rows

  picks : List Pick
  picks = term_picks nodes rows

  kept : List Pick
  kept = in_their_currencies nodes c (without_placeholders nodes picks)

  test : ℕ → Told → Bool
  test n t = (t.placed.pick.node == n) && is_entered es t

  told-there : (node : Node) → Among node nodes → (pick : Pick) → Among pick picks → (pick.node == node.number) ≡ true → is_placeholder nodes picks pick ≡ false
      → is_in_its_currency nodes c pick ≡ true → is_entered_at nodes rows es node.number ≡ true
  unfolding c picks kept test
  told-there node here pick among same plain own =
      let first = among-filter (λ (p : Pick). not (is_placeholder nodes picks p)) pick picks (ap not plain) among in
      let second = among-filter (is_in_its_currency nodes c) pick (without_placeholders nodes picks) own first in
      let third = among-flat_map (λ (x : Node). filter (λ (p : Pick). p.node == x.number) kept) node pick nodes here
      (among-filter (λ (p : Pick). p.node == node.number) pick kept same second) in
      let ordered = in_order nodes kept in
      let p = placed nodes ordered pick in
      let s = first-told nodes p (at-among (λ (x : Pick). has_any_term x.row ≡ true) pick picks (have-terms nodes rows) among) in
      let t : Told = record { placed = p; parsed = s.0 } in
      let there = among-flat_map (told_by nodes) p t (place_all nodes ordered) (among-map (placed nodes ordered) pick ordered third) s.1 in
      any-among (test node.number) t (told_of nodes rows)
      (and-true (t.placed.pick.node == node.number) (is_entered es t) same (at-among (λ (x : Told). is_entered es x ≡ true) t (told_of nodes rows) entered
      there))
      there

  left-there : (n : ℕ) (pick : Pick) → Among pick picks → (pick.node == n) ≡ true → is_left nodes c picks pick ≡ true → is_left_at nodes rows n ≡ true
  unfolding c picks
  left-there n pick among same left =
      any-among (λ (p : Pick). (p.node == n) && is_left nodes c picks p) pick picks (and-true (pick.node == n) (is_left nodes c picks pick) same left) among

  picked-kept : (node : Node) → Among node nodes → is_picked picks node.number ≡ true
      → (is_entered_at nodes rows es node.number || is_left_at nodes rows node.number) ≡ true
  unfolding picks
  picked-kept node here h =
      let w = any-is (λ (pick : Pick). pick.node == node.number) picks h in
      go w.0 w.1.0 w.1.1 (is_placeholder nodes picks w.0) refl (is_in_its_currency nodes c w.0) refl
    where
      Wanted : Type 0
      Wanted = (is_entered_at nodes rows es node.number || is_left_at nodes rows node.number) ≡ true

      by-left : (pick : Pick) → Among pick picks → (pick.node == node.number) ≡ true → is_left nodes c picks pick ≡ true → Wanted
      by-left pick among same left =
          or-right (is_entered_at nodes rows es node.number) (is_left_at nodes rows node.number) (left-there node.number pick among same left)

      go : (pick : Pick) → Among pick picks → (pick.node == node.number) ≡ true → (a : Bool) → is_placeholder nodes picks pick ≡ a → (b : Bool)
          → is_in_its_currency nodes c pick ≡ b → Wanted
      go pick among same true e b k =
          by-left pick among same (or-left (is_placeholder nodes picks pick) (not (is_in_its_currency nodes c pick)) e)
      go pick among same false e false k =
          by-left pick among same (or-right (is_placeholder nodes picks pick) (not (is_in_its_currency nodes c pick)) (ap not k))
      go pick among same false e true k =
          or-left (is_entered_at nodes rows es node.number) (is_left_at nodes rows node.number) (told-there node here pick among same e k)

  said-kept : (node : Node) → Among node nodes → is_said nodes rows node.number ≡ true → is_kept_value nodes rows es node.number ≡ true
  unfolding is_said picks
  said-kept node here h =
      go (is_picked picks node.number) refl (is_entered_at nodes rows es node.number) (is_left_at nodes rows node.number)
      (is_constant nodes rows node.number || (is_currency nodes picks node.number || is_format nodes picks node.number)) (picked-kept node here) h
    where
      go : (a : Bool) → is_picked picks node.number ≡ a → (x y b : Bool) → (is_picked picks node.number ≡ true → (x || y) ≡ true) → (a || b) ≡ true
          → (x || (y || b)) ≡ true
      go true e x y b f k = further x y b (f e)
        where
          further : (x y b : Bool) → (x || y) ≡ true → (x || (y || b)) ≡ true
          further true y b h = refl
          further false true b h = refl
          further false false b h = absurd (false≢true h)
      go false e x y b f k = or-right x (y || b) (or-right y b k)

  node-kept : (node : Node) → Among node nodes → is_lost nodes rows node ≡ false → is_kept nodes rows es node ≡ true
  node-kept node here h =
      go (is_of_the_table nodes rows node) (is_blank (own_text nodes node)) (is_said nodes rows node.number) (is_kept_value nodes rows es node.number)
      (said-kept node here) (neither (is_passed_over nodes rows node) (is_unread nodes rows node) h).1
    where
      go : (a b s k : Bool) → (s ≡ true → k ≡ true) → (a && (not b && not s)) ≡ false → (not a || (b || k)) ≡ true
      go false b s k f h = refl
      go true true s k f h = refl
      go true false true k f h = f refl
      go true false false k f h = absurd (false≢true (sym h))

-- ---- the law

pub whole-kept : (nodes : List Node) (rows : List Row) (lists : Lists) (read : Read) → terms_of nodes rows lists ≡ Ok read → lost_nodes nodes rows ≡ []
    → AllByRecursion (λ (t : Told). is_entered read.entries t ≡ true) (told_of nodes rows)
    → (read.passed_over ≡ 0) × All (λ (node : Node). is_kept nodes rows read.entries node ≡ true) nodes
unfolding lost_nodes
whole-kept nodes rows lists read h whole entered =
    let none = none-mapped (λ (node : Node). node.number) (is_lost nodes rows) nodes whole in
    let passed = each-of-among (λ (node : Node). is_passed_over nodes rows node ≡ false) nodes
    (λ node here. (neither (is_passed_over nodes rows node) (is_unread nodes rows node)
    (at-among (λ (x : Node). is_lost nodes rows x ≡ false) node nodes none here)).0) in (
      (read-without nodes rows lists read h).passed ∙ ap length (none-filtered (is_passed_over nodes rows) nodes passed),
      all-of-each (λ (node : Node). is_kept nodes rows read.entries node ≡ true) nodes
          (each-of-among (λ (node : Node). is_kept nodes rows read.entries node ≡ true) nodes
          (λ node here. node-kept nodes rows read.entries entered node here
          (at-among (λ (x : Node). is_lost nodes rows x ≡ false) node nodes none here))),
    )
