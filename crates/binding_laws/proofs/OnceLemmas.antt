-- Of one term in one context a table tells once, or what may be told again.
use Rattle.std.proofs.Common.{◌≡◌, ℕ, ◌+◌, ◌<◌, Bool, true, false, not, ◌&&◌, ◌||◌, List, [], ◌∷◌, ◌++◌, length, map, flat_map, Option, Some, None, Ok, ◌⊎◌}
use Rattle.std.proofs.Common.{inl, inr, All, refl, sym, ap, ◌∙◌, subst, arith}
use Rattle.std.specs.Prelude.{is_some, is_none}
use Rattle.std.specs.List.{list_all}
use Rattle.std.proofs.lemmas.Bool.{false≢true}
use Rattle.std.proofs.lemmas.Bool.Decides.{nat_tests}
use Rattle.std.proofs.lemmas.Option.{same_Some}
use Rattle.inv_base.specs.Tree.{Node, document_nodes}
use Rattle.term_table.specs.declared.groups.Group.{Group}
use Rattle.term_table.specs.declared.terms.Term.{Term}
use Rattle.term_table.specs.declared.contexts.Slot.{Slot}
use Rattle.term_table.specs.declared.contexts.Context.{Context}
use Rattle.term_table.specs.Contexts.{root_context, slot_group}
use Rattle.term_table.specs.Groups.{same_group}
use Rattle.term_table.specs.SemanticModel.{same_term}
use Rattle.term_table.proofs.GroupLemmas.{same_group_itself}
use Rattle.inv_terms.specs.declared.entries.Entry.{Entry}
use Rattle.inv_terms.specs.Values.{spelled}
use Rattle.inv_terms.specs.Listing.{IsInvoice, value_in}
use Rattle.bind_rows.specs.declared.rows.Content.TheVariants as contents
use Rattle.bind_rows.specs.declared.rows.Form.{Form}
use Rattle.bind_rows.specs.declared.rows.Step.{Step}
use Rattle.bind_rows.specs.declared.rows.Row.{Row}
use Rattle.bind_rows.specs.declared.rows.Written.{Written}
use Rattle.bind_rows.specs.declared.rows.Written.TheVariants as written
use Rattle.bind_rows.specs.Same.{same_or_none}
use Rattle.bind_table.specs.Lines.{plan_of}
use Rattle.bind_table.specs.WellFormed.{first_fault}
use Rattle.bind_table.proofs.SameLemmas.{group-sound, pointwise-sound}
use Rattle.bind_meaning.specs.Values.{form_for}
use Rattle.bind_meaning.specs.Elements.{string_at}
use Rattle.bind_meaning.specs.Judging.{may_repeat}
use Rattle.bind_meaning.specs.Picks.{Pick, has_term, term_in, has_any_term, Numbered, numbered, rows_where, all_picked, is_placeholder, without_placeholders}
use Rattle.bind_meaning.specs.Picks.{last_of}
use Rattle.bind_meaning.specs.Picks.{leaves_of, picks_of_way, nodes_picked}
use Rattle.bind_meaning.specs.Currencies.{Currencies, is_in_its_currency, in_their_currencies}
use Rattle.bind_meaning.specs.Seats.{placed, context_of}
use Rattle.bind_meaning.specs.Terms.{term_picks}
use Rattle.bind_meaning.specs.Writing.{formed, is_iban, if_so, scheme_of, if_due}
use Rattle.bind_meaning.specs.Trees.{document_of}
use Rattle.binding_laws.specs.Plain as plain
use Rattle.binding_laws.specs.Plain.{groups_of}
use Rattle.binding_laws.specs.Covered.{is_covered, is_settled, holds_plainly, is_shadowed}
use Rattle.binding_laws.specs.Written.{Spot, written_at}
use Rattle.binding_laws.specs.Faultless.{goes_through, is_told_once, excludes, is_model, are_exclusive, are_apart_at, are_apart, all_apart}
use Rattle.binding_laws.proofs.TreeLemmas.{Each}
use Rattle.binding_laws.proofs.ListLemmas.{both-true, not-true, flat_map-map, or-either}
use Rattle.binding_laws.proofs.ContextLemmas.{Later, Rising, rising-append, rising-filter, rising-flat_map, in-one, in-group, in-groups}
use Rattle.binding_laws.proofs.ReachLemmas.{Among, among-front, among-back, among-split}
use Rattle.binding_laws.proofs.CountLemmas.{Below, each-among, range-rising, rising-one}
use Rattle.binding_laws.proofs.PlaceLemmas.{of-map, of-filter-any, between, places-lead}
use Rattle.binding_laws.proofs.SeatLemmas.{leads-nowhere}
use Rattle.binding_laws.proofs.SeatingLemmas.{IsPicked, each-from, rising-from, rising-with}
use Rattle.binding_laws.proofs.FormLemmas.{Laws, model-is}
use Rattle.binding_laws.proofs.RowLemmas.{Place, places_at, places-spots, IsAt, ends_at}
use Rattle.binding_laws.proofs.PlainLemmas.{no-slot}
use Rattle.binding_laws.proofs.EntryLemmas.{same-seat}
use Rattle.binding_laws.proofs.PairLemmas.{rising-all, in-order-rising}
use Rattle.binding_laws.proofs.CurrencyLemmas.{AreOwn}
use Rattle.binding_laws.proofs.TotalLemmas.{row-of}
use Rattle.binding_laws.proofs.CoverLemmas.{Covers, IsStrange, IsNotTold, strange-pick, own-among, is_short, long, numbers, strings-at}
use Rattle.binding_laws.proofs.RoundLemmas.{never-told, shadow-of, FromRow, numbered-row, covered-row, other-picks-nothing, of-picks, context-at}

-- ---- lists of one

short-map : {X Y : Type 0} (f : X → Y) (xs : List X) → is_short (map f xs) ≡ is_short xs
short-map f [] = refl
short-map f (x ∷ []) = refl
short-map f (x ∷ (y ∷ xs)) = refl

rising-short : {X : Type 0} (R : X → X → Type 0) (xs : List X) → is_short xs ≡ true → Rising R xs
rising-short R [] h = tt
rising-short R (x ∷ []) h = (tt, tt)
rising-short R (x ∷ (y ∷ xs)) h = absurd (false≢true h)

-- ---- contexts that rise differ

later-differs : (a b : Context) → Later a b → a ≡ b → ⊥
later-differs a b (inl l) e =
    let same : l.first ≡ l.second = same_Some _ _ (sym l.first_is ∙ (ap (λ (c : Context). c.outer) e ∙ l.second_is)) in
    let index : l.first.index ≡ l.second.index = ap (λ (s : Slot). s.index) same in
    let less = l.less in
    omega (arith, less, index)
later-differs a b (inr l) e =
    let same : l.first ≡ l.second = same_Some _ _ (sym l.first_is ∙ (ap (λ (c : Context). c.inner) e ∙ l.second_is)) in
    let index : l.first.index ≡ l.second.index = ap (λ (s : Slot). s.index) same in
    let less = l.less in
    omega (arith, less, index)

-- ---- rules that exclude one another

exclusive : (es : List Entry) (a b : Written) (term : Term) (c : Context) (text : List ℕ) → excludes a b ≡ true → is_some (if_due a es term c text) ≡ true →
    is_some (if_due b es term c text) ≡ true → ⊥
exclusive es written.IfIban written.IfNotIban term c text h j k = go (is_iban text) j k
  where
    go : (x : Bool) → is_some (if_so x text) ≡ true → is_some (if_so (not x) text) ≡ true → ⊥
    go true m n = false≢true n
    go false m n = false≢true m
exclusive es written.IfNotIban written.IfIban term c text h j k = go (is_iban text) j k
  where
    go : (x : Bool) → is_some (if_so (not x) text) ≡ true → is_some (if_so x text) ≡ true → ⊥
    go true m n = false≢true m
    go false m n = false≢true n
exclusive es written.IfScheme written.IfNoScheme term c text h j k = go (value_in es (scheme_of term) c) j k
  where
    go : {X : Type 0} (o : Option X) → is_some (if_so (is_some o) text) ≡ true → is_some (if_so (is_none o) text) ≡ true → ⊥
    go None m n = false≢true m
    go (Some v) m n = false≢true n
exclusive es written.IfNoScheme written.IfScheme term c text h j k = go (value_in es (scheme_of term) c) j k
  where
    go : {X : Type 0} (o : Option X) → is_some (if_so (is_none o) text) ≡ true → is_some (if_so (is_some o) text) ≡ true → ⊥
    go None m n = false≢true n
    go (Some v) m n = false≢true m
exclusive es a b term c text h j k = false≢true h

-- ---- rows of a table

each-numbered : (row : Row) (k : ℕ) (rs : List Row) → list_all (are_apart row) rs ≡ true → Each (λ (r : Numbered). are_apart row r.row ≡ true) (numbered k rs)
each-numbered row k [] h = tt
each-numbered row k (r ∷ rs) h =
    let w = both-true (are_apart row r) (list_all (are_apart row) rs) h in
    (w.0, each-numbered row (k + 1) rs w.1)

abbrev RowsApart : Numbered → Numbered → Type 0
RowsApart a b = are_apart a.row b.row ≡ true

rising-numbered : (k : ℕ) (rs : List Row) → all_apart rs ≡ true → Rising RowsApart (numbered k rs)
rising-numbered k [] h = tt
rising-numbered k (r ∷ rs) h =
    let w = both-true (list_all (are_apart r) rs) (all_apart rs) h in
    (each-numbered r (k + 1) rs w.0, rising-numbered (k + 1) rs w.1)

-- what the test says of rows of one term
apart-says : (a b : Row) (term : Term) → a.content ≡ contents.Term term → b.content ≡ contents.Term term → are_apart a b ≡ true → are_apart_at a b term ≡ true
apart-says a b term e f h =
    sym (ap (λ x. elim x [ true ↦ are_apart_at a b term | false ↦ true ]) (ap (λ content. elim (term_in content) [ None ↦ false | Some t ↦ same_term t term ]) f
    ∙ same-term-itself term))
    ∙ (sym (ap (λ content. elim content [
      | (contents.Term t) ↦ elim (has_term t b) [ true ↦ are_apart_at a b t | false ↦ true ]
      | (contents.Constant text) ↦ true
    ]) e) ∙ h)
  where
    same-term-itself : (u : Term) → same_term u u ≡ true
    same-term-itself u = grind (arith, nat_tests)

same-or-none-itself : (o : Option Group) → same_or_none o o ≡ true
same-or-none-itself None = refl
same-or-none-itself (Some g) = same_group_itself g

pub same-content : (s t : Term) → contents.Term s ≡ contents.Term t → s ≡ t
same-content s t e = same_Some _ _ (ap term_in e)

-- ---- the elements at the end of a path

module _ (rows : List Row) (es : List Entry) where
  abbrev LaterSpot : Spot → Spot → Type 0
  LaterSpot a b = Later a.context b.context

  spots-rise : (path : List Step) (o i : Option Group) → groups_of path ≡ plain.listed o ++ plain.listed i → (is_some o || is_none i) ≡ true →
      Rising LaterSpot (written_at rows es path)
  spots-rise path None None e n = (in-one es (plan_of rows) path false root_context e).1
  spots-rise path None (Some g) e n = absurd (false≢true n)
  spots-rise path (Some f) None e n = in-group es (plan_of rows) path false root_context f e
  spots-rise path (Some f) (Some g) e n = in-groups es (plan_of rows) path false f g e

  pub places-rise : (path : List Step) (o i : Option Group) → groups_of path ≡ plain.listed o ++ plain.listed i → (is_some o || is_none i) ≡ true →
      Rising (λ (a : Place) (b : Place). Later a.spot.context b.spot.context) (places_at rows es path)
  places-rise path o i e n =
      rising-from LaterSpot (λ (place : Place). place.spot) (places_at rows es path)
      (subst (Rising LaterSpot) (sym (places-spots es (plan_of rows) path false root_context 1)) (spots-rise path o i e n))

  -- an element is known by the way to it
  pub same-place : (path : List Step) (p q : Place) → Among p (places_at rows es path) → Among q (places_at rows es path) → p.way ≡ q.way → p ≡ q
  same-place path p q a b e =
      rising-one (λ (x : Place). last_of x.way) (λ (x : Place). last_of x.way) (places_at rows es path)
      (between es (plan_of rows) path false root_context 1).rising p q a b (ap last_of e)

  -- where the path goes through the groups of the context, what is picked at an element says an entry of its context
  pub seat-context : (invoice : IsInvoice es) (pick : Pick) (k : IsPicked rows es invoice pick) → groups_of pick.row.path ≡ plain.listed pick.row.outer ++
      plain.listed pick.row.inner
      → (is_some pick.row.outer || is_none pick.row.inner) ≡ true → k.entry.context ≡ k.place.spot.context
  seat-context invoice pick k through nested = go pick.row.outer pick.row.inner refl refl
    where
      go : (o i : Option Group) → pick.row.outer ≡ o → pick.row.inner ≡ i → k.entry.context ≡ k.place.spot.context
      go (Some g) i a b = k.there g a
      go None (Some g) a b = absurd (false≢true (sym (λ z. is_some (a z) || is_none (b z)) ∙ nested))
      go None None a b =
          let none : groups_of pick.row.path ≡ [] = through ∙ (λ z. plain.listed (a z) ++ plain.listed (b z)) in
          let outer : k.entry.context.outer ≡ None = no-slot k.entry.context.outer (k.outer ∙ a) in
          let inner : k.entry.context.inner ≡ None = no-slot k.entry.context.inner (k.inner ∙ b) in
          let root : k.entry.context ≡ root_context = (λ z. record { outer = outer z; inner = inner z }) in
          root ∙ leads-nowhere es pick.row.path root_context k.place.spot.context none
          (places-lead es (plan_of rows) pick.row.path false root_context 1 k.place k.among)

-- ---- picks

module _ (law : Laws) (rows : List Row) (es : List Entry) (invoice : IsInvoice es) (long_paths : All (λ (r : Row). 0 < length r.path) rows)
    (fine : first_fault rows ≡ Ok tt) (settled : is_settled rows ≡ true)
    (plainly : holds_plainly rows es ≡ true) (all_once : (row : Row) → Among row rows → is_told_once row ≡ true) (apart : all_apart rows ≡ true)
    (c : Currencies) (own : AreOwn rows es c) where
  abbrev nodes : List Node
  nodes = document_nodes (document_of rows es)

  abbrev picks : List Pick
  picks = term_picks nodes c rows

  abbrev From : Pick → Type 0
  From pick = FromRow law rows es invoice long_paths fine settled plainly pick

  from : (pick : Pick) → Among pick picks → From pick
  from pick a = of-picks law rows es invoice long_paths fine settled plainly c own pick a

  -- Where both say one term in one context, both may be told again.
  abbrev pub MayBoth : Pick → Pick → Type 0
  MayBoth x y = Among x picks → Among y picks → (t : Term) → x.row.content ≡ contents.Term t → y.row.content ≡ contents.Term t →
      context_of (placed nodes picks x) ≡ context_of (placed nodes picks y)
      → (may_repeat x.row.repeats ≡ true) × (may_repeat y.row.repeats ≡ true)

  turn : (x y : Pick) → MayBoth x y → MayBoth y x
  turn x y h a b t e f same = let w = h b a t f e (sym same) in (w.1, w.0)

  -- ---- of one row

  module _ (k : ℕ) (row : Row) (known : Among row rows) (term : Term) (cover : Covers law rows es invoice row term) where
    abbrev at_place : Place → List Pick
    at_place place = picks_of_way nodes k row place.way

    abbrev a_pick : Place → ℕ → Pick
    a_pick place n = record { place = k; row = row; elements = place.way; node = n }

    -- the elements to which its path leads
    abbrev all_there : List Place
    all_there = cover.front ++ (places_at rows es row.path ++ cover.back)

    abbrev IsAtPlace : Place → Pick → Type 0
    IsAtPlace place pick = (n : ℕ) × (Among n (leaves_of nodes row.leaf (last_of place.way)) × (a_pick place n ≡ pick))

    at-place : (place : Place) (pick : Pick) → Among pick (at_place place) → IsAtPlace place pick
    at-place place pick m = let w = of-map (λ n. a_pick place n) pick (leaves_of nodes row.leaf (last_of place.way)) m in (w.0, (w.1.0, w.1.1))

    is-at : (place : Place) → Among place (cover.front ++ (places_at rows es row.path ++ cover.back)) → IsAt nodes es place
    is-at place a = each-among (IsAt nodes es) place (cover.front ++ (places_at rows es row.path ++ cover.back)) cover.placed.each a

    -- what is picked at an element of another row isn't told
    never : (place : Place) → Among place (cover.front ++ (places_at rows es row.path ++ cover.back)) → IsStrange law rows es invoice row place → (pick : Pick)
        → IsAtPlace place pick → Among pick picks → ⊥
    never place a strange pick w m =
        never-told law rows es invoice long_paths fine settled plainly c own pick m
        (subst (IsNotTold law rows es invoice) w.1.1 (strange-pick law rows es invoice k row place.way place (is-at place a) w.0 w.1.0 strange))

    own-or-strange : (place : Place) → Among place (cover.front ++ (places_at rows es row.path ++ cover.back)) →
        Among place (places_at rows es row.path) ⊎ IsStrange law rows es invoice row place
    own-or-strange place a = elim (among-split place cover.front (places_at rows es row.path ++ cover.back) a) [
      | inl m ↦ inr (cover.strange place (inl m))
      | inr m ↦ elim (among-split place (places_at rows es row.path) cover.back m) [ inl n ↦ inl n | inr n ↦ inr (cover.strange place (inr n)) ]
    ]

    context-there : groups_of row.path ≡ plain.listed row.outer ++ plain.listed row.inner → (place : Place) → Among place (places_at rows es row.path) → (n : ℕ)
        → Among (a_pick place n) picks
        → context_of (placed nodes picks (a_pick place n)) ≡ place.spot.context
    context-there through place a n m =
        let f = from (a_pick place n) m in
        context-at law rows es invoice long_paths fine settled plainly c own (a_pick place n) m f
        ∙ (sym f.told_is.context
        ∙ (seat-context rows es invoice (a_pick place n) f.told_is.picked through cover.nested
        ∙ ap (λ (x : Place). x.spot.context) (same-place rows es row.path f.told_is.picked.place place f.told_is.picked.among a
        (sym f.told_is.picked.elements))))

    short-there : (place : Place) → Among place (places_at rows es row.path) → is_short (at_place place) ≡ true
    unfolding ends_at
    short-there place a =
        short-map (λ n. a_pick place n) (leaves_of nodes row.leaf (last_of place.way))
        ∙ (sym (short-map (string_at nodes) (leaves_of nodes row.leaf (last_of place.way))) ∙
        (ap is_short (strings-at law rows es invoice row place
        (is-at place (own-among law rows es invoice cover.front (places_at rows es row.path) cover.back place a))) ∙ cover.single place a))

    -- Of two elements one is another row's, or both are its own and stand in different contexts.
    abbrev Beside : Place → Place → Type 0
    Beside p q =
        (Among p (cover.front ++ (places_at rows es row.path ++ cover.back)) × Among q (cover.front ++ (places_at rows es row.path ++ cover.back)))
        × ((IsStrange law rows es invoice row p ⊎ IsStrange law rows es invoice row q)
        ⊎ ((Among p (places_at rows es row.path) × Among q (places_at rows es row.path)) × Later p.spot.context q.spot.context))

    differing : groups_of row.path ≡ plain.listed row.outer ++ plain.listed row.inner → (p q : Place) (x y : Pick) → Beside p q → IsAtPlace p x → IsAtPlace q y
        → MayBoth x y
    differing through p q x y (there, inl (inl strange)) u v = λ one two t i j same. absurd (never p there.0 strange x u one)
    differing through p q x y (there, inl (inr strange)) u v = λ one two t i j same. absurd (never q there.1 strange y v two)
    differing through p q x y (there, inr k) u v =
        subst (λ z. MayBoth z y) u.1.1 (subst (MayBoth (a_pick p u.0)) v.1.1 (λ one two t i j same.
        absurd (later-differs p.spot.context q.spot.context k.1 (sym (context-there through p k.0.0 u.0 one) ∙
        (same ∙ context-there through q k.0.1 v.0 two)))))

    places-picks : nodes_picked nodes k row ≡ flat_map at_place (cover.front ++ (places_at rows es row.path ++ cover.back))
    places-picks =
        ap (flat_map (picks_of_way nodes k row)) cover.placed.ways_are
        ∙ flat_map-map (picks_of_way nodes k row) (λ (place : Place). place.way) (cover.front ++ (places_at rows es row.path ++ cover.back))

    all-beside : groups_of row.path ≡ plain.listed row.outer ++ plain.listed row.inner →
        Rising Beside (cover.front ++ (places_at rows es row.path ++ cover.back))
    all-beside through =
        rising-append Beside front (own_places ++ back) (rising-all Beside front (λ p q m n. ((before p m, before q n), inl (inl (cover.strange p (inl m))))))
        (rising-append Beside own_places back
        (rising-with (λ (p : Place). Among p own_places) (λ (p : Place) (q : Place). Later p.spot.context q.spot.context) Beside
        (λ p q m n later. ((here p m, here q n), inr ((m, n), later))) own_places
        (each-from (λ (p : Place). Among p own_places) own_places (λ p m. m)) (places-rise rows es row.path row.outer row.inner through cover.nested))
        (rising-all Beside back (λ p q m n. ((behind_it p m, behind_it q n), inl (inl (cover.strange p (inr m))))))
        (each-from (λ (p : Place). Each (Beside p) back) own_places
        (λ p m. each-from (Beside p) back (λ q n. ((here p m, behind_it q n), inl (inr (cover.strange q (inr n))))))))
        (each-from (λ (p : Place). Each (Beside p) (own_places ++ back)) front
        (λ p m. each-from (Beside p) (own_places ++ back)
        (λ q n. ((before p m, among-back q front (own_places ++ back) n), inl (inl (cover.strange p (inl m)))))))
      where
        front : List Place
        front = cover.front

        back : List Place
        back = cover.back

        own_places : List Place
        own_places = places_at rows es row.path

        before : (p : Place) → Among p cover.front → Among p (cover.front ++ (places_at rows es row.path ++ cover.back))
        before p m = among-front p cover.front (places_at rows es row.path ++ cover.back) m

        here : (p : Place) → Among p (places_at rows es row.path) → Among p (cover.front ++ (places_at rows es row.path ++ cover.back))
        here p m = own-among law rows es invoice cover.front (places_at rows es row.path) cover.back p m

        behind_it : (p : Place) → Among p cover.back → Among p (cover.front ++ (places_at rows es row.path ++ cover.back))
        behind_it p m = among-back p cover.front (places_at rows es row.path ++ cover.back) (among-back p (places_at rows es row.path) cover.back m)

    at-one : (place : Place) → Among place (cover.front ++ (places_at rows es row.path ++ cover.back)) → Rising MayBoth (at_place place)
    at-one place a = elim (own-or-strange place a) [
      | inl m ↦ rising-short MayBoth (at_place place) (short-there place m)
      | inr strange ↦ rising-all MayBoth (at_place place) (λ x y m n one two t i j same. absurd (never place a strange x (at-place place x m) one))
    ]

    through-rising : groups_of row.path ≡ plain.listed row.outer ++ plain.listed row.inner → Rising MayBoth (nodes_picked nodes k row)
    through-rising through =
        subst (Rising MayBoth) (sym places-picks)
        (rising-flat_map Beside MayBoth IsAtPlace at_place (differing through) (cover.front ++ (places_at rows es row.path ++ cover.back)) (all-beside through)
        (each-from (λ (place : Place). Rising MayBoth (at_place place) × Each (IsAtPlace place) (at_place place))
        (cover.front ++ (places_at rows es row.path ++ cover.back))
        (λ place a. (at-one place a, each-from (IsAtPlace place) (at_place place) (at-place place)))))

    row-rising : Rising MayBoth (nodes_picked nodes k row)
    row-rising = go (or-either (may_repeat row.repeats) (goes_through row) (all_once row known))
      where
        go : (may_repeat row.repeats ≡ true) ⊎ (goes_through row ≡ true) → Rising MayBoth (nodes_picked nodes k row)
        go (inl may) =
            rising-all MayBoth (nodes_picked nodes k row)
            (λ x y a b one two t i j same. (
              ap (λ (r : Row). may_repeat r.repeats) (row-of nodes k row x a) ∙ may,
              ap (λ (r : Row). may_repeat r.repeats) (row-of nodes k row y b) ∙ may,
            ))
        go (inr through) = through-rising (pointwise-sound same_group group-sound (groups_of row.path)
            (plain.listed row.outer ++ plain.listed row.inner) through)

  -- ---- of two rows

  -- a value's rule lets it pass as the model spells it
  spelled-due : (rule : Written) (form : Form) (s t : Term) (e : Entry) → s ≡ t → is_model (form_for form t) ≡ true →
      is_some (if_due rule es s e.context (formed (form_for form s) es e.context e.value)) ≡ true
      → is_some (if_due rule es t e.context (spelled e.value)) ≡ true
  spelled-due rule form s t e same model due =
      sym (ap (λ u. is_some (if_due rule es u e.context (formed (form_for form u) es e.context e.value))) same
      ∙ ap (λ f. is_some (if_due rule es t e.context (formed f es e.context e.value))) (model-is (form_for form t) model))
      ∙ due

  two-rows : (x y : Pick) → are_apart x.row y.row ≡ true → MayBoth x y
  two-rows x y h one two t e f same =
      let a = from x one in
      let b = from y two in
      let s : a.term ≡ t = same-content a.term t (sym a.cover.content ∙ e) in
      let u : b.term ≡ t = same-content b.term t (sym b.cover.content ∙ f) in
      let entry_context : a.told_is.e.context ≡ b.told_is.e.context =
      sym (context-at law rows es invoice long_paths fine settled plainly c own x one a) ∙
      (same ∙ context-at law rows es invoice long_paths fine settled plainly c own y two b) in
      let context : a.told_is.picked.entry.context ≡ b.told_is.picked.entry.context = a.told_is.context ∙ (entry_context ∙ sym b.told_is.context) in
      let outer : x.row.outer ≡ y.row.outer = sym a.told_is.picked.outer ∙ (ap (λ (d : Context). slot_group d.outer) context ∙ b.told_is.picked.outer) in
      let inner : x.row.inner ≡ y.row.inner = sym a.told_is.picked.inner ∙ (ap (λ (d : Context). slot_group d.inner) context ∙ b.told_is.picked.inner) in
      let entry : a.told_is.e ≡ b.told_is.e =
      same-seat es invoice.listed a.told_is.e b.told_is.e a.told_is.known b.told_is.known
      (a.told_is.term_is ∙ (s ∙ (sym u ∙ sym b.told_is.term_is))) entry_context in
      go (or-either (may_repeat x.row.repeats && may_repeat y.row.repeats) (not (same_or_none x.row.outer y.row.outer && same_or_none x.row.inner y.row.inner)
      || are_exclusive x.row y.row t) (apart-says x.row y.row t e f h))
      (λ i. same_or_none (outer i) y.row.outer && same_or_none (inner i) y.row.inner)
      (λ excluded.
      let w = both-true (excludes x.row.written y.row.written) (is_model (form_for x.row.form t) && is_model (form_for y.row.form t)) excluded in
      let v = both-true (is_model (form_for x.row.form t)) (is_model (form_for y.row.form t)) w.1 in
      exclusive es x.row.written y.row.written t a.told_is.e.context (spelled a.told_is.e.value) w.0
      (spelled-due x.row.written x.row.form a.term t a.told_is.e s v.0 a.told_is.due)
      (subst (λ (z : Entry). is_some (if_due y.row.written es t z.context (spelled z.value)) ≡ true) (sym entry)
      (spelled-due y.row.written y.row.form b.term t b.told_is.e u v.1 b.told_is.due)))
    where
      go : ((may_repeat x.row.repeats && may_repeat y.row.repeats) ≡ true) ⊎
          ((not (same_or_none x.row.outer y.row.outer && same_or_none x.row.inner y.row.inner) || are_exclusive x.row y.row t) ≡ true)
          → (same_or_none x.row.outer y.row.outer && same_or_none x.row.inner y.row.inner) ≡ (same_or_none y.row.outer y.row.outer &&
          same_or_none y.row.inner y.row.inner)
          → (are_exclusive x.row y.row t ≡ true → ⊥) → (may_repeat x.row.repeats ≡ true) × (may_repeat y.row.repeats ≡ true)
      go (inl may) there never = both-true (may_repeat x.row.repeats) (may_repeat y.row.repeats) may
      go (inr other) there never =
          absurd (elim (or-either (not (same_or_none x.row.outer y.row.outer && same_or_none x.row.inner y.row.inner)) (are_exclusive x.row y.row t) other) [
            | inl apart ↦ false≢true (sym (not-true (same_or_none x.row.outer y.row.outer && same_or_none x.row.inner y.row.inner) apart)
                ∙ (there ∙ (λ i. same-or-none-itself y.row.outer i && same-or-none-itself y.row.inner i)))
            | inr excluded ↦ never excluded
          ])

  -- ---- of all rows

  abbrev IsOfRow : Numbered → Pick → Type 0
  IsOfRow r pick = pick.row ≡ r.row

  rows-differ : (r q : Numbered) (x y : Pick) → RowsApart r q → IsOfRow r x → IsOfRow q y → MayBoth x y
  rows-differ r q x y h e f = two-rows x y (ap (λ (a : Row). are_apart a y.row) e ∙ (ap (are_apart r.row) f ∙ h))

  one-row : (r : Numbered) → Among r (rows_where has_any_term rows) → Rising MayBoth (nodes_picked nodes r.place r.row)
  one-row r a =
      let w = of-filter-any (λ (x : Numbered). has_any_term x.row) r (numbered 1 rows) a in
      let at = numbered-row 1 rows r w.0 in
      go (is_covered rows r.row) refl at.1.1 w.1
    where
      go : (b : Bool) → is_covered rows r.row ≡ b → Among r.row rows → has_any_term r.row ≡ true → Rising MayBoth (nodes_picked nodes r.place r.row)
      go true e known has =
          elim (covered-row law rows es invoice long_paths fine settled plainly r.row known e) [
            | inl cover ↦ row-rising r.place r.row known cover.term cover.cover
            | inr none ↦ rising-all MayBoth (nodes_picked nodes r.place r.row)
                (λ x y a b one two t i j same. absurd (never-told law rows es invoice long_paths fine settled plainly c own x one (none r.place x a)))
          ]
      go false e known has = by-shadow (is_shadowed (plan_of rows) rows r.row) refl
        where
          by-shadow : (y : Bool) → is_shadowed (plan_of rows) rows r.row ≡ y → Rising MayBoth (nodes_picked nodes r.place r.row)
          by-shadow true f = rising-all MayBoth (nodes_picked nodes r.place r.row) (λ x y a b one two t i j same.
              absurd (never-told law rows es invoice long_paths fine settled plainly c own x one
              (shadow-of law rows es invoice long_paths fine settled plainly x r.place r.row f a)))
          by-shadow false f = subst (Rising MayBoth)
              (sym (other-picks-nothing law rows es invoice long_paths fine settled plainly r.place r.row known (λ i. has i && (not (e i) && not (f i))))) tt

  all-rising : Rising MayBoth (all_picked nodes (rows_where has_any_term rows))
  all-rising =
      rising-flat_map RowsApart MayBoth IsOfRow (λ (r : Numbered). nodes_picked nodes r.place r.row) rows-differ (rows_where has_any_term rows)
      (rising-filter RowsApart (λ (r : Numbered). has_any_term r.row) (numbered 1 rows) (rising-numbered 1 rows apart))
      (each-from (λ (r : Numbered). Rising MayBoth (nodes_picked nodes r.place r.row) × Each (IsOfRow r) (nodes_picked nodes r.place r.row))
      (rows_where has_any_term rows)
      (λ r a. (one-row r a, each-from (IsOfRow r) (nodes_picked nodes r.place r.row) (row-of nodes r.place r.row))))

  pub picks-rising : Rising MayBoth picks
  picks-rising =
      in-order-rising MayBoth turn nodes (in_their_currencies nodes c (without_placeholders nodes (all_picked nodes (rows_where has_any_term rows))))
      (rising-filter MayBoth (is_in_its_currency nodes c) (without_placeholders nodes (all_picked nodes (rows_where has_any_term rows)))
      (rising-filter MayBoth (λ (x : Pick). not (is_placeholder nodes (all_picked nodes (rows_where has_any_term rows)) x))
      (all_picked nodes (rows_where has_any_term rows)) all-rising))
      (subst (Rising Below) (sym (numbers law rows es invoice)) (range-rising 0 (long law rows es invoice)))
