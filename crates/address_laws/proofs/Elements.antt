-- Lines beside one another are written as the elements of their leaves.
use Rattle.std.proofs.Common.{◌≡◌, ℕ, suc, zero, ◌<◌, Bool, true, false, ◌&&◌, ◌||◌, Option, Some, None, List, [], ◌∷◌, ◌++◌, filter, flat_map, map, inl, inr}
use Rattle.std.proofs.Common.{refl, sym, ap, ◌∙◌, subst, arith}
use Rattle.std.specs.Prelude.{nat_lt, ◌==◌, if◌then◌else◌}
use Rattle.std.specs.List.{list_any}
use Rattle.std.proofs.lemmas.Bool.{false≢true}
use Rattle.std.proofs.lemmas.Bool.Decides.{nat_tests}
use Rattle.inv_base.specs.Tree.{Forest, no_more, an_element}
use Rattle.term_table.specs.declared.contexts.Context.{Context}
use Rattle.inv_terms.specs.declared.entries.Entry.{Entry}
use Rattle.bind_rows.specs.declared.rows.Step.{Step}
use Rattle.bind_rows.specs.declared.rows.Row.{Row}
use Rattle.bind_table.specs.Lines.{Plan, Cell, nothing, a_line}
use Rattle.bind_table.specs.Laid.{element_numbers, are_distinct}
use Rattle.bind_meaning.specs.Trees.{has_terms, written_lines, elements, is_emitted, holds_further, attributes, element_text, with_text, name_of}
use Rattle.binding_laws.proofs.TreeLemmas.{Each, each-append, each-weaker}
use Rattle.address_laws.specs.AddressTrees.{Place, Leaf, Said, a_mark, same_place, comes_before, in_order, firsts, first_of, first_at, calls_for, where_so}
use Rattle.address_laws.specs.AddressTrees.{inside, behind, behind_at, siblings, element_of, tree, said_here, currency_in, attribute_in, text_in}
use Rattle.address_laws.specs.Addresses.{Turn, turns, leaf_at, under}
use Rattle.address_laws.specs.Addressed.{have_terms}
use Rattle.address_laws.proofs.Orders.{In, Rising, in_order-is}
use Rattle.address_laws.proofs.Items.{Item, tails, plan_from, Of, LineOf, Rises, Higher, HasLine, FirstIn, HasFirst, made}
use Rattle.address_laws.proofs.Turns.{place_of, turns-rising, turn-contexts}
use Rattle.address_laws.proofs.Walks.{all_leaves, own, own_along, own_said, all_marked, marked, mark_of, further, all-inside, all-says, cell_says, present-is}
use Rattle.address_laws.proofs.Walks.{calls}
use Rattle.address_laws.proofs.Constants.{tails-distinct, each-of_in}
use Rattle.address_laws.proofs.Emitted.{texts-said, attributes-said, called-emitted, holds-further, constants-due, Fits}
use Rattle.address_laws.proofs.Levels.{Level, level-rest, level-inside, fits-here}

-- ---- the places of lines

abbrev pub places : List Entry → Context → Plan → List Place
places es c nothing = []
places es c (a_line s cells inside rest) = map (place_of s) (turns es c s.group) ++ places es c rest

numbers-before : (m n k j : ℕ) → m < n → (nat_lt m n || ((m == n) && nat_lt k j)) ≡ true
numbers-before m n k j l = grind (arith, nat_tests)

turns-above : (p : Place) (s : Step) (ts : List Turn) → p.step.number < s.number → Each (λ q. comes_before p q ≡ true) (map (place_of s) ts)
turns-above p s [] l = tt
turns-above p s (t ∷ ts) l = (numbers-before p.step.number s.number p.occurrence t.occurrence l, turns-above p s ts l)

places-above : (es : List Entry) (c : Context) (p : Place) (plan : Plan) → Higher p.step.number plan → Each (λ q. comes_before p q ≡ true) (places es c plan)
places-above es c p nothing h = tt
places-above es c p (a_line s cells inside rest) h =
    each-append (λ q. comes_before p q ≡ true) (map (place_of s) (turns es c s.group)) (places es c rest) (turns-above p s (turns es c s.group) h.0)
    (places-above es c p rest h.1)

rising-append : (ps qs : List Place) → Rising ps → Rising qs → Each (λ p. Each (λ q. comes_before p q ≡ true) qs) ps → Rising (ps ++ qs)
rising-append [] qs r k h = k
rising-append (p ∷ ps) qs r k h = (each-append (λ q. comes_before p q ≡ true) ps qs r.0 h.0, rising-append ps qs r.1 k h.1)

each-turn : (P : Place → Type 0) (s : Step) (ts : List Turn) → ((t : Turn) → P (place_of s t)) → Each P (map (place_of s) ts)
each-turn P s [] h = tt
each-turn P s (t ∷ ts) h = (h t, each-turn P s ts h)

pub places-rising : (es : List Entry) (c : Context) (plan : Plan) → Rises plan → Rising (places es c plan)
places-rising es c nothing r = tt
places-rising es c (a_line s cells inside rest) r =
    rising-append (map (place_of s) (turns es c s.group)) (places es c rest) (turns-rising es s c s.group) (places-rising es c rest r.1)
    (each-turn (λ p. Each (λ q. comes_before p q ≡ true) (places es c rest)) s (turns es c s.group) (λ t. places-above es c (place_of s t) rest r.0))

in-front : {A : Type 0} (x : A) (xs ys : List A) → In x xs → In x (xs ++ ys)
in-front x [] ys k = elim k [ ]
in-front x (y ∷ xs) ys (inl e) = inl e
in-front x (y ∷ xs) ys (inr k) = inr (in-front x xs ys k)

in-back : {A : Type 0} (x : A) (xs ys : List A) → In x ys → In x (xs ++ ys)
in-back x [] ys k = k
in-back x (y ∷ xs) ys k = inr (in-back x xs ys k)

in-places : (s : Step) (t : Turn) (ts : List Turn) → In t ts → In (place_of s t) (map (place_of s) ts)
in-places s t [] k = elim k [ ]
in-places s t (u ∷ ts) (inl e) = inl (ap (place_of s) e)
in-places s t (u ∷ ts) (inr k) = inr (in-places s t ts k)

line-places : (es : List Entry) (c : Context) (u : Step) (t : Turn) (plan : Plan) → HasLine u plan → In t (turns es c u.group) →
    In (place_of u t) (places es c plan)
line-places es c u t nothing h k = elim h [ ]
line-places es c u t (a_line s cells inside rest) (inl e) k =
    in-front (place_of u t) (map (place_of s) (turns es c s.group)) (places es c rest)
    (subst (λ (v : Step). In (place_of u t) (map (place_of v) (turns es c v.group))) e (in-places u t (turns es c u.group) k))
line-places es c u t (a_line s cells inside rest) (inr h) k = in-back (place_of u t) (map (place_of s) (turns es c s.group)) (places es c rest)
    (line-places es c u t rest h k)

-- ---- the places with which leaves begin

module _ (P : Place → Type 0) where
  firsts-append : (xs ys : List Leaf) → Each P (firsts xs) → Each P (firsts ys) → Each P (firsts (xs ++ ys))
  firsts-append [] ys h k = k
  firsts-append (leaf ∷ xs) ys h k = parts (first_of leaf) (firsts xs) (firsts (xs ++ ys)) h (λ m. firsts-append xs ys m k)
    where
      parts : (as' bs cs : List Place) → Each P (as' ++ bs) → (Each P bs → Each P cs) → Each P (as' ++ cs)
      parts [] bs cs h f = f h
      parts (a ∷ as') bs cs h f = (h.0, parts as' bs cs h.1 f)

  firsts-each : {X : Type 0} (f : X → List Leaf) (xs : List X) → Each (λ x. Each P (firsts (f x))) xs → Each P (firsts (flat_map f xs))
  firsts-each f [] h = tt
  firsts-each f (x ∷ xs) h = firsts-append (f x) (flat_map f xs) h.0 (firsts-each f xs h.1)

  firsts-under : (s : Step) (t : Turn) (ls : List Leaf) → P (place_of s t) → Each P (firsts (map (under s t) ls))
  firsts-under s t [] h = tt
  firsts-under s t (leaf ∷ ls) h = go (calls_for leaf.said leaf.address) (firsts-under s t ls h)
    where
      go : (b : Bool) → Each P (firsts (map (under s t) ls)) → Each P (where_so b (place_of s t) ++ firsts (map (under s t) ls))
      go true k = (h, k)
      go false k = k

  firsts-here : (says : List Said) → Each P (firsts (map (leaf_at []) says))
  firsts-here [] = tt
  firsts-here (said ∷ says) = firsts-here says

  firsts-mark : (last : Option Step) → Each P (firsts (mark_of last))
  firsts-mark None = tt
  firsts-mark (Some s) = go s.always
    where
      go : (b : Bool) → Each P (firsts (where_so b (leaf_at [] a_mark)))
      go true = tt
      go false = tt

  module _ (es : List Entry) (c : Context) (plan : Plan) (there : (u : Step) (t : Turn) → HasLine u plan → In t (turns es c u.group) → P (place_of u t)) where
    firsts-turns : (u : Step) (f : Turn → List Leaf) → HasLine u plan → Each P (firsts (flat_map (λ t. map (under u t) (f t)) (turns es c u.group)))
    firsts-turns u f h =
        firsts-each (λ t. map (under u t) (f t)) (turns es c u.group)
        (each-of_in (λ t. Each P (firsts (map (under u t) (f t)))) (turns es c u.group) (λ t k. firsts-under u t (f t) (there u t h k)))

    firsts-own : (items : List Item) (above held : Bool) (last : Option Step) (path : List Step) (row : Row) → FirstIn plan path →
        Each P (firsts (own_along es items above held last c path row))
    firsts-own items above held last [] row h = firsts-here (own_said es row.content above held last c row)
    firsts-own items above held last (u ∷ path) row h =
        firsts-turns u (λ t. own_along es (tails u.number items) held (further es (tails u.number items) held u t) (Some u) t.context path row) h

    firsts-marked : (last : Option Step) (path : List Step) → FirstIn plan path → Each P (firsts (marked es last c path))
    firsts-marked last [] h = firsts-mark last
    firsts-marked last (u ∷ path) h = firsts-append (mark_of last) _ (firsts-mark last) (firsts-turns u (λ t. marked es (Some u) t.context path) h)

    pub firsts-all : (items : List Item) (above held : Bool) (last : Option Step) → Each (HasFirst plan) items →
        Each P (firsts (all_leaves es items above held last c))
    firsts-all items above held last h =
        firsts-append (own es items above held last c) (all_marked es items last c)
        (firsts-each (λ (i : Item). own_along es items above held last c i.path i.cell.row) items
        (each-weaker (HasFirst plan) (λ (i : Item). Each P (firsts (own_along es items above held last c i.path i.cell.row))) items
        (λ i k. firsts-own items above held last i.path i.cell.row k) h))
        (firsts-each (λ (i : Item). marked es last c i.path) items
        (each-weaker (HasFirst plan) (λ (i : Item). Each P (firsts (marked es last c i.path))) items (λ i k. firsts-marked last i.path k) h))

-- ---- elements

module _ (es : List Entry) (items : List Item) (top above held : Bool) (last : Option Step) (c : Context)
    (distinct : are_distinct (element_numbers (plan_from items)) ≡ true)
    (deeper : List Leaf → Forest) where
  abbrev pub whole : List Leaf
  whole = all_leaves es items above held last c

  abbrev pub present : Place → Bool
  present p = list_any (same_place p) (firsts whole)

  abbrev pub make : Place → Forest → Forest
  make p rest = element_of deeper p (inside p whole) rest

  -- what is inside each element is written by its leaves
  abbrev pub Inside : Type 0
  Inside = (p : Place) → present p ≡ true → (ts : List Item) (s : Step) (here : Bool) (d : Context) (beside : Bool) →
      inside p whole ≡ all_leaves es ts held here (Some s) d
      → are_distinct (element_numbers (plan_from ts)) ≡ true → Level es false here beside (plan_from ts) d →
      deeper (all_leaves es ts held here (Some s) d) ≡ written_lines es (plan_from ts) here d

  abbrev written_element : Step → List Cell → Plan → Context → Forest → Forest
  written_element s cells within d rest =
      an_element (name_of s.name) (attributes es s cells d)
      (with_text (element_text es cells d) (written_lines es within (holds_further es cells within held d) d)) rest

  module _ (ih : Inside) (beside : Bool) (s : Step) (cells : List Cell) (within rest : Plan) (k : Level es top held beside (a_line s cells within rest) c)
      (o : LineOf cells within (tails s.number items)) (has : HasLine s (plan_from items)) where
    inner : are_distinct (element_numbers (plan_from (tails s.number items))) ≡ true
    inner = tails-distinct items s distinct has

    module _ (t : Turn) (among : In t (turns es c s.group)) where
      leaves-inside : inside (place_of s t) whole ≡ all_leaves es (tails s.number items) held (further es (tails s.number items) held s t) (Some s) t.context
      leaves-inside = all-inside es c (plan_from items) distinct s has t among above held last items (made items distinct).first

      fits : Fits es s cells within (tails s.number items) t held inner o.0 o.1.0 o.1.1
      fits = fits-here es top held beside s cells within rest c k (tails s.number items) t o.0 o.1.0 inner o.1.1 among

      pub present-emitted : present (place_of s t) ≡ is_emitted es s cells within held t.context
      present-emitted =
          present-is (place_of s t) whole ∙ (ap (list_any calls) leaves-inside ∙
          called-emitted es s cells within (tails s.number items) t held inner o.0 o.1.0 o.1.1 fits)

      inside-written : present (place_of s t) ≡ true
          → deeper (all_leaves es (tails s.number items) held (further es (tails s.number items) held s t) (Some s) t.context) ≡ written_lines es within
          (holds_further es cells within held t.context) t.context
      inside-written e =
          ih (place_of s t) e (tails s.number items) s (further es (tails s.number items) held s t) t.context (have_terms cells) leaves-inside inner
          (subst (λ (p : Plan). Level es false (further es (tails s.number items) held s t) (have_terms cells) p t.context) o.1.0
          (level-inside es top held beside s cells within rest c k (tails s.number items) t o.0 o.1.0 inner o.1.1 among))
          ∙ (ap (λ (p : Plan). written_lines es p (further es (tails s.number items) held s t) t.context) (sym o.1.0)
          ∙ ap (λ (b : Bool). written_lines es within b t.context) (sym (holds-further es s cells within (tails s.number items) t held inner o.0 o.1.0 o.1.1)))

      says : {A : Type 0} (of : Said → List A) → of a_mark ≡ []
          → said_here of (all_leaves es (tails s.number items) held (further es (tails s.number items) held s t) (Some s) t.context)
          ≡ flat_map (cell_says of es (tails s.number items) held (further es (tails s.number items) held s t) (Some s) t.context) cells
      says of e =
          all-says of es (tails s.number items) held (further es (tails s.number items) held s t) (Some s) t.context e
          ∙ ap (flat_map (cell_says of es (tails s.number items) held (further es (tails s.number items) held s t) (Some s) t.context)) (sym o.0)

      pub make-written : (more : Forest) → is_emitted es s cells within held t.context ≡ true →
          make (place_of s t) more ≡ written_element s cells within t.context more
      make-written more e =
          let here = further es (tails s.number items) held s t in
          let ls = all_leaves es (tails s.number items) held here (Some s) t.context in
          let dues = constants-due es s cells within (tails s.number items) t held inner o.0 o.1.0 o.1.1 fits e in
          ap (λ l. element_of deeper (place_of s t) l more) leaves-inside
          ∙ (ap (λ l. an_element (name_of s.name) l (with_text (said_here text_in ls) (deeper ls)) more)
          (ap (λ l. l ++ said_here attribute_in ls) (says currency_in refl)
          ∙ (ap (λ l. flat_map (cell_says currency_in es (tails s.number items) held here (Some s) t.context) cells ++ l) (says attribute_in refl)
          ∙ attributes-said es s t.context held here (tails s.number items) cells dues))
          ∙ (ap (λ l. an_element (name_of s.name) (attributes es s cells t.context) (with_text l (deeper ls)) more)
          (says text_in refl ∙ texts-said es s t.context held here (tails s.number items) cells dues)
          ∙ ap (λ f. an_element (name_of s.name) (attributes es s cells t.context) (with_text (element_text es cells t.context) f) more)
          (inside-written (present-emitted ∙ e))))

    turns-written : (us : List Turn) (qs : List Place) (more : Forest) → ((t : Turn) → In t us → In t (turns es c s.group)) →
        siblings make (filter present qs) ≡ more
        → siblings make (filter present (map (place_of s) us ++ qs))
        ≡ elements (is_emitted es s cells within held) (written_element s cells within) (map (λ (t : Turn). t.context) us) more
    turns-written [] qs more h e = e
    turns-written (u ∷ us) qs more h e = go (present (place_of s u)) refl (turns-written us qs more (λ t m. h t (inr m)) e)
      where
        among : In u (turns es c s.group)
        among = h u (inl refl)

        chosen : Bool → Forest
        chosen true = written_element s cells within u.context
            (elements (is_emitted es s cells within held) (written_element s cells within) (map (λ (t : Turn). t.context) us) more)
        chosen false = elements (is_emitted es s cells within held) (written_element s cells within) (map (λ (t : Turn). t.context) us) more

        go : (b : Bool) → present (place_of s u) ≡ b
            → siblings make (filter present (map (place_of s) us ++ qs)) ≡ elements (is_emitted es s cells within held) (written_element s cells within)
            (map (λ (t : Turn). t.context) us) more
            → siblings make (filter present (map (place_of s) (u ∷ us) ++ qs))
            ≡ elements (is_emitted es s cells within held) (written_element s cells within) (map (λ (t : Turn). t.context) (u ∷ us)) more
        go true f r =
            ap (λ b. siblings make (if b then place_of s u ∷ filter present (map (place_of s) us ++ qs) else filter present (map (place_of s) us ++ qs))) f
            ∙ (ap (make (place_of s u)) r
            ∙ (make-written u among (elements (is_emitted es s cells within held) (written_element s cells within) (map (λ (t : Turn). t.context) us) more)
            (sym (present-emitted u among) ∙ f)
            ∙ ap chosen (sym (sym (present-emitted u among) ∙ f))))
        go false f r =
            ap (λ b. siblings make (if b then place_of s u ∷ filter present (map (place_of s) us ++ qs) else filter present (map (place_of s) us ++ qs))) f
            ∙ (r ∙ ap chosen (sym (sym (present-emitted u among) ∙ f)))

  pub lines-written : Inside → (beside : Bool) (plan : Plan) → Of plan items → ((v : Step) → HasLine v plan → HasLine v (plan_from items)) →
      Level es top held beside plan c
      → siblings make (filter present (places es c plan)) ≡ written_lines es plan held c
  lines-written ih beside nothing o h k = refl
  lines-written ih beside (a_line s cells within rest) o h k =
      turns-written ih beside s cells within rest k o.0 (h s (inl refl)) (turns es c s.group) (places es c rest) (written_lines es rest held c) (λ t m. m)
      (lines-written ih (beside || (have_terms cells || has_terms within)) rest o.1 (λ v m. h v (inr m))
      (level-rest es top held beside s cells within rest c k))
      ∙ ap (λ cs. elements (is_emitted es s cells within held) (written_element s cells within) cs (written_lines es rest held c)) (turn-contexts es c s.group)

  -- the leaves' places in order are those of lines that are written
  pub level-written : Inside → (beside : Bool) → Level es top held beside (plan_from items) c →
      siblings make (in_order (firsts whole)) ≡ written_lines es (plan_from items) held c
  level-written ih beside k =
      let m = made items distinct in
      ap (siblings make)
      (in_order-is (firsts whole) (places es c (plan_from items)) (places-rising es c (plan_from items) m.rises)
      (firsts-all (λ p. In p (places es c (plan_from items))) es c (plan_from items)
      (λ u t h a. line-places es c u t (plan_from items) h a) items above held last m.first))
      ∙ lines-written ih beside (plan_from items) m.are (λ v h. h) k

-- ---- as deep as leaves go

abbrev pub Within : ℕ → List Place → Type 0
Within n [] = Unit {0}
Within zero (p ∷ ps) = ⊥
Within (suc n) (p ∷ ps) = Within n ps

abbrev pub Shallow : ℕ → List Leaf → Type 0
Shallow n ls = Each (λ (leaf : Leaf). Within n leaf.address) ls

shallow-firsts : (ls : List Leaf) → Shallow zero ls → firsts ls ≡ []
shallow-firsts [] h = refl
shallow-firsts (leaf ∷ ls) h = ap (λ l. l ++ firsts ls) (one leaf.address leaf.said h.0) ∙ shallow-firsts ls h.1
  where
    one : (address : List Place) (said : Said) → Within zero address → first_at address said ≡ []
    one [] said w = refl
    one (p ∷ ps) said w = elim w [ ]

shallow-inside : (n : ℕ) (p : Place) (ls : List Leaf) → Shallow (suc n) ls → Shallow n (inside p ls)
shallow-inside n p [] h = tt
shallow-inside n p (leaf ∷ ls) h = each-append (λ (l : Leaf). Within n l.address) (behind p leaf) (inside p ls) (one leaf.address leaf.said h.0)
    (shallow-inside n p ls h.1)
  where
    one : (address : List Place) (said : Said) → Within (suc n) address → Each (λ (l : Leaf). Within n l.address) (behind_at p address said)
    one [] said w = tt
    one (q ∷ rest) said w = go (same_place p q)
      where
        go : (b : Bool) → Each (λ (l : Leaf). Within n l.address) (where_so b (record { address = rest; said = said }))
        go true = (w, tt)
        go false = tt

-- The lines of rows are written as the tree of the rows' leaves.
pub tree-written : (n : ℕ) (es : List Entry) (items : List Item) (top above held beside : Bool) (last : Option Step) (c : Context) →
    are_distinct (element_numbers (plan_from items)) ≡ true
    → Level es top held beside (plan_from items) c → Shallow n (all_leaves es items above held last c) →
    tree n (all_leaves es items above held last c) ≡ written_lines es (plan_from items) held c
tree-written zero es items top above held beside last c d k w =
    let none = shallow-firsts (all_leaves es items above held last c) w in
    sym (ap (λ l. siblings (make es items top above held last c d (λ ls. no_more)) (in_order l)) none)
    ∙ level-written es items top above held last c d (λ ls. no_more)
    (λ p e ts s here x b i q l. absurd (false≢true (ap (list_any (same_place p)) (sym none) ∙ e))) beside k
tree-written (suc n) es items top above held beside last c d k w =
    level-written es items top above held last c d (tree n)
    (λ p e ts s here x b i q l. tree-written n es ts false held here b (Some s) x q l
    (subst (Shallow n) i (shallow-inside n p (all_leaves es items above held last c) w))) beside k
