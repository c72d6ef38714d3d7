-- Lines of a table that are written before one of a name, and at it: which nodes pass a test.
use Rattle.std.proofs.Common.{◌≡◌, ℕ, ◌+◌, ◌<◌, Bool, true, false, not, ◌&&◌, ◌||◌, List, [], ◌∷◌, ◌++◌, length, filter, Option, Some, None, refl, ap, ◌∙◌}
use Rattle.std.proofs.Common.{subst, arith, inr}
use Rattle.std.specs.Prelude.{if◌then◌else◌}
use Rattle.std.specs.List.{list_any}
use Rattle.std.proofs.lemmas.Bool.{false≢true}
use Rattle.std.proofs.lemmas.List.Elements.{filter-append}
use Rattle.inv_base.specs.declared.tree.Kind.TheVariants as kinds
use Rattle.inv_base.specs.Tree.{Forest, no_more, an_element, Name, Attribute, Node, size, nodes_of, nodes_of_attributes}
use Rattle.node_arena.specs.Moves.{is_nearest, is_child}
use Rattle.xml_events.specs.Names.{same_name}
use Rattle.term_table.specs.declared.groups.Group.{Group}
use Rattle.term_table.specs.declared.contexts.Context.{Context}
use Rattle.inv_terms.specs.declared.entries.Entry.{Entry}
use Rattle.bind_rows.specs.declared.rows.Step.{Step}
use Rattle.bind_table.specs.Lines.{Cell, Plan, nothing, a_line}
use Rattle.bind_meaning.specs.Elements.{both, string_at}
use Rattle.bind_meaning.specs.Trees.{spots, cells_hold, either, holds, name_of, attributes, with_text, element_text, line_holds, is_emitted, holds_further}
use Rattle.bind_meaning.specs.Trees.{elements, written_lines}
use Rattle.binding_laws.proofs.TreeLemmas.{Each, each-weaker, filter-none, same-is, other-is, element_node, Lies, behind-element}
use Rattle.binding_laws.proofs.NodeLemmas.{unboth, no-child, far-forest, Holds, texts, inside-holds, string-is, and-false}
use Rattle.trial_laws.proofs.Finding.{is_called}

-- ---- lines, and what is asked of the first of some

abbrev pub is_line : Plan → Bool
is_line nothing = false
is_line (a_line s cells inside rest) = true

abbrev pub group_at : Plan → Option Group
group_at nothing = None
group_at (a_line s cells inside rest) = s.group

abbrev pub cells_at : Plan → List Cell
cells_at nothing = []
cells_at (a_line s cells inside rest) = cells

abbrev pub inside_at : Plan → Plan
inside_at nothing = nothing
inside_at (a_line s cells inside rest) = inside

abbrev pub rest_at : Plan → Plan
rest_at nothing = nothing
rest_at (a_line s cells inside rest) = rest

abbrev pub is_so : (Step → Bool) → Plan → Bool
is_so stop nothing = false
is_so stop (a_line s cells inside rest) = stop s

-- the lines from the first on that is so
abbrev pub skip : (Step → Bool) → Plan → Plan
skip stop nothing = nothing
skip stop (a_line s cells inside rest) = elim (stop s) [ true ↦ a_line s cells inside rest | false ↦ skip stop rest ]

-- All lines are fine, or all before the first that is so.
abbrev pub all_fine : (Step → Plan → Bool) → Plan → Bool
all_fine fine nothing = true
all_fine fine (a_line s cells inside rest) = fine s inside && all_fine fine rest

abbrev pub fine_before : (Step → Bool) → (Step → Plan → Bool) → Plan → Bool
fine_before stop fine nothing = true
fine_before stop fine (a_line s cells inside rest) = elim (stop s) [ true ↦ true | false ↦ fine s inside && fine_before stop fine rest ]

pub two : (a b : Bool) → (a && b) ≡ true → (a ≡ true) × (b ≡ true)
two true b h = (refl, h)
two false b h = absurd (false≢true h)

-- ---- nodes of lines that are passed

-- what a line writes in a context, before others
abbrev pub made : List Entry → Step → List Cell → Plan → Bool → Context → Forest → Forest
made es s cells inside held d rest =
    an_element (name_of s.name) (attributes es s cells d)
    (with_text (element_text es cells d) (written_lines es inside (holds_further es cells inside held d) d)) rest

-- From a number on a forest lies that has the same nodes that pass.
pub record Reaches (nodes : List Node) (above : List ℕ) (t : Node → Bool) (n : ℕ) (f g : Forest) : Type 0 where
  pub place : ℕ
  pub lies : Lies nodes above place g
  pub same : filter t (nodes_of above n f) ≡ filter t (nodes_of above place g)

-- None of an element's nodes passes.
abbrev pub IsDull : List ℕ → (Node → Bool) → ℕ → Name → List Attribute → Forest → Type 0
IsDull above t n name attrs inside =
    (t (element_node above n name) ≡ false)
    × Each (λ x. t x ≡ false) (nodes_of_attributes (n ∷ above) (n + 1) attrs)
    × Each (λ x. t x ≡ false) (nodes_of (n ∷ above) (n + (1 + length attrs)) inside)

dull-passed : (above : List ℕ) (t : Node → Bool) (n : ℕ) (name : Name) (attrs : List Attribute) (inside rest : Forest) → IsDull above t n name attrs inside
    → filter t (nodes_of above n (an_element name attrs inside rest)) ≡ filter t (nodes_of above (n + (1 + (length attrs + size inside))) rest)
dull-passed above t n name attrs inside rest dull =
    let own : List Node = nodes_of_attributes (n ∷ above) (n + 1) attrs in
    let within : List Node = nodes_of (n ∷ above) (n + (1 + length attrs)) inside in
    let later : List Node = nodes_of above (n + (1 + (length attrs + size inside))) rest in
    ap (λ b. if b then element_node above n name ∷ filter t (own ++ (within ++ later)) else filter t (own ++ (within ++ later))) dull.0
    ∙ (filter-append t own (within ++ later) ∙ (ap (λ l. l ++ filter t (within ++ later)) (filter-none t own dull.1)
    ∙ (filter-append t within later ∙ ap (λ l. l ++ filter t later) (filter-none t within dull.2))))

module _ (nodes : List Node) (es : List Entry) (above : List ℕ) (t : Node → Bool) (stop : Step → Bool) (fine : Step → Plan → Bool)
    (dull : (s : Step) (plan : Plan) (attrs : List Attribute) (text : List ℕ) (held : Bool) (d : Context) (n : ℕ) (rest : Forest) → fine s plan ≡ true
    → Lies nodes above n (an_element (name_of s.name) attrs (with_text text (written_lines es plan held d)) rest)
    → IsDull above t n (name_of s.name) attrs (with_text text (written_lines es plan held d))) where
  elements-passed : (s : Step) (cells : List Cell) (plan : Plan) (held : Bool) → fine s plan ≡ true →
      (p : Context → Bool) (cs : List Context) (rest : Forest) (n : ℕ)
      → Lies nodes above n (elements p (made es s cells plan held) cs rest) → Reaches nodes above t n (elements p (made es s cells plan held) cs rest) rest
  elements-passed s cells plan held ok p [] rest n lies = record { place = n; lies = lies; same = refl }
  elements-passed s cells plan held ok p (d ∷ ds) rest n lies =
      go (elements p (made es s cells plan held) ds rest) (p d) (λ m l. elements-passed s cells plan held ok p ds rest m l) lies
    where
      go : (later : Forest) (b : Bool) → ((m : ℕ) → Lies nodes above m later → Reaches nodes above t m later rest) →
          Lies nodes above n (elim b [ true ↦ made es s cells plan held d later | false ↦ later ])
          → Reaches nodes above t n (elim b [ true ↦ made es s cells plan held d later | false ↦ later ]) rest
      go later true on l =
          let attrs : List Attribute = attributes es s cells d in
          let inside : Forest = with_text (element_text es cells d) (written_lines es plan (holds_further es cells plan held d) d) in
          let next = on (n + (1 + (length attrs + size inside))) (behind-element nodes above n (name_of s.name) attrs inside later l) in
          record {
            place = next.place;
            lies = next.lies;
            same = dull-passed above t n (name_of s.name) attrs inside later
                (dull s plan attrs (element_text es cells d) (holds_further es cells plan held d) d n later ok l) ∙ next.same;
          }
      go later false on l = on n l

  then-reaches : (n : ℕ) (f g h : Forest) → Reaches nodes above t n f g → ((m : ℕ) → Lies nodes above m g → Reaches nodes above t m g h) →
      Reaches nodes above t n f h
  then-reaches n f g h one on = let next = on one.place one.lies in record { place = next.place; lies = next.lies; same = one.same ∙ next.same }

  -- what is written from the line on that is so
  pub skipped : (plan : Plan) (held : Bool) (c : Context) (n : ℕ) → fine_before stop fine plan ≡ true → Lies nodes above n (written_lines es plan held c)
      → Reaches nodes above t n (written_lines es plan held c) (written_lines es (skip stop plan) held c)
  skipped nothing held c n ok lies = record { place = n; lies = lies; same = refl }
  skipped (a_line s cells inside rest) held c n ok lies = go (written_lines es (a_line s cells inside rest) held c) refl (stop s) ok
      (λ m k l. skipped rest held c m k l)
    where
      go : (whole : Forest) → whole ≡ written_lines es (a_line s cells inside rest) held c → (b : Bool) →
          elim b [ true ↦ true | false ↦ fine s inside && fine_before stop fine rest ] ≡ true
          → ((m : ℕ) → fine_before stop fine rest ≡ true → Lies nodes above m (written_lines es rest held c) →
          Reaches nodes above t m (written_lines es rest held c) (written_lines es (skip stop rest) held c))
          → Reaches nodes above t n whole (written_lines es (elim b [ true ↦ a_line s cells inside rest | false ↦ skip stop rest ]) held c)
      go whole is true k on = record {
        place = n;
        lies = subst (λ (f : Forest). Lies nodes above n f) refl lies;
        same =
            ap (λ (f : Forest). filter t (nodes_of above n f)) is;
      }
      go whole is false k on =
          let w = two (fine s inside) (fine_before stop fine rest) k in
          then-reaches n whole (written_lines es rest held c) (written_lines es (skip stop rest) held c)
          (moved whole is (elements-passed s cells inside held w.0 (is_emitted es s cells inside held) (spots es c s.group)
          (written_lines es rest held c) n lies)) (λ m l. on m w.1 l)
        where
          moved : (f : Forest) → f ≡ written_lines es (a_line s cells inside rest) held c →
              Reaches nodes above t n (written_lines es (a_line s cells inside rest) held c) (written_lines es rest held c)
              → Reaches nodes above t n f (written_lines es rest held c)
          moved f e r = record { place = r.place; lies = r.lies; same = ap (λ (g : Forest). filter t (nodes_of above n g)) e ∙ r.same }

  -- nothing passes where all lines are fine
  pub none-left : (plan : Plan) (held : Bool) (c : Context) (n : ℕ) → all_fine fine plan ≡ true → Lies nodes above n (written_lines es plan held c) →
      filter t (nodes_of above n (written_lines es plan held c)) ≡ []
  none-left nothing held c n ok lies = refl
  none-left (a_line s cells inside rest) held c n ok lies =
      let w = two (fine s inside) (all_fine fine rest) ok in
      let next = elements-passed s cells inside held w.0 (is_emitted es s cells inside held) (spots es c s.group) (written_lines es rest held c) n lies in
      next.same ∙ none-left rest held c next.place w.1 next.lies

-- ---- a line that stands once in its context

pub either-true : (b : Bool) (f : Unit {0} → Bool) → f tt ≡ true → either b f ≡ true
either-true true f h = refl
either-true false f h = h

pub either-first : (b : Bool) (f : Unit {0} → Bool) → b ≡ true → either b f ≡ true
either-first b f h = ap (λ a. either a f) h

pub line-alone : (es : List Entry) (s : Step) (cells : List Cell) (inside rest : Plan) (held : Bool) (c : Context) → s.group ≡ None →
    line_holds es cells inside c ≡ true
    → written_lines es (a_line s cells inside rest) held c ≡ made es s cells inside held c (written_lines es rest held c)
line-alone es s cells inside rest held c none holding =
    let later : Forest = written_lines es rest held c in
    ap (λ g. elements (is_emitted es s cells inside held) (made es s cells inside held) (spots es c g) later) none
    ∙ ap (λ b. elim b [ true ↦ made es s cells inside held c later | false ↦ later ]) (either-first (line_holds es cells inside c) (λ _. _) holding)

-- lines hold an entry where the first does
pub first-holds : (es : List Entry) (plan : Plan) (c : Context) → is_line plan ≡ true → group_at plan ≡ None → cells_hold es (cells_at plan) c ≡ true →
    holds es plan c ≡ true
first-holds es nothing c ok none h = absurd (false≢true ok)
first-holds es (a_line s cells inside rest) c ok none h =
    ap (λ g. either (list_any (λ d. either (cells_hold es cells d) (λ _. holds es inside d)) (spots es c g)) (λ _. holds es rest c)) none
    ∙ ap (λ b. either (either b (λ _. holds es inside c) || false) (λ _. holds es rest c)) h

-- ---- the one child of a name

abbrev pub is_step : Name → Step → Bool
is_step name s = same_name (name_of s.name) name

abbrev pub other_step : Name → Step → Plan → Bool
other_step name s plan = not (is_step name s)

pub not-so : (b : Bool) → not b ≡ true → b ≡ false
not-so true h = absurd (false≢true h)
not-so false h = refl

second-false : (p q : Node → Bool) (x : Node) → q x ≡ false → both p q x ≡ false
second-false p q x h = go (p x) h
  where
    go : (b : Bool) → q x ≡ false → elim b [ true ↦ q x | false ↦ false ] ≡ false
    go true e = e
    go false e = refl

-- attributes are no children
attributes-no-children : (p n : ℕ) (above : List ℕ) (q : Node → Bool) (attributes : List Attribute) →
    Each (λ x. both (is_child p) q x ≡ false) (nodes_of_attributes above n attributes)
attributes-no-children p n above q [] = tt
attributes-no-children p n above q (a ∷ others) = (
  ap (λ b. elim b [ true ↦ q (record { number = n; kind = kinds.Attribute; name = Some a.name; above = above; text = a.value }) | false ↦ false ])
      (and-false (is_nearest p above)),
  attributes-no-children p (n + 1) above q others,
)

-- The one child of a node that has the name is this element.
pub record IsOnlyChild (nodes : List Node) (p : ℕ) (more : List ℕ) (name : Name) (text : List ℕ) (inside : Forest) : Type 0 where
  pub place : ℕ
  pub written : Name
  pub attrs : List Attribute
  pub rest : Forest
  pub lies : Lies nodes (p ∷ more) place (an_element written attrs (with_text text inside) rest)
  pub only : filter (both (is_child p) (is_called name)) nodes ≡ element_node (p ∷ more) place written ∷ []

module _ (nodes : List Node) (es : List Entry) (p : ℕ) (more : List ℕ) (name : Name) where
  abbrev named : Node → Bool
  named = both (is_child p) (is_called name)

  within-dull : (n : ℕ) (attrs : List Attribute) (inside : Forest) → p < n
      → Each (λ x. named x ≡ false) (nodes_of_attributes (n ∷ (p ∷ more)) (n + 1) attrs) ×
      Each (λ x. named x ≡ false) (nodes_of (n ∷ (p ∷ more)) (n + (1 + length attrs)) inside)
  within-dull n attrs inside l = (
    attributes-no-children p (n + 1) (n ∷ (p ∷ more)) (is_called name) attrs,
    each-weaker (λ (x : Node). is_nearest p x.above ≡ false) (λ x. named x ≡ false) (nodes_of (n ∷ (p ∷ more)) (n + (1 + length attrs)) inside)
        (λ x h. unboth (is_child p) (is_called name) x (no-child p x h))
        (far-forest p (n + (1 + length attrs)) (n ∷ (p ∷ more)) inside (other-is n p (inr l)) (omega (arith, l))),
  )

  child-dull : (s : Step) (plan : Plan) (attrs : List Attribute) (text : List ℕ) (held : Bool) (d : Context) (n : ℕ) (rest : Forest) →
      other_step name s plan ≡ true
      → Lies nodes (p ∷ more) n (an_element (name_of s.name) attrs (with_text text (written_lines es plan held d)) rest)
      → IsDull (p ∷ more) named n (name_of s.name) attrs (with_text text (written_lines es plan held d))
  child-dull s plan attrs text held d n rest ok lies =
      let w = within-dull n attrs (with_text text (written_lines es plan held d)) lies.older.0 in
      (second-false (is_child p) (is_called name) (element_node (p ∷ more) n (name_of s.name)) (not-so (is_step name s) ok), w.0, w.1)

  -- what is written at a line of the name, where it stands once and no other is so named
  at-line : (plan : Plan) (held : Bool) (c : Context) (n : ℕ) → is_line plan ≡ true → is_so (is_step name) plan ≡ true → group_at plan ≡ None →
      line_holds es (cells_at plan) (inside_at plan) c ≡ true
      → all_fine (other_step name) (rest_at plan) ≡ true → Lies nodes (p ∷ more) n (written_lines es plan held c)
      → filter named nodes ≡ filter named (nodes_of (p ∷ more) n (written_lines es plan held c))
      → IsOnlyChild nodes p more name (element_text es (cells_at plan) c)
      (written_lines es (inside_at plan) (holds_further es (cells_at plan) (inside_at plan) held c) c)
  at-line nothing held c n ok so none holding clear lies alone = absurd (false≢true ok)
  at-line (a_line s cells inside rest) held c n ok so none holding clear lies alone =
      let same = line-alone es s cells inside rest held c none holding in
      let later : Forest = written_lines es rest held c in
      let attrs : List Attribute = attributes es s cells c in
      let inner : Forest = with_text (element_text es cells c) (written_lines es inside (holds_further es cells inside held c) c) in
      let there : Lies nodes (p ∷ more) n (an_element (name_of s.name) attrs inner later) = subst (λ (f : Forest). Lies nodes (p ∷ more) n f) same lies in
      let near : p < n = there.older.0 in
      let w = within-dull n attrs inner near in
      let own : List Node = nodes_of_attributes (n ∷ (p ∷ more)) (n + 1) attrs in
      let within : List Node = nodes_of (n ∷ (p ∷ more)) (n + (1 + length attrs)) inner in
      let behind : List Node = nodes_of (p ∷ more) (n + (1 + (length attrs + size inner))) later in
      let el : Node = element_node (p ∷ more) n (name_of s.name) in
      let here : named el ≡ true = λ i. elim (child-of p more n (name_of s.name) i) [ true ↦ so i | false ↦ false ] in
      let nothing-more : filter named (own ++ (within ++ behind)) ≡ [] =
      filter-append named own (within ++ behind) ∙ (ap (λ l. l ++ filter named (within ++ behind)) (filter-none named own w.0)
      ∙ (filter-append named within behind ∙ (ap (λ l. l ++ filter named behind) (filter-none named within w.1)
      ∙ none-left nodes es (p ∷ more) named (is_step name) (other_step name) child-dull rest held c (n + (1 + (length attrs + size inner))) clear
      (behind-element nodes (p ∷ more) n (name_of s.name) attrs inner later there)))) in
      record {
        place = n;
        written = name_of s.name;
        attrs = attrs;
        rest = later;
        lies = there;
        only = alone ∙ (ap (λ (f : Forest). filter named (nodes_of (p ∷ more) n f)) same
            ∙ (ap (λ b. if b then el ∷ filter named (own ++ (within ++ behind)) else filter named (own ++ (within ++ behind))) here ∙
            ap (λ l. el ∷ l) nothing-more));
      }
    where
      child-of : (k : ℕ) (others : List ℕ) (n : ℕ) (e : Name) → is_child k (element_node (k ∷ others) n e) ≡ true
      child-of k others n e = ap (λ b. b && true) (same-is k)

  -- the same from the front of the lines on
  pub only-child : (plan : Plan) (held : Bool) (c : Context) (n : ℕ) → fine_before (is_step name) (other_step name) plan ≡ true →
      is_line (skip (is_step name) plan) ≡ true
      → is_so (is_step name) (skip (is_step name) plan) ≡ true → group_at (skip (is_step name) plan) ≡ None
      → line_holds es (cells_at (skip (is_step name) plan)) (inside_at (skip (is_step name) plan)) c ≡ true →
      all_fine (other_step name) (rest_at (skip (is_step name) plan)) ≡ true
      → Holds nodes p more n (written_lines es plan held c)
      → IsOnlyChild nodes p more name (element_text es (cells_at (skip (is_step name) plan)) c)
      (written_lines es (inside_at (skip (is_step name) plan))
      (holds_further es (cells_at (skip (is_step name) plan)) (inside_at (skip (is_step name) plan)) held c) c)
  only-child plan held c n before ok so none holding clear within =
      let w = skipped nodes es (p ∷ more) named (is_step name) (other_step name) child-dull plan held c n before within.lies in
      at-line (skip (is_step name) plan) held c w.place ok so none holding clear w.lies (within.alone (is_called name) ∙ w.same)

-- its string, where it is a leaf
texts-alone : (text : List ℕ) → texts (with_text text no_more) ≡ text
texts-alone [] = refl
texts-alone (c ∷ text) = nothing-behind (c ∷ text)
  where
    nothing-behind : (xs : List ℕ) → xs ++ [] ≡ xs
    nothing-behind [] = refl
    nothing-behind (x ∷ xs) = ap (λ l. x ∷ l) (nothing-behind xs)

pub leaf-string : (nodes : List Node) (p : ℕ) (more : List ℕ) (name : Name) (text : List ℕ) → (one : IsOnlyChild nodes p more name text no_more) →
    string_at nodes one.place ≡ text
leaf-string nodes p more name text one = string-is nodes (p ∷ more) one.place one.written one.attrs (with_text text no_more) one.rest one.lies ∙
    texts-alone text

-- and all that is inside it
pub child-holds : (nodes : List Node) (p : ℕ) (more : List ℕ) (name : Name) (inside : Forest) → (one : IsOnlyChild nodes p more name [] inside)
    → Holds nodes one.place (p ∷ more) (one.place + (1 + length one.attrs)) inside
child-holds nodes p more name inside one = inside-holds nodes (p ∷ more) one.place one.written one.attrs inside one.rest one.lies
