-- The elements of a name in the document of an invoice, where one line of the table writes them: once for each occurrence of its group.
use Rattle.std.proofs.Common.{◌≡◌, ℕ, zero, suc, ◌+◌, ◌<◌, ◌≤◌, Bool, true, false, not, ◌&&◌, List, [], ◌∷◌, ◌++◌, length, map, filter, Some, None, refl, sym}
use Rattle.std.proofs.Common.{ap, ◌∙◌, subst, arith}
use Rattle.std.specs.Prelude.{if◌then◌else◌}
use Rattle.std.specs.List.{range_with_len}
use Rattle.std.proofs.lemmas.Bool.{false≢true}
use Rattle.std.proofs.lemmas.List.Elements.{filter-append}
use Rattle.inv_base.specs.Tree.{Forest, no_more, an_element, Name, Attribute, Node, size, nodes_of, nodes_of_attributes, document_nodes}
use Rattle.term_table.specs.declared.groups.Group.{Group}
use Rattle.term_table.specs.declared.contexts.Context.{Context}
use Rattle.term_table.specs.Contexts.{root_context}
use Rattle.inv_terms.specs.declared.entries.Entry.{Entry}
use Rattle.bind_rows.specs.declared.rows.Step.{Step}
use Rattle.bind_rows.specs.declared.rows.Row.{Row}
use Rattle.bind_table.specs.Lines.{Cell, Plan, nothing, a_line, plan_of}
use Rattle.bind_meaning.specs.Trees.{spots, name_of, attributes, with_text, element_text, line_holds, is_emitted, holds_further, elements, written_lines}
use Rattle.bind_meaning.specs.Trees.{document_of}
use Rattle.binding_laws.proofs.TreeLemmas.{Each, each-append, filter-none, element_node, Lies, document-lies, inside-lies, behind-element}
use Rattle.trial_laws.proofs.Finding.{is_called}
use Rattle.trial_laws.proofs.Walks.{is_line, group_at, cells_at, inside_at, rest_at, is_so, skip, all_fine, fine_before, two, made, IsDull, is_step, not-so}
use Rattle.trial_laws.proofs.Walks.{either-first, line-alone, skipped, none-left}

abbrev pub number : Node → ℕ
number node = node.number

-- No line has the name.
abbrev pub lacks : Name → Plan → Bool
lacks name nothing = true
lacks name (a_line s cells inside rest) = not (is_step name s) && (lacks name inside && lacks name rest)

abbrev pub lacking_step : Name → Step → Plan → Bool
lacking_step name s plan = not (is_step name s) && lacks name plan

-- ---- nodes of other names

module _ (es : List Entry) (name : Name) where
  abbrev Other : Node → Type 0
  Other x = is_called name x ≡ false

  attributes-other : (above : List ℕ) (n : ℕ) (attrs : List Attribute) → Each Other (nodes_of_attributes above n attrs)
  attributes-other above n [] = tt
  attributes-other above n (a ∷ attrs) = (refl, attributes-other above (n + 1) attrs)

  text-other : (text : List ℕ) (f : Forest) → ((above : List ℕ) (n : ℕ) → Each Other (nodes_of above n f)) → (above : List ℕ) (n : ℕ) →
      Each Other (nodes_of above n (with_text text f))
  text-other [] f h above n = h above n
  text-other (c ∷ text) f h above n = (refl, h above (n + 1))

  elements-other : (s : Step) (cells : List Cell) (plan : Plan) (held : Bool) → is_step name s ≡ false
      → ((d : Context) (further : Bool) (above : List ℕ) (n : ℕ) → Each Other (nodes_of above n (written_lines es plan further d)))
      → (p : Context → Bool) (cs : List Context) (rest : Forest) → ((above : List ℕ) (n : ℕ) → Each Other (nodes_of above n rest))
      → (above : List ℕ) (n : ℕ) → Each Other (nodes_of above n (elements p (made es s cells plan held) cs rest))
  elements-other s cells plan held apart inner p [] rest h above n = h above n
  elements-other s cells plan held apart inner p (d ∷ ds) rest h above n =
      go (p d) (elements p (made es s cells plan held) ds rest) (elements-other s cells plan held apart inner p ds rest h)
    where
      go : (b : Bool) (later : Forest) → ((above : List ℕ) (n : ℕ) → Each Other (nodes_of above n later)) →
          Each Other (nodes_of above n (elim b [ true ↦ made es s cells plan held d later | false ↦ later ]))
      go true later k =
          let attrs : List Attribute = attributes es s cells d in
          let inside : Forest = written_lines es plan (holds_further es cells plan held d) d in
          let text : List ℕ = element_text es cells d in (
            apart,
            each-append Other (nodes_of_attributes (n ∷ above) (n + 1) attrs) _ (attributes-other (n ∷ above) (n + 1) attrs)
                (each-append Other (nodes_of (n ∷ above) (n + (1 + length attrs)) (with_text text inside)) _
                (text-other text inside (inner d (holds_further es cells plan held d)) (n ∷ above) (n + (1 + length attrs)))
                (k above (n + (1 + (length attrs + size (with_text text inside)))))),
          )
      go false later k = k above n

  pub lines-other : (plan : Plan) → lacks name plan ≡ true → (held : Bool) (c : Context) (above : List ℕ) (n : ℕ) →
      Each Other (nodes_of above n (written_lines es plan held c))
  lines-other nothing ok held c above n = tt
  lines-other (a_line s cells inside rest) ok held c above n =
      let w = two (not (is_step name s)) (lacks name inside && lacks name rest) ok in
      let v = two (lacks name inside) (lacks name rest) w.1 in
      elements-other s cells inside held (not-so (is_step name s) w.0) (λ d further. lines-other inside v.0 further d) (is_emitted es s cells inside held)
      (spots es c s.group) (written_lines es rest held c)
      (lines-other rest v.1 held c) above n

  pub inside-other : (plan : Plan) → lacks name plan ≡ true → (text : List ℕ) (held : Bool) (d : Context) (above : List ℕ) (n : ℕ) →
      Each Other (nodes_of above n (with_text text (written_lines es plan held d)))
  inside-other plan ok text held d = text-other text (written_lines es plan held d) (lines-other plan ok held d)

  other-dull : (nodes : List Node) (above : List ℕ) (s : Step) (plan : Plan) (attrs : List Attribute) (text : List ℕ) (held : Bool) (d : Context) (n : ℕ)
      (rest : Forest) → lacking_step name s plan ≡ true
      → Lies nodes above n (an_element (name_of s.name) attrs (with_text text (written_lines es plan held d)) rest)
      → IsDull above (is_called name) n (name_of s.name) attrs (with_text text (written_lines es plan held d))
  other-dull nodes above s plan attrs text held d n rest ok lies =
      let w = two (not (is_step name s)) (lacks name plan) ok in
      (not-so (is_step name s) w.0, attributes-other (n ∷ above) (n + 1) attrs, inside-other plan w.1 text held d (n ∷ above) (n + (1 + length attrs)))

-- ---- one element for each occurrence

-- The numbers are those of so many lines, from the first number of a line on.
abbrev pub AreLines : (ℕ → ℕ → Type 0) → ℕ → ℕ → List ℕ → Type 0
AreLines L a zero [] = Unit {0}
AreLines L a zero (n ∷ ns) = ⊥
AreLines L a (suc k) [] = ⊥
AreLines L a (suc k) (n ∷ ns) = L a n × AreLines L (a + 1) k ns

-- an element of the name, before others
own-first : (name : Name) (above : List ℕ) (n : ℕ) (written : Name) (attrs : List Attribute) (inside rest : Forest) →
    is_called name (element_node above n written) ≡ true
    → Each (λ x. is_called name x ≡ false) (nodes_of_attributes (n ∷ above) (n + 1) attrs) →
    Each (λ x. is_called name x ≡ false) (nodes_of (n ∷ above) (n + (1 + length attrs)) inside)
    → map number (filter (is_called name) (nodes_of above n (an_element written attrs inside rest))) ≡ n ∷ map number
    (filter (is_called name) (nodes_of above (n + (1 + (length attrs + size inside))) rest))
own-first name above n written attrs inside rest so none nothing-inside =
    let t : Node → Bool = is_called name in
    let own : List Node = nodes_of_attributes (n ∷ above) (n + 1) attrs in
    let within : List Node = nodes_of (n ∷ above) (n + (1 + length attrs)) inside in
    let later : List Node = nodes_of above (n + (1 + (length attrs + size inside))) rest in
    ap (λ b. map number (if b then element_node above n written ∷ filter t (own ++ (within ++ later)) else filter t (own ++ (within ++ later)))) so
    ∙ ap (λ l. n ∷ map number l) (filter-append t own (within ++ later) ∙ (ap (λ l. l ++ filter t (within ++ later)) (filter-none t own none)
    ∙ (filter-append t within later ∙ ap (λ l. l ++ filter t later) (filter-none t within nothing-inside))))

module _ (nodes : List Node) (es : List Entry) (above : List ℕ) (name : Name) (in_line : ℕ → Context) (L : ℕ → ℕ → Type 0) where
  walked : (s : Step) (cells : List Cell) (inside : Plan) (held : Bool) → is_step name s ≡ true → lacks name inside ≡ true →
      (p : Context → Bool) (rest : Forest)
      → ((n : ℕ) → Lies nodes above n rest → filter (is_called name) (nodes_of above n rest) ≡ []) → (k a : ℕ) →
      ((i : ℕ) → a ≤ i → i < a + k → p (in_line i) ≡ true)
      → ((i n : ℕ) (later : Forest) → a ≤ i → i < a + k → Lies nodes above n (made es s cells inside held (in_line i) later) → L i n) → (n : ℕ)
      → Lies nodes above n (elements p (made es s cells inside held) (map in_line (range_with_len a k)) rest)
      → AreLines L a k (map number (filter (is_called name)
      (nodes_of above n (elements p (made es s cells inside held) (map in_line (range_with_len a k)) rest))))
  walked s cells inside held so ok p rest none zero a there line n lies = subst (λ (l : List Node). AreLines L a zero (map number l)) (sym (none n lies)) tt
  walked s cells inside held so ok p rest none (suc k) a there line n lies =
      let later : Forest = elements p (made es s cells inside held) (map in_line (range_with_len (a + 1) k)) rest in
      let here : p (in_line a) ≡ true = there a (omega arith) (omega arith) in
      let same : elements p (made es s cells inside held) (map in_line (range_with_len a (suc k))) rest ≡ made es s cells inside held (in_line a) later =
      ap (λ b. elim b [ true ↦ made es s cells inside held (in_line a) later | false ↦ later ]) here in
      let lies' : Lies nodes above n (made es s cells inside held (in_line a) later) = subst (λ (f : Forest). Lies nodes above n f) same lies in
      let attrs : List Attribute = attributes es s cells (in_line a) in
      let inner : Forest = with_text (element_text es cells (in_line a)) (written_lines es inside (holds_further es cells inside held (in_line a)) (in_line a))
      in
      let m : ℕ = n + (1 + (length attrs + size inner)) in
      let others = walked s cells inside held so ok p rest none k (a + 1) (λ i low high. there i (omega (arith, low)) (omega (arith, high)))
      (λ i j f low high l. line i j f (omega (arith, low)) (omega (arith, high)) l) m (behind-element nodes above n (name_of s.name) attrs inner later lies') in
      subst (λ (ns : List ℕ). AreLines L a (suc k) ns)
      (sym (ap (λ (f : Forest). map number (filter (is_called name) (nodes_of above n f))) same
      ∙ own-first name above n (name_of s.name) attrs inner later so (attributes-other es name (n ∷ above) (n + 1) attrs)
      (inside-other es name inside ok (element_text es cells (in_line a)) (holds_further es cells inside held (in_line a)) (in_line a) (n ∷ above)
      (n + (1 + length attrs)))))
      (line a n later (omega arith) (omega arith) lies', others)

  -- at the line of the name
  lines-at : (plan : Plan) (group : Group) (held : Bool) (c : Context) (k : ℕ) → is_line plan ≡ true → is_so (is_step name) plan ≡ true →
      group_at plan ≡ Some group → lacks name (inside_at plan) ≡ true
      → all_fine (lacking_step name) (rest_at plan) ≡ true → spots es c (Some group) ≡ map in_line (range_with_len 1 k)
      → ((i : ℕ) → 1 ≤ i → i < 1 + k → line_holds es (cells_at plan) (inside_at plan) (in_line i) ≡ true)
      → ((i n : ℕ) (written : Name) (attrs : List Attribute) (later : Forest) (further : Bool) → 1 ≤ i → i < 1 + k
      → Lies nodes above n (an_element written attrs
      (with_text (element_text es (cells_at plan) (in_line i)) (written_lines es (inside_at plan) further (in_line i))) later) → L i n)
      → (n : ℕ) → Lies nodes above n (written_lines es plan held c) →
      AreLines L 1 k (map number (filter (is_called name) (nodes_of above n (written_lines es plan held c))))
  lines-at nothing group held c k ok so grouped lack clear there holding line n lies = absurd (false≢true ok)
  lines-at (a_line s cells inside rest) group held c k ok so grouped lack clear there holding line n lies =
      let p : Context → Bool = is_emitted es s cells inside held in
      let later : Forest = written_lines es rest held c in
      let same : written_lines es (a_line s cells inside rest) held c ≡ elements p (made es s cells inside held) (map in_line (range_with_len 1 k)) later =
      ap (λ g. elements p (made es s cells inside held) (spots es c g) later) grouped ∙ ap (λ cs. elements p (made es s cells inside held) cs later) there in
      subst (λ (f : Forest). AreLines L 1 k (map number (filter (is_called name) (nodes_of above n f)))) (sym same)
      (walked s cells inside held so lack p later (λ m l. none-left nodes es above (is_called name) (is_step name) (lacking_step name)
      (other-dull es name nodes above) rest held c m clear l) k 1
      (λ i low high. either-first (line_holds es cells inside (in_line i)) (λ _. _) (holding i low high))
      (λ i m f low high l. line i m (name_of s.name) (attributes es s cells (in_line i)) f (holds_further es cells inside held (in_line i)) low high l) n
      (subst (λ (f : Forest). Lies nodes above n f) same lies))

-- ---- in the document

-- What is asked of the lines of a table: the root stands once, and what is inside it has one line of the name at its top, of a group.
pub record HasLine (name : Name) (group : Group) (plan : Plan) : Type 0 where
  pub root : is_line plan ≡ true
  pub once : group_at plan ≡ None
  pub untold : cells_at plan ≡ []
  pub alone : rest_at plan ≡ nothing
  pub other : is_so (is_step name) plan ≡ false
  pub before : fine_before (is_step name) (lacking_step name) (inside_at plan) ≡ true
  pub line : is_line (skip (is_step name) (inside_at plan)) ≡ true
  pub named : is_so (is_step name) (skip (is_step name) (inside_at plan)) ≡ true
  pub grouped : group_at (skip (is_step name) (inside_at plan)) ≡ Some group
  pub lack : lacks name (inside_at (skip (is_step name) (inside_at plan))) ≡ true
  pub behind : all_fine (lacking_step name) (rest_at (skip (is_step name) (inside_at plan))) ≡ true

module _ (es : List Entry) (name : Name) (in_line : ℕ → Context) (group : Group) where
  abbrev line_plan : Plan → Plan
  line_plan plan = skip (is_step name) (inside_at plan)

  root-lines : (plan : Plan) → HasLine name group plan → line_holds es (cells_at plan) (inside_at plan) root_context ≡ true → (k : ℕ)
      → spots es root_context (Some group) ≡ map in_line (range_with_len 1 k)
      → ((i : ℕ) → 1 ≤ i → i < 1 + k → line_holds es (cells_at (line_plan plan)) (inside_at (line_plan plan)) (in_line i) ≡ true)
      → (L : ℕ → ℕ → Type 0) → (nodes : List Node) → nodes ≡ document_nodes (written_lines es plan false root_context)
      → ((i n : ℕ) (written : Name) (attrs : List Attribute) (later : Forest) (further : Bool) → 1 ≤ i → i < 1 + k
      → Lies nodes (1 ∷ (0 ∷ [])) n (an_element written attrs
      (with_text (element_text es (cells_at (line_plan plan)) (in_line i)) (written_lines es (inside_at (line_plan plan)) further (in_line i))) later) →
      L i n)
      → AreLines L 1 k (map number (filter (is_called name) nodes))
  root-lines nothing has held k there holding L nodes is line = absurd (false≢true has.root)
  root-lines (a_line s cells inside rest) has held k there holding L nodes is line =
      let f : Forest = written_lines es (a_line s cells inside rest) false root_context in
      let further : Bool = holds_further es cells inside false root_context in
      let attrs : List Attribute = attributes es s cells root_context in
      let written : Forest = written_lines es inside further root_context in
      let same : f ≡ an_element (name_of s.name) attrs written no_more =
      line-alone es s cells inside rest false root_context has.once held
      ∙ λ i. an_element (name_of s.name) attrs (with_text (element_text es (has.untold i) root_context) written)
      (written_lines es (has.alone i) false root_context) in
      let whole : nodes ≡ document_nodes (an_element (name_of s.name) attrs written no_more) = is ∙ ap document_nodes same in
      let root-lies : Lies nodes (0 ∷ []) 1 (an_element (name_of s.name) attrs written no_more) =
      subst (λ (l : List Node). Lies l (0 ∷ []) 1 (an_element (name_of s.name) attrs written no_more)) (sym whole)
      (document-lies (an_element (name_of s.name) attrs written no_more)) in
      let lies = inside-lies nodes (0 ∷ []) 1 (name_of s.name) attrs written no_more root-lies in
      let m : ℕ = 1 + (1 + length attrs) in
      let w = skipped nodes es (1 ∷ (0 ∷ [])) (is_called name) (is_step name) (lacking_step name)
      (other-dull es name nodes (1 ∷ (0 ∷ []))) inside further root_context m has.before lies in
      let own : List Node = nodes_of_attributes (1 ∷ (0 ∷ [])) (1 + 1) attrs in
      let within : List Node = nodes_of (1 ∷ (0 ∷ [])) m written in
      let inner : filter (is_called name) nodes ≡ filter (is_called name) within =
      ap (filter (is_called name)) whole
      ∙ (ap (λ b. if b then element_node (0 ∷ []) 1 (name_of s.name) ∷ filter (is_called name) (own ++ (within ++ [])) else filter (is_called name)
      (own ++ (within ++ []))) has.other
      ∙ (filter-append (is_called name) own (within ++ []) ∙
      (ap (λ l. l ++ filter (is_called name) (within ++ [])) (filter-none (is_called name) own (attributes-other es name (1 ∷ (0 ∷ [])) (1 + 1) attrs))
      ∙ ap (filter (is_called name)) (nothing-behind within)))) in
      subst (λ (l : List Node). AreLines L 1 k (map number l)) (sym (inner ∙ w.same))
      (lines-at nodes es (1 ∷ (0 ∷ [])) name in_line L (skip (is_step name) inside) group further root_context k has.line has.named has.grouped has.lack
      has.behind there holding line w.place w.lies)
    where
      nothing-behind : (xs : List Node) → xs ++ [] ≡ xs
      nothing-behind [] = refl
      nothing-behind (x ∷ xs) = ap (λ l. x ∷ l) (nothing-behind xs)

  -- The elements of the name in the document of a table are those of the occurrences of the group, in their order.
  pub document-lines : (rows : List Row) → HasLine name group (plan_of rows) →
      line_holds es (cells_at (plan_of rows)) (inside_at (plan_of rows)) root_context ≡ true → (k : ℕ)
      → spots es root_context (Some group) ≡ map in_line (range_with_len 1 k)
      → ((i : ℕ) → 1 ≤ i → i < 1 + k → line_holds es (cells_at (line_plan (plan_of rows))) (inside_at (line_plan (plan_of rows))) (in_line i) ≡ true)
      → (L : ℕ → ℕ → Type 0)
      → ((i n : ℕ) (written : Name) (attrs : List Attribute) (later : Forest) (further : Bool) → 1 ≤ i → i < 1 + k
      → Lies (document_nodes (document_of rows es)) (1 ∷ (0 ∷ [])) n
      (an_element written attrs (with_text (element_text es (cells_at (line_plan (plan_of rows))) (in_line i))
      (written_lines es (inside_at (line_plan (plan_of rows))) further (in_line i))) later) → L i n)
      → AreLines L 1 k (map number (filter (is_called name) (document_nodes (document_of rows es))))
  unfolding document_of
  document-lines rows has held k there holding L line = root-lines (plan_of rows) has held k there holding L (document_nodes (document_of rows es)) refl line
