-- The calls of the walk over lines are those of the document's tree.
use Rattle.std.proofs.Common.{◌≡◌, ℕ, Bool, true, false, ◌&&◌, ◌||◌, List, [], ◌∷◌, ◌++◌, length, ◌<◌, map, Option, Some, None, refl, ap, sym, ◌∙◌, subst}
use Rattle.std.proofs.Common.{arith, append_assoc}
use Rattle.std.specs.Prelude.{slice_get, flat_map, encode_utf8_all}
use Rattle.std.specs.List.{list_any, list_all}
use Rattle.std.proofs.lemmas.List.{map-append}
use Rattle.std.proofs.lemmas.Str.{encodes-append, length-le-encodes}
use Rattle.std.proofs.Common.{Result}
use Rattle.std.specs.Result.{IsErr}
use Rattle.inv_base.specs.Outside.{SinkView}
use Rattle.xml_write.specs.Writers.{WriterView, Made, Broke, Makes}
use Rattle.xml_write.proofs.WriterLemmas.{Makes-at_err}
use Rattle.bind_write.specs.declared.source.Source.{Source}
use Rattle.bind_write.specs.Sources.{Sees}
use Rattle.bind_write.proofs.WriterSteps.{Ahead, Makes-same, same_left, step, break, end}
use Rattle.inv_base.specs.Tree.{Forest, an_element, Attribute}
use Rattle.term_table.specs.declared.contexts.Context.{Context}
use Rattle.term_table.specs.Contexts.{root_context}
use Rattle.inv_terms.specs.declared.entries.Entry.{Entry}
use Rattle.inv_terms.specs.declared.values.Value.{Value}
use Rattle.inv_terms.specs.Listing.{value_in}
use Rattle.inv_terms.specs.Values.{spelled}
use Rattle.xml_write.specs.Canonical.{Declaration, element_name, attribute_name, qualified}
use Rattle.xml_write.specs.Calls.{Call, call_attribute, call_text, call_start, call_end, encoded, attribute_calls, calls_inside}
use Rattle.bind_rows.specs.declared.names.Leaf.{Leaf}
use Rattle.bind_rows.specs.declared.names.Leaf.TheVariants as leaves
use Rattle.bind_rows.specs.declared.names.Namespace.{Namespace}
use Rattle.bind_rows.specs.declared.names.Namespace.TheVariants as spaces
use Rattle.bind_rows.specs.declared.rows.Row.{Row}
use Rattle.bind_rows.specs.declared.rows.Step.{Step}
use Rattle.bind_table.specs.declared.lines.Line.{Line}
use Rattle.bind_table.specs.Lines.{Plan, Cell, nothing, a_line, numbers}
use Rattle.bind_table.specs.Laid.{is_declared, all_writable, is_ncname, is_writable_leaf}
use Rattle.bind_rows.specs.Namespaces as names
use Rattle.bind_rows.specs.Namespaces.{declarations_of}
use Rattle.bind_meaning.specs.Currencies.{currency_id}
use Rattle.bind_meaning.specs.Trees as trees
use Rattle.bind_write.specs.Cells as cells
use Rattle.bind_write.specs.Cells.{currency_at, attribute_at, text_of, text_calls, calls_if, bytes_if, bytes_or_none}
use Rattle.bind_write.specs.Holding.{AreCellsOf, IsLineOf, standing, standing_by}
use Rattle.bind_write.specs.Walking.{plan_calls, element_calls, if_standing, around, cells_calls, start_calls, end_calls, name_bytes}

-- ---- numbers and cells

pub flat_map-cells : {A : Type 0} (f : Option Row → List A) (rows : List Row) (cs : List Cell) → AreCellsOf rows cs
    → flat_map (λ n. f (slice_get rows n)) (numbers cs) ≡ flat_map (λ (cell : Cell). f (Some cell.row)) cs
flat_map-cells f rows [] a = refl
flat_map-cells f rows (cell ∷ cs) a = ap (λ x. f x ++ flat_map (λ n. f (slice_get rows n)) (numbers cs)) a.0 ∙
    ap (λ y. f (Some cell.row) ++ y) (flat_map-cells f rows cs a.1)

pub list_any-cells : (f : Option Row → Bool) (rows : List Row) (cs : List Cell) → AreCellsOf rows cs
    → list_any (λ n. f (slice_get rows n)) (numbers cs) ≡ list_any (λ (cell : Cell). f (Some cell.row)) cs
list_any-cells f rows [] a = refl
list_any-cells f rows (cell ∷ cs) a = ap (λ x. f x || list_any (λ n. f (slice_get rows n)) (numbers cs)) a.0 ∙
    ap (λ y. f (Some cell.row) || y) (list_any-cells f rows cs a.1)

-- ---- names

namespace_name : (root space : Namespace) (local : List ℕ) → is_declared root space ≡ true
    → element_name (declarations_of root) (record { uri = names.uri_of space; local = local }) ≡ qualified (names.prefix_of space) local
namespace_name spaces.UblInvoice spaces.UblInvoice local e = refl
namespace_name spaces.UblInvoice spaces.UblAggregate local e = refl
namespace_name spaces.UblInvoice spaces.UblBasic local e = refl
namespace_name spaces.UblCreditNote spaces.UblCreditNote local e = refl
namespace_name spaces.UblCreditNote spaces.UblAggregate local e = refl
namespace_name spaces.UblCreditNote spaces.UblBasic local e = refl
namespace_name spaces.CiiInvoice spaces.CiiInvoice local e = refl
namespace_name spaces.CiiInvoice spaces.CiiAggregate local e = refl
namespace_name spaces.CiiInvoice spaces.CiiUnqualified local e = refl
namespace_name spaces.CiiInvoice spaces.CiiQualified local e = refl
namespace_name _ _ local e = cc

both : (a b : Bool) → (a && b) ≡ true → (a ≡ true) × (b ≡ true)
both true b e = (refl, e)
both false b e = cc

-- ---- attributes

as_call : List Declaration → Attribute → Call
as_call ds a = encoded (call_attribute (attribute_name ds a.name) a.value)

attribute_calls-encoded : (ds : List Declaration) (xs : List Attribute) → map encoded (attribute_calls ds xs) ≡ map (as_call ds) xs
unfolding as_call
attribute_calls-encoded ds [] = refl
attribute_calls-encoded ds (a ∷ xs) = ap (λ x. as_call ds a ∷ x) (attribute_calls-encoded ds xs)

map-flat_map : {A B C : Type 0} (h : B → C) (f : A → List B) (g : A → List C) → ((x : A) → map h (f x) ≡ g x) → (xs : List A) →
    map h (flat_map f xs) ≡ flat_map g xs
map-flat_map h f g e [] = refl
map-flat_map h f g e (x ∷ xs) = map-append h (f x) (flat_map f xs) ∙ (ap (λ y. y ++ map h (flat_map f xs)) (e x) ∙ ap (λ y. g x ++ y) (map-flat_map h f g e xs))

by_leaf : (ds : List Declaration) (leaf : Leaf) (t : Option (List ℕ))
    → map (as_call ds) (elim leaf [ leaves.Element ↦ [] | (leaves.Attribute local) ↦ elim t [ None ↦ [] | Some text ↦ trees.attribute local text ∷ [] ] ]) ≡
    cells.leaf_calls leaf t
unfolding as_call
by_leaf ds leaves.Element t = refl
by_leaf ds (leaves.Attribute local) None = refl
by_leaf ds (leaves.Attribute local) (Some text) = refl

by_currency : (ds : List Declaration) (b : Bool) (v : Option Value)
    → map (as_call ds) (elim b [ true ↦ elim v [ None ↦ [] | Some value ↦ trees.attribute currency_id (spelled value) ∷ [] ] | false ↦ [] ]) ≡ calls_if b
    (cells.currency_with v)
unfolding as_call
by_currency ds true None = refl
by_currency ds true (Some value) = refl
by_currency ds false v = refl

pub all_attributes : (ds : List Declaration) (es : List Entry) (s : Step) (cs : List Cell) (c : Context)
    → map encoded (attribute_calls ds (trees.attributes es s cs c)) ≡ flat_map (λ (cell : Cell). currency_at es s c (Some cell.row)) cs ++
    flat_map (λ (cell : Cell). attribute_at es c (Some cell.row)) cs
all_attributes ds es s cs c =
    let first = flat_map (trees.currency_of_cell es s c) cs in
    let second = flat_map (trees.attribute_of_cell es c) cs in
    attribute_calls-encoded ds (first ++ second)
    ∙ (map-append (as_call ds) first second
    ∙ (ap (λ x. x ++ map (as_call ds) second) (map-flat_map (as_call ds) (trees.currency_of_cell es s c) (λ (cell : Cell). currency_at es s c (Some cell.row))
    (λ cell. by_currency ds (cells.shows_currency es s c cell.row) (value_in es (trees.currency_term cell.row.written) root_context)) cs)
    ∙ ap (λ x. flat_map (λ (cell : Cell). currency_at es s c (Some cell.row)) cs ++ x)
    (map-flat_map (as_call ds) (trees.attribute_of_cell es c) (λ (cell : Cell). attribute_at es c (Some cell.row))
    (λ cell. by_leaf ds cell.row.leaf (trees.constant_or_text es c cell.row)) cs)))

-- ---- texts

by_text : (b : Bool) (t : Option (List ℕ)) → encode_utf8_all (elim b [ true ↦ elim t [ None ↦ [] | Some text ↦ text ] | false ↦ [] ]) ≡ bytes_if b
    (bytes_or_none t)
by_text true None = refl
by_text true (Some text) = refl
by_text false t = refl

encode-flat_map : {A : Type 0} (f g : A → List ℕ) → ((x : A) → encode_utf8_all (f x) ≡ g x) → (xs : List A) → encode_utf8_all (flat_map f xs) ≡ flat_map g xs
encode-flat_map f g e [] = refl
encode-flat_map f g e (x ∷ xs) = encodes-append (f x) (flat_map f xs) ∙
    (ap (λ y. y ++ encode_utf8_all (flat_map f xs)) (e x) ∙ ap (λ y. g x ++ y) (encode-flat_map f g e xs))

pub all_texts : (es : List Entry) (cs : List Cell) (c : Context) →
    encode_utf8_all (trees.element_text es cs c) ≡ flat_map (λ (cell : Cell). text_of es c (Some cell.row)) cs
all_texts es cs c = encode-flat_map (trees.text_of_cell es c) (λ (cell : Cell). text_of es c (Some cell.row))
    (λ cell. by_text (cells.is_at_element cell.row) (trees.constant_or_text es c cell.row)) cs

text_calls-full : (bytes : List ℕ) → 0 < length bytes → text_calls bytes ≡ call_text bytes ∷ []
text_calls-full [] h = absurd (omega arith)
text_calls-full (b ∷ bytes) h = refl

pub text-inside : (ds : List Declaration) (text : List ℕ) (inside : Forest)
    → map encoded (calls_inside ds (trees.with_text text inside)) ≡ text_calls (encode_utf8_all text) ++ map encoded (calls_inside ds inside)
text-inside ds [] inside = refl
text-inside ds (c ∷ text) inside =
    let long = length-le-encodes (c ∷ text) in
    let h : 0 < length (encode_utf8_all (c ∷ text)) = omega (arith, long) in
    ap (λ x. x ++ map encoded (calls_inside ds inside)) (sym (text_calls-full (encode_utf8_all (c ∷ text)) h))

-- ---- elements

module _ (ds : List Declaration) (is_there : Context → Bool) (make : Context → Forest → Forest) (own : Context → List Call)
    (made : (c : Context) (f : Forest) → map encoded (calls_inside ds (make c f)) ≡ own c ++ map encoded (calls_inside ds f)) where
  one_element : (b : Bool) (c : Context) (f : Forest) (others : List Call) → map encoded (calls_inside ds f) ≡ others
      → map encoded (calls_inside ds (elim b [ true ↦ make c f | false ↦ f ])) ≡ calls_if b (own c) ++ others
  one_element true c f others e = made c f ∙ ap (λ x. own c ++ x) e
  one_element false c f others e = e

  all_elements : (cs : List Context) (rest : Forest)
      → map encoded (calls_inside ds (trees.elements is_there make cs rest)) ≡ flat_map (λ c. calls_if (is_there c) (own c)) cs ++
      map encoded (calls_inside ds rest)
  all_elements [] rest = refl
  all_elements (c ∷ cs) rest =
      one_element (is_there c) c (trees.elements is_there make cs rest) (flat_map (λ d. calls_if (is_there d) (own d)) cs ++ map encoded (calls_inside ds rest))
      (all_elements cs rest)
      ∙ sym (append_assoc (calls_if (is_there c) (own c)) (flat_map (λ d. calls_if (is_there d) (own d)) cs) (map encoded (calls_inside ds rest)))

standing_is : (b constant own always held : Bool) (f : Bool → List Call)
    → calls_if (trees.either b (λ _. always || (held && (own || constant)))) (f (trees.either b (λ _. held && constant))) ≡ if_standing
    (standing_by b constant own always held) f
standing_is true constant own always held f = refl
standing_is false true true true true f = refl
standing_is false true true true false f = refl
standing_is false true true false true f = refl
standing_is false true true false false f = refl
standing_is false true false true true f = refl
standing_is false true false true false f = refl
standing_is false true false false true f = refl
standing_is false true false false false f = refl
standing_is false false true true true f = refl
standing_is false false true true false f = refl
standing_is false false true false true f = refl
standing_is false false true false false f = refl
standing_is false false false true true f = refl
standing_is false false false true false f = refl
standing_is false false false false true f = refl
standing_is false false false false false f = refl

-- ---- a line as an element

pub element_name_is : (root : Namespace) (s : Step) → is_declared root s.name.namespace ≡ true →
    element_name (declarations_of root) (trees.name_of s.name) ≡ qualified (names.prefix_of s.name.namespace) s.name.local
element_name_is root s e = namespace_name root s.name.namespace s.name.local e

regrouped : (a b t i : List Call) (e : Call) (f : List Call) → (a ++ b) ++ ((t ++ i) ++ e ∷ f) ≡ ((a ++ (b ++ t)) ++ (i ++ e ∷ [])) ++ f
regrouped a b t i e f = simp append_assoc

abbrev laid_out : List ℕ → List Call → List Call → List Call → List Call
laid_out name attributes inside further = call_start name ∷ (attributes ++ (inside ++ call_end name ∷ further))

pub element-made : (root : Namespace) (es : List Entry) (s : Step) (cs : List Cell) (inside : Forest) (calls : List Call) (d : Context) →
    is_declared root s.name.namespace ≡ true
    → map encoded (calls_inside (declarations_of root) inside) ≡ calls → (f : Forest)
    → map encoded (calls_inside (declarations_of root)
    (an_element (trees.name_of s.name) (trees.attributes es s cs d) (trees.with_text (trees.element_text es cs d) inside) f))
    ≡ around es s cs d calls ++ map encoded (calls_inside (declarations_of root) f)
element-made root es s cs inside calls d e i f =
    let ds = declarations_of root in
    let name = element_name ds (trees.name_of s.name) in
    let attributes = attribute_calls ds (trees.attributes es s cs d) in
    let within = calls_inside ds (trees.with_text (trees.element_text es cs d) inside) in
    let further = map encoded (calls_inside ds f) in
    let currencies = flat_map (λ (cell : Cell). currency_at es s d (Some cell.row)) cs in
    let others = flat_map (λ (cell : Cell). attribute_at es d (Some cell.row)) cs in
    let text = text_calls (flat_map (λ (cell : Cell). text_of es d (Some cell.row)) cs) in
    let apart : map encoded (attributes ++ (within ++ call_end name ∷ calls_inside ds f)) ≡ map encoded attributes ++
    (map encoded within ++ call_end (encode_utf8_all name) ∷ further) =
    map-append encoded attributes (within ++ call_end name ∷ calls_inside ds f) ∙
    ap (λ x. map encoded attributes ++ x) (map-append encoded within (call_end name ∷ calls_inside ds f)) in
    let inner : map encoded within ≡ text ++ calls = text-inside ds (trees.element_text es cs d) inside ∙
    (ap (λ x. text_calls x ++ map encoded (calls_inside ds inside)) (all_texts es cs d) ∙ ap (λ x. text ++ x) i) in
    ap (λ x. call_start (encode_utf8_all name) ∷ x) apart
    ∙ (ap (λ x. laid_out (encode_utf8_all x) (map encoded attributes) (map encoded within) further) (element_name_is root s e)
    ∙ (ap (λ x. laid_out (name_bytes s) x (map encoded within) further) (all_attributes ds es s cs d)
    ∙ (ap (λ x. laid_out (name_bytes s) (currencies ++ others) x further) inner
    ∙ ap (λ x. call_start (name_bytes s) ∷ x) (regrouped currencies others text calls (call_end (name_bytes s)) further))))

flat_map-same : {A B : Type 0} (f g : A → List B) → ((x : A) → f x ≡ g x) → (xs : List A) → flat_map f xs ≡ flat_map g xs
flat_map-same f g e [] = refl
flat_map-same f g e (x ∷ xs) = ap (λ y. y ++ flat_map f xs) (e x) ∙ ap (λ y. g x ++ y) (flat_map-same f g e xs)

-- what is asked of a line's names holds of the lines inside and beside it
pub record Writable (root : Namespace) (s : Step) (inside rest : Plan) : Type 0 where
  pub declared : is_declared root s.name.namespace ≡ true
  pub inside_is : all_writable root inside ≡ true
  pub rest_is : all_writable root rest ≡ true

pub writable : (root : Namespace) (s : Step) (cs : List Cell) (inside rest : Plan) → all_writable root (a_line s cs inside rest) ≡ true →
    Writable root s inside rest
writable root s cs inside rest e =
    let h = both (is_ncname s.name.local && is_declared root s.name.namespace) _ e in
    let t = both (list_all (λ (cell : Cell). is_writable_leaf cell.row.leaf) cs) _ h.1 in
    let u = both (all_writable root inside) (all_writable root rest) t.1 in
    record { declared = (both (is_ncname s.name.local) _ h.0).1; inside_is = u.0; rest_is = u.1 }

pub walk-calls : (root : Namespace) (es : List Entry) (plan : Plan) (held : Bool) (c : Context) → all_writable root plan ≡ true
    → map encoded (calls_inside (declarations_of root) (trees.written_lines es plan held c)) ≡ plan_calls es plan held c
walk-calls root es nothing held c e = refl
walk-calls root es (a_line s cs inside rest) held c e =
    let ds = declarations_of root in
    let w = writable root s cs inside rest e in
    let further : Context → Bool = λ d. trees.holds_further es cs inside held d in
    let own : Context → List Call = λ d. around es s cs d (plan_calls es inside (further d) d) in
    let emitted : Context → Bool = λ d. trees.is_emitted es s cs inside held d in
    all_elements ds emitted
    (λ d f. an_element (trees.name_of s.name) (trees.attributes es s cs d)
    (trees.with_text (trees.element_text es cs d) (trees.written_lines es inside (further d) d)) f)
    own
    (λ d f. element-made root es s cs (trees.written_lines es inside (further d) d) (plan_calls es inside (further d) d) d w.declared
    (walk-calls root es inside (further d) d w.inside_is) f)
    (trees.spots es c s.group) (trees.written_lines es rest held c)
    ∙ (ap (λ x. x ++ map encoded (calls_inside ds (trees.written_lines es rest held c)))
    (flat_map-same (λ d. calls_if (emitted d) (own d)) (element_calls es s cs inside held)
    (λ d. standing_is (trees.line_holds es cs inside d) (trees.is_constant cs inside) (trees.has_constant cs) s.always held
    (λ x. around es s cs d (plan_calls es inside x d))) (trees.spots es c s.group))
    ∙ ap (λ x. flat_map (element_calls es s cs inside held) (trees.spots es c s.group) ++ x) (walk-calls root es rest held c w.rest_is))

-- ---- lines by their numbers

pub cells-are : (rows : List Row) (es : List Entry) (line : Line) (inside : List Line) (cs : List Cell) (plan : Plan) (c : Context) →
    IsLineOf rows line inside cs plan
    → cells.cell_calls rows es line c ≡ cells_calls es line.step cs c
cells-are rows es line inside cs plan c h =
    let f : ℕ → List Call = λ n. currency_at es line.step c (slice_get rows n) in
    let g : ℕ → List Call = λ n. attribute_at es c (slice_get rows n) in
    let t : ℕ → List ℕ = λ n. text_of es c (slice_get rows n) in
    ap (λ ns. flat_map f ns ++ (flat_map g ns ++ text_calls (flat_map t ns))) h.numbers_are
    ∙ (ap (λ x. x ++ (flat_map g (numbers cs) ++ text_calls (flat_map t (numbers cs)))) (flat_map-cells (currency_at es line.step c) rows cs h.own_cells)
    ∙ (ap (λ x. flat_map (λ (cell : Cell). currency_at es line.step c (Some cell.row)) cs ++ (x ++ text_calls (flat_map t (numbers cs))))
    (flat_map-cells (attribute_at es c) rows cs h.own_cells)
    ∙ ap (λ x. flat_map (λ (cell : Cell). currency_at es line.step c (Some cell.row)) cs ++
    (flat_map (λ (cell : Cell). attribute_at es c (Some cell.row)) cs ++ text_calls x)) (flat_map-cells (text_of es c) rows cs h.own_cells)))

pub element-none : (es : List Entry) (s : Step) (cs : List Cell) (plan : Plan) (held : Bool) (c : Context) → standing es s cs plan held c ≡ None →
    [] ≡ element_calls es s cs plan held c
element-none es s cs plan held c e = ap (λ x. if_standing x (λ further. around es s cs c (plan_calls es plan further c))) (sym e)

pub element-some : (rows : List Row) (es : List Entry) (line : Line) (inside : List Line) (cs : List Cell) (plan : Plan) (held further : Bool) (c : Context) →
    IsLineOf rows line inside cs plan
    → standing es line.step cs plan held c ≡ Some further
    → start_calls line.step ++ (cells.cell_calls rows es line c ++ (plan_calls es plan further c ++ end_calls line.step)) ≡ element_calls es line.step cs plan
    held c
element-some rows es line inside cs plan held further c h e =
    ap (λ x. start_calls line.step ++ (x ++ (plan_calls es plan further c ++ end_calls line.step))) (cells-are rows es line inside cs plan c h)
    ∙ ap (λ x. if_standing x (λ y. around es line.step cs c (plan_calls es plan y c))) (sym e)

-- ---- from another source

pub line-seen : (here : Source) (rows : List Row) (es : List Entry) (c : Context) (line : Line) (inside : List Line) (cs : List Cell) (plan : Plan) →
    Sees rows es c here → IsLineOf rows line inside cs plan
    → IsLineOf here.rows.now line inside cs plan
line-seen here rows es c line inside cs plan s h = let P : List Row → Type 0 = λ x. IsLineOf x line inside cs plan in subst P (sym s.rows_are) h

pub calls-seen : (here : Source) (rows : List Row) (es : List Entry) (c : Context) (s : Step) (cs : List Cell) (plan : Plan) (held : Bool) → Sees rows es c here
    → element_calls here.entries.now s cs plan held here.context ≡ element_calls es s cs plan held c
calls-seen here rows es c s cs plan held h = ap (λ x. element_calls x s cs plan held here.context) h.entries_are ∙
    ap (element_calls es s cs plan held) h.context_is

-- ---- one after the other

module _ (f : Context → List Call) (spots left more : List Context) (x : Context) (w v : WriterView) (r s : SinkView) where
  pub spot-err : {T E : Type 0} (result : Result T E) (u : WriterView) (t : SinkView) (others : List Context) (calls : List Call) → spots ≡ others →
      left ≡ x ∷ more → calls ≡ f x
      → Ahead w r (flat_map f spots) v s (flat_map f left) → Broke v s calls t → IsErr result → Makes result w r (flat_map f others) u t
  spot-err result u t others calls e n q a b i =
      let P : List Call → Type 0 = λ y. Broke v s y t in
      Makes-same result w u r t (flat_map f spots) (flat_map f others) (ap (flat_map f) e)
      (Makes-at_err result w u r t (flat_map f spots) i
      (break w v r s t (flat_map f spots) (f x) (flat_map f more) (subst P q b) (same_left w v r s (flat_map f spots) _ _ (ap (flat_map f) n) a)))

  pub spot-ok : (u : WriterView) (t : SinkView) (calls : List Call) → left ≡ x ∷ more → calls ≡ f x → Ahead w r (flat_map f spots) v s (flat_map f left) →
      Made v s calls u t
      → Ahead w r (flat_map f spots) u t (flat_map f more)
  spot-ok u t calls n q a m =
      let P : List Call → Type 0 = λ y. Made v s y u t in
      step w v u r s t (flat_map f spots) (f x) (flat_map f more) (subst P q m) (same_left w v r s (flat_map f spots) _ _ (ap (flat_map f) n) a)

pub spots-end : (f : Context → List Call) (spots left others : List Context) (w v : WriterView) (r s : SinkView) → spots ≡ others → left ≡ [] →
    Ahead w r (flat_map f spots) v s (flat_map f left)
    → Made w r (flat_map f others) v s
spots-end f spots left others w v r s e n a =
    let P : List Context → Type 0 = λ y. Made w r (flat_map f y) v s in
    subst P e (end w v r s (flat_map f spots) (same_left w v r s (flat_map f spots) _ _ (ap (flat_map f) n) a))
