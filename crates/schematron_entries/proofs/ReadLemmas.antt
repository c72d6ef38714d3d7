-- Reading nodes one after another.
use Rattle.std.specs.Str.{chars, bytes_eq}
use Rattle.std.proofs.Common.{Bool, true, false, option_map, cond, ◌≡◌, ℕ, zero, suc, ◌+◌, ◌<◌, ◌≤◌, ⊎_elim, List, [], ◌∷◌, ◌++◌, length, drop, Option, Some}
use Rattle.std.proofs.Common.{None, IfSome, SomeIff, ap, sym, ◌∙◌, arith, append_assoc, append-nil, map}
use Rattle.std.proofs.lemmas.List.{length-map, get_or-map, drop_all, drop_more, map-append}
use Rattle.std.proofs.lemmas.Bool.{cases_lt}
use Rattle.inv_base.specs.Tree.{Node}
use Rattle.node_arena.specs.Document.{Document, Placed, AreNumbered, node_at, document_node}
use Rattle.node_arena.specs.Moves.{tree_nodes, tree_node, node_of}
use Rattle.node_arena.specs.Moves.{is_attribute}
use Rattle.xml_events.specs.Events.{name_at}
use Rattle.inv_base.specs.Tree.{Name}
use Rattle.schematron_meaning.specs.declared.around.Around.{Around}
use Rattle.schematron_meaning.specs.declared.role.Role.{Role}
use Rattle.schematron_meaning.specs.Entries as spec
use Rattle.schematron_entries.specs.declared.entry.Entry.{Entry}
use Rattle.schematron_entries.specs.declared.entry.Given.{Given}
use Rattle.schematron_entries.specs.Seen.{seen_given, seen_entry, seen_entries}
use Rattle.schematron_entries.specs.Reading.{from_next}

-- a node of a document as the tree has it
pub tree_node_is : (document : Document) (n : ℕ) → n < length document.nodes →
    tree_node (tree_nodes document) n ≡ node_of document.names (node_at document.nodes n)
tree_node_is document n within = get_or-map (node_of document.names) document.nodes n document_node _ within

numbered-at : (n : ℕ) (nodes : List Placed) → AreNumbered n nodes → (k : ℕ) → k < length nodes → (node_at nodes k).number ≡ n + k
numbered-at n [] h k within = absurd (omega (arith, within))
numbered-at n (node ∷ nodes) h zero within = h.0 ∙ (omega arith)
numbered-at n (node ∷ nodes) h (suc k) within = numbered-at (n + 1) nodes h.1 k (omega (arith, within)) ∙ (omega arith)

-- its number is its place
pub number_is : (document : Document) → AreNumbered 0 document.nodes → (n : ℕ) → n < length document.nodes → (tree_node (tree_nodes document) n).number ≡ n
number_is document numbered n within = ap (λ (node : Node). node.number) (tree_node_is document n within) ∙
    (numbered-at 0 document.nodes numbered n within ∙ (omega arith))

-- the nodes from one on begin with it
pub front : (document : Document) (n : ℕ) → n < length document.nodes → drop n (tree_nodes document) ≡ tree_node (tree_nodes document) n ∷ drop (n + 1)
    (tree_nodes document)
front document n within = drop_more (tree_nodes document) n _ (omega (arith, within, length-map document.nodes (node_of document.names)))

-- those behind one are those from the next on
pub next_rest : (document : Document) (n : ℕ) (next : Option ℕ) → SomeIff next (n + 1 < length document.nodes) (n + 1)
    → from_next (tree_nodes document) next ≡ drop (n + 1) (tree_nodes document)
next_rest document n None h = sym (drop_all (n + 1) (tree_nodes document)
    (⊎_elim (λ (l : n + 1 < length document.nodes). absurd (h l))
    (λ (g : length document.nodes ≤ n + 1). omega (arith, g, length-map document.nodes (node_of document.names)))
    (cases_lt (n + 1) (length document.nodes))))
next_rest document n (Some m) h = ap (λ k. drop k (tree_nodes document)) h.1

pub next_within : (document : Document) (n : ℕ) (next : Option ℕ) → SomeIff next (n + 1 < length document.nodes) (n + 1) →
    IfSome next (λ m. m < length document.nodes)
next_within document n None h = tt
next_within document n (Some m) h = omega (arith, h.0, h.1)

-- ---- attributes

-- the name of a node, by its number
pub named_at : (document : Document) (n : ℕ) (id : ℕ) → n < length document.nodes → (node_at document.nodes n).name ≡ Some id
    → (tree_node (tree_nodes document) n).name ≡ Some (name_at document.names id)
named_at document n id within e = ap (λ (node : Node). node.name) (tree_node_is document n within) ∙ ap (option_map (name_at document.names)) e

given_by-if : (text : List ℕ) (name : Name) (b : Bool) → bytes_eq name.uri [] ≡ b →
    spec.given_by text (Some name) ≡ cond b (record { name = name.local; value = text } ∷ []) []
given_by-if text name b e = ap (λ c. cond c (record { name = name.local; value = text } ∷ []) []) e

-- whether an attribute counts, by the texts that are lent
pub gives : (document : Document) (n id : ℕ) (b : Bool) (uri empty : List ℕ) → n < length document.nodes → (node_at document.nodes n).name ≡ Some id
    → chars uri ≡ (name_at document.names id).uri → empty ≡ [] → bytes_eq (chars uri) empty ≡ b
    → spec.given_by (tree_node (tree_nodes document) n).text (tree_node (tree_nodes document) n).name
    ≡ cond b (record { name = (name_at document.names id).local; value = (node_at document.nodes n).text } ∷ []) []
gives document n id b uri empty within e u z h =
    ap (λ name. spec.given_by (tree_node (tree_nodes document) n).text name) (named_at document n id within e)
    ∙ (ap (λ text. spec.given_by text (Some (name_at document.names id))) (ap (λ (node : Node). node.text) (tree_node_is document n within))
    ∙ given_by-if (node_at document.nodes n).text (name_at document.names id) b ((λ i. bytes_eq (sym u i) (sym z i)) ∙ h))

given_none : (node : Node) (nodes : List Node) → is_attribute node ≡ false → spec.given_at (node ∷ nodes) ≡ []
given_none node nodes h = ap (λ (b : Bool). elim b as (λ _. List spec.Given) [ true ↦ spec.given_by node.text node.name ++ spec.given_at nodes | false ↦ [] ]) h

-- no more attributes where another node stands
pub given_end : (document : Document) (n : ℕ) → n < length document.nodes → is_attribute (tree_node (tree_nodes document) n) ≡ false
    → spec.given_at (drop n (tree_nodes document)) ≡ []
given_end document n within h = ap spec.given_at (front document n within) ∙
    given_none (tree_node (tree_nodes document) n) (drop (n + 1) (tree_nodes document)) h

-- ---- a node more

pub entries_step : (seen : List Around) (nodes : List Node) (n number : ℕ) (node : Node) (rest : List Node) (parent around : Around) (given : List spec.Given)
    (role : Role)
    → drop n nodes ≡ node ∷ rest → number ≡ node.number → parent ≡ spec.nearest_of seen node.above → given ≡ spec.given_behind node rest
    → role ≡ spec.role_of parent.role node given → around ≡ spec.around_by role number parent.number
    → spec.entries_behind seen (drop n nodes)
    ≡ spec.listed (spec.is_listed role) (record { number = number; role = role; parent = parent.number; given = given; text = node.text }) ++
    spec.entries_behind (seen ++ around ∷ []) rest
entries_step seen nodes n number node rest parent around given role front k p g r a =
    ap (spec.entries_behind seen) front
    ∙ ((λ i. step (sym p i) (sym g i) (spec.role_of (sym p i).role node (sym g i)) node.number
    (spec.around_by (spec.role_of (sym p i).role node (sym g i)) node.number (sym p i).number))
    ∙ ((λ i. step parent given (sym r i) (sym k i) (spec.around_by (sym r i) (sym k i) parent.number)) ∙ ap (step parent given role number) (sym a)))
  where
    step : Around → List spec.Given → Role → ℕ → Around → List spec.Entry
    step parent given role number around =
        spec.listed (spec.is_listed role) (record { number = number; role = role; parent = parent.number; given = given; text = node.text }) ++
        spec.entries_behind (seen ++ around ∷ []) rest

pub put_behind : (old new before after : List spec.Entry) (b : Bool) (e : spec.Entry) → before ≡ spec.listed b e ++ after → new ≡ old ++ spec.listed b e
    → old ++ before ≡ new ++ after
put_behind old new before after b e h k = ap (λ x. old ++ x) h ∙ (sym (append_assoc old (spec.listed b e) after) ∙ ap (λ x. x ++ after) (sym k))

-- one given more, and none
pub put_one : (old : List Given) (given : Given) (text : List ℕ) (name : Option Name) {new : List Given} {local value : List ℕ} → new ≡ old ++ given ∷ []
    → spec.given_by text name ≡ record { name = local; value = value } ∷ [] → chars given.name.now ≡ local → chars given.value.now ≡ value
    → map seen_given new ≡ map seen_given old ++ spec.given_by text name
put_one old given text name h e l v = ap (map seen_given) h ∙ (map-append seen_given old (given ∷ [])
    ∙ ap (λ x. map seen_given old ++ x) ((λ i. record { name = l i; value = v i } ∷ []) ∙ sym e))

pub put_none : (old : List spec.Given) (text : List ℕ) (name : Option Name) → spec.given_by text name ≡ [] → old ≡ old ++ spec.given_by text name
put_none old text name e = sym (append-nil old) ∙ ap (λ x. old ++ x) (sym e)

-- what reading a node leads to
pub taken : (document : Document) (seen : List Around) (n : ℕ) {parent around : Around} {given : List spec.Given} {role : Role} {new_seen : List Around} →
    AreNumbered 0 document.nodes → n < length document.nodes
    → parent ≡ spec.nearest_of seen (tree_node (tree_nodes document) n).above
    → given ≡ spec.given_behind (tree_node (tree_nodes document) n) (drop (n + 1) (tree_nodes document))
    → role ≡ spec.role_of parent.role (tree_node (tree_nodes document) n) given → around ≡ spec.around_by role n parent.number → new_seen ≡ seen ++ around ∷ []
    → spec.entries_behind seen (drop n (tree_nodes document))
    ≡ spec.listed (spec.is_listed role) (record {
      number = n;
      role = role;
      parent = parent.number;
      given = given;
      text =
          (tree_node (tree_nodes document) n).text;
    })
    ++ spec.entries_behind new_seen (drop (n + 1) (tree_nodes document))
taken document seen n {parent} {around} {given} {role} numbers within p g r a s =
    entries_step seen (tree_nodes document) n n (tree_node (tree_nodes document) n) (drop (n + 1) (tree_nodes document)) parent around given role
    (front document n within) (sym (number_is document numbers n within)) p g r a
    ∙ ap (λ x. spec.listed (spec.is_listed role)
    (record { number = n; role = role; parent = parent.number; given = given; text = (tree_node (tree_nodes document) n).text }) ++
    spec.entries_behind x (drop (n + 1) (tree_nodes document))) (sym s)

pub put_entry : (old : List Entry) (e : Entry) (role : Role) (after : List spec.Entry) {new : List Entry} {text : List ℕ} {before : List spec.Entry} → new ≡ old
    ++ e ∷ [] → spec.is_listed role ≡ true → chars e.text.now ≡ text
    → before ≡ spec.listed (spec.is_listed role) (record (seen_entry e) { text = text }) ++ after → seen_entries old ++ before ≡ seen_entries new ++ after
put_entry old e _ after {new} {text} {before} h l t b =
    put_behind (seen_entries old) (seen_entries new) before after true (record (seen_entry e) { text = text })
    (b ∙ ap (λ x. spec.listed x (record (seen_entry e) { text = text }) ++ after) l)
    (ap seen_entries h ∙ (map-append seen_entry old (e ∷ []) ∙ ap (λ x. seen_entries old ++ record (seen_entry e) { text = x } ∷ []) t))

pub put_nothing : (old after : List spec.Entry) (role : Role) (e : spec.Entry) {before : List spec.Entry} → spec.is_listed role ≡ false →
    before ≡ spec.listed (spec.is_listed role) e ++ after → old ++ before ≡ old ++ after
put_nothing old after _ e l b = ap (λ x. old ++ x) (b ∙ ap (λ x. spec.listed x e ++ after) l)

pub begun : (nodes : List Node) {found : List Entry} {seen : List Around} {n : ℕ} → found ≡ [] → seen ≡ [] → n ≡ 0
    → spec.entries nodes ≡ seen_entries found ++ spec.entries_behind seen (drop n nodes)
unfolding spec.entries
begun nodes f s z = λ i. seen_entries (sym f i) ++ spec.entries_behind (sym s i) (drop (sym z i) nodes)
