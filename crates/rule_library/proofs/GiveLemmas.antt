-- What a rule file gives with its parts is a whole document.
use Rattle.std.proofs.Common.{◌≡◌, ◌≢◌, ℕ, zero, suc, ◌+◌, ◌-◌, ◌≤◌, Bool, true, false, not, List, [], ◌∷◌, ◌++◌, length, map, Option, Some, None, Ok, Err}
use Rattle.std.proofs.Common.{refl, sym, ap, subst, ◌∙◌, arith, option_map, if◌then◌else◌}
use Rattle.std.specs.Prelude.{◌&&◌, ◌==◌, nat_le, bytes_eq, codes}
use Rattle.inv_base.specs.declared.tree.Kind.{Kind}
use Rattle.inv_base.specs.declared.tree.Kind.TheVariants as kinds
use Rattle.inv_base.specs.Files.{Files}
use Rattle.inv_base.specs.Tree.{Name, Attribute, Node, Forest, no_more, a_text, an_element, begins_with_text, is_joined, IsDocument, nodes_of}
use Rattle.inv_base.specs.Tree.{nodes_of_attributes, document_nodes, size}
use Rattle.inv_base.proofs.TextLemmas.{both}
use Rattle.xml_events.specs.Events.{name_at}
use Rattle.xml_profile.specs.Profile as profile
use Rattle.xml_profile.specs.Profile.{document}
use Rattle.node_arena.specs.Document.{Placed, Document, node_at}
use Rattle.node_arena.specs.Moves.{node_of, IsOfATree}
use Rattle.xml_state.specs.Sizes.{rule_limits}
use Rattle.rule_library.specs.Readings.{File, Joined, State, Readings, gives, reads, file_behind}
use Rattle.rule_library.specs.Asked.{Given, Asked, stays, bad, root_of, inside_of, asked, given_at, is_schematron, included, extended, value_of}
use Rattle.rule_library.specs.Joining.{nothing_joined, closed_to, with_element, with_text, passed_limit}
use Rattle.rule_library.specs.Walk.{Next, Enter, Way, Going, Asking, going, entered, library, is_dropped, is_in, is_unfit, file_of, closed_for, around, at_kind}
use Rattle.rule_library.specs.Walk.{at_asked, stays_by, is_left_out, put_in, put_by, found_or_read, newly_read, read_by, checked, checked_by, unless_passed}
use Rattle.rule_library.specs.Walk.{with_joined, with_file, parent_name, own_name, element_name, nearest}
use Rattle.rule_library.specs.Leads.{Leads, here, read}
use Rattle.rule_library.specs.Whole.{TellsDocument, AreDocuments}
use Rattle.rule_library.specs.declared.faults.LoadKind.{LoadKind}
use Rattle.rule_library.proofs.GrownLemmas.{IsGrown, grown_text, grown_to, grown_element, grown_first, tells_document}

-- Whatever the files hold that are read, what is given is so.
abbrev AllGive : (State → Type 0) → Readings → Type 0
AllGive P (gives (Ok s)) = P s
AllGive P (gives (Err f)) = Unit {0}
AllGive P (reads name next) = (content : List ℕ) (found : profile.Document) → document rule_limits content ≡ Ok found → AllGive P (next (length content) found)

leads_give : (P : State → Type 0) (held : Option Files) (a b : Readings) (n : ℕ) → Leads held a n b → AllGive P a → AllGive P b
leads_give P held _ _ _ (here {a = a}) h = h
leads_give P held _ b _ (read {name = name} {next = next} {content = content} {found = found} {n = n} whole is rest) h =
    leads_give P held (next (length content) found) b n rest (h content found is)

-- ---- the nodes of a document

-- Texts aren't empty, and each node is inside so many at least.
abbrev AreNodes : ℕ → List Node → Type 0
AreNodes m [] = Unit {0}
AreNodes m (node ∷ nodes) = (node.kind ≡ kinds.Text → not (length node.text == 0) ≡ true) × (m ≤ length node.above) × AreNodes m nodes

abbrev AreDeep : ℕ → List Placed → Type 0
AreDeep m [] = Unit {0}
AreDeep m (node ∷ nodes) = (node.kind ≡ kinds.Text → not (length node.text == 0) ≡ true) × (m ≤ length node.above) × AreDeep m nodes

deep_placed : (m : ℕ) (names : List Name) (nodes : List Placed) → AreNodes m (map (node_of names) nodes) → AreDeep m nodes
deep_placed m names [] h = tt
deep_placed m names (node ∷ nodes) h = (h.0, h.1, deep_placed m names nodes h.2)

nodes-append : (m : ℕ) (xs ys : List Node) → AreNodes m xs → AreNodes m ys → AreNodes m (xs ++ ys)
nodes-append m [] ys h k = k
nodes-append m (x ∷ xs) ys h k = (h.0, h.1, nodes-append m xs ys h.2 k)

attributes_are : (m : ℕ) (above : List ℕ) (n : ℕ) (attributes : List Attribute) → m ≤ length above → AreNodes m (nodes_of_attributes above n attributes)
attributes_are m above n [] h = tt
attributes_are m above n (attribute ∷ attributes) h = ((λ e. absurd (no_text e)), h, attributes_are m above (n + 1) attributes h)
  where
    no_text : kinds.Attribute ≢ kinds.Text
    no_text e = cc

forest_is : (m : ℕ) (above : List ℕ) (n : ℕ) (forest : Forest) → is_joined forest ≡ true → m ≤ length above → AreNodes m (nodes_of above n forest)
forest_is m above n no_more joined h = tt
forest_is m above n (a_text characters rest) joined h =
    let parts = both (not (length characters == 0)) (not (begins_with_text rest) && is_joined rest) joined in
    let others = both (not (begins_with_text rest)) (is_joined rest) parts.1 in
    ((λ e. parts.0), h, forest_is m above (n + 1) rest others.1 h)
forest_is m above n (an_element name attributes inside rest) joined h =
    let parts = both (is_joined inside) (is_joined rest) joined in
    let deeper : m ≤ length (n ∷ above) = omega (arith, h) in (
      (λ e. absurd (no_text e)),
      h,
      nodes-append m _ _ (attributes_are m (n ∷ above) (n + 1) attributes deeper)
          (nodes-append m _ _ (forest_is m (n ∷ above) (n + (1 + length attributes)) inside parts.0 deeper)
          (forest_is m above (n + (1 + (length attributes + size inside))) rest parts.1 h)),
    )
  where
    no_text : kinds.Element ≢ kinds.Text
    no_text e = cc

document_joined : (tree : Forest) → IsDocument tree → is_joined tree ≡ true
document_joined tree is = subst (λ t. is_joined t ≡ true) (sym is.root) (λ i. is.joined i && true)

all_deep : (d : Document) → IsOfATree d → AreDeep 0 d.nodes
all_deep d is = deep_placed 0 d.names d.nodes (subst (λ (nodes : List Node). AreNodes 0 nodes) (sym is.has_nodes)
    ((λ e. absurd (no_text e)), omega arith, forest_is 0 (0 ∷ []) 1 is.tree (document_joined is.tree is.whole) (omega arith)))
  where
    no_text : kinds.Document ≢ kinds.Text
    no_text e = cc

-- The document's own node, the root element, and nodes that are inside both.
record IsShaped (nodes : List Placed) : Type 0 where
  own : Placed
  root : Placed
  rest : List Placed
  are : nodes ≡ own ∷ (root ∷ rest)
  own_kind : own.kind ≡ kinds.Document
  own_name_is : own.name ≡ None
  own_above : own.above ≡ []
  root_kind : root.kind ≡ kinds.Element
  root_above : root.above ≡ 0 ∷ []
  deep : AreDeep 2 rest

no_name : (names : List Name) (name : Option ℕ) → option_map (name_at names) name ≡ None → name ≡ None
no_name names None e = refl
no_name names (Some n) e = cc

abbrev own_node : Node
own_node = record { number = 0; kind = kinds.Document; name = None; above = []; text = [] }

abbrev root_node : Name → Node
root_node name = record { number = 1; kind = kinds.Element; name = Some name; above = 0 ∷ []; text = [] }

shaped_by : (names : List Name) (name : Name) (others : List Node) (nodes : List Placed) → AreNodes 2 others →
    map (node_of names) nodes ≡ own_node ∷ (root_node name ∷ others) → IsShaped nodes
shaped_by names name others [] deep e = absurd (cc)
shaped_by names name others (own ∷ []) deep e = absurd (cc)
shaped_by names name others (own ∷ (root ∷ rest)) deep e =
    let first : node_of names own ≡ own_node = cc in
    let second : node_of names root ≡ root_node name = cc in
    let third : map (node_of names) rest ≡ others = cc in
    record {
      own = own;
      root = root;
      rest = rest;
      are = refl;
      own_kind = ap (λ (n : Node). n.kind) first;
      own_name_is = no_name names own.name (ap (λ (n : Node). n.name) first);
      own_above = ap (λ (n : Node). n.above) first;
      root_kind = ap (λ (n : Node). n.kind) second;
      root_above = ap (λ (n : Node). n.above) second;
      deep = deep_placed 2 names rest (subst (λ (nodes : List Node). AreNodes 2 nodes) (sym third) deep);
    }

shaped : (d : Document) → IsOfATree d → IsShaped d.nodes
shaped d is =
    let attributes = is.whole.attributes in
    let inside = is.whole.inside in
    let deep : AreNodes 2 (nodes_of_attributes (1 ∷ (0 ∷ [])) 2 attributes ++ (nodes_of (1 ∷ (0 ∷ [])) (1 + (1 + length attributes)) inside ++ [])) =
    nodes-append 2 _ _ (attributes_are 2 (1 ∷ (0 ∷ [])) 2 attributes (omega arith))
    (nodes-append 2 _ [] (forest_is 2 (1 ∷ (0 ∷ [])) (1 + (1 + length attributes)) inside is.whole.joined (omega arith)) tt) in
    shaped_by d.names is.whole.name _ d.nodes deep (is.has_nodes ∙ ap document_nodes is.whole.root)

-- ---- the walk

abbrev AreGood : List File → Type 0
AreGood [] = Unit {0}
AreGood (file ∷ files) = AreDeep 0 file.document.nodes × AreGood files

good-more : (files : List File) (file : File) → AreGood files → AreDeep 0 file.document.nodes → AreGood (files ++ file ∷ [])
good-more [] file h k = (k, tt)
good-more (other ∷ files) file h k = (h.0, good-more files file h.1 k)

-- The root is begun, and all files that were read are good.
record IsSound (s : State) : Type 0 where
  grown : IsGrown s.joined
  good : AreGood s.files

-- Behind a sound state what is given is so.
abbrev Follows : (State → Type 0) → Next → Type 0
Follows P next = (s : State) → IsSound s → AllGive P (next s)

abbrev Enters : (State → Type 0) → Enter → Type 0
Enters P enter = (file : File) (bare : Bool) (next : Next) (s : State) → AreDeep 0 file.document.nodes → IsSound s → Follows P next →
    AllGive P (enter file bare next s)

abbrev IsGoodOption : Option File → Type 0
IsGoodOption None = Unit {0}
IsGoodOption (Some file) = AreDeep 0 file.document.nodes

found_good : (name : List ℕ) (files : List File) → AreGood files → IsGoodOption (file_of name files)
found_good name [] h = tt
found_good name (file ∷ files) h = by (bytes_eq file.name name) (found_good name files h.1)
  where
    by : (b : Bool) → IsGoodOption (file_of name files) → IsGoodOption (if b then Some file else file_of name files)
    by true others = h.0
    by false others = others

checked_gives : (P : State → Type 0) (enter : Enter) (a : Asking) (next : Next) (s : State) (file : File) → Enters P enter → AreDeep 0 file.document.nodes →
    IsSound s → Follows P next
    → AllGive P (checked enter a next s file)
checked_gives P enter a next s file enters good sound follows = by (is_unfit a file)
  where
    by : (b : Bool) → AllGive P (checked_by enter a next s file b)
    by true = tt
    by false = enters file a.bare next s good sound follows

new_gives : (P : State → Type 0) (enter : Enter) (a : Asking) (name : List ℕ) (next : Next) (s : State) → AreDocuments → Enters P enter → IsSound s →
    Follows P next
    → AllGive P (newly_read enter a name next s)
new_gives P enter a name next s documents enters sound follows = by (nat_le 64 (length s.files))
  where
    by : (b : Bool) → AllGive P (read_by enter a name next s b)
    by true = tt
    by false = λ content found is.
        let file : File = file_behind s.files name (length content) found in
        let good : AreDeep 0 file.document.nodes = all_deep file.document (documents content found is) in
        checked_gives P enter a next (with_file file s) file enters good (record { grown = sound.grown; good = good-more s.files file sound.good good }) follows

put_gives : (P : State → Type 0) (enter : Enter) (a : Asking) (name : List ℕ) (next : Next) (s : State) → AreDocuments → Enters P enter → IsSound s →
    Follows P next
    → AllGive P (put_in enter a name next s)
put_gives P enter a name next s documents enters sound follows = by (is_in name a.way.stack)
  where
    found : (o : Option File) → IsGoodOption o → AllGive P (found_or_read enter a name next s o)
    found None good = new_gives P enter a name next s documents enters sound follows
    found (Some file) good = checked_gives P enter a next s file enters good sound follows

    by : (b : Bool) → AllGive P (put_by enter a name next s b)
    by true = tt
    by false = found (file_of name s.files) (found_good name s.files sound.good)

settled_gives : (P : State → Type 0) (w : Way) (node : Placed) (next : Next) (s : State) (limit : Option LoadKind) → IsSound s → Follows P next →
    AllGive P (unless_passed limit w node next s)
settled_gives P w node next s None sound follows = follows s sound
settled_gives P w node next s (Some kind) sound follows = tt

element_gives : (P : State → Type 0) (enter : Enter) (w : Way) (node : Placed) (parent : Option Name) (name : Name) (given : List Given) (go : Going)
    (s : State)
    → AreDocuments → Enters P enter → IsSound s → ((dropped : Option ℕ) → Follows P (go dropped)) → (a : Asked) →
    AllGive P (at_asked enter w node parent name given go s a)
element_gives P enter w node parent name given go s documents enters sound follows bad = tt
element_gives P enter w node parent name given go s documents enters sound follows (root_of href) =
    put_gives P enter (record { way = w; node = node; parent = parent; bare = false }) href (go (Some node.number)) s documents enters sound
    (follows (Some node.number))
element_gives P enter w node parent name given go s documents enters sound follows (inside_of href) =
    put_gives P enter (record { way = w; node = node; parent = parent; bare = true }) href (go (Some node.number)) s documents enters sound
    (follows (Some node.number))
element_gives P enter w node parent name given go s documents enters sound follows stays = by (is_left_out w node)
  where
    by : (b : Bool) → AllGive P (stays_by w node name given go s b)
    by true = follows None s sound
    by false = let joined : Joined = with_element name given (node.place + w.file.start) s.joined in
        settled_gives P w node (go None) (with_joined joined s) (passed_limit w.part joined)
        (record { grown = grown_element s.joined name given (node.place + w.file.start) sound.grown; good = sound.good }) (follows None)

node_gives : (P : State → Type 0) (enter : Enter) (w : Way) (node : Placed) (behind : List Placed) (go : Going) (s : State)
    → AreDocuments → Enters P enter → IsSound s → ((dropped : Option ℕ) → Follows P (go dropped)) →
    (node.kind ≡ kinds.Text → not (length node.text == 0) ≡ true)
    → (kind : Kind) → node.kind ≡ kind → AllGive P (at_kind enter w node behind go s kind)
node_gives P enter w node behind go s documents enters sound follows some kinds.Document e = follows None s sound
node_gives P enter w node behind go s documents enters sound follows some kinds.Attribute e = follows None s sound
node_gives P enter w node behind go s documents enters sound follows some kinds.Text e =
    let joined : Joined = with_text node.text (node.place + w.file.start) s.joined in
    settled_gives P w node (go None) (with_joined joined s) (passed_limit w.part joined)
    (record { grown = grown_text s.joined node.text (node.place + w.file.start) (some e) sound.grown; good = sound.good }) (follows None)
node_gives P enter w node behind go s documents enters sound follows some kinds.Element e =
    let parent = parent_name w.file.document node in
    let name = own_name w.file.document node in
    let given = given_at w.file.document.names behind in
    element_gives P enter w node parent name given go s documents enters sound follows (asked parent name given)

going_gives : (P : State → Type 0) (enter : Enter) (w : Way) (nodes : List Placed) (next : Next) (m : ℕ) → AreDocuments → Enters P enter
    → AreDeep m nodes → ((n : ℕ) → m ≤ n → 2 ≤ w.base + (n - around w.bare))
    → ((s : State) → IsSound s → AllGive P (next (record { files = s.files; joined = closed_to w.base s.joined })))
    → (dropped : Option ℕ) → Follows P (going enter w nodes next dropped)
going_gives P enter w [] next m documents enters deep low end dropped s sound = end s sound
going_gives P enter w (node ∷ nodes) next m documents enters deep low end dropped s sound =
    by (is_dropped dropped node) (λ d. going_gives P enter w nodes next m documents enters deep.2 low end d)
  where
    closed : IsSound (closed_for w node s)
    closed = record { grown = grown_to (w.base + (length node.above - around w.bare)) s.joined (low (length node.above) deep.1) sound.grown; good = sound.good }

    by : (b : Bool) → ((d : Option ℕ) → Follows P (going enter w nodes next d)) → AllGive P (elim b [
      | true ↦ going enter w nodes next dropped s
      | false ↦ at_kind enter w node nodes (going enter w nodes next) (closed_for w node s) node.kind
    ])
    by true rest = rest dropped s sound
    by false rest = node_gives P enter w node nodes (going enter w nodes next) (closed_for w node s) documents enters closed rest deep.0 node.kind refl

entered_gives : (P : State → Type 0) (room : ℕ) (stack : List (List ℕ)) (part : Bool) → AreDocuments → Enters P (entered room stack part)
unfolding entered
entered_gives P zero stack part documents file bare next s good sound follows = follows s sound
entered_gives P (suc room) stack part documents file bare next s good sound follows =
    let base : 2 ≤ length s.joined.built.open_nodes = let depth = sound.grown.depth in let some = sound.grown.some in omega arith in
    going_gives P (entered room (file.name ∷ stack) true)
    (record { file = file; stack = file.name ∷ stack; part = part; bare = bare; base = length s.joined.built.open_nodes }) file.document.nodes next 0
    documents (entered_gives P room (file.name ∷ stack) true documents) good (λ n h. omega (arith, base))
    (λ t k. follows (record { files = t.files; joined = closed_to (length s.joined.built.open_nodes) t.joined })
    (record { grown = grown_to (length s.joined.built.open_nodes) t.joined base k.grown; good = k.good }))
    None s sound

-- ---- the rule file itself

nothing_asked : (name : Name) (given : List Given) → asked None name given ≡ stays
nothing_asked name given = by (is_schematron (codes "include") name) (is_schematron (codes "extends") name)
  where
    by : (a b : Bool) → (if a && false then included (value_of (codes "href") given) else
        (if b && false then extended (value_of (codes "rule") given) (value_of (codes "href") given) else stays)) ≡ stays
    by true true = refl
    by true false = refl
    by false true = refl
    by false false = refl

abbrev Whole : State → Type 0
Whole s = TellsDocument s.joined

abbrev first_way : File → Way
first_way file = record { file = file; stack = file.name ∷ []; part = false; bare = false; base = 1 }

abbrev first_state : File → State
first_state file = record { files = file ∷ []; joined = nothing_joined }

abbrev done : Next
done s = gives (Ok s)

-- The document's node is passed by, the root element begins, and all else is inside it.
from_shape : (file : File) (enter : Enter) → AreDocuments → Enters Whole enter → AreDeep 0 file.document.nodes → IsShaped file.document.nodes
    → AllGive Whole (going enter (first_way file) file.document.nodes done None (first_state file))
from_shape file enter documents enters good sh =
    let w : Way = first_way file in
    let s : State = first_state file in
    let go : Going = going enter w sh.rest done in
    let parent : Option Name = parent_name file.document sh.root in
    let name : Name = own_name file.document sh.root in
    let given : List Given = given_at file.document.names sh.rest in
    let place : ℕ = sh.root.place + file.start in
    let none : parent ≡ None =
    ap (λ (above : List ℕ). element_name file.document (nearest above)) sh.root_above
    ∙ (ap (λ (nodes : List Placed). option_map (name_at file.document.names) (node_at nodes 0).name) sh.are ∙
    ap (option_map (name_at file.document.names)) sh.own_name_is) in
    let stay : asked parent name given ≡ stays = ap (λ (p : Option Name). asked p name given) none ∙ nothing_asked name given in
    let inside : AllGive Whole (at_asked enter w sh.root parent name given go s stays) =
    going_gives Whole enter w sh.rest done 2 documents enters sh.deep (λ n h. omega (arith, h)) (λ t k. tells_document t.joined k.grown) None
    (with_joined (with_element name given place nothing_joined) s) (record { grown = grown_first name given place; good = (good, tt) }) in
    let root_asks : AllGive Whole (at_kind enter w sh.root sh.rest go s kinds.Element) =
    subst (λ (a : Asked). AllGive Whole (at_asked enter w sh.root parent name given go s a)) (sym stay) inside in
    let root_is : AllGive Whole (at_kind enter w sh.root sh.rest go s sh.root.kind) =
    subst (λ (kind : Kind). AllGive Whole (at_kind enter w sh.root sh.rest go s kind)) (sym sh.root_kind) root_asks in
    let root_stands : AllGive Whole (going enter w (sh.root ∷ sh.rest) done None s) =
    subst (λ (above : List ℕ). AllGive Whole (at_kind enter w sh.root sh.rest go
    (record { files = file ∷ []; joined = closed_to (1 + (length above - 1)) nothing_joined }) sh.root.kind)) (sym sh.root_above) root_is in
    let own_is : AllGive Whole (at_kind enter w sh.own (sh.root ∷ sh.rest) (going enter w (sh.root ∷ sh.rest) done) s sh.own.kind) =
    subst (λ (kind : Kind). AllGive Whole (at_kind enter w sh.own (sh.root ∷ sh.rest) (going enter w (sh.root ∷ sh.rest) done) s kind))
    (sym sh.own_kind) root_stands in
    let own_stands : AllGive Whole (going enter w (sh.own ∷ (sh.root ∷ sh.rest)) done None s) =
    subst (λ (above : List ℕ). AllGive Whole (at_kind enter w sh.own (sh.root ∷ sh.rest) (going enter w (sh.root ∷ sh.rest) done)
    (record { files = file ∷ []; joined = closed_to (1 + (length above - 1)) nothing_joined }) sh.own.kind))
    (sym sh.own_above) own_is in
    subst (λ (nodes : List Placed). AllGive Whole (going enter w nodes done None s)) (sym sh.are) own_stands

first_gives : (file : File) (room : ℕ) → AreDocuments → IsOfATree file.document → AllGive Whole (entered (suc room) [] false file false done (first_state file))
unfolding entered
first_gives file room documents tree =
    from_shape file (entered room (file.name ∷ []) true) documents (entered_gives Whole room (file.name ∷ []) true documents) (all_deep file.document tree)
    (shaped file.document tree)

-- Whatever a rule file gives with its parts is a whole document.
pub library_gives : (held : Option Files) (name : List ℕ) (s : State) (n : ℕ) → AreDocuments → Leads held (library name) n (gives (Ok s)) →
    TellsDocument s.joined
library_gives held name s n documents leads = leads_give Whole held (library name) (gives (Ok s)) n leads
    (λ content found is. first_gives (file_behind [] name (length content) found) 63 documents (documents content found is))
