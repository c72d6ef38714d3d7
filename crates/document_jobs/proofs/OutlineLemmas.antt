-- The lines of a document's nodes, in bytes, and that together they are the outline of its tree.
use Rattle.std.proofs.Common.{◌≡◌, ℕ, zero, suc, ◌+◌, ◌-◌, ◌*◌, ◌<◌, List, [], ◌∷◌, ◌++◌, map, take, length, get_or, replicate, Option, Some, option_map, refl}
use Rattle.std.proofs.Common.{ap, sym, ◌∙◌, append_assoc, append-nil, arith, chars, IsUtf8}
use Rattle.std.specs.List.{flat_map}
use Rattle.std.specs.Prelude.{encode_utf8_all}
use Rattle.std.proofs.lemmas.List.{take_more, get_or-map, map-append, replicate-append-replicate}
use Rattle.std.proofs.lemmas.Str.{encode_ascii, encodes-append, chars-nil}
use Rattle.std.proofs.lemmas.Grind.{flat_map-append}
use Rattle.inv_base.specs.declared.tree.Kind.TheVariants as kinds
use Rattle.inv_base.specs.Text.{quoted}
use Rattle.inv_base.specs.Tree.{Name, Attribute, Node, Forest, no_more, a_text, an_element, size, nodes_of_attributes, nodes_of}
use Rattle.inv_base.proofs.TextLemmas.{encode-chars}
use Rattle.xml_events.specs.Events.{name_at}
use Rattle.node_arena.specs.Document.{Placed, Document, document_node, node_at}
use Rattle.node_arena.specs.Moves.{node_of, tree_nodes, tree_node, HasNodesOf}
use Rattle.xml_document.specs.Walking.{StandsIn}
use Rattle.xml_document.specs.declared.walk.Walk.{Walk}
use Rattle.document_jobs.specs.Outline.{braced, name_text, optional_name_text, line, attribute_text, outline_attributes, outline_forest, outline_text, line_as}
use Rattle.document_jobs.specs.Outline.{node_line}

-- an ASCII character in front
pub encode-front : (c : ℕ) (cs : List ℕ) → c < 128 → encode_utf8_all (c ∷ cs) ≡ c ∷ encode_utf8_all cs
encode-front c cs h = ap (λ x. x ++ encode_utf8_all cs) (encode_ascii c h)

encode-last : (cs : List ℕ) (c : ℕ) → c < 128 → encode_utf8_all (cs ++ c ∷ []) ≡ encode_utf8_all cs ++ c ∷ []
encode-last cs c h = encodes-append cs (c ∷ []) ∙ ap (λ x. encode_utf8_all cs ++ (x ++ [])) (encode_ascii c h)

encode-spaces : (n : ℕ) → encode_utf8_all (replicate n 0x20) ≡ replicate n 0x20
encode-spaces zero = refl
encode-spaces (suc n) = encode-front 0x20 (replicate n 0x20) (omega arith) ∙ ap (λ x. 0x20 ∷ x) (encode-spaces n)

encode-line : (level : ℕ) (text : List ℕ) → encode_utf8_all (line level text) ≡ replicate (2 * level) 0x20 ++ (encode_utf8_all text ++ 0xA ∷ [])
encode-line level text =
    encodes-append (replicate (2 * level) 0x20) (text ++ 0xA ∷ [])
    ∙ (ap (λ x. x ++ encode_utf8_all (text ++ 0xA ∷ [])) (encode-spaces (2 * level)) ∙
    ap (λ x. replicate (2 * level) 0x20 ++ x) (encode-last text 0xA (omega arith)))

abbrev pub spaces : ℕ → List ℕ
spaces level = replicate (2 * level) 0x20

-- so many more spaces
pub spaces_more : (levels more : ℕ) → spaces levels ++ spaces more ≡ spaces (levels + more)
spaces_more levels more = replicate-append-replicate (2 * levels) (2 * more) 0x20 ∙ ap (λ n. replicate n 0x20) (omega arith)

-- a namespace name that isn't empty, in bytes
braced-some : (uri : List ℕ) (c : ℕ) (cs : List ℕ) → chars uri ≡ c ∷ cs → IsUtf8 uri → (0x7B ∷ []) ++ (uri ++ 0x7D ∷ []) ≡ encode_utf8_all (braced (c ∷ cs))
braced-some uri c cs is u =
    let text : encode_utf8_all (c ∷ cs) ≡ uri = ap encode_utf8_all (sym is) ∙ encode-chars uri u in
    sym (encode-front 0x7B ((c ∷ cs) ++ 0x7D ∷ []) (omega arith) ∙ ap (λ x. 0x7B ∷ x) (encode-last (c ∷ cs) 0x7D (omega arith) ∙ ap (λ x. x ++ 0x7D ∷ []) text))

braced-cases : (uri cs : List ℕ) → chars uri ≡ cs → IsUtf8 uri → 0 < length uri → (0x7B ∷ []) ++ (uri ++ 0x7D ∷ []) ≡ encode_utf8_all (braced cs)
braced-cases uri [] is u some =
    let none : [] ≡ uri = ap encode_utf8_all (sym is) ∙ encode-chars uri u in
    let long : 0 ≡ length uri = ap length none in
    absurd (omega (arith, some, long))
braced-cases uri (c ∷ cs) is u some = braced-some uri c cs is u

pub encode-braced : (uri : List ℕ) → IsUtf8 uri → 0 < length uri → (0x7B ∷ []) ++ (uri ++ 0x7D ∷ []) ≡ encode_utf8_all (braced (chars uri))
encode-braced uri u some = braced-cases uri (chars uri) refl u some

-- no namespace name
pub encode-braced-nil : (uri : List ℕ) → length uri ≡ 0 → [] ≡ encode_utf8_all (braced (chars uri))
encode-braced-nil [] none = ap (λ cs. encode_utf8_all (braced cs)) (sym chars-nil)
encode-braced-nil (b ∷ uri) none = absurd (omega arith)

-- a name, in bytes
pub encode-name : (names : List Name) (number : ℕ) (uri local : List ℕ) → chars uri ≡ (name_at names number).uri → chars local ≡ (name_at names number).local →
    IsUtf8 local
    → encode_utf8_all (braced (chars uri)) ++ local ≡ encode_utf8_all (optional_name_text (option_map (name_at names) (Some number)))
encode-name names number uri local u l utf8 =
    ap (λ x. encode_utf8_all (braced (chars uri)) ++ x) (sym (encode-chars local utf8))
    ∙ (sym (encodes-append (braced (chars uri)) (chars local)) ∙
    (ap (λ x. encode_utf8_all (braced x ++ chars local)) u ∙ ap (λ x. encode_utf8_all (braced (name_at names number).uri ++ x)) l))

-- the lines of the kinds of nodes
module _ (names : List Name) (node : Placed) (level : ℕ) (deep : level ≡ length node.above) where
  indent : spaces (level - 1) ≡ spaces (length node.above - 1)
  indent = ap (λ l. spaces (l - 1)) deep

  pub element_line-bytes : (name : Option ℕ) → name ≡ node.name
      → replicate (2 * (level - 1)) 0x20 ++ (encode_utf8_all (optional_name_text (option_map (name_at names) name)) ++ 0xA ∷ []) ≡ encode_utf8_all
      (line_as kinds.Element names node)
  element_line-bytes name named =
      ap (λ x. x ++ (encode_utf8_all (optional_name_text (option_map (name_at names) name)) ++ 0xA ∷ [])) indent
      ∙ (ap (λ n. replicate (2 * (length node.above - 1)) 0x20 ++ (encode_utf8_all (optional_name_text (option_map (name_at names) n)) ++ 0xA ∷ [])) named
      ∙ (sym (encode-line (length node.above - 1) (optional_name_text (option_map (name_at names) node.name))) ∙ refl))

  pub text_line-bytes : (text : List ℕ) → chars text ≡ node.text
      → replicate (2 * (level - 1)) 0x20 ++ (encode_utf8_all (quoted (chars text)) ++ 0xA ∷ []) ≡ encode_utf8_all (line_as kinds.Text names node)
  text_line-bytes text is =
      ap (λ x. x ++ (encode_utf8_all (quoted (chars text)) ++ 0xA ∷ [])) indent
      ∙ (ap (λ t. replicate (2 * (length node.above - 1)) 0x20 ++ (encode_utf8_all (quoted t) ++ 0xA ∷ [])) is
      ∙ (sym (encode-line (length node.above - 1) (quoted node.text)) ∙ refl))

  pub attribute_line-bytes : (name : Option ℕ) (text : List ℕ) → name ≡ node.name → chars text ≡ node.text
      → replicate (2 * (level - 1)) 0x20 ++
      ((0x40 ∷ []) ++ (encode_utf8_all (optional_name_text (option_map (name_at names) name)) ++
      ((0x3D ∷ []) ++ (encode_utf8_all (quoted (chars text)) ++ 0xA ∷ []))))
      ≡ encode_utf8_all (line_as kinds.Attribute names node)
  attribute_line-bytes name text named is =
      let named_text : List ℕ = optional_name_text (option_map (name_at names) node.name) in
      let all : encode_utf8_all (0x40 ∷ (named_text ++ (0x3D ∷ quoted node.text))) ≡ 0x40 ∷ (encode_utf8_all named_text ++
      (0x3D ∷ encode_utf8_all (quoted node.text))) =
      encode-front 0x40 (named_text ++ (0x3D ∷ quoted node.text)) (omega arith)
      ∙ ap (λ x. 0x40 ∷ x) (encodes-append named_text (0x3D ∷ quoted node.text) ∙
      ap (λ x. encode_utf8_all named_text ++ x) (encode-front 0x3D (quoted node.text) (omega arith))) in
      let back : (0x40 ∷ (encode_utf8_all named_text ++ (0x3D ∷ encode_utf8_all (quoted node.text)))) ++
      0xA ∷ [] ≡ 0x40 ∷ (encode_utf8_all named_text ++ (0x3D ∷ (encode_utf8_all (quoted node.text) ++ 0xA ∷ []))) =
      ap (λ x. 0x40 ∷ x) (append_assoc (encode_utf8_all named_text) (0x3D ∷ encode_utf8_all (quoted node.text)) (0xA ∷ [])) in
      ap (λ x. x ++ (0x40 ∷ (encode_utf8_all (optional_name_text (option_map (name_at names) name)) ++
      (0x3D ∷ (encode_utf8_all (quoted (chars text)) ++ 0xA ∷ []))))) indent
      ∙ (ap (λ n. replicate (2 * (length node.above - 1)) 0x20 ++
      (0x40 ∷ (encode_utf8_all (optional_name_text (option_map (name_at names) n)) ++ (0x3D ∷ (encode_utf8_all (quoted (chars text)) ++ 0xA ∷ []))))) named
      ∙ (ap (λ t. replicate (2 * (length node.above - 1)) 0x20 ++ (0x40 ∷ (encode_utf8_all named_text ++ (0x3D ∷ (encode_utf8_all (quoted t) ++ 0xA ∷ []))))) is
      ∙ (ap (λ x. replicate (2 * (length node.above - 1)) 0x20 ++ x) (sym (ap (λ x. x ++ 0xA ∷ []) all ∙ back))
      ∙ (sym (encode-line (length node.above - 1) (0x40 ∷ (named_text ++ (0x3D ∷ quoted node.text)))) ∙ refl))))

-- the level of a walk by the document's own nodes
tree_node-at : (document : Document) (n : ℕ) → n < length document.nodes → tree_node (tree_nodes document) n ≡ node_of document.names (node_at document.nodes n)
tree_node-at document n h = get_or-map (node_of document.names) document.nodes n document_node _ h

pub deep : (document : Document) (walk : Walk) → StandsIn document walk → walk.level ≡ length (node_at document.nodes walk.node).above
deep document walk stands = stands.level ∙ ap (λ (node : Node). length node.above) (tree_node-at document walk.node stands.within)

-- one more node
node_at-get_or : (nodes : List Placed) (k : ℕ) → node_at nodes k ≡ get_or nodes k document_node
node_at-get_or [] k = refl
node_at-get_or (node ∷ nodes) zero = refl
node_at-get_or (node ∷ nodes) (suc k) = node_at-get_or nodes k

abbrev pub lines_of : List Name → List Placed → List ℕ
lines_of names nodes = encode_utf8_all (flat_map node_line (map (node_of names) nodes))

pub lines_of-more : (names : List Name) (nodes : List Placed) (k : ℕ) → k < length nodes
    → lines_of names (take k nodes) ++ encode_utf8_all (node_line (node_of names (node_at nodes k))) ≡ lines_of names (take (k + 1) nodes)
lines_of-more names nodes k h =
    let node = node_at nodes k in
    let more : take (k + 1) nodes ≡ take k nodes ++ node ∷ [] = take_more nodes k document_node h ∙
    ap (λ x. take k nodes ++ x ∷ []) (sym (node_at-get_or nodes k)) in
    let lines : flat_map node_line (map (node_of names) (take k nodes ++ node ∷ [])) ≡ flat_map node_line (map (node_of names) (take k nodes)) ++
    node_line (node_of names node) =
    ap (flat_map node_line) (map-append (node_of names) (take k nodes) (node ∷ []))
    ∙ (flat_map-append node_line (map (node_of names) (take k nodes)) (node_of names node ∷ []) ∙
    ap (λ x. flat_map node_line (map (node_of names) (take k nodes)) ++ x) (append-nil (node_line (node_of names node)))) in
    sym (ap (lines_of names) more ∙ (ap encode_utf8_all lines ∙
    encodes-append (flat_map node_line (map (node_of names) (take k nodes))) (node_line (node_of names node))))

-- the lines of all nodes are the outline
less_one : (above : List ℕ) (n : ℕ) → length (n ∷ above) - 1 ≡ length above
less_one above n = omega arith

attribute_lines : (above : List ℕ) (element n : ℕ) (attributes : List Attribute) →
    flat_map node_line (nodes_of_attributes (element ∷ above) n attributes) ≡ outline_attributes (length above) attributes
attribute_lines above element n [] = refl
attribute_lines above element n (attribute ∷ attributes) =
    ap (λ l. line l (attribute_text attribute.name attribute.value) ++ flat_map node_line (nodes_of_attributes (element ∷ above) (n + 1) attributes))
    (less_one above element)
    ∙ ap (λ x. line (length above) (attribute_text attribute.name attribute.value) ++ x) (attribute_lines above element (n + 1) attributes)

one_more : (above : List ℕ) (n : ℕ) → length (n ∷ above) ≡ length above + 1
one_more above n = omega arith

-- nodes inside a node, of which so many are around it
forest_lines : (above : List ℕ) (around n : ℕ) (f : Forest) → flat_map node_line (nodes_of (around ∷ above) n f) ≡ outline_forest (length above) f
forest_lines above around n no_more = refl
forest_lines above around n (a_text characters rest) =
    ap (λ l. line l (quoted characters) ++ flat_map node_line (nodes_of (around ∷ above) (n + 1) rest)) (less_one above around)
    ∙ ap (λ x. line (length above) (quoted characters) ++ x) (forest_lines above around (n + 1) rest)
forest_lines above around n (an_element name attributes inside rest) =
    let first = nodes_of_attributes (n ∷ (around ∷ above)) (n + 1) attributes in
    let inner = nodes_of (n ∷ (around ∷ above)) (n + (1 + length attributes)) inside in
    let behind = nodes_of (around ∷ above) (n + (1 + (length attributes + size inside))) rest in
    let parts : flat_map node_line (first ++ (inner ++ behind)) ≡ outline_attributes (length above + 1) attributes ++
    (outline_forest (length above + 1) inside ++ outline_forest (length above) rest) =
    flat_map-append node_line first (inner ++ behind)
    ∙ (ap (λ x. x ++ flat_map node_line (inner ++ behind)) (attribute_lines (around ∷ above) n (n + 1) attributes ∙
    ap (λ l. outline_attributes l attributes) (one_more above around))
    ∙ ap (λ x. outline_attributes (length above + 1) attributes ++ x) (flat_map-append node_line inner behind
    ∙ (ap (λ x. x ++ flat_map node_line behind) (forest_lines (around ∷ above) n (n + (1 + length attributes)) inside ∙
    ap (λ l. outline_forest l inside) (one_more above around))
    ∙ ap (λ x. outline_forest (length above + 1) inside ++ x) (forest_lines above around (n + (1 + (length attributes + size inside))) rest)))) in
    ap (λ l. line l (name_text name) ++ flat_map node_line (first ++ (inner ++ behind))) (less_one above around) ∙
    ap (λ x. line (length above) (name_text name) ++ x) parts

pub lines_of-tree : (document : Document) (tree : Forest) → HasNodesOf document tree → lines_of document.names document.nodes ≡ outline_text tree
unfolding outline_text
lines_of-tree document tree is = ap (λ nodes. encode_utf8_all (flat_map node_line nodes)) is ∙ ap encode_utf8_all (forest_lines [] 0 1 tree)
