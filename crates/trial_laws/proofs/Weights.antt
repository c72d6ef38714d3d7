-- What a forest weighs: its elements by their names, its attributes and its texts by their lengths, put together by an operation. The bytes of
-- canonical text, its longest tag and the nodes are at most such weights.
use Rattle.std.proofs.Common.{◌≡◌, ℕ, suc, ◌+◌, ◌*◌, ◌≤◌, max, Bool, true, false, List, [], ◌∷◌, ◌++◌, length, refl, ap, ◌∙◌, arith, le_refl, lit≤}
use Rattle.std.proofs.Common.{encode_utf8_all, codes, length-append}
use Rattle.std.specs.Prelude.{flat_map, ◌==◌}
use Rattle.std.proofs.lemmas.Bool.{cond_both}
use Rattle.std.proofs.lemmas.Str.{encodes-append, length-encode, len_utf8_bounds}
use Rattle.std.proofs.Math.Nat.{mul-le-mul_right}
use lib.Utf8.{encode}
use Rattle.inv_base.specs.Tree.{Name, Attribute, Forest, no_more, a_text, an_element, size}
use Rattle.xml_write.specs.Escapes.{in_text, in_value}
use Rattle.xml_write.specs.Canonical.{Declaration, declaration_line, element_name, attribute_name, attribute_text, attributes_text, declarations_text}
use Rattle.xml_write.specs.Canonical.{element_text, is_childless, forest_text, canonical_text}
use Rattle.xml_write.specs.Calls.{end_tag}
use Rattle.xml_write.specs.Sizes.{element_tags, forest_tags, canonical_tags, longest}

pub record Scale : Type 0 where
  -- an element by its name, an attribute by its name and the length of its value, a text by its length
  pub base : Name → ℕ
  pub given : Name → ℕ → ℕ
  pub text : ℕ → ℕ
  -- what stands beside or in one another, and one thing so many times
  pub join : ℕ → ℕ → ℕ
  pub times : ℕ → ℕ → ℕ

pub record IsScale (scale : Scale) : Type 0 where
  pub longer : (name : Name) (m n : ℕ) → m ≤ n → scale.given name m ≤ scale.given name n
  pub longer_text : (m n : ℕ) → m ≤ n → scale.text m ≤ scale.text n
  pub both : (a b c d : ℕ) → a ≤ c → b ≤ d → scale.join a b ≤ scale.join c d
  pub grouped : (a b c : ℕ) → scale.join a (scale.join b c) ≤ scale.join (scale.join a b) c
  pub more : (a b : ℕ) → b ≤ scale.join a b
  pub again : (n a b : ℕ) → scale.join a (scale.join (scale.times n a) b) ≤ scale.join (scale.times (suc n) a) b
  pub fewer : (m n a : ℕ) → m ≤ n → scale.times m a ≤ scale.times n a

abbrev pub attributes_weight : Scale → List Attribute → ℕ
attributes_weight scale [] = 0
attributes_weight scale (a ∷ others) = scale.given a.name (length a.value) + attributes_weight scale others

abbrev pub weight : Scale → Forest → ℕ
weight scale no_more = 0
weight scale (a_text characters rest) = scale.join (scale.text (length characters)) (weight scale rest)
weight scale (an_element name attributes inside rest) =
    scale.join (scale.base name + attributes_weight scale attributes) (scale.join (weight scale inside) (weight scale rest))

-- ---- three scales

abbrev pub bytes : List ℕ → ℕ
bytes text = length (encode_utf8_all text)

abbrev pub by_bytes : List Declaration → Scale
by_bytes declarations = record {
  base = λ name. 2 * bytes (element_name declarations name) + 5;
  given = λ name n. bytes (attribute_name declarations name) + (6 * n + 4);
  text = λ n. 6 * n;
  join = λ a b. a + b;
  times = λ n a. n * a;
}

abbrev pub by_tags : List Declaration → Scale
by_tags declarations = record {
  base = λ name. bytes (element_name declarations name) + 3;
  given = λ name n. bytes (attribute_name declarations name) + (6 * n + 4);
  text = λ n. 0;
  join = λ a b. max a b;
  times = λ n a. a;
}

abbrev pub by_nodes : Scale
by_nodes = record { base = λ name. 1; given = λ name n. 1; text = λ n. 1; join = λ a b. a + b; times = λ n a. n * a }

six-more : (m n : ℕ) → m ≤ n → 6 * m ≤ 6 * n
six-more m n h = omega arith

six-longer : (k m n : ℕ) → m ≤ n → k + (6 * m + 4) ≤ k + (6 * n + 4)
six-longer k m n h = omega arith

sums-both : (a b c d : ℕ) → a ≤ c → b ≤ d → a + b ≤ c + d
sums-both a b c d h k = omega arith

sums-grouped : (a b c : ℕ) → a + (b + c) ≤ (a + b) + c
sums-grouped a b c = omega arith

sums-more : (a b : ℕ) → b ≤ a + b
sums-more a b = omega arith

sums-again : (n a b : ℕ) → a + (n * a + b) ≤ suc n * a + b
sums-again n a b = omega arith

greatest-both : (a b c d : ℕ) → a ≤ c → b ≤ d → max a b ≤ max c d
greatest-both a b c d h k = omega arith

greatest-grouped : (a b c : ℕ) → max a (max b c) ≤ max (max a b) c
greatest-grouped a b c = omega arith

greatest-more : (a b : ℕ) → b ≤ max a b
greatest-more a b = omega arith

greatest-again : (a b : ℕ) → max a (max a b) ≤ max a b
greatest-again a b = omega arith

pub bytes-scale : (declarations : List Declaration) → IsScale (by_bytes declarations)
bytes-scale declarations = record {
  longer = λ name m n h. six-longer (bytes (attribute_name declarations name)) m n h;
  longer_text = six-more;
  both = sums-both;
  grouped = sums-grouped;
  more = sums-more;
  again = sums-again;
  fewer = λ m n a h. mul-le-mul_right a h;
}

pub tags-scale : (declarations : List Declaration) → IsScale (by_tags declarations)
tags-scale declarations = record {
  longer = λ name m n h. six-longer (bytes (attribute_name declarations name)) m n h;
  longer_text = λ m n h. le_refl 0;
  both = greatest-both;
  grouped = greatest-grouped;
  more = greatest-more;
  again = λ n a b. greatest-again a b;
  fewer = λ m n a h. le_refl a;
}

pub nodes-scale : IsScale by_nodes
nodes-scale = record {
  longer = λ name m n h. le_refl 1;
  longer_text = λ m n h. le_refl 1;
  both = sums-both;
  grouped = sums-grouped;
  more = sums-more;
  again = sums-again;
  fewer = λ m n a h. mul-le-mul_right a h;
}

-- ---- bytes of texts

bytes-append : (a b : List ℕ) → bytes (a ++ b) ≡ bytes a + bytes b
bytes-append a b = ap length (encodes-append a b) ∙ length-append (encode_utf8_all a) (encode_utf8_all b)

-- one character more, of those that are one byte
bytes-open : (text : List ℕ) → bytes (0x3C ∷ text) ≡ suc (bytes text)
unfolding encode
bytes-open text = refl

bytes-shut : (text : List ℕ) → bytes (0x3E ∷ text) ≡ suc (bytes text)
unfolding encode
bytes-shut text = refl

bytes-space : (text : List ℕ) → bytes (0x20 ∷ text) ≡ suc (bytes text)
unfolding encode
bytes-space text = refl

bytes-equals : (text : List ℕ) → bytes (0x3D ∷ 0x22 ∷ text) ≡ suc (suc (bytes text))
unfolding encode
bytes-equals text = refl

bytes-quote : bytes (0x22 ∷ []) ≡ 1
unfolding encode
bytes-quote = refl

bytes-end : bytes (0x3E ∷ []) ≡ 1
unfolding encode
bytes-end = refl

bytes-line : bytes (0xA ∷ []) ≡ 1
unfolding encode
bytes-line = refl

bytes-empty : bytes (codes "/>") ≡ 2
unfolding encode
bytes-empty = refl

bytes-close : (text : List ℕ) → bytes (codes "</" ++ text) ≡ suc (suc (bytes text))
unfolding encode
bytes-close text = refl

IsShort : List ℕ → Type 0
IsShort xs = bytes xs ≤ 6

one-short : (c : ℕ) → IsShort (c ∷ [])
unfolding IsShort
one-short c =
    let e : bytes (c ∷ []) ≡ length (encode c) + 0 = length-append (encode c) [] in
    omega (arith, length-encode c, (len_utf8_bounds c).1)

in_text-short : (c : ℕ) → IsShort (in_text c)
unfolding in_text IsShort encode
in_text-short c =
    cond_both (c == 0x26) _ _ IsShort (λ _. lit≤ tt) (λ _.
    cond_both (c == 0x3C) _ _ IsShort (λ _. lit≤ tt) (λ _.
    cond_both (c == 0x3E) _ _ IsShort (λ _. lit≤ tt) (λ _.
    cond_both (c == 0xD) _ _ IsShort (λ _. lit≤ tt) (λ _. one-short c))))

in_value-short : (c : ℕ) → IsShort (in_value c)
unfolding in_value IsShort encode
in_value-short c =
    cond_both (c == 0x22) _ _ IsShort (λ _. lit≤ tt) (λ _.
    cond_both (c == 0x9) _ _ IsShort (λ _. lit≤ tt) (λ _.
    cond_both (c == 0xA) _ _ IsShort (λ _. lit≤ tt) (λ _. in_text-short c)))

all-short : (escape : ℕ → List ℕ) → ((c : ℕ) → IsShort (escape c)) → (text : List ℕ) → bytes (flat_map escape text) ≤ 6 * length text
unfolding IsShort
all-short escape short [] = le_refl 0
all-short escape short (c ∷ text) =
    let first : bytes (escape c) ≤ 6 = short c in
    let others : bytes (flat_map escape text) ≤ 6 * length text = all-short escape short text in
    omega (arith, bytes-append (escape c) (flat_map escape text))

text-bytes : (text : List ℕ) → bytes (flat_map in_text text) ≤ 6 * length text
text-bytes text = all-short in_text in_text-short text

value-bytes : (text : List ℕ) → bytes (flat_map in_value text) ≤ 6 * length text
value-bytes text = all-short in_value in_value-short text

-- ---- attributes

attribute-bytes : (name value : List ℕ) → bytes (attribute_text name value) ≤ bytes name + (6 * length value + 4)
attribute-bytes name value =
    let inner : List ℕ = flat_map in_value value in
    sum (bytes (attribute_text name value)) (bytes (name ++ 0x3D ∷ 0x22 ∷ (inner ++ 0x22 ∷ []))) (bytes name) (bytes (0x3D ∷ 0x22 ∷ (inner ++ 0x22 ∷ [])))
    (bytes (inner ++ 0x22 ∷ [])) (bytes inner) (length value)
    (bytes-space (name ++ 0x3D ∷ 0x22 ∷ (inner ++ 0x22 ∷ []))) (bytes-append name (0x3D ∷ 0x22 ∷ (inner ++ 0x22 ∷ []))) (bytes-equals (inner ++ 0x22 ∷ []))
    (bytes-append inner (0x22 ∷ []) ∙ ap (λ n. bytes inner + n) bytes-quote) (value-bytes value)
  where
    sum : (a b n c d i k : ℕ) → a ≡ suc b → b ≡ n + c → c ≡ suc (suc d) → d ≡ i + 1 → i ≤ 6 * k → a ≤ n + (6 * k + 4)
    sum a b n c d i k e f g h l = omega arith

attributes-bytes : (declarations : List Declaration) (attributes : List Attribute) →
    bytes (attributes_text declarations attributes) ≤ attributes_weight (by_bytes declarations) attributes
attributes-bytes declarations [] = le_refl 0
attributes-bytes declarations (a ∷ others) =
    let first = attribute-bytes (attribute_name declarations a.name) a.value in
    let behind = attributes-bytes declarations others in
    sum (bytes (attribute_text (attribute_name declarations a.name) a.value ++ attributes_text declarations others))
    (bytes (attribute_text (attribute_name declarations a.name) a.value)) (bytes (attributes_text declarations others))
    (bytes (attribute_name declarations a.name) + (6 * length a.value + 4)) (attributes_weight (by_bytes declarations) others)
    (bytes-append (attribute_text (attribute_name declarations a.name) a.value) (attributes_text declarations others)) first behind
  where
    sum : (a b c d e : ℕ) → a ≡ b + c → b ≤ d → c ≤ e → a ≤ d + e
    sum a b c d e f g h = omega arith

attributes-tags : (declarations : List Declaration) (attributes : List Attribute) →
    attributes_weight (by_bytes declarations) attributes ≡ attributes_weight (by_tags declarations) attributes
attributes-tags declarations [] = refl
attributes-tags declarations (a ∷ others) = ap (λ n. (bytes (attribute_name declarations a.name) + (6 * length a.value + 4)) + n)
    (attributes-tags declarations others)

attributes-nodes : (attributes : List Attribute) → length attributes ≤ attributes_weight by_nodes attributes
attributes-nodes [] = le_refl 0
attributes-nodes (a ∷ others) = let h : length others ≤ attributes_weight by_nodes others = attributes-nodes others in omega arith

-- ---- bytes

element-bytes : (name attributes : List ℕ) (childless : Bool) (inside : List ℕ) →
    bytes (element_text name attributes childless inside) ≤ (2 * bytes name + 5) + bytes attributes + bytes inside
element-bytes name attributes true inside =
    sum (bytes (0x3C ∷ (name ++ (attributes ++ codes "/>")))) (bytes (name ++ (attributes ++ codes "/>"))) (bytes name) (bytes (attributes ++ codes "/>"))
    (bytes attributes) (bytes inside)
    (bytes-open (name ++ (attributes ++ codes "/>"))) (bytes-append name (attributes ++ codes "/>"))
    (bytes-append attributes (codes "/>") ∙ ap (λ n. bytes attributes + n) bytes-empty)
  where
    sum : (a b n c d i : ℕ) → a ≡ suc b → b ≡ n + c → c ≡ d + 2 → a ≤ (2 * n + 5) + d + i
    sum a b n c d i e f g = omega arith
element-bytes name attributes false inside =
    let last : List ℕ = codes "</" ++ (name ++ 0x3E ∷ []) in
    sum (bytes (0x3C ∷ (name ++ (attributes ++ 0x3E ∷ (inside ++ last))))) (bytes (name ++ (attributes ++ 0x3E ∷ (inside ++ last)))) (bytes name)
    (bytes (attributes ++ 0x3E ∷ (inside ++ last))) (bytes attributes) (bytes (0x3E ∷ (inside ++ last)))
    (bytes (inside ++ last)) (bytes inside) (bytes last) (bytes (name ++ 0x3E ∷ []))
    (bytes-open (name ++ (attributes ++ 0x3E ∷ (inside ++ last)))) (bytes-append name (attributes ++ 0x3E ∷ (inside ++ last)))
    (bytes-append attributes (0x3E ∷ (inside ++ last))) (bytes-shut (inside ++ last)) (bytes-append inside last)
    (bytes-close (name ++ 0x3E ∷ [])) (bytes-append name (0x3E ∷ []) ∙ ap (λ n. bytes name + n) bytes-end)
  where
    sum : (a b n c d e f i l m : ℕ) → a ≡ suc b → b ≡ n + c → c ≡ d + e → e ≡ suc f → f ≡ i + l → l ≡ suc (suc m) → m ≡ n + 1 → a ≤ (2 * n + 5) + d + i
    sum a b n c d e f i l m p q r s t u v = omega arith

pub forest-bytes : (declarations : List Declaration) (f : Forest) → bytes (forest_text declarations f) ≤ weight (by_bytes declarations) f
forest-bytes declarations no_more = le_refl 0
forest-bytes declarations (a_text characters rest) =
    sum (bytes (flat_map in_text characters ++ forest_text declarations rest)) (bytes (flat_map in_text characters)) (bytes (forest_text declarations rest))
    (6 * length characters) (weight (by_bytes declarations) rest)
    (bytes-append (flat_map in_text characters) (forest_text declarations rest)) (text-bytes characters) (forest-bytes declarations rest)
  where
    sum : (a b c d e : ℕ) → a ≡ b + c → b ≤ d → c ≤ e → a ≤ d + e
    sum a b c d e f g h = omega arith
forest-bytes declarations (an_element name attributes inside rest) =
    let own : List ℕ = element_text (element_name declarations name) (attributes_text declarations attributes) (is_childless inside)
    (forest_text declarations inside) in
    sum (bytes (own ++ forest_text declarations rest)) (bytes own) (bytes (forest_text declarations rest)) (2 * bytes (element_name declarations name) + 5)
    (bytes (attributes_text declarations attributes)) (bytes (forest_text declarations inside))
    (attributes_weight (by_bytes declarations) attributes) (weight (by_bytes declarations) inside) (weight (by_bytes declarations) rest)
    (bytes-append own (forest_text declarations rest)) (element-bytes (element_name declarations name) (attributes_text declarations attributes)
    (is_childless inside) (forest_text declarations inside))
    (attributes-bytes declarations attributes) (forest-bytes declarations inside) (forest-bytes declarations rest)
  where
    sum : (a b c k t i s w r : ℕ) → a ≡ b + c → b ≤ k + t + i → t ≤ s → i ≤ w → c ≤ r → a ≤ (k + s) + (w + r)
    sum a b c k t i s w r e f g h l = omega arith

-- the bytes that a document has beside its forest
abbrev pub around : List Declaration → ℕ
around declarations = bytes declaration_line + (bytes (declarations_text declarations) + 1)

pub document-bytes : (declarations : List Declaration) (f : Forest) →
    bytes (canonical_text declarations f) ≤ around declarations + weight (by_bytes declarations) f
document-bytes declarations no_more = sums-none (around declarations)
  where
    sums-none : (a : ℕ) → 0 ≤ a + 0
    sums-none a = omega arith
document-bytes declarations (a_text characters rest) = sums-none (around declarations + weight (by_bytes declarations) (a_text characters rest))
  where
    sums-none : (a : ℕ) → 0 ≤ a
    sums-none a = omega arith
document-bytes declarations (an_element name attributes inside rest) =
    let given : List ℕ = attributes_text declarations attributes in
    let own : List ℕ = element_text (element_name declarations name) (declarations_text declarations ++ given) (is_childless inside)
    (forest_text declarations inside) in
    sum (bytes (declaration_line ++ (own ++ 0xA ∷ []))) (bytes declaration_line) (bytes (own ++ 0xA ∷ [])) (bytes own)
    (2 * bytes (element_name declarations name) + 5) (bytes (declarations_text declarations ++ given)) (bytes (declarations_text declarations))
    (bytes given)
    (bytes (forest_text declarations inside)) (attributes_weight (by_bytes declarations) attributes) (weight (by_bytes declarations) inside)
    (weight (by_bytes declarations) rest)
    (bytes-append declaration_line (own ++ 0xA ∷ [])) (bytes-append own (0xA ∷ []) ∙ ap (λ n. bytes own + n) bytes-line)
    (element-bytes (element_name declarations name) (declarations_text declarations ++ given) (is_childless inside) (forest_text declarations inside))
    (bytes-append (declarations_text declarations) given) (attributes-bytes declarations attributes) (forest-bytes declarations inside)
  where
    sum : (a d b o k t u g i s w r : ℕ) → a ≡ d + b → b ≡ o + 1 → o ≤ k + t + i → t ≡ u + g → g ≤ s → i ≤ w → a ≤ (d + (u + 1)) + ((k + s) + (w + r))
    sum a d b o k t u g i s w r e f h l m n = omega arith

-- ---- tags

longest-append : (xs ys : List (List ℕ)) → longest (xs ++ ys) ≡ max (longest xs) (longest ys)
longest-append [] ys = omega arith
longest-append (x ∷ xs) ys = let h : longest (xs ++ ys) ≡ max (longest xs) (longest ys) = longest-append xs ys in omega arith

tag-bytes : (name attributes last : List ℕ) → bytes (0x3C ∷ (name ++ (attributes ++ last))) ≡ suc (bytes name + (bytes attributes + bytes last))
tag-bytes name attributes last = bytes-open (name ++ (attributes ++ last)) ∙
    ap suc (bytes-append name (attributes ++ last) ∙ ap (λ n. bytes name + n) (bytes-append attributes last))

end-bytes : (name : List ℕ) → bytes (end_tag name) ≡ suc (suc (bytes name + 1))
end-bytes name = bytes-close (name ++ 0x3E ∷ []) ∙ ap (λ n. suc (suc n)) (bytes-append name (0x3E ∷ []) ∙ ap (λ n. bytes name + n) bytes-end)

element-tags : (name attributes : List ℕ) (childless : Bool) (inside : List (List ℕ)) →
    longest (element_tags name attributes childless inside) ≤ max ((bytes name + 3) + bytes attributes) (longest inside)
element-tags name attributes true inside =
    sum (bytes (0x3C ∷ (name ++ (attributes ++ codes "/>")))) (bytes name) (bytes attributes) (bytes (codes "/>")) (longest inside)
    (tag-bytes name attributes (codes "/>")) bytes-empty
  where
    sum : (a n t l i : ℕ) → a ≡ suc (n + (t + l)) → l ≡ 2 → max a 0 ≤ max ((n + 3) + t) i
    sum a n t l i e f = omega arith
element-tags name attributes false inside =
    sum (bytes (0x3C ∷ (name ++ (attributes ++ 0x3E ∷ [])))) (bytes name) (bytes attributes) (bytes (0x3E ∷ [])) (longest (inside ++ end_tag name ∷ []))
    (longest inside) (bytes (end_tag name))
    (tag-bytes name attributes (0x3E ∷ [])) bytes-end (longest-append inside (end_tag name ∷ [])) (end-bytes name)
  where
    sum : (a n t l j i m : ℕ) → a ≡ suc (n + (t + l)) → l ≡ 1 → j ≡ max i (max m 0) → m ≡ suc (suc (n + 1)) → max a j ≤ max ((n + 3) + t) i
    sum a n t l j i m e f g h = omega arith

pub forest-tags : (declarations : List Declaration) (f : Forest) → longest (forest_tags declarations f) ≤ weight (by_tags declarations) f
forest-tags declarations no_more = le_refl 0
forest-tags declarations (a_text characters rest) = up (longest (forest_tags declarations rest)) (weight (by_tags declarations) rest)
    (forest-tags declarations rest)
  where
    up : (a b : ℕ) → a ≤ b → a ≤ max 0 b
    up a b h = omega arith
forest-tags declarations (an_element name attributes inside rest) =
    let tags : List (List ℕ) = element_tags (element_name declarations name) (attributes_text declarations attributes) (is_childless inside)
    (forest_tags declarations inside) in
    sum (longest (tags ++ forest_tags declarations rest)) (longest tags) (longest (forest_tags declarations rest)) (bytes (element_name declarations name) + 3)
    (bytes (attributes_text declarations attributes)) (longest (forest_tags declarations inside))
    (attributes_weight (by_bytes declarations) attributes) (attributes_weight (by_tags declarations) attributes) (weight (by_tags declarations) inside)
    (weight (by_tags declarations) rest)
    (longest-append tags (forest_tags declarations rest))
    (element-tags (element_name declarations name) (attributes_text declarations attributes) (is_childless inside) (forest_tags declarations inside))
    (attributes-bytes declarations attributes) (attributes-tags declarations attributes) (forest-tags declarations inside) (forest-tags declarations rest)
  where
    sum : (a b c k t i s u w r : ℕ) → a ≡ max b c → b ≤ max (k + t) i → t ≤ s → s ≡ u → i ≤ w → c ≤ r → a ≤ max (k + u) (max w r)
    sum a b c k t i s u w r e f g h l m = omega arith

pub document-tags : (declarations : List Declaration) (f : Forest) → longest (canonical_tags declarations f) ≤ bytes (declarations_text declarations) + weight
    (by_tags declarations) f
document-tags declarations no_more = sums-none (bytes (declarations_text declarations))
  where
    sums-none : (a : ℕ) → 0 ≤ a + 0
    sums-none a = omega arith
document-tags declarations (a_text characters rest) =
    sums-none (bytes (declarations_text declarations) + weight (by_tags declarations) (a_text characters rest))
  where
    sums-none : (a : ℕ) → 0 ≤ a
    sums-none a = omega arith
document-tags declarations (an_element name attributes inside rest) =
    let given : List ℕ = attributes_text declarations attributes in
    let tags : List (List ℕ) = element_tags (element_name declarations name) (declarations_text declarations ++ given) (is_childless inside)
    (forest_tags declarations inside) in
    sum (longest tags) (bytes (element_name declarations name) + 3) (bytes (declarations_text declarations ++ given)) (bytes (declarations_text declarations))
    (bytes given) (longest (forest_tags declarations inside))
    (attributes_weight (by_bytes declarations) attributes) (attributes_weight (by_tags declarations) attributes) (weight (by_tags declarations) inside)
    (weight (by_tags declarations) rest)
    (element-tags (element_name declarations name) (declarations_text declarations ++ given) (is_childless inside) (forest_tags declarations inside))
    (bytes-append (declarations_text declarations) given) (attributes-bytes declarations attributes) (attributes-tags declarations attributes)
    (forest-tags declarations inside)
  where
    sum : (b k t d g i s u w r : ℕ) → b ≤ max (k + t) i → t ≡ d + g → g ≤ s → s ≡ u → i ≤ w → b ≤ d + max (k + u) (max w r)
    sum b k t d g i s u w r e f h l m = omega arith

-- ---- nodes

pub forest-nodes : (f : Forest) → size f ≤ weight by_nodes f
forest-nodes no_more = le_refl 0
forest-nodes (a_text characters rest) = let h : size rest ≤ weight by_nodes rest = forest-nodes rest in omega arith
forest-nodes (an_element name attributes inside rest) =
    sum (length attributes) (size inside) (size rest) (attributes_weight by_nodes attributes) (weight by_nodes inside) (weight by_nodes rest)
    (attributes-nodes attributes) (forest-nodes inside) (forest-nodes rest)
  where
    sum : (a b c d e f : ℕ) → a ≤ d → b ≤ e → c ≤ f → 1 + (a + (b + c)) ≤ (1 + d) + (e + f)
    sum a b c d e f g h k = omega arith
