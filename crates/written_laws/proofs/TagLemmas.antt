-- Where the longest tag of the text keeps the limit on tags, each tag of its tree does.
use Rattle.std.proofs.Common.{◌≡◌, ℕ, ◌+◌, ◌≤◌, Bool, true, false, ◌&&◌, List, [], ◌∷◌, ◌++◌, length, max, refl, ap, ◌∙◌, suc, le_refl, arith, nat_le, codes}
use Rattle.std.proofs.Common.{encode_utf8_all, length-append}
use Rattle.std.specs.List.{list_all}
use Rattle.std.proofs.lemmas.Str.{encodes-append}
use lib.Utf8.{encode}
use Rattle.inv_base.specs.Tree.{Name, Attribute, Forest, no_more, a_text, an_element}
use Rattle.xml_tokens.specs.Beginnings.{greatest_tag}
use Rattle.xml_state.specs.declared.limits.Limits.{Limits}
use Rattle.xml_write.specs.Canonical.{Declaration, element_name, attribute_name, declaring_name, declarations_text, attributes_text, is_childless}
use Rattle.xml_write.specs.Calls.{end_tag}
use Rattle.xml_write.specs.Sizes.{element_tags, forest_tags, canonical_tags, longest}
use Rattle.xml_laws.specs.Writable.{is_short, tags_fit, keeps_limits, keep_limits}
use Rattle.written_laws.proofs.ListLemmas.{and-true, is-at-most}
use Rattle.written_laws.proofs.TreeLemmas.{IsFine, Elements}

-- ---- lengths

left-most : (a b n : ℕ) → max a b ≤ n → a ≤ n
left-most a b n h = omega arith

right-most : (a b n : ℕ) → max a b ≤ n → b ≤ n
right-most a b n h = omega arith

both-most : (a b n : ℕ) → a ≤ n → b ≤ n → max a b ≤ n
both-most a b n h k = omega arith

longest-front : (xs ys : List (List ℕ)) (n : ℕ) → longest (xs ++ ys) ≤ n → longest xs ≤ n
longest-front [] ys n h = let z : 0 ≤ n = omega arith in z
longest-front (x ∷ xs) ys n h =
    both-most (length (encode_utf8_all x)) (longest xs) n (left-most (length (encode_utf8_all x)) (longest (xs ++ ys)) n h)
    (longest-front xs ys n (right-most (length (encode_utf8_all x)) (longest (xs ++ ys)) n h))

longest-back : (xs ys : List (List ℕ)) (n : ℕ) → longest (xs ++ ys) ≤ n → longest ys ≤ n
longest-back [] ys n h = h
longest-back (x ∷ xs) ys n h = longest-back xs ys n (right-most (length (encode_utf8_all x)) (longest (xs ++ ys)) n h)

-- ---- the bytes of tags

size-append : (a b : List ℕ) → length (encode_utf8_all (a ++ b)) ≡ length (encode_utf8_all a) + length (encode_utf8_all b)
size-append a b = ap length (encodes-append a b) ∙ length-append (encode_utf8_all a) (encode_utf8_all b)

size-open : (text : List ℕ) → length (encode_utf8_all (0x3C ∷ text)) ≡ suc (length (encode_utf8_all text))
unfolding encode
size-open text = refl

size-shut : length (encode_utf8_all (0x3E ∷ [])) ≡ 1
unfolding encode
size-shut = refl

size-empty : length (encode_utf8_all (codes "/>")) ≡ 2
unfolding encode
size-empty = refl

size-close : (text : List ℕ) → length (encode_utf8_all (codes "</" ++ text)) ≡ suc (suc (length (encode_utf8_all text)))
unfolding encode
size-close text = refl

tag-size : (name rest last : List ℕ) (k : ℕ) → length (encode_utf8_all last) ≡ k →
    length (encode_utf8_all (0x3C ∷ (name ++ (rest ++ last)))) ≡ length (encode_utf8_all (name ++ rest)) + (k + 1)
tag-size name rest last k e =
    sum (length (encode_utf8_all (0x3C ∷ (name ++ (rest ++ last))))) (length (encode_utf8_all (name ++ (rest ++ last)))) (length (encode_utf8_all name))
    (length (encode_utf8_all (rest ++ last)))
    (length (encode_utf8_all rest)) (length (encode_utf8_all last)) (length (encode_utf8_all (name ++ rest))) k
    (size-open (name ++ (rest ++ last))) (size-append name (rest ++ last)) (size-append rest last) (size-append name rest) e
  where
    sum : (w x n m r l y k : ℕ) → w ≡ suc x → x ≡ n + m → m ≡ r + l → y ≡ n + r → l ≡ k → w ≡ y + (k + 1)
    sum w x n m r l y k a b c d e = omega arith

close-size : (name : List ℕ) → length (encode_utf8_all (end_tag name)) ≡ length (encode_utf8_all name) + 3
close-size name =
    sum (length (encode_utf8_all (end_tag name))) (length (encode_utf8_all (name ++ 0x3E ∷ []))) (length (encode_utf8_all name))
    (length (encode_utf8_all (0x3E ∷ [])))
    (size-close (name ++ 0x3E ∷ [])) (size-append name (0x3E ∷ [])) size-shut
  where
    sum : (w x n l : ℕ) → w ≡ suc (suc x) → x ≡ n + l → l ≡ 1 → w ≡ n + 3
    sum w x n l a b c = omega arith

within-most : (w y n : ℕ) → w ≡ y → w ≤ n → nat_le y n ≡ true
within-most w y n e h = is-at-most y n (omega arith)

tags-fit : (childless : Bool) (name rest : List ℕ) (inside : List (List ℕ)) → longest (element_tags name rest childless inside) ≤ greatest_tag
    → tags_fit childless (encode_utf8_all name) (encode_utf8_all (name ++ rest)) ≡ true
tags-fit true name rest inside h =
    within-most (length (encode_utf8_all (0x3C ∷ (name ++ (rest ++ codes "/>"))))) (length (encode_utf8_all (name ++ rest)) + 3) greatest_tag
    (tag-size name rest (codes "/>") 2 size-empty) (left-most (length (encode_utf8_all (0x3C ∷ (name ++ (rest ++ codes "/>"))))) 0 greatest_tag h)
tags-fit false name rest inside h =
    let start = length (encode_utf8_all (0x3C ∷ (name ++ (rest ++ 0x3E ∷ [])))) in
    let others = longest (inside ++ end_tag name ∷ []) in
    and-true (nat_le (length (encode_utf8_all (name ++ rest)) + 2) greatest_tag) (nat_le (length (encode_utf8_all name) + 3) greatest_tag)
    (within-most start (length (encode_utf8_all (name ++ rest)) + 2) greatest_tag (tag-size name rest (0x3E ∷ []) 1 size-shut)
    (left-most start others greatest_tag h))
    (within-most (length (encode_utf8_all (end_tag name))) (length (encode_utf8_all name) + 3) greatest_tag (close-size name)
    (left-most (length (encode_utf8_all (end_tag name))) 0 greatest_tag
    (longest-back inside (end_tag name ∷ []) greatest_tag (right-most start others greatest_tag h))))

inside-fit : (name rest : List ℕ) (inside : List (List ℕ)) → longest (element_tags name rest false inside) ≤ greatest_tag → longest inside ≤ greatest_tag
inside-fit name rest inside h =
    longest-front inside (end_tag name ∷ []) greatest_tag
    (right-most (length (encode_utf8_all (0x3C ∷ (name ++ (rest ++ 0x3E ∷ []))))) (longest (inside ++ end_tag name ∷ [])) greatest_tag h)

-- ---- the tags of a tree

module _ (limits : Limits) (declarations : List Declaration) where
  -- an element whose start tag has declarations of its own: none, or all
  fewer : (a b c most : ℕ) → a ≤ b → b + c ≤ most → a + c ≤ most
  fewer a b c most h k = omega arith

  element-keeps : (own : List Declaration) (name : Name) (given : List Attribute) (childless : Bool) (inside : List (List ℕ)) → length own ≤ length declarations
      → list_all (λ (d : Declaration). is_short limits (declaring_name d.prefix)) own ≡ true → IsFine limits declarations name given
      → longest (element_tags (element_name declarations name) (declarations_text own ++ attributes_text declarations given) childless inside) ≤ greatest_tag
      → keeps_limits limits declarations own name given childless ≡ true
  element-keeps own name given childless inside few own_short fine h =
      let written = element_name declarations name in
      let text = written ++ (declarations_text own ++ attributes_text declarations given) in
      let short = list_all (λ (d : Declaration). is_short limits (declaring_name d.prefix)) own in
      let named = is_short limits written in
      let all_short = list_all (λ (a : Attribute). is_short limits (attribute_name declarations a.name)) given in
      let fit = tags_fit childless (encode_utf8_all written) (encode_utf8_all text) in
      and-true (nat_le (length own + length given) limits.attributes) (short && (named && (all_short && fit)))
      (is-at-most (length own + length given) limits.attributes (fewer (length own) (length declarations) (length given) limits.attributes few fine.few))
      (and-true short (named && (all_short && fit)) own_short
      (and-true named (all_short && fit) fine.short
      (and-true all_short fit fine.all_short (tags-fit childless written (declarations_text own ++ attributes_text declarations given) inside h))))

  childless-keeps : (own : List Declaration) (f : Forest) → is_childless f ≡ true → keep_limits limits declarations own f ≡ true
  childless-keeps own no_more h = refl
  childless-keeps own (a_text [] rest) h = childless-keeps own rest h
  childless-keeps own (a_text (c ∷ text) rest) h = absurd (let z : false ≡ true = h in cc)
  childless-keeps own (an_element name given inside rest) h = absurd (let z : false ≡ true = h in cc)

  -- what is inside an element
  inside-keeps : (name : Name) (given : List Attribute) (own : List Declaration) (f : Forest) →
      (longest (forest_tags declarations f) ≤ greatest_tag → keep_limits limits declarations [] f ≡ true)
      → longest (element_tags (element_name declarations name) (declarations_text own ++ attributes_text declarations given) (is_childless f)
      (forest_tags declarations f)) ≤ greatest_tag
      → keep_limits limits declarations [] f ≡ true
  inside-keeps name given own f goes h = go (is_childless f) refl h
    where
      go : (b : Bool) → is_childless f ≡ b →
          longest (element_tags (element_name declarations name) (declarations_text own ++ attributes_text declarations given) b
          (forest_tags declarations f)) ≤ greatest_tag
          → keep_limits limits declarations [] f ≡ true
      go true e k = childless-keeps [] f e
      go false e k = goes (inside-fit (element_name declarations name) (declarations_text own ++ attributes_text declarations given)
          (forest_tags declarations f) k)

  forest-keeps : (f : Forest) → Elements (IsFine limits declarations) f → longest (forest_tags declarations f) ≤ greatest_tag →
      keep_limits limits declarations [] f ≡ true
  forest-keeps no_more fine h = refl
  forest-keeps (a_text text rest) fine h = forest-keeps rest fine h
  forest-keeps (an_element name given inside rest) fine h =
      let tags = element_tags (element_name declarations name) (attributes_text declarations given) (is_childless inside) (forest_tags declarations inside) in
      let front = longest-front tags (forest_tags declarations rest) greatest_tag h in
      let back = longest-back tags (forest_tags declarations rest) greatest_tag h in
      and-true (keeps_limits limits declarations [] name given (is_childless inside)) (keep_limits limits declarations [] inside &&
      keep_limits limits declarations [] rest)
      (element-keeps [] name given (is_childless inside) (forest_tags declarations inside) (let z : 0 ≤ length declarations = omega arith in
      z) refl fine.0 front)
      (and-true (keep_limits limits declarations [] inside) (keep_limits limits declarations [] rest)
      (inside-keeps name given [] inside (forest-keeps inside fine.1) front) (forest-keeps rest fine.2 back))

  -- those of a document
  pub document-keeps : (name : Name) (given : List Attribute) (inside : Forest) →
      list_all (λ (d : Declaration). is_short limits (declaring_name d.prefix)) declarations ≡ true
      → Elements (IsFine limits declarations) (an_element name given inside no_more) →
      longest (canonical_tags declarations (an_element name given inside no_more)) ≤ greatest_tag
      → keep_limits limits declarations declarations (an_element name given inside no_more) ≡ true
  document-keeps name given inside short fine h =
      and-true (keeps_limits limits declarations declarations name given (is_childless inside)) (keep_limits limits declarations [] inside && true)
      (element-keeps declarations name given (is_childless inside) (forest_tags declarations inside) (le_refl (length declarations)) short fine.0 h)
      (and-true (keep_limits limits declarations [] inside) true (inside-keeps name given declarations inside (forest-keeps inside fine.1) h) refl)
