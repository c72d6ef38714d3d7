-- The attributes of an element, one after another, and the names of nodes.
use Rattle.std.proofs.Common.{◌≡◌, ℕ, ◌+◌, ◌-◌, ◌<◌, ◌≤◌, zero, suc, Bool, true, false, List, [], ◌∷◌, length, get_or, drop, Option, Some, None, refl, sym, ap}
use Rattle.std.proofs.Common.{subst, ◌∙◌, cond, inl, inr, arith, length-drop}
use Rattle.std.specs.Prelude.{filter, map, option_map, bytes_eq, chars, if◌then◌else◌}
use Rattle.std.specs.Option.{ForSome}
use Rattle.std.specs.Prelude.{nat_lt, ◌==◌}
use Rattle.std.specs.List.{list_all}
use Rattle.std.specs.Str.{IsUtf8, IsAscii}
use Rattle.std.proofs.lemmas.Str.{encodes-chars, chars-IsAscii, chars-nil}
use Rattle.std.proofs.lemmas.Str.Ascii.{IsAscii-nil, IsAscii-cons, encodes-IsAscii}
use Rattle.std.proofs.lemmas.Slice.Eq.{bytes_eq-Decides}
use Rattle.std.proofs.lemmas.Bool.{cases_Bool, and_parts, ltb-true}
use lib.Utf8.{encodes}
use Rattle.std.proofs.lemmas.Bool.Decides.{same_from_decides, Decides-like, Decides-eqb}
use Rattle.std.proofs.lemmas.List.{get_or-map, get_or-drop, drop-drop, drop_more, nil_from_length, length-map}
use Rattle.inv_base.specs.Tree.{Name, Node}
use Rattle.inv_terms.specs.Values.{is_blank, trimmed}
use Rattle.xml_events.specs.Events.{name_at}
use Rattle.node_arena.specs.Document.{Document, Placed, node_at, document_node, AreNumbered}
use Rattle.node_arena.specs.Moves.{tree_nodes, tree_node, node_of, parent, is_nearest, is_attribute, is_attribute_of, first_that, behind, next_attribute}
use Rattle.bind_meaning.specs.Names.{has_plain_name, is_named, is_spelled}
use Rattle.bind_meaning.specs.Elements.{number, both, string_at}
use Rattle.bind_meaning.specs.Currencies.{currency_id, first_full}
use Rattle.bind_seats.specs.Currency.{currency_at}
use Rattle.bind_seats.specs.Nodes.{Numbered}
use Rattle.bind_seats.proofs.WayLemmas.{nearest-is, number-at}

-- ---- names

pub node-is : (doc : Document) (n : ℕ) → n < length doc.nodes → tree_node (tree_nodes doc) n ≡ node_of doc.names (node_at doc.nodes n)
node-is doc n l = get_or-map (node_of doc.names) doc.nodes n document_node _ l

pub plain-some : (doc : Document) (n id : ℕ) (local : List ℕ) → n < length doc.nodes → (node_at doc.nodes n).name ≡ Some id
    → has_plain_name local (tree_node (tree_nodes doc) n) ≡ is_spelled [] local (name_at doc.names id)
plain-some doc n id local l h =
    ap (has_plain_name local) (node-is doc n l) ∙ ap (λ o. is_named [] local (option_map (name_at doc.names) o)) h

pub plain-none : (doc : Document) (n : ℕ) (local : List ℕ) → n < length doc.nodes → (node_at doc.nodes n).name ≡ None
    → has_plain_name local (tree_node (tree_nodes doc) n) ≡ false
plain-none doc n local l h =
    ap (has_plain_name local) (node-is doc n l) ∙ ap (λ o. is_named [] local (option_map (name_at doc.names) o)) h

ascii : (bytes : List ℕ) → list_all (λ b. nat_lt b 128) bytes ≡ true → IsAscii bytes
ascii [] e = IsAscii-nil
ascii (b ∷ bytes) e =
    let parts = and_parts (nat_lt b 128) (list_all (λ b. nat_lt b 128) bytes) e in
    IsAscii-cons b bytes (ltb-true b 128 parts.0) (ascii bytes parts.1)

-- a text of ASCII by its bytes, and by its characters
pub is-word : (word b : List ℕ) → IsAscii word → IsUtf8 b → bytes_eq b word ≡ bytes_eq word (chars b)
is-word word b a u =
    same_from_decides _ _ (bytes_eq-Decides b word)
    (Decides-like _ (λ e. sym (encodes-chars b u) ∙ (ap encodes (sym e) ∙ encodes-IsAscii word a)) (λ e. sym (chars-IsAscii word a) ∙ ap chars (sym e))
    (bytes_eq-Decides word (chars b)))

pub is-nothing : (b : List ℕ) → IsUtf8 b → (length b == 0) ≡ bytes_eq [] (chars b)
is-nothing b u =
    same_from_decides _ _ (Decides-eqb (length b) 0)
    (Decides-like _ (λ e. ap length (sym (encodes-chars b u) ∙ ap encodes (sym e))) (λ e. sym (ap chars (nil_from_length b e) ∙ chars-nil))
    (bytes_eq-Decides [] (chars b)))

pub spelled-some : (uri local : List ℕ) → IsUtf8 uri → IsUtf8 local → (r : Bool) → r ≡ (length uri == 0) → bytes_eq local currency_id ≡ true
    → r ≡ is_spelled [] currency_id (record { uri = chars uri; local = chars local })
spelled-some uri local u l r e h =
    let is : bytes_eq currency_id (chars local) ≡ true = sym (is-word currency_id local (ascii currency_id refl) l) ∙ h in
    e ∙ (is-nothing uri u ∙ ap (λ b. elim b [ true ↦ bytes_eq [] (chars uri) | false ↦ false ]) (sym is))

pub spelled-none : (uri local : List ℕ) → IsUtf8 local → bytes_eq local currency_id ≡ false
    → false ≡ is_spelled [] currency_id (record { uri = chars uri; local = chars local })
spelled-none uri local l h =
    let is : bytes_eq currency_id (chars local) ≡ false = sym (is-word currency_id local (ascii currency_id refl) l) ∙ h in
    ap (λ b. elim b [ true ↦ bytes_eq [] (chars uri) | false ↦ false ]) (sym is)

-- ---- the first node of a sort, and a filter

pub record FoundFrom (p t : Node → Bool) (xs : List Node) (j m : ℕ) : Type 0 where
  pub at : ℕ
  pub place : m ≡ j + at
  pub within : at < length xs
  pub is_so : (d : Node) → p (get_or xs at d) ≡ true
  pub rest : filter t xs ≡ filter t (drop at xs)

found-none : (p t : Node → Bool) → ((node : Node) → p node ≡ false → t node ≡ false) → (xs : List Node) → first_that p xs ≡ None → filter t xs ≡ []
found-none p t f [] h = refl
found-none p t f (node ∷ xs) h = elim (cases_Bool (p node)) [
  | inl e ↦ (let k = rw e at h in absurd (let bad : Some node.number ≡ None = k in cc))
  | inr e ↦ (let k = rw e at h in rw (f node e) (found-none p t f xs k))
]

found-some : (p t : Node → Bool) → ((node : Node) → p node ≡ false → t node ≡ false) → (xs : List Node) (j m : ℕ) → Numbered j xs → first_that p xs ≡ Some m
    → FoundFrom p t xs j m
found-some p t f [] j m n h = absurd (let bad : None ≡ Some m = h in cc)
found-some p t f (node ∷ xs) j m n h = elim (cases_Bool (p node)) [
  | inl e ↦ (let k : Some node.number ≡ Some m = rw e at h in
      let is : node.number ≡ m = cc in
      record { at = 0; place = (let num = n.0 in omega arith); within = omega arith; is_so = λ d. e; rest = refl })
  | inr e ↦ (let k = rw e at h in
      let found = found-some p t f xs (suc j) m n.1 k in
      record {
        at = suc found.at;
        place = (let place = found.place in omega arith);
        within = (let within = found.within in omega arith);
        is_so = found.is_so;
        rest = rw (f node e) found.rest;
      })
]

-- ---- the attributes of an element from one on

-- An attribute of the element stands there, if a node does.
abbrev pub IsAttributeAt : List Node → ℕ → Option ℕ → Type 0
IsAttributeAt nodes n next = ForSome next (λ m. (m < length nodes) × (is_attribute_of n (tree_node nodes m) ≡ true))

abbrev pub is_currency : ℕ → Node → Bool
is_currency n = both (is_attribute_of n) (has_plain_name currency_id)

abbrev pub currency_of_all : List Node → List Node → Option (List ℕ)
currency_of_all nodes xs = first_full (map (λ m. trimmed (string_at nodes m)) (map number xs))

-- the currency by the attributes from one on
abbrev pub currency_from : List Node → ℕ → Option ℕ → Option (List ℕ)
currency_from nodes n None = None
currency_from nodes n (Some m) = currency_of_all nodes (filter (is_currency n) (drop m nodes))

-- how many nodes may still come
abbrev pub left_from : List Node → Option ℕ → ℕ
left_from nodes None = 0
left_from nodes (Some m) = length nodes - m

other-currency : (n : ℕ) (node : Node) → is_attribute_of n node ≡ false → is_currency n node ≡ false
other-currency n node h = ap (λ b. elim b [ true ↦ has_plain_name currency_id node | false ↦ false ]) h

Numbered-drop : (j k : ℕ) (nodes : List Node) → Numbered j nodes → Numbered (j + k) (drop k nodes)
Numbered-drop j zero nodes h = subst (λ i. Numbered i nodes) (let z : j ≡ j + 0 = omega arith in z) h
Numbered-drop j (suc k) [] h = tt
Numbered-drop j (suc k) (node ∷ nodes) h =
    subst (λ i. Numbered i (drop k nodes)) (let z : suc j + k ≡ j + suc k = omega arith in z) (Numbered-drop (suc j) k nodes h.1)

none-for : (P : ℕ → Type 0) → ForSome None P
none-for P = λ x e. absurd (let bad : None ≡ Some x = e in cc)

some-for : (P : ℕ → Type 0) (m : ℕ) → P m → ForSome (Some m) P
some-for P m h = λ x e. subst P (let is : m ≡ x = cc in is) h

-- what is known of the first attribute from a place on
pub record FirstFrom (nodes : List Node) (n k : ℕ) (next : Option ℕ) : Type 0 where
  pub at : IsAttributeAt nodes n next
  pub by : currency_from nodes n next ≡ currency_of_all nodes (filter (is_currency n) (drop k nodes))
  pub behind : ForSome next (λ m. k ≤ m)

pub currency-first : (nodes : List Node) → Numbered 0 nodes → (n k : ℕ) (next : Option ℕ) → next ≡ first_that (is_attribute_of n) (drop k nodes)
    → FirstFrom nodes n k next
currency-first nodes num n k None e = record {
  at = none-for (λ x. (x < length nodes) × (is_attribute_of n (tree_node nodes x) ≡ true));
  by = sym (ap (currency_of_all nodes) (found-none (is_attribute_of n) (is_currency n) (other-currency n) (drop k nodes) (sym e)));
  behind = none-for (λ x. k ≤ x);
}
currency-first nodes num n k (Some m) e =
    let found = found-some (is_attribute_of n) (is_currency n) (other-currency n) (drop k nodes) k m
    (subst (λ i. Numbered i (drop k nodes)) (let z : 0 + k ≡ k = omega arith in z) (Numbered-drop 0 k nodes num)) (sym e) in
    let place : m ≡ k + found.at = found.place in
    let within : found.at < length (drop k nodes) = found.within in
    let at : tree_node nodes m ≡ get_or (drop k nodes) found.at _ = ap (tree_node nodes) place ∙ sym (get_or-drop k nodes found.at _) in
    let rest : drop found.at (drop k nodes) ≡ drop m nodes = drop-drop found.at k nodes ∙ ap (λ i. drop i nodes) (sym place) in
    record {
      at = some-for (λ x. (x < length nodes) × (is_attribute_of n (tree_node nodes x) ≡ true)) m
          (omega (arith, length-drop k nodes), ap (is_attribute_of n) at ∙ found.is_so _);
      by = sym (ap (currency_of_all nodes) (found.rest ∙ ap (filter (is_currency n)) rest));
      behind = some-for (λ x. k ≤ x) m (omega arith);
    }

-- ---- a step of the loop

-- What stands at an attribute, and behind it.
currency-at : (nodes : List Node) (n m : ℕ) → m < length nodes
    → currency_of_all nodes (filter (is_currency n) (drop m nodes))
    ≡ currency_of_all nodes (cond (is_currency n (tree_node nodes m)) (tree_node nodes m ∷ filter (is_currency n) (drop (m + 1) nodes))
    (filter (is_currency n) (drop (m + 1) nodes)))
currency-at nodes n m l = ap (λ xs. currency_of_all nodes (filter (is_currency n) xs)) (drop_more nodes m _ l)

-- the next attribute is the first of the element behind this one
next-is : (nodes : List Node) (n m : ℕ) → is_attribute_of n (tree_node nodes m) ≡ true
    → next_attribute nodes m ≡ first_that (is_attribute_of n) (drop (m + 1) nodes)
next-is nodes n m h =
    let parts = and_parts (is_nearest n (tree_node nodes m).above) (is_attribute (tree_node nodes m)) h in
    ap (λ b. if b then (elim (parent nodes m) [ None ↦ None | Some p ↦ first_that (is_attribute_of p) (behind m nodes) ]) else None) parts.1
    ∙ ap (λ o. elim o [ None ↦ None | Some p ↦ first_that (is_attribute_of p) (behind m nodes) ]) (nearest-is n (tree_node nodes m).above parts.0)

pub currency-next : (nodes : List Node) → Numbered 0 nodes → (n m : ℕ) (next : Option ℕ) → is_attribute_of n (tree_node nodes m) ≡ true
    → next ≡ next_attribute nodes m → FirstFrom nodes n (m + 1) next
currency-next nodes num n m next h e = currency-first nodes num n (m + 1) next (e ∙ next-is nodes n m h)

step-full : (nodes : List Node) (node : Node) (xs : List Node) (m : ℕ) → node.number ≡ m → is_blank (trimmed (string_at nodes m)) ≡ false
    → currency_of_all nodes (node ∷ xs) ≡ Some (trimmed (string_at nodes m))
step-full nodes node xs m e h =
    ap (λ k. first_full (trimmed (string_at nodes k) ∷ map (λ j. trimmed (string_at nodes j)) (map number xs))) e
    ∙ ap (λ b. elim b [ true ↦ first_full (map (λ j. trimmed (string_at nodes j)) (map number xs)) | false ↦ Some (trimmed (string_at nodes m)) ]) h

step-blank : (nodes : List Node) (node : Node) (xs : List Node) (m : ℕ) → node.number ≡ m → is_blank (trimmed (string_at nodes m)) ≡ true
    → currency_of_all nodes (node ∷ xs) ≡ currency_of_all nodes xs
step-blank nodes node xs m e h =
    ap (λ k. first_full (trimmed (string_at nodes k) ∷ map (λ j. trimmed (string_at nodes j)) (map number xs))) e
    ∙ ap (λ b. elim b [ true ↦ first_full (map (λ j. trimmed (string_at nodes j)) (map number xs)) | false ↦ Some (trimmed (string_at nodes m)) ]) h

-- What the currency is from an attribute on: its own, or that of those behind it.
abbrev pub after_own : Option (List ℕ) → Option (List ℕ) → Option (List ℕ)
after_own (Some text) others = Some text
after_own None others = others

pub currency-step : (nodes : List Node) → Numbered 0 nodes → (n m : ℕ) → m < length nodes → is_attribute_of n (tree_node nodes m) ≡ true
    → (own : Option (List ℕ)) → own ≡ currency_at nodes m
    → currency_from nodes n (Some m) ≡ after_own own (currency_of_all nodes (filter (is_currency n) (drop (m + 1) nodes)))
currency-step nodes num n m l h own is =
    let rest : List Node = filter (is_currency n) (drop (m + 1) nodes) in
    let self : (tree_node nodes m).number ≡ m = number-at nodes num m l in
    let test : is_currency n (tree_node nodes m) ≡ has_plain_name currency_id (tree_node nodes m) =
    ap (λ b. elim b [ true ↦ has_plain_name currency_id (tree_node nodes m) | false ↦ false ]) h in
    currency-at nodes n m l ∙ (ap (λ b. currency_of_all nodes (cond b (tree_node nodes m ∷ rest) rest)) test
    ∙ (go (has_plain_name currency_id (tree_node nodes m)) (is_blank (trimmed (string_at nodes m))) refl self rest
    ∙ ap (λ (o : Option (List ℕ)). after_own o (currency_of_all nodes rest)) (sym is)))
  where
    go : (b c : Bool) → is_blank (trimmed (string_at nodes m)) ≡ c → (tree_node nodes m).number ≡ m → (rest : List Node)
        → currency_of_all nodes (cond b (tree_node nodes m ∷ rest) rest)
        ≡ after_own (elim b [ true ↦ elim c [ true ↦ None | false ↦ Some (trimmed (string_at nodes m)) ] | false ↦ None ]) (currency_of_all nodes rest)
    go true true e self rest = step-blank nodes (tree_node nodes m) rest m self e
    go true false e self rest = step-full nodes (tree_node nodes m) rest m self e
    go false c e self rest = refl

-- ---- a document's own numbers

pub numbered : (names : List Name) (nodes : List Placed) (n : ℕ) → AreNumbered n nodes → Numbered n (map (node_of names) nodes)
numbered names [] n h = tt
numbered names (node ∷ nodes) n h = (
  h.0,
  subst (λ k. Numbered k (map (node_of names) nodes)) (let z : n + 1 ≡ suc n = omega arith in z)
      (numbered names nodes (n + 1) h.1),
)

pub long : (doc : Document) → length (tree_nodes doc) ≡ length doc.nodes
long doc = length-map doc.nodes (node_of doc.names)

-- ---- the loop over attributes, where it stands at one

-- its own text is the answer
pub loop-found : (nodes : List Node) → Numbered 0 nodes → (n m : ℕ) (own whole : Option (List ℕ)) (at : Option ℕ) (text : List ℕ) → at ≡ Some m
    → IsAttributeAt nodes n at
    → currency_from nodes n at ≡ whole → own ≡ currency_at nodes m → own ≡ Some text → Some text ≡ whole
loop-found nodes num n m own whole at text e is by o found =
    let place = is m e in
    let step = currency-step nodes num n m place.0 place.1 own o in
    sym (ap (λ x. after_own x (currency_of_all nodes (filter (is_currency n) (drop (m + 1) nodes)))) found)
    ∙ (sym step ∙ (ap (currency_from nodes n) (sym e) ∙ by))

-- it has none, and the answer is that of those behind it
pub loop-passed : (nodes : List Node) → Numbered 0 nodes → (n m : ℕ) (own whole : Option (List ℕ)) (at next : Option ℕ) → at ≡ Some m → IsAttributeAt nodes n at
    → currency_from nodes n at ≡ whole → own ≡ currency_at nodes m → own ≡ None → next ≡ next_attribute nodes m
    → IsAttributeAt nodes n next × (currency_from nodes n next ≡ whole) × (left_from nodes next < left_from nodes at)
loop-passed nodes num n m own whole at next e is by o none moved =
    let place = is m e in
    let step = currency-step nodes num n m place.0 place.1 own o in
    let first = currency-next nodes num n m next place.1 moved in (
      first.at,
      first.by ∙ (sym (ap (λ x. after_own x (currency_of_all nodes (filter (is_currency n) (drop (m + 1) nodes)))) none)
          ∙ (sym step ∙ (ap (currency_from nodes n) (sym e) ∙ by))),
      smaller next first.behind,
    )
  where
    smaller : (o : Option ℕ) → ForSome o (λ x. m + 1 ≤ x) → left_from nodes o < left_from nodes at
    smaller None h = rw e (let place = is m e in let l = place.0 in omega arith)
    smaller (Some x) h = rw e (let place = is m e in let l = place.0 in let up = h x refl in omega arith)
