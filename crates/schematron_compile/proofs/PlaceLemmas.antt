-- Places of patterns by their identifiers, and what the elements of a phase name.
use Rattle.std.proofs.Common.{◌≡◌, subst, ℕ, zero, suc, ◌+◌, ◌≤◌, ◌<◌, Bool, true, false, cond, ◌&&◌, ◌||◌, ◌==◌, List, [], ◌∷◌, ◌++◌, map, length, get_or}
use Rattle.std.proofs.Common.{take, Option, Some, None, Result, Ok, Err, IfOk, OnOk, refl, ap, sym, ◌∙◌, arith, chars, encode_utf8_all, append-nil}
use Rattle.std.proofs.Common.{append_assoc}
use Rattle.std.specs.Prelude.{flat_map, if◌then◌else◌, is_ok, option_copied, Vec}
use Rattle.std.specs.Borrow.{Bor}
use Rattle.std.specs.BTreeMap.{BTreeMap, get_by}
use Rattle.std.specs.Cmp.Lexicographic.{slice_cmp}
use Rattle.std.specs.Option.{option_map_or}
use Rattle.std.specs.Ordering.{nat_cmp}
use Rattle.std.specs.List.{list_any}
use Rattle.std.specs.Bool.{one_answer}
use Rattle.std.specs.Str.{bytes_eq, IsUtf8}
use Rattle.std.proofs.lemmas.Bool.Decides.{Decides-like}
use Rattle.std.proofs.lemmas.List.{map-append, length-map, take_more, length-take-le}
use Rattle.std.proofs.lemmas.Slice.Eq.{bytes_eq-Decides}
use Rattle.inv_base.specs.Tree.{is_among}
use Rattle.schematron_meaning.specs.declared.attribute.Attribute.TheVariants as a
use Rattle.schematron_meaning.specs.Entries.{Entry}
use Rattle.schematron_meaning.specs.Lookup.{attribute, is_value}
use Rattle.schematron_meaning.specs.Expansion.{Instance}
use Rattle.schematron_meaning.specs.Rules.{names_pattern, numbers_named}
use Rattle.schematron_expansion.specs.declared.instances.Instance.{Instance as Lent}
use Rattle.schematron_expansion.specs.Seen.{seen_instance}
use Rattle.schematron_entries.specs.declared.entry.Entry.{Entry as Read}
use Rattle.schematron_entries.specs.Seen.{seen_entry}
use Rattle.schematron_compile.specs.Lent.{lent_entries, lent_instances}
use Rattle.schematron_compile.specs.Places.{ids_of, places_in, places_with, places_named, places_active, ArePlaces, AddsPlace, Rises}
use Rattle.schematron_compile.proofs.OrderLemmas.{weaken, one_list}

-- ---- texts

turned : (s t : List ℕ) → bytes_eq s t ≡ bytes_eq t s
turned s t = one_answer (bytes_eq s t) (bytes_eq t s) (bytes_eq-Decides s t) (Decides-like (bytes_eq t s) (λ e. sym e) (λ e. sym e) (bytes_eq-Decides t s))

text_same : (q t : List ℕ) → encode_utf8_all (chars q) ≡ q → encode_utf8_all (chars t) ≡ t → bytes_eq q t ≡ bytes_eq (chars q) (chars t)
text_same q t tq tt = one_answer (bytes_eq q t) (bytes_eq (chars q) (chars t)) (bytes_eq-Decides q t)
    (Decides-like (bytes_eq (chars q) (chars t)) (λ e. sym tq ∙ (ap encode_utf8_all e ∙ tt)) (λ e. ap chars e) (bytes_eq-Decides (chars q) (chars t)))

-- one place more, by the bytes of its identifier
pub adds_named : (old new : List ℕ → List ℕ) (id : List ℕ) (place : ℕ) → encode_utf8_all (chars id) ≡ id →
    ((q : List ℕ) → new q ≡ old q ++ (if bytes_eq q id then place ∷ [] else []))
    → AddsPlace old new (Some (chars id)) place
adds_named old new id place u h = λ q v. h q ∙ ap (λ b. old q ++ cond b (place ∷ []) []) (text_same q id v u)

module _ {Z : Type 0} (m : BTreeMap (Bor (List ℕ)) (Vec ℕ Z)) (name : List ℕ) where
  abbrev at_name : Option (Vec ℕ Z)
  at_name = get_by (λ key. slice_cmp nat_cmp name key.now) m

  -- what the map has at the name was put behind the others
  pub pushed : {A E : Type 0} (r : Result A E) (found : Option (Bor (Vec ℕ Z))) (lent : Bor (Vec ℕ Z)) (more old new : List ℕ) →
      encode_utf8_all (chars name) ≡ name → option_copied found ≡ at_name → found ≡ Some lent
      → more ≡ lent.now.items → new ≡ (if is_ok r then old ++ more else old) →
      OnOk r ((ids : List (Option (List ℕ))) → ArePlaces (places_in m) ids → new ≡ old ++ places_with (chars name) 0 ids)
  pushed (Ok x) found lent more old new u there is items e = λ ids known.
      let here : at_name ≡ Some lent.now = sym there ∙ ap option_copied is in
      e ∙ ap (λ xs. old ++ xs) (items ∙ (sym (ap (λ o. option_map_or (λ v. v.items) o []) here) ∙ known name u))
  pushed (Err x) found lent more old new u there is items e = tt

  -- it has nothing there
  pub none_pushed : (found : Option (Bor (Vec ℕ Z))) (old : List ℕ) → encode_utf8_all (chars name) ≡ name → option_copied found ≡ at_name → found ≡ None
      → (ids : List (Option (List ℕ))) → ArePlaces (places_in m) ids → old ≡ old ++ places_with (chars name) 0 ids
  none_pushed found old u there is ids known =
      let here : at_name ≡ None = sym there ∙ ap option_copied is in
      sym (append-nil old) ∙ ap (λ xs. old ++ xs) (sym (ap (λ o. option_map_or (λ v. v.items) o []) here) ∙ known name u)

-- ---- one pattern more

split : {X : Type 0} (b : Bool) (x : X) (ys zs : List X) → cond b (x ∷ (ys ++ zs)) (ys ++ zs) ≡ cond b (x ∷ ys) ys ++ zs
split true x ys zs = refl
split false x ys zs = refl

one-more : (n k : ℕ) → suc n + k ≡ n + suc k
one-more n k = omega arith

at-end : (i k : ℕ) → k ≡ i → i ≡ 0 + k
at-end i k e = omega (arith, e)

less-so : (i n : ℕ) → i < n → i ≤ n
less-so i n l = omega (arith, l)

none-more : (n : ℕ) → n ≡ n + 0
none-more n = omega arith

with-last : (name : List ℕ) (n : ℕ) (ids : List (Option (List ℕ))) (id : Option (List ℕ)) → places_with name n (ids ++ id ∷ []) ≡ places_with name n ids ++
    cond (is_value name id) ((n + length ids) ∷ []) []
with-last name n [] id = ap (λ k. cond (is_value name id) (k ∷ []) []) (none-more n)
with-last name n (x ∷ ids) id =
    ap (λ ys. cond (is_value name x) (n ∷ ys) ys) (with-last name (suc n) ids id)
    ∙ (split (is_value name x) n (places_with name (suc n) ids) (cond (is_value name id) ((suc n + length ids) ∷ []) [])
    ∙ ap (λ k. cond (is_value name x) (n ∷ places_with name (suc n) ids) (places_with name (suc n) ids) ++ cond (is_value name id) (k ∷ []) [])
    (one-more n (length ids)))

ids-more : (xs : List Lent) (i : ℕ) (x : Lent) → i < length xs → x ≡ get_or xs i x
    → ids_of (lent_instances (take (i + 1) xs)) ≡ ids_of (lent_instances (take i xs)) ++ attribute a.Id (seen_instance x).pattern ∷ []
ids-more xs i x within here =
    ap (λ ys. ids_of (lent_instances ys)) (take_more xs i x within)
    ∙ (ap ids_of (map-append seen_instance (take i xs) (get_or xs i x ∷ []))
    ∙ (map-append (λ (y : Instance). attribute a.Id y.pattern) (lent_instances (take i xs)) (seen_instance (get_or xs i x) ∷ [])
    ∙ ap (λ y. ids_of (lent_instances (take i xs)) ++ attribute a.Id (seen_instance y).pattern ∷ []) (sym here)))

ids-count : (xs : List Lent) (i : ℕ) → i ≤ length xs → length (ids_of (lent_instances (take i xs))) ≡ i
ids-count xs i l = length-map (lent_instances (take i xs)) (λ (y : Instance). attribute a.Id y.pattern) ∙
    (length-map (take i xs) seen_instance ∙ length-take-le i xs l)

pub places_on : (xs : List Lent) (i : ℕ) (x : Lent) (old new : List ℕ → List ℕ) (id : Option (List ℕ)) → i < length xs → x ≡ get_or xs i x →
    id ≡ attribute a.Id (seen_instance x).pattern
    → AddsPlace old new id i → ArePlaces old (ids_of (lent_instances (take i xs))) → ArePlaces new (ids_of (lent_instances (take (i + 1) xs)))
places_on xs i x old new id within here is adds known = λ q u.
    adds q u
    ∙ (ap (λ ys. ys ++ cond (is_value (chars q) id) (i ∷ []) []) (known q u)
    ∙ (ap (λ o. places_with (chars q) 0 (ids_of (lent_instances (take i xs))) ++ cond (is_value (chars q) o) (i ∷ []) []) is
    ∙ (ap (λ k. places_with (chars q) 0 (ids_of (lent_instances (take i xs))) ++
    cond (is_value (chars q) (attribute a.Id (seen_instance x).pattern)) (k ∷ []) [])
    (at-end i (length (ids_of (lent_instances (take i xs)))) (ids-count xs i (less-so i (length xs) within)))
    ∙ (sym (with-last (chars q) 0 (ids_of (lent_instances (take i xs))) (attribute a.Id (seen_instance x).pattern))
    ∙ ap (places_with (chars q) 0) (sym (ids-more xs i x within here))))))

-- ---- members

among-append : (m : ℕ) (xs ys : List ℕ) → is_among m (xs ++ ys) ≡ (is_among m xs || is_among m ys)
among-append m [] ys = refl
among-append m (x ∷ xs) ys = ap (λ b. m == x || b) (among-append m xs ys) ∙ or_assoc (m == x) (is_among m xs) (is_among m ys)
  where
    or_assoc : (x y z : Bool) → (x || (y || z)) ≡ ((x || y) || z)
    or_assoc true y z = refl
    or_assoc false y z = refl

-- the identifier is the one that is named
abbrev is_named : Option (List ℕ) → Option (List ℕ) → Bool
is_named None name = false
is_named (Some id) name = is_value id name

among-cond : (b : Bool) (m n : ℕ) (xs : List ℕ) → is_among m (cond b (n ∷ xs) xs) ≡ ((b && (m == n)) || is_among m xs)
among-cond true m n xs = refl
among-cond false m n xs = refl

among-one : (m n : ℕ) (name id : Option (List ℕ)) (ids : List (Option (List ℕ))) →
    is_among m (places_named name n (id ∷ ids)) ≡ ((is_named id name && (m == n)) || is_among m (places_named name (suc n) ids))
among-one m n None None ids = refl
among-one m n None (Some id) ids = refl
among-one m n (Some name) None ids = refl
among-one m n (Some name) (Some id) ids =
    among-cond (bytes_eq name id) m n (places_with name (suc n) ids) ∙ ap (λ b. (b && (m == n)) || is_among m (places_with name (suc n) ids)) (turned name id)

spread : (t u q x y : Bool) → (((t && q) || x) || ((u && q) || y)) ≡ (((t || u) && q) || (x || y))
spread true true true x y = refl
spread true true false x y = refl
spread true false true x y = refl
spread true false false x y = refl
spread false true true true y = refl
spread false true true false y = refl
spread false true false x y = refl
spread false false true x y = refl
spread false false false x y = refl

abbrev active_name : Entry → Option (List ℕ)
active_name e = attribute a.Pattern e

among-active : (m n : ℕ) (id : Option (List ℕ)) (ids : List (Option (List ℕ))) (es : List Entry)
    → is_among m (places_active es n (id ∷ ids)) ≡ ((list_any (λ (e : Entry). is_named id (active_name e)) es && (m == n)) ||
    is_among m (places_active es (suc n) ids))
among-active m n id ids [] = refl
among-active m n id ids (e ∷ es) =
    among-append m (places_named (active_name e) n (id ∷ ids)) (places_active es n (id ∷ ids))
    ∙ (ap (λ b. b || is_among m (places_active es n (id ∷ ids))) (among-one m n (active_name e) id ids)
    ∙ (ap (λ b. ((is_named id (active_name e) && (m == n)) || is_among m (places_named (active_name e) (suc n) ids)) || b) (among-active m n id ids es)
    ∙ (spread (is_named id (active_name e)) (list_any (λ (e : Entry). is_named id (active_name e)) es) (m == n)
    (is_among m (places_named (active_name e) (suc n) ids)) (is_among m (places_active es (suc n) ids))
    ∙ ap (λ b. (list_any (λ (e : Entry). is_named id (active_name e)) (e ∷ es) && (m == n)) || b)
    (sym (among-append m (places_named (active_name e) (suc n) ids) (places_active es (suc n) ids))))))

among-none : (m n : ℕ) (es : List Entry) → is_among m (places_active es n []) ≡ false
among-none m n [] = refl
among-none m n (e ∷ es) = ap (λ xs. is_among m (xs ++ places_active es n [])) (none (active_name e)) ∙ among-none m n es
  where
    none : (name : Option (List ℕ)) → places_named name n [] ≡ []
    none None = refl
    none (Some name) = refl

-- the test of the definition is this one
named-any : (id : Option (List ℕ)) (es : List Entry) → list_any (λ (e : Entry). is_named id (active_name e)) es ≡ list_any (names_pattern id) es
named-any None [] = refl
named-any (Some id) [] = refl
named-any None (e ∷ es) = named-any None es
named-any (Some id) (e ∷ es) = ap (λ b. is_value id (active_name e) || b) (named-any (Some id) es)

abbrev numbers_by : Bool → ℕ → List ℕ → List ℕ
numbers_by true n ns = n ∷ ns
numbers_by false n ns = ns

among-by : (b : Bool) (m n : ℕ) (ns : List ℕ) → ((b && (m == n)) || is_among m ns) ≡ is_among m (numbers_by b n ns)
among-by true m n ns = refl
among-by false m n ns = refl

numbers-by : (b : Bool) (n : ℕ) (ns : List ℕ) → numbers_by b n ns ≡ elim b as (λ _. List ℕ) [ true ↦ n ∷ ns | false ↦ ns ]
numbers-by true n ns = refl
numbers-by false n ns = refl

abbrev test_of : List Entry → Instance → Bool
test_of es x = list_any (names_pattern (attribute a.Id x.pattern)) es

numbers-first : (es : List Entry) (n : ℕ) (x : Instance) (xs : List Instance) →
    numbers_named es n (x ∷ xs) ≡ numbers_by (test_of es x) n (numbers_named es (suc n) xs)
numbers-first es n x xs = sym (numbers-by (test_of es x) n (numbers_named es (suc n) xs))

members : (m n : ℕ) (es : List Entry) (xs : List Instance) → is_among m (places_active es n (ids_of xs)) ≡ is_among m (numbers_named es n xs)
members m n es [] = among-none m n es
members m n es (x ∷ xs) =
    among-active m n (attribute a.Id x.pattern) (ids_of xs) es
    ∙ (ap (λ b. (b && (m == n)) || is_among m (places_active es (suc n) (ids_of xs))) (named-any (attribute a.Id x.pattern) es)
    ∙ (ap (λ b. (test_of es x && (m == n)) || b) (members m (suc n) es xs)
    ∙ (among-by (test_of es x) m n (numbers_named es (suc n) xs) ∙ ap (is_among m) (sym (numbers-first es n x xs)))))

rises-named : (n : ℕ) (es : List Entry) (xs : List Instance) → Rises n (numbers_named es n xs)
rises-named n es [] = tt
rises-named n es (x ∷ xs) = subst (Rises n) (sym (numbers-first es n x xs)) (go (test_of es x) (rises-named (suc n) es xs))
  where
    go : (b : Bool) → Rises (suc n) (numbers_named es (suc n) xs) → Rises n (numbers_by b n (numbers_named es (suc n) xs))
    go true r = ((let z : n ≤ n = omega arith in z), r)
    go false r = weaken n (numbers_named es (suc n) xs) r

-- numbers that rise and are those that the elements name
pub numbers_are : (es : List Entry) (xs : List Instance) (found numbers : List ℕ) → found ≡ places_active es 0 (ids_of xs) → Rises 0 numbers →
    ((m : ℕ) → is_among m numbers ≡ is_among m found)
    → numbers ≡ numbers_named es 0 xs
numbers_are es xs found numbers is r same = one_list 0 0 numbers (numbers_named es 0 xs) r (rises-named 0 es xs)
    (λ m. same m ∙ (ap (is_among m) is ∙ members m 0 es xs))

-- ---- what the elements of a phase name, one after another

pub active_begun : (ids : List (Option (List ℕ))) (es items : List (Bor Read)) (found : List ℕ) → found ≡ [] → items ≡ es → found ++
    places_active (lent_entries items) 0 ids ≡ places_active (lent_entries es) 0 ids
active_begun ids es items found none is = λ k. none k ++ places_active (lent_entries (is k)) 0 ids

pub active_on : (ids : List (Option (List ℕ))) (items others : List (Bor Read)) (e : Bor Read) (found more whole : List ℕ) (name : Option (List ℕ)) →
    items ≡ e ∷ others → more ≡ found ++ places_named name 0 ids
    → name ≡ attribute a.Pattern (seen_entry e.now) → found ++ places_active (lent_entries items) 0 ids ≡ whole → more ++
    places_active (lent_entries others) 0 ids ≡ whole
active_on ids items others e found more whole name first m is h =
    ap (λ xs. xs ++ places_active (lent_entries others) 0 ids) (m ∙ ap (λ o. found ++ places_named o 0 ids) is)
    ∙ (append_assoc found (places_named (attribute a.Pattern (seen_entry e.now)) 0 ids) (places_active (lent_entries others) 0 ids)
    ∙ (ap (λ xs. found ++ places_active (lent_entries xs) 0 ids) (sym first) ∙ h))

pub active_over : (ids : List (Option (List ℕ))) (items : List (Bor Read)) (found whole : List ℕ) (len : ℕ) → len ≡ 0 → len ≡ length items → found ++
    places_active (lent_entries items) 0 ids ≡ whole → found ≡ whole
active_over ids [] found whole len z l h = sym (append-nil found) ∙ h
active_over ids (e ∷ items) found whole len z l h = absurd (omega (arith, z, l))

pub listed_are : {E : Type 0} (r : Result (List ℕ) E) (places : List ℕ → List ℕ) (es : List Entry) (found ordered lent : List ℕ) →
    ((ids : List (Option (List ℕ))) → ArePlaces places ids → found ≡ places_active es 0 ids) → Rises 0 ordered
    → ((m : ℕ) → is_among m ordered ≡ is_among m found) → lent ≡ ordered → IfOk r (λ list. list ≡ lent)
    → IfOk r (λ numbers. (instances : List Instance) → ArePlaces places (ids_of instances) → numbers ≡ numbers_named es 0 instances)
listed_are (Ok list) places es found ordered lent f r same e h = λ instances known. h ∙
    (e ∙ numbers_are es instances found ordered (f (ids_of instances) known) r same)
listed_are (Err fault) places es found ordered lent f r same e h = tt
