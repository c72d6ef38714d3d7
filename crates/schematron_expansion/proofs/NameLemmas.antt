-- Abstract rules and abstract patterns by their names, one after another.
use Rattle.std.proofs.Common.{◌≡◌, ℕ, ◌+◌, ◌<◌, Bool, true, false, ◌&&◌, cond, List, [], ◌∷◌, ◌++◌, map, length, get_or, take, Option, Some, None, is_some}
use Rattle.std.proofs.Common.{Result, Ok, Err, OnOk, refl, ap, sym, ◌∙◌, arith, chars, encode_utf8_all, bytes_eq, subst, append-nil}
use Rattle.std.specs.Prelude.{filter, flat_map}
use Rattle.std.proofs.lemmas.Grind.{flat_map-append}
use Rattle.std.specs.List.{position_from}
use Rattle.std.specs.Map.{lookup}
use Rattle.std.specs.Bool.{one_answer}
use Rattle.std.proofs.lemmas.List.{map-append, length-map, length-take-le, take_more}
use Rattle.std.proofs.lemmas.Bool.{false≢true, true≢false}
use Rattle.std.proofs.lemmas.Bool.Decides.{Decides-like}
use Rattle.std.proofs.lemmas.Slice.Eq.{bytes_eq-Decides}
use Rattle.indexmap.specs.IndexMap.{insert_entry}
use Rattle.schematron_meaning.specs.declared.attribute.Attribute.TheVariants as a
use Rattle.schematron_meaning.specs.Entries.{Entry}
use Rattle.schematron_meaning.specs.Lookup.{says, is_value, is_abstract_rule, is_abstract_pattern}
use Rattle.schematron_meaning.specs.Bodies.{abstract_rules, rule_named}
use Rattle.schematron_entries.specs.declared.entry.Entry.{Entry as Read}
use Rattle.schematron_entries.specs.Seen.{seen_entry, seen_entries}
use Rattle.schematron_expansion.specs.Bodied.{AreRules, AddsName, id_of, found_or}
use Rattle.schematron_expansion.specs.Linked.{ArePatterns, is_pattern_named}

-- ---- one item more

split : {X : Type 0} (b : Bool) (x : X) (ys zs : List X) → cond b (x ∷ (ys ++ zs)) (ys ++ zs) ≡ cond b (x ∷ ys) ys ++ zs
split true x ys zs = refl
split false x ys zs = refl

filter_last : {X : Type 0} (p : X → Bool) (xs : List X) (x : X) → filter p (xs ++ x ∷ []) ≡ filter p xs ++ cond (p x) (x ∷ []) []
filter_last p [] x = refl
filter_last p (y ∷ xs) x = ap (λ ys. cond (p y) (y ∷ ys) ys) (filter_last p xs x) ∙ split (p y) y (filter p xs) (cond (p x) (x ∷ []) [])

position_last : {X : Type 0} (p : X → Bool) (k : ℕ) (xs : List X) (x : X)
    → position_from p k (xs ++ x ∷ []) ≡ found_or (position_from p k xs) (p x) (k + length xs)
position_last p k [] x = ap (λ m. cond (p x) (Some m) None) (omega arith)
position_last p k (y ∷ xs) x = by (p y) (position_last p (k + 1) xs x ∙ ap (found_or (position_from p (k + 1) xs) (p x)) (omega arith))
  where
    by : (b : Bool) → position_from p (k + 1) (xs ++ x ∷ []) ≡ found_or (position_from p (k + 1) xs) (p x) (k + length (y ∷ xs))
        → cond b (Some k) (position_from p (k + 1) (xs ++ x ∷ [])) ≡ found_or (cond b (Some k) (position_from p (k + 1) xs)) (p x) (k + length (y ∷ xs))
    by true h = refl
    by false h = h

-- ---- texts

text_same : (q t : List ℕ) → encode_utf8_all (chars q) ≡ q → encode_utf8_all (chars t) ≡ t → bytes_eq q t ≡ bytes_eq (chars q) (chars t)
text_same q t tq tt = one_answer (bytes_eq q t) (bytes_eq (chars q) (chars t)) (bytes_eq-Decides q t)
    (Decides-like (bytes_eq (chars q) (chars t)) (λ e. sym tq ∙ (ap encode_utf8_all e ∙ tt)) (λ e. ap chars e) (bytes_eq-Decides (chars q) (chars t)))

-- a text that is there is added nowhere
found_kept : (o : Option ℕ) (b : Bool) (place : ℕ) → (b ≡ true → is_some o ≡ true) → o ≡ found_or o b place
found_kept (Some k) b place h = refl
found_kept None false place h = refl
found_kept None true place h = absurd (false≢true (h refl))

module _ {K : Type 0} (text : K → List ℕ) where
  abbrev in_map : List (K × ℕ) → List ℕ → Option ℕ
  in_map es id = lookup (λ key. bytes_eq id (text key)) es

  -- the name was there
  pub name_kept : (es : List (K × ℕ)) (t : List ℕ) (place : ℕ) → encode_utf8_all (chars t) ≡ t → is_some (in_map es t) ≡ true
      → AddsName (in_map es) (in_map es) (Some (chars t)) place
  name_kept es t place ut h id u = found_kept (in_map es id) (bytes_eq (chars id) (chars t)) place (λ same. ap (λ q. is_some (in_map es q)) (equal same) ∙ h)
    where
      equal : bytes_eq (chars id) (chars t) ≡ true → id ≡ t
      equal same = (bytes_eq-Decides id t).0 (text_same id t u ut ∙ same)

  put_new : (es : List (K × ℕ)) (key : K) (place : ℕ) (id : List ℕ) → is_some (in_map es (text key)) ≡ false
      → in_map (insert_entry (λ k m. bytes_eq (text k) (text m)) es key place) id ≡ found_or (in_map es id) (bytes_eq id (text key)) place
  put_new [] key place id h = refl
  put_new (e ∷ es) key place id h = by (bytes_eq (text key) (text e.0)) refl (put_new es key place id)
    where
      inner : (b : Bool) (more : Option ℕ) → more ≡ found_or (in_map es id) (bytes_eq id (text key)) place
          → cond b (Some e.1) more ≡ found_or (cond b (Some e.1) (in_map es id)) (bytes_eq id (text key)) place
      inner true more g = refl
      inner false more g = g

      by : (b : Bool) → bytes_eq (text key) (text e.0) ≡ b
          → (is_some (in_map es (text key)) ≡ false → in_map (insert_entry (λ k m. bytes_eq (text k) (text m)) es key place) id ≡ found_or (in_map es id)
          (bytes_eq id (text key)) place)
          → in_map (cond (bytes_eq (text key) (text e.0)) ((e.0, place) ∷ es) (e ∷ insert_entry (λ k m. bytes_eq (text k) (text m)) es key place)) id
          ≡ found_or (in_map (e ∷ es) id) (bytes_eq id (text key)) place
      by true g rest = absurd (true≢false (sym (ap (λ b. is_some (cond b (Some e.1) (in_map es (text key)))) g) ∙ h))
      by false g rest =
          ap (λ b. in_map (cond b ((e.0, place) ∷ es) (e ∷ insert_entry (λ k m. bytes_eq (text k) (text m)) es key place)) id) g
          ∙ inner (bytes_eq id (text e.0)) (in_map (insert_entry (λ k m. bytes_eq (text k) (text m)) es key place) id)
          (rest (sym (ap (λ b. is_some (cond b (Some e.1) (in_map es (text key)))) g) ∙ h))

  -- the name is new
  pub name_put : (es more : List (K × ℕ)) (key : K) (place : ℕ) → encode_utf8_all (chars (text key)) ≡ text key → is_some (in_map es (text key)) ≡ false
      → more ≡ insert_entry (λ k m. bytes_eq (text k) (text m)) es key place → AddsName (in_map es) (in_map more) (Some (chars (text key))) place
  name_put es more key place ut h m id u =
      ap (λ xs. in_map xs id) m ∙ (put_new es key place id h ∙ ap (λ b. found_or (in_map es id) b place) (text_same id (text key) u ut))

pub no_name : (names : List ℕ → Option ℕ) (place : ℕ) → AddsName names names None place
no_name names place id u = found_kept (names id) false place (λ e. absurd (false≢true e))

-- ---- rules

one_more : (entries : List Read) (i : ℕ) (e : Read) → i < length entries → e ≡ get_or entries i e
    → seen_entries (take (i + 1) entries) ≡ seen_entries (take i entries) ++ seen_entry e ∷ []
one_more entries i e within here = ap seen_entries (take_more entries i e within) ∙ (map-append seen_entry (take i entries) (get_or entries i e ∷ [])
    ∙ ap (λ x. seen_entries (take i entries) ++ seen_entry x ∷ []) (sym here))

abbrev is_rule : Entry → Bool
is_rule e = is_abstract_rule e.role

with_last : (es : List Entry) (e : Entry) (b : Bool) → is_rule e ≡ b → abstract_rules (es ++ e ∷ []) ≡ abstract_rules es ++ cond b (e ∷ []) []
with_last es e b h = filter_last is_rule es e ∙ ap (λ c. abstract_rules es ++ cond c (e ∷ []) []) h

rules_alike : (nodes : List ℕ) (names : List ℕ → Option ℕ) (es more : List Entry) → abstract_rules more ≡ abstract_rules es → AreRules nodes names es
    → AreRules nodes names more
rules_alike nodes names es more h r = record {
  nodes_are = r.nodes_are ∙ ap (map (λ (rule : Entry). rule.number)) (sym h);
  names_are = λ id u. r.names_are id u ∙ ap (λ rules. rule_named rules (Some (chars id))) (sym h);
}

pub rule_passed : (nodes : List ℕ) (names : List ℕ → Option ℕ) (e : Entry) → is_abstract_rule e.role ≡ false → (es : List Entry) → AreRules nodes names es
    → AreRules nodes names (es ++ e ∷ [])
rule_passed nodes names e h es r = rules_alike nodes names es (es ++ e ∷ []) (with_last es e false h ∙ append-nil (abstract_rules es)) r

rule_added : (nodes more : List ℕ) (names new : List ℕ → Option ℕ) (es : List Entry) (e : Entry) → is_abstract_rule e.role ≡ true
    → more ≡ nodes ++ e.number ∷ [] → AddsName names new (id_of e) (length nodes)
    → AreRules nodes names es → AreRules more new (es ++ e ∷ [])
rule_added nodes more names new es e h m adds r =
    let rules : List Entry = abstract_rules es in
    let all : abstract_rules (es ++ e ∷ []) ≡ rules ++ e ∷ [] = with_last es e true h in
    let count : length nodes ≡ length rules = ap length r.nodes_are ∙ length-map rules (λ (rule : Entry). rule.number) in
    record {
      nodes_are = m ∙ (ap (λ ns. ns ++ e.number ∷ []) r.nodes_are ∙ (sym (map-append (λ (rule : Entry). rule.number) rules (e ∷ []))
          ∙ ap (map (λ (rule : Entry). rule.number)) (sym all)));
      names_are = λ id u. adds id u ∙ (ap (λ o. found_or o (is_value (chars id) (id_of e)) (length nodes)) (r.names_are id u)
          ∙ (ap (found_or (rule_named rules (Some (chars id))) (is_value (chars id) (id_of e))) (count ∙ omega arith)
          ∙ (sym (position_last (says a.Id (chars id)) 0 rules e) ∙ ap (λ rs. rule_named rs (Some (chars id))) (sym all))));
    }

pub rules_added : {A E : Type 0} (r : Result A E) (nodes more : List ℕ) (names new : List ℕ → Option ℕ) (e : Entry) → is_abstract_rule e.role ≡ true
    → OnOk r (more ≡ nodes ++ e.number ∷ [])
    → OnOk r (AddsName names new (id_of e) (length nodes)) → OnOk r ((es : List Entry) → AreRules nodes names es → AreRules more new (es ++ e ∷ []))
rules_added (Ok x) nodes more names new e h m adds = λ es. rule_added nodes more names new es e h m adds
rules_added (Err x) nodes more names new e h m adds = tt

pub rules_on : (entries : List Read) (i : ℕ) (e : Read) (nodes more : List ℕ) (names new : List ℕ → Option ℕ) → i < length entries → e ≡ get_or entries i e
    → ((es : List Entry) → AreRules nodes names es → AreRules more new (es ++ seen_entry e ∷ [])) → AreRules nodes names (seen_entries (take i entries))
    → AreRules more new (seen_entries (take (i + 1) entries))
rules_on entries i e nodes more names new within here f r =
    subst (AreRules more new) (sym (one_more entries i e within here)) (f (seen_entries (take i entries)) r)

-- ---- what is found of each entry

pub sizes_on : {X : Type 0} (f : Entry → X) (entries : List Read) (i : ℕ) (e : Read) (sizes more : List X) (size : X) → i < length entries
    → e ≡ get_or entries i e → sizes ≡ map f (seen_entries (take i entries))
    → more ≡ sizes ++ size ∷ [] → size ≡ f (seen_entry e) → more ≡ map f (seen_entries (take (i + 1) entries))
sizes_on f entries i e sizes more size within here h m is = m ∙ ((λ k. h k ++ is k ∷ [])
    ∙ (sym (map-append f (seen_entries (take i entries)) (seen_entry e ∷ [])) ∙ ap (map f) (sym (one_more entries i e within here))))

-- ---- abstract patterns

or_nothing : (o : Option ℕ) (place : ℕ) → found_or o false place ≡ o
or_nothing (Some k) place = refl
or_nothing None place = refl

pub pattern_passed : (names : List ℕ → Option ℕ) (e : Entry) (at : ℕ) → is_abstract_pattern e.role ≡ false → (es : List Entry)
    → length es ≡ at → ArePatterns names es → ArePatterns names (es ++ e ∷ [])
pattern_passed names e at h es l p id u =
    let before : Option ℕ = position_from (is_pattern_named (chars id)) 0 es in
    p id u ∙ sym (position_last (is_pattern_named (chars id)) 0 es e ∙ (ap (λ b. found_or before (b && says a.Id (chars id) e) (0 + length es)) h
    ∙ or_nothing before (0 + length es)))

pattern_added : (names new : List ℕ → Option ℕ) (e : Entry) (at : ℕ) → is_abstract_pattern e.role ≡ true → AddsName names new (id_of e) at → (es : List Entry)
    → length es ≡ at → ArePatterns names es
    → ArePatterns new (es ++ e ∷ [])
pattern_added names new e at h adds es l p id u =
    let before : Option ℕ = position_from (is_pattern_named (chars id)) 0 es in
    adds id u ∙ (ap (λ o. found_or o (is_value (chars id) (id_of e)) at) (p id u)
    ∙ sym (position_last (is_pattern_named (chars id)) 0 es e ∙ (ap (λ b. found_or before (b && says a.Id (chars id) e) (0 + length es)) h
    ∙ ap (found_or before (says a.Id (chars id) e)) (omega (arith, l)))))

pub patterns_added : {A E : Type 0} (r : Result A E) (names new : List ℕ → Option ℕ) (e : Entry) (at : ℕ) (name : Option (List ℕ)) → name ≡ id_of e
    → is_abstract_pattern e.role ≡ true
    → OnOk r (AddsName names new name at) → OnOk r ((es : List Entry) → length es ≡ at → ArePatterns names es → ArePatterns new (es ++ e ∷ []))
patterns_added (Ok x) names new e at name is h adds = pattern_added names new e at h (subst (λ o. AddsName names new o at) is adds)
patterns_added (Err x) names new e at name is h adds = tt

pub patterns_on : (entries : List Read) (i : ℕ) (e : Read) (names new : List ℕ → Option ℕ) → i < length entries → e ≡ get_or entries i e
    → ((es : List Entry) → length es ≡ i → ArePatterns names es → ArePatterns new (es ++ seen_entry e ∷ [])) → ArePatterns names (seen_entries (take i entries))
    → ArePatterns new (seen_entries (take (i + 1) entries))
patterns_on entries i e names new within here f p = subst (ArePatterns new) (sym (one_more entries i e within here))
    (f (seen_entries (take i entries)) (length-map (take i entries) seen_entry ∙ length-take-le i entries (omega (arith, within))) p)

pub things_found : {X : Type 0} (f : Entry → List X) (entries : List Read) (i : ℕ) (e : Read) (found more : List X) → i < length entries
    → e ≡ get_or entries i e → found ≡ flat_map f (seen_entries (take i entries))
    → more ≡ found ++ f (seen_entry e) → more ≡ flat_map f (seen_entries (take (i + 1) entries))
things_found f entries i e found more within here h m = m ∙ (ap (λ ys. ys ++ f (seen_entry e)) h
    ∙ (ap (λ ys. flat_map f (seen_entries (take i entries)) ++ ys) (sym (append-nil (f (seen_entry e))))
    ∙ sym (ap (flat_map f) (one_more entries i e within here) ∙ flat_map-append f (seen_entries (take i entries)) (seen_entry e ∷ []))))
