-- Prefixes and names of variables, kept as texts, as the lists that contracts see.
use Rattle.std.proofs.Common.{◌≡◌, ℕ, Bool, true, false, ◌||◌, List, [], ◌∷◌, ◌++◌, Option, Some, None, map, option_map, refl, sym, ap, ◌∙◌, String}
use Rattle.std.proofs.Common.{string_bytes, if◌then◌else◌, is_some, true≢false, take}
use Rattle.std.specs.Global.{Global}
use Rattle.std.specs.Map.{lookup}
use Rattle.std.specs.Str.{chars, bytes_eq, IsUtf8}
use Rattle.std.specs.List.{list_any}
use Rattle.std.proofs.lemmas.Str.{IsUtf8-string_bytes}
use Rattle.std.proofs.lemmas.List.{map-append, take-map}
use Rattle.indexmap.specs.IndexMap.{insert_entry}
use Rattle.xpath_types.specs.Scopes.{Declared, functions_uri, types_uri, first_uri, uri_of, with_prefix, with_variable, declares, bindings_of, declared_by}
use Rattle.xpath_tokens.proofs.TextLemmas.{same_text}

abbrev Entries : Type 0
Entries = List (String Global × String Global)

abbrev pub text_of : String Global → List ℕ
text_of text = chars (string_bytes text)

abbrev uri_or : Bool → List ℕ → Option (List ℕ) → Option (List ℕ)
uri_or test uri others = elim test as (λ _. Option (List ℕ)) [ true ↦ Some uri | false ↦ others ]

fn-ascii : chars (102 ∷ 110 ∷ []) ≡ 102 ∷ 110 ∷ []
unfolding chars
fn-ascii = refl

xs-ascii : chars (120 ∷ 115 ∷ []) ≡ 120 ∷ 115 ∷ []
unfolding chars
xs-ascii = refl

module _ (prefix : List ℕ) (declared : Declared) (fn : Bool) (by_fn : fn ≡ bytes_eq prefix (chars (102 ∷ 110 ∷ []))) where
  is_fn : bytes_eq prefix (102 ∷ 110 ∷ []) ≡ fn
  is_fn = sym (by_fn ∙ ap (bytes_eq prefix) fn-ascii)

  pub uri-fn : fn ≡ true → uri_of prefix declared ≡ Some (chars functions_uri)
  unfolding chars
  uri-fn e = ap (λ b. uri_or b functions_uri (uri_or (bytes_eq prefix (120 ∷ 115 ∷ [])) types_uri (first_uri prefix declared.prefixes))) (is_fn ∙ e)

  module _ (xs : Bool) (by_xs : xs ≡ bytes_eq prefix (chars (120 ∷ 115 ∷ []))) (not_fn : fn ≡ false) where
    is_xs : bytes_eq prefix (120 ∷ 115 ∷ []) ≡ xs
    is_xs = sym (by_xs ∙ ap (bytes_eq prefix) xs-ascii)

    past_fn : uri_of prefix declared ≡ uri_or xs types_uri (first_uri prefix declared.prefixes)
    past_fn = ap (λ b. uri_or b functions_uri (uri_or (bytes_eq prefix (120 ∷ 115 ∷ [])) types_uri (first_uri prefix declared.prefixes))) (is_fn ∙ not_fn)
        ∙ ap (λ b. uri_or b types_uri (first_uri prefix declared.prefixes)) is_xs

    pub uri-xs : xs ≡ true → uri_of prefix declared ≡ Some (chars types_uri)
    unfolding chars
    uri-xs e = past_fn ∙ ap (λ b. uri_or b types_uri (first_uri prefix declared.prefixes)) e

    pub uri-bound : xs ≡ false → uri_of prefix declared ≡ first_uri prefix declared.prefixes
    uri-bound e = past_fn ∙ ap (λ b. uri_or b types_uri (first_uri prefix declared.prefixes)) e

-- the uri of a bound prefix
module _ (q : List ℕ) (u : IsUtf8 q) where
  pub uri-looked_up : (entries : Entries) → first_uri (chars q) (bindings_of entries) ≡ option_map text_of (lookup (λ k. bytes_eq q (string_bytes k)) entries)
  uri-looked_up [] = refl
  uri-looked_up (entry ∷ entries) = ap (λ b. uri_or b (text_of entry.1) (first_uri (chars q) (bindings_of entries)))
      (same_text q (string_bytes entry.0) u (IsUtf8-string_bytes entry.0))
      ∙ (ap (uri_or (bytes_eq q (string_bytes entry.0)) (text_of entry.1)) (uri-looked_up entries) ∙ found (bytes_eq q (string_bytes entry.0)))
    where
      found : (b : Bool) → uri_or b (text_of entry.1) (option_map text_of (lookup (λ k. bytes_eq q (string_bytes k)) entries)) ≡ option_map text_of
          (if b then Some entry.1 else lookup (λ k. bytes_eq q (string_bytes k)) entries)
      found true = refl
      found false = refl

  pub is_declared : (keys : List (String Global)) → list_any (bytes_eq (chars q)) (map text_of keys) ≡ list_any (λ k. bytes_eq q (string_bytes k)) keys
  is_declared [] = refl
  is_declared (k ∷ keys) = ap (λ b. b || list_any (bytes_eq (chars q)) (map text_of keys)) (same_text q (string_bytes k) u (IsUtf8-string_bytes k)) ∙
      ap (λ b. bytes_eq q (string_bytes k) || b) (is_declared keys)

  pub declares-found : (entries : Entries) (keys : List (String Global)) (declared : Declared) (found : Bool) → declared_by entries keys ≡ declared
      → found ≡ list_any (λ k. bytes_eq q (string_bytes k)) keys → found ≡ declares declared (chars q)
  declares-found entries keys declared found view e = e ∙ (sym (is_declared keys) ∙ ap (λ declared. declares declared (chars q)) view)

  more_variables : (b : Bool) (entries : Entries) (key : String Global) (keys : List (String Global)) → string_bytes key ≡ q
      → declared_by entries (if b then keys else keys ++ key ∷ []) ≡ (if b then declared_by entries keys else record {
        prefixes = bindings_of entries;
        variables = map text_of keys ++ chars q ∷ [];
      })
  more_variables true entries key keys same = refl
  more_variables false entries key keys same = ap (λ variables. record { prefixes = bindings_of entries; variables = variables })
      (map-append text_of keys (key ∷ []) ∙ ap (λ x. map text_of keys ++ chars x ∷ []) same)

  pub variable-added : (entries : Entries) (key : String Global) (keys more : List (String Global)) (declared : Declared) → declared_by entries keys ≡ declared
      → string_bytes key ≡ q
      → more ≡ (if list_any (λ k. bytes_eq (string_bytes key) (string_bytes k)) keys then keys else keys ++ key ∷ []) →
      declared_by entries more ≡ with_variable declared (chars q)
  variable-added entries key keys more declared view same after =
      let test : list_any (λ k. bytes_eq (string_bytes key) (string_bytes k)) keys ≡ declares (declared_by entries keys) (chars q) =
      ap (λ x. list_any (λ k. bytes_eq x (string_bytes k)) keys) same ∙ sym (is_declared keys) in
      ap (declared_by entries) (after ∙ ap (λ b. if b then keys else keys ++ key ∷ []) test)
      ∙ (more_variables (declares (declared_by entries keys) (chars q)) entries key keys same ∙ ap (λ declared. with_variable declared (chars q)) view)

  put-absent : (entries : Entries) (key value : String Global) → string_bytes key ≡ q → is_some (first_uri (chars q) (bindings_of entries)) ≡ false
      → bindings_of (insert_entry (λ a b. bytes_eq (string_bytes a) (string_bytes b)) entries key value) ≡ bindings_of entries ++
      record { prefix = chars q; uri = text_of value } ∷ []
  put-absent [] key value same none = ap (λ x. record { prefix = chars x; uri = text_of value } ∷ []) same
  put-absent (entry ∷ entries) key value same none = by (bytes_eq (chars q) (text_of entry.0)) refl (put-absent entries key value same)
    where
      by : (b : Bool) → bytes_eq (chars q) (text_of entry.0) ≡ b
          → (is_some (first_uri (chars q) (bindings_of entries)) ≡ false →
          bindings_of (insert_entry (λ a b. bytes_eq (string_bytes a) (string_bytes b)) entries key value) ≡ bindings_of entries ++
          record { prefix = chars q; uri = text_of value } ∷ [])
          → bindings_of (if bytes_eq (string_bytes key) (string_bytes entry.0) then (entry.0, value) ∷ entries else entry ∷ insert_entry
          (λ a b. bytes_eq (string_bytes a) (string_bytes b)) entries key value)
          ≡ bindings_of (entry ∷ entries) ++ record { prefix = chars q; uri = text_of value } ∷ []
      by true e rest = absurd (true≢false (sym (ap (λ b. is_some (uri_or b (text_of entry.1) (first_uri (chars q) (bindings_of entries)))) e) ∙ none))
      by false e rest =
          let test : bytes_eq (string_bytes key) (string_bytes entry.0) ≡ false =
          ap (λ x. bytes_eq x (string_bytes entry.0)) same ∙ (sym (same_text q (string_bytes entry.0) u (IsUtf8-string_bytes entry.0)) ∙ e) in
          let later : is_some (first_uri (chars q) (bindings_of entries)) ≡ false =
          sym (ap (λ b. is_some (uri_or b (text_of entry.1) (first_uri (chars q) (bindings_of entries)))) e) ∙ none in
          ap (λ b. bindings_of (if b then (entry.0, value) ∷ entries else entry ∷ insert_entry
          (λ a b. bytes_eq (string_bytes a) (string_bytes b)) entries key value)) test
          ∙ ap (λ bindings. record { prefix = text_of entry.0; uri = text_of entry.1 } ∷ bindings) (rest later)

none_bound : (t s : Bool) (a b : List ℕ) (rest : Option (List ℕ)) → is_some (uri_or t a (uri_or s b rest)) ≡ false → is_some rest ≡ false
none_bound true s a b rest e = absurd (true≢false e)
none_bound false true a b rest e = absurd (true≢false e)
none_bound false false a b rest e = e

pub prefix-added : (q v : List ℕ) → IsUtf8 q → (entries more : Entries) (names : List (String Global)) (declared : Declared) (key value : String Global) →
    declared_by entries names ≡ declared
    → string_bytes key ≡ q → string_bytes value ≡ v → is_some (uri_of (chars q) declared) ≡ false →
    more ≡ insert_entry (λ a b. bytes_eq (string_bytes a) (string_bytes b)) entries key value
    → declared_by more names ≡ with_prefix declared (chars q) (chars v)
prefix-added q v u entries more names declared key value view same is none after =
    let none' : is_some (uri_of (chars q) (declared_by entries names)) ≡ false = ap (λ declared. is_some (uri_of (chars q) declared)) view ∙ none in
    ap (λ entries. declared_by entries names) after
    ∙ (ap (λ bindings. record { prefixes = bindings; variables = map text_of names }) (put-absent q u entries key value same
    (none_bound (bytes_eq (chars q) (102 ∷ 110 ∷ [])) (bytes_eq (chars q) (120 ∷ 115 ∷ [])) functions_uri types_uri
    (first_uri (chars q) (bindings_of entries)) none')
    ∙ ap (λ x. bindings_of entries ++ record { prefix = chars q; uri = chars x } ∷ []) is)
    ∙ (sym (ap (λ b. if b then declared_by entries names else record {
      prefixes = bindings_of entries ++ record { prefix = chars q; uri = chars v } ∷ [];
      variables = map text_of names;
    }) none')
    ∙ ap (λ declared. with_prefix declared (chars q) (chars v)) view))

pub prefix-kept : (prefix uri : List ℕ) (declared : Declared) → is_some (uri_of prefix declared) ≡ true → with_prefix declared prefix uri ≡ declared
prefix-kept prefix uri declared e =
    ap (λ b. if b then declared else record declared { prefixes = declared.prefixes ++ record { prefix = prefix; uri = uri } ∷ [] }) e

pub is_some-map : {X Y : Type 0} (f : X → Y) (o : Option X) → is_some (option_map f o) ≡ is_some o
is_some-map f None = refl
is_some-map f (Some x) = refl

pub variables-cut : (n : ℕ) (entries : Entries) (keys fewer : List (String Global)) (declared : Declared) → declared_by entries keys ≡ declared →
    fewer ≡ take n keys
    → declared_by entries fewer ≡ record declared { variables = take n declared.variables }
variables-cut n entries keys fewer declared view cut = ap (declared_by entries) cut ∙
    (ap (λ variables. record { prefixes = bindings_of entries; variables = variables }) (sym (take-map text_of n keys))
    ∙ ap (λ (declared : Declared). record declared { variables = take n declared.variables }) view)
