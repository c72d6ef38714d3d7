-- Parameters in a map, as the list that contracts see.
use Rattle.std.proofs.Common.{◌≡◌, ℕ, Bool, true, false, List, [], ◌∷◌, ◌++◌, Option, Some, None, option_map, refl, sym, ap, ◌∙◌, String, string_bytes}
use Rattle.std.proofs.Common.{if◌then◌else◌, is_some, true≢false}
use Rattle.std.specs.Global.{Global}
use Rattle.std.specs.Map.{lookup}
use Rattle.std.specs.Str.{chars, bytes_eq, IsUtf8}
use Rattle.std.proofs.lemmas.Str.{IsUtf8-string_bytes}
use Rattle.indexmap.specs.IndexMap.{insert_entry}
use Rattle.schematron_texts.specs.Replacing.{Parameter, value_of, with_parameter, parameters_in}
use Rattle.schematron_texts.proofs.CharacterLemmas.{same_text}

abbrev Entries : Type 0
Entries = List (String Global × String Global)

abbrev pub text_of : String Global → List ℕ
text_of text = chars (string_bytes text)

abbrev value_or : Bool → List ℕ → Option (List ℕ) → Option (List ℕ)
value_or test value others = elim test as (λ _. Option (List ℕ)) [ true ↦ Some value | false ↦ others ]

pub is_some-map : {X Y : Type 0} (f : X → Y) (o : Option X) → is_some (option_map f o) ≡ is_some o
is_some-map f None = refl
is_some-map f (Some x) = refl

module _ (q : List ℕ) (u : IsUtf8 q) where
  pub value-looked_up : (entries : Entries) → value_of (parameters_in entries) (chars q) ≡ option_map text_of
      (lookup (λ k. bytes_eq q (string_bytes k)) entries)
  value-looked_up [] = refl
  value-looked_up (entry ∷ entries) = ap (λ b. value_or b (text_of entry.1) (value_of (parameters_in entries) (chars q)))
      (same_text q (string_bytes entry.0) u (IsUtf8-string_bytes entry.0))
      ∙ (ap (value_or (bytes_eq q (string_bytes entry.0)) (text_of entry.1)) (value-looked_up entries) ∙ found (bytes_eq q (string_bytes entry.0)))
    where
      found : (b : Bool) → value_or b (text_of entry.1) (option_map text_of (lookup (λ k. bytes_eq q (string_bytes k)) entries)) ≡ option_map text_of
          (if b then Some entry.1 else lookup (λ k. bytes_eq q (string_bytes k)) entries)
      found true = refl
      found false = refl

  put-absent : (entries : Entries) (key value : String Global) → string_bytes key ≡ q → is_some (value_of (parameters_in entries) (chars q)) ≡ false
      → parameters_in (insert_entry (λ a b. bytes_eq (string_bytes a) (string_bytes b)) entries key value) ≡ parameters_in entries ++
      record { name = chars q; value = text_of value } ∷ []
  put-absent [] key value same none = ap (λ x. record { name = chars x; value = text_of value } ∷ []) same
  put-absent (entry ∷ entries) key value same none = by (bytes_eq (chars q) (text_of entry.0)) refl (put-absent entries key value same)
    where
      by : (b : Bool) → bytes_eq (chars q) (text_of entry.0) ≡ b
          → (is_some (value_of (parameters_in entries) (chars q)) ≡ false →
          parameters_in (insert_entry (λ a b. bytes_eq (string_bytes a) (string_bytes b)) entries key value) ≡ parameters_in entries ++
          record { name = chars q; value = text_of value } ∷ [])
          → parameters_in (if bytes_eq (string_bytes key) (string_bytes entry.0) then (entry.0, value) ∷ entries else entry ∷ insert_entry
          (λ a b. bytes_eq (string_bytes a) (string_bytes b)) entries key value)
          ≡ parameters_in (entry ∷ entries) ++ record { name = chars q; value = text_of value } ∷ []
      by true e rest = absurd (true≢false (sym (ap (λ b. is_some (value_or b (text_of entry.1) (value_of (parameters_in entries) (chars q)))) e) ∙ none))
      by false e rest =
          let test : bytes_eq (string_bytes key) (string_bytes entry.0) ≡ false =
          ap (λ x. bytes_eq x (string_bytes entry.0)) same ∙ (sym (same_text q (string_bytes entry.0) u (IsUtf8-string_bytes entry.0)) ∙ e) in
          let later : is_some (value_of (parameters_in entries) (chars q)) ≡ false =
          sym (ap (λ b. is_some (value_or b (text_of entry.1) (value_of (parameters_in entries) (chars q)))) e) ∙ none in
          ap (λ b. parameters_in (if b then (entry.0, value) ∷ entries else entry ∷ insert_entry
          (λ a b. bytes_eq (string_bytes a) (string_bytes b)) entries key value)) test
          ∙ ap (λ parameters. record { name = text_of entry.0; value = text_of entry.1 } ∷ parameters) (rest later)

  pub parameter-added : (v : List ℕ) (entries more : Entries) (parameters : List Parameter) (key value : String Global) → parameters_in entries ≡ parameters
      → string_bytes key ≡ q → string_bytes value ≡ v → is_some (value_of parameters (chars q)) ≡ false →
      more ≡ insert_entry (λ a b. bytes_eq (string_bytes a) (string_bytes b)) entries key value
      → parameters_in more ≡ with_parameter parameters (chars q) (chars v)
  parameter-added v entries more parameters key value view same is none after =
      let none' : is_some (value_of (parameters_in entries) (chars q)) ≡ false = ap (λ parameters. is_some (value_of parameters (chars q))) view ∙ none in
      ap parameters_in after
      ∙ (put-absent entries key value same none'
      ∙ (ap (λ x. parameters_in entries ++ record { name = chars q; value = chars x } ∷ []) is
      ∙ (sym (ap (λ b. if b then parameters_in entries else parameters_in entries ++ record { name = chars q; value = chars v } ∷ []) none')
      ∙ ap (λ parameters. with_parameter parameters (chars q) (chars v)) view)))
