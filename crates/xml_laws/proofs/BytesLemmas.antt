-- The bytes of canonical text, by its tags and what stands between them.
use Rattle.std.proofs.Common.{◌≡◌, ℕ, Bool, true, false, List, [], ◌∷◌, ◌++◌, map, refl, sym, ap, ◌∙◌, encode_utf8_all}
use Rattle.std.specs.List.{flat_map}
use Rattle.std.specs.Prelude.{codes}
use Rattle.std.proofs.lemmas.List.{append_assoc, append-nil}
use Rattle.std.proofs.lemmas.List.Concat.{flat_map-append}
use Rattle.std.proofs.lemmas.List.Folds.{flat_map-map}
use Rattle.std.proofs.lemmas.Str.{encodes-append}
use lib.Utf8.{encode}
use Rattle.inv_base.specs.Tree.{Name, Attribute, Forest, no_more, a_text, an_element, begins_with_text}
use Rattle.xml_tokens.specs.Markup.{Written}
use Rattle.xml_write.specs.Escapes.{in_value}
use Rattle.xml_write.specs.Canonical.{Declaration, element_name, attribute_name, declaring_name, attribute_text, declarations_text, attributes_text}
use Rattle.xml_write.specs.Canonical.{element_text, is_childless, forest_text}
use Rattle.xml_laws.proofs.ValueLemmas.{bytes_of_value}
use Rattle.xml_laws.proofs.AttributeLemmas.{attribute_bytes, written_bytes}
use Rattle.xml_laws.proofs.TagStateLemmas.{declaring, given, tag_attributes}
use Rattle.xml_laws.proofs.StartTagLemmas.{start_piece}
use Rattle.xml_laws.proofs.PieceLemmas.{BeginsTag}

encodes-flat_map : {X : Type 0} (h : X → List ℕ) (xs : List X) → encode_utf8_all (flat_map h xs) ≡ flat_map (λ x. encode_utf8_all (h x)) xs
encodes-flat_map h [] = refl
encodes-flat_map h (x ∷ xs) = encodes-append (h x) (flat_map h xs) ∙ ap (λ y. encode_utf8_all (h x) ++ y) (encodes-flat_map h xs)

flat_map-same : {X : Type 0} (f g : X → List ℕ) → ((x : X) → f x ≡ g x) → (xs : List X) → flat_map f xs ≡ flat_map g xs
flat_map-same f g e [] = refl
flat_map-same f g e (x ∷ xs) = ap (λ y. y ++ flat_map f xs) (e x) ∙ ap (λ y. g x ++ y) (flat_map-same f g e xs)

attribute-encoded : (name value : List ℕ) → encode_utf8_all (attribute_text name value) ≡ attribute_bytes (encode_utf8_all name) (bytes_of_value value)
unfolding encode
attribute-encoded name value =
    ap (λ x. 0x20 ∷ x)
    (encodes-append name (0x3D ∷ 0x22 ∷ (flat_map in_value value ++ 0x22 ∷ []))
    ∙ ap (λ x. encode_utf8_all name ++ 0x3D ∷ 0x22 ∷ x) (encodes-append (flat_map in_value value) (0x22 ∷ [])))

abbrev bytes_of_written : Written → List ℕ
bytes_of_written a = attribute_bytes a.name (bytes_of_value a.value)

list-encoded : {X : Type 0} (name value : X → List ℕ) (xs : List X) → encode_utf8_all (flat_map (λ x. attribute_text (name x) (value x)) xs)
    ≡ written_bytes (map (λ x. let w : Written = record { name = encode_utf8_all (name x); value = value x } in w) xs)
list-encoded {X} name value xs =
    let as_written : X → Written = λ x. record { name = encode_utf8_all (name x); value = value x } in
    encodes-flat_map (λ x. attribute_text (name x) (value x)) xs
    ∙ (flat_map-same (λ x. encode_utf8_all (attribute_text (name x) (value x))) (λ x. bytes_of_written (as_written x))
    (λ x. attribute-encoded (name x) (value x)) xs
    ∙ sym (flat_map-map bytes_of_written as_written xs))

-- the attributes of a tag
pub attributes-encoded : (declarations own : List Declaration) (attributes : List Attribute)
    → encode_utf8_all (declarations_text own ++ attributes_text declarations attributes) ≡ written_bytes (tag_attributes declarations own attributes)
attributes-encoded declarations own attributes =
    encodes-append (declarations_text own) (attributes_text declarations attributes)
    ∙ (ap (λ x. x ++ encode_utf8_all (attributes_text declarations attributes))
    (list-encoded (λ (d : Declaration). declaring_name d.prefix) (λ (d : Declaration). d.uri) own)
    ∙ (ap (λ x. written_bytes (map declaring own) ++ x)
    (list-encoded (λ (a : Attribute). attribute_name declarations a.name) (λ (a : Attribute). a.value) attributes)
    ∙ sym (flat_map-append bytes_of_written (map declaring own) (map (given declarations) attributes))))

-- the bytes of an end tag
abbrev pub end_piece : List ℕ → List ℕ
end_piece name = 0x3C ∷ (0x2F ∷ (name ++ (0x3E ∷ [])))

module _ (name attributes : List ℕ) (N : List ℕ) (W : List Written) (named : encode_utf8_all name ≡ N)
    (attributed : encode_utf8_all attributes ≡ written_bytes W) where
  empty-encoded : encode_utf8_all (0x3C ∷ (name ++ (attributes ++ codes "/>"))) ≡ start_piece N W true
  unfolding encode
  empty-encoded =
      let close : List ℕ = 0x2F ∷ 0x3E ∷ [] in
      ap (λ x. 0x3C ∷ x)
      (encodes-append name (attributes ++ codes "/>")
      ∙ (ap (λ x. x ++ encode_utf8_all (attributes ++ codes "/>")) named
      ∙ (ap (λ x. N ++ x) (encodes-append attributes (codes "/>") ∙
      (ap (λ x. x ++ close) attributed ∙ sym (append_assoc (written_bytes W) (0x2F ∷ []) (0x3E ∷ []))))
      ∙ sym (append_assoc N (written_bytes W ++ (0x2F ∷ [])) (0x3E ∷ [])))))

  start-encoded : (more : List ℕ) → encode_utf8_all (0x3C ∷ (name ++ (attributes ++ (0x3E ∷ more)))) ≡ start_piece N W false ++ encode_utf8_all more
  unfolding encode
  start-encoded more =
      ap (λ x. 0x3C ∷ x)
      (encodes-append name (attributes ++ (0x3E ∷ more))
      ∙ (ap (λ x. x ++ encode_utf8_all (attributes ++ (0x3E ∷ more))) named
      ∙ (ap (λ x. N ++ x) (encodes-append attributes (0x3E ∷ more) ∙
      (ap (λ x. x ++ (0x3E ∷ encode_utf8_all more)) attributed ∙ ap (λ x. x ++ (0x3E ∷ encode_utf8_all more)) (sym (append-nil (written_bytes W)))))
      ∙ (sym (append_assoc N (written_bytes W ++ []) (0x3E ∷ encode_utf8_all more))
      ∙ sym (append_assoc (N ++ (written_bytes W ++ [])) (0x3E ∷ []) (encode_utf8_all more))))))

  end-encoded : encode_utf8_all (codes "</" ++ (name ++ (0x3E ∷ []))) ≡ end_piece N
  unfolding encode
  end-encoded = ap (λ x. 0x3C ∷ (0x2F ∷ x)) (encodes-append name (0x3E ∷ []) ∙ ap (λ x. x ++ (0x3E ∷ [])) named)

  -- an element without children, and one with
  pub element-empty : (inside : List ℕ) → encode_utf8_all (element_text name attributes true inside) ≡ start_piece N W true
  element-empty inside = empty-encoded

  pub element-filled : (inside : List ℕ) → encode_utf8_all (element_text name attributes false inside) ≡ start_piece N W false ++
      (encode_utf8_all inside ++ end_piece N)
  element-filled inside =
      start-encoded (inside ++ (codes "</" ++ (name ++ (0x3E ∷ []))))
      ∙ ap (λ x. start_piece N W false ++ x) (encodes-append inside (codes "</" ++ (name ++ (0x3E ∷ []))) ∙ ap (λ x. encode_utf8_all inside ++ x) end-encoded)

-- the bytes of an element
abbrev pub element_bytes : List Declaration → List Declaration → Name → List Attribute → Forest → List ℕ
element_bytes declarations own name attributes inside =
    encode_utf8_all (element_text (element_name declarations name) (declarations_text own ++ attributes_text declarations attributes) (is_childless inside)
    (forest_text declarations inside))

pub element-first : (declarations own : List Declaration) (name : Name) (attributes : List Attribute) (inside : Forest) → (more : List ℕ) ×
    (element_bytes declarations own name attributes inside ≡ 0x3C ∷ more)
unfolding encode
element-first declarations own name attributes inside = by (is_childless inside)
  where
    by : (t : Bool) → (more : List ℕ) ×
        (encode_utf8_all (element_text (element_name declarations name) (declarations_text own ++ attributes_text declarations attributes) t
        (forest_text declarations inside)) ≡ 0x3C ∷ more)
    by true = (_, refl)
    by false = (_, refl)

-- what stands inside an element begins with a tag, where it begins with no text
pub forest-begins : (declarations : List Declaration) (f : Forest) → begins_with_text f ≡ false → BeginsTag (encode_utf8_all (forest_text declarations f))
forest-begins declarations no_more h = record { more = λ rest. rest; is = λ rest. refl }
forest-begins declarations (a_text characters rest) h = cc
forest-begins declarations (an_element name attributes inside rest) h =
    let first = element-first declarations [] name attributes inside in
    let behind = encode_utf8_all (forest_text declarations rest) in
    record {
      more = λ r. (first.0 ++ behind) ++ (0x3C ∷ r);
      is = λ r. ap (λ x. x ++ (0x3C ∷ r))
          (encodes-append (element_text (element_name declarations name) (attributes_text declarations attributes) (is_childless inside)
          (forest_text declarations inside)) (forest_text declarations rest) ∙ ap (λ x. x ++ behind) first.1);
    }
