-- Attributes as canonical text writes them, by their bytes.
use Rattle.std.proofs.Common.{◌≡◌, ℕ, pred, ◌+◌, ◌-◌, Bool, true, false, not, ◌&&◌, ◌||◌, ◌==◌, List, [], ◌∷◌, ◌++◌, length, drop, refl, sym, ap, ◌∙◌, arith}
use Rattle.std.proofs.Common.{if◌then◌else◌, cond, Option, Some, None, option_map, option_and_then, chars, encode_utf8_all, true≢false}
use Rattle.std.specs.List.{list_all, list_any, flat_map, prefix_len, after_first}
use Rattle.std.proofs.Math.Seq.{drop-append_seam}
use Rattle.std.proofs.lemmas.List.{append_assoc, length-append}
use Rattle.inv_base.specs.Characters.{is_white_space}
use Rattle.inv_base.proofs.TextLemmas.{both}
use Rattle.xml_tokens.specs.Searches.{is_quote}
use Rattle.xml_tokens.specs.WrittenNames.{is_qname, ends_name, name_at_front}
use Rattle.xml_tokens.specs.Literals.{behind_white_space, literal_at}
use Rattle.xml_tokens.specs.Markup.{Written}
use Rattle.xml_tokens.specs.Tags.{Found, found_literal, attribute_at, Inside, with_attribute, tag_rest, tag_inside, value_of, with_values}
use Rattle.xml_write.specs.Escapes.{in_value}
use Rattle.xml_laws.proofs.EncodedLemmas.{are_chars, all-implied, chars-back}
use Rattle.xml_tokens.proofs.CharacterLemmas.{chosen, passed}
use Rattle.xml_laws.proofs.SplitLemmas.{before-front, after-front, any-front, any-none}
use Rattle.xml_laws.proofs.ValueLemmas.{value-back, value-chars, bytes_of_value, value-unquoted, value-no_tag}

-- A byte that may stand in a name as it is written: none that ends a name or a tag, that quotes, or that begins other
-- markup.
abbrev pub may_name : ℕ → Bool
may_name b = not (ends_name b) && (not (is_quote b) && (not (b == 0x3E) && (not (b == 0x21) && not (b == 0x3F))))

-- A name as it is written, by its bytes.
pub record IsWrittenName (name : List ℕ) : Type 0 where
  pub characters : List ℕ
  pub chars : are_chars characters ≡ true
  pub encoded : name ≡ encode_utf8_all characters
  pub qname : is_qname name ≡ true
  pub plain : list_all may_name name ≡ true
  pub first : ℕ
  pub more : List ℕ
  pub is : name ≡ first ∷ more

pub name-ends : (name : List ℕ) → list_all may_name name ≡ true → list_all (λ b. not (ends_name b)) name ≡ true
name-ends name h = all-implied may_name (λ b. not (ends_name b)) (λ b q. (both _ _ q).0) name h

pub not_false : (b : Bool) → not b ≡ true → b ≡ false
not_false true h = cc
not_false false h = refl

pub or_false : (a b : Bool) → (a || b) ≡ false → (a ≡ false) × (b ≡ false)
or_false true b h = absurd (true≢false h)
or_false false b h = (refl, h)

first-not_space : (name : List ℕ) (n : IsWrittenName name) → is_white_space n.first ≡ false
first-not_space name n =
    let p = both (may_name n.first) (list_all may_name n.more) (ap (list_all may_name) (sym n.is) ∙ n.plain) in
    (or_false (is_white_space n.first) (n.first == 0x3D || n.first == 0x2F) (not_false (ends_name n.first) (both _ _ p.0).0)).0

-- an attribute by the bytes of its name and of its escaped value
abbrev pub attribute_bytes : List ℕ → List ℕ → List ℕ
attribute_bytes name value = 0x20 ∷ (name ++ (0x3D ∷ (0x22 ∷ (value ++ (0x22 ∷ [])))))

-- the same, before more bytes
abbrev attribute_before : List ℕ → List ℕ → List ℕ → List ℕ
attribute_before name value rest = 0x20 ∷ (name ++ (0x3D ∷ (0x22 ∷ (value ++ (0x22 ∷ rest)))))

pub attribute-before : (name value rest : List ℕ) → attribute_bytes name value ++ rest ≡ attribute_before name value rest
attribute-before name value rest =
    ap (λ x. 0x20 ∷ x)
    (append_assoc name (0x3D ∷ (0x22 ∷ (value ++ (0x22 ∷ [])))) rest
    ∙ ap (λ x. name ++ (0x3D ∷ (0x22 ∷ x))) (append_assoc value (0x22 ∷ []) rest))

behind-one : (b : ℕ) (x : List ℕ) → is_white_space b ≡ false → behind_white_space (0x20 ∷ (b ∷ x)) ≡ b ∷ x
unfolding is_white_space
behind-one b x h = ap (λ t. drop (1 + cond t (1 + prefix_len is_white_space x) 0) (0x20 ∷ (b ∷ x))) h

literal-of : (value rest : List ℕ) → list_all (λ b. not (b == 0x22)) value ≡ true →
    literal_at (0x3D ∷ (0x22 ∷ (value ++ (0x22 ∷ rest)))) ≡ Some (record { value = value; rest = rest })
unfolding is_white_space
literal-of value rest h =
    let q = λ (b : ℕ). b == 0x22 in
    chosen (list_any q (value ++ (0x22 ∷ rest))) _ _ (any-front q value 0x22 rest refl)
    ∙ (ap (λ v. Some (record { value = v; rest = after_first q (value ++ (0x22 ∷ rest)) })) (before-front q value 0x22 rest h refl)
    ∙ ap (λ r. Some (record { value = value; rest = r })) (after-front q value 0x22 rest h refl))

module _ (name value rest : List ℕ) (n : IsWrittenName name) (quoted : list_all (λ b. not (b == 0x22)) value ≡ true)
    (untagged : list_all (λ b. not (b == 0x3C)) value ≡ true) where
  found : Found
  found = record { name = name; value = value; rest = rest }

  front-is : behind_white_space (attribute_before name value rest) ≡ name ++ (0x3D ∷ (0x22 ∷ (value ++ (0x22 ∷ rest))))
  front-is =
      let tail = 0x3D ∷ (0x22 ∷ (value ++ (0x22 ∷ rest))) in
      ap (λ x. behind_white_space (0x20 ∷ (x ++ tail))) n.is
      ∙ (behind-one n.first (n.more ++ tail) (first-not_space name n) ∙ ap (λ x. x ++ tail) (sym n.is))

  attribute-found : attribute_at (attribute_before name value rest) ≡ Some found
  unfolding attribute_at found is_white_space
  attribute-found =
      let tail = 0x3D ∷ (0x22 ∷ (value ++ (0x22 ∷ rest))) in
      let named : name_at_front (name ++ tail) ≡ name = before-front ends_name name 0x3D (0x22 ∷ (value ++ (0x22 ∷ rest))) (name-ends name n.plain) refl in
      ap (λ front. if is_qname (name_at_front front) then option_and_then (found_literal (name_at_front front))
      (literal_at (drop (length (name_at_front front)) front)) else None) front-is
      ∙ (ap (λ x. if is_qname x then option_and_then (found_literal x) (literal_at (drop (length x) (name ++ tail))) else None) named
      ∙ (chosen (is_qname name) _ _ n.qname
      ∙ (ap (λ x. option_and_then (found_literal name) (literal_at x)) (drop-append_seam name tail)
      ∙ (ap (option_and_then (found_literal name)) (literal-of value rest quoted)
      ∙ passed (list_any (λ b. b == 0x3C) value) _ _ (any-none (λ b. b == 0x3C) value untagged)))))

-- bytes that belong to the attribute before are passed over
inside-skips : (front rest : List ℕ) → tag_inside (length front) (front ++ rest) ≡ tag_inside 0 rest
unfolding tag_inside
inside-skips [] rest = refl
inside-skips (b ∷ front) rest = inside-skips front rest

skip_of : (front rest : List ℕ) (b : ℕ) → pred (length (b ∷ (front ++ rest)) - length rest) ≡ length front
skip_of front rest b = let l = length-append front rest in omega arith

abbrev more_inside : List ℕ → List ℕ → Option Found → Option Inside
more_inside bytes whole x = elim x [
  | None ↦ tag_rest whole
  | (Some found) ↦ option_map (with_attribute found) (tag_inside (pred (length whole - length found.rest)) bytes)
]

pub attribute-inside : (name value rest : List ℕ) → IsWrittenName name → list_all (λ b. not (b == 0x22)) value ≡ true →
    list_all (λ b. not (b == 0x3C)) value ≡ true
    → tag_inside 0 (attribute_bytes name value ++ rest) ≡ option_map (with_attribute (record { name = name; value = value; rest = rest })) (tag_inside 0 rest)
unfolding tag_inside found
attribute-inside name value rest n quoted untagged =
    let front = name ++ (0x3D ∷ (0x22 ∷ (value ++ (0x22 ∷ [])))) in
    let f : Found = record { name = name; value = value; rest = rest } in
    ap (more_inside (front ++ rest) (0x20 ∷ (front ++ rest))) (ap attribute_at (attribute-before name value rest) ∙
    attribute-found name value rest n quoted untagged)
    ∙ (ap (λ k. option_map (with_attribute f) (tag_inside k (front ++ rest))) (skip_of front rest 0x20)
    ∙ ap (option_map (with_attribute f)) (inside-skips front rest))

-- Attributes with names in bytes, and with what their values say, as they are written.
abbrev pub written_bytes : List Written → List ℕ
written_bytes attributes = flat_map (λ (a : Written). attribute_bytes a.name (bytes_of_value a.value)) attributes

abbrev pub AreWritten : List Written → Type 0
AreWritten [] = Unit {0}
AreWritten (a ∷ attributes) = IsWrittenName a.name × (are_chars a.value ≡ true) × AreWritten attributes

-- the end of a tag behind its attributes
abbrev pub tag_close : Bool → List ℕ
tag_close is_empty = if is_empty then 0x2F ∷ [] else []

close-inside : (is_empty : Bool) → tag_inside 0 (tag_close is_empty) ≡ Some (record { attributes = []; is_empty = is_empty })
unfolding tag_inside attribute_at is_white_space
close-inside true = refl
close-inside false = refl

-- What stands behind the name of a tag is read as its attributes, whose values say what they were written from.
pub record ReadsInside (attributes : List Written) (is_empty : Bool) : Type 0 where
  pub founds : List Found
  pub is : tag_inside 0 (written_bytes attributes ++ tag_close is_empty) ≡ Some (record { attributes = founds; is_empty = is_empty })
  pub says : with_values founds ≡ Some attributes

abbrev with_value : List ℕ → Option (List ℕ) → Option (List Written) → Option (List Written)
with_value name value more = elim value [ None ↦ None | (Some v) ↦ option_map (λ attributes. record { name = name; value = v } ∷ attributes) more ]

value-says : (value : List ℕ) → are_chars value ≡ true → value_of 0 (chars (bytes_of_value value)) ≡ Some value
value-says value h = ap (value_of 0) (chars-back (flat_map in_value value) (value-chars value h)) ∙ value-back value

pub reads-inside : (attributes : List Written) (is_empty : Bool) → AreWritten attributes → ReadsInside attributes is_empty
reads-inside [] is_empty w = record { founds = []; is = close-inside is_empty; says = refl }
reads-inside (a ∷ attributes) is_empty w =
    let r = reads-inside attributes is_empty w.2 in
    let rest = written_bytes attributes ++ tag_close is_empty in
    let value = bytes_of_value a.value in
    record {
      founds = record { name = a.name; value = value; rest = rest } ∷ r.founds;
      is = ap (tag_inside 0) (append_assoc (attribute_bytes a.name value) (written_bytes attributes) (tag_close is_empty))
          ∙ (attribute-inside a.name value rest w.0 (value-unquoted a.value w.1) (value-no_tag a.value w.1)
          ∙ ap (option_map (with_attribute (record { name = a.name; value = value; rest = rest }))) r.is);
      says = ap (λ v. with_value a.name v (with_values r.founds)) (value-says a.value w.1) ∙ ap (with_value a.name (Some a.value)) r.says;
    }
