-- Items say one value alone.
use Rattle.std.proofs.Common.{◌≡◌, ℕ, ◌^◌, true, nat_lt, List, [], ◌∷◌, take, drop, Option, Some, None, refl, ap, sym, ◌∙◌}
use Rattle.std.proofs.lemmas.Bool.{and_parts, ltb-true}
use Rattle.std.proofs.lemmas.Fmt.{decimal_injective}
use Rattle.std.proofs.lemmas.Str.{encodes_same}
use lib.Utf8.{encodes}
use Rattle.json_text.specs.Json.{Json, nothing, a_text, a_number, an_array, an_object}
use Rattle.json_laws.specs.Reading.{numbers_fit}
use Rattle.json_reading.specs.declared.item.Item.{Item}
use Rattle.json_reading.specs.declared.item.ItemKind.{ItemKind}
use Rattle.json_reading.specs.declared.item.ItemKind.TheVariants as kinds
use Rattle.json_reading.specs.declared.item.Span.{Span}
use Rattle.read_back_laws.specs.Saying.{IsString, IsNamed, Say}

-- the kind of what comes first, in a value and among items
abbrev kind_of : Json → Option ItemKind
kind_of nothing = None
kind_of (a_text name characters rest) = Some kinds.Text
kind_of (a_number name n rest) = Some kinds.Number
kind_of (an_array name inside rest) = Some kinds.Array
kind_of (an_object name inside rest) = Some kinds.Object

abbrev first_kind : List Item → Option ItemKind
first_kind [] = None
first_kind (i ∷ behind) = Some i.kind

module _ (bytes : List ℕ) where
  kind_said : (value : Json) (items : List Item) → Say bytes items value → first_kind items ≡ kind_of value
  kind_said nothing items s = ap first_kind s
  kind_said (a_text name characters rest) [] s = absurd s
  kind_said (a_text name characters rest) (i ∷ behind) s = ap Some s.0.kind
  kind_said (a_number name n rest) [] s = absurd s
  kind_said (a_number name n rest) (i ∷ behind) s = ap Some s.0.kind
  kind_said (an_array name inside rest) [] s = absurd s
  kind_said (an_array name inside rest) (i ∷ behind) s = ap Some s.0.kind
  kind_said (an_object name inside rest) [] s = absurd s
  kind_said (an_object name inside rest) (i ∷ behind) s = ap Some s.0.kind

  same_string : (s : Span) (a b : List ℕ) → IsString bytes s a → IsString bytes s b → a ≡ b
  same_string s a b f g = let e : Some (encodes a) ≡ Some (encodes b) = sym f.text ∙ g.text in encodes_same a b cc

  same_name : (s : Option Span) (a b : Option (List ℕ)) → IsNamed bytes s a → IsNamed bytes s b → a ≡ b
  same_name (Some s) (Some a) (Some b) f g = ap Some (same_string s a b f g)
  same_name (Some s) (Some a) None f g = absurd g
  same_name (Some s) None b f g = absurd f
  same_name None (Some a) b f g = absurd f
  same_name None None (Some b) f g = absurd g
  same_name None None None f g = refl

  one_value : (v w : Json) (items : List Item) → numbers_fit v ≡ true → numbers_fit w ≡ true → Say bytes items v → Say bytes items w → v ≡ w
  one_value nothing nothing items h k f g = refl
  one_value (a_text a c r) (a_text b d s) [] h k f g = absurd f
  one_value (a_text a c r) (a_text b d s) (i ∷ behind) h k f g =
      λ j. a_text (same_name i.name a b f.0.named g.0.named j) (same_string i.value c d f.0.value g.0.value j) (one_value r s behind h k f.1 g.1 j)
  one_value (a_number a n r) (a_number b m s) [] h k f g = absurd f
  one_value (a_number a n r) (a_number b m s) (i ∷ behind) h k f g =
      let fits = and_parts (nat_lt n (2 ^ 64)) (numbers_fit r) h in
      let others = and_parts (nat_lt m (2 ^ 64)) (numbers_fit s) k in
      let same = decimal_injective n m (ltb-true n (2 ^ 64) fits.0) (ltb-true m (2 ^ 64) others.0) (sym f.0.value ∙ g.0.value) in
      λ j. a_number (same_name i.name a b f.0.named g.0.named j) (same j) (one_value r s behind fits.1 others.1 f.1 g.1 j)
  one_value (an_array a x r) (an_array b y s) [] h k f g = absurd f
  one_value (an_array a x r) (an_array b y s) (i ∷ behind) h k f g =
      let fits = and_parts (numbers_fit x) (numbers_fit r) h in
      let others = and_parts (numbers_fit y) (numbers_fit s) k in
      λ j. an_array (same_name i.name a b f.0.named g.0.named j) (one_value x y (take i.inside behind) fits.0 others.0 f.1.0 g.1.0 j)
      (one_value r s (drop i.inside behind) fits.1 others.1 f.1.1 g.1.1 j)
  one_value (an_object a x r) (an_object b y s) [] h k f g = absurd f
  one_value (an_object a x r) (an_object b y s) (i ∷ behind) h k f g =
      let fits = and_parts (numbers_fit x) (numbers_fit r) h in
      let others = and_parts (numbers_fit y) (numbers_fit s) k in
      λ j. an_object (same_name i.name a b f.0.named g.0.named j) (one_value x y (take i.inside behind) fits.0 others.0 f.1.0 g.1.0 j)
      (one_value r s (drop i.inside behind) fits.1 others.1 f.1.1 g.1.1 j)
  one_value v w items h k f g = let apart : kind_of v ≡ kind_of w = sym (kind_said v items f) ∙ kind_said w items g in cc

pub said_is_one : (bytes : List ℕ) (items : List Item) (v w : Json) → numbers_fit v ≡ true → numbers_fit w ≡ true
    → Say bytes items v → Say bytes items w → v ≡ w
said_is_one bytes items v w h k f g = one_value bytes v w items h k f g
