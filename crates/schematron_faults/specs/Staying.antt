-- Texts that stay as they are written, whatever the uses of abstract patterns put in (ISO/IEC 19757-3, section 5.4.10).
use Rattle.std.specs.Prelude.{◌≡◌, ℕ, Bool, true, false, nat_eq, ◌==◌, List, [], fold, Option, Some, None}
use Rattle.std.specs.List.{list_any}
use Rattle.schematron_texts.specs.Replacing.{Parameter, value_of, with_parameter, replaced}
use Rattle.schematron_meaning.specs.declared.attribute.Attribute.{Attribute}
use Rattle.schematron_meaning.specs.declared.attribute.Attribute.TheVariants as a
use Rattle.schematron_meaning.specs.Entries.{Entry}
use Rattle.schematron_meaning.specs.Lookup.{attribute, is_let, is_parameter}
use Rattle.schematron_faults.specs.declared.texts.Texts.{Texts}
use Rattle.schematron_faults.specs.Each.{Each}

-- one parameter more, with nothing to put in
abbrev pub with_blank : List Parameter → Option (List ℕ) → List Parameter
with_blank blanks None = blanks
with_blank blanks (Some name) = with_parameter blanks name []

-- the parameter that an element gives, if it is one
abbrev pub blank_by : List Parameter → Entry → List Parameter
blank_by blanks e = elim (is_parameter e.role) [ true ↦ with_blank blanks (attribute a.Name e) | false ↦ blanks ]

-- all parameters that some elements give, each with nothing to put in
abbrev pub blanks_with : List Parameter → List Entry → List Parameter
blanks_with blanks es = fold blank_by blanks es

abbrev pub blanks_of : List Entry → List Parameter
blanks_of es = blanks_with [] es

-- None of the parameters stands in the text: where they had nothing to put in, it would get shorter.
abbrev pub Stays : List Parameter → List ℕ → Type 0
Stays blanks text = replaced blanks text ≡ text

-- the same of an attribute, if it is there
abbrev pub StaysAt : List Parameter → Attribute → Entry → Type 0
StaysAt blanks name e = (text : List ℕ) → attribute name e ≡ Some text → Stays blanks text

-- Each name that the second have, the first have too.
abbrev pub HaveNames : List Parameter → List Parameter → Type 0
HaveNames blanks params = (name : List ℕ) → value_of blanks name ≡ None → value_of params name ≡ None

-- Every parameter begins with one.
abbrev pub is_dollar : ℕ → Bool
is_dollar c = c == 36

-- The attribute is an expression.
abbrev pub is_expression : Attribute → Bool
is_expression a.Context = true
is_expression a.Test = true
is_expression a.Value = true
is_expression a.Select = true
is_expression _ = false

-- No parameter stands in an expression of the element.
abbrev pub ExpressionsStay : List Parameter → Entry → Type 0
ExpressionsStay blanks e = (name : Attribute) → is_expression name ≡ true → StaysAt blanks name e

-- None stands in its name, if it is a let.
abbrev pub NameStays : List Parameter → Entry → Type 0
NameStays blanks e = is_let e.role ≡ true → StaysAt blanks a.Name e

-- All that were noted are, and so is this one unless its expressions stay.
pub record Notes (old new : List ℕ) (n : ℕ) (stay : Bool) : Type 0 where
  pub others : (m : ℕ) → list_any (nat_eq m) new ≡ false → list_any (nat_eq m) old ≡ false
  pub itself : list_any (nat_eq n) new ≡ false → stay ≡ true

-- The element is one of those that change.
abbrev pub is_changed : Texts → ℕ → Bool
is_changed texts n = list_any (nat_eq n) texts.changed.keys

-- Of these elements it is known what stays.
pub record AreTexts (blanks : List Parameter) (es : List Entry) (texts : Texts) : Type 0 where
  pub expressions : Each (λ (e : Entry). is_changed texts e.number ≡ false → ExpressionsStay blanks e) es
  pub names : texts.names_stay ≡ true → Each (NameStays blanks) es
