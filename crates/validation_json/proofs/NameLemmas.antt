-- A name that has a character, or none.
use Rattle.std.proofs.Common.{◌≡◌, ◌≢◌, ℕ, List, [], ◌∷◌, true, false, length, refl, ap, sym, ◌∙◌, codes}
use Rattle.std.specs.Prelude.{◌==◌, encode_utf8_all}
use Rattle.std.specs.Str.{chars, IsUtf8}
use Rattle.std.proofs.lemmas.Bool.{false≢true, eqb-true}
use Rattle.std.proofs.lemmas.List.{nil_from_length}
use Rattle.std.proofs.lemmas.Str.{chars-nil}
use Rattle.inv_base.proofs.TextLemmas.{encode-chars}
use Rattle.json_text.specs.Json.{nothing}
use Rattle.json_text.specs.Making.{text_member}
use Rattle.validation_json.specs.ValidationJson.{name_member}

pub nameless : (name : List ℕ) → (length name == 0) ≡ true → nothing ≡ name_member (chars name)
nameless name e = sym (ap name_member (ap chars (nil_from_length name (eqb-true (length name) 0 e)) ∙ chars-nil))

pub named : (name : List ℕ) → IsUtf8 name → (length name == 0) ≡ false → text_member (codes "name") (chars name) ≡ name_member (chars name)
named name u e = by (chars name)
    (λ none. false≢true (sym e ∙ ap (λ text. length text == 0) (sym (encode-chars name u) ∙ ap encode_utf8_all none)))
  where
    by : (characters : List ℕ) → characters ≢ [] → text_member (codes "name") characters ≡ name_member characters
    by [] some = absurd (some refl)
    by (c ∷ characters) some = refl
