-- The text that a name or a string says.
use Rattle.std.proofs.Common.{◌≡◌, ℕ, ◌+◌, ◌-◌, Bool, true, false, cond, List, Option, Some, None, option_and_then, refl, sym, ap, ◌∙◌, true≢false}
use Rattle.std.specs.Str.{IsUtf8, is_utf8}
use Rattle.std.proofs.lemmas.Str.{IsUtf8-from_is_utf8, is_utf8-from_IsUtf8}
use Rattle.std.specs.Prelude.{chars}
use Rattle.json_reading.specs.Texts.{text_of, between, IsText}
use Rattle.json_reading.specs.declared.item.Span.{Span}
use Rattle.invoice_data.specs.Names.{checked, text_at}
use Rattle.invoice_data.specs.Values.{characters}

checked_by : (b : Bool) (text : List ℕ) → b ≡ true → cond b (Some text) None ≡ Some text
checked_by true text h = refl
checked_by false text h = absurd (true≢false (sym h))

unchecked_by : (b : Bool) (text : List ℕ) → (b ≡ true → ⊥) → cond b (Some text) None ≡ None
unchecked_by true text h = absurd (h refl)
unchecked_by false text h = refl

none_checked : (found : Option (List ℕ)) → ((text : List ℕ) → found ≡ Some text → IsUtf8 text → ⊥) → option_and_then checked found ≡ None
none_checked None h = refl
none_checked (Some text) h = unchecked_by (is_utf8 text) text (λ b. h text refl (IsUtf8-from_is_utf8 text b))

pub text_is : (bytes : List ℕ) (span : Span) (text : List ℕ) → IsText (between (span.at + 1) (span.end - 1) bytes) (Some text) → IsUtf8 text
    → Some text ≡ text_at bytes span
unfolding text_at
text_is bytes span text is utf8 = rw is (rw (is_utf8-from_IsUtf8 text utf8) refl)

pub no_text_is : (bytes : List ℕ) (span : Span) → IsText (between (span.at + 1) (span.end - 1) bytes) None → None ≡ text_at bytes span
unfolding text_at
no_text_is bytes span none = sym (none_checked (text_of (between (span.at + 1) (span.end - 1) bytes)) none)

pub characters_are : (text s : List ℕ) → s ≡ text → IsUtf8 text → Some (chars s) ≡ characters text
characters_are text s same utf8 = ap (λ t. Some (chars t)) same ∙ rw (is_utf8-from_IsUtf8 text utf8) refl

pub no_characters : (text : List ℕ) → ¬ (IsUtf8 text) → None ≡ characters text
no_characters text refused = sym (unchecked_by (is_utf8 text) (chars text) (λ b. refused (IsUtf8-from_is_utf8 text b)))
