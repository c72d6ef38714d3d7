-- Lemmas for the texts of strings.
use Rattle.std.proofs.Common.{◌≡◌, ℕ, Bool, true, false, cond, ◌||◌, ◌==◌, List, [], ◌∷◌, ◌++◌, Option, Some, None, option_map, refl, sym, ap, ◌∙◌, subst}
use Rattle.std.proofs.Common.{append_assoc, append-nil, true≢false, is_some}
use Rattle.std.specs.Prelude.{encode_utf8}
use lib.Utf8.{scalar}
use Rattle.std.specs.List.{list_any}
use Rattle.std.specs.Str.{IsUtf8}
use Rattle.json_reading.specs.declared.texts.Pending.{Pending}
use Rattle.json_reading.specs.declared.texts.Said.{Said}
use Rattle.json_reading.specs.declared.texts.Said.TheVariants.{Goes, Byte, Character, Nothing}
use Rattle.json_reading.specs.Texts.{behind, text_of, text_behind, nothing_pending, saying, character, IsPut, IsTextPut, IsChecked, IsText}

some-injective : {X : Type 0} (d : X) (x y : X) → Some x ≡ Some y → x ≡ y
some-injective {X} d x y e = ap (λ o. elim o as (λ _. X) [ Some z ↦ z | None ↦ d ]) e

none-some : {X : Type 0} (x : X) → None ≡ Some x → ⊥
none-some x e = true≢false (sym (ap is_some e))

pub behind-nil : (text : Option (List ℕ)) → behind [] text ≡ text
behind-nil (Some text) = refl
behind-nil None = refl

pub behind-append : (a b : List ℕ) (text : Option (List ℕ)) → behind a (behind b text) ≡ behind (a ++ b) text
behind-append a b (Some text) = ap Some (sym (append_assoc a b text))
behind-append a b None = refl

-- bytes that are the text, where they are UTF-8
pub checked_text : (bytes items : List ℕ) (found : Option (List ℕ)) → text_of bytes ≡ Some items → IsChecked items found → IsText bytes found
checked_text bytes items (Some text) is same = is ∙ ap Some (sym same)
checked_text bytes items None is refused = λ text e utf8. refused (subst IsUtf8 (some-injective [] text items (sym e ∙ is)) utf8)

pub no_text : (bytes : List ℕ) → text_of bytes ≡ None → IsText bytes None
no_text bytes none = λ text e. absurd (none-some text (sym none ∙ e))

no_backslash : (b : Bool) (rest : Bool) → (b || rest) ≡ false → (b ≡ false) × (rest ≡ false)
no_backslash true rest h = absurd (true≢false h)
no_backslash false rest h = (refl, h)

-- what the text becomes behind what is said
abbrev pub continued : List ℕ → Said → Option (List ℕ)
continued bytes (Goes next) = text_behind next bytes
continued bytes (Byte c) = behind (c ∷ []) (text_behind nothing_pending bytes)
continued bytes (Character c) = behind (encode_utf8 c) (text_behind nothing_pending bytes)
continued bytes Nothing = None

text_step_by : (bytes : List ℕ) (s : Said) → elim s as (λ _. Option (List ℕ)) [
  | (Goes next) ↦ text_behind next bytes
  | (Byte c) ↦ behind (c ∷ []) (text_behind nothing_pending bytes)
  | (Character c) ↦ behind (encode_utf8 c) (text_behind nothing_pending bytes)
  | Nothing ↦ None
] ≡ continued bytes s
text_step_by bytes (Goes next) = refl
text_step_by bytes (Byte c) = refl
text_step_by bytes (Character c) = refl
text_step_by bytes Nothing = refl

pub text_step : (pending : Pending) (b : ℕ) (bytes : List ℕ) → text_behind pending (b ∷ bytes) ≡ continued bytes (saying pending b)
text_step pending b bytes = text_step_by bytes (saying pending b)

plain_said : (b : ℕ) → (b == 0x5C) ≡ false → saying nothing_pending b ≡ Byte b
unfolding saying
plain_said b h = rw h refl

-- without a backslash the bytes are the text
pub plain : (bytes : List ℕ) → list_any (λ b. b == 0x5C) bytes ≡ false → text_of bytes ≡ Some bytes
plain [] h = refl
plain (b ∷ bytes) h =
    let here = no_backslash (b == 0x5C) _ h in
    text_step nothing_pending b bytes ∙ (ap (continued bytes) (plain_said b here.0) ∙ ap (behind (b ∷ [])) (plain bytes here.1))

pub plain_checked : (bytes : List ℕ) (found : Option (List ℕ)) → list_any (λ b. b == 0x5C) bytes ≡ false → IsChecked bytes found → IsText bytes found
plain_checked bytes found h = checked_text bytes bytes found (plain bytes h)

some-pending : (x y : Pending) → Some x ≡ Some y → x ≡ y
some-pending x y e = some-injective nothing_pending x y e

-- one byte more is said
pub put_step : (s : Said) (before after : List ℕ) (next : Pending) (rest : List ℕ) → IsPut s before after (Some next)
    → behind after (text_behind next rest) ≡ behind before (continued rest s)
put_step (Goes pending) before after next rest h =
    ap (λ t. behind t (text_behind next rest)) h.0 ∙ ap (λ p. behind before (text_behind p rest)) (some-pending next pending h.1)
put_step (Byte c) before after next rest h =
    ap (λ t. behind t (text_behind next rest)) h.0
    ∙ (ap (λ p. behind (before ++ c ∷ []) (text_behind p rest)) (some-pending next nothing_pending h.1)
    ∙ sym (behind-append before (c ∷ []) (text_behind nothing_pending rest)))
put_step (Character c) before after next rest h =
    ap (λ t. behind t (text_behind next rest)) h.0
    ∙ (ap (λ p. behind (before ++ encode_utf8 c) (text_behind p rest)) (some-pending next nothing_pending h.1)
    ∙ sym (behind-append before (encode_utf8 c) (text_behind nothing_pending rest)))
put_step Nothing before after next rest h = absurd (none-some next (sym h))

pub put_none : (s : Said) (before after : List ℕ) (rest : List ℕ) → IsPut s before after None → continued rest s ≡ None
put_none (Goes pending) before after rest h = absurd (none-some pending h.1)
put_none (Byte c) before after rest h = absurd (none-some nothing_pending h.1)
put_none (Character c) before after rest h = absurd (none-some nothing_pending h.1)
put_none Nothing before after rest h = refl

-- where nothing is left of a text that has begun, there is none
pub none_behind : (front : List ℕ) (text : Option (List ℕ)) → None ≡ behind front text → text ≡ None
none_behind front (Some text) h = absurd (none-some (front ++ text) h)
none_behind front None h = refl

pub ended_over : (front : List ℕ) (over : Bool) (bytes before : List ℕ) → behind front (cond over (Some []) None) ≡ behind before (text_of bytes)
    → IsTextPut bytes before front over
ended_over front true bytes before h = sym h ∙ ap Some (append-nil front)
ended_over front false bytes before h = none_behind before (text_of bytes) h

-- a code that is a character's, or isn't
pub scalar_said : (code c : ℕ) → scalar code ≡ true → code ≡ c → Character c ≡ character code
unfolding character
scalar_said code c h e = rw h (ap Character (sym e))

pub scalar_none : (code : ℕ) → ¬ (scalar code ≡ true) → Nothing ≡ character code
unfolding character
scalar_none code h = elim (scalar code) as (λ b. (b ≡ true → ⊥) → Nothing ≡ cond b (Character code) Nothing) [
  | true ↦ λ k. absurd (k refl)
  | false ↦ λ k. refl
] h

pub made : (bytes items : List ℕ) (found : Option (List ℕ)) → behind [] (text_of bytes) ≡ Some items → IsChecked items found → IsText bytes found
made bytes items found is = checked_text bytes items found (sym (behind-nil (text_of bytes)) ∙ is)
