-- What calls append, in characters and in UTF-8.
use Rattle.std.proofs.Common.{◌≡◌, ℕ, ◌+◌, ◌<◌, ◌≤◌, false, ◌==◌, List, [], ◌∷◌, ◌++◌, length, map, refl, ap, sym, ◌∙◌, length-append, arith}
use Rattle.std.specs.List.{flat_map}
use Rattle.std.proofs.lemmas.Bool.{cond_both, ne_eqb}
use Rattle.std.proofs.lemmas.Bool.Decides.{nat_tests}
use Rattle.std.proofs.lemmas.Str.{encodes-append, length-encode, len_utf8_bounds}
use lib.Utf8.{encodes, encode}
use Rattle.inv_base.proofs.EscapeLemmas.{IsAsciiEscape, encodes-one, flat_map-encodes}
use Rattle.xml_write.specs.declared.pen.PenState.{PenState}
use Rattle.xml_write.specs.declared.pen.PenState.TheVariants.{Fresh, InsideTag, PastTag}
use Rattle.xml_write.specs.Escapes.{in_text, in_value}
use Rattle.xml_write.specs.Canonical.{declaration_line, qualified, declaring_name, attribute_text}
use Rattle.xml_write.specs.Calls.{Call, call_start, call_attribute, call_declare, call_text, call_end, call_close, lead_in, start_text, content_text, end_tag}
use Rattle.xml_write.specs.Calls.{end_text, behind_text, appended_by, state_behind, appended_by_all, encoded}

-- a text that isn't empty
pub content_text-some : (state : PenState) (t : List ℕ) → (length t == 0) ≡ false → content_text state t ≡ lead_in state ++ flat_map in_text t
content_text-some state [] e = cc
content_text-some state (c ∷ t) e = refl

in_text-plain : (c : ℕ) → 128 ≤ c → in_text c ≡ c ∷ []
unfolding in_text
in_text-plain c h = grind (arith, nat_tests)

in_value-plain : (c : ℕ) → 128 ≤ c → in_value c ≡ c ∷ []
unfolding in_value in_text
in_value-plain c h = grind (arith, nat_tests)

Same : List ℕ → Type 0
Same xs = encodes xs ≡ xs

in_text-ascii : (c : ℕ) → c < 128 → encodes (in_text c) ≡ in_text c
unfolding in_text Same encode
in_text-ascii c h =
    cond_both (c == 0x26) _ _ Same (λ _. refl) (λ _.
    cond_both (c == 0x3C) _ _ Same (λ _. refl) (λ _.
    cond_both (c == 0x3E) _ _ Same (λ _. refl) (λ _.
    cond_both (c == 0xD) _ _ Same (λ _. refl) (λ _. encodes-one c h))))

in_value-ascii : (c : ℕ) → c < 128 → encodes (in_value c) ≡ in_value c
unfolding in_value Same encode
in_value-ascii c h =
    cond_both (c == 0x22) _ _ Same (λ _. refl) (λ _.
    cond_both (c == 0x9) _ _ Same (λ _. refl) (λ _.
    cond_both (c == 0xA) _ _ Same (λ _. refl) (λ _. in_text-ascii c h)))

pub in_text-IsAsciiEscape : IsAsciiEscape in_text
in_text-IsAsciiEscape = record { plain = in_text-plain; ascii = in_text-ascii }

pub in_value-IsAsciiEscape : IsAsciiEscape in_value
in_value-IsAsciiEscape = record { plain = in_value-plain; ascii = in_value-ascii }

encodes-lead_in : (state : PenState) → encodes (lead_in state) ≡ lead_in state
unfolding declaration_line encode
encodes-lead_in Fresh = refl
encodes-lead_in InsideTag = refl
encodes-lead_in PastTag = refl

pub encodes-end_tag : (name : List ℕ) → encodes (end_tag name) ≡ end_tag (encodes name)
unfolding encode
encodes-end_tag name = ap (λ x. 0x3C ∷ 0x2F ∷ x) (encodes-append name (0x3E ∷ []))

-- a text with a character has a byte
pub encodes-some : (c : ℕ) (characters : List ℕ) → (length (encodes (c ∷ characters)) == 0) ≡ false
encodes-some c characters =
    let long : length (encode c ++ encodes characters) ≡ length (encode c) + length (encodes characters) = length-append (encode c) (encodes characters) in
    ne_eqb _ 0 (λ e. omega (arith, length-encode c, (len_utf8_bounds c).0))

pub declaring_name-some : (t : List ℕ) → (length t == 0) ≡ false → declaring_name t ≡ 0x78 ∷ 0x6D ∷ 0x6C ∷ 0x6E ∷ 0x73 ∷ 0x3A ∷ t
declaring_name-some [] e = cc
declaring_name-some (c ∷ t) e = refl

pub qualified-some : (t local : List ℕ) → (length t == 0) ≡ false → qualified t local ≡ t ++ 0x3A ∷ local
qualified-some [] local e = cc
qualified-some (c ∷ t) local e = refl

pub encodes-declaring_name : (prefix : List ℕ) → encodes (declaring_name prefix) ≡ declaring_name (encodes prefix)
unfolding encode
encodes-declaring_name [] = refl
encodes-declaring_name (c ∷ prefix) = sym (declaring_name-some (encodes (c ∷ prefix)) (encodes-some c prefix))

pub encodes-qualified : (prefix local : List ℕ) → encodes (qualified prefix local) ≡ qualified (encodes prefix) (encodes local)
unfolding encode
encodes-qualified [] local = refl
encodes-qualified (c ∷ prefix) local =
    encodes-append (c ∷ prefix) (0x3A ∷ local) ∙ sym (qualified-some (encodes (c ∷ prefix)) (encodes local) (encodes-some c prefix))

pub encodes-attribute_text : (name value : List ℕ) → encodes (attribute_text name value) ≡ attribute_text (encodes name) (encodes value)
unfolding encode
encodes-attribute_text name value =
    ap (λ x. 0x20 ∷ x)
    (encodes-append name (0x3D ∷ 0x22 ∷ (flat_map in_value value ++ 0x22 ∷ []))
    ∙ ap (λ x. encodes name ++ 0x3D ∷ 0x22 ∷ x)
    (encodes-append (flat_map in_value value) (0x22 ∷ [])
    ∙ ap (λ x. x ++ 0x22 ∷ []) (sym (flat_map-encodes in_value in_value-IsAsciiEscape value))))

encodes-start_text : (state : PenState) (name : List ℕ) → encodes (start_text state name) ≡ start_text state (encodes name)
unfolding encode
encodes-start_text state name =
    encodes-append (lead_in state) (0x3C ∷ name) ∙ ap (λ x. x ++ 0x3C ∷ encodes name) (encodes-lead_in state)

encodes-content_text : (state : PenState) (characters : List ℕ) → encodes (content_text state characters) ≡ content_text state (encodes characters)
encodes-content_text state [] = refl
encodes-content_text state (c ∷ characters) =
    encodes-append (lead_in state) (flat_map in_text (c ∷ characters))
    ∙ (ap (λ x. x ++ encodes (flat_map in_text (c ∷ characters))) (encodes-lead_in state)
    ∙ (ap (λ x. lead_in state ++ x) (sym (flat_map-encodes in_text in_text-IsAsciiEscape (c ∷ characters)))
    ∙ sym (content_text-some state (encodes (c ∷ characters)) (encodes-some c characters))))

encodes-end_text : (state : PenState) (name : List ℕ) → encodes (end_text state name) ≡ end_text state (encodes name)
unfolding encode
encodes-end_text Fresh name = encodes-end_tag name
encodes-end_text InsideTag name = refl
encodes-end_text PastTag name = encodes-end_tag name

-- What a call appends is the UTF-8 of what it appends in characters.
pub encodes-appended_by : (state : PenState) (call : Call) → encodes (appended_by state call) ≡ appended_by state (encoded call)
unfolding encode
encodes-appended_by state (call_start name) = encodes-start_text state name
encodes-appended_by state (call_attribute name value) = encodes-attribute_text name value
encodes-appended_by state (call_declare prefix uri) =
    encodes-attribute_text (declaring_name prefix) uri ∙ ap (λ name. attribute_text name (encodes uri)) (encodes-declaring_name prefix)
encodes-appended_by state (call_text characters) = encodes-content_text state characters
encodes-appended_by state (call_end name) = encodes-end_text state name
encodes-appended_by state call_close = refl

behind_text-some : (state : PenState) (t : List ℕ) → (length t == 0) ≡ false → behind_text state t ≡ PastTag
behind_text-some state [] e = cc
behind_text-some state (c ∷ t) e = refl

behind_text-encodes : (state : PenState) (characters : List ℕ) → behind_text state (encodes characters) ≡ behind_text state characters
behind_text-encodes state [] = refl
behind_text-encodes state (c ∷ characters) = behind_text-some state (encodes (c ∷ characters)) (encodes-some c characters)

state_behind-encoded : (state : PenState) (call : Call) → state_behind state (encoded call) ≡ state_behind state call
state_behind-encoded state (call_start name) = refl
state_behind-encoded state (call_attribute name value) = refl
state_behind-encoded state (call_declare prefix uri) = refl
state_behind-encoded state (call_text characters) = behind_text-encodes state characters
state_behind-encoded state (call_end name) = refl
state_behind-encoded state call_close = refl

pub encodes-appended_by_all : (state : PenState) (calls : List Call) → encodes (appended_by_all state calls) ≡ appended_by_all state (map encoded calls)
encodes-appended_by_all state [] = refl
encodes-appended_by_all state (call ∷ calls) =
    encodes-append (appended_by state call) (appended_by_all (state_behind state call) calls)
    ∙ (ap (λ x. x ++ encodes (appended_by_all (state_behind state call) calls)) (encodes-appended_by state call)
    ∙ ap (λ x. appended_by state (encoded call) ++ x)
    (encodes-appended_by_all (state_behind state call) calls
    ∙ ap (λ s. appended_by_all s (map encoded calls)) (sym (state_behind-encoded state call))))
