-- What begins with a tag that canonical text writes is its token.
use Rattle.std.proofs.Common.{◌≡◌, ℕ, suc, ◌+◌, ◌<◌, ◌≤◌, Bool, true, false, not, ◌&&◌, ◌||◌, ◌==◌, List, [], ◌∷◌, ◌++◌, length, take, drop, refl, sym, ap, ◌∙◌}
use Rattle.std.proofs.Common.{arith, Option, Some, None, Result, Ok, Err, chars, encode_utf8_all}
use Rattle.std.specs.List.{list_all, flat_map}
use Rattle.std.specs.Str.{is_utf8}
use Rattle.std.proofs.Math.Seq.{take-append_seam, drop-append_seam}
use Rattle.std.proofs.lemmas.List.{append-nil}
use Rattle.std.proofs.lemmas.List.Folds.{list_all-append}
use Rattle.std.proofs.lemmas.Str.{encodes-append, encode_ascii}
use lib.Utf8.{encodes}
use Rattle.inv_base.specs.Characters.{is_char, is_white_space}
use Rattle.inv_base.proofs.TextLemmas.{both}
use Rattle.xml_tokens.specs.declared.kind.XmlKind.{XmlKind}
use Rattle.xml_tokens.specs.declared.kind.XmlKind.TheVariants.{NotUtf8, BadChar, BadMarkup, BadReference, TagTooLong}
use Rattle.xml_tokens.specs.Searches.{is_quote, TagEnd, behind, none_within, none_yet}
use Rattle.xml_tokens.specs.WrittenNames.{is_qname, ends_name, name_at_front}
use Rattle.xml_tokens.specs.Markup.{Written, Token, a_start_tag, an_end_tag, if_right}
use Rattle.xml_tokens.specs.Tags.{Inside, tag_inside, tag_with, start_tag, end_tag, tag}
use Rattle.xml_tokens.specs.Beginnings.{Beginning, good, bad, later, beginning, tag_at, markup_at, extent, of_length, greatest_tag}
use Rattle.xml_tokens.specs.declared.beginning.Position.{Position}
use Rattle.xml_write.specs.Escapes.{in_value}
use Rattle.xml_laws.proofs.EncodedLemmas.{are_chars, chars-back, utf8-back}
use Rattle.xml_laws.proofs.SplitLemmas.{before-front, before-all}
use Rattle.xml_laws.proofs.TextTokenLemmas.{elim-false}
use Rattle.xml_laws.proofs.ValueLemmas.{bytes_of_value, value-chars}
use Rattle.xml_laws.proofs.AttributeLemmas.{may_name, IsWrittenName, not_false, or_false, attribute_bytes, written_bytes, AreWritten, tag_close, reads-inside}
use Rattle.xml_laws.proofs.AttributeLemmas.{name-ends}
use Rattle.xml_laws.proofs.TagLemmas.{Passes, passes-plain, passes-append, passes-written, passes-close, passes-name, tag-ends}

-- Bytes of Chars in UTF-8.
pub record IsText (bytes : List ℕ) : Type 0 where
  pub characters : List ℕ
  pub chars : are_chars characters ≡ true
  pub encoded : bytes ≡ encode_utf8_all characters

pub text-append : (a b : List ℕ) → IsText a → IsText b → IsText (a ++ b)
text-append a b p q = record {
  characters = p.characters ++ q.characters;
  chars = list_all-append is_char p.characters q.characters ∙ (ap (λ t. t && are_chars q.characters) p.chars ∙ q.chars);
  encoded = ap (λ x. x ++ b) p.encoded ∙ (ap (λ x. encode_utf8_all p.characters ++ x) q.encoded ∙ sym (encodes-append p.characters q.characters));
}

pub text-none : IsText []
text-none = record { characters = []; chars = refl; encoded = refl }

pub text-byte : (b : ℕ) (bytes : List ℕ) → b < 128 → is_char b ≡ true → IsText bytes → IsText (b ∷ bytes)
text-byte b bytes l h p = record {
  characters = b ∷ p.characters;
  chars = ap (λ t. t && are_chars p.characters) h ∙ p.chars;
  encoded = ap (λ x. b ∷ x) p.encoded ∙ ap (λ x. x ++ encode_utf8_all p.characters) (sym (encode_ascii b l));
}

text-name : (name : List ℕ) → IsWrittenName name → IsText name
text-name name n = record { characters = n.characters; chars = n.chars; encoded = n.encoded }

text-attribute : (name value : List ℕ) → IsWrittenName name → are_chars value ≡ true → IsText (attribute_bytes name (bytes_of_value value))
unfolding is_char
text-attribute name value n v =
    let escaped : IsText (bytes_of_value value) = record { characters = flat_map in_value value; chars = value-chars value v; encoded = refl } in
    text-byte 0x20 _ (omega arith) refl
    (text-append name _ (text-name name n)
    (text-byte 0x3D _ (omega arith) refl
    (text-byte 0x22 _ (omega arith) refl (text-append (bytes_of_value value) (0x22 ∷ []) escaped (text-byte 0x22 [] (omega arith) refl text-none)))))

text-written : (attributes : List Written) → AreWritten attributes → IsText (written_bytes attributes)
text-written [] w = text-none
text-written (a ∷ attributes) w = text-append (attribute_bytes a.name (bytes_of_value a.value)) (written_bytes attributes)
    (text-attribute a.name a.value w.0 w.1) (text-written attributes w.2)

text-close : (is_empty : Bool) → IsText (tag_close is_empty)
unfolding is_char
text-close true = text-byte 0x2F [] (omega arith) refl text-none
text-close false = text-none

extent-text : (n : ℕ) (inside : List ℕ) (grammar : List ℕ → Result Token XmlKind) → IsText inside → extent n inside grammar ≡ of_length n (grammar inside)
unfolding extent
extent-text n inside grammar t =
    let utf8 : is_utf8 inside ≡ true = ap is_utf8 t.encoded ∙ utf8-back t.characters t.chars in
    let all : list_all is_char (chars inside) ≡ true = ap (λ x. list_all is_char (chars x)) t.encoded ∙
    (ap (list_all is_char) (chars-back t.characters t.chars) ∙ t.chars) in
    at (is_utf8 inside) (list_all is_char (chars inside)) utf8 all
  where
    at : (a b : Bool) → a ≡ true → b ≡ true
        → (elim a [ false ↦ bad NotUtf8 n | true ↦ elim b [ false ↦ bad BadChar n | true ↦ of_length n (grammar inside) ] ]) ≡ of_length n (grammar inside)
    at a b p q =
        ap (λ t. elim t [ false ↦ bad NotUtf8 n | true ↦ elim b [ false ↦ bad BadChar n | true ↦ of_length n (grammar inside) ] ]) p
        ∙ ap (λ t. elim t [ false ↦ bad BadChar n | true ↦ of_length n (grammar inside) ]) q

abbrev at_end : List ℕ → TagEnd → Beginning
at_end bytes e = elim e [ none_within ↦ bad TagTooLong greatest_tag | none_yet ↦ later | (behind n) ↦ extent (n + 2) (take n bytes) tag ]

-- What stands between `<` and `>`.
pub record IsTagText (bytes : List ℕ) : Type 0 where
  pub text : IsText bytes
  pub passes : Passes None bytes
  pub short : length bytes + 2 ≤ greatest_tag
  pub first : ℕ
  pub more : List ℕ
  pub is : bytes ≡ first ∷ more
  pub no_exclamation : (first == 0x21) ≡ false
  pub no_question : (first == 0x3F) ≡ false

pub tag-begins : (bytes : List ℕ) (token : Token) → IsTagText bytes → tag bytes ≡ Ok token → (position : Position) (rest : List ℕ)
    → beginning position true (0x3C ∷ (bytes ++ (0x3E ∷ rest))) ≡ good token (length bytes + 2)
unfolding beginning
tag-begins bytes token t grammar position rest =
    let whole = bytes ++ (0x3E ∷ rest) in
    let first : whole ≡ t.first ∷ (t.more ++ (0x3E ∷ rest)) = ap (λ x. x ++ (0x3E ∷ rest)) t.is in
    ap (markup_at position) first
    ∙ (elim-false (t.first == 0x21) _ _ t.no_exclamation
    ∙ (elim-false (t.first == 0x3F) _ _ t.no_question
    ∙ (ap tag_at (sym first)
    ∙ (ap (at_end whole) (tag-ends bytes rest t.passes t.short)
    ∙ (ap (λ x. extent (length bytes + 2) x tag) (take-append_seam bytes (0x3E ∷ rest))
    ∙ (extent-text (length bytes + 2) bytes tag t.text ∙ ap (of_length (length bytes + 2)) grammar))))))

-- start tags and empty-element tags
abbrev pub start_bytes : List ℕ → List Written → Bool → List ℕ
start_bytes name attributes is_empty = name ++ (written_bytes attributes ++ tag_close is_empty)

name-front : (name : List ℕ) (n : IsWrittenName name) (attributes : List Written) (is_empty : Bool) →
    name_at_front (start_bytes name attributes is_empty) ≡ name
unfolding is_white_space
name-front name n [] true = before-front ends_name name 0x2F [] (name-ends name n.plain) refl
name-front name n [] false = ap name_at_front (append-nil name) ∙ before-all ends_name name (name-ends name n.plain)
name-front name n (a ∷ attributes) is_empty =
    let value = bytes_of_value a.value in
    let more = a.name ++ (0x3D ∷ (0x22 ∷ (value ++ (0x22 ∷ [])))) in
    before-front ends_name name 0x20 ((more ++ written_bytes attributes) ++ tag_close is_empty) (name-ends name n.plain) refl

abbrev start_with : List ℕ → Option Inside → Result Token XmlKind
start_with name x = elim x [ None ↦ Err BadMarkup | (Some inside) ↦ tag_with name inside ]

abbrev with_attributes : List ℕ → Bool → Option (List Written) → Result Token XmlKind
with_attributes name is_empty x = elim x [
  | None ↦ Err BadReference
  | (Some attributes) ↦ Ok (a_start_tag (record { name = name; attributes = attributes; is_empty = is_empty }))
]

start-grammar : (name : List ℕ) (n : IsWrittenName name) (attributes : List Written) (is_empty : Bool) → AreWritten attributes
    → start_tag (start_bytes name attributes is_empty) ≡ Ok (a_start_tag (record { name = name; attributes = attributes; is_empty = is_empty }))
unfolding start_tag
start-grammar name n attributes is_empty w =
    let bytes = start_bytes name attributes is_empty in
    let r = reads-inside attributes is_empty w in
    ap (λ x. elim (is_qname x) [ false ↦ Err BadMarkup | true ↦ start_with x (tag_inside 0 (drop (length x) bytes)) ]) (name-front name n attributes is_empty)
    ∙ (ap (λ t. elim t [ false ↦ Err BadMarkup | true ↦ start_with name (tag_inside 0 (drop (length name) bytes)) ]) n.qname
    ∙ (ap (λ x. start_with name (tag_inside 0 x)) (drop-append_seam name (written_bytes attributes ++ tag_close is_empty))
    ∙ (ap (start_with name) r.is ∙ ap (with_attributes name is_empty) r.says)))

-- the first byte of a name begins neither other markup nor an end tag
first-plain : (name : List ℕ) (n : IsWrittenName name) → ((n.first == 0x21) ≡ false) × ((n.first == 0x3F) ≡ false) × ((n.first == 0x2F) ≡ false)
first-plain name n =
    let p = both (may_name n.first) (list_all may_name n.more) (ap (list_all may_name) (sym n.is) ∙ n.plain) in
    let q = both (not (ends_name n.first)) _ p.0 in
    let r = both (not (is_quote n.first)) _ q.1 in
    let s = both (not (n.first == 0x3E)) _ r.1 in
    let t = both (not (n.first == 0x21)) (not (n.first == 0x3F)) s.1 in
    let e = or_false (is_white_space n.first) (n.first == 0x3D || n.first == 0x2F) (not_false (ends_name n.first) q.0) in
    (not_false (n.first == 0x21) t.0, not_false (n.first == 0x3F) t.1, (or_false (n.first == 0x3D) (n.first == 0x2F) e.1).1)

pub start-begins : (name : List ℕ) (n : IsWrittenName name) (attributes : List Written) (is_empty : Bool) → AreWritten attributes →
    length (start_bytes name attributes is_empty) + 2 ≤ greatest_tag
    → (position : Position) (rest : List ℕ)
    → beginning position true (0x3C ∷ (start_bytes name attributes is_empty ++ (0x3E ∷ rest))) ≡ good
    (a_start_tag (record { name = name; attributes = attributes; is_empty = is_empty })) (length (start_bytes name attributes is_empty) + 2)
start-begins name n attributes is_empty w short position rest =
    let behind_name = written_bytes attributes ++ tag_close is_empty in
    let f = first-plain name n in
    let is : start_bytes name attributes is_empty ≡ n.first ∷ (n.more ++ behind_name) = ap (λ x. x ++ behind_name) n.is in
    let token = a_start_tag (record { name = name; attributes = attributes; is_empty = is_empty }) in
    tag-begins (start_bytes name attributes is_empty) token (record {
      text = text-append name behind_name (text-name name n)
          (text-append (written_bytes attributes) (tag_close is_empty) (text-written attributes w) (text-close is_empty));
      passes = passes-append None name behind_name (passes-name name n.plain)
          (passes-append None (written_bytes attributes) (tag_close is_empty) (passes-written attributes w) (passes-close is_empty));
      short = short;
      first = n.first;
      more = n.more ++ behind_name;
      is = is;
      no_exclamation = f.0;
      no_question = f.1;
    })
    (ap tag is ∙ (elim-false (n.first == 0x2F) _ _ f.2 ∙ (ap start_tag (sym is) ∙ start-grammar name n attributes is_empty w)))
    position rest

-- end tags
end-grammar : (name : List ℕ) (n : IsWrittenName name) → end_tag name ≡ Ok (an_end_tag name)
unfolding end_tag
end-grammar name n =
    let all : drop (length name) name ≡ [] = ap (drop (length name)) (sym (append-nil name)) ∙ drop-append_seam name [] in
    ap (λ x. if_right (is_qname x && list_all is_white_space (drop (length x) name)) (an_end_tag x) BadMarkup)
    (before-all ends_name name (name-ends name n.plain))
    ∙ (ap (λ t. if_right (t && list_all is_white_space (drop (length name) name)) (an_end_tag name) BadMarkup) n.qname
    ∙ ap (λ x. if_right (list_all is_white_space x) (an_end_tag name) BadMarkup) all)

pub end-begins : (name : List ℕ) (n : IsWrittenName name) → length name + 3 ≤ greatest_tag → (position : Position) (rest : List ℕ)
    → beginning position true (0x3C ∷ (0x2F ∷ (name ++ (0x3E ∷ rest)))) ≡ good (an_end_tag name) (length name + 3)
unfolding is_char
end-begins name n short position rest =
    let e : suc (length name) + 2 ≡ length name + 3 = omega arith in
    tag-begins (0x2F ∷ name) (an_end_tag name) (record {
      text = text-byte 0x2F name (omega arith) refl (text-name name n);
      passes = passes-append None (0x2F ∷ []) name (passes-plain (0x2F ∷ []) refl) (passes-name name n.plain);
      short = omega arith;
      first = 0x2F;
      more = name;
      is = refl;
      no_exclamation = refl;
      no_question = refl;
    })
    (end-grammar name n) position rest
    ∙ ap (good (an_end_tag name)) e
