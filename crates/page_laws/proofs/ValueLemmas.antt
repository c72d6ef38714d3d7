-- Values have no tag but those of the page.
use Rattle.std.proofs.Common.{◌≡◌, ℕ, ◌-◌, Bool, true, false, List, [], ◌∷◌, ◌++◌, refl, ap, sym, ◌∙◌, codes, decimal}
use Rattle.std.specs.Prelude.{Option, Some, None, find, option_map, option_and_then, position, slice_get, bytes_eq, chars, encode_utf8_all, nat_eq, is_some}
use Rattle.std.specs.Prelude.{if◌then◌else◌}
use Rattle.std.specs.List.{list_all}
use Rattle.std.proofs.lemmas.Option.{same_Some}
use Rattle.inv_base.proofs.EscapeLemmas.{flat_map-encodes}
use Rattle.term_table.specs.declared.terms.Term.{Term}
use Rattle.term_table.specs.SemanticModel.{same_term, terms, is_extension}
use Rattle.term_table.specs.Names.{names, name_of}
use Rattle.inv_terms.specs.declared.values.Value.{Value}
use Rattle.inv_terms.specs.Values.{spelled}
use Rattle.inv_terms.specs.Attachments.{attached_document, base64_in, without_white_space}
use Rattle.inv_listing.specs.Listing.{part_text, term_text}
use Rattle.page_tables.specs.declared.forms.Meanings.{Meanings}
use Rattle.page_tables.specs.declared.forms.Meanings.TheVariants as meanings
use Rattle.page_tables.specs.Tables.{Word, categories, kinds, means, points, units}
use Rattle.page_values.specs.Escapes.{escaped_character, in_page}
use Rattle.page_values.specs.Places.{Place, value_at, size_at}
use Rattle.page_values.specs.Values.{value_text, text_at, name_text, title, start, element, is_percentage, sign, word_in, meaning_of, meaning_text, or_other}
use Rattle.page_values.specs.Values.{kind_word, part_of_attached, media_type, is_saved_value, size_text, saved, size_alone, sized, not_base64, attached}
use Rattle.page_values.specs.Values.{plain, shown, value_of}
use Rattle.page_laws.specs.Tags.{are_bare, each_begins_one, has_tags_alone, values_in}
use Rattle.page_laws.specs.Visits.{of_term}
use Rattle.term_table.specs.declared.contexts.Seat.{Seat}
use Rattle.page_values.proofs.EscapeLemmas.{escaped-IsAsciiEscape}
use Rattle.page_laws.proofs.BareLemmas.{Bare, Bare-append, Bare-escaped, Bare-decimal}
use Rattle.page_laws.proofs.MemberLemmas.{find-is, all-member, slice_get-member}
use Rattle.page_laws.proofs.PlaceLemmas.{IsSafe}
use Rattle.page_laws.proofs.TagLemmas.{Tagged, known, Tagged-nil, Tagged-append, Tagged-bare, Shown, Shown-nil, Shown-after, Shown-start, Shown-saved}

-- ---- texts

pub Bare-in_page : (characters : List ℕ) → Bare (in_page characters)
Bare-in_page characters =
    ap are_bare (sym (flat_map-encodes escaped_character escaped-IsAsciiEscape characters)) ∙ Bare-escaped (encode_utf8_all characters)

pub Bare-text_at : (place : Place) (term : Term) → Bare (text_at place term)
Bare-text_at place term = by (value_at place term)
  where
    by : (o : Option Value) → Bare (elim o [ None ↦ [] | Some value ↦ value_text value ])
    by None = refl
    by (Some value) = Bare-in_page (spelled value)

-- ---- titles

bare-names : list_all are_bare names ≡ true
bare-names = refl

bare-name : (o : Option (List ℕ)) → ((name : List ℕ) → o ≡ Some name → Bare name) → Bare (name_text o)
bare-name None h = refl
bare-name (Some name) h = h name refl

name-at : (o : Option ℕ) (name : List ℕ) → option_and_then (slice_get names) o ≡ Some name → Bare name
name-at None name h = cc
name-at (Some k) name h = all-member are_bare names name bare-names (slice_get-member names k name h)

Bare-part_text : (part : ℕ) → Bare (part_text part)
Bare-part_text part = by (nat_eq part 0)
  where
    by : (q : Bool) → Bare (if q then [] else 0x2D ∷ decimal part)
    by true = refl
    by false = Bare-decimal part

pub Bare-term_text : (term : Term) → Bare (term_text term)
Bare-term_text term = by (is_extension term)
  where
    by : (q : Bool) → Bare (if q then codes "EXT-" ++ decimal (term.number - 1000) else codes "BT-" ++ (decimal term.number ++ part_text term.part))
    by true = Bare-append (codes "EXT-") (decimal (term.number - 1000)) refl (Bare-decimal (term.number - 1000))
    by false = Bare-append (codes "BT-") (decimal term.number ++ part_text term.part) refl
        (Bare-append (decimal term.number) (part_text term.part) (Bare-decimal term.number) (Bare-part_text term.part))

pub Bare-title : (term : Term) → Bare (title term)
Bare-title term =
    Bare-append (term_text term) (name_text (name_of term)) (Bare-term_text term)
    (bare-name (name_of term) (name-at (position (λ row. same_term row.term term) terms)))

pub Shown-element : (term : Term) (text : List ℕ) (seat : Seat) → Tagged text → Shown (element term text) (seat ∷ [])
unfolding has_tags_alone each_begins_one values_in
Shown-element term text seat h =
    Shown-after (start term) (text ++ codes "</bdi>") (seat ∷ []) (Shown-start (title term) seat (Bare-title term))
    (Tagged-append text (codes "</bdi>") h (known _ refl (λ _. refl)))

-- ---- words

Bare-word : (table : List Word) (code : List ℕ) (word : List ℕ) → list_all (λ (w : Word). are_bare w.1) table ≡ true
    → word_in table code ≡ Some word → Bare word
Bare-word table code word all h = by (find (λ (w : Word). bytes_eq (chars w.0) code) table) refl h
  where
    by : (o : Option Word) → find (λ (w : Word). bytes_eq (chars w.0) code) table ≡ o → option_map (λ (w : Word). w.1) o ≡ Some word → Bare word
    by None e k = cc
    by (Some w) e k =
        ap are_bare (sym (same_Some _ _ k))
        ∙ all-member (λ (x : Word). are_bare x.1) table w all (find-is (λ (x : Word). bytes_eq (chars x.0) code) table w e).1

Bare-meaning : (m : Meanings) (code word : List ℕ) → meaning_of m code ≡ Some word → Bare word
Bare-meaning meanings.None code word h = cc
Bare-meaning meanings.Category code word h = Bare-word categories code word refl h
Bare-meaning meanings.Means code word h = Bare-word means code word refl h
Bare-meaning meanings.Unit code word h = Bare-word units code word refl h
Bare-meaning meanings.Point code word h = Bare-word points code word refl h

Tagged-meaning : (o : Option (List ℕ)) → ((word : List ℕ) → o ≡ Some word → Bare word) → Tagged (meaning_text o)
unfolding has_tags_alone each_begins_one values_in
Tagged-meaning None h = Tagged-nil
Tagged-meaning (Some word) h = Tagged-append (codes " <i>") (word ++ codes "</i>") (known _ refl (λ _. refl))
    (Tagged-append word (codes "</i>") (Tagged-bare word (h word refl)) (known _ refl (λ _. refl)))

Bare-or_other : (o : Option (List ℕ)) → ((word : List ℕ) → o ≡ Some word → Bare word) → Bare (or_other o)
Bare-or_other None h = refl
Bare-or_other (Some word) h = h word refl

pub Bare-kind_word : (code : List ℕ) → Bare (kind_word code)
Bare-kind_word code = Bare-or_other (word_in kinds code) (λ word e. Bare-word kinds code word refl e)

-- ---- attached documents

Bare-size : (size : ℕ) → Bare (size_text size)
Bare-size size = Bare-append (decimal size) (codes " bytes") (Bare-decimal size) refl

module _ (place : Place) (seat : Seat) where
  Shown-saved_at : (text : List ℕ) (size : ℕ) → Bare (encode_utf8_all (without_white_space text)) → Shown (saved place text size) (seat ∷ [])
  Shown-saved_at text size h =
      Shown-saved (title attached_document) (text_at place (part_of_attached 2)) (text_at place (part_of_attached 1))
      (encode_utf8_all (without_white_space text)) (size_text size) seat (Bare-title attached_document) (Bare-text_at place (part_of_attached 2))
      (Bare-text_at place (part_of_attached 1)) h (Tagged-bare (size_text size) (Bare-size size))

  Shown-sized : (text : List ℕ) (size : ℕ) → Bare (encode_utf8_all (without_white_space text)) → Shown (sized place text size) (seat ∷ [])
  Shown-sized text size h = by (is_saved_value (media_type place))
    where
      by : (q : Bool) → Shown (if q then saved place text size else size_alone size) (seat ∷ [])
      by true = Shown-saved_at text size h
      by false = Shown-element attached_document (size_text size) seat (Tagged-bare (size_text size) (Bare-size size))

  Shown-attached : (text : List ℕ) → ((size : ℕ) → size_at place ≡ Some size → Bare (encode_utf8_all (without_white_space text)))
      → Shown (attached place text) (seat ∷ [])
  Shown-attached text h = by (size_at place) refl
    where
      by : (o : Option ℕ) → size_at place ≡ o → Shown (elim o [ None ↦ not_base64 | Some size ↦ sized place text size ]) (seat ∷ [])
      by None e = Shown-element attached_document (codes "not base64") seat (Tagged-bare (codes "not base64") refl)
      by (Some size) e = Shown-sized text size (h size e)

-- ---- values

Tagged-sign : (q : Bool) → Tagged (sign q)
Tagged-sign true = Tagged-bare (0xC2 ∷ 0xA0 ∷ 0x25 ∷ []) refl
Tagged-sign false = Tagged-nil

pub Shown-plain : (term : Term) (m : Meanings) (value : Value) (seat : Seat) → Shown (plain term m value) (seat ∷ [])
Shown-plain term m value seat =
    Shown-after (element term (value_text value)) _ (seat ∷ [])
    (Shown-element term (value_text value) seat (Tagged-bare _ (Bare-in_page (spelled value))))
    (Tagged-append (sign (is_percentage value)) _ (Tagged-sign (is_percentage value))
    (Tagged-meaning (meaning_of m (spelled value)) (λ word e. Bare-meaning m (spelled value) word e)))

pub Shown-shown : (place : Place) (term : Term) (m : Meanings) (value : Value) (seat : Seat) → IsSafe place → value_at place term ≡ Some value
    → Shown (shown place term m value) (seat ∷ [])
Shown-shown place term m value seat safe v = by (base64_in value) refl
  where
    by : (o : Option (List ℕ)) → base64_in value ≡ o → Shown (elim o [ None ↦ plain term m value | Some text ↦ attached place text ]) (seat ∷ [])
    by None e = Shown-plain term m value seat
    by (Some text) e = Shown-attached place seat text (λ size s. safe term value text size v e s)

pub Shown-value_of : (place : Place) (term : Term) (m : Meanings) → IsSafe place → Shown (value_of place term m) (of_term place term)
Shown-value_of place term m safe = by (value_at place term) refl
  where
    by : (o : Option Value) → value_at place term ≡ o
        → Shown (elim o [ None ↦ [] | Some value ↦ shown place term m value ])
        (if is_some o then record { term = term; context = place.context } ∷ [] else [])
    by None e = Shown-nil
    by (Some value) e = Shown-shown place term m value (record { term = term; context = place.context }) safe e
