-- How texts of the grammar are read.
use Rattle.std.proofs.Common.{◌≡◌, ℕ, ◌+◌, ◌-◌, suc, ◌<◌, ◌≤◌, Bool, true, false, ◌&&◌, ◌||◌, List, [], ◌∷◌, ◌++◌, length, Option, Some, None, Ok}
use Rattle.std.proofs.Common.{refl, ap, ap₂, sym, ◌∙◌, subst, arith, append_assoc, append-nil, length-append, true≢false, flat_map}
use Rattle.std.proofs.lemmas.Bool.{and_parts, not-true}
use Rattle.std.specs.Prelude.{encode_utf8}
use lib.Utf8.{scalar}
use Rattle.json_reading.specs.declared.item.Container.{Container}
use Rattle.json_reading.specs.declared.item.Container.TheVariants as container
use Rattle.json_reading.specs.declared.item.Item.{Item}
use Rattle.json_reading.specs.declared.item.ItemKind.{ItemKind}
use Rattle.json_reading.specs.declared.item.ItemKind.TheVariants as kinds
use Rattle.json_reading.specs.declared.item.Span.{Span}
use Rattle.json_reading.specs.declared.mode.Inside.TheVariants as inside
use Rattle.json_reading.specs.declared.mode.Letters.{Letters}
use Rattle.json_reading.specs.declared.mode.Letters.TheVariants as letters
use Rattle.json_reading.specs.declared.mode.Mode.{Mode}
use Rattle.json_reading.specs.declared.mode.Mode.TheVariants as mode
use Rattle.json_reading.specs.declared.mode.Role.{Role}
use Rattle.json_reading.specs.declared.mode.Role.TheVariants as role
use Rattle.json_reading.specs.declared.reader.Open.{Open}
use Rattle.json_reading.specs.Words.{letter, longer}
use Rattle.json_reading.specs.Words as words
use Rattle.json_reading.specs.Turns.{value_begun, plain_begun, name_begun, at_first_member, at_name, at_colon, in_word, lettered, turn, at_start, at_byte}
use Rattle.json_reading.specs.Reading.{State, start, number_ended, act, first_of, kind_of, begun, head, span, whole, put, step, run, is_behind}
use Rattle.json_reading.specs.Reading.{ended_behind, reading_whole, reading}
use Rattle.json_grammar.specs.Strings.{Piece, unescaped, short, long, needs_escape, piece_text, is_piece, is_escape, quoted, are_pieces, has_escape}
use Rattle.json_grammar.specs.Grammar.{Word, true_word, false_word, null_word, word_text, Name, Value, word, number, string, array, object, Elements}
use Rattle.json_grammar.specs.Grammar.{no_more, element}
use Rattle.json_grammar.specs.Grammar.{comma_text, name_text, value_text, elements_text, Text, mark_text, text_bytes, are_spaces, is_name, is_value}
use Rattle.json_grammar.specs.Grammar.{are_elements, is_text}
use Rattle.json_grammar.specs.Grammar.{depth, elements_depth}
use Rattle.json_grammar.specs.Items.{item, string_span, name_span, word_kind, name_at, value_at, value_items, elements_items, text_items, Derives}
use Rattle.json_grammar.proofs.Outcomes.{outcome, leads_on, by_one, placed, Idles, spaces_read, idle_value, idle_first_item, idle_first_member, idle_name}
use Rattle.json_grammar.proofs.Outcomes.{idle_colon}
use Rattle.json_grammar.proofs.Outcomes.{idle_behind, start_read, Follows, comma_ends, bracket_ends, brace_ends, spaces_follow}
use Rattle.json_grammar.proofs.NumberReading.{number_is_read}
use Rattle.read_back_laws.proofs.States.{state, text_mode, moved}
use Rattle.read_back_laws.proofs.Strings.{inner, Passes, short_passes, long_passes, itself_passes, or-false, or-true, or-assoc, quoted_value_read, quoted_name_read}
use Rattle.read_back_laws.proofs.Values.{Ready, ready_value, ready_first, string_begins, bracket_begins, opening, closing, is_object, here_of, opened, in_place}
use Rattle.read_back_laws.proofs.Values.{comma_step, first_closes, behind_closes, put_whole, text_is_whole}

-- ---- strings

module _ (deepest : ℕ) (start : ℕ) (r : Role) (name : Option Span) (around : List Open) (items : List Item) where
  abbrev Goes : List ℕ → Bool → Bool → Type 0
  Goes bytes before after = Passes deepest start r name around items bytes before after

  piece_passes : (p : Piece) (escaped : Bool) → is_piece p ≡ true → Goes (piece_text p) escaped (escaped || is_escape p)
  piece_passes (unescaped c) escaped h =
      let parts = and_parts (scalar c) _ h in
      subst (λ b. Goes (encode_utf8 c) escaped b) (sym (or-false escaped))
      (itself_passes deepest start r name around items c escaped (not-true (needs_escape c) parts.1) parts.0)
  piece_passes (short letter) escaped h =
      subst (λ b. Goes (0x5C ∷ letter ∷ []) escaped b) (sym (or-true escaped)) (short_passes deepest start r name around items letter escaped h)
  piece_passes (long a b c d) escaped h =
      let first = and_parts _ _ h in
      let second = and_parts _ _ first.1 in
      let third = and_parts _ _ second.1 in
      subst (λ t. Goes (0x5C ∷ 0x75 ∷ a ∷ b ∷ c ∷ d ∷ []) escaped t) (sym (or-true escaped))
      (long_passes deepest start r name around items a b c d escaped first.0 second.0 third.0 third.1)

  pieces_pass : (pieces : List Piece) (escaped : Bool) → are_pieces pieces ≡ true → Goes (flat_map piece_text pieces) escaped (escaped || has_escape pieces)
  pieces_pass [] escaped h at more =
      moved deepest at (at + 0) more _ (omega arith) ∙ ap (λ b. run deepest (at + 0) more (inner deepest start r name around items b)) (sym (or-false escaped))
  pieces_pass (p ∷ pieces) escaped h at more =
      let parts = and_parts (is_piece p) (are_pieces pieces) h in
      let first = piece_text p in
      let others = flat_map piece_text pieces in
      ap (λ x. run deepest at x (inner deepest start r name around items escaped)) (append_assoc first others more)
      ∙ (piece_passes p escaped parts.0 at (others ++ more)
      ∙ (pieces_pass pieces (escaped || is_escape p) parts.1 (at + length first) more
      ∙ (moved deepest _ _ more _ (omega (arith, length-append first others))
      ∙ ap (λ b. run deepest (at + length (first ++ others)) more (inner deepest start r name around items b))
      (or-assoc escaped (is_escape p) (has_escape pieces)))))

quoted-before : (pieces : List Piece) (more : List ℕ) → quoted pieces ++ more ≡ 0x22 ∷ (flat_map piece_text pieces ++ 0x22 ∷ more)
quoted-before pieces more = ap (λ x. 0x22 ∷ x) (append_assoc (flat_map piece_text pieces) (0x22 ∷ []) more)

quoted-length : (pieces : List Piece) (at : ℕ) → at + 1 + length (flat_map piece_text pieces) + 1 ≡ at + length (quoted pieces)
quoted-length pieces at = omega (arith, length-append (flat_map piece_text pieces) (0x22 ∷ []))

module _ (deepest : ℕ) (m : Mode) (name : Option Span) (around : List Open) (items : List Item) (at : ℕ) (pieces : List Piece) (more : List ℕ) where
  string_is_read : Ready deepest m → are_pieces pieces ≡ true
      → outcome deepest at (quoted pieces ++ more) (state m name around items)
      ≡ outcome deepest (at + length (quoted pieces)) more (state mode.Behind None around (items ++ item kinds.Text name (string_span at pieces) 0 ∷ []))
  string_is_read ready h =
      leads_on deepest at (quoted pieces) more (state m name around items) _
      (ap (λ x. run deepest at x (state m name around items)) (quoted-before pieces more)
      ∙ (quoted_value_read deepest m name around items (flat_map piece_text pieces) (has_escape pieces) at more
      (pieces_pass deepest at role.Value name around items pieces false h) (string_begins deepest m ready name around items at)
      ∙ ap (λ n. run deepest n more
      (state mode.Behind None around (items ++ item kinds.Text name (record { at = at; end = n; escaped = has_escape pieces }) 0 ∷ [])))
      (quoted-length pieces at)))

  name_is_read : step deepest at 0x22 (state m name around items) ≡ Ok (state (text_mode at false role.Name inside.Plain) name around items)
      → are_pieces pieces ≡ true
      → outcome deepest at (quoted pieces ++ more) (state m name around items)
      ≡ outcome deepest (at + length (quoted pieces)) more (state mode.Colon (Some (string_span at pieces)) around items)
  name_is_read begins h =
      leads_on deepest at (quoted pieces) more (state m name around items) _
      (ap (λ x. run deepest at x (state m name around items)) (quoted-before pieces more)
      ∙ (quoted_name_read deepest m name around items (flat_map piece_text pieces) (has_escape pieces) at more
      (pieces_pass deepest at role.Name name around items pieces false h) begins
      ∙ ap (λ n. run deepest n more (state mode.Colon (Some (record { at = at; end = n; escaped = has_escape pieces })) around items))
      (quoted-length pieces at)))

-- ---- words

module _ (deepest : ℕ) (m : Mode) (ready : Ready deepest m) (name : Option Span) (around : List Open) (items : List Item) (at : ℕ) where
  abbrev spelling : Letters → State
  spelling l = state (mode.Word (record { start = at; letters = l })) name around items

  word_begins : (step deepest at 0x74 (state m name around items) ≡ Ok (spelling letters.T))
      × ((step deepest at 0x66 (state m name around items) ≡ Ok (spelling letters.F)) × (step deepest at 0x6E (state m name around items)
      ≡ Ok (spelling letters.N)))
  unfolding value_begun plain_begun act
  word_begins = (
    ready at 0x74 name around items refl refl refl,
    (ready at 0x66 name around items refl refl refl, ready at 0x6E name around items refl refl refl),
  )

  abbrev told_word : ItemKind → ℕ → State
  told_word kind end = state mode.Behind None around (items ++ item kind name (span at end) 0 ∷ [])

  true_steps : (n : ℕ) → (step deepest n 0x72 (spelling letters.T) ≡ Ok (spelling letters.Tr))
      × ((step deepest n 0x75 (spelling letters.Tr) ≡ Ok (spelling letters.Tru)) × (step deepest n 0x65 (spelling letters.Tru)
      ≡ Ok (told_word kinds.True (n + 1))))
  unfolding step number_ended turn in_word lettered letter longer words.word_kind act
  true_steps n = (refl, (refl, refl))

  false_steps : (n : ℕ) → (step deepest n 0x61 (spelling letters.F) ≡ Ok (spelling letters.Fa))
      × ((step deepest n 0x6C (spelling letters.Fa) ≡ Ok (spelling letters.Fal)) × ((step deepest n 0x73 (spelling letters.Fal) ≡ Ok (spelling letters.Fals))
      × (step deepest n 0x65 (spelling letters.Fals) ≡ Ok (told_word kinds.False (n + 1)))))
  unfolding step number_ended turn in_word lettered letter longer words.word_kind act
  false_steps n = (refl, (refl, (refl, refl)))

  null_steps : (n : ℕ) → (step deepest n 0x75 (spelling letters.N) ≡ Ok (spelling letters.Nu))
      × ((step deepest n 0x6C (spelling letters.Nu) ≡ Ok (spelling letters.Nul)) × (step deepest n 0x6C (spelling letters.Nul)
      ≡ Ok (told_word kinds.Null (n + 1))))
  unfolding step number_ended turn in_word lettered letter longer words.word_kind act
  null_steps n = (refl, (refl, refl))

  told_there : (kind : ItemKind) (end place : ℕ) (more : List ℕ) → end ≡ place
      → outcome deepest end more (told_word kind end) ≡ outcome deepest place more (told_word kind place)
  told_there kind end place more e = ap (λ n. outcome deepest n more (told_word kind n)) e

  word_is_read : (w : Word) (more : List ℕ) → outcome deepest at (word_text w ++ more) (state m name around items)
      ≡ outcome deepest (at + length (word_text w)) more (told_word (word_kind w) (at + length (word_text w)))
  word_is_read true_word more =
      by_one deepest at 0x74 (0x72 ∷ 0x75 ∷ 0x65 ∷ more) _ _ word_begins.0
      ∙ (by_one deepest (at + 1) 0x72 (0x75 ∷ 0x65 ∷ more) _ _ (true_steps (at + 1)).0
      ∙ (by_one deepest (at + 1 + 1) 0x75 (0x65 ∷ more) _ _ (true_steps (at + 1 + 1)).1.0
      ∙ (by_one deepest (at + 1 + 1 + 1) 0x65 more _ _ (true_steps (at + 1 + 1 + 1)).1.1
      ∙ told_there kinds.True (at + 1 + 1 + 1 + 1) (at + 4) more (omega arith))))
  word_is_read false_word more =
      by_one deepest at 0x66 (0x61 ∷ 0x6C ∷ 0x73 ∷ 0x65 ∷ more) _ _ word_begins.1.0
      ∙ (by_one deepest (at + 1) 0x61 (0x6C ∷ 0x73 ∷ 0x65 ∷ more) _ _ (false_steps (at + 1)).0
      ∙ (by_one deepest (at + 1 + 1) 0x6C (0x73 ∷ 0x65 ∷ more) _ _ (false_steps (at + 1 + 1)).1.0
      ∙ (by_one deepest (at + 1 + 1 + 1) 0x73 (0x65 ∷ more) _ _ (false_steps (at + 1 + 1 + 1)).1.1.0
      ∙ (by_one deepest (at + 1 + 1 + 1 + 1) 0x65 more _ _ (false_steps (at + 1 + 1 + 1 + 1)).1.1.1
      ∙ told_there kinds.False (at + 1 + 1 + 1 + 1 + 1) (at + 5) more (omega arith)))))
  word_is_read null_word more =
      by_one deepest at 0x6E (0x75 ∷ 0x6C ∷ 0x6C ∷ more) _ _ word_begins.1.1
      ∙ (by_one deepest (at + 1) 0x75 (0x6C ∷ 0x6C ∷ more) _ _ (null_steps (at + 1)).0
      ∙ (by_one deepest (at + 1 + 1) 0x6C (0x6C ∷ more) _ _ (null_steps (at + 1 + 1)).1.0
      ∙ (by_one deepest (at + 1 + 1 + 1) 0x6C more _ _ (null_steps (at + 1 + 1 + 1)).1.1
      ∙ told_there kinds.Null (at + 1 + 1 + 1 + 1) (at + 4) more (omega arith))))

-- ---- what stands inside arrays and objects

-- what comes where an element or the end comes next, and behind the comma if there is one
abbrev mode_of : Container → Bool → Mode
mode_of c true = first_of c
mode_of c false = mode.Behind

abbrev led_of : Container → Bool → Mode
led_of c true = first_of c
led_of c false = here_of c

-- where the value itself comes
abbrev value_mode : Container → Bool → Mode
value_mode container.Object first = mode.Value
value_mode container.Array first = led_of container.Array first

ready_there : (deepest : ℕ) (c : Container) (first : Bool) → Ready deepest (value_mode c first)
ready_there deepest container.Object first = ready_value deepest
ready_there deepest container.Array true = ready_first deepest
ready_there deepest container.Array false = ready_value deepest

module _ (deepest index : ℕ) (header : Item) (around : List Open) (items : List Item) where
  abbrev placed_in : Container → Mode → State
  placed_in c m = in_place deepest index header around items c m

  idle_there : (c : Container) (first : Bool) → Idles deepest (placed_in c (mode_of c first))
  idle_there container.Object true = idle_first_member deepest None (opened container.Object index header ∷ around) items
  idle_there container.Array true = idle_first_item deepest None (opened container.Array index header ∷ around) items
  idle_there c false = idle_behind deepest None (opened c index header ∷ around) items

  idle_led : (c : Container) (first : Bool) → Idles deepest (placed_in c (led_of c first))
  idle_led container.Object true = idle_first_member deepest None (opened container.Object index header ∷ around) items
  idle_led container.Array true = idle_first_item deepest None (opened container.Array index header ∷ around) items
  idle_led container.Object false = idle_name deepest None (opened container.Object index header ∷ around) items
  idle_led container.Array false = idle_value deepest None (opened container.Array index header ∷ around) items

  comma_is_read : (c : Container) (first : Bool) (comma : List ℕ) (at : ℕ) (more : List ℕ) → are_spaces comma ≡ true
      → outcome deepest at (comma_text first comma ++ more) (placed_in c (mode_of c first))
      ≡ outcome deepest (at + length (comma_text first comma)) more (placed_in c (led_of c first))
  comma_is_read c true comma at more h = placed deepest at (at + 0) more _ (omega arith)
  comma_is_read c false comma at more h =
      ap (λ x. outcome deepest at x (placed_in c mode.Behind)) (append_assoc comma (0x2C ∷ []) more)
      ∙ (spaces_read deepest (placed_in c mode.Behind) (idle_there c false) comma at (0x2C ∷ more) h
      ∙ (by_one deepest (at + length comma) 0x2C more _ _ (comma_step deepest index header around items c (at + length comma))
      ∙ placed deepest (at + length comma + 1) _ more _ (omega (arith, length-append comma (0x2C ∷ [])))))

  name_begins : (first : Bool) (at : ℕ) → step deepest at 0x22 (placed_in container.Object (led_of container.Object first))
      ≡ Ok (state (text_mode at false role.Name inside.Plain) None (opened container.Object index header ∷ around) items)
  unfolding step number_ended turn at_first_member at_name name_begun act
  name_begins true at = refl
  name_begins false at = refl

  abbrev called : Mode → Option Span → State
  called m name = state m name (opened container.Object index header ∷ around) items

  colon_step : (at : ℕ) (name : Option Span) → step deepest at 0x3A (called mode.Colon name) ≡ Ok (called mode.Value name)
  unfolding step number_ended turn at_colon at_byte act
  colon_step at name = refl

  member_name_is_read : (first : Bool) (n : Name) (at : ℕ) (more : List ℕ) → is_name true (Some n) ≡ true
      → outcome deepest at (name_text (Some n) ++ more) (placed_in container.Object (led_of container.Object first))
      ≡ outcome deepest (at + length (name_text (Some n))) more (called mode.Value (Some (string_span at n.pieces)))
  member_name_is_read first n at more h =
      let parts = and_parts (are_pieces n.pieces) (are_spaces n.before && are_spaces n.behind) h in
      let spaces = and_parts (are_spaces n.before) (are_spaces n.behind) parts.1 in
      let name = Some (string_span at n.pieces) in
      let end = at + length (quoted n.pieces) in
      let colon = end + length n.before in
      ap (λ x. outcome deepest at x (placed_in container.Object (led_of container.Object first)))
      (append_assoc (quoted n.pieces) (n.before ++ 0x3A ∷ n.behind) more
      ∙ ap (λ x. quoted n.pieces ++ x) (append_assoc n.before (0x3A ∷ n.behind) more))
      ∙ (name_is_read deepest (led_of container.Object first) None (opened container.Object index header ∷ around) items at n.pieces
      (n.before ++ 0x3A ∷ (n.behind ++ more)) (name_begins first at) parts.0
      ∙ (spaces_read deepest (called mode.Colon name) (idle_colon deepest name (opened container.Object index header ∷ around) items) n.before end
      (0x3A ∷ (n.behind ++ more)) spaces.0
      ∙ (by_one deepest colon 0x3A (n.behind ++ more) _ _ (colon_step colon name)
      ∙ (spaces_read deepest (called mode.Value name) (idle_value deepest name (opened container.Object index header ∷ around) items) n.behind (colon + 1)
      more spaces.1
      ∙ placed deepest (colon + 1 + length n.behind) _ more _
      (omega (arith, length-append (quoted n.pieces) (n.before ++ 0x3A ∷ n.behind), length-append n.before (0x3A ∷ n.behind)))))))

  name_if_any_is_read : (c : Container) (first : Bool) (name : Option Name) (at : ℕ) (more : List ℕ) → is_name (is_object c) name ≡ true
      → outcome deepest at (name_text name ++ more) (placed_in c (led_of c first))
      ≡ outcome deepest (at + length (name_text name)) more (state (value_mode c first) (name_span at name) (opened c index header ∷ around) items)
  name_if_any_is_read container.Object first (Some n) at more h = member_name_is_read first n at more h
  name_if_any_is_read container.Object first None at more h = absurd (true≢false (sym h))
  name_if_any_is_read container.Array first (Some n) at more h = absurd (true≢false (sym h))
  name_if_any_is_read container.Array first None at more h = placed deepest at (at + 0) more _ (omega arith)

  closes : (c : Container) (first : Bool) (at : ℕ) → step deepest at (closing c) (placed_in c (mode_of c first))
      ≡ Ok (state mode.Behind None around (put items index (whole at (opened c index header) (length items))))
  closes c true at = first_closes deepest index header around items c at
  closes c false at = behind_closes deepest index header around items c at

closing_ends : (c : Container) (more : List ℕ) → Follows (closing c ∷ more)
closing_ends container.Object more = brace_ends
closing_ends container.Array more = bracket_ends

-- behind a value stands what belongs to no number
elements_follow : (es : Elements) (members : Bool) (c : Container) (more : List ℕ) → are_elements members es ≡ true
    → Follows (elements_text false es ++ closing c ∷ more)
elements_follow (no_more space) members c more h = spaces_follow space (closing c ∷ more) h (closing_ends c more)
elements_follow (element comma space name value rest) members c more h =
    let behind = space ++ (name_text name ++ (value_text value ++ elements_text false rest)) in
    subst Follows (sym (append_assoc (comma ++ 0x2C ∷ []) behind (closing c ∷ more) ∙ append_assoc comma (0x2C ∷ []) (behind ++ closing c ∷ more)))
    (spaces_follow comma (0x2C ∷ (behind ++ closing c ∷ more)) (and_parts (are_spaces comma) _ h).0 comma_ends)

-- a value is read wherever one may stand
abbrev IsRead : ℕ → List Open → Value → Type 0
IsRead deepest around v = (m : Mode) → Ready deepest m → (name : Option Span) (items : List Item) (at : ℕ) (more : List ℕ) → Follows more
    → outcome deepest at (value_text v ++ more) (state m name around items)
    ≡ outcome deepest (at + length (value_text v)) more (state mode.Behind None around (items ++ value_items at name v))

-- what is left where the end of an object or array has been read
abbrev closed : Container → ℕ → Item → List Open → ℕ → List Item → State
closed c index header around at items = state mode.Behind None around (put items index (whole at (opened c index header) (length items)))

-- what stands inside an object or array is read up to its end
abbrev AreRead : ℕ → Container → List Open → Elements → Type 0
AreRead deepest c around es = (first : Bool) (index : ℕ) (header : Item) (items : List Item) (at : ℕ) (more : List ℕ)
    → outcome deepest at (elements_text first es ++ closing c ∷ more) (in_place deepest index header around items c (mode_of c first))
    ≡ outcome deepest (at + length (elements_text first es) + 1) more
    (closed c index header around (at + length (elements_text first es)) (items ++ elements_items at first es))

end_is_read : (deepest : ℕ) (c : Container) (around : List Open) (space : List ℕ) → are_spaces space ≡ true → AreRead deepest c around (no_more space)
end_is_read deepest c around space h first index header items at more =
    let end = at + length space in
    spaces_read deepest (in_place deepest index header around items c (mode_of c first)) (idle_there deepest index header around items c first) space at
    (closing c ∷ more) h
    ∙ (by_one deepest end (closing c) more _ _ (closes deepest index header around items c first end)
    ∙ ap (λ x. outcome deepest (end + 1) more (closed c index header around end x)) (sym (append-nil items)))

element_is_read : (deepest : ℕ) (c : Container) (around : List Open) (comma space : List ℕ) (name : Option Name) (value : Value) (rest : Elements)
    → are_spaces comma ≡ true → are_spaces space ≡ true → is_name (is_object c) name ≡ true → are_elements (is_object c) rest ≡ true
    → ((index : ℕ) (header : Item) → IsRead deepest (opened c index header ∷ around) value) → AreRead deepest c around rest
    → AreRead deepest c around (element comma space name value rest)
element_is_read deepest c around comma space name value rest h k l e value_read rest_read first index header items at more =
    let others = elements_text false rest in
    let end = closing c ∷ more in
    let text = elements_text first (element comma space name value rest) in
    let begin_name = name_at at first comma space in
    let begin = value_at at first comma space name in
    let behind = begin + length (value_text value) in
    let news = value_items begin (name_span begin_name name) value in
    let os = opened c index header ∷ around in
    let counted : behind + length others ≡ at + length text = omega (
      arith,
      length-append (comma_text first comma)
          (space ++ (name_text name ++ (value_text value ++ others))),
      length-append space (name_text name ++ (value_text value ++ others)),
      length-append
          (name_text name) (value_text value ++ others),
      length-append (value_text value) others,
    ) in
    ap (λ x. outcome deepest at x (in_place deepest index header around items c (mode_of c first)))
    (append_assoc (comma_text first comma) (space ++ (name_text name ++ (value_text value ++ others))) end
    ∙ ap (λ x. comma_text first comma ++ x) (append_assoc space (name_text name ++ (value_text value ++ others)) end
    ∙ ap (λ x. space ++ x) (append_assoc (name_text name) (value_text value ++ others) end
    ∙ ap (λ x. name_text name ++ x) (append_assoc (value_text value) others end))))
    ∙ (comma_is_read deepest index header around items c first comma at (space ++ (name_text name ++ (value_text value ++ (others ++ end)))) h
    ∙ (spaces_read deepest (in_place deepest index header around items c (led_of c first)) (idle_led deepest index header around items c first) space
    (at + length (comma_text first comma)) (name_text name ++ (value_text value ++ (others ++ end))) k
    ∙ (name_if_any_is_read deepest index header around items c first name begin_name (value_text value ++ (others ++ end)) l
    ∙ (value_read index header (value_mode c first) (ready_there deepest c first) (name_span begin_name name) items begin (others ++ end)
    (elements_follow rest (is_object c) c more e)
    ∙ (rest_read false index header (items ++ news) behind more
    ∙ (ap (λ x. outcome deepest (behind + length others + 1) more (closed c index header around (behind + length others) x))
    (append_assoc items news (elements_items behind false rest))
    ∙ ap (λ n. outcome deepest (n + 1) more (closed c index header around n (items ++ (news ++ elements_items behind false rest)))) counted))))))

-- ---- arrays and objects

abbrev enclosed : Container → Elements → List ℕ
enclosed c es = opening c ∷ (elements_text true es ++ closing c ∷ [])

enclosed_is_read : (deepest : ℕ) (c : Container) (around : List Open) (es : Elements) → length around < deepest → AreRead deepest c around es
    → (m : Mode) → Ready deepest m → (name : Option Span) (items : List Item) (at : ℕ) (more : List ℕ)
    → outcome deepest at (enclosed c es ++ more) (state m name around items)
    ≡ outcome deepest (at + length (enclosed c es)) more (state mode.Behind None around (items
    ++ item (kind_of c) name (span at (at + length (enclosed c es))) (length (elements_items (at + 1) true es)) ∷ elements_items (at + 1) true es))
enclosed_is_read deepest c around es h es_read m ready name items at more =
    let text = elements_text true es in
    let header = head at c name in
    let within = elements_items (at + 1) true es in
    let all = (items ++ header ∷ []) ++ within in
    let last = (at + 1) + length text in
    let ending : last + 1 ≡ at + length (enclosed c es) = omega (arith, length-append text (closing c ∷ [])) in
    let count : (length all - length items) - 1 ≡ length within =
    omega (arith, length-append (items ++ header ∷ []) within, length-append items (header ∷ [])) in
    ap (λ x. outcome deepest at (opening c ∷ x) (state m name around items)) (append_assoc text (closing c ∷ []) more)
    ∙ (by_one deepest at (opening c) (text ++ closing c ∷ more) _ (begun at c (state m name around items))
    (bracket_begins deepest m ready name around items c at h)
    ∙ (es_read true (length items) header (items ++ header ∷ []) (at + 1) more
    ∙ (ap (λ x. outcome deepest (last + 1) more (state mode.Behind None around x))
    (put_whole items header (whole last (opened c (length items) header) (length all)) within)
    ∙ ap₂ (λ e n. outcome deepest e more (state mode.Behind None around (items ++ item (kind_of c) name (span at e) n ∷ within))) ending count)))

module _ (deepest : ℕ) where
  mutual
    value_is_read : (v : Value) (around : List Open) → is_value v ≡ true → length around + depth v ≤ deepest → IsRead deepest around v
    value_is_read (word w) around h k m ready name items at more follows = word_is_read deepest m ready name around items at w more
    value_is_read (number n) around h k m ready name items at more follows = number_is_read deepest m ready name around items at n more h follows
    value_is_read (string pieces) around h k m ready name items at more follows = string_is_read deepest m name around items at pieces more ready h
    value_is_read (array es) around h k m ready name items at more follows =
        enclosed_is_read deepest container.Array around es (omega arith) (elements_are_read es container.Array around h
        (omega arith)) m ready name items at more
    value_is_read (object es) around h k m ready name items at more follows =
        enclosed_is_read deepest container.Object around es (omega arith) (elements_are_read es container.Object around h
        (omega arith)) m ready name items at more

    elements_are_read : (es : Elements) (c : Container) (around : List Open) → are_elements (is_object c) es ≡ true
        → suc (length around) + elements_depth es ≤ deepest → AreRead deepest c around es
    elements_are_read (no_more space) c around h k = end_is_read deepest c around space h
    elements_are_read (element comma space name value rest) c around h k =
        let first = and_parts (are_spaces comma) (are_spaces space && (is_name (is_object c) name && (is_value value && are_elements (is_object c) rest))) h in
        let second = and_parts (are_spaces space) (is_name (is_object c) name && (is_value value && are_elements (is_object c) rest)) first.1 in
        let third = and_parts (is_name (is_object c) name) (is_value value && are_elements (is_object c) rest) second.1 in
        let fourth = and_parts (is_value value) (are_elements (is_object c) rest) third.1 in
        element_is_read deepest c around comma space name value rest first.0 second.0 third.0 fourth.1
        (λ index header. value_is_read value (opened c index header ∷ around) fourth.0 (omega arith))
        (elements_are_read rest c around fourth.1 (omega arith))

-- ---- whole texts

module _ (deepest : ℕ) where
  marked : (step deepest 0 0xEF start ≡ Ok (state mode.SecondOfMark None [] []))
      × ((step deepest 1 0xBB (state mode.SecondOfMark None [] []) ≡ Ok (state mode.ThirdOfMark None [] []))
      × (step deepest 2 0xBF (state mode.ThirdOfMark None [] []) ≡ Ok (state mode.Value None [] [])))
  unfolding step number_ended turn at_start at_byte act
  marked = (refl, (refl, refl))

  -- what stands in front of the value
  front_is_read : (mark : Bool) (space more : List ℕ) → are_spaces space ≡ true
      → (m : Mode) × Ready deepest m × (outcome deepest 0 (mark_text mark ++ (space ++ more)) start
      ≡ outcome deepest (length (mark_text mark) + length space) more (state m None [] []))
  front_is_read true space more h = (
    mode.Value,
    ready_value deepest,
    by_one deepest 0 0xEF (0xBB ∷ 0xBF ∷ space ++ more) _ _ marked.0
        ∙ (by_one deepest 1 0xBB (0xBF ∷ space ++ more) _ _ marked.1.0
        ∙ (by_one deepest 2 0xBF (space ++ more) _ _ marked.1.1
        ∙ spaces_read deepest (state mode.Value None [] []) (idle_value deepest None [] []) space 3 more h)),
  )
  front_is_read false space more h = start_read deepest None [] [] space 0 more h

  at_end : (n : ℕ) (items : List Item) → outcome deepest n [] (state mode.Behind None [] items) ≡ Ok items
  unfolding number_ended is_behind
  at_end n items = refl

  -- A text of the grammar is read as its items.
  pub text_is_read : (t : Text) → is_text t ≡ true → depth t.value ≤ deepest → reading_whole deepest (text_bytes t) ≡ Ok (text_items t)
  text_is_read t h k =
      let parts = and_parts (are_spaces t.before) (is_value t.value && are_spaces t.behind) h in
      let others = and_parts (is_value t.value) (are_spaces t.behind) parts.1 in
      let bytes = text_bytes t in
      let front = front_is_read t.mark t.before (value_text t.value ++ t.behind) parts.0 in
      let begin = length (mark_text t.mark) + length t.before in
      let end = begin + length (value_text t.value) in
      let follows : Follows t.behind = subst Follows (append-nil t.behind) (spaces_follow t.behind [] others.1 tt) in
      let whole : length bytes ≡ 0 + length bytes = omega arith in
      ap (λ n. ended_behind n (run deepest 0 bytes start)) whole
      ∙ (front.2
      ∙ (value_is_read deepest t.value [] others.0 (omega arith) front.0 front.1 None [] begin t.behind follows
      ∙ (ap (λ x. outcome deepest end x (state mode.Behind None [] (text_items t))) (sym (append-nil t.behind))
      ∙ (spaces_read deepest (state mode.Behind None [] (text_items t)) (idle_behind deepest None [] (text_items t)) t.behind end [] others.1
      ∙ at_end (end + length t.behind) (text_items t)))))

pub derived_is_read : (longest deepest : ℕ) (bytes : List ℕ) (items : List Item) → length bytes ≤ longest → Derives deepest bytes items
    → reading longest deepest bytes ≡ Ok items
derived_is_read longest deepest bytes items h d =
    text_is_whole longest deepest bytes h
    ∙ (ap (reading_whole deepest) (sym d.spelled) ∙ (text_is_read deepest d.text d.made d.shallow ∙ ap Ok d.told))
