-- How values are read.
use Rattle.std.proofs.Common.{◌≡◌, ℕ, ◌+◌, ◌-◌, ◌^◌, suc, zero, ◌<◌, ◌≤◌, Bool, true, false, cond, nat_lt, nat_le, ◌==◌, ◌&&◌, List, [], ◌∷◌, ◌++◌, length}
use Rattle.std.proofs.Common.{take, Option, Some, None}
use Rattle.std.proofs.Common.{Ok, Err, refl, ap, ap₂, sym, ◌∙◌, subst, arith, append_assoc, append-nil, length-append, true≢false}
use Rattle.std.specs.Fmt.{decimal}
use Rattle.std.proofs.lemmas.Bool.{and_parts, ne_eqb, ltb-true, lt-ltb, le-leb, leb-true}
use Rattle.std.proofs.lemmas.List.{set_at}
use lib.Utf8.{scalars, encodes, encode}
use Rattle.json_text.specs.declared.state.JsonPlace.{JsonPlace}
use Rattle.json_text.specs.declared.state.JsonPlace.TheVariants.{Here, First, Behind}
use Rattle.json_text.specs.Json.{Json, nothing, a_text, a_number, an_array, an_object, is_nothing, is_named_so, are_named, nesting}
use Rattle.json_text.specs.Layout.{string_text, indent, new_line, lead, name_text, name_if_any, closing_line, layout, document}
use Rattle.json_text.proofs.LayoutLemmas.{encode-new_line}
use Rattle.json_laws.specs.Reading.{is_one, numbers_fit}
use Rattle.json_reading.specs.declared.fault.JsonKind.TheVariants.{TooDeep}
use Rattle.json_reading.specs.declared.item.Container.{Container}
use Rattle.json_reading.specs.declared.item.Container.TheVariants as container
use Rattle.json_reading.specs.declared.item.Item.{Item}
use Rattle.json_reading.specs.declared.item.ItemKind.TheVariants as kinds
use Rattle.json_reading.specs.declared.item.Span.{Span}
use Rattle.json_reading.specs.declared.mode.Form.TheVariants as form
use Rattle.json_reading.specs.declared.mode.Inside.TheVariants as inside
use Rattle.json_reading.specs.declared.mode.Mode.{Mode}
use Rattle.json_reading.specs.declared.mode.Mode.TheVariants as mode
use Rattle.json_reading.specs.declared.mode.Role.TheVariants as role
use Rattle.json_reading.specs.declared.reader.Open.{Open}
use Rattle.json_reading.specs.Bytes.{is_digit, is_space}
use Rattle.json_reading.specs.Numbers.{integer_begun, form_begun, form_behind}
use Rattle.json_reading.specs.Turns.{plain_begun, plain_begun_by, value_begun, name_begun, at_value, at_start, at_byte, at_first_item, at_first_member}
use Rattle.json_reading.specs.Turns.{at_name, at_colon}
use Rattle.json_reading.specs.Turns.{at_comma, behind_inside, at_behind, turn}
use Rattle.json_reading.specs.Reading.{State, start, number_ended, act, first_of, kind_of, begun, begun_within, fault, head, span, whole, put, step, run}
use Rattle.json_reading.specs.Reading.{is_behind, ended_behind, reading_whole, reading_front, reading}
use Rattle.read_back_laws.specs.Items.{has_scalars, are_scalars, width, string_span, name_span, bracketed, name_at, value_at, item, items_at, items_of}
use Rattle.read_back_laws.proofs.Bytes.{encode-behind, width-append, encode-parts, width-parts, bracketed-before}
use Rattle.read_back_laws.proofs.States.{state, number, text_mode, one, moved}
use Rattle.read_back_laws.proofs.Strings.{string_read, name_read}
use Rattle.read_back_laws.proofs.Numbers.{Ends, first_form, number_read}

abbrev pub opening : Container → ℕ
opening container.Object = 0x7B
opening container.Array = 0x5B

abbrev pub closing : Container → ℕ
closing container.Object = 0x7D
closing container.Array = 0x5D

abbrev pub is_object : Container → Bool
is_object container.Object = true
is_object container.Array = false

-- ---- where a value may begin

pub digit_apart : (b k : ℕ) → is_digit b ≡ true → (k < 0x30) → (b == k) ≡ false
digit_apart b k h low = let parts = and_parts (nat_le 0x30 b) (nat_le b 0x39) h in
    let above : 0x30 ≤ b = leb-true 0x30 b parts.0 in ne_eqb b k (λ e. omega arith)

pub digit_under : (b k : ℕ) → is_digit b ≡ true → (0x39 < k) → (b == k) ≡ false
digit_under b k h high = let parts = and_parts (nat_le 0x30 b) (nat_le b 0x39) h in
    let below : b ≤ 0x39 = leb-true b 0x39 parts.1 in ne_eqb b k (λ e. omega arith)

pub digit_form : (b : ℕ) → is_digit b ≡ true → form_begun b ≡ Some (first_form b)
digit_form b h = ap (λ t. cond t (Some form.Minus) (integer_begun b)) (digit_apart b 0x2D h (omega arith)) ∙ by (b == 0x30)
  where
    by : (t : Bool) → cond t (Some form.Zero) (cond (is_digit b) (Some form.Integer) None) ≡ Some (cond t form.Zero form.Integer)
    by true = refl
    by false = ap (λ t. cond t (Some form.Integer) None) h

-- A value that begins with a digit is a number.
digit_value : (at b : ℕ) → is_digit b ≡ true → value_begun at b ≡ plain_begun_by at b (Some (first_form b))
unfolding value_begun plain_begun
digit_value at b h =
    let quote : (b == 0x22) ≡ false = digit_apart b 0x22 h (omega arith) in
    let brace : (b == 0x7B) ≡ false = digit_under b 0x7B h (omega arith) in
    let bracket : (b == 0x5B) ≡ false = digit_under b 0x5B h (omega arith) in
    rw (quote, brace, bracket) (ap (plain_begun_by at b) (digit_form b h))

digit_no_space : (b : ℕ) → is_digit b ≡ true → is_space b ≡ false
digit_no_space b h =
    let space : (b == 0x20) ≡ false = digit_apart b 0x20 h (omega arith) in
    let tab : (b == 0x9) ≡ false = digit_apart b 0x9 h (omega arith) in
    let feed : (b == 0xA) ≡ false = digit_apart b 0xA h (omega arith) in
    let return : (b == 0xD) ≡ false = digit_apart b 0xD h (omega arith) in
    rw (space, tab, feed, return) refl

within_depth : (deepest at : ℕ) (c : Container) (s : State) → length s.around < deepest → begun_within deepest at c s ≡ Ok (begun at c s)
within_depth deepest at c s h = ap (λ b. cond b (Ok (begun at c s)) (Err (fault TooDeep at))) (lt-ltb (length s.around) deepest h)

-- A mode in which a value is read: a byte that is no white space, no bracket and not the first of a mark begins one.
abbrev pub Ready : ℕ → Mode → Type 0
Ready deepest m = (at b : ℕ) (name : Option Span) (around : List Open) (items : List Item) → is_space b ≡ false → (b == 0x5D) ≡ false → (b == 0xEF) ≡ false
    → step deepest at b (state m name around items) ≡ act deepest at (value_begun at b) (state m name around items)

pub ready_value : (deepest : ℕ) → Ready deepest mode.Value
unfolding step number_ended turn at_value
ready_value deepest at b name around items space bracket mark = rw space refl

pub ready_first : (deepest : ℕ) → Ready deepest mode.FirstItem
unfolding step number_ended turn at_first_item
ready_first deepest at b name around items space bracket mark = rw (space, bracket) refl

pub ready_start : (deepest : ℕ) → Ready deepest mode.Start
unfolding step number_ended turn at_start at_value
ready_start deepest at b name around items space bracket mark = rw (mark, space) refl

module _ (deepest : ℕ) (m : Mode) (ready : Ready deepest m) (name : Option Span) (around : List Open) (items : List Item) where
  pub string_begins : (at : ℕ) → step deepest at 0x22 (state m name around items) ≡ Ok (state (text_mode at false role.Value inside.Plain) name around items)
  unfolding value_begun act
  string_begins at = ready at 0x22 name around items refl refl refl

  pub digit_begins : (at b : ℕ) → is_digit b ≡ true → step deepest at b (state m name around items) ≡ Ok (state (number at (first_form b)) name around items)
  unfolding act
  digit_begins at b h =
      ready at b name around items (digit_no_space b h) (digit_under b 0x5D h (omega arith)) (digit_under b 0xEF h (omega arith))
      ∙ ap (λ t. act deepest at t (state m name around items)) (digit_value at b h)

  pub bracket_begins : (c : Container) (at : ℕ) → length around < deepest
      → step deepest at (opening c) (state m name around items) ≡ Ok (begun at c (state m name around items))
  unfolding value_begun act
  bracket_begins container.Object at h = ready at 0x7B name around items refl refl refl ∙ within_depth deepest at container.Object (state m name around items) h
  bracket_begins container.Array at h = ready at 0x5B name around items refl refl refl ∙ within_depth deepest at container.Array (state m name around items) h

-- ---- what leads a value

-- what is read where a member or item has to come, and behind what leads one
abbrev pub here_of : Container → Mode
here_of container.Object = mode.Name
here_of container.Array = mode.Value

abbrev mode_at : Container → JsonPlace → Mode
mode_at c Here = here_of c
mode_at c First = first_of c
mode_at c Behind = mode.Behind

abbrev pub led : Container → JsonPlace → Mode
led c Here = here_of c
led c First = first_of c
led c Behind = here_of c

abbrev place_behind : JsonPlace → Json → JsonPlace
place_behind place nothing = place
place_behind place (a_text name characters rest) = Behind
place_behind place (a_number name n rest) = Behind
place_behind place (an_array name inside rest) = Behind
place_behind place (an_object name inside rest) = Behind

place_behind-again : (values : Json) → place_behind Behind values ≡ Behind
place_behind-again nothing = refl
place_behind-again (a_text name characters rest) = refl
place_behind-again (a_number name n rest) = refl
place_behind-again (an_array name inside rest) = refl
place_behind-again (an_object name inside rest) = refl

module _ (deepest : ℕ) (s : State) (feed : (at : ℕ) → step deepest at 0xA s ≡ Ok s) (space : (at : ℕ) → step deepest at 0x20 s ≡ Ok s) where
  indent_read : (depth at : ℕ) (more : List ℕ) → run deepest at (indent depth ++ more) s ≡ run deepest (at + length (indent depth)) more s
  indent_read zero at more = moved deepest at (at + 0) more s (omega arith)
  indent_read (suc depth) at more =
      one deepest at 0x20 (0x20 ∷ indent depth ++ more) s s (space at)
      ∙ (one deepest (at + 1) 0x20 (indent depth ++ more) s s (space (at + 1))
      ∙ (indent_read depth (at + 1 + 1) more ∙ moved deepest (at + 1 + 1 + length (indent depth)) _ more s (omega arith)))

  line_read : (depth at : ℕ) (more : List ℕ) → run deepest at (new_line depth ++ more) s ≡ run deepest (at + length (new_line depth)) more s
  line_read depth at more =
      one deepest at 0xA (indent depth ++ more) s s (feed at)
      ∙ (indent_read depth (at + 1) more ∙ moved deepest (at + 1 + length (indent depth)) _ more s (omega arith))

  new_line_read : (depth at : ℕ) (more : List ℕ) → run deepest at (encodes (new_line depth) ++ more) s ≡ run deepest (at + width (new_line depth)) more s
  new_line_read depth at more =
      subst (λ x. run deepest at (x ++ more) s ≡ run deepest (at + length x) more s) (sym (encode-new_line depth)) (line_read depth at more)

-- brackets are their own bytes
encode-opening : (c : Container) (text more : List ℕ) → encodes (opening c ∷ text) ++ more ≡ opening c ∷ (encodes text ++ more)
unfolding encode
encode-opening container.Object text more = refl
encode-opening container.Array text more = refl

encode-closing : (c : Container) (more : List ℕ) → encodes (closing c ∷ []) ++ more ≡ closing c ∷ more
unfolding encode
encode-closing container.Object more = refl
encode-closing container.Array more = refl

opening-width : (c : Container) (text : List ℕ) → width (opening c ∷ text) ≡ suc (width text)
unfolding encode
opening-width container.Object text = refl
opening-width container.Array text = refl

closing-width : (c : Container) → width (closing c ∷ []) ≡ 1
unfolding encode
closing-width container.Object = refl
closing-width container.Array = refl

abbrev pub opened : Container → ℕ → Item → Open
opened c index head = record { container = c; index = index; head = head }

module _ (deepest : ℕ) (index : ℕ) (header : Item) (around : List Open) (items : List Item) where
  abbrev pub in_place : Container → Mode → State
  in_place c m = state m None (opened c index header ∷ around) items

  -- white space leaves everything as it is
  here_idle : (c : Container) (at : ℕ) → (step deepest at 0xA (in_place c (here_of c)) ≡ Ok (in_place c (here_of c)))
      × (step deepest at 0x20 (in_place c (here_of c)) ≡ Ok (in_place c (here_of c)))
  unfolding step number_ended turn at_value at_name act
  here_idle container.Object at = (refl, refl)
  here_idle container.Array at = (refl, refl)

  first_idle : (c : Container) (at : ℕ) → (step deepest at 0xA (in_place c (first_of c)) ≡ Ok (in_place c (first_of c)))
      × (step deepest at 0x20 (in_place c (first_of c)) ≡ Ok (in_place c (first_of c)))
  unfolding step number_ended turn at_first_item at_first_member act
  first_idle container.Object at = (refl, refl)
  first_idle container.Array at = (refl, refl)

  behind_idle : (c : Container) (at : ℕ) → (step deepest at 0xA (in_place c mode.Behind) ≡ Ok (in_place c mode.Behind))
      × (step deepest at 0x20 (in_place c mode.Behind) ≡ Ok (in_place c mode.Behind))
  unfolding step number_ended turn at_behind act
  behind_idle c at = (refl, refl)

  pub comma_step : (c : Container) (at : ℕ) → step deepest at 0x2C (in_place c mode.Behind) ≡ Ok (in_place c (here_of c))
  unfolding step number_ended turn at_behind behind_inside at_comma act
  comma_step container.Object at = refl
  comma_step container.Array at = refl

  lead_read : (c : Container) (place : JsonPlace) (depth at : ℕ) (more : List ℕ)
      → run deepest at (encodes (lead place depth) ++ more) (in_place c (mode_at c place))
      ≡ run deepest (at + width (lead place depth)) more (in_place c (led c place))
  unfolding encode
  lead_read c Here depth at more = moved deepest at (at + 0) more _ (omega arith)
  lead_read c First depth at more = new_line_read deepest (in_place c (first_of c)) (λ k. (first_idle c k).0) (λ k. (first_idle c k).1) depth at more
  lead_read c Behind depth at more =
      one deepest at 0x2C (encodes (new_line depth) ++ more) _ _ (comma_step c at)
      ∙ (new_line_read deepest (in_place c (here_of c)) (λ k. (here_idle c k).0) (λ k. (here_idle c k).1) depth (at + 1) more
      ∙ moved deepest (at + 1 + width (new_line depth)) _ more _ (omega arith))

  -- ---- names

  pub name_begins : (place : JsonPlace) (at : ℕ)
      → step deepest at 0x22 (in_place container.Object (led container.Object place))
      ≡ Ok (in_place container.Object (text_mode at false role.Name inside.Plain))
  unfolding step number_ended turn at_first_member at_name name_begun act
  name_begins Here at = refl
  name_begins First at = refl
  name_begins Behind at = refl

  abbrev pub named : Mode → Option Span → State
  named m name = state m name (opened container.Object index header ∷ around) items

  pub colon_step : (at : ℕ) (name : Option Span) → step deepest at 0x3A (named mode.Colon name) ≡ Ok (named mode.Value name)
  unfolding step number_ended turn at_colon at_byte act
  colon_step at name = refl

  space_step : (at : ℕ) (name : Option Span) → step deepest at 0x20 (named mode.Value name) ≡ Ok (named mode.Value name)
  unfolding step number_ended turn at_value act
  space_step at name = refl

  name_text_read : (place : JsonPlace) (name : List ℕ) (at : ℕ) (more : List ℕ) → scalars name ≡ true
      → run deepest at (encodes (name_text name) ++ more) (in_place container.Object (led container.Object place))
      ≡ run deepest (at + width (name_text name)) more (named mode.Value (Some (string_span at name)))
  unfolding encode
  name_text_read place name at more s =
      let end = at + width (string_text name) in
      ap (λ x. run deepest at x (in_place container.Object (led container.Object place))) (encode-behind (string_text name) (0x3A ∷ 0x20 ∷ []) more)
      ∙ (name_read deepest (led container.Object place) None (opened container.Object index header ∷ around) items name at (0x3A ∷ 0x20 ∷ more) s
      (name_begins place at)
      ∙ (one deepest end 0x3A (0x20 ∷ more) _ _ (colon_step end (Some (string_span at name)))
      ∙ (one deepest (end + 1) 0x20 more _ _ (space_step (end + 1) (Some (string_span at name)))
      ∙ moved deepest (end + 1 + 1) _ more _ (omega (arith, width-append (string_text name) (0x3A ∷ 0x20 ∷ []))))))

  -- ---- ends of objects and arrays

  -- what is left when the innermost ends at the place
  abbrev pub ended_at : Container → ℕ → State
  ended_at c at = state mode.Behind None around (put items index (whole at (opened c index header) (length items)))

  pub first_closes : (c : Container) (at : ℕ) → step deepest at (closing c) (in_place c (first_of c)) ≡ Ok (ended_at c at)
  unfolding step number_ended turn at_first_item at_first_member act
  first_closes container.Object at = refl
  first_closes container.Array at = refl

  pub behind_closes : (c : Container) (at : ℕ) → step deepest at (closing c) (in_place c mode.Behind) ≡ Ok (ended_at c at)
  unfolding step number_ended turn at_behind behind_inside at_comma act
  behind_closes container.Object at = refl
  behind_closes container.Array at = refl

  line_closes : (c : Container) (depth at : ℕ) (more : List ℕ)
      → run deepest at (encodes (new_line depth ++ closing c ∷ []) ++ more) (in_place c mode.Behind)
      ≡ run deepest (at + width (new_line depth ++ closing c ∷ [])) more (ended_at c (at + width (new_line depth)))
  line_closes c depth at more =
      let end = at + width (new_line depth) in
      ap (λ x. run deepest at x (in_place c mode.Behind))
      (encode-behind (new_line depth) (closing c ∷ []) more ∙ ap (λ x. encodes (new_line depth) ++ x) (encode-closing c more))
      ∙ (new_line_read deepest (in_place c mode.Behind) (λ k. (behind_idle c k).0) (λ k. (behind_idle c k).1) depth at (closing c ∷ more)
      ∙ (one deepest end (closing c) more _ _ (behind_closes c end)
      ∙ moved deepest (end + 1) _ more _ (omega (arith, width-append (new_line depth) (closing c ∷ []), closing-width c))))

  closing_read : (inside : Json) (c : Container) (depth at : ℕ) (more : List ℕ)
      → run deepest at (encodes (closing_line depth inside ++ closing c ∷ []) ++ more) (in_place c (mode_at c (place_behind First inside)))
      ≡ run deepest (at + width (closing_line depth inside ++ closing c ∷ [])) more (ended_at c (at + width (closing_line depth inside)))
  closing_read nothing c depth at more =
      ap (λ x. run deepest at x (in_place c (first_of c))) (encode-closing c more)
      ∙ (one deepest at (closing c) more _ _ (first_closes c at)
      ∙ (moved deepest (at + 1) (at + width (closing c ∷ [])) more (ended_at c at) (omega (arith, closing-width c))
      ∙ ap (λ n. run deepest (at + width (closing c ∷ [])) more (ended_at c n)) (omega arith)))
  closing_read (a_text name characters rest) c depth at more = line_closes c depth at more
  closing_read (a_number name n rest) c depth at more = line_closes c depth at more
  closing_read (an_array name within rest) c depth at more = line_closes c depth at more
  closing_read (an_object name within rest) c depth at more = line_closes c depth at more

-- ---- values

-- no further byte of a number comes behind a value
layout_ends : (values : Json) (depth : ℕ) (more : List ℕ) → Ends more → Ends (encodes (layout depth Behind values) ++ more)
unfolding encode form_behind
layout_ends nothing depth more ends = ends
layout_ends (a_text name characters rest) depth more ends = (refl, refl)
layout_ends (a_number name n rest) depth more ends = (refl, refl)
layout_ends (an_array name inside rest) depth more ends = (refl, refl)
layout_ends (an_object name inside rest) depth more ends = (refl, refl)

closing_ends : (inside : Json) (c : Container) (depth : ℕ) (more : List ℕ) → Ends (encodes (closing_line depth inside ++ closing c ∷ []) ++ more)
unfolding encode form_behind
closing_ends nothing container.Object depth more = (refl, refl)
closing_ends nothing container.Array depth more = (refl, refl)
closing_ends (a_text name characters rest) c depth more = (refl, refl)
closing_ends (a_number name n rest) c depth more = (refl, refl)
closing_ends (an_array name within rest) c depth more = (refl, refl)
closing_ends (an_object name within rest) c depth more = (refl, refl)

-- A value's own text is read wherever a value may stand, as items that its name and its place determine.
abbrev IsRead : ℕ → List Open → List ℕ → (Option Span → ℕ → List Item) → Type 0
IsRead deepest around own items_of = (m : Mode) → Ready deepest m → (name : Option Span) (items : List Item) (at : ℕ) (more : List ℕ) → Ends more
    → run deepest at (encodes own ++ more) (state m name around items)
    ≡ run deepest (at + width own) more (state mode.Behind None around (items ++ items_of name at))

-- Values in an object or array are read as their items.
abbrev AreRead : ℕ → Container → List Open → ℕ → JsonPlace → Json → Type 0
AreRead deepest c around depth place values = (index : ℕ) (header : Item) (items : List Item) (at : ℕ) (more : List ℕ) → Ends more
    → run deepest at (encodes (layout depth place values) ++ more) (state (mode_at c place) None (opened c index header ∷ around) items)
    ≡ run deepest (at + width (layout depth place values)) more
    (state (mode_at c (place_behind place values)) None (opened c index header ∷ around) (items ++ items_at at depth place values))

abbrev text_items : List ℕ → Option Span → ℕ → List Item
text_items characters name at = item kinds.Text name (string_span at characters) 0 ∷ []

abbrev number_items : ℕ → Option Span → ℕ → List Item
number_items n name at = item kinds.Number name (span at (at + width (decimal n))) 0 ∷ []

abbrev enclosed : Container → ℕ → Json → List ℕ
enclosed c depth inside = bracketed (opening c) (closing c) depth inside

abbrev enclosed_items : Container → ℕ → Json → Option Span → ℕ → List Item
enclosed_items c depth inside name at =
    let within = items_at (at + 1) (depth + 1) First inside in
    item (kind_of c) name (span at (at + width (enclosed c depth inside))) (length within) ∷ within

text_is_read : (deepest : ℕ) (around : List Open) (characters : List ℕ) → scalars characters ≡ true
    → IsRead deepest around (string_text characters) (text_items characters)
text_is_read deepest around characters s m ready name items at more ends =
    string_read deepest m name around items characters at more s (string_begins deepest m ready name around items at)

number_is_read : (deepest : ℕ) (around : List Open) (n : ℕ) → n < 2 ^ 64 → IsRead deepest around (decimal n) (number_items n)
number_is_read deepest around n h m ready name items at more ends =
    number_read deepest m name around items at n more h (digit_begins deepest m ready name around items at) ends

-- what is put in place of the head of an object or array when that ends
pub put_whole : (items : List Item) (header new : Item) (within : List Item)
    → put ((items ++ header ∷ []) ++ within) (length items) new ≡ items ++ new ∷ within
put_whole items header new within =
    ap (λ x. put x (length items) new) (append_assoc items (header ∷ []) within) ∙ set_at items header within new (length items) refl

enclosed_is_read : (deepest : ℕ) (c : Container) (around : List Open) (depth : ℕ) (inside : Json) → length around < deepest
    → AreRead deepest c around (depth + 1) First inside → IsRead deepest around (enclosed c depth inside) (enclosed_items c depth inside)
enclosed_is_read deepest c around depth inside h inside_read m ready name items at more ends =
    let text = layout (depth + 1) First inside in
    let end = closing_line depth inside ++ closing c ∷ [] in
    let header = head at c name in
    let within = items_at (at + 1) (depth + 1) First inside in
    let all = (items ++ header ∷ []) ++ within in
    let behind = (at + 1) + width text in
    let last = behind + width (closing_line depth inside) in
    let place : behind + width end ≡ at + width (enclosed c depth inside) = omega (arith, opening-width c (text ++ end), width-append text end) in
    let ending : last + 1 ≡ at + width (enclosed c depth inside) =
    omega (arith, opening-width c (text ++ end), width-append text end, width-append (closing_line depth inside) (closing c ∷ []), closing-width c) in
    let count : (length all - length items) - 1 ≡ length within =
    omega (arith, length-append (items ++ header ∷ []) within, length-append items (header ∷ [])) in
    ap (λ x. run deepest at x (state m name around items)) (encode-opening c (text ++ end) more ∙ ap (λ x. opening c ∷ x) (encode-behind text end more))
    ∙ (one deepest at (opening c) (encodes text ++ (encodes end ++ more)) _ (begun at c (state m name around items))
    (bracket_begins deepest m ready name around items c at h)
    ∙ (inside_read (length items) header (items ++ header ∷ []) (at + 1) (encodes end ++ more) (closing_ends inside c depth more)
    ∙ (closing_read deepest (length items) header around all inside c depth behind more
    ∙ (moved deepest (behind + width end) (at + width (enclosed c depth inside)) more _ place
    ∙ (ap (λ x. run deepest (at + width (enclosed c depth inside)) more (state mode.Behind None around x))
    (put_whole items header (whole last (opened c (length items) header) (length all)) within)
    ∙ ap₂ (λ e n. run deepest (at + width (enclosed c depth inside)) more
    (state mode.Behind None around (items ++ item (kind_of c) name (span at e) n ∷ within))) ending count)))))

-- where a value is read behind its name, if it has one
abbrev value_mode : Container → JsonPlace → Mode
value_mode container.Object place = mode.Value
value_mode container.Array place = led container.Array place

ready_there : (deepest : ℕ) (c : Container) (place : JsonPlace) → Ready deepest (value_mode c place)
ready_there deepest container.Object place = ready_value deepest
ready_there deepest container.Array Here = ready_value deepest
ready_there deepest container.Array First = ready_first deepest
ready_there deepest container.Array Behind = ready_value deepest

named_read : (deepest index : ℕ) (header : Item) (around : List Open) (items : List Item) (c : Container) (place : JsonPlace) (name : Option (List ℕ)) (at : ℕ)
    (more : List ℕ) → is_named_so (is_object c) name ≡ true → has_scalars name ≡ true
    → run deepest at (encodes (name_if_any name) ++ more) (state (led c place) None (opened c index header ∷ around) items)
    ≡ run deepest (at + width (name_if_any name)) more (state (value_mode c place) (name_span at name) (opened c index header ∷ around) items)
named_read deepest index header around items container.Object place
    (Some name) at more h s = name_text_read deepest index header around items place name at more s
named_read deepest index header around items container.Object place None at more h s = absurd (true≢false (sym h))
named_read deepest index header around items container.Array place (Some name) at more h s = absurd (true≢false (sym h))
named_read deepest index header around items container.Array place None at more h s = moved deepest at (at + 0) more _ (omega arith)

-- a value with what leads it and its name, and those behind it
side_is_read : (deepest : ℕ) (c : Container) (around : List Open) (depth : ℕ) (place : JsonPlace) (name : Option (List ℕ)) (own : List ℕ)
    (items_of : Option Span → ℕ → List Item) (rest : Json) → is_named_so (is_object c) name ≡ true → has_scalars name ≡ true
    → ((index : ℕ) (header : Item) → IsRead deepest (opened c index header ∷ around) own items_of) → AreRead deepest c around depth Behind rest
    → (index : ℕ) (header : Item) (items : List Item) (at : ℕ) (more : List ℕ) → Ends more
    → run deepest at (encodes (lead place depth ++ (name_if_any name ++ (own ++ layout depth Behind rest))) ++ more)
    (state (mode_at c place) None (opened c index header ∷ around) items)
    ≡ run deepest (at + width (lead place depth ++ (name_if_any name ++ (own ++ layout depth Behind rest)))) more
    (state mode.Behind None (opened c index header ∷ around)
    (items ++ (items_of (name_span (name_at at depth place) name) (value_at at depth place name) ++ items_at
    (value_at at depth place name + width own) depth Behind rest)))
side_is_read deepest c around depth place name own items_of rest h s own_read rest_read index header items at more ends =
    let behind = layout depth Behind rest in
    let others = encodes behind ++ more in
    let begin = value_at at depth place name in
    let end = begin + width own in
    let news = items_of (name_span (name_at at depth place) name) begin in
    let os = opened c index header ∷ around in
    ap (λ x. run deepest at x (state (mode_at c place) None os items)) (encode-parts (lead place depth) (name_if_any name) own behind more)
    ∙ (lead_read deepest index header around items c place depth at (encodes (name_if_any name) ++ (encodes own ++ others))
    ∙ (named_read deepest index header around items c place name (name_at at depth place) (encodes own ++ others) h s
    ∙ (own_read index header (value_mode c place) (ready_there deepest c place) (name_span (name_at at depth place) name) items begin others
    (layout_ends rest depth more ends)
    ∙ (rest_read index header (items ++ news) end more ends
    ∙ (ap₂ (λ p x. run deepest (end + width behind) more (state (mode_at c p) None os x)) (place_behind-again rest)
    (append_assoc items news (items_at end depth Behind rest))
    ∙ moved deepest (end + width behind) _ more _ (omega (arith, width-parts (lead place depth) (name_if_any name) own behind)))))))

-- an array or object with what leads it and its name, and those behind it, grouped as the layout groups them
regrouped : (c : Container) (depth : ℕ) (place : JsonPlace) (name : Option (List ℕ)) (inside rest : Json)
    → lead place depth ++ (name_if_any name ++ (enclosed c depth inside ++ layout depth Behind rest))
    ≡ lead place depth ++ (name_if_any name
    ++ opening c ∷ (layout (depth + 1) First inside ++ (closing_line depth inside ++ closing c ∷ layout depth Behind rest)))
regrouped c depth place name inside rest =
    ap (λ x. lead place depth ++ (name_if_any name ++ x)) (bracketed-before (opening c) (closing c) depth inside (layout depth Behind rest))

module _ (deepest : ℕ) where
  enclosed_side : (c : Container) (around : List Open) (depth : ℕ) (place : JsonPlace) (kind : Container) (name : Option (List ℕ)) (inside rest : Json)
      → is_named_so (is_object c) name ≡ true → has_scalars name ≡ true → suc (length around) < deepest
      → ((index : ℕ) (header : Item) → AreRead deepest kind (opened c index header ∷ around) (depth + 1) First inside)
      → AreRead deepest c around depth Behind rest
      → (index : ℕ) (header : Item) (items : List Item) (at : ℕ) (more : List ℕ) → Ends more
      → run deepest at (encodes (lead place depth ++ (name_if_any name
      ++ opening kind ∷ (layout (depth + 1) First inside ++ (closing_line depth inside ++ closing kind ∷ layout depth Behind rest)))) ++ more)
      (state (mode_at c place) None (opened c index header ∷ around) items)
      ≡ run deepest (at + width (lead place depth ++ (name_if_any name
      ++ opening kind ∷ (layout (depth + 1) First inside ++ (closing_line depth inside ++ closing kind ∷ layout depth Behind rest))))) more
      (state mode.Behind None (opened c index header ∷ around) (items
      ++ (enclosed_items kind depth inside (name_span (name_at at depth place) name) (value_at at depth place name)
      ++ items_at (value_at at depth place name + width (enclosed kind depth inside)) depth Behind rest)))
  enclosed_side c around depth place kind name inside rest named s h inside_read rest_read index header items at more ends =
      subst (λ x. run deepest at (encodes x ++ more) (state (mode_at c place) None (opened c index header ∷ around) items)
      ≡ run deepest (at + width x) more
      (state mode.Behind None (opened c index header ∷ around) (items
      ++ (enclosed_items kind depth inside (name_span (name_at at depth place) name) (value_at at depth place name)
      ++ items_at (value_at at depth place name + width (enclosed kind depth inside)) depth Behind rest))))
      (regrouped kind depth place name inside rest)
      (side_is_read deepest c around depth place name (enclosed kind depth inside) (enclosed_items kind depth inside) rest named s
      (λ i o. enclosed_is_read deepest kind (opened c i o ∷ around) depth inside h (inside_read i o)) rest_read index header items at more ends)

  nothing_is_read : (c : Container) (around : List Open) (depth : ℕ) (place : JsonPlace) → AreRead deepest c around depth place nothing
  nothing_is_read c around depth place index header items at more ends =
      moved deepest at (at + 0) more _ (omega arith)
      ∙ ap (λ x. run deepest (at + 0) more (state (mode_at c place) None (opened c index header ∷ around) x)) (sym (append-nil items))

  layout_is_read : (values : Json) (c : Container) (around : List Open) (depth : ℕ) (place : JsonPlace) → are_named (is_object c) values ≡ true
      → numbers_fit values ≡ true → are_scalars values ≡ true → suc (length around) + nesting values ≤ deepest → AreRead deepest c around depth place values
  layout_is_read nothing c around depth place named fit scalar h = nothing_is_read c around depth place
  layout_is_read (a_text name characters rest) c around depth place named fit scalar h =
      let names = and_parts (is_named_so (is_object c) name) (are_named (is_object c) rest) named in
      let texts = and_parts (has_scalars name) (scalars characters && are_scalars rest) scalar in
      let more_texts = and_parts (scalars characters) (are_scalars rest) texts.1 in
      side_is_read deepest c around depth place name (string_text characters) (text_items characters) rest names.0 texts.0
      (λ i o. text_is_read deepest (opened c i o ∷ around) characters more_texts.0)
      (layout_is_read rest c around depth Behind names.1 fit more_texts.1 h)
  layout_is_read (a_number name n rest) c around depth place named fit scalar h =
      let names = and_parts (is_named_so (is_object c) name) (are_named (is_object c) rest) named in
      let numbers = and_parts (nat_lt n (2 ^ 64)) (numbers_fit rest) fit in
      let texts = and_parts (has_scalars name) (are_scalars rest) scalar in
      side_is_read deepest c around depth place name (decimal n) (number_items n) rest names.0 texts.0
      (λ i o. number_is_read deepest (opened c i o ∷ around) n (ltb-true n (2 ^ 64) numbers.0))
      (layout_is_read rest c around depth Behind names.1 numbers.1 texts.1 h)
  layout_is_read (an_array name inside rest) c around depth place named fit scalar h =
      let names = and_parts (is_named_so (is_object c) name) (are_named false inside && are_named (is_object c) rest) named in
      let more_names = and_parts (are_named false inside) (are_named (is_object c) rest) names.1 in
      let numbers = and_parts (numbers_fit inside) (numbers_fit rest) fit in
      let texts = and_parts (has_scalars name) (are_scalars inside && are_scalars rest) scalar in
      let more_texts = and_parts (are_scalars inside) (are_scalars rest) texts.1 in
      enclosed_side c around depth place container.Array name inside rest names.0 texts.0 (omega arith)
      (λ i o. layout_is_read inside container.Array (opened c i o ∷ around) (depth + 1) First more_names.0 numbers.0 more_texts.0 (omega arith))
      (layout_is_read rest c around depth Behind more_names.1 numbers.1 more_texts.1 (omega arith))
  layout_is_read (an_object name inside rest) c around depth place named fit scalar h =
      let names = and_parts (is_named_so (is_object c) name) (are_named true inside && are_named (is_object c) rest) named in
      let more_names = and_parts (are_named true inside) (are_named (is_object c) rest) names.1 in
      let numbers = and_parts (numbers_fit inside) (numbers_fit rest) fit in
      let texts = and_parts (has_scalars name) (are_scalars inside && are_scalars rest) scalar in
      let more_texts = and_parts (are_scalars inside) (are_scalars rest) texts.1 in
      enclosed_side c around depth place container.Object name inside rest names.0 texts.0 (omega arith)
      (λ i o. layout_is_read inside container.Object (opened c i o ∷ around) (depth + 1) First more_names.0 numbers.0 more_texts.0 (omega arith))
      (layout_is_read rest c around depth Behind more_names.1 numbers.1 more_texts.1 (omega arith))

-- ---- the whole text

nothing_is : (values : Json) → is_nothing values ≡ true → values ≡ nothing
nothing_is nothing e = refl
nothing_is (a_text name characters rest) e = absurd (true≢false (sym e))
nothing_is (a_number name n rest) e = absurd (true≢false (sym e))
nothing_is (an_array name inside rest) e = absurd (true≢false (sym e))
nothing_is (an_object name inside rest) e = absurd (true≢false (sym e))

last_step : (deepest at : ℕ) (items : List Item) → step deepest at 0xA (state mode.Behind None [] items) ≡ Ok (state mode.Behind None [] items)
unfolding step number_ended turn at_behind act
last_step deepest at items = refl

-- one value at the top
top_is_read : (deepest : ℕ) (own : List ℕ) (items_of : Option Span → ℕ → List Item) → IsRead deepest [] own items_of
    → reading_whole deepest (encodes (own ++ 0xA ∷ [])) ≡ Ok (items_of None 0)
unfolding number_ended is_behind encode form_behind
top_is_read deepest own items_of own_read =
    let text = encodes (own ++ 0xA ∷ []) in
    ap (ended_behind (length text))
    (ap (λ x. run deepest 0 x start) (sym (append-nil text) ∙ encode-behind own (0xA ∷ []) [])
    ∙ (own_read mode.Start (ready_start deepest) None [] 0 (0xA ∷ []) (refl, refl)
    ∙ one deepest (0 + width own) 0xA [] _ _ (last_step deepest (0 + width own) (items_of None 0))))

-- The text of a value is read as its items.
pub document_is_read : (deepest : ℕ) (value : Json) → is_one value ≡ true → are_named false value ≡ true → numbers_fit value ≡ true → are_scalars value ≡ true
    → nesting value ≤ deepest → reading_whole deepest (encodes (document value)) ≡ Ok (items_of value)
document_is_read deepest nothing one named fit scalar h = absurd (true≢false (sym one))
document_is_read deepest (a_text (Some name) characters rest) one named fit scalar h = absurd (true≢false (sym named))
document_is_read deepest (a_text None characters rest) one named fit scalar h =
    let texts = and_parts (scalars characters) (are_scalars rest) scalar in
    subst (λ r. reading_whole deepest (encodes (document (a_text None characters r))) ≡ Ok (items_of (a_text None characters r))) (sym (nothing_is rest one))
    (ap (λ x. reading_whole deepest (encodes (x ++ 0xA ∷ []))) (append-nil (string_text characters))
    ∙ top_is_read deepest (string_text characters) (text_items characters) (text_is_read deepest [] characters texts.0))
document_is_read deepest (a_number (Some name) n rest) one named fit scalar h = absurd (true≢false (sym named))
document_is_read deepest (a_number None n rest) one named fit scalar h =
    let numbers = and_parts (nat_lt n (2 ^ 64)) (numbers_fit rest) fit in
    subst (λ r. reading_whole deepest (encodes (document (a_number None n r))) ≡ Ok (items_of (a_number None n r))) (sym (nothing_is rest one))
    (ap (λ x. reading_whole deepest (encodes (x ++ 0xA ∷ []))) (append-nil (decimal n))
    ∙ top_is_read deepest (decimal n) (number_items n) (number_is_read deepest [] n (ltb-true n (2 ^ 64) numbers.0)))
document_is_read deepest (an_array (Some name) inside rest) one named fit scalar h = absurd (true≢false (sym named))
document_is_read deepest (an_array None inside rest) one named fit scalar h =
    let names = and_parts (are_named false inside) (are_named false rest) named in
    let numbers = and_parts (numbers_fit inside) (numbers_fit rest) fit in
    let texts = and_parts (are_scalars inside) (are_scalars rest) scalar in
    subst (λ r. reading_whole deepest (encodes (document (an_array None inside r))) ≡ Ok (items_of (an_array None inside r))) (sym (nothing_is rest one))
    (top_is_read deepest (enclosed container.Array 0 inside) (enclosed_items container.Array 0 inside)
    (enclosed_is_read deepest container.Array [] 0 inside (omega arith)
    (layout_is_read deepest inside container.Array [] 1 First names.0 numbers.0 texts.0 (omega arith)))
    ∙ ap Ok (ap (λ x. item kinds.Array None (span 0 (0 + width (enclosed container.Array 0 inside))) (length (items_at 1 1 First inside)) ∷ x)
    (sym (append-nil (items_at 1 1 First inside)))))
document_is_read deepest (an_object (Some name) inside rest) one named fit scalar h = absurd (true≢false (sym named))
document_is_read deepest (an_object None inside rest) one named fit scalar h =
    let names = and_parts (are_named true inside) (are_named false rest) named in
    let numbers = and_parts (numbers_fit inside) (numbers_fit rest) fit in
    let texts = and_parts (are_scalars inside) (are_scalars rest) scalar in
    subst (λ r. reading_whole deepest (encodes (document (an_object None inside r))) ≡ Ok (items_of (an_object None inside r))) (sym (nothing_is rest one))
    (top_is_read deepest (enclosed container.Object 0 inside) (enclosed_items container.Object 0 inside)
    (enclosed_is_read deepest container.Object [] 0 inside (omega arith)
    (layout_is_read deepest inside container.Object [] 1 First names.0 numbers.0 texts.0 (omega arith)))
    ∙ ap Ok (ap (λ x. item kinds.Object None (span 0 (0 + width (enclosed container.Object 0 inside))) (length (items_at 1 1 First inside)) ∷ x)
    (sym (append-nil (items_at 1 1 First inside)))))

-- A text that isn't too long is read whole.
pub text_is_whole : (longest deepest : ℕ) (bytes : List ℕ) → length bytes ≤ longest → reading longest deepest bytes ≡ reading_whole deepest bytes
unfolding reading
text_is_whole longest deepest bytes h = ap (λ b. cond b (reading_whole deepest bytes) (reading_front deepest (take longest bytes))) (le-leb
    (length bytes) longest h)

pub written_is_read : (longest deepest : ℕ) (value : Json) → is_one value ≡ true → are_named false value ≡ true → numbers_fit value ≡ true
    → are_scalars value ≡ true → nesting value ≤ deepest → width (document value) ≤ longest
    → reading longest deepest (encodes (document value)) ≡ Ok (items_of value)
written_is_read longest deepest value one named fit scalar h k =
    text_is_whole longest deepest (encodes (document value)) k ∙ document_is_read deepest value one named fit scalar h
