-- What holds of every state that bytes lead to: the bounds of the next byte of a character leave one; and what stops, stops at the byte
-- that is read, but for what isn't UTF-8.
use Rattle.std.proofs.Common.{◌≡◌, ◌⊎◌, ℕ, ◌≤◌, Bool, true, false, cond, nat_lt, nat_le, ◌==◌, ◌||◌, List, [], ◌∷◌, length, Option, Some, None, Result, Ok}
use Rattle.std.proofs.Common.{Err, refl, inl, inr, lit≤, suc, ◌+◌, arith}
use Rattle.json_reading.specs.declared.fault.JsonFault.{JsonFault}
use Rattle.json_reading.specs.declared.fault.JsonKind.{JsonKind}
use Rattle.json_reading.specs.declared.fault.JsonKind.TheVariants.{NotUtf8, Truncated}
use Rattle.json_reading.specs.declared.item.Container.{Container}
use Rattle.json_reading.specs.declared.item.Container.TheVariants as container
use Rattle.json_reading.specs.declared.item.Span.{Span}
use Rattle.json_reading.specs.declared.mode.Form.{Form}
use Rattle.json_reading.specs.declared.mode.Inside.{Inside}
use Rattle.json_reading.specs.declared.mode.Inside.TheVariants as inside
use Rattle.json_reading.specs.declared.mode.Letters.{Letters}
use Rattle.json_reading.specs.declared.mode.Mode.{Mode}
use Rattle.json_reading.specs.declared.mode.Mode.TheVariants as mode
use Rattle.json_reading.specs.declared.mode.NumberMode.{NumberMode}
use Rattle.json_reading.specs.declared.mode.Role.{Role}
use Rattle.json_reading.specs.declared.mode.Role.TheVariants as role
use Rattle.json_reading.specs.declared.mode.Tail.{Tail}
use Rattle.json_reading.specs.declared.mode.TextMode.{TextMode}
use Rattle.json_reading.specs.declared.mode.Turn.{Turn}
use Rattle.json_reading.specs.declared.mode.Turn.TheVariants.{Goes, Stops, Names, Tells, Begins, Closes}
use Rattle.json_reading.specs.declared.mode.WordMode.{WordMode}
use Rattle.json_reading.specs.declared.reader.Open.{Open}
use Rattle.json_reading.specs.Bytes.{is_space, is_hex, is_short}
use Rattle.json_reading.specs.Numbers.{form_begun, form_behind}
use Rattle.json_reading.specs.Words.{word_begun, letter, longer}
use Rattle.json_reading.specs.Strings.{short_tail, long_tail, tail_of, ending, wide, wide_by, told_by, in_plain, in_escape, in_hex, in_tail, text_turn}
use Rattle.json_reading.specs.Strings.{text_turn_by}
use Rattle.json_reading.specs.Turns.{plain_begun, plain_begun_by, word_begun_by, value_begun, name_begun, at_value, at_start, at_byte, at_first_item}
use Rattle.json_reading.specs.Turns.{at_first_member, at_name, at_colon, at_comma, behind_inside, at_behind, in_number, in_number_by, lettered, lettered_by}
use Rattle.json_reading.specs.Turns.{in_word, turn}
use Rattle.json_reading.specs.Reading.{State, innermost, number_ended, settled, settled_by, act, turned, step, closed_by, begun_within}

abbrev pub GoodTail : ℕ → Tail → Type 0
GoodTail at tail = (tail.low ≤ tail.high) × (tail.at ≤ at)

abbrev pub GoodInside : ℕ → Inside → Type 0
GoodInside at inside.Plain = Unit {0}
GoodInside at inside.Escape = Unit {0}
GoodInside at (inside.Hex left) = Unit {0}
GoodInside at (inside.Tail tail) = GoodTail at tail

abbrev pub Good : ℕ → Mode → Type 0
Good at (mode.Text text) = GoodInside at text.inside
Good at _ = Unit {0}

-- whether the kind is that of a text that is cut off
abbrev pub is_cut : JsonKind → Bool
is_cut Truncated = true
is_cut _ = false

abbrev pub StopsHere : ℕ → JsonFault → Type 0
StopsHere at f = ((f.kind ≡ NotUtf8) ⊎ (f.at ≡ at)) × (is_cut f.kind ≡ false) × (f.at ≤ at)

abbrev pub GoodTurn : ℕ → Turn → Type 0
GoodTurn at (Goes mode) = Good (suc at) mode
GoodTurn at (Stops f) = StopsHere at f
GoodTurn at _ = Unit {0}

abbrev pub GoodResult : ℕ → Result State JsonFault → Type 0
GoodResult at (Ok next) = Good (suc at) next.mode
GoodResult at (Err f) = StopsHere at f

choose_turn : (at : ℕ) (b : Bool) (x y : Turn) → GoodTurn at x → GoodTurn at y → GoodTurn at (cond b x y)
choose_turn at true x y g h = g
choose_turn at false x y g h = h

abbrev GoodTails : ℕ → Option Tail → Type 0
GoodTails at (Some tail) = GoodTail (suc at) tail
GoodTails at None = Unit {0}

choose_tail : (at : ℕ) (b : Bool) (x y : Option Tail) → GoodTails at x → GoodTails at y → GoodTails at (cond b x y)
choose_tail at true x y g h = g
choose_tail at false x y g h = h

good_tail : (at b : ℕ) → GoodTails at (tail_of at b)
good_tail at b =
    choose_tail at (nat_lt b 0xF0) _ _
    (choose_tail at (nat_lt b 0xC2) _ _ tt
    (choose_tail at (nat_lt b 0xE0) _ _ (lit≤ tt, omega arith)
    (choose_tail at (b == 0xE0) _ _ (lit≤ tt, omega arith)
    (choose_tail at (b == 0xED) _ _ (lit≤ tt, omega arith) (lit≤ tt, omega arith)))))
    (choose_tail at (b == 0xF0) _ _ (lit≤ tt, omega arith)
    (choose_tail at (nat_lt b 0xF4) _ _ (lit≤ tt, omega arith)
    (choose_tail at (b == 0xF4) _ _ (lit≤ tt, omega arith) tt)))

good_wide : (at : ℕ) (text : TextMode) (tail : Option Tail) → GoodTails at tail → GoodTurn at (wide_by at text tail)
good_wide at text (Some tail) g = g
good_wide at text None g = (inl refl, refl, omega arith)

good_told : (at : ℕ) (r : Role) (span : Span) → GoodTurn at (told_by r span)
good_told at role.Name span = tt
good_told at role.Value span = tt

good_plain : (at b : ℕ) (text : TextMode) → GoodTurn at (in_plain at b text)
unfolding in_plain
good_plain at b text =
    choose_turn at (b == 0x22) _ _ (good_told at text.role _)
    (choose_turn at (b == 0x5C) _ _ tt
    (choose_turn at (nat_lt b 0x20) _ _ (inr refl, refl, omega arith)
    (choose_turn at (nat_lt 0x7F b) _ _ (good_wide at text (tail_of at b) (good_tail at b)) tt)))

good_escape : (at b : ℕ) (text : TextMode) → GoodTurn at (in_escape at b text)
unfolding in_escape
good_escape at b text = choose_turn at (is_short b) _ _ tt (choose_turn at (b == 0x75) _ _ tt (inr refl, refl, omega arith))

good_hex : (at b : ℕ) (text : TextMode) (left : ℕ) → GoodTurn at (in_hex at b text left)
unfolding in_hex
good_hex at b text left = choose_turn at (is_hex b) _ _ (choose_turn at (nat_le left 1) _ _ tt tt) (inr refl, refl, omega arith)

good_in_tail : (at b : ℕ) (text : TextMode) (tail : Tail) → GoodTail at tail → GoodTurn at (in_tail b text tail)
unfolding in_tail
good_in_tail at b text tail g =
    let here : tail.at ≤ at = g.1 in
    choose_turn at (nat_lt b tail.low || nat_lt tail.high b) _ _ (inl refl, refl, here)
    (choose_turn at (nat_le tail.left 1) _ _ tt (lit≤ tt, omega (arith, here)))

good_text_by : (at b : ℕ) (text : TextMode) (i : Inside) → GoodInside at i → GoodTurn at (text_turn_by at b text i)
good_text_by at b text inside.Plain g = good_plain at b text
good_text_by at b text inside.Escape g = good_escape at b text
good_text_by at b text (inside.Hex left) g = good_hex at b text left
good_text_by at b text (inside.Tail tail) g = good_in_tail at b text tail g

good_text : (at b : ℕ) (text : TextMode) → GoodInside at text.inside → GoodTurn at (text_turn at b text)
unfolding text_turn
good_text at b text g = good_text_by at b text text.inside g

good_word_begun : (at : ℕ) (letters : Option Letters) → GoodTurn at (word_begun_by at letters)
good_word_begun at (Some letters) = tt
good_word_begun at None = (inr refl, refl, omega arith)

good_plain_begun_by : (at b : ℕ) (form : Option Form) → GoodTurn at (plain_begun_by at b form)
good_plain_begun_by at b (Some form) = tt
good_plain_begun_by at b None = good_word_begun at (word_begun b)

good_value_begun : (at b : ℕ) → GoodTurn at (value_begun at b)
unfolding value_begun plain_begun
good_value_begun at b = choose_turn at (b == 0x22) _ _ tt (choose_turn at (b == 0x7B) _ _ tt (choose_turn at (b == 0x5B) _ _ tt (good_plain_begun_by at b
    (form_begun b))))

good_name_begun : (at b : ℕ) → GoodTurn at (name_begun at b)
unfolding name_begun
good_name_begun at b = choose_turn at (b == 0x22) _ _ tt (inr refl, refl, omega arith)

good_at_value : (at b : ℕ) → GoodTurn at (at_value at b)
unfolding at_value
good_at_value at b = choose_turn at (is_space b) _ _ tt (good_value_begun at b)

good_at_byte : (at b wanted : ℕ) (m : Mode) → Good (suc at) m → GoodTurn at (at_byte at b wanted m)
unfolding at_byte
good_at_byte at b wanted m g = choose_turn at (b == wanted) _ _ g (inr refl, refl, omega arith)

good_at_comma : (at b bracket : ℕ) (m : Mode) → Good (suc at) m → GoodTurn at (at_comma at b bracket m)
unfolding at_comma
good_at_comma at b bracket m g = choose_turn at (b == 0x2C) _ _ g (choose_turn at (b == bracket) _ _ tt (inr refl, refl, omega arith))

good_behind_inside : (at b : ℕ) (c : Option Container) → GoodTurn at (behind_inside at b c)
unfolding behind_inside
good_behind_inside at b (Some container.Object) = good_at_comma at b 0x7D mode.Name tt
good_behind_inside at b (Some container.Array) = good_at_comma at b 0x5D mode.Value tt
good_behind_inside at b None = (inr refl, refl, omega arith)

good_in_number : (at : ℕ) (number : NumberMode) (form : Option Form) → GoodTurn at (in_number_by at number form)
good_in_number at number (Some form) = tt
good_in_number at number None = (inr refl, refl, omega arith)

good_lettered : (at : ℕ) (word : WordMode) (letters : Option Letters) → GoodTurn at (lettered_by at word letters)
good_lettered at word (Some letters) = tt
good_lettered at word None = tt

pub good_turn : (at b : ℕ) (m : Mode) (c : Option Container) → Good at m → GoodTurn at (turn at b m c)
unfolding turn at_start at_first_item at_first_member at_name at_colon at_behind in_number lettered in_word
good_turn at b mode.Start c g = choose_turn at (b == 0xEF) _ _ tt (good_at_value at b)
good_turn at b mode.SecondOfMark c g = good_at_byte at b 0xBB mode.ThirdOfMark tt
good_turn at b mode.ThirdOfMark c g = good_at_byte at b 0xBF mode.Value tt
good_turn at b mode.Value c g = good_at_value at b
good_turn at b mode.FirstItem c g = choose_turn at (is_space b) _ _ tt (choose_turn at (b == 0x5D) _ _ tt (good_value_begun at b))
good_turn at b mode.FirstMember c g = choose_turn at (is_space b) _ _ tt (choose_turn at (b == 0x7D) _ _ tt (good_name_begun at b))
good_turn at b mode.Name c g = choose_turn at (is_space b) _ _ tt (good_name_begun at b)
good_turn at b mode.Colon c g = choose_turn at (is_space b) _ _ tt (good_at_byte at b 0x3A mode.Value tt)
good_turn at b mode.Behind c g = choose_turn at (is_space b) _ _ tt (good_behind_inside at b c)
good_turn at b (mode.Text text) c g = good_text at b text g
good_turn at b (mode.Number number) c g = good_in_number at number (form_behind number.form b)
good_turn at b (mode.Word word) c g = choose_turn at (b == letter word.letters) _ _ (good_lettered at word (longer word.letters)) (inr refl, refl, omega arith)

choose_result : (at : ℕ) (b : Bool) (x y : Result State JsonFault) → GoodResult at x → GoodResult at y → GoodResult at (cond b x y)
choose_result at true x y g h = g
choose_result at false x y g h = h

good_closed : (at : ℕ) (s : State) (around : List Open) → GoodResult at (closed_by at s around)
good_closed at s [] = (inr refl, refl, omega arith)
good_closed at s (o ∷ around) = tt

good_begun : (deepest at : ℕ) (c : Container) (s : State) → GoodResult at (begun_within deepest at c s)
good_begun deepest at container.Object s = choose_result at (nat_lt (length s.around) deepest) _ _ tt (inr refl, refl, omega arith)
good_begun deepest at container.Array s = choose_result at (nat_lt (length s.around) deepest) _ _ tt (inr refl, refl, omega arith)

good_act : (deepest at : ℕ) (t : Turn) (s : State) → GoodTurn at t → GoodResult at (act deepest at t s)
unfolding act
good_act deepest at (Goes m) s g = g
good_act deepest at (Stops f) s g = g
good_act deepest at (Names name) s g = tt
good_act deepest at (Tells kind value) s g = tt
good_act deepest at (Begins c) s g = good_begun deepest at c s
good_act deepest at Closes s g = good_closed at s s.around

good_settled_by : (at : ℕ) (s : State) (number : Option NumberMode) → Good at s.mode → Good at (settled_by at s number).mode
good_settled_by at s (Some number) g = tt
good_settled_by at s None g = g

-- a byte leads from a good state to a good state, or stops here
pub good_step : (deepest at b : ℕ) (s : State) → Good at s.mode → GoodResult at (step deepest at b s)
unfolding step
good_step deepest at b s g =
    let t = settled at (Some b) s in
    good_act deepest at (turn at b t.mode (innermost t.around)) t
    (good_turn at b t.mode (innermost t.around) (good_settled_by at s (number_ended s.mode (Some b)) g))
