-- From each good state a text can go on to its end.
use Rattle.std.proofs.Common.{◌≡◌, ℕ, ◌+◌, ◌-◌, suc, zero, ◌<◌, ◌≤◌, Bool, true, false, cond, nat_lt, nat_le, ◌||◌, ◌==◌, List, [], ◌∷◌, ◌++◌, length}
use Rattle.std.proofs.Common.{Option, Some, None, Result, Ok, Err, refl, sym, ap, ◌∙◌, subst, arith, true≢false, lit≤, eq-eqb}
use Rattle.std.proofs.lemmas.Bool.{le-leb, le-ltb}
use Rattle.json_reading.specs.declared.fault.JsonFault.{JsonFault}
use Rattle.json_reading.specs.declared.item.Container.{Container}
use Rattle.json_reading.specs.declared.item.Container.TheVariants as container
use Rattle.json_reading.specs.declared.item.Item.{Item}
use Rattle.json_reading.specs.declared.item.ItemKind.TheVariants as kinds
use Rattle.json_reading.specs.declared.item.Span.{Span}
use Rattle.json_reading.specs.declared.mode.Form.{Form}
use Rattle.json_reading.specs.declared.mode.Form.TheVariants as form
use Rattle.json_reading.specs.declared.mode.Inside.{Inside}
use Rattle.json_reading.specs.declared.mode.Inside.TheVariants as inside
use Rattle.json_reading.specs.declared.mode.Letters.{Letters}
use Rattle.json_reading.specs.declared.mode.Letters.TheVariants as letters
use Rattle.json_reading.specs.declared.mode.Mode.{Mode}
use Rattle.json_reading.specs.declared.mode.Mode.TheVariants as mode
use Rattle.json_reading.specs.declared.mode.NumberMode.{NumberMode}
use Rattle.json_reading.specs.declared.mode.Role.{Role}
use Rattle.json_reading.specs.declared.mode.Role.TheVariants as role
use Rattle.json_reading.specs.declared.mode.Tail.{Tail}
use Rattle.json_reading.specs.declared.mode.TextMode.{TextMode}
use Rattle.json_reading.specs.declared.mode.WordMode.{WordMode}
use Rattle.json_reading.specs.declared.reader.Open.{Open}
use Rattle.json_reading.specs.Numbers.{form_behind, is_whole}
use Rattle.json_reading.specs.Words.{letter, longer, word_kind}
use Rattle.json_reading.specs.Strings.{going, in_plain, in_escape, in_hex, in_tail, text_turn}
use Rattle.json_reading.specs.Turns.{plain_begun, value_begun, name_begun, at_value, at_start, at_byte, at_first_item, at_first_member, at_name, at_colon}
use Rattle.json_reading.specs.Turns.{at_comma, behind_inside, at_behind, in_number, lettered, lettered_by, in_word, turn}
use Rattle.json_reading.specs.Reading.{State, number_ended, told, settled, span, act, turned, step, run, is_behind, ended, ended_behind, put, whole}
use Rattle.json_reading_laws.proofs.Steps.{run_ok}
use Rattle.json_reading_laws.proofs.Good.{Good}

abbrev state : Mode → Option Span → List Open → List Item → State
state m name around items = record { mode = m; name = name; around = around; items = items }

abbrev number : ℕ → Form → Mode
number start f = mode.Number (record { start = start; form = f })

abbrev text : ℕ → Bool → Role → Inside → Mode
text start escaped r i = mode.Text (record { start = start; escaped = escaped; role = r; inside = i })

abbrev word : ℕ → Letters → Mode
word start l = mode.Word (record { start = start; letters = l })

-- some bytes end the text
abbrev pub Completes : ℕ → ℕ → State → Type 0
Completes deepest at s = (more : List ℕ) × (items : List Item) × (ended_behind (at + length more) (run deepest at more s) ≡ Ok items)

abbrev closing : Container → ℕ
closing container.Object = 0x7D
closing container.Array = 0x5D

module _ (deepest : ℕ) where
  -- one byte, and then others
  by_byte : (at b : ℕ) (s next : State) → step deepest at b s ≡ Ok next → Completes deepest (suc at) next → Completes deepest at s
  by_byte at b s next h rest =
      let counted : at + length (b ∷ rest.0) ≡ suc at + length rest.0 = omega arith in (
        b ∷ rest.0,
        rest.1,
        ap (λ n. ended_behind n (run deepest at (b ∷ rest.0) s)) counted
            ∙ (ap (ended_behind (suc at + length rest.0)) (run_ok deepest at b rest.0 s next h) ∙ rest.2),
      )

  at_end : (at : ℕ) (s : State) (items : List Item) → ((n : ℕ) → ended n s ≡ Ok items) → Completes deepest at s
  at_end at s items h = ([], items, h (at + 0))

  turned_close : (c : Container) (o : Open) (os : List Open) (at : ℕ) (name : Option Span) (items : List Item) → o.container ≡ c
      → turned deepest at (closing c) (state mode.Behind name (o ∷ os) items) ≡ Ok (state mode.Behind name os (put items o.index (whole at o (length items))))
  unfolding turn at_behind behind_inside at_comma act
  turned_close container.Object o os at name items h =
      ap (λ k. act deepest at (at_behind at 0x7D (Some k)) (state mode.Behind name (o ∷ os) items)) h
  turned_close container.Array o os at name items h =
      ap (λ k. act deepest at (at_behind at 0x5D (Some k)) (state mode.Behind name (o ∷ os) items)) h

  behind_step : (c : Container) (o : Open) (os : List Open) (at : ℕ) (name : Option Span) (items : List Item) → o.container ≡ c
      → step deepest at (closing c) (state mode.Behind name (o ∷ os) items) ≡ Ok (state mode.Behind name os (put items o.index (whole at o (length items))))
  unfolding step number_ended
  behind_step c o os at name items h = turned_close c o os at name items h

  behind_completes : (around : List Open) (at : ℕ) (name : Option Span) (items : List Item) → Completes deepest at (state mode.Behind name around items)
  unfolding number_ended is_behind
  behind_completes [] at name items = at_end at _ items (λ n. refl)
  behind_completes (o ∷ os) at name items =
      by_byte at (closing o.container) _ _ (behind_step o.container o os at name items refl) (behind_completes os (suc at) name _)

  -- ---- numbers

  whole_end : (f : Form) (start : ℕ) (name : Option Span) (items : List Item) (n : ℕ) → is_whole f ≡ true
      → ended n (state (number start f) name [] items) ≡ Ok (items ++ record { kind = kinds.Number; name = name; value = span start n; inside = 0 } ∷ [])
  unfolding number_ended is_behind
  whole_end form.Minus start name items n h = absurd (true≢false (sym h))
  whole_end form.Zero start name items n h = refl
  whole_end form.Integer start name items n h = refl
  whole_end form.Point start name items n h = absurd (true≢false (sym h))
  whole_end form.Fraction start name items n h = refl
  whole_end form.Exponent start name items n h = absurd (true≢false (sym h))
  whole_end form.Sign start name items n h = absurd (true≢false (sym h))
  whole_end form.Power start name items n h = refl

  whole_settled : (f : Form) (c : Container) (at start : ℕ) (name : Option Span) (around : List Open) (items : List Item) → is_whole f ≡ true
      → settled at (Some (closing c)) (state (number start f) name around items) ≡ told kinds.Number (span start at) (state (number start f) name around items)
  unfolding number_ended form_behind
  whole_settled form.Minus c at start name around items h = absurd (true≢false (sym h))
  whole_settled form.Zero container.Object at start name around items h = refl
  whole_settled form.Zero container.Array at start name around items h = refl
  whole_settled form.Integer container.Object at start name around items h = refl
  whole_settled form.Integer container.Array at start name around items h = refl
  whole_settled form.Point c at start name around items h = absurd (true≢false (sym h))
  whole_settled form.Fraction container.Object at start name around items h = refl
  whole_settled form.Fraction container.Array at start name around items h = refl
  whole_settled form.Exponent c at start name around items h = absurd (true≢false (sym h))
  whole_settled form.Sign c at start name around items h = absurd (true≢false (sym h))
  whole_settled form.Power container.Object at start name around items h = refl
  whole_settled form.Power container.Array at start name around items h = refl

  number_step : (f : Form) (c : Container) (at start : ℕ) (o : Open) (os : List Open) (name : Option Span) (items : List Item) → is_whole f ≡ true
      → o.container ≡ c → (next : State) × (step deepest at (closing c) (state (number start f) name (o ∷ os) items) ≡ Ok next)
      × Completes deepest (suc at) next
  unfolding step
  number_step f c at start o os name items h k = (
    _,
    ap (turned deepest at (closing c)) (whole_settled f c at start name (o ∷ os) items h) ∙ turned_close c o os at None _ k,
    behind_completes os (suc at) None _,
  )

  whole_completes : (f : Form) (at start : ℕ) (name : Option Span) (around : List Open) (items : List Item) → is_whole f ≡ true
      → Completes deepest at (state (number start f) name around items)
  whole_completes f at start name [] items h = ([], _, whole_end f start name items (at + 0) h)
  whole_completes f at start name (o ∷ os) items h =
      let next = number_step f o.container at start o os name items h refl in
      by_byte at (closing o.container) _ next.0 next.1 next.2

  number_completes : (f : Form) (at start : ℕ) (name : Option Span) (around : List Open) (items : List Item)
      → Completes deepest at (state (number start f) name around items)
  unfolding step number_ended form_behind turn in_number act
  number_completes form.Minus at start name around items = by_byte at 0x30 _ (state (number start form.Zero) name around items) refl (whole_completes
      form.Zero (suc at) start name around items refl)
  number_completes form.Zero at start name around items = whole_completes form.Zero at start name around items refl
  number_completes form.Integer at start name around items = whole_completes form.Integer at start name around items refl
  number_completes form.Point at start name around items = by_byte at 0x30 _ (state (number start form.Fraction) name around items) refl (whole_completes
      form.Fraction (suc at) start name around items refl)
  number_completes form.Fraction at start name around items = whole_completes form.Fraction at start name around items refl
  number_completes form.Exponent at start name around items = by_byte at 0x30 _ (state (number start form.Power) name around items) refl (whole_completes
      form.Power (suc at) start name around items refl)
  number_completes form.Sign at start name around items = by_byte at 0x30 _ (state (number start form.Power) name around items) refl (whole_completes
      form.Power (suc at) start name around items refl)
  number_completes form.Power at start name around items = whole_completes form.Power at start name around items refl

  -- ---- values and names

  value_completes : (at : ℕ) (name : Option Span) (around : List Open) (items : List Item) → Completes deepest at (state mode.Value name around items)
  unfolding step number_ended turn at_value value_begun plain_begun act
  value_completes at name around items = by_byte at 0x30 _ (state (number at form.Zero) name around items) refl (whole_completes form.Zero (suc at) at name
      around items refl)

  colon_completes : (at : ℕ) (name : Option Span) (around : List Open) (items : List Item) → Completes deepest at (state mode.Colon name around items)
  unfolding step number_ended turn at_colon at_byte act
  colon_completes at name around items = by_byte at 0x3A _ (state mode.Value name around items) refl (value_completes (suc at) name around items)

  plain_completes : (r : Role) (at start : ℕ) (escaped : Bool) (name : Option Span) (around : List Open) (items : List Item)
      → Completes deepest at (state (text start escaped r inside.Plain) name around items)
  unfolding step number_ended turn text_turn in_plain act
  plain_completes role.Name at start escaped name around items = by_byte at 0x22 _ _ refl (colon_completes (suc at) _ around items)
  plain_completes role.Value at start escaped name around items = by_byte at 0x22 _ _ refl (behind_completes around (suc at) None _)

  escape_completes : (r : Role) (at start : ℕ) (escaped : Bool) (name : Option Span) (around : List Open) (items : List Item)
      → Completes deepest at (state (text start escaped r inside.Escape) name around items)
  unfolding step number_ended turn text_turn in_escape act
  escape_completes r at start escaped name around items = by_byte at 0x6E _ _ refl (plain_completes r (suc at) start escaped name around items)

  hex_step : (r : Role) (at start left : ℕ) (escaped : Bool) (name : Option Span) (around : List Open) (items : List Item)
      → step deepest at 0x30 (state (text start escaped r (inside.Hex left)) name around items)
      ≡ act deepest at (cond (nat_le left 1) (going (record { start = start; escaped = escaped; role = r; inside = inside.Hex left }) inside.Plain)
      (going (record { start = start; escaped = escaped; role = r; inside = inside.Hex left }) (inside.Hex (left - 1))))
      (state (text start escaped r (inside.Hex left)) name around items)
  unfolding step number_ended turn text_turn in_hex
  hex_step r at start left escaped name around items = refl

  hex_by : (test : Bool) (r : Role) (at start left : ℕ) (escaped : Bool) (name : Option Span) (around : List Open) (items : List Item)
      → nat_le left 1 ≡ test
      → (nat_le left 1 ≡ false → Completes deepest (suc at) (state (text start escaped r (inside.Hex (left - 1))) name around items))
      → Completes deepest at (state (text start escaped r (inside.Hex left)) name around items)
  unfolding act
  hex_by true r at start left escaped name around items e rest =
      by_byte at 0x30 _ (state (text start escaped r inside.Plain) name around items)
      (hex_step r at start left escaped name around items
      ∙ ap (λ b. act deepest at (cond b (going (record { start = start; escaped = escaped; role = r; inside = inside.Hex left }) inside.Plain)
      (going (record { start = start; escaped = escaped; role = r; inside = inside.Hex left }) (inside.Hex (left - 1))))
      (state (text start escaped r (inside.Hex left)) name around items)) e)
      (plain_completes r (suc at) start escaped name around items)
  hex_by false r at start left escaped name around items e rest =
      by_byte at 0x30 _ (state (text start escaped r (inside.Hex (left - 1))) name around items)
      (hex_step r at start left escaped name around items
      ∙ ap (λ b. act deepest at (cond b (going (record { start = start; escaped = escaped; role = r; inside = inside.Hex left }) inside.Plain)
      (going (record { start = start; escaped = escaped; role = r; inside = inside.Hex left }) (inside.Hex (left - 1))))
      (state (text start escaped r (inside.Hex left)) name around items)) e)
      (rest e)

  hex_completes : (fuel : ℕ) (r : Role) (at start left : ℕ) (escaped : Bool) (name : Option Span) (around : List Open) (items : List Item)
      → left ≤ fuel + 1 → Completes deepest at (state (text start escaped r (inside.Hex left)) name around items)
  hex_completes zero r at start left escaped name around items h =
      hex_by true r at start left escaped name around items (le-leb left 1 (omega (arith, h))) (λ e. absurd (true≢false (sym (le-leb left 1 (omega (
        arith,
        h,
      ))) ∙ e)))
  hex_completes (suc fuel) r at start left escaped name around items h =
      hex_by (nat_le left 1) r at start left escaped name around items refl
      (λ e. hex_completes fuel r (suc at) start (left - 1) escaped name around items (omega (arith, h)))

  abbrev later : ℕ → ℕ → Tail
  later at left = record { at = at; left = left - 1; low = 0x80; high = 0xBF }

  tail_turn : (t : TextMode) (tail : Tail) → tail.low ≤ tail.high
      → in_tail tail.low t tail ≡ cond (nat_le tail.left 1) (going t inside.Plain) (going t (inside.Tail (later tail.at tail.left)))
  unfolding in_tail
  tail_turn t tail h =
      let same : nat_lt tail.low tail.low ≡ false = le-ltb tail.low tail.low (omega arith) in
      let within : nat_lt tail.high tail.low ≡ false = le-ltb tail.high tail.low h in
      rw (same, within) refl

  tail_step : (r : Role) (at start : ℕ) (tail : Tail) (escaped : Bool) (name : Option Span) (around : List Open) (items : List Item) → tail.low ≤ tail.high
      → step deepest at tail.low (state (text start escaped r (inside.Tail tail)) name around items)
      ≡ act deepest at (cond (nat_le tail.left 1) (going (record { start = start; escaped = escaped; role = r; inside = inside.Tail tail }) inside.Plain)
      (going (record { start = start; escaped = escaped; role = r; inside = inside.Tail tail }) (inside.Tail (later tail.at tail.left))))
      (state (text start escaped r (inside.Tail tail)) name around items)
  unfolding step number_ended turn text_turn
  tail_step r at start tail escaped name around items h =
      ap (λ t. act deepest at t (state (text start escaped r (inside.Tail tail)) name around items))
      (tail_turn (record { start = start; escaped = escaped; role = r; inside = inside.Tail tail }) tail h)

  tail_by : (test : Bool) (r : Role) (at start : ℕ) (tail : Tail) (escaped : Bool) (name : Option Span) (around : List Open) (items : List Item)
      → tail.low ≤ tail.high
      → nat_le tail.left 1 ≡ test
      → (nat_le tail.left 1 ≡ false → Completes deepest (suc at) (state (text start escaped r (inside.Tail (later tail.at tail.left))) name around items))
      → Completes deepest at (state (text start escaped r (inside.Tail tail)) name around items)
  unfolding act
  tail_by true r at start tail escaped name around items h e rest =
      by_byte at tail.low _ (state (text start escaped r inside.Plain) name around items)
      (tail_step r at start tail escaped name around items h
      ∙ ap (λ b. act deepest at (cond b (going (record { start = start; escaped = escaped; role = r; inside = inside.Tail tail }) inside.Plain)
      (going (record { start = start; escaped = escaped; role = r; inside = inside.Tail tail }) (inside.Tail (later tail.at tail.left))))
      (state (text start escaped r (inside.Tail tail)) name around items)) e)
      (plain_completes r (suc at) start escaped name around items)
  tail_by false r at start tail escaped name around items h e rest =
      by_byte at tail.low _ (state (text start escaped r (inside.Tail (later tail.at tail.left))) name around items)
      (tail_step r at start tail escaped name around items h
      ∙ ap (λ b. act deepest at (cond b (going (record { start = start; escaped = escaped; role = r; inside = inside.Tail tail }) inside.Plain)
      (going (record { start = start; escaped = escaped; role = r; inside = inside.Tail tail }) (inside.Tail (later tail.at tail.left))))
      (state (text start escaped r (inside.Tail tail)) name around items)) e)
      (rest e)

  tail_completes : (fuel : ℕ) (r : Role) (at start : ℕ) (tail : Tail) (escaped : Bool) (name : Option Span) (around : List Open) (items : List Item)
      → tail.low ≤ tail.high → tail.left ≤ fuel + 1 → Completes deepest at (state (text start escaped r (inside.Tail tail)) name around items)
  tail_completes zero r at start tail escaped name around items g h =
      tail_by true r at start tail escaped name around items g (le-leb tail.left 1 (omega (arith, h)))
      (λ e. absurd (true≢false (sym (le-leb tail.left 1 (omega (arith, h))) ∙ e)))
  tail_completes (suc fuel) r at start tail escaped name around items g h =
      tail_by (nat_le tail.left 1) r at start tail escaped name around items g refl
      (λ e. tail_completes fuel r (suc at) start (later tail.at tail.left) escaped name around items (lit≤ tt) (omega (arith, h)))

  text_completes : (i : Inside) (r : Role) (at start : ℕ) (escaped : Bool) (name : Option Span) (around : List Open) (items : List Item)
      → Good at (text start escaped r i) → Completes deepest at (state (text start escaped r i) name around items)
  text_completes inside.Plain r at start escaped name around items g = plain_completes r at start escaped name around items
  text_completes inside.Escape r at start escaped name around items g = escape_completes r at start escaped name around items
  text_completes (inside.Hex left) r at start escaped name around items g = hex_completes left r at start left escaped name around items (omega arith)
  text_completes (inside.Tail tail) r at start escaped name around items g = tail_completes tail.left r at start tail escaped name around items g.0 (omega arith)

  -- ---- words

  word_turn : (at : ℕ) (w : WordMode) → in_word at (letter w.letters) w ≡ lettered at w
  unfolding in_word
  word_turn at w = let same : (letter w.letters == letter w.letters) ≡ true = eq-eqb (letter w.letters) (letter w.letters) refl in rw same refl

  word_step : (l : Letters) (at start : ℕ) (name : Option Span) (around : List Open) (items : List Item)
      → step deepest at (letter l) (state (word start l) name around items) ≡ act deepest at (lettered at (record { start = start; letters = l })) (state
      (word start l) name around items)
  unfolding step number_ended turn
  word_step l at start name around items =
      ap (λ t. act deepest at t (state (word start l) name around items)) (word_turn at (record { start = start; letters = l }))

  whole_word : (l : Letters) (at start : ℕ) (name : Option Span) (around : List Open) (items : List Item) → longer l ≡ None
      → Completes deepest at (state (word start l) name around items)
  unfolding lettered act
  whole_word l at start name around items h =
      by_byte at (letter l) _ (told (word_kind l) (span start (at + 1)) (state (word start l) name around items))
      (word_step l at start name around items
      ∙ ap (λ o. act deepest at (lettered_by at (record { start = start; letters = l }) o) (state (word start l) name around items)) h)
      (behind_completes around (suc at) None _)

  longer_word : (l next : Letters) (at start : ℕ) (name : Option Span) (around : List Open) (items : List Item) → longer l ≡ Some next
      → Completes deepest (suc at) (state (word start next) name around items) → Completes deepest at (state (word start l) name around items)
  unfolding lettered act
  longer_word l next at start name around items h rest =
      by_byte at (letter l) _ (state (word start next) name around items)
      (word_step l at start name around items
      ∙ ap (λ o. act deepest at (lettered_by at (record { start = start; letters = l }) o) (state (word start l) name around items)) h) rest

  word_completes : (l : Letters) (at start : ℕ) (name : Option Span) (around : List Open) (items : List Item)
      → Completes deepest at (state (word start l) name around items)
  unfolding longer
  word_completes letters.Tru at start name around items = whole_word letters.Tru at start name around items refl
  word_completes letters.Tr at start name around items = longer_word letters.Tr letters.Tru at start name around items refl (whole_word letters.Tru (suc at)
      start name around items refl)
  word_completes letters.T at start name around items =
      longer_word letters.T letters.Tr at start name around items refl (longer_word letters.Tr letters.Tru (suc at) start name around items refl
      (whole_word letters.Tru (suc (suc at)) start name around items refl))
  word_completes letters.Fals at start name around items = whole_word letters.Fals at start name around items refl
  word_completes letters.Fal at start name around items = longer_word letters.Fal letters.Fals at start name around items refl (whole_word letters.Fals (suc
      at) start name around items refl)
  word_completes letters.Fa at start name around items =
      longer_word letters.Fa letters.Fal at start name around items refl (longer_word letters.Fal letters.Fals (suc at) start name around items refl
      (whole_word letters.Fals (suc (suc at)) start name around items refl))
  word_completes letters.F at start name around items =
      longer_word letters.F letters.Fa at start name around items refl (longer_word letters.Fa letters.Fal (suc at) start name around items refl
      (longer_word letters.Fal letters.Fals (suc (suc at)) start name around items refl (whole_word letters.Fals (suc (suc (suc at))) start name around items
      refl)))
  word_completes letters.Nul at start name around items = whole_word letters.Nul at start name around items refl
  word_completes letters.Nu at start name around items = longer_word letters.Nu letters.Nul at start name around items refl (whole_word letters.Nul (suc at)
      start name around items refl)
  word_completes letters.N at start name around items =
      longer_word letters.N letters.Nu at start name around items refl (longer_word letters.Nu letters.Nul (suc at) start name around items refl
      (whole_word letters.Nul (suc (suc at)) start name around items refl))

  -- ---- all states

  name_completes : (m : Mode) (at : ℕ) (name : Option Span) (around : List Open) (items : List Item)
      → step deepest at 0x22 (state m name around items) ≡ Ok (state (text at false role.Name inside.Plain) name around items)
      → Completes deepest at (state m name around items)
  name_completes m at name around items h = by_byte at 0x22 _ _ h (plain_completes role.Name (suc at) at false name around items)

  digit_completes : (m : Mode) (at : ℕ) (name : Option Span) (around : List Open) (items : List Item)
      → step deepest at 0x30 (state m name around items) ≡ Ok (state (number at form.Zero) name around items)
      → Completes deepest at (state m name around items)
  digit_completes m at name around items h = by_byte at 0x30 _ _ h (whole_completes form.Zero (suc at) at name around items refl)

  mark_completes : (at : ℕ) (name : Option Span) (around : List Open) (items : List Item) → Completes deepest at (state mode.ThirdOfMark name around items)
  unfolding step number_ended turn at_byte act
  mark_completes at name around items = by_byte at 0xBF _ (state mode.Value name around items) refl (value_completes (suc at) name around items)

  completes_by : (m : Mode) (at : ℕ) (name : Option Span) (around : List Open) (items : List Item) → Good at m → Completes deepest at (state m name around items)
  unfolding step number_ended turn at_start at_value at_first_item at_first_member at_name name_begun value_begun plain_begun at_byte act
  completes_by mode.Start at name around items g = digit_completes mode.Start at name around items refl
  completes_by mode.SecondOfMark at name around items g = by_byte at 0xBB _ (state mode.ThirdOfMark name around items) refl (mark_completes (suc at) name
      around items)
  completes_by mode.ThirdOfMark at name around items g = mark_completes at name around items
  completes_by mode.Value at name around items g = value_completes at name around items
  completes_by mode.FirstItem at name around items g = digit_completes mode.FirstItem at name around items refl
  completes_by mode.FirstMember at name around items g = name_completes mode.FirstMember at name around items refl
  completes_by mode.Name at name around items g = name_completes mode.Name at name around items refl
  completes_by mode.Colon at name around items g = colon_completes at name around items
  completes_by mode.Behind at name around items g = behind_completes around at name items
  completes_by (mode.Text t) at name around items g = text_completes t.inside t.role at t.start t.escaped name around items g
  completes_by (mode.Number n) at name around items g = number_completes n.form at n.start name around items
  completes_by (mode.Word w) at name around items g = word_completes w.letters at w.start name around items

  pub completes : (at : ℕ) (s : State) → Good at s.mode → Completes deepest at s
  completes at s g = completes_by s.mode at s.name s.around s.items g
