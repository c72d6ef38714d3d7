-- Bytes that are passed over leave everything as it is.
use Rattle.std.proofs.Common.{◌≡◌, ℕ, ◌+◌, suc, zero, Bool, true, false, not, cond, List, [], ◌∷◌, drop, Option, Some, None, Result, Ok, Err, refl, sym, ap}
use Rattle.std.proofs.Common.{◌∙◌, subst, arith, eqb, ltb, ◌||◌, ◌==◌, nat_lt, true≢false}
use Rattle.std.specs.List.{position_or_len}
use Rattle.json_reading.specs.declared.fault.JsonFault.{JsonFault}
use Rattle.json_reading.specs.declared.item.Item.{Item}
use Rattle.json_reading.specs.declared.item.Span.{Span}
use Rattle.json_reading.specs.declared.mode.Inside.{Inside}
use Rattle.json_reading.specs.declared.mode.Inside.TheVariants as inside
use Rattle.json_reading.specs.declared.mode.Mode.{Mode}
use Rattle.json_reading.specs.declared.mode.Mode.TheVariants as mode
use Rattle.json_reading.specs.declared.mode.Role.{Role}
use Rattle.json_reading.specs.declared.mode.TextMode.{TextMode}
use Rattle.json_reading.specs.declared.mode.Turn.{Turn}
use Rattle.json_reading.specs.declared.reader.Open.{Open}
use Rattle.json_reading.specs.Strings.{ends_plain, going, ending, escaping, wide, stops, in_plain, text_turn, is_plain_inside, plain_len, idle_len}
use Rattle.json_reading.specs.Turns.{turn}
use Rattle.json_reading.specs.Reading.{State, number_ended, act, step, run}

-- in a string, where a character comes next
abbrev text : ℕ → Bool → Role → TextMode
text start escaped role = record { start = start; escaped = escaped; role = role; inside = inside.Plain }

abbrev state : Mode → Option Span → List Open → List Item → State
state m name around items = record { mode = m; name = name; around = around; items = items }

either_false : (a b : Bool) → (a || b) ≡ false → (a ≡ false) × (b ≡ false)
either_false true b h = absurd (true≢false h)
either_false false b h = (refl, h)

plain_byte : (at b : ℕ) (t : TextMode) → ends_plain b ≡ false → in_plain at b t ≡ going t inside.Plain
unfolding in_plain
plain_byte at b t h =
    let low : (nat_lt b 0x20 ≡ false) × ((nat_lt 0x7F b || (b == 0x22 || b == 0x5C)) ≡ false) = either_false _ _ h in
    let high : (nat_lt 0x7F b ≡ false) × ((b == 0x22 || b == 0x5C) ≡ false) = either_false _ _ low.1 in
    let quote : ((b == 0x22) ≡ false) × ((b == 0x5C) ≡ false) = either_false _ _ high.1 in
    rw (quote.0, quote.1, low.0, high.0) refl

module _ (deepest : ℕ) (start : ℕ) (escaped : Bool) (role : Role) (name : Option Span) (around : List Open) (items : List Item) where
  plain_state : State
  plain_state = state (mode.Text (text start escaped role)) name around items

  plain_step : (at b : ℕ) → ends_plain b ≡ false → step deepest at b plain_state ≡ Ok plain_state
  unfolding plain_state step number_ended turn text_turn act
  plain_step at b h = ap (λ t. act deepest at t plain_state) (plain_byte at b (text start escaped role) h)

-- what is read behind a byte
abbrev pub goes_on : ℕ → ℕ → List ℕ → Result State JsonFault → Result State JsonFault
goes_on deepest at bytes (Ok next) = run deepest at bytes next
goes_on deepest at bytes (Err f) = Err f

pub run_step : (deepest at b : ℕ) (bytes : List ℕ) (s : State) → run deepest at (b ∷ bytes) s ≡ goes_on deepest (suc at) bytes (step deepest at b s)
run_step deepest at b bytes s = elim (step deepest at b s) as (λ r. elim r [ Ok next ↦ run deepest (suc at) bytes next | Err f ↦ Err f ]
    ≡ goes_on deepest (suc at) bytes r) [ Ok next ↦ refl | Err f ↦ refl ]

-- nothing is passed over
stays : (deepest at : ℕ) (bytes : List ℕ) (s : State) → run deepest at bytes s ≡ run deepest (at + 0) (drop 0 bytes) s
stays deepest at bytes s = ap (λ k. run deepest k bytes s) (omega arith)

-- one more is passed over
pub passes : (deepest at n : ℕ) (b : ℕ) (bytes : List ℕ) (old new : State) → step deepest at b old ≡ Ok new
    → run deepest (suc at) bytes new ≡ run deepest (suc at + n) (drop n bytes) new
    → run deepest at (b ∷ bytes) old ≡ run deepest (at + (1 + n)) (drop (1 + n) (b ∷ bytes)) new
passes deepest at n b bytes old new done rest =
    let counted : suc at + n ≡ at + (1 + n) = omega arith in
    let dropped : suc n ≡ 1 + n = omega arith in
    run_step deepest at b bytes old
    ∙ (ap (goes_on deepest (suc at) bytes) done
    ∙ (rest
    ∙ (ap (λ k. run deepest k (drop n bytes) new) counted
    ∙ ap (λ m. run deepest (at + (1 + n)) (drop m (b ∷ bytes)) new) dropped)))

module _ (deepest : ℕ) (start : ℕ) (escaped : Bool) (role : Role) (name : Option Span) (around : List Open) (items : List Item) where
  passed_by : (test : Bool) (at n b : ℕ) (bytes : List ℕ) → ends_plain b ≡ test
      → ((k : ℕ) → run deepest k bytes (plain_state deepest start escaped role name around items)
      ≡ run deepest (k + n) (drop n bytes) (plain_state deepest start escaped role name around items))
      → run deepest at (b ∷ bytes) (plain_state deepest start escaped role name around items)
      ≡ run deepest (at + cond (not test) (1 + n) 0) (drop (cond (not test) (1 + n) 0) (b ∷ bytes)) (plain_state deepest start escaped role name around items)
  passed_by true at n b bytes h rest = stays deepest at (b ∷ bytes) _
  passed_by false at n b bytes h rest = passes deepest at n b bytes _ _ (plain_step deepest start escaped role name around items at b h) (rest (suc at))

  passed : (bytes : List ℕ) (at : ℕ) → run deepest at bytes (plain_state deepest start escaped role name around items)
      ≡ run deepest (at + position_or_len ends_plain bytes) (drop (position_or_len ends_plain bytes) bytes) (plain_state deepest start escaped role name
      around items)
  passed [] at = stays deepest at [] _
  passed (b ∷ bytes) at = passed_by (ends_plain b) at (position_or_len ends_plain bytes) b bytes refl (λ k. passed bytes k)

  idle_inside : (i : Inside) (bytes : List ℕ) (at : ℕ) →
      let s = state (mode.Text (record { start = start; escaped = escaped; role = role; inside = i })) name around items in
      run deepest at bytes s ≡ run deepest (at + plain_len i bytes) (drop (plain_len i bytes) bytes) s
  unfolding plain_state
  idle_inside inside.Plain bytes at = passed bytes at
  idle_inside inside.Escape bytes at = stays deepest at bytes _
  idle_inside (inside.Hex left) bytes at = stays deepest at bytes _
  idle_inside (inside.Tail tail) bytes at = stays deepest at bytes _

idle_by : (deepest : ℕ) (m : Mode) (name : Option Span) (around : List Open) (items : List Item) (bytes : List ℕ) (at : ℕ) →
    run deepest at bytes (state m name around items) ≡ run deepest (at + idle_len m bytes) (drop (idle_len m bytes) bytes) (state m name around items)
unfolding idle_len
idle_by deepest (mode.Text t) name around items bytes at = idle_inside deepest t.start t.escaped t.role name around items t.inside bytes at
idle_by deepest _ name around items bytes at = stays deepest at bytes _

-- what can be passed over leaves what is read as it is
pub idle : (deepest at : ℕ) (bytes : List ℕ) (s : State) → run deepest at bytes s ≡ run deepest (at + idle_len s.mode bytes) (drop (idle_len s.mode bytes)
    bytes) s
idle deepest at bytes s = idle_by deepest s.mode s.name s.around s.items bytes at
