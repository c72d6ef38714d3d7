-- What is read under a limit on depth is read under a higher one.
use Rattle.std.proofs.Common.{◌≡◌, ℕ, ◌+◌, suc, ◌<◌, ◌≤◌, Bool, true, false, cond, nat_lt, nat_le, List, [], ◌∷◌, length, take, Some, Result, Ok, Err}
use Rattle.std.proofs.Common.{refl, ap, sym, ◌∙◌, arith}
use Rattle.std.proofs.lemmas.Bool.{ltb-true, lt-ltb}
use lib.Utf8.{encodes}
use Rattle.json_text.specs.Json.{Json, are_named, nesting}
use Rattle.json_text.specs.Layout.{document}
use Rattle.json_laws.specs.Reading.{is_one, numbers_fit}
use Rattle.json_reading.specs.declared.fault.JsonFault.{JsonFault}
use Rattle.json_reading.specs.declared.fault.JsonKind.TheVariants.{TooDeep}
use Rattle.json_reading.specs.declared.item.Container.{Container}
use Rattle.json_reading.specs.declared.item.Item.{Item}
use Rattle.json_reading.specs.declared.mode.Turn.{Turn}
use Rattle.json_reading.specs.declared.mode.Turn.TheVariants.{Goes, Stops, Names, Tells, Begins, Closes}
use Rattle.json_reading.specs.Turns.{turn}
use Rattle.json_reading.specs.Reading.{State, start, fault, innermost, settled, begun, begun_within, act, step, run, ended_behind, cut_behind}
use Rattle.json_reading.specs.Reading.{reading_whole, reading_front, reading}
use Rattle.json_reading.proofs.IdleLemmas.{goes_on, run_step}
use Rattle.json_reading_laws.proofs.Steps.{run_ok}
use Rattle.read_back_laws.specs.Items.{are_scalars, items_of}
use Rattle.read_back_laws.proofs.Values.{document_is_read}

module _ (low high : ℕ) (above : low ≤ high) where
  begun_deeper : (at : ℕ) (c : Container) (s next : State) (b : Bool) → nat_lt (length s.around) low ≡ b
      → cond b (Ok (begun at c s)) (Err (fault TooDeep at)) ≡ Ok next → begun_within high at c s ≡ Ok next
  begun_deeper at c s next true e h =
      let under : length s.around < low = ltb-true (length s.around) low e in
      ap (λ b. cond b (Ok (begun at c s)) (Err (fault TooDeep at))) (lt-ltb (length s.around) high (omega arith)) ∙ h
  begun_deeper at c s next false e h = cc

  act_deeper : (at : ℕ) (t : Turn) (s next : State) → act low at t s ≡ Ok next → act high at t s ≡ Ok next
  unfolding act
  act_deeper at (Goes m) s next h = h
  act_deeper at (Stops f) s next h = h
  act_deeper at (Names name) s next h = h
  act_deeper at (Tells kind value) s next h = h
  act_deeper at (Begins c) s next h = begun_deeper at c s next (nat_lt (length s.around) low) refl h
  act_deeper at Closes s next h = h

  step_deeper : (at b : ℕ) (s next : State) → step low at b s ≡ Ok next → step high at b s ≡ Ok next
  unfolding step
  step_deeper at b s next h = let t = settled at (Some b) s in act_deeper at (turn at b t.mode (innermost t.around)) t next h

  run_deeper_by : (at b : ℕ) (bytes : List ℕ) (s last : State) (r : Result State JsonFault) → step low at b s ≡ r
      → ((next : State) → run low (suc at) bytes next ≡ Ok last → run high (suc at) bytes next ≡ Ok last)
      → goes_on low (suc at) bytes r ≡ Ok last → run high at (b ∷ bytes) s ≡ Ok last
  run_deeper_by at b bytes s last (Ok next) e rest h = run_ok high at b bytes s next (step_deeper at b s next e) ∙ rest next h
  run_deeper_by at b bytes s last (Err f) e rest h = cc

  run_deeper : (bytes : List ℕ) (at : ℕ) (s last : State) → run low at bytes s ≡ Ok last → run high at bytes s ≡ Ok last
  run_deeper [] at s last h = h
  run_deeper (b ∷ bytes) at s last h =
      run_deeper_by at b bytes s last (step low at b s) refl (λ next. run_deeper bytes (suc at) next last) (sym (run_step low at b bytes s) ∙ h)

  whole_deeper_by : (bytes : List ℕ) (items : List Item) (r : Result State JsonFault) → run low 0 bytes start ≡ r
      → ended_behind (length bytes) r ≡ Ok items → reading_whole high bytes ≡ Ok items
  whole_deeper_by bytes items (Ok last) e h = ap (ended_behind (length bytes)) (run_deeper bytes 0 start last e) ∙ h
  whole_deeper_by bytes items (Err f) e h = cc

  whole_deeper : (bytes : List ℕ) (items : List Item) → reading_whole low bytes ≡ Ok items → reading_whole high bytes ≡ Ok items
  whole_deeper bytes items h = whole_deeper_by bytes items (run low 0 bytes start) refl h

-- What is read is the whole text.
pub not_cut : (at : ℕ) (items : List Item) (r : Result State JsonFault) → cut_behind at r ≡ Ok items → ⊥
not_cut at items (Ok s) h = cc
not_cut at items (Err f) h = cc

read_whole : (longest deepest : ℕ) (bytes : List ℕ) (items : List Item) (b : Bool)
    → cond b (reading_whole deepest bytes) (reading_front deepest (take longest bytes)) ≡ Ok items → reading_whole deepest bytes ≡ Ok items
read_whole longest deepest bytes items true h = h
read_whole longest deepest bytes items false h =
    absurd (not_cut (length (take longest bytes)) items (run deepest 0 (take longest bytes) start) h)

-- Whatever is read of the text of a value are its items.
pub read_is_written : (longest deepest : ℕ) (value : Json) (items : List Item) → is_one value ≡ true → are_named false value ≡ true
    → numbers_fit value ≡ true → are_scalars value ≡ true → reading longest deepest (encodes (document value)) ≡ Ok items → items ≡ items_of value
unfolding reading
read_is_written longest deepest value items one named fit scalar h =
    let bytes = encodes (document value) in
    let enough = deepest + nesting value in
    let read : reading_whole deepest bytes ≡ Ok items = read_whole longest deepest bytes items (nat_le (length bytes) longest) h in
    let deeper : reading_whole enough bytes ≡ Ok items = whole_deeper deepest enough (omega arith) bytes items read in
    let written : reading_whole enough bytes ≡ Ok (items_of value) = document_is_read enough value one named fit scalar (omega arith) in
    cc (deeper, written)
