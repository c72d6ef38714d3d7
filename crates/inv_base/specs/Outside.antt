-- What a shelf, which gives files, and a sink, which takes bytes, show of themselves, and what their calls keep.
use Rattle.std.specs.Prelude.{◌≡◌, ℕ, ◌<◌, ◌≤◌, List, ◌++◌, length, take, Option, Some, option_map, Result, MatchResult, IfOk, OnOk, IsTrue}
use Rattle.inv_base.specs.Counts.{CountsFaults, next_count}
use Rattle.inv_base.specs.Files.{Files, bytes_under, is_present}

-- A shelf's files and the bytes left of the open input, both only where it tells them; its counts of faults and of opens.
pub record ShelfView : Type 0 where
  pub held : Option Files
  pub left : Option (List ℕ)
  pub faults : ℕ
  pub opens : ℕ

-- The bytes that a sink has taken, where it tells them, and its count of faults.
pub record SinkView : Type 0 where
  pub told : Option (List ℕ)
  pub faults : ℕ

-- P holds of the value, where one is told.
abbrev pub WhereTold : {A : Type 0} → Option A → (A → Type 0) → Type 0
WhereTold {A} told P = (value : A) → told ≡ Some value → P value

-- what is told, with the piece behind it
abbrev pub appended : List ℕ → Option (List ℕ) → Option (List ℕ)
appended piece told = option_map (λ bytes. bytes ++ piece) told

-- what is told, with the piece before it
abbrev pub ahead_of : List ℕ → Option (List ℕ) → Option (List ℕ)
ahead_of piece told = option_map (λ bytes. piece ++ bytes) told

-- What an open of the name keeps.
pub record Opens {T E : Type 0} (result : Result T E) (name : List ℕ) (before after : ShelfView) : Type 0 where
  -- the files stay, and whether they are told
  pub held : after.held ≡ before.held
  -- all bytes of the file are left; behind a failure what was open is left as it was
  pub left : MatchResult result (λ _. after.left ≡ option_map (bytes_under name) before.held) (λ _. after.left ≡ before.left)
  -- an absent name is never opened
  pub present : OnOk result (WhereTold before.held (λ files. IsTrue (is_present name files)))
  pub faults : CountsFaults result before.faults after.faults
  pub opens : after.opens ≡ next_count before.opens

-- What a read keeps that leaves these bytes in the buffer.
pub record Reads {E : Type 0} (result : Result ℕ E) (buffer : List ℕ) (before after : ShelfView) : Type 0 where
  pub held : after.held ≡ before.held
  pub bound : IfOk result (λ n. n ≤ length buffer)
  -- the bytes at the front of the buffer were the next ones of the input
  pub left : MatchResult result (λ n. before.left ≡ ahead_of (take n buffer) after.left) (λ _. after.left ≡ before.left)
  -- no byte comes only at the end, or into no room
  pub end : IfOk result (λ n. n ≡ 0 → 0 < length buffer → WhereTold after.left (λ left. length left ≡ 0))
  pub faults : CountsFaults result before.faults after.faults
  pub opens : after.opens ≡ before.opens

-- What a write of the piece keeps.
pub record Accepts {E : Type 0} (result : Result ℕ E) (piece : List ℕ) (before after : SinkView) : Type 0 where
  pub bound : IfOk result (λ n. n ≤ length piece)
  pub progress : IfOk result (λ n. 0 < length piece → 0 < n)
  -- the bytes at the front of the piece were taken; behind a failure none were
  pub told : MatchResult result (λ n. after.told ≡ appended (take n piece) before.told) (λ _. after.told ≡ before.told)
  pub faults : CountsFaults result before.faults after.faults
