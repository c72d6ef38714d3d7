-- Messages that grow by pieces.
use Rattle.std.specs.Prelude.{◌≡◌, ℕ, List, ◌++◌}
use Rattle.schematron_texts.specs.Messages.{Written, message_of}

-- Whatever a message was that of, it is now that of it and the piece.
abbrev pub Says : List ℕ → Written → Written → Type 0
Says piece old new = (told : List ℕ) → old ≡ message_of told → new ≡ message_of (told ++ piece)
