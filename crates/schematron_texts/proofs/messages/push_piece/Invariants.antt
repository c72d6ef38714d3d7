use Rattle.std.proofs.Common.{◌≡◌, ◌++◌, ℕ, List, length, take, string_bytes, chars}
use Rattle.schematron_texts.specs.Messages.{message_of}
use Rattle.schematron_texts.proofs.messages.push_piece.Given as goal

-- the message of what was told before and of the characters so far
abbrev pub invariant-characters : goal.invariant-characters
invariant-characters l =
    (told : List ℕ) → record { text = chars (string_bytes l.fn.text); begun = l.fn.spacing.begun; waits = l.fn.spacing.waits } ≡ message_of told
    → record { text = chars (string_bytes l.text); begun = l.spacing.begun; waits = l.spacing.waits } ≡ message_of
    (told ++ take (length l.yielded) (chars l.piece))
