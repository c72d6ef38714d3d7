use Rattle.std.proofs.Common.{◌≡◌, drop}
use Rattle.json_reading.specs.Texts.{behind, text_of, text_behind}
use Rattle.json_reading.proofs.texts.put_text.Given as goal

-- the text so far, and what the rest says, are the text before and what all say
abbrev pub invariant-bytes : goal.invariant-bytes
invariant-bytes l =
    behind l.text.items (text_behind l.pending (drop l.byte-index l.bytes)) ≡ behind l.initial.text.items (text_of l.bytes)
