use Rattle.std.proofs.Common.{◌≡◌, length, drop}
use Rattle.std.specs.Str.{chars}
use Rattle.xsd_pattern.specs.Lexing.{put_before, tokens_from, tokens_of}
use Rattle.xsd_pattern.proofs.lexing.read_tokens.Given as goal

abbrev pub invariant-text : goal.invariant-text
invariant-text l = put_before l.tokens (tokens_from l.mode l.members (drop (length l.yielded) (chars l.text))) ≡ put_before l.initial.tokens (tokens_of
    (chars l.text))
