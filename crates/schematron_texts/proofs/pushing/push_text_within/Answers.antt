use Rattle.std.proofs.Common.{string_bytes, arith}
use Rattle.std.proofs.lemmas.Str.{IsUtf8-string_bytes}
use Rattle.schematron_texts.proofs.CharacterLemmas.{text_behind}
use Rattle.schematron_texts.proofs.WalkLemmas.{text_too_long}
use Rattle.schematron_texts.proofs.pushing.push_text_within.Goals as goal

pub returns-then-piece-most-clause-made : goal.returns-then-piece-most-clause-made
returns-then-piece-most-clause-made c = text_too_long (string_bytes c.args.text.now) c.args.piece.now c.args.most
    (IsUtf8-string_bytes c.args.text.now) c.utf8.piece
    (omega (arith, c.if-piece-most.true, c.len.ensures))

pub returns-clause-made : goal.returns-clause-made
returns-clause-made c = text_behind (string_bytes c.args.text.now) c.args.piece.now _ (IsUtf8-string_bytes c.args.text.now) c.in_ok-push_str.ensures.bytes
