use Rattle.std.proofs.lemmas.Str.{IsUtf8-string_bytes}
use Rattle.inv_totals.proofs.KeyLemmas.{text_pushed}
use Rattle.inv_totals.proofs.keys.put.Goals as goal

pub returns : goal.returns
returns c = text_pushed c.push_str.result _ c.args.piece.now _ (IsUtf8-string_bytes c.args.key.now) c.push_str.ensures.bytes
