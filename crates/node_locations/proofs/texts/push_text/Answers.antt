use Rattle.std.proofs.lemmas.Str.{IsUtf8-string_bytes}
use Rattle.node_locations.proofs.PutLemmas.{pushed}
use Rattle.node_locations.proofs.texts.push_text.Goals as goal

pub returns : goal.returns
returns c = pushed _ _ _ c.args.text.now (IsUtf8-string_bytes c.args.out.now) c.utf8.text c.push_str.ensures.bytes
