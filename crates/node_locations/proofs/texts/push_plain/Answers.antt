use Rattle.std.proofs.Common.{subst}
use Rattle.std.specs.Prelude.{chars, string_bytes}
use Rattle.std.proofs.lemmas.Str.{chars-IsAscii}
use Rattle.node_locations.specs.Puts.{Puts}
use Rattle.node_locations.proofs.texts.push_plain.Goals as goal

pub returns : goal.returns
returns c =
    subst (λ t. Puts c.push_text.result t (chars (string_bytes c.args.out.now)) (chars (string_bytes c.push_text.new.out)))
    (chars-IsAscii c.args.text.now c.requires) c.push_text.ensures
