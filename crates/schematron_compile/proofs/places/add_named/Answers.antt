use Rattle.std.proofs.Common.{◌≡◌, ◌++◌, ◌∷◌, [], ℕ, List, arith, if◌then◌else◌}
use Rattle.std.specs.Str.{bytes_eq}
use Rattle.std.proofs.lemmas.Grind.{text_groups}
use Rattle.inv_base.proofs.TextLemmas.{encode-chars}
use Rattle.schematron_compile.proofs.PlaceLemmas.{adds_named}
use Rattle.schematron_compile.proofs.places.add_named.Goals as goal

pub returns : goal.returns
returns c = adds_named _ _ c.args.id.now c.args.place (encode-chars c.args.id.now c.utf8.id) (λ q. grind (arith, text_groups))
