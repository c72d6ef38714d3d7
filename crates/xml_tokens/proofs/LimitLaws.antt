-- The greatest tag of the code is the one that the definitions give as a number.
use Rattle.std.proofs.Common.{refl, ◌≡◌}
use Rattle.xml_tokens.specs.declared.greatest.TheConstants.{GREATEST_TAG}
use Rattle.xml_tokens.specs.Beginnings.{greatest_tag}

pub the-greatest-tag : GREATEST_TAG ≡ greatest_tag
the-greatest-tag = refl
