-- The words that are compared are ASCII.
use Rattle.std.specs.Prelude.{◌≡◌, codes, refl}
use Rattle.std.specs.Str.{chars}
use Rattle.schematron_meaning.specs.Words.{schematron}

pub chars-true : chars (codes "true") ≡ codes "true"
unfolding chars
chars-true = refl

pub chars-schematron : chars schematron ≡ schematron
unfolding chars
chars-schematron = refl

pub chars-xslt2 : chars (codes "xslt2") ≡ codes "xslt2"
unfolding chars
chars-xslt2 = refl

pub chars-xpath2 : chars (codes "xpath2") ≡ codes "xpath2"
unfolding chars
chars-xpath2 = refl
