-- The words that are compared are ASCII.
use Rattle.std.specs.Prelude.{◌≡◌, refl}
use Rattle.std.specs.Str.{chars}
use Rattle.schematron_meaning.specs.Phases.{all_phases, the_default}

pub chars-all_phases : chars all_phases ≡ all_phases
unfolding chars
chars-all_phases = refl

pub chars-the_default : chars the_default ≡ the_default
unfolding chars
chars-the_default = refl
