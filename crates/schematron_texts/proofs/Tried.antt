-- Small texts on which the definitions are tried.
use Rattle.std.specs.Prelude.{◌≡◌, List, [], ◌∷◌, codes, refl}
use Rattle.inv_base.specs.Characters.{is_name_start, is_name_char, is_white_space}
use Rattle.schematron_texts.specs.Replacing.{Parameter, replaced}
use Rattle.schematron_texts.specs.Messages.{squeezed}

-- a is `1`, ab is `$a`
abbrev parameters : List Parameter
parameters = record { name = codes "a"; value = codes "1" } ∷ record { name = codes "ab"; value = codes "$a" } ∷ []

-- the longest name counts, what is put in isn't read again, and what is no parameter's name stays
replaced-row : replaced parameters (codes "$a+$ab=$abc $$a $ a$a.") ≡ codes "1+$a=$abc $1 $ a$a."
unfolding is_name_start is_name_char
replaced-row = refl

-- the dot belongs to the name
replaced-end : replaced parameters (codes "'$a'$a-$a") ≡ codes "'1'$a-1"
unfolding is_name_start is_name_char
replaced-end = refl

squeezed-row : squeezed (codes "  a \n\t b  ") ≡ codes "a b"
unfolding is_white_space
squeezed-row = refl

squeezed-none : squeezed (codes " \n ") ≡ []
unfolding is_white_space
squeezed-none = refl
