-- Which term a name can be of: the numbers that stand in it. No other term has this name, and whether this one has it is asked by its
-- text. No public clause cites it.
use Rattle.std.specs.Prelude.{ℕ, ◌+◌, ◌*◌, ◌%◌, ◌==◌, nat_lt, List, [], ◌∷◌, fold, if◌then◌else◌}
use Rattle.term_table.specs.declared.terms.Term.{Term}
use Rattle.invoice_data.specs.declared.guesses.Guess.{Guess}

abbrev pub no_guess : Guess
no_guess = record { dashes = 0; number = 0; part = 0 }

-- a number with one more digit
abbrev pub with_digit : ℕ → ℕ → ℕ
with_digit number byte = number % 1000 * 10 + byte % 16

abbrev pub digit_read : Guess → ℕ → Guess
digit_read g byte =
    if g.dashes == 0 then g
    else (if g.dashes == 1 then record { dashes = g.dashes; number = with_digit g.number byte; part = g.part }
    else record { dashes = g.dashes; number = g.number; part = with_digit g.part byte })

abbrev pub dash_read : Guess → Guess
dash_read g = record { dashes = (if nat_lt g.dashes 2 then g.dashes + 1 else g.dashes); number = g.number; part = g.part }

-- one more byte of the name
unfoldable pub guess_read : Guess → ℕ → Guess
guess_read g byte = if byte == 0x2D then dash_read g else digit_read g byte

abbrev pub term_by : ℕ → Guess → Term
term_by first g =
    if first == 0x45 then record { number = (g.number + 1000) % 65536; part = 0 } else record { number = g.number; part = g.part % 256 }

-- the term whose numbers stand in the name
unfoldable pub guessed : List ℕ → Term
guessed [] = record { number = 0; part = 0 }
guessed (byte ∷ name) = term_by byte (fold guess_read no_guess name)
