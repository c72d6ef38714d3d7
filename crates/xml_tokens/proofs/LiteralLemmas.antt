-- Quoted values.
use Rattle.std.proofs.Common.{◌≡◌, ℕ, ◌≤◌, ◌<◌, ◌==◌, true, List, length, sym, ap, ◌∙◌, arith, Some, None, if◌then◌else◌}
use Rattle.std.specs.List.{before_first, after_first, position_or_len}
use Rattle.std.proofs.lemmas.Bool.Decides.{nat_tests}
use Rattle.xml_tokens.specs.Searches.{is_quote}
use Rattle.xml_tokens.specs.Literals.{Literal}
use Rattle.xml_tokens.specs.Told.{ended_literal}
use Rattle.xml_tokens.proofs.CutLemmas.{IsSplit, none-any}

abbrev literal_of : List ℕ → List ℕ → Literal
literal_of value rest = record { value = value; rest = rest }

pub literal-ends : (quote : ℕ) (text value rest : List ℕ) → IsSplit (λ b. b == quote) text value rest → Some (literal_of value rest) ≡ ended_literal quote text
literal-ends quote text value rest split =
    ap (λ x. Some (literal_of x rest)) split.before ∙ (ap (λ x. Some (literal_of (before_first (λ b. b == quote) text) x)) split.after
    ∙ sym (ap (λ t. if t then Some (literal_of (before_first (λ b. b == quote) text) (after_first (λ b. b == quote) text)) else None) split.any))

pub literal-open : (quote : ℕ) (text : List ℕ) → length text ≤ position_or_len (λ b. b == quote) text → None ≡ ended_literal quote text
literal-open quote text h = sym (ap (λ t. if t then Some (literal_of (before_first (λ b. b == quote) text) (after_first (λ b. b == quote) text)) else None)
    (none-any (λ b. b == quote) text h))

pub quote-low : (b : ℕ) → is_quote b ≡ true → b < 128
quote-low b e = grind (arith, nat_tests)
