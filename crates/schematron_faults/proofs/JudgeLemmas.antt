-- A text that is too long is refused for that.
use Rattle.std.proofs.Common.{◌≡◌, ℕ, ◌<◌, Bool, true, false, List, length, Some, Result, Ok, Err, ap, sym, arith, encode_utf8_all}
use Rattle.std.specs.Prelude.{nat_lt}
use Rattle.std.proofs.lemmas.Bool.Decides.{nat_tests}
use Rattle.xpath_tokens.specs.declared.token.SyntaxFault.{SyntaxFault}
use Rattle.xpath_tokens.specs.declared.token.SyntaxFault.TheVariants as f
use Rattle.xpath_tokens.specs.Tokens.{most_bytes, answer_of_characters}
use Rattle.xpath_grammar.specs.Grammar.{Tree}
use Rattle.xpath_grammar.specs.Machine.{tree_of}
use Rattle.xpath_types.specs.Scopes.{Declared}
use Rattle.schematron_texts.specs.Replacing.{bytes_of}
use Rattle.schematron_meaning.specs.declared.fault.ExpressionFault.TheVariants as x
use Rattle.schematron_meaning.specs.Faults.{tree_spelled, tree_fault, expression_fault}

longer : (m n : ℕ) → m < n → nat_lt m n ≡ true
longer m n h = grind (arith, nat_tests)

pub too_long : (is_pattern : Bool) (text : List ℕ) (scope : Declared) → most_bytes < bytes_of text →
    Some (x.Syntax f.TooLong) ≡ expression_fault is_pattern text scope
unfolding expression_fault
too_long is_pattern text scope h =
    sym (ap (λ (b : Bool). tree_fault scope (elim b as (λ _. Result Tree SyntaxFault) [
      | true ↦ Err f.TooLong
      | false ↦ elim (answer_of_characters text) as (λ _. Result Tree SyntaxFault) [
        | Err fault ↦ Err fault
        | Ok tokens ↦ tree_spelled is_pattern (tree_of tokens)
      ]
    ]))
    (longer most_bytes (length (encode_utf8_all text)) h))
