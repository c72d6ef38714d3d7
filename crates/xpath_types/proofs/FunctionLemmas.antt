-- Functions by their names.
use Rattle.std.proofs.Common.{◌≡◌, ℕ, Bool, true, false, List, Option, Some, None, refl, sym, ap, ◌∙◌, if◌then◌else◌}
use Rattle.std.specs.Str.{chars, bytes_eq}
use Rattle.xpath_tokens.specs.declared.token.Name.{Name}
use Rattle.xpath_grammar.specs.declared.functions.Function.{Function}
use Rattle.xpath_grammar.specs.Functions.{function_word, functions, types}
use Rattle.xpath_grammar.specs.Grammar.{named_in}
use Rattle.xpath_types.specs.Scopes.{functions_uri, types_uri, local_of}
use Rattle.xpath_types.specs.Functions.{type_in, function_in, known, resolved}

types-ascii : chars types_uri ≡ types_uri
unfolding chars
types-ascii = refl

pub functions-ascii : chars functions_uri ≡ functions_uri
unfolding chars
functions-ascii = refl

module _ (uri local : List ℕ) (test : Bool) (tested : test ≡ bytes_eq uri (chars types_uri)) where
  is_types : bytes_eq uri types_uri ≡ test
  is_types = ap (bytes_eq uri) (sym types-ascii) ∙ sym tested

  pub in_types : test ≡ true → type_in uri local ≡ named_in function_word types local
  unfolding type_in
  in_types e = ap (λ b. if b then named_in function_word types local else None) (is_types ∙ e)

  pub not_in_types : test ≡ false → type_in uri local ≡ None
  unfolding type_in
  not_in_types e = ap (λ b. if b then named_in function_word types local else None) (is_types ∙ e)

module _ (uri local : List ℕ) (test : Bool) (tested : test ≡ bytes_eq uri (chars functions_uri)) where
  is_functions : bytes_eq uri functions_uri ≡ test
  is_functions = ap (bytes_eq uri) (sym functions-ascii) ∙ sym tested

  pub in_functions : test ≡ true → function_in uri local ≡ named_in function_word functions local
  unfolding function_in
  in_functions e = ap (λ b. if b then named_in function_word functions local else type_in uri local) (is_functions ∙ e)

  pub not_in_functions : test ≡ false → function_in uri local ≡ type_in uri local
  unfolding function_in
  not_in_functions e = ap (λ b. if b then named_in function_word functions local else type_in uri local) (is_functions ∙ e)

pub resolves : (found : Option (List ℕ)) (find : List ℕ → List ℕ → Option Function) (uri local : List ℕ) (name : Name) → Some uri ≡ found →
    local ≡ local_of name → known (find uri local) ≡ resolved found find name
resolves found find uri local name e is = ap (λ local. known (find uri local)) is ∙ ap (λ found. resolved found find name) e
