-- Expressions and their values: the definitions compute these, from the characters on.
use Rattle.std.specs.Prelude.{ℕ, ◌≡◌, true, false, List, [], ◌∷◌, Option, Some, None, Ok, Err, codes, refl, pos, neg_ℤ}
use Rattle.inv_base.specs.Tree.{Node, Name, Attribute, Forest, no_more, a_text, an_element, document_nodes}
use Rattle.inv_base.specs.Characters.{is_char, is_name_start, is_name_char, is_white_space}
use Rattle.inv_decimal.specs.Arithmetic.{sum_of, difference_of, product_of, quotient_of, whole_quotient_of, remainder_of, rounded_down, rounded_up, rounded}
use Rattle.inv_decimal.specs.Digits.{last_digits, without_trailing_zeros}
use Rattle.inv_decimal.specs.WrittenNumber.{written_units, read_scaled, read_decimal}
use Rattle.inv_decimal.specs.WrittenDay.{day_from, read_dashed_day}
use Rattle.xpath_tokens.specs.Longest.{longest, many_then}
use Rattle.xpath_tokens.specs.Words.{words_from, comment_rest, comment_at, separator_length, closes, is_symbol}
use Rattle.xpath_tokens.specs.Tokens.{answer_of_characters, judged, token_of}
use Rattle.xpath_grammar.specs.Machine.{tree_of, close, run, append}
use Rattle.xpath_types.specs.Functions.{type_in, function_in}
use Rattle.xpath_items.specs.declared.item.Item.TheVariants as i
use Rattle.xpath_items.specs.declared.outcome.DynError.TheVariants as e
use Rattle.xpath_meaning.specs.Values.{Value}
use Rattle.xpath_meaning.specs.Comparing.{compare}
use Rattle.xpath_meaning.specs.Texts.{finds}
use Rattle.xpath_meaning.specs.Resolving.{resolved, operands}
use Rattle.xpath_meaning.specs.Meaning.{mean, at_top}

-- what the rows look into
unfoldable tried : ℕ
unfolding answer_of_characters words_from longest many_then comment_rest comment_at separator_length closes is_symbol judged token_of is_char is_name_start
    is_name_char is_white_space
    close run append type_in function_in resolved operands compare sum_of difference_of product_of quotient_of whole_quotient_of remainder_of rounded_down
    rounded_up rounded
    finds last_digits without_trailing_zeros written_units read_scaled read_decimal day_from read_dashed_day
tried = 0

-- the value of a text at the document, where the text is an expression
abbrev asked : List Node → List ℕ → Option Value
asked nodes text = elim (answer_of_characters text) [
  | Err fault ↦ None
  | Ok tokens ↦ elim (tree_of tokens) [
    | None ↦ None
    | Some tree ↦ Some (mean nodes (resolved (record { prefixes = []; variables = [] }) [] tree) (at_top 0 []))
  ]
]

abbrev named : List ℕ → Name
named local = record { uri = []; local = local }

abbrev given : List ℕ → List ℕ → Attribute
given local value = record { name = named local; value = value }

abbrev element : List ℕ → List Attribute → Forest → Forest → Forest
element local attributes inside rest = an_element (named local) attributes inside rest

abbrev plain : List ℕ → Forest → Forest → Forest
plain local inside rest = element local [] inside rest

abbrev text : List ℕ → Forest
text characters = a_text characters no_more

-- <r><g><l/><l/></g><g><l/></g></r>
abbrev groups : List Node
groups = document_nodes (plain (codes "r") (plain (codes "g") (plain (codes "l") no_more (plain (codes "l") no_more no_more))
    (plain (codes "g") (plain (codes "l") no_more no_more) no_more)) no_more)

-- <v><n>10</n><s>abc</s><e/></v>
abbrev values : List Node
values = document_nodes (plain (codes "v") (plain (codes "n") (text (codes "10")) (plain (codes "s") (text (codes "abc")) (plain (codes "e") no_more no_more)))
    no_more)

-- <r a="1"><p b="2" c="3">t1<q>t2</q>t3</p><s/><p><q d="4">t4</q><q/></p><u>5</u></r>
abbrev letters : List Node
letters = document_nodes (element (codes "r") (given (codes "a") (codes "1") ∷ [])
    (element (codes "p") (given (codes "b") (codes "2") ∷ given (codes "c") (codes "3") ∷ [])
    (a_text (codes "t1") (plain (codes "q") (text (codes "t2")) (text (codes "t3"))))
    (plain (codes "s") no_more
    (plain (codes "p") (element (codes "q") (given (codes "d") (codes "4") ∷ []) (text (codes "t4")) (plain (codes "q") no_more no_more))
    (plain (codes "u") (text (codes "5")) no_more)))) no_more)

-- Steps and predicates

row_1 : asked groups (codes "count(//l[1])") ≡ Some (Ok (i.Number (pos 2000000000000000000) ∷ []))
unfolding tried
row_1 = refl

row_2 : asked groups (codes "count((//l)[1])") ≡ Some (Ok (i.Number (pos 1000000000000000000) ∷ []))
unfolding tried
row_2 = refl

row_3 : asked letters (codes "r/p/q") ≡ Some (Ok (i.Node 7 ∷ i.Node 12 ∷ i.Node 15 ∷ []))
unfolding tried
row_3 = refl

row_4 : asked letters (codes "(//q)[2]/ancestor::*[1]") ≡ Some (Ok (i.Node 11 ∷ []))
unfolding tried
row_4 = refl

row_5 : asked letters (codes "(//q)[2]/ancestor-or-self::*") ≡ Some (Ok (i.Node 1 ∷ i.Node 11 ∷ i.Node 12 ∷ []))
unfolding tried
row_5 = refl

row_6 : asked letters (codes "(//q)[2]/preceding::*") ≡ Some (Ok (i.Node 3 ∷ i.Node 7 ∷ i.Node 10 ∷ []))
unfolding tried
row_6 = refl

row_7 : asked letters (codes "r/p[2]/following::node()") ≡ Some (Ok (i.Node 16 ∷ i.Node 17 ∷ []))
unfolding tried
row_7 = refl

row_8 : asked letters (codes "r/p[1]/@b/following::node()") ≡ Some
    (Ok (i.Node 6 ∷ i.Node 7 ∷ i.Node 8 ∷ i.Node 9 ∷ i.Node 10 ∷ i.Node 11 ∷ i.Node 12 ∷ i.Node 14 ∷ i.Node 15 ∷ i.Node 16 ∷ i.Node 17 ∷ []))
unfolding tried
row_8 = refl

row_9 : asked letters (codes "r/p/attribute()") ≡ Some (Ok (i.Node 4 ∷ i.Node 5 ∷ []))
unfolding tried
row_9 = refl

row_10 : asked letters (codes "r/u/preceding-sibling::*[1]") ≡ Some (Ok (i.Node 11 ∷ []))
unfolding tried
row_10 = refl

row_11 : asked letters (codes "//@*/..") ≡ Some (Ok (i.Node 1 ∷ i.Node 3 ∷ i.Node 12 ∷ []))
unfolding tried
row_11 = refl

row_12 : asked letters (codes "(r/p, r/p)/.") ≡ Some (Ok (i.Node 3 ∷ i.Node 11 ∷ []))
unfolding tried
row_12 = refl

row_13 : asked letters (codes "r/p[string(@b)]") ≡ Some (Ok (i.Node 3 ∷ []))
unfolding tried
row_13 = refl

row_14 : asked letters (codes "r/(p | s) except r/p[2]") ≡ Some (Ok (i.Node 3 ∷ i.Node 10 ∷ []))
unfolding tried
row_14 = refl

row_15 : asked letters (codes "r/p/(q, 1)") ≡ Some (Err e.XPTY0018)
unfolding tried
row_15 = refl

row_16 : asked letters (codes "(r, 1)/p") ≡ Some (Err e.XPTY0019)
unfolding tried
row_16 = refl

row_17 : asked letters (codes "(1, 2)[//q]") ≡ Some (Err e.XPTY0020)
unfolding tried
row_17 = refl

-- Truth, and what is left out

row_18 : asked values (codes "some $x in (1, 0) satisfies 1 div $x = 1") ≡ Some (Ok (i.Boolean true ∷ []))
unfolding tried
row_18 = refl

row_19 : asked values (codes "every $x in (1, 0) satisfies 1 div $x = 2") ≡ Some (Ok (i.Boolean false ∷ []))
unfolding tried
row_19 = refl

row_20 : asked values (codes "1 and 'a' or 1 div 0") ≡ Some (Ok (i.Boolean true ∷ []))
unfolding tried
row_20 = refl

row_21 : asked values (codes "(1, 2) and false()") ≡ Some (Err e.FORG0006)
unfolding tried
row_21 = refl

row_22 : asked values (codes "if (v/e) then 1 else 1 div 0") ≡ Some (Ok (i.Number (pos 1000000000000000000) ∷ []))
unfolding tried
row_22 = refl

-- Comparisons

row_23 : asked values (codes "() = ()") ≡ Some (Ok (i.Boolean false ∷ []))
unfolding tried
row_23 = refl

row_24 : asked values (codes "(1, 2) != (1, 2)") ≡ Some (Ok (i.Boolean true ∷ []))
unfolding tried
row_24 = refl

row_25 : asked values (codes "v/n = 10") ≡ Some (Ok (i.Boolean true ∷ []))
unfolding tried
row_25 = refl

row_26 : asked values (codes "v/n eq 10") ≡ Some (Err e.XPTY0004)
unfolding tried
row_26 = refl

row_27 : asked values (codes "v/s = 10") ≡ Some (Err e.FORG0001)
unfolding tried
row_27 = refl

row_28 : asked values (codes "v/n eq '10'") ≡ Some (Ok (i.Boolean true ∷ []))
unfolding tried
row_28 = refl

-- Numbers

row_29 : asked values (codes "0.1 + 0.2 = 0.3") ≡ Some (Ok (i.Boolean true ∷ []))
unfolding tried
row_29 = refl

row_30 : asked values (codes "(1 div 3, -7 idiv 2, -7 mod 2, round(-2.5))") ≡ Some
    (Ok (i.Number (pos 333333333333333333) ∷ i.Number (neg_ℤ (pos 3000000000000000000)) ∷ i.Number (neg_ℤ (pos 1000000000000000000)) ∷ i.Number
    (neg_ℤ (pos 2000000000000000000)) ∷ []))
unfolding tried
row_30 = refl

row_31 : asked values (codes "1 div 0") ≡ Some (Err e.FOAR0001)
unfolding tried
row_31 = refl

row_32 : asked values (codes "999999999999999999 + 1") ≡ Some (Err e.FOAR0002)
unfolding tried
row_32 = refl

row_33 : asked values (codes "(1, 2) + ()") ≡ Some (Ok [])
unfolding tried
row_33 = refl

row_34 : asked values (codes "(1, 2) + 1 + 1 div 0") ≡ Some (Err e.XPTY0004)
unfolding tried
row_34 = refl

row_35 : asked values (codes "2 to 4") ≡ Some
    (Ok (i.Number (pos 2000000000000000000) ∷ i.Number (pos 3000000000000000000) ∷ i.Number (pos 4000000000000000000) ∷ []))
unfolding tried
row_35 = refl

row_36 : asked values (codes "count(-50000 to 50000)") ≡ Some (Err e.FOAR0002)
unfolding tried
row_36 = refl

-- Variables

row_37 : asked values (codes "for $x in (1, 2), $y in ($x, 10) return $x * $y") ≡ Some
    (Ok (i.Number (pos 1000000000000000000) ∷ i.Number (pos 10000000000000000000) ∷ i.Number (pos 4000000000000000000) ∷ i.Number
    (pos 20000000000000000000) ∷ []))
unfolding tried
row_37 = refl

row_38 : asked values (codes "for $x in 1 return (for $x in 'a' return $x, $x)") ≡ Some (Ok (i.String (codes "a") ∷ i.Number (pos 1000000000000000000) ∷ []))
unfolding tried
row_38 = refl

-- Functions and casts

row_39 : asked values (codes "substring('12345', 1.5, 2.6)") ≡ Some (Ok (i.String (codes "234") ∷ []))
unfolding tried
row_39 = refl

row_40 : asked values (codes "normalize-space(' a  b ')") ≡ Some (Ok (i.String (codes "a b") ∷ []))
unfolding tried
row_40 = refl

row_41 : asked values (codes "translate('abcb', 'ab', 'x')") ≡ Some (Ok (i.String (codes "xc") ∷ []))
unfolding tried
row_41 = refl

row_42 : asked values (codes "distinct-values((v/n, 10, v/n))") ≡ Some (Ok (i.Untyped (codes "10") ∷ i.Number (pos 10000000000000000000) ∷ []))
unfolding tried
row_42 = refl

row_43 : asked values (codes "max((v/n, 9))") ≡ Some (Ok (i.Number (pos 10000000000000000000) ∷ []))
unfolding tried
row_43 = refl

row_44 : asked values (codes "xs:date(' 2024-02-29 ')") ≡ Some (Ok (i.Date (record { year = 2024; month = 2; day = 29 }) ∷ []))
unfolding tried
row_44 = refl

row_45 : asked values (codes "('2023-02-29' castable as xs:date, () cast as xs:integer?)") ≡ Some (Ok (i.Boolean false ∷ []))
unfolding tried
row_45 = refl

row_46 : asked values (codes "local-name(v/n)") ≡ Some (Ok (i.String (codes "n") ∷ []))
unfolding tried
row_46 = refl

-- Patterns

row_47 : asked values (codes "matches('DE123', '^[A-Z]{2}[0-9]+$')") ≡ Some (Ok (i.Boolean true ∷ []))
unfolding tried
row_47 = refl

row_48 : asked values (codes "(matches('xDE1', '^DE'), matches('', '^$'), matches('abc', 'x|b'), matches((), 'a'))") ≡ Some
    (Ok (i.Boolean false ∷ i.Boolean true ∷ i.Boolean true ∷ i.Boolean false ∷ []))
unfolding tried
row_48 = refl

row_49 : asked values (codes "v/*[matches(., '^[a-z]*$')]/local-name()") ≡ Some (Ok (i.String (codes "s") ∷ i.String (codes "e") ∷ []))
unfolding tried
row_49 = refl

row_50 : asked values (codes "matches(1, '1')") ≡ Some (Err e.XPTY0004)
unfolding tried
row_50 = refl
