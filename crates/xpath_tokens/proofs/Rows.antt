-- Texts with their tokens or their refusal, as the rules of the language give them: the definitions compute these.
use Rattle.std.specs.Prelude.{ℕ, ◌≡◌, List, [], ◌∷◌, Ok, Err, codes, refl}
use Rattle.std.specs.Str.{chars}
use Rattle.inv_base.specs.Characters.{is_name_start, is_name_char, is_white_space}
use Rattle.xpath_tokens.specs.Longest.{longest, many_then}
use Rattle.xpath_tokens.specs.Words.{words_from, comment_rest, comment_at, separator_length, closes, is_symbol}
use Rattle.xpath_tokens.specs.Tokens.{tokens_of, answer_of_characters, judged, token_of}
use Rattle.xpath_tokens.specs.declared.token.Operator.TheVariants as o
use Rattle.xpath_tokens.specs.declared.token.Keyword.TheVariants as k
use Rattle.xpath_tokens.specs.declared.token.Name.TheVariants as n
use Rattle.xpath_tokens.specs.declared.token.Token.{Token}
use Rattle.xpath_tokens.specs.declared.token.Token.TheVariants as t
use Rattle.xpath_tokens.specs.declared.token.SyntaxFault.TheVariants as f

abbrev name : List ℕ → Token
name text = t.Name (n.Plain text)

abbrev number : ℕ → Token
number whole = t.Number (record { whole = whole; fraction = 0 })

row_1 : tokens_of (codes "1 # 2") ≡ Err (f.Lexical 2)
unfolding tokens_of answer_of_characters words_from longest many_then comment_rest comment_at separator_length closes is_symbol judged token_of is_name_start
    is_name_char is_white_space chars
row_1 = refl

row_2 : tokens_of (codes "1 is 2") ≡ Err (f.Unsupported 1)
unfolding tokens_of answer_of_characters words_from longest many_then comment_rest comment_at separator_length closes is_symbol judged token_of is_name_start
    is_name_char is_white_space chars
row_2 = refl

row_3 : tokens_of (codes "1e3") ≡ Err (f.Unsupported 0)
unfolding tokens_of answer_of_characters words_from longest many_then comment_rest comment_at separator_length closes is_symbol judged token_of is_name_start
    is_name_char is_white_space chars
row_3 = refl

row_4 : tokens_of (codes "1234567890123456789") ≡ Err f.NumberTooWide
unfolding tokens_of answer_of_characters words_from longest many_then comment_rest comment_at separator_length closes is_symbol judged token_of is_name_start
    is_name_char is_white_space chars
row_4 = refl

row_5 : tokens_of (codes "(: x") ≡ Err (f.Lexical 1)
unfolding tokens_of answer_of_characters words_from longest many_then comment_rest comment_at separator_length closes is_symbol judged token_of is_name_start
    is_name_char is_white_space chars
row_5 = refl

row_6 : tokens_of (codes "* * *") ≡ Ok (t.Star ∷ t.Operator o.Times ∷ t.Star ∷ [])
unfolding tokens_of answer_of_characters words_from longest many_then comment_rest comment_at separator_length closes is_symbol judged token_of is_name_start
    is_name_char is_white_space chars
row_6 = refl

row_7 : tokens_of (codes "div div div") ≡ Ok (name (codes "div") ∷ t.Operator o.Div ∷ name (codes "div") ∷ [])
unfolding tokens_of answer_of_characters words_from longest many_then comment_rest comment_at separator_length closes is_symbol judged token_of is_name_start
    is_name_char is_white_space chars
row_7 = refl

row_8 : tokens_of (codes "nope(1)") ≡ Ok (name (codes "nope") ∷ t.LeftParenthesis ∷ number 1 ∷ t.RightParenthesis ∷ [])
unfolding tokens_of answer_of_characters words_from longest many_then comment_rest comment_at separator_length closes is_symbol judged token_of is_name_start
    is_name_char is_white_space chars
row_8 = refl

row_9 : tokens_of (codes "a[1") ≡ Ok (name (codes "a") ∷ t.LeftBracket ∷ number 1 ∷ [])
unfolding tokens_of answer_of_characters words_from longest many_then comment_rest comment_at separator_length closes is_symbol judged token_of is_name_start
    is_name_char is_white_space chars
row_9 = refl

row_10 : tokens_of (codes "q:a") ≡ Ok (t.Name (n.Prefixed (codes "q") (codes "a")) ∷ [])
unfolding tokens_of answer_of_characters words_from longest many_then comment_rest comment_at separator_length closes is_symbol judged token_of is_name_start
    is_name_char is_white_space chars
row_10 = refl

row_11 : tokens_of (codes "1 + 'a'") ≡ Ok (number 1 ∷ t.Operator o.Plus ∷ t.Literal (codes "a") ∷ [])
unfolding tokens_of answer_of_characters words_from longest many_then comment_rest comment_at separator_length closes is_symbol judged token_of is_name_start
    is_name_char is_white_space chars
row_11 = refl

row_12 : tokens_of (codes "(:)") ≡ Err (f.Lexical 1)
unfolding tokens_of answer_of_characters words_from longest many_then comment_rest comment_at separator_length closes is_symbol judged token_of is_name_start
    is_name_char is_white_space chars
row_12 = refl

row_13 : tokens_of (codes "(: (: :) x :)1") ≡ Ok (number 1 ∷ [])
unfolding tokens_of answer_of_characters words_from longest many_then comment_rest comment_at separator_length closes is_symbol judged token_of is_name_start
    is_name_char is_white_space chars
row_13 = refl

row_14 : tokens_of (codes "(:: (: a :) b") ≡ Ok (t.LeftParenthesis ∷ t.DoubleColon ∷ name (codes "b") ∷ [])
unfolding tokens_of answer_of_characters words_from longest many_then comment_rest comment_at separator_length closes is_symbol judged token_of is_name_start
    is_name_char is_white_space chars
row_14 = refl

row_15 : tokens_of (codes "'it''s") ≡ Err (f.Lexical 4)
unfolding tokens_of answer_of_characters words_from longest many_then comment_rest comment_at separator_length closes is_symbol judged token_of is_name_start
    is_name_char is_white_space chars
row_15 = refl

row_16 : tokens_of (codes "'it''s'") ≡ Ok (t.Literal (codes "it's") ∷ [])
unfolding tokens_of answer_of_characters words_from longest many_then comment_rest comment_at separator_length closes is_symbol judged token_of is_name_start
    is_name_char is_white_space chars
row_16 = refl

row_17 : tokens_of (codes "\"abc'") ≡ Err (f.Lexical 0)
unfolding tokens_of answer_of_characters words_from longest many_then comment_rest comment_at separator_length closes is_symbol judged token_of is_name_start
    is_name_char is_white_space chars
row_17 = refl

row_18 : tokens_of (codes "a:b:c") ≡ Err (f.Lexical 3)
unfolding tokens_of answer_of_characters words_from longest many_then comment_rest comment_at separator_length closes is_symbol judged token_of is_name_start
    is_name_char is_white_space chars
row_18 = refl

row_19 : tokens_of (codes "a :b") ≡ Err (f.Lexical 2)
unfolding tokens_of answer_of_characters words_from longest many_then comment_rest comment_at separator_length closes is_symbol judged token_of is_name_start
    is_name_char is_white_space chars
row_19 = refl

row_20 : tokens_of (codes "* :a") ≡ Err (f.Lexical 2)
unfolding tokens_of answer_of_characters words_from longest many_then comment_rest comment_at separator_length closes is_symbol judged token_of is_name_start
    is_name_char is_white_space chars
row_20 = refl

row_21 : tokens_of (codes "*:a/b:*") ≡ Ok (t.Name (n.AnyPrefix (codes "a")) ∷ t.Operator o.Slash ∷ t.Name (n.AnyLocal (codes "b")) ∷ [])
unfolding tokens_of answer_of_characters words_from longest many_then comment_rest comment_at separator_length closes is_symbol judged token_of is_name_start
    is_name_char is_white_space chars
row_21 = refl

row_22 : tokens_of (codes "1-a-b.c") ≡ Ok (number 1 ∷ t.Operator o.Minus ∷ name (codes "a-b.c") ∷ [])
unfolding tokens_of answer_of_characters words_from longest many_then comment_rest comment_at separator_length closes is_symbol judged token_of is_name_start
    is_name_char is_white_space chars
row_22 = refl

row_23 : tokens_of (codes "10div 3") ≡ Ok (number 10 ∷ t.Operator o.Div ∷ number 3 ∷ [])
unfolding tokens_of answer_of_characters words_from longest many_then comment_rest comment_at separator_length closes is_symbol judged token_of is_name_start
    is_name_char is_white_space chars
row_23 = refl

row_24 : tokens_of (codes "1.e1") ≡ Err (f.Unsupported 0)
unfolding tokens_of answer_of_characters words_from longest many_then comment_rest comment_at separator_length closes is_symbol judged token_of is_name_start
    is_name_char is_white_space chars
row_24 = refl

row_25 : tokens_of (codes "1e") ≡ Ok (number 1 ∷ name (codes "e") ∷ [])
unfolding tokens_of answer_of_characters words_from longest many_then comment_rest comment_at separator_length closes is_symbol judged token_of is_name_start
    is_name_char is_white_space chars
row_25 = refl

row_26 : tokens_of (codes "000000000000000000000.5") ≡ Ok (t.Number (record { whole = 0; fraction = 500000000000000000 }) ∷ [])
unfolding tokens_of answer_of_characters words_from longest many_then comment_rest comment_at separator_length closes is_symbol judged token_of is_name_start
    is_name_char is_white_space chars
row_26 = refl

row_27 : tokens_of (codes "0.1000000000000000000") ≡ Err f.NumberTooWide
unfolding tokens_of answer_of_characters words_from longest many_then comment_rest comment_at separator_length closes is_symbol judged token_of is_name_start
    is_name_char is_white_space chars
row_27 = refl

row_28 : tokens_of (codes "1e3 + 1234567890123456789") ≡ Err f.NumberTooWide
unfolding tokens_of answer_of_characters words_from longest many_then comment_rest comment_at separator_length closes is_symbol judged token_of is_name_start
    is_name_char is_white_space chars
row_28 = refl

row_29 : tokens_of (codes "1 # 1234567890123456789") ≡ Err (f.Lexical 2)
unfolding tokens_of answer_of_characters words_from longest many_then comment_rest comment_at separator_length closes is_symbol judged token_of is_name_start
    is_name_char is_white_space chars
row_29 = refl

row_30 : tokens_of (codes "$as cast as as?") ≡ Ok (t.Dollar ∷ name (codes "as") ∷ t.Operator o.Cast ∷ t.Operator o.As ∷ name (codes "as") ∷ t.Question ∷ [])
unfolding tokens_of answer_of_characters words_from longest many_then comment_rest comment_at separator_length closes is_symbol judged token_of is_name_start
    is_name_char is_white_space chars
row_30 = refl

row_31 : tokens_of (codes "as castable as a") ≡ Ok (name (codes "as") ∷ t.Operator o.Castable ∷ t.Operator o.As ∷ name (codes "a") ∷ [])
unfolding tokens_of answer_of_characters words_from longest many_then comment_rest comment_at separator_length closes is_symbol judged token_of is_name_start
    is_name_char is_white_space chars
row_31 = refl

row_32 : tokens_of (codes "if (for) for$a") ≡ Ok (t.Keyword k.If ∷ t.LeftParenthesis ∷ name (codes "for") ∷ t.RightParenthesis ∷ name
    (codes "for") ∷ t.Dollar ∷ name (codes "a") ∷ [])
unfolding tokens_of answer_of_characters words_from longest many_then comment_rest comment_at separator_length closes is_symbol judged token_of is_name_start
    is_name_char is_white_space chars
row_32 = refl

row_33 : tokens_of (codes "1 <<= 2") ≡ Err (f.Unsupported 1)
unfolding tokens_of answer_of_characters words_from longest many_then comment_rest comment_at separator_length closes is_symbol judged token_of is_name_start
    is_name_char is_white_space chars
row_33 = refl

row_34 : tokens_of (codes "instance of") ≡ Ok (name (codes "instance") ∷ name (codes "of") ∷ [])
unfolding tokens_of answer_of_characters words_from longest many_then comment_rest comment_at separator_length closes is_symbol judged token_of is_name_start
    is_name_char is_white_space chars
row_34 = refl

row_35 : tokens_of (codes "1 instance of a") ≡ Err (f.Unsupported 1)
unfolding tokens_of answer_of_characters words_from longest many_then comment_rest comment_at separator_length closes is_symbol judged token_of is_name_start
    is_name_char is_white_space chars
row_35 = refl

row_36 : tokens_of (codes "1 treat as xs:integer") ≡ Err (f.Unsupported 1)
unfolding tokens_of answer_of_characters words_from longest many_then comment_rest comment_at separator_length closes is_symbol judged token_of is_name_start
    is_name_char is_white_space chars
row_36 = refl

row_37 : tokens_of (codes "@comment()") ≡ Err (f.Unsupported 1)
unfolding tokens_of answer_of_characters words_from longest many_then comment_rest comment_at separator_length closes is_symbol judged token_of is_name_start
    is_name_char is_white_space chars
row_37 = refl

row_38 : tokens_of (codes "a comment()") ≡ Ok (name (codes "a") ∷ name (codes "comment") ∷ t.LeftParenthesis ∷ t.RightParenthesis ∷ [])
unfolding tokens_of answer_of_characters words_from longest many_then comment_rest comment_at separator_length closes is_symbol judged token_of is_name_start
    is_name_char is_white_space chars
row_38 = refl

row_39 : tokens_of (codes "$namespace::a") ≡ Ok (t.Dollar ∷ name (codes "namespace") ∷ t.DoubleColon ∷ name (codes "a") ∷ [])
unfolding tokens_of answer_of_characters words_from longest many_then comment_rest comment_at separator_length closes is_symbol judged token_of is_name_start
    is_name_char is_white_space chars
row_39 = refl

row_40 : tokens_of (codes "1 foo is 2") ≡ Err (f.Unsupported 2)
unfolding tokens_of answer_of_characters words_from longest many_then comment_rest comment_at separator_length closes is_symbol judged token_of is_name_start
    is_name_char is_white_space chars
row_40 = refl
