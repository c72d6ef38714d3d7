-- Texts with their first refusals, the kinds of their values and what is stated of their parts: the definitions compute these.
use Rattle.std.specs.Prelude.{ℕ, ◌≡◌, Bool, true, false, List, [], ◌∷◌, Some, None, Ok, Err, codes, refl, map}
use Rattle.std.specs.Str.{chars}
use Rattle.inv_base.specs.Characters.{is_char, is_name_start, is_name_char, is_white_space}
use Rattle.xpath_tokens.specs.Longest.{longest, many_then}
use Rattle.xpath_tokens.specs.Words.{words_from, comment_rest, comment_at, separator_length, closes, is_symbol}
use Rattle.xpath_tokens.specs.Tokens.{tokens_of, answer_of_characters, token_of}
use Rattle.xpath_tokens.specs.Tokens as tk
use Rattle.xpath_grammar.specs.Grammar as g
use Rattle.xpath_grammar.specs.Grammar.{Tree}
use Rattle.xpath_grammar.specs.Machine.{tree_of, close, run, append}
use Rattle.xpath_types.specs.declared.fault.TypeKind.{TypeKind}
use Rattle.xpath_types.specs.declared.fault.TypeKind.TheVariants as r
use Rattle.xpath_types.specs.declared.part.Part.{Part}
use Rattle.xpath_types.specs.Kinds.{Kinds, no_kinds, all_kinds, nodes, booleans, numbers, strings, dates, united}
use Rattle.xpath_types.specs.Scopes.{Declared}
use Rattle.xpath_types.specs.Functions.{function_in, type_in}
use Rattle.xpath_types.specs.Judging as j
use Rattle.xpath_types.specs.Parts as pt
use Rattle.xpath_types.specs.Typing.{Typing, typing_of}

data Told : Type 0 where
  unread : Told
  accepted : Told
  refused : TypeKind → ℕ → Told

-- a prefix of another namespace, one of the namespaces of functions and of types each, and two variables
given : Declared
given = record {
  prefixes = record { prefix = codes "p"; uri = codes "urn:p" } ∷ record { prefix = codes "f"; uri = codes "http://www.w3.org/2005/xpath-functions" }
      ∷ record { prefix = codes "t"; uri = codes "http://www.w3.org/2001/XMLSchema" } ∷ record { prefix = codes "f"; uri = codes "urn:later" } ∷ [];
  variables = codes "v" ∷ codes "p:v" ∷ [];
}

abbrev of_tree : {X : Type 0} → (Typing → X) → (TypeKind → ℕ → X) → Tree → X
of_tree accept refuse x = elim (typing_of given x) [ Ok typing ↦ accept typing | Err refusal ↦ refuse refusal.kind refusal.token ]

abbrev of_text : {X : Type 0} → X → (Typing → X) → (TypeKind → ℕ → X) → List ℕ → X
of_text other accept refuse text = elim (tokens_of text) [
  | Ok tokens ↦ elim (tree_of tokens) [ Some x ↦ of_tree accept refuse x | None ↦ other ]
  | Err fault ↦ other
]

abbrev told : List ℕ → Told
told text = of_text unread (λ typing. accepted) refused text

abbrev parts : List ℕ → List Part
parts text = of_text [] (λ typing. typing.parts) (λ kind token. []) text

abbrev first_kinds : List Part → Kinds
first_kinds [] = all_kinds
first_kinds (part ∷ others) = part.kinds

-- the kinds of the whole
abbrev kinds : List ℕ → Kinds
kinds text = first_kinds (parts text)

untyped : Kinds
untyped = record no_kinds { untyped = true }

-- of each part, whether it uses the focus, and whether it depends on the document alone
abbrev uses : List ℕ → List (Bool × Bool)
uses text = map (λ (part : Part). (part.uses_focus, part.depends_on_document_alone)) (parts text)

-- Prefixes and variables

row_1 : map told (codes "q:a" ∷ codes "q:*" ∷ codes "@q:a" ∷ codes "a/q:b" ∷ codes "p:a" ∷ codes "*:a" ∷ codes "xml:a" ∷ codes "$x" ∷ []) ≡ refused
    r.UndeclaredPrefix 0 ∷ refused r.UndeclaredPrefix 0 ∷ refused r.UndeclaredPrefix 0 ∷ refused r.UndeclaredPrefix 2 ∷ accepted ∷ accepted ∷ refused
    r.UndeclaredPrefix 0 ∷ refused r.UndeclaredVariable 0 ∷ []
unfolding given untyped tokens_of answer_of_characters words_from longest many_then comment_rest comment_at separator_length closes is_symbol tk.judged token_of
    is_name_start is_name_char is_white_space chars close run append function_in type_in j.judged j.operands pt.placed pt.placed_inside pt.uses pt.uses_of_parts
    pt.has_free pt.parts_have_free typing_of g.written g.parts_written
row_1 = refl

row_2 : map told (codes "$v" ∷ codes "$p:v" ∷ codes "$p:x" ∷ codes "$q:x" ∷ codes "for $q:x in a return 1" ∷ codes "1 + (for $q:x in a return 1)" ∷ codes
    "for $x in $x return 1" ∷ codes "for $x in a, $y in $x return $y" ∷ []) ≡ accepted ∷ accepted ∷ refused r.UndeclaredVariable 0 ∷ refused r.UndeclaredPrefix
    0 ∷ refused r.UndeclaredPrefix 0 ∷ refused r.UndeclaredPrefix 3 ∷ refused r.UndeclaredVariable 4 ∷ accepted ∷ []
unfolding given untyped tokens_of answer_of_characters words_from longest many_then comment_rest comment_at separator_length closes is_symbol tk.judged token_of
    is_name_start is_name_char is_white_space chars close run append function_in type_in j.judged j.operands pt.placed pt.placed_inside pt.uses pt.uses_of_parts
    pt.has_free pt.parts_have_free typing_of g.written g.parts_written
row_2 = refl

row_3 : map told (codes "for $x in a, $y in $y return $x" ∷ codes "(for $x in a return $x) + $x" ∷ codes "some $x in a satisfies $x" ∷ codes
    "every $x in $x satisfies true()" ∷ []) ≡ refused r.UndeclaredVariable 9 ∷ refused r.UndeclaredVariable 11 ∷ accepted ∷ refused r.UndeclaredVariable 4 ∷ []
unfolding given untyped tokens_of answer_of_characters words_from longest many_then comment_rest comment_at separator_length closes is_symbol tk.judged token_of
    is_name_start is_name_char is_white_space chars close run append function_in type_in j.judged j.operands pt.placed pt.placed_inside pt.uses pt.uses_of_parts
    pt.has_free pt.parts_have_free typing_of g.written g.parts_written
row_3 = refl

-- Functions and types

row_4 : map told (codes "nope()" ∷ codes "q:nope()" ∷ codes "fn:count(a)" ∷ codes "f:count(a)" ∷ codes "xs:string(a)" ∷ codes "t:date(a)" ∷ codes
    "xs:count(a)" ∷ codes "string(a, a)" ∷ []) ≡ refused r.UnknownFunction 0 ∷ refused r.UndeclaredPrefix
    0 ∷ accepted ∷ accepted ∷ accepted ∷ accepted ∷ refused r.UnknownFunction 0 ∷ refused r.WrongArity 0 ∷ []
unfolding given untyped tokens_of answer_of_characters words_from longest many_then comment_rest comment_at separator_length closes is_symbol tk.judged token_of
    is_name_start is_name_char is_white_space chars close run append function_in type_in j.judged j.operands pt.placed pt.placed_inside pt.uses pt.uses_of_parts
    pt.has_free pt.parts_have_free typing_of g.written g.parts_written
row_4 = refl

row_5 : map told (codes "concat('a')" ∷ codes "concat('a', 'b', 'c')" ∷ codes "substring('a')" ∷ codes "substring('a', 1, 2)" ∷ codes
    "substring('a', 1, 2, 3)" ∷ codes "1 + true(1)" ∷ codes "position()" ∷ codes "last(1)" ∷ []) ≡ refused r.WrongArity 0 ∷ accepted ∷ refused r.WrongArity
    0 ∷ accepted ∷ refused r.WrongArity 0 ∷ refused r.WrongArity 2 ∷ accepted ∷ refused r.WrongArity 0 ∷ []
unfolding given untyped tokens_of answer_of_characters words_from longest many_then comment_rest comment_at separator_length closes is_symbol tk.judged token_of
    is_name_start is_name_char is_white_space chars close run append function_in type_in j.judged j.operands pt.placed pt.placed_inside pt.uses pt.uses_of_parts
    pt.has_free pt.parts_have_free typing_of g.written g.parts_written
row_5 = refl

row_6 : map told (codes "1 cast as xs:string" ∷ codes "1 cast as t:string?" ∷ codes "1 cast as xs:foo" ∷ codes "1 cast as string" ∷ codes
    "1 cast as q:string" ∷ codes "1 castable as fn:count" ∷ codes "2 + 1 cast as xs:foo" ∷ codes "node()" ∷ []) ≡ accepted ∷ accepted ∷ refused r.UnknownType
    0 ∷ refused r.UnknownType 0 ∷ refused r.UndeclaredPrefix 0 ∷ refused r.UnknownType 0 ∷ refused r.UnknownType 2 ∷ accepted ∷ []
unfolding given untyped tokens_of answer_of_characters words_from longest many_then comment_rest comment_at separator_length closes is_symbol tk.judged token_of
    is_name_start is_name_char is_white_space chars close run append function_in type_in j.judged j.operands pt.placed pt.placed_inside pt.uses pt.uses_of_parts
    pt.has_free pt.parts_have_free typing_of g.written g.parts_written
row_6 = refl

-- Operands

row_7 : map told (codes "1 + 'a'" ∷ codes "'a' + 1" ∷ codes "-'a'" ∷ codes "- - 'a'" ∷ codes "() + 1" ∷ codes "a + 1" ∷ codes "true() * 2" ∷ codes
    "1 to 'b'" ∷ []) ≡ refused r.SureTypeError 2 ∷ refused r.SureTypeError 0 ∷ refused r.SureTypeError 1 ∷ refused r.SureTypeError
    2 ∷ accepted ∷ accepted ∷ refused r.SureTypeError 0 ∷ refused r.SureTypeError 2 ∷ []
unfolding given untyped tokens_of answer_of_characters words_from longest many_then comment_rest comment_at separator_length closes is_symbol tk.judged token_of
    is_name_start is_name_char is_white_space chars close run append function_in type_in j.judged j.operands pt.placed pt.placed_inside pt.uses pt.uses_of_parts
    pt.has_free pt.parts_have_free typing_of g.written g.parts_written
row_7 = refl

row_8 : map told (codes "('a') + 1" ∷ codes "1 + (('a'))" ∷ codes "(a, 'b') + 1" ∷ codes "1/a" ∷ codes "(1, a)/b" ∷ codes "a/1" ∷ codes "a/1/b" ∷ codes
    "'a'//b" ∷ []) ≡ refused r.SureTypeError 0 ∷ refused r.SureTypeError 2 ∷ accepted ∷ refused r.SureTypeError 0 ∷ accepted ∷ accepted ∷ refused
    r.SureTypeError 2 ∷ refused r.SureTypeError 0 ∷ []
unfolding given untyped tokens_of answer_of_characters words_from longest many_then comment_rest comment_at separator_length closes is_symbol tk.judged token_of
    is_name_start is_name_char is_white_space chars close run append function_in type_in j.judged j.operands pt.placed pt.placed_inside pt.uses pt.uses_of_parts
    pt.has_free pt.parts_have_free typing_of g.written g.parts_written
row_8 = refl

row_9 : map told (codes "a | 1" ∷ codes "1 union a" ∷ codes "a intersect 'b'" ∷ codes "1 except a" ∷ codes "1 = 'a'" ∷ codes "'a' and 1" ∷ codes
    "data(a) + 1" ∷ codes "xs:date(a) + 1" ∷ []) ≡ refused r.SureTypeError 2 ∷ refused r.SureTypeError 0 ∷ refused r.SureTypeError 2 ∷ refused r.SureTypeError
    0 ∷ accepted ∷ accepted ∷ accepted ∷ refused r.SureTypeError 0 ∷ []
unfolding given untyped tokens_of answer_of_characters words_from longest many_then comment_rest comment_at separator_length closes is_symbol tk.judged token_of
    is_name_start is_name_char is_white_space chars close run append function_in type_in j.judged j.operands pt.placed pt.placed_inside pt.uses pt.uses_of_parts
    pt.has_free pt.parts_have_free typing_of g.written g.parts_written
row_9 = refl

row_10 : map told (codes "for $x in 'a' return $x + 1" ∷ codes "$v + 1" ∷ codes "(1, 2)[. + 1]" ∷ codes "('a', 'b')[. + 1]" ∷ codes "a[. + 1]" ∷ codes
    "abs('a')" ∷ []) ≡ refused r.SureTypeError 6 ∷ accepted ∷ accepted ∷ refused r.SureTypeError 6 ∷ accepted ∷ accepted ∷ []
unfolding given untyped tokens_of answer_of_characters words_from longest many_then comment_rest comment_at separator_length closes is_symbol tk.judged token_of
    is_name_start is_name_char is_white_space chars close run append function_in type_in j.judged j.operands pt.placed pt.placed_inside pt.uses pt.uses_of_parts
    pt.has_free pt.parts_have_free typing_of g.written g.parts_written
row_10 = refl

-- Of several the first

row_11 : map told (codes "nope('a' + 1)" ∷ codes "'a' + nope()" ∷ codes "nope() + 'a'" ∷ codes "1 + 'a' + nope()" ∷ codes "concat($x)" ∷ codes
    "$x cast as xs:foo" ∷ codes "nope() cast as q:t" ∷ codes "(nope()) + 'a'" ∷ []) ≡ refused r.UnknownFunction 0 ∷ refused r.SureTypeError 0 ∷ refused
    r.UnknownFunction 0 ∷ refused r.SureTypeError 2 ∷ refused r.WrongArity 0 ∷ refused r.UndeclaredVariable 0 ∷ refused r.UndeclaredPrefix 0 ∷ refused
    r.UnknownFunction 1 ∷ []
unfolding given untyped tokens_of answer_of_characters words_from longest many_then comment_rest comment_at separator_length closes is_symbol tk.judged token_of
    is_name_start is_name_char is_white_space chars close run append function_in type_in j.judged j.operands pt.placed pt.placed_inside pt.uses pt.uses_of_parts
    pt.has_free pt.parts_have_free typing_of g.written g.parts_written
row_11 = refl

-- Kinds

row_12 : map kinds (codes "'a'" ∷ codes "1" ∷ codes "()" ∷ codes "." ∷ codes ".." ∷ codes "/" ∷ codes "@a" ∷ codes "$v" ∷ []) ≡ strings ∷ numbers ∷ no_kinds ∷
    nodes ∷ nodes ∷ nodes ∷ nodes ∷ all_kinds ∷ []
unfolding given untyped tokens_of answer_of_characters words_from longest many_then comment_rest comment_at separator_length closes is_symbol tk.judged token_of
    is_name_start is_name_char is_white_space chars close run append function_in type_in j.judged j.operands pt.placed pt.placed_inside pt.uses pt.uses_of_parts
    pt.has_free pt.parts_have_free typing_of g.written g.parts_written
row_12 = refl

row_13 : map kinds (codes "a or b" ∷ codes "a = 1" ∷ codes "a castable as xs:date" ∷ codes "some $x in a satisfies 1" ∷ codes "1 to 2" ∷ codes "-a" ∷ codes
    "a * 2" ∷ codes "a | b" ∷ []) ≡ booleans ∷ booleans ∷ booleans ∷ booleans ∷ numbers ∷ numbers ∷ numbers ∷ nodes ∷ []
unfolding given untyped tokens_of answer_of_characters words_from longest many_then comment_rest comment_at separator_length closes is_symbol tk.judged token_of
    is_name_start is_name_char is_white_space chars close run append function_in type_in j.judged j.operands pt.placed pt.placed_inside pt.uses pt.uses_of_parts
    pt.has_free pt.parts_have_free typing_of g.written g.parts_written
row_13 = refl

row_14 : map kinds (codes "a/string()" ∷ codes "'a'[1]" ∷ codes "('a')" ∷ codes "1, 'a'" ∷ codes "if ('a') then 1 else a" ∷ codes
    "for $x in 'a' return 1" ∷ codes "for $x in 'a' return $x" ∷ codes "('a', 1)[.]" ∷ []) ≡ strings ∷ strings ∷ strings ∷ united numbers strings ∷ united
    numbers nodes ∷ numbers ∷ strings ∷ united strings numbers ∷ []
unfolding given untyped tokens_of answer_of_characters words_from longest many_then comment_rest comment_at separator_length closes is_symbol tk.judged token_of
    is_name_start is_name_char is_white_space chars close run append function_in type_in j.judged j.operands pt.placed pt.placed_inside pt.uses pt.uses_of_parts
    pt.has_free pt.parts_have_free typing_of g.written g.parts_written
row_14 = refl

row_15 : map kinds (codes "a cast as xs:date" ∷ codes "xs:integer(a)" ∷ codes "xs:boolean(a)" ∷ codes "reverse(('a', 1))" ∷ codes "data((a, 1))" ∷ codes
    "distinct-values(a)" ∷ codes "max(a)" ∷ codes "min(('a', xs:date('b'), true()))" ∷ []) ≡ dates ∷ numbers ∷ booleans ∷ united strings numbers ∷ united
    untyped numbers ∷ untyped ∷ numbers ∷ united strings dates ∷ []
unfolding given untyped tokens_of answer_of_characters words_from longest many_then comment_rest comment_at separator_length closes is_symbol tk.judged token_of
    is_name_start is_name_char is_white_space chars close run append function_in type_in j.judged j.operands pt.placed pt.placed_inside pt.uses pt.uses_of_parts
    pt.has_free pt.parts_have_free typing_of g.written g.parts_written
row_15 = refl

row_16 : map kinds (codes "count(a)" ∷ codes "not(a)" ∷ codes "string-join(a, '')" ∷ codes "namespace-uri()" ∷ codes "sum(a)" ∷ codes
    "(1, 'a')[position() = 1]/.." ∷ []) ≡ numbers ∷ booleans ∷ strings ∷ strings ∷ numbers ∷ all_kinds ∷ []
unfolding given untyped tokens_of answer_of_characters words_from longest many_then comment_rest comment_at separator_length closes is_symbol tk.judged token_of
    is_name_start is_name_char is_white_space chars close run append function_in type_in j.judged j.operands pt.placed pt.placed_inside pt.uses pt.uses_of_parts
    pt.has_free pt.parts_have_free typing_of g.written g.parts_written
row_16 = refl

-- Uses of the focus, and what depends on the document alone, part by part

row_17 : uses (codes "1") ≡ (false, true) ∷ []
unfolding given untyped tokens_of answer_of_characters words_from longest many_then comment_rest comment_at separator_length closes is_symbol tk.judged token_of
    is_name_start is_name_char is_white_space chars close run append function_in type_in j.judged j.operands pt.placed pt.placed_inside pt.uses pt.uses_of_parts
    pt.has_free pt.parts_have_free typing_of g.written g.parts_written
row_17 = refl

row_18 : uses (codes "a") ≡ (true, false) ∷ []
unfolding given untyped tokens_of answer_of_characters words_from longest many_then comment_rest comment_at separator_length closes is_symbol tk.judged token_of
    is_name_start is_name_char is_white_space chars close run append function_in type_in j.judged j.operands pt.placed pt.placed_inside pt.uses pt.uses_of_parts
    pt.has_free pt.parts_have_free typing_of g.written g.parts_written
row_18 = refl

row_19 : uses (codes ".") ≡ (true, false) ∷ []
unfolding given untyped tokens_of answer_of_characters words_from longest many_then comment_rest comment_at separator_length closes is_symbol tk.judged token_of
    is_name_start is_name_char is_white_space chars close run append function_in type_in j.judged j.operands pt.placed pt.placed_inside pt.uses pt.uses_of_parts
    pt.has_free pt.parts_have_free typing_of g.written g.parts_written
row_19 = refl

row_20 : uses (codes "/") ≡ (true, true) ∷ []
unfolding given untyped tokens_of answer_of_characters words_from longest many_then comment_rest comment_at separator_length closes is_symbol tk.judged token_of
    is_name_start is_name_char is_white_space chars close run append function_in type_in j.judged j.operands pt.placed pt.placed_inside pt.uses pt.uses_of_parts
    pt.has_free pt.parts_have_free typing_of g.written g.parts_written
row_20 = refl

row_21 : uses (codes "position()") ≡ (true, false) ∷ []
unfolding given untyped tokens_of answer_of_characters words_from longest many_then comment_rest comment_at separator_length closes is_symbol tk.judged token_of
    is_name_start is_name_char is_white_space chars close run append function_in type_in j.judged j.operands pt.placed pt.placed_inside pt.uses pt.uses_of_parts
    pt.has_free pt.parts_have_free typing_of g.written g.parts_written
row_21 = refl

row_22 : uses (codes "string()") ≡ (true, false) ∷ []
unfolding given untyped tokens_of answer_of_characters words_from longest many_then comment_rest comment_at separator_length closes is_symbol tk.judged token_of
    is_name_start is_name_char is_white_space chars close run append function_in type_in j.judged j.operands pt.placed pt.placed_inside pt.uses pt.uses_of_parts
    pt.has_free pt.parts_have_free typing_of g.written g.parts_written
row_22 = refl

row_23 : uses (codes "string(1)") ≡ (false, true) ∷ (false, true) ∷ []
unfolding given untyped tokens_of answer_of_characters words_from longest many_then comment_rest comment_at separator_length closes is_symbol tk.judged token_of
    is_name_start is_name_char is_white_space chars close run append function_in type_in j.judged j.operands pt.placed pt.placed_inside pt.uses pt.uses_of_parts
    pt.has_free pt.parts_have_free typing_of g.written g.parts_written
row_23 = refl

row_24 : uses (codes "$v") ≡ (false, false) ∷ []
unfolding given untyped tokens_of answer_of_characters words_from longest many_then comment_rest comment_at separator_length closes is_symbol tk.judged token_of
    is_name_start is_name_char is_white_space chars close run append function_in type_in j.judged j.operands pt.placed pt.placed_inside pt.uses pt.uses_of_parts
    pt.has_free pt.parts_have_free typing_of g.written g.parts_written
row_24 = refl

row_25 : uses (codes "/a/b") ≡ (true, true) ∷ (true, false) ∷ (true, false) ∷ []
unfolding given untyped tokens_of answer_of_characters words_from longest many_then comment_rest comment_at separator_length closes is_symbol tk.judged token_of
    is_name_start is_name_char is_white_space chars close run append function_in type_in j.judged j.operands pt.placed pt.placed_inside pt.uses pt.uses_of_parts
    pt.has_free pt.parts_have_free typing_of g.written g.parts_written
row_25 = refl

row_26 : uses (codes "//a[1]") ≡ (true, true) ∷ (true, false) ∷ (true, false) ∷ (false, true) ∷ []
unfolding given untyped tokens_of answer_of_characters words_from longest many_then comment_rest comment_at separator_length closes is_symbol tk.judged token_of
    is_name_start is_name_char is_white_space chars close run append function_in type_in j.judged j.operands pt.placed pt.placed_inside pt.uses pt.uses_of_parts
    pt.has_free pt.parts_have_free typing_of g.written g.parts_written
row_26 = refl

row_27 : uses (codes "a/position()") ≡ (true, false) ∷ (true, false) ∷ (true, false) ∷ []
unfolding given untyped tokens_of answer_of_characters words_from longest many_then comment_rest comment_at separator_length closes is_symbol tk.judged token_of
    is_name_start is_name_char is_white_space chars close run append function_in type_in j.judged j.operands pt.placed pt.placed_inside pt.uses pt.uses_of_parts
    pt.has_free pt.parts_have_free typing_of g.written g.parts_written
row_27 = refl

row_28 : uses (codes "1[position() = 2]") ≡ (false, true) ∷ (false, true) ∷ (true, false) ∷ (true, false) ∷ (false, true) ∷ []
unfolding given untyped tokens_of answer_of_characters words_from longest many_then comment_rest comment_at separator_length closes is_symbol tk.judged token_of
    is_name_start is_name_char is_white_space chars close run append function_in type_in j.judged j.operands pt.placed pt.placed_inside pt.uses pt.uses_of_parts
    pt.has_free pt.parts_have_free typing_of g.written g.parts_written
row_28 = refl

row_29 : uses (codes "count(//a)") ≡ (true, true) ∷ (true, true) ∷ (true, false) ∷ []
unfolding given untyped tokens_of answer_of_characters words_from longest many_then comment_rest comment_at separator_length closes is_symbol tk.judged token_of
    is_name_start is_name_char is_white_space chars close run append function_in type_in j.judged j.operands pt.placed pt.placed_inside pt.uses pt.uses_of_parts
    pt.has_free pt.parts_have_free typing_of g.written g.parts_written
row_29 = refl

row_30 : uses (codes "(1, 2)[/a]") ≡ (false, true) ∷ (false, true) ∷ (false, true) ∷ (false, true) ∷ (false, true) ∷ (true, false) ∷ (true, false) ∷ []
unfolding given untyped tokens_of answer_of_characters words_from longest many_then comment_rest comment_at separator_length closes is_symbol tk.judged token_of
    is_name_start is_name_char is_white_space chars close run append function_in type_in j.judged j.operands pt.placed pt.placed_inside pt.uses pt.uses_of_parts
    pt.has_free pt.parts_have_free typing_of g.written g.parts_written
row_30 = refl

row_31 : uses (codes "for $x in //a return $x") ≡ (true, true) ∷ (true, true) ∷ (true, false) ∷ (false, false) ∷ []
unfolding given untyped tokens_of answer_of_characters words_from longest many_then comment_rest comment_at separator_length closes is_symbol tk.judged token_of
    is_name_start is_name_char is_white_space chars close run append function_in type_in j.judged j.operands pt.placed pt.placed_inside pt.uses pt.uses_of_parts
    pt.has_free pt.parts_have_free typing_of g.written g.parts_written
row_31 = refl

row_32 : uses (codes "for $x in 1 return for $y in $x return $y") ≡ (false, true) ∷ (false, true) ∷ (false, false) ∷ (false, false) ∷ (false, false) ∷ []
unfolding given untyped tokens_of answer_of_characters words_from longest many_then comment_rest comment_at separator_length closes is_symbol tk.judged token_of
    is_name_start is_name_char is_white_space chars close run append function_in type_in j.judged j.operands pt.placed pt.placed_inside pt.uses pt.uses_of_parts
    pt.has_free pt.parts_have_free typing_of g.written g.parts_written
row_32 = refl

row_33 : uses (codes "some $x in a satisfies $v = $x") ≡ (true, false) ∷ (true, false) ∷ (false, false) ∷ (false, false) ∷ (false, false) ∷ []
unfolding given untyped tokens_of answer_of_characters words_from longest many_then comment_rest comment_at separator_length closes is_symbol tk.judged token_of
    is_name_start is_name_char is_white_space chars close run append function_in type_in j.judged j.operands pt.placed pt.placed_inside pt.uses pt.uses_of_parts
    pt.has_free pt.parts_have_free typing_of g.written g.parts_written
row_33 = refl

row_34 : uses (codes "if (/a) then 1 else last()") ≡ (true, false) ∷ (true, true) ∷ (true, false) ∷ (false, true) ∷ (true, false) ∷ []
unfolding given untyped tokens_of answer_of_characters words_from longest many_then comment_rest comment_at separator_length closes is_symbol tk.judged token_of
    is_name_start is_name_char is_white_space chars close run append function_in type_in j.judged j.operands pt.placed pt.placed_inside pt.uses pt.uses_of_parts
    pt.has_free pt.parts_have_free typing_of g.written g.parts_written
row_34 = refl

-- Patterns

row_35 : map told (codes "matches('a', 'a')" ∷ codes "matches('a')" ∷ codes "matches('a', '[', 'i')" ∷ codes "matches()" ∷ codes "matches('a', 'a') + 1" ∷ codes
    "matches($x, '[')" ∷ codes "matches('a' + 1, '[')" ∷ codes "p:matches('a', '[')" ∷ []) ≡ accepted ∷ refused r.WrongArity 0 ∷ refused r.WrongArity
    0 ∷ refused r.WrongArity 0 ∷ refused r.SureTypeError 0 ∷ refused r.UndeclaredVariable 2 ∷ refused r.SureTypeError 2 ∷ refused r.UnknownFunction 0 ∷ []
unfolding given untyped tokens_of answer_of_characters words_from longest many_then comment_rest comment_at separator_length closes is_symbol tk.judged token_of
    is_char is_name_start is_name_char is_white_space chars close run append function_in type_in j.judged j.operands j.literal_refusals pt.placed
    pt.placed_inside pt.uses pt.uses_of_parts pt.has_free pt.parts_have_free typing_of g.written g.parts_written
row_35 = refl

row_36 : map told (codes "matches('a', ('b'))" ∷ codes "matches('a', 'b'[1])" ∷ codes "matches('a', concat('a', 'b'))" ∷ codes "matches('a', $v)" ∷ codes
    "matches('a', 'b' + 1)" ∷ codes "matches('a', 1 + 'b')" ∷ codes "matches(string(.), .)" ∷ []) ≡ refused r.NotLiteral 4 ∷ refused r.NotLiteral 4 ∷ refused
    r.NotLiteral 4 ∷ refused r.NotLiteral 4 ∷ refused r.NotLiteral 4 ∷ refused r.NotLiteral 4 ∷ refused r.NotLiteral 7 ∷ []
unfolding given untyped tokens_of answer_of_characters words_from longest many_then comment_rest comment_at separator_length closes is_symbol tk.judged token_of
    is_char is_name_start is_name_char is_white_space chars close run append function_in type_in j.judged j.operands j.literal_refusals pt.placed
    pt.placed_inside pt.uses pt.uses_of_parts pt.has_free pt.parts_have_free typing_of g.written g.parts_written
row_36 = refl

row_37 : map told (codes "matches('a', nope())" ∷ codes "matches('a', $x)" ∷ codes "matches('a', q:x)" ∷ codes "matches('a', concat('a'))" ∷ codes
    "matches('a', 'b' cast as xs:foo)" ∷ []) ≡ refused r.UnknownFunction 4 ∷ refused r.UndeclaredVariable 4 ∷ refused r.UndeclaredPrefix 4 ∷ refused
    r.WrongArity 4 ∷ refused r.UnknownType 4 ∷ []
unfolding given untyped tokens_of answer_of_characters words_from longest many_then comment_rest comment_at separator_length closes is_symbol tk.judged token_of
    is_char is_name_start is_name_char is_white_space chars close run append function_in type_in j.judged j.operands j.literal_refusals pt.placed
    pt.placed_inside pt.uses pt.uses_of_parts pt.has_free pt.parts_have_free typing_of g.written g.parts_written
row_37 = refl

row_38 : map told (codes "matches('a', '[')" ∷ codes "f:matches('a', '[')" ∷ codes "1 + matches('a', '[')" ∷ codes "matches('a', 'a{2,1}')" ∷ codes
    "matches('a', '(a{1000}){2}')" ∷ codes "matches('a', '(a{1000}){3}')" ∷ codes "matches('a', '(a{1000}){3}[')" ∷ codes
    "matches('a', '[') + 1" ∷ []) ≡ refused r.BadPattern 4 ∷ refused r.BadPattern 4 ∷ refused r.BadPattern 6 ∷ refused r.BadPattern 4 ∷ accepted ∷ refused
    r.PatternTooLarge 4 ∷ refused r.BadPattern 4 ∷ refused r.BadPattern 4 ∷ []
unfolding given untyped tokens_of answer_of_characters words_from longest many_then comment_rest comment_at separator_length closes is_symbol tk.judged token_of
    is_char is_name_start is_name_char is_white_space chars close run append function_in type_in j.judged j.operands j.literal_refusals pt.placed
    pt.placed_inside pt.uses pt.uses_of_parts pt.has_free pt.parts_have_free typing_of g.written g.parts_written
row_38 = refl
