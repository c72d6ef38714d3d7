-- Texts with their expressions, or with none: the definitions compute these.
use Rattle.std.specs.Prelude.{ℕ, ◌≡◌, Bool, true, false, List, [], ◌∷◌, ◌++◌, Option, Some, None, Ok, Err, codes, refl, option_map, is_some, is_none, map}
use Rattle.std.specs.Prelude.{replicate}
use Rattle.std.specs.List.{list_all}
use Rattle.std.specs.Str.{chars}
use Rattle.inv_base.specs.Characters.{is_name_start, is_name_char, is_white_space}
use Rattle.xpath_tokens.specs.Longest.{longest, many_then}
use Rattle.xpath_tokens.specs.Words.{words_from, comment_rest, comment_at, separator_length, closes, is_symbol}
use Rattle.xpath_tokens.specs.Tokens.{tokens_of, answer_of_characters, judged, token_of}
use Rattle.xpath_tokens.specs.declared.token.Operator.{Operator}
use Rattle.xpath_tokens.specs.declared.token.Operator.TheVariants as o
use Rattle.xpath_tokens.specs.declared.token.Name.TheVariants as n
use Rattle.xpath_tokens.specs.declared.token.Token.{Token}
use Rattle.xpath_tokens.specs.declared.token.Token.TheVariants as t
use Rattle.xpath_grammar.specs.declared.step.Axis.TheVariants as a
use Rattle.xpath_grammar.specs.declared.step.AxisForm.TheVariants as w
use Rattle.xpath_grammar.specs.declared.step.KindTest.TheVariants as q
use Rattle.xpath_grammar.specs.declared.step.Test.TheVariants as e
use Rattle.xpath_grammar.specs.declared.operators.Production.TheVariants as p
use Rattle.xpath_grammar.specs.declared.operators.CastWord.TheVariants as c
use Rattle.xpath_grammar.specs.declared.operators.Binder.TheVariants as b
use Rattle.xpath_grammar.specs.Grammar as g
use Rattle.xpath_grammar.specs.Grammar.{Tree, Parts, leaf, node, none, more}
use Rattle.xpath_grammar.specs.Machine.{tree_of, close, run, append}
use Rattle.xpath_grammar.specs.Patterns as pa

-- the expression of a text
abbrev read : List ℕ → Option Tree
read text = elim (tokens_of text) [ Ok tokens ↦ tree_of tokens | Err fault ↦ None ]

abbrev reads : List (List ℕ) → Bool
reads texts = list_all (λ text. is_some (read text)) texts

abbrev refuses : List (List ℕ) → Bool
refuses texts = list_all (λ text. is_none (read text)) texts

abbrev levels : List ℕ → Option ℕ
levels text = option_map g.level (read text)

abbrev patterns : List (List ℕ) → List Bool
patterns texts = map (λ text. elim (read text) [ Some x ↦ pa.is_pattern x | None ↦ false ]) texts

abbrev named : List ℕ → Tree
named s = leaf (g.step w.Unwritten (e.Name (n.Plain s)))

abbrev number : ℕ → Tree
number n = leaf (g.number (record { whole = n; fraction = 0 }))

abbrev variable : List ℕ → Tree
variable s = leaf (g.variable (n.Plain s))

abbrev two : Operator → Tree → Tree → Parts
two operator x y = more g.first x (more (g.link operator) y none)

star : Tree
star = leaf (g.step w.Unwritten e.Star)

-- What the token before decides

row_1 : read (codes "* * *") ≡ Some (node (g.chain p.Product) (two o.Times star star))
unfolding tokens_of answer_of_characters words_from longest many_then comment_rest comment_at separator_length closes is_symbol judged token_of is_name_start
    is_name_char is_white_space chars g.level pa.kind_of close run append star
row_1 = refl

row_2 : read (codes "div div div") ≡ Some (node (g.chain p.Product) (two o.Div (named (codes "div")) (named (codes "div"))))
unfolding tokens_of answer_of_characters words_from longest many_then comment_rest comment_at separator_length closes is_symbol judged token_of is_name_start
    is_name_char is_white_space chars g.level pa.kind_of close run append star
row_2 = refl

row_3 : reads (codes "and and and" ∷ codes "or or or" ∷ codes "div div div" ∷ codes "idiv idiv idiv" ∷ codes "mod mod mod" ∷ codes "eq eq eq" ∷ codes
    "ne ne ne" ∷ codes "lt lt lt" ∷ []) ≡ true
unfolding tokens_of answer_of_characters words_from longest many_then comment_rest comment_at separator_length closes is_symbol judged token_of is_name_start
    is_name_char is_white_space chars g.level pa.kind_of close run append star
row_3 = refl

row_4 : reads (codes "le le le" ∷ codes "gt gt gt" ∷ codes "ge ge ge" ∷ codes "to to to" ∷ codes "union union union" ∷ codes
    "intersect intersect intersect" ∷ codes "except except except" ∷ []) ≡ true
unfolding tokens_of answer_of_characters words_from longest many_then comment_rest comment_at separator_length closes is_symbol judged token_of is_name_start
    is_name_char is_white_space chars g.level pa.kind_of close run append star
row_4 = refl

row_5 : refuses (codes "in in in" ∷ codes "return return return" ∷ codes "satisfies satisfies satisfies" ∷ codes "then then then" ∷ codes
    "else else else" ∷ codes "cast cast cast" ∷ codes "castable castable castable" ∷ codes "as as as" ∷ []) ≡ true
unfolding tokens_of answer_of_characters words_from longest many_then comment_rest comment_at separator_length closes is_symbol judged token_of is_name_start
    is_name_char is_white_space chars g.level pa.kind_of close run append star
row_5 = refl

row_6 : reads (codes "in" ∷ codes "return" ∷ codes "satisfies" ∷ codes "then" ∷ codes "else" ∷ codes "cast" ∷ codes "castable" ∷ codes "as" ∷ []) ≡ true
unfolding tokens_of answer_of_characters words_from longest many_then comment_rest comment_at separator_length closes is_symbol judged token_of is_name_start
    is_name_char is_white_space chars g.level pa.kind_of close run append star
row_6 = refl

row_7 : reads (codes "for" ∷ codes "if" ∷ codes "some" ∷ codes "every" ∷ codes "for/if" ∷ codes "if + 1" ∷ []) ≡ true
unfolding tokens_of answer_of_characters words_from longest many_then comment_rest comment_at separator_length closes is_symbol judged token_of is_name_start
    is_name_char is_white_space chars g.level pa.kind_of close run append star
row_7 = refl

-- Levels

row_8 : map levels (codes "1" ∷ codes "()" ∷ codes "/" ∷ codes "f()" ∷ codes "child::a" ∷ codes "(1)" ∷ codes "a[1]" ∷ codes "a[1][1]" ∷ codes "a[b[1]]" ∷ codes
    "/a" ∷ codes "a/b//c" ∷ []) ≡ Some 1 ∷ Some 1 ∷ Some 1 ∷ Some 1 ∷ Some 1 ∷ Some 2 ∷ Some 2 ∷ Some 2 ∷ Some 3 ∷ Some 2 ∷ Some 2 ∷ []
unfolding tokens_of answer_of_characters words_from longest many_then comment_rest comment_at separator_length closes is_symbol judged token_of is_name_start
    is_name_char is_white_space chars g.level pa.kind_of close run append star
row_8 = refl

row_9 : map levels (codes "f(1, (2))" ∷ codes "1 + 2 - 3" ∷ codes "6 * 2 div 3" ∷ codes "1 + 2 * 3" ∷ codes "- - 1" ∷ codes "1 cast as t" ∷ codes
    "1, 2, 3" ∷ codes "for $x in 1 return 2" ∷ codes "if (1) then 2 else 3" ∷ codes "some $x in 1 satisfies (2)" ∷ []) ≡ Some 3 ∷ Some 2 ∷ Some 2 ∷ Some
    3 ∷ Some 2 ∷ Some 2 ∷ Some 2 ∷ Some 2 ∷ Some 2 ∷ Some 3 ∷ []
unfolding tokens_of answer_of_characters words_from longest many_then comment_rest comment_at separator_length closes is_symbol judged token_of is_name_start
    is_name_char is_white_space chars g.level pa.kind_of close run append star
row_9 = refl

-- Each production alone, and where it may not stand

row_10 : read (codes "$x") ≡ Some (variable (codes "x"))
unfolding tokens_of answer_of_characters words_from longest many_then comment_rest comment_at separator_length closes is_symbol judged token_of is_name_start
    is_name_char is_white_space chars g.level pa.kind_of close run append star
row_10 = refl

row_11 : read (codes "a:b") ≡ Some (leaf (g.step w.Unwritten (e.Name (n.Prefixed (codes "a") (codes "b")))))
unfolding tokens_of answer_of_characters words_from longest many_then comment_rest comment_at separator_length closes is_symbol judged token_of is_name_start
    is_name_char is_white_space chars g.level pa.kind_of close run append star
row_11 = refl

row_12 : read (codes "@*") ≡ Some (leaf (g.step w.At e.Star))
unfolding tokens_of answer_of_characters words_from longest many_then comment_rest comment_at separator_length closes is_symbol judged token_of is_name_start
    is_name_char is_white_space chars g.level pa.kind_of close run append star
row_12 = refl

row_13 : read (codes "child::text()") ≡ Some (leaf (g.step (w.Written a.Child) (e.Kind q.Text)))
unfolding tokens_of answer_of_characters words_from longest many_then comment_rest comment_at separator_length closes is_symbol judged token_of is_name_start
    is_name_char is_white_space chars g.level pa.kind_of close run append star
row_13 = refl

row_14 : read (codes "node()") ≡ Some (leaf (g.step w.Unwritten (e.Kind q.Node)))
unfolding tokens_of answer_of_characters words_from longest many_then comment_rest comment_at separator_length closes is_symbol judged token_of is_name_start
    is_name_char is_white_space chars g.level pa.kind_of close run append star
row_14 = refl

row_15 : reads (codes "child::a" ∷ codes "descendant::a" ∷ codes "descendant-or-self::a" ∷ codes "self::a" ∷ codes "attribute::a" ∷ codes "parent::a" ∷ codes
    "ancestor::a" ∷ codes "ancestor-or-self::a" ∷ codes "following-sibling::a" ∷ codes "preceding-sibling::a" ∷ codes "following::a" ∷ codes
    "preceding::a" ∷ []) ≡ true
unfolding tokens_of answer_of_characters words_from longest many_then comment_rest comment_at separator_length closes is_symbol judged token_of is_name_start
    is_name_char is_white_space chars g.level pa.kind_of close run append star
row_15 = refl

row_16 : refuses (codes "a::b" ∷ codes "child::child::a" ∷ codes "child::(a)" ∷ codes "@@a" ∷ codes "@child::a" ∷ codes "child::.." ∷ codes "@1" ∷ codes
    "a:b::c" ∷ codes "node(1)" ∷ codes "a/text(b)" ∷ []) ≡ true
unfolding tokens_of answer_of_characters words_from longest many_then comment_rest comment_at separator_length closes is_symbol judged token_of is_name_start
    is_name_char is_white_space chars g.level pa.kind_of close run append star
row_16 = refl

row_17 : reads (codes ".." ∷ codes "a/.." ∷ codes "../a" ∷ codes "." ∷ codes "./a" ∷ codes "text" ∷ codes "node" ∷ codes "text()/a" ∷ codes "element()" ∷ codes
    "attribute()" ∷ codes "document-node()" ∷ codes "@attribute()" ∷ []) ≡ true
unfolding tokens_of answer_of_characters words_from longest many_then comment_rest comment_at separator_length closes is_symbol judged token_of is_name_start
    is_name_char is_white_space chars g.level pa.kind_of close run append star
row_17 = refl

row_18 : read (codes "f(a, 1)") ≡ Some (node g.call (more (g.calling (n.Plain (codes "f"))) (named (codes "a")) (more g.comma (number 1) none)))
unfolding tokens_of answer_of_characters words_from longest many_then comment_rest comment_at separator_length closes is_symbol judged token_of is_name_start
    is_name_char is_white_space chars g.level pa.kind_of close run append star
row_18 = refl

row_19 : refuses (codes "f(a,)" ∷ codes "f(,a)" ∷ codes "f(a" ∷ codes "f a" ∷ codes "f(a))" ∷ codes "a:*(1)" ∷ codes "*:f()" ∷ codes "()()" ∷ codes
    "1 2" ∷ codes "$x $y" ∷ codes "$a:*" ∷ codes "$1" ∷ codes "$" ∷ []) ≡ true
unfolding tokens_of answer_of_characters words_from longest many_then comment_rest comment_at separator_length closes is_symbol judged token_of is_name_start
    is_name_char is_white_space chars g.level pa.kind_of close run append star
row_19 = refl

row_20 : read (codes "/") ≡ Some (leaf g.root)
unfolding tokens_of answer_of_characters words_from longest many_then comment_rest comment_at separator_length closes is_symbol judged token_of is_name_start
    is_name_char is_white_space chars g.level pa.kind_of close run append star
row_20 = refl

row_21 : read (codes "/a/b") ≡ Some (node (g.chain p.Path) (more (g.link o.Slash) (named (codes "a")) (more (g.link o.Slash) (named (codes "b")) none)))
unfolding tokens_of answer_of_characters words_from longest many_then comment_rest comment_at separator_length closes is_symbol judged token_of is_name_start
    is_name_char is_white_space chars g.level pa.kind_of close run append star
row_21 = refl

row_22 : reads (codes "/ = 1" ∷ codes "(/) * 5" ∷ codes "/*" ∷ codes "//a" ∷ codes "a//b" ∷ codes "/a[1]/(b)/f(c)" ∷ codes "1/2" ∷ []) ≡ true
unfolding tokens_of answer_of_characters words_from longest many_then comment_rest comment_at separator_length closes is_symbol judged token_of is_name_start
    is_name_char is_white_space chars g.level pa.kind_of close run append star
row_22 = refl

row_23 : refuses (codes "//" ∷ codes "/ * 5" ∷ codes "a/" ∷ codes "a///b" ∷ codes "a/-b" ∷ codes "a//" ∷ codes "///a" ∷ codes "/a b" ∷ []) ≡ true
unfolding tokens_of answer_of_characters words_from longest many_then comment_rest comment_at separator_length closes is_symbol judged token_of is_name_start
    is_name_char is_white_space chars g.level pa.kind_of close run append star
row_23 = refl

row_24 : read (codes "a[1][b]") ≡ Some (node g.filter (more g.first (named (codes "a")) (more g.predicate (number 1) (more g.again (named (codes "b")) none))))
unfolding tokens_of answer_of_characters words_from longest many_then comment_rest comment_at separator_length closes is_symbol judged token_of is_name_start
    is_name_char is_white_space chars g.level pa.kind_of close run append star
row_24 = refl

row_25 : refuses (codes "a[1" ∷ codes "a]" ∷ codes "a[]" ∷ codes "a[1]]" ∷ codes "[1]" ∷ codes "/[1]" ∷ codes "-[1]" ∷ codes "a[1)" ∷ codes "(a]" ∷ []) ≡ true
unfolding tokens_of answer_of_characters words_from longest many_then comment_rest comment_at separator_length closes is_symbol judged token_of is_name_start
    is_name_char is_white_space chars g.level pa.kind_of close run append star
row_25 = refl

row_26 : read (codes "- + 1") ≡ Some (node g.signs (more (g.signed (o.Minus ∷ o.Plus ∷ [])) (number 1) none))
unfolding tokens_of answer_of_characters words_from longest many_then comment_rest comment_at separator_length closes is_symbol judged token_of is_name_start
    is_name_char is_white_space chars g.level pa.kind_of close run append star
row_26 = refl

row_27 : read (codes "1 - -1") ≡ Some (node (g.chain p.Sum) (two o.Minus (number 1) (node g.signs (more (g.signed (o.Minus ∷ [])) (number 1) none))))
unfolding tokens_of answer_of_characters words_from longest many_then comment_rest comment_at separator_length closes is_symbol judged token_of is_name_start
    is_name_char is_white_space chars g.level pa.kind_of close run append star
row_27 = refl

row_28 : read (codes "1 cast as t? castable as s") ≡ Some
    (node (g.cast c.Castable (n.Plain (codes "s")) false) (more g.first (node (g.cast c.Cast (n.Plain (codes "t")) true) (more g.first (number 1) none)) none))
unfolding tokens_of answer_of_characters words_from longest many_then comment_rest comment_at separator_length closes is_symbol judged token_of is_name_start
    is_name_char is_white_space chars g.level pa.kind_of close run append star
row_28 = refl

row_29 : refuses (codes "1 cast as t cast as t" ∷ codes "1 castable as t cast as t" ∷ codes "1 cast as t??" ∷ codes "1 cast t" ∷ codes "1 cast as" ∷ codes
    "cast as t" ∷ codes "1 cast as 2" ∷ codes "1 castable as a:*" ∷ codes "1 as t" ∷ []) ≡ true
unfolding tokens_of answer_of_characters words_from longest many_then comment_rest comment_at separator_length closes is_symbol judged token_of is_name_start
    is_name_char is_white_space chars g.level pa.kind_of close run append star
row_29 = refl

row_30 : reads (codes "- 1 cast as t" ∷ codes "a/b cast as t" ∷ codes "1 cast as a:t" ∷ codes "1 cast as t + 1" ∷ codes "(1 cast as t) cast as t" ∷ []) ≡ true
unfolding tokens_of answer_of_characters words_from longest many_then comment_rest comment_at separator_length closes is_symbol judged token_of is_name_start
    is_name_char is_white_space chars g.level pa.kind_of close run append star
row_30 = refl

row_31 : refuses (codes "1 = 2 = 3" ∷ codes "1 eq 2 ne 3" ∷ codes "1 to 2 to 3" ∷ codes "1 < 2 > 3" ∷ []) ≡ true
unfolding tokens_of answer_of_characters words_from longest many_then comment_rest comment_at separator_length closes is_symbol judged token_of is_name_start
    is_name_char is_white_space chars g.level pa.kind_of close run append star
row_31 = refl

row_32 : read (codes "1 = 2 to 3 + 4") ≡ Some
    (node (g.chain p.Comparison) (two o.Equal (number 1)
    (node (g.chain p.Range) (two o.To (number 2) (node (g.chain p.Sum) (two o.Plus (number 3) (number 4)))))))
unfolding tokens_of answer_of_characters words_from longest many_then comment_rest comment_at separator_length closes is_symbol judged token_of is_name_start
    is_name_char is_white_space chars g.level pa.kind_of close run append star
row_32 = refl

row_33 : read (codes "a | b union c intersect d") ≡ Some
    (node (g.chain p.Union) (more g.first (named (codes "a"))
    (more (g.link o.Bar) (named (codes "b")) (more (g.link o.Union) (node (g.chain p.Intersection) (two o.Intersect (named (codes "c")) (named (codes "d"))))
    none))))
unfolding tokens_of answer_of_characters words_from longest many_then comment_rest comment_at separator_length closes is_symbol judged token_of is_name_start
    is_name_char is_white_space chars g.level pa.kind_of close run append star
row_33 = refl

row_34 : read (codes "1 or 2 and 3, 4") ≡ Some
    (node (g.chain p.Sequence) (more g.first (node (g.chain p.Or) (two o.Or (number 1) (node (g.chain p.And) (two o.And (number 2) (number 3)))))
    (more g.comma (number 4) none)))
unfolding tokens_of answer_of_characters words_from longest many_then comment_rest comment_at separator_length closes is_symbol judged token_of is_name_start
    is_name_char is_white_space chars g.level pa.kind_of close run append star
row_34 = refl

row_35 : read (codes "for $x in 1, $y in 2 return $x + 3") ≡ Some
    (node (g.bound b.For) (more (g.binding (Some b.For) (n.Plain (codes "x"))) (number 1)
    (more (g.binding None (n.Plain (codes "y"))) (number 2)
    (more (g.link o.Return) (node (g.chain p.Sum) (two o.Plus (variable (codes "x")) (number 3))) none))))
unfolding tokens_of answer_of_characters words_from longest many_then comment_rest comment_at separator_length closes is_symbol judged token_of is_name_start
    is_name_char is_white_space chars g.level pa.kind_of close run append star
row_35 = refl

row_36 : refuses (codes "for $x in 1, 2 return 3" ∷ codes "for $x in 1 return" ∷ codes "for $x return 1" ∷ codes "for $x in 1 satisfies 2" ∷ codes
    "some $x in 1 return 2" ∷ codes "for x in 1 return 2" ∷ codes "for $x in 1" ∷ codes "every $x in 1 satisfies 2 satisfies 3" ∷ []) ≡ true
unfolding tokens_of answer_of_characters words_from longest many_then comment_rest comment_at separator_length closes is_symbol judged token_of is_name_start
    is_name_char is_white_space chars g.level pa.kind_of close run append star
row_36 = refl

row_37 : read (codes "if (a, b) then c else d") ≡ Some
    (node g.conditional (more g.condition (node (g.chain p.Sequence) (more g.first (named (codes "a")) (more g.comma (named (codes "b")) none)))
    (more g.then_ (named (codes "c")) (more (g.link o.Else) (named (codes "d")) none))))
unfolding tokens_of answer_of_characters words_from longest many_then comment_rest comment_at separator_length closes is_symbol judged token_of is_name_start
    is_name_char is_white_space chars g.level pa.kind_of close run append star
row_37 = refl

row_38 : refuses (codes "if (a) then b" ∷ codes "if (a) else b" ∷ codes "if () " ∷ codes "if (a) b" ∷ codes "if (a then b else c" ∷ codes
    "if (a) then b else c else d" ∷ codes "if (a) then b, c else d" ∷ []) ≡ true
unfolding tokens_of answer_of_characters words_from longest many_then comment_rest comment_at separator_length closes is_symbol judged token_of is_name_start
    is_name_char is_white_space chars g.level pa.kind_of close run append star
row_38 = refl

-- `for` where a single expression may stand, and nowhere else

row_39 : reads (codes "for $x in 1 return 2" ∷ codes "1, for $x in 1 return 2" ∷ codes "(for $x in 1 return 2)" ∷ codes "f(for $x in 1 return 2)" ∷ codes
    "a[for $x in 1 return 2]" ∷ codes "for $y in for $x in 1 return 2 return 3" ∷ codes "for $y in 3 return for $x in 1 return 2" ∷ codes
    "if (for $x in 1 return 2) then for $x in 1 return 2 else for $x in 1 return 2" ∷ []) ≡ true
unfolding tokens_of answer_of_characters words_from longest many_then comment_rest comment_at separator_length closes is_symbol judged token_of is_name_start
    is_name_char is_white_space chars g.level pa.kind_of close run append star
row_39 = refl

row_40 : refuses (codes "1 or for $x in 1 return 2" ∷ codes "1 and for $x in 1 return 2" ∷ codes "1 = for $x in 1 return 2" ∷ codes
    "1 to for $x in 1 return 2" ∷ codes "1 + for $x in 1 return 2" ∷ codes "1 * for $x in 1 return 2" ∷ codes "a | for $x in 1 return 2" ∷ codes
    "a except for $x in 1 return 2" ∷ codes "- for $x in 1 return 2" ∷ codes "a/for $x in 1 return 2" ∷ codes "/for $x in 1 return 2" ∷ []) ≡ true
unfolding tokens_of answer_of_characters words_from longest many_then comment_rest comment_at separator_length closes is_symbol judged token_of is_name_start
    is_name_char is_white_space chars g.level pa.kind_of close run append star
row_40 = refl

-- Patterns

row_41 : patterns (codes "a" ∷ codes "/" ∷ codes "//a" ∷ codes "/a/@b" ∷ codes "a[1]/b[f(2)][3]" ∷ codes "child::a | attribute::text()" ∷ codes
    "a | b | /c" ∷ codes "*:a" ∷ codes "document-node()" ∷ codes "a union b" ∷ codes "a/.." ∷ []) ≡ true ∷ true ∷ true ∷ true ∷ true ∷ true ∷ true ∷ true ∷ true
    ∷ false ∷ false ∷ []
unfolding tokens_of answer_of_characters words_from longest many_then comment_rest comment_at separator_length closes is_symbol judged token_of is_name_start
    is_name_char is_white_space chars g.level pa.kind_of close run append star
row_41 = refl

row_42 : patterns (codes "self::a" ∷ codes "(a)" ∷ codes "." ∷ codes "$x" ∷ codes "a/(b)" ∷ codes "a intersect b" ∷ codes "1" ∷ codes "f()" ∷ codes
    "a[1] , b" ∷ codes "()" ∷ codes "parent::a[1]" ∷ []) ≡ false ∷ false ∷ false ∷ false ∷ false ∷ false ∷ false ∷ false ∷ false ∷ false ∷ false ∷ []
unfolding tokens_of answer_of_characters words_from longest many_then comment_rest comment_at separator_length closes is_symbol judged token_of is_name_start
    is_name_char is_white_space chars g.level pa.kind_of close run append star
row_42 = refl

-- Pairs of parentheses round a number

pairs : ℕ → List Token
pairs n = replicate n t.LeftParenthesis ++ t.Number (record { whole = 1; fraction = 0 }) ∷ replicate n t.RightParenthesis

deep_255 : option_map g.level (tree_of (pairs 255)) ≡ Some 256
unfolding pairs g.level close run append
deep_255 = refl

deep_256 : option_map g.level (tree_of (pairs 256)) ≡ Some 257
unfolding pairs g.level close run append
deep_256 = refl
