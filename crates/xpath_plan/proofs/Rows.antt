-- Shapes of parts, from the characters on.
use Rattle.std.specs.Prelude.{ℕ, ◌≡◌, true, false, List, [], ◌∷◌, Some, None, Ok, Err, codes, refl, map}
use Rattle.std.specs.Str.{chars}
use Rattle.inv_base.specs.Characters.{is_name_start, is_name_char, is_white_space}
use Rattle.xpath_tokens.specs.Longest.{longest, many_then}
use Rattle.xpath_tokens.specs.Words.{words_from, comment_rest, comment_at, separator_length, closes, is_symbol}
use Rattle.xpath_tokens.specs.Tokens.{tokens_of, answer_of_characters, token_of}
use Rattle.xpath_tokens.specs.Tokens as tk
use Rattle.xpath_grammar.specs.Grammar as g
use Rattle.xpath_grammar.specs.Machine.{tree_of, close, run, append}
use Rattle.xpath_types.specs.Scopes.{Declared}
use Rattle.xpath_types.specs.Functions.{function_in, type_in}
use Rattle.xpath_types.specs.Judging as j
use Rattle.xpath_types.specs.Parts as pt
use Rattle.xpath_types.specs.Typing.{outermost}
use Rattle.xpath_plan.specs.Shapes.{Shape, Shaped, value, step, named, within, apart, shapes, shapes_inside, all_free}

given : Declared
given = record { prefixes = record { prefix = codes "p"; uri = codes "urn:p" } ∷ []; variables = codes "v" ∷ [] }

abbrev shaped : List ℕ → List Shaped
shaped text = elim (tokens_of text) [ Ok tokens ↦ elim (tree_of tokens) [ Some x ↦ shapes (outermost given) 0 apart x | None ↦ [] ] | Err fault ↦ [] ]

abbrev o : Shape → Shaped
o s = record { shape = s; once = true }

abbrev i : Shape → Shaped
i s = record { shape = s; once = false }

-- looked into by each row
unfoldable tried : ℕ
unfolding given tokens_of answer_of_characters words_from longest many_then comment_rest comment_at separator_length closes is_symbol tk.judged token_of
    is_name_start is_name_char is_white_space chars close run append function_in type_in j.judged j.operands pt.placed pt.placed_inside pt.uses pt.uses_of_parts
    pt.has_free pt.parts_have_free g.written g.parts_written shapes shapes_inside all_free
tried = 0

row_1 : map shaped (codes "//l" ∷ codes "//l[1]" ∷ codes "//p:x[1 div @k > 0]" ∷ codes "count(//l[last()])" ∷ codes "g//l" ∷ codes "//g/l" ∷ codes "//*" ∷ codes
    "//@l" ∷ [])
    ≡ (o value ∷ i named ∷ [])
    ∷ (o value ∷ i step ∷ i step ∷ i value ∷ [])
    ∷ (o value ∷ i named ∷ i step ∷ i value ∷ i value ∷ i value ∷ i step ∷ i value ∷ [])
    ∷ (o value ∷ o value ∷ i step ∷ i step ∷ i value ∷ [])
    ∷ (i value ∷ i step ∷ i within ∷ [])
    ∷ (o value ∷ i named ∷ i step ∷ [])
    ∷ (o value ∷ i step ∷ [])
    ∷ (o value ∷ i step ∷ []) ∷ []
unfolding tried
row_1 = refl

row_2 : map shaped (codes "$v//l" ∷ codes "l[//x]" ∷ codes "(1, 2)[. = count(//l)]" ∷ codes "//l[. = $v]" ∷ codes "//l[position() = 1]" ∷ codes
    "//l[@a][2]" ∷ codes "cbc = count(//p:l)" ∷ codes "for $x in //l return $x" ∷ [])
    ≡ (i value ∷ i value ∷ i within ∷ [])
    ∷ (i step ∷ i step ∷ o value ∷ i named ∷ [])
    ∷ (o value ∷ o value ∷ o value ∷ i value ∷ i value ∷ i value ∷ i value ∷ i value ∷ i value ∷ i named ∷ [])
    ∷ (i value ∷ i named ∷ i step ∷ i value ∷ i value ∷ i value ∷ [])
    ∷ (o value ∷ i step ∷ i step ∷ i value ∷ i value ∷ i value ∷ [])
    ∷ (o value ∷ i step ∷ i step ∷ i step ∷ i value ∷ [])
    ∷ (i value ∷ i step ∷ o value ∷ o value ∷ i named ∷ [])
    ∷ (o value ∷ o value ∷ i named ∷ i value ∷ []) ∷ []
unfolding tried
row_2 = refl
