-- The answer for a text, from what is known of its words.
use Rattle.std.proofs.Common.{◌≡◌, ℕ, true, false, List, Result, Ok, Err, Vec, length, ltb, sym, ap, ◌∙◌, subst}
use Rattle.std.specs.List.{list_any}
use Rattle.std.specs.Str.{chars}
use Rattle.xpath_tokens.specs.declared.token.Token.{Token}
use Rattle.xpath_tokens.specs.declared.token.Place.TheVariants as p
use Rattle.xpath_tokens.specs.declared.token.SyntaxFault.{SyntaxFault}
use Rattle.xpath_tokens.specs.declared.token.SyntaxFault.TheVariants as f
use Rattle.xpath_tokens.specs.Words.{words}
use Rattle.xpath_tokens.specs.Tokens.{is_wide, judged, answer_of_words, answer_of_characters, tokens_of, Refuses, Answers}
use Rattle.xpath_tokens.specs.Scanning.{CutFault, Judges}

of_words : (text : List ℕ) (cut : List (List ℕ)) → words text ≡ Ok cut → answer_of_characters text ≡ answer_of_words cut
unfolding answer_of_characters
of_words text cut e = ap (λ r. elim r as (λ _. Result (List Token) SyntaxFault) [ Err place ↦ Err (f.Lexical place) | Ok found ↦ answer_of_words found ]) e

pub wide-answer : (text : List ℕ) (cut : List (List ℕ)) → words text ≡ Ok cut → list_any is_wide cut ≡ true → answer_of_characters text ≡ Err f.NumberTooWide
wide-answer text cut e wide = of_words text cut e
    ∙ ap (λ b. elim b as (λ _. Result (List Token) SyntaxFault) [
      | true ↦ Err f.NumberTooWide
      | false ↦ elim (judged p.Operand 0 cut) [ Ok tokens ↦ Ok tokens | Err index ↦ Err (f.Unsupported index) ]
    ]) wide

told : Result (List Token) ℕ → Result (List Token) SyntaxFault
told r = elim r [ Ok tokens ↦ Ok tokens | Err index ↦ Err (f.Unsupported index) ]

narrow-answer : (text : List ℕ) (cut : List (List ℕ)) → words text ≡ Ok cut → list_any is_wide cut ≡ false →
    answer_of_characters text ≡ told (judged p.Operand 0 cut)
unfolding told
narrow-answer text cut e wide = of_words text cut e
    ∙ ap (λ b. elim b as (λ _. Result (List Token) SyntaxFault) [ true ↦ Err f.NumberTooWide | false ↦ told (judged p.Operand 0 cut) ]) wide

pub judged-answer : {Z : Type 0} (text : List ℕ) (cut : List (List ℕ)) (r : Result (Vec Token Z) SyntaxFault) → words text ≡ Ok cut →
    list_any is_wide cut ≡ false → Judges r (judged p.Operand 0 cut) → Answers r (answer_of_characters text)
unfolding told
judged-answer {Z} text cut r e wide h = subst (λ answer. Answers r answer) (sym (narrow-answer text cut e wide)) (by_cases r h) where
  by_cases : (r : Result (Vec Token Z) SyntaxFault) → Judges r (judged p.Operand 0 cut) → Answers r (told (judged p.Operand 0 cut))
  by_cases (Ok tokens) h = ap told h
  by_cases (Err f.Memory) h = tt
  by_cases (Err (f.Unsupported index)) h = ap told h
  by_cases (Err f.TooLong) h = absurd h
  by_cases (Err (f.Lexical place)) h = absurd h
  by_cases (Err f.NumberTooWide) h = absurd h
  by_cases (Err f.Syntax) h = absurd h
  by_cases (Err f.TooDeep) h = absurd h

pub cut-answer : (text : List ℕ) (fault : SyntaxFault) → CutFault fault (words text) → Refuses fault (answer_of_characters text)
unfolding answer_of_characters
cut-answer text f.Memory h = tt
cut-answer text (f.Lexical place) h =
    ap (λ r. elim r as (λ _. Result (List Token) SyntaxFault) [ Err place ↦ Err (f.Lexical place) | Ok found ↦ answer_of_words found ]) h
cut-answer text f.TooLong h = absurd h
cut-answer text (f.Unsupported index) h = absurd h
cut-answer text f.NumberTooWide h = absurd h
cut-answer text f.Syntax h = absurd h
cut-answer text f.TooDeep h = absurd h

pub long-answer : (bytes : List ℕ) → ltb 65536 (length bytes) ≡ true → tokens_of bytes ≡ Err f.TooLong
unfolding tokens_of
long-answer bytes e = ap (λ b. elim b as (λ _. Result (List Token) SyntaxFault) [ true ↦ Err f.TooLong | false ↦ answer_of_characters (chars bytes) ]) e

pub short-answer : (bytes : List ℕ) → ltb 65536 (length bytes) ≡ false → answer_of_characters (chars bytes) ≡ tokens_of bytes
unfolding tokens_of
short-answer bytes e = sym (ap (λ b. elim b as (λ _. Result (List Token) SyntaxFault) [ true ↦ Err f.TooLong | false ↦ answer_of_characters (chars bytes) ]) e)
