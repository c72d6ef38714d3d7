-- The tokens of words, as far as a loop over them has come.
use Rattle.std.proofs.Common.{◌≡◌, ℕ, ◌+◌, List, [], ◌∷◌, ◌++◌, Option, Some, None, Result, Ok, Err, refl, sym, ap, ◌∙◌}
use Rattle.std.proofs.lemmas.List.{append_assoc, append-nil}
use Rattle.xpath_tokens.specs.declared.token.Token.{Token}
use Rattle.xpath_tokens.specs.declared.token.Place.{Place}
use Rattle.xpath_tokens.specs.Tokens.{token_of, first_of, place_behind, with_token, judged}

-- the tokens before the tokens
abbrev pub with_tokens : List Token → Result (List Token) ℕ → Result (List Token) ℕ
with_tokens front (Ok tokens) = Ok (front ++ tokens)
with_tokens front (Err index) = Err index

pub with_tokens-none : (read : Result (List Token) ℕ) → with_tokens [] read ≡ read
with_tokens-none (Ok tokens) = refl
with_tokens-none (Err index) = refl

with_tokens-push : (front : List Token) (token : Token) (read : Result (List Token) ℕ) →
    with_tokens (front ++ token ∷ []) read ≡ with_tokens front (with_token token read)
with_tokens-push front token (Ok tokens) = ap Ok (append_assoc front (token ∷ []) tokens)
with_tokens-push front token (Err index) = refl

-- what a word adds, by its token
at_word : Place → ℕ → List (List ℕ) → Option Token → Result (List Token) ℕ
at_word place index behind found = elim found [ None ↦ Err index | Some token ↦ with_token token (judged (place_behind token) (index + 1) behind) ]

at_word-is : (place : Place) (index : ℕ) (word : List ℕ) (behind : List (List ℕ)) (found : Option Token) → found ≡ token_of place word (first_of behind) →
    judged place index (word ∷ behind) ≡ at_word place index behind found
unfolding judged at_word
at_word-is place index word behind found e = ap (at_word place index behind) (sym e)

pub token-step : (front : List Token) (place : Place) (index : ℕ) (word : List ℕ) (behind all : List (List ℕ)) (token : Token) (whole : Result (List Token) ℕ)
    → all ≡ word ∷ behind → Some token ≡ token_of place word (first_of behind) → with_tokens front (judged place index all) ≡ whole
    → with_tokens (front ++ token ∷ []) (judged (place_behind token) (index + 1) behind) ≡ whole
unfolding at_word
token-step front place index word behind all token whole next e same = with_tokens-push front token (judged (place_behind token) (index + 1) behind)
    ∙ ap (with_tokens front) (sym (ap (judged place index) next ∙ at_word-is place index word behind (Some token) e)) ∙ same

pub lacking-step : (front : List Token) (place : Place) (index : ℕ) (word : List ℕ) (behind all : List (List ℕ)) (whole : Result (List Token) ℕ)
    → all ≡ word ∷ behind → None ≡ token_of place word (first_of behind) → with_tokens front (judged place index all) ≡ whole → whole ≡ Err index
unfolding at_word
lacking-step front place index word behind all whole next e same = sym same ∙
    ap (with_tokens front) (ap (judged place index) next ∙ at_word-is place index word behind None e)

pub no-words : (front : List Token) (place : Place) (index : ℕ) (all : List (List ℕ)) (whole : Result (List Token) ℕ) → all ≡ [] →
    with_tokens front (judged place index all) ≡ whole → whole ≡ Ok front
unfolding judged
no-words front place index all whole e same = sym same ∙ ap (λ l. with_tokens front (judged place index l)) e ∙ ap Ok (append-nil front)
