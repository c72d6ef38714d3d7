-- One walk over a text makes what `replaced` says.
use Rattle.std.proofs.Common.{◌≡◌, ℕ, zero, suc, ◌+◌, ◌<◌, ◌≤◌, Bool, true, false, cond, List, [], ◌∷◌, ◌++◌, length, take, Option, Some, None, refl, ap, sym}
use Rattle.std.proofs.Common.{subst, ◌∙◌, append_assoc, append-nil, arith, length-append, ◌⊎◌, inl, inr, true≢false, chars}
use Rattle.std.specs.Prelude.{◌==◌, nat_eq, unwrap_or, encode_utf8_all, Result, Ok, Err, IfOk}
use Rattle.std.specs.Str.{IsUtf8}
use Rattle.std.proofs.lemmas.Str.{chars-nil, encodes-chars, encodes-append}
use Rattle.std.specs.List.{prefix_len}
use Rattle.std.proofs.lemmas.Bool.Decides.{nat_tests}
use Rattle.inv_base.specs.Characters.{is_name_start, is_name_char}
use Rattle.schematron_texts.specs.Replacing.{Parameter, value_of, name_length, value_before, value_at, replaced_behind, replaced, bytes_of}
use Rattle.schematron_texts.specs.Walking.{IsMade, goes_on, value_for, put, walked}
use Rattle.schematron_texts.proofs.CharacterLemmas.{one_character}
use lib.Utf8.{encode, encodes}

bool_cases : (b : Bool) → (b ≡ true) ⊎ (b ≡ false)
bool_cases true = inl refl
bool_cases false = inr refl

same_number : (c d : ℕ) → (c == d) ≡ true → c ≡ d
same_number c d e = grind (arith, nat_tests)

pub is_equal : (c d : ℕ) → c ≡ d → (c == d) ≡ true
is_equal c d e = grind (arith, nat_tests)

pub is_apart : (c d : ℕ) → (c ≡ d → ⊥) → (c == d) ≡ false
is_apart c d h = elim (bool_cases (c == d)) [ inl same ↦ absurd (h (same_number c d same)) | inr other ↦ other ]

-- `$` is no character of a name
dollar_char : is_name_char 36 ≡ false
unfolding is_name_char is_name_start
dollar_char = refl

dollar_start : is_name_start 36 ≡ false
unfolding is_name_start
dollar_start = refl

apart : (test : ℕ → Bool) (c : ℕ) → test 36 ≡ false → test c ≡ true → (c == 36) ≡ false
apart test c none e = elim (bool_cases (c == 36)) [
  | inl same ↦ absurd (true≢false (sym e ∙ (ap test (same_number c 36 same) ∙ none)))
  | inr other ↦ other
]

one_more : (n : ℕ) → 1 + n ≡ suc n
one_more n = omega arith

-- so many characters stand as they are, and those behind them are replaced
abbrev stays : List Parameter → ℕ → List ℕ → List ℕ
stays parameters n text = take n text ++ replaced_behind parameters n text

abbrev chosen : List Parameter → Option (List ℕ) → ℕ → List ℕ → List ℕ
chosen parameters value c text = elim value as (λ _. List ℕ) [
  | None ↦ c ∷ replaced_behind parameters zero text
  | Some v ↦ v ++
      replaced_behind parameters (name_length text) text
]

value_at-plain : (parameters : List Parameter) (c : ℕ) (text : List ℕ) → (c == 36) ≡ false → value_at parameters c text ≡ None
value_at-plain parameters c text e = ap (λ b. elim b as (λ _. Option (List ℕ)) [ true ↦ value_before parameters text | false ↦ None ]) e

replaced-plain : (parameters : List Parameter) (c : ℕ) (text : List ℕ) → (c == 36) ≡ false →
    replaced_behind parameters 0 (c ∷ text) ≡ c ∷ replaced_behind parameters 0 text
replaced-plain parameters c text e = ap (λ v. chosen parameters v c text) (value_at-plain parameters c text e)

-- a name stands as it is
name-stays : (parameters : List Parameter) (text : List ℕ) → replaced_behind parameters 0 text ≡ stays parameters (prefix_len is_name_char text) text
name-stays parameters [] = refl
name-stays parameters (c ∷ text) = elim (bool_cases (is_name_char c)) [
  | inl goes ↦ replaced-plain parameters c text (apart is_name_char c dollar_char goes)
      ∙ (ap (λ t. c ∷ t) (name-stays parameters text)
      ∙ sym (ap (λ n. stays parameters n (c ∷ text)) (ap (λ b. cond b (1 + prefix_len is_name_char text) 0) goes ∙ one_more (prefix_len is_name_char text))))
  | inr ends ↦ sym (ap (λ n. stays parameters n (c ∷ text)) (ap (λ b. cond b (1 + prefix_len is_name_char text) 0) ends))
]

abbrev starting : (start : Bool) (n : ℕ) → ℕ
starting start n = elim start as (λ _. ℕ) [ true ↦ 1 + n | false ↦ 0 ]

whole-name-stays : (parameters : List Parameter) (text : List ℕ) → replaced_behind parameters 0 text ≡ stays parameters (name_length text) text
whole-name-stays parameters [] = refl
whole-name-stays parameters (c ∷ text) = elim (bool_cases (is_name_start c)) [
  | inl goes ↦ replaced-plain parameters c text (apart is_name_start c dollar_start goes)
      ∙ (ap (λ t. c ∷ t) (name-stays parameters text)
      ∙ sym (ap (λ n. stays parameters n (c ∷ text)) (ap (λ b. starting b (prefix_len is_name_char text)) goes ∙ one_more (prefix_len is_name_char text))))
  | inr ends ↦ sym (ap (λ n. stays parameters n (c ∷ text)) (ap (λ b. starting b (prefix_len is_name_char text)) ends))
]

-- how many characters of the text a name goes on with
abbrev more : List ℕ → List ℕ → ℕ
more [] text = name_length text
more (d ∷ name) text = prefix_len is_name_char text

more-nil : (name : List ℕ) → more name [] ≡ 0
more-nil [] = refl
more-nil (d ∷ name) = refl

more-longer : (name : List ℕ) (c : ℕ) (text : List ℕ) → more (name ++ c ∷ []) text ≡ prefix_len is_name_char text
more-longer [] c text = refl
more-longer (d ∷ name) c text = refl

more-goes : (name : List ℕ) (c : ℕ) (text : List ℕ) → goes_on name c ≡ true → more name (c ∷ text) ≡ suc (prefix_len is_name_char text)
more-goes [] c text e = ap (λ b. starting b (prefix_len is_name_char text)) e ∙ one_more (prefix_len is_name_char text)
more-goes (d ∷ name) c text e = ap (λ b. cond b (1 + prefix_len is_name_char text) 0) e ∙ one_more (prefix_len is_name_char text)

more-ends : (name : List ℕ) (c : ℕ) (text : List ℕ) → goes_on name c ≡ false → more name (c ∷ text) ≡ 0
more-ends [] c text e = ap (λ b. starting b (prefix_len is_name_char text)) e
more-ends (d ∷ name) c text e = ap (λ b. cond b (1 + prefix_len is_name_char text) 0) e

-- what becomes of a text behind a name
abbrev behind_name : List Parameter → List ℕ → ℕ → List ℕ → List ℕ
behind_name parameters name n text = put parameters (name ++ take n text) ++ replaced_behind parameters n text

-- `$` before a text, by the length of the name there
dollar_by : (parameters : List Parameter) (text : List ℕ) (n : ℕ) → name_length text ≡ n → replaced_behind parameters 0 text ≡ stays parameters n text
    → behind_name parameters [] n text ≡ chosen parameters (elim n as (λ _. Option (List ℕ)) [ zero ↦ None | suc m ↦ value_of parameters (take (suc m) text) ])
    36 text
dollar_by parameters text zero e stay = refl
dollar_by parameters [] (suc m) e stay = cc
dollar_by parameters (d ∷ text) (suc m) e stay = by (value_of parameters (d ∷ take m text))
  where
    by : (v : Option (List ℕ)) → unwrap_or v (36 ∷ d ∷ take m text) ++ replaced_behind parameters (suc m) (d ∷ text) ≡ chosen parameters v 36 (d ∷ text)
    by None = ap (λ t. 36 ∷ t) (sym stay)
    by (Some v) = ap (λ k. v ++ replaced_behind parameters k (d ∷ text)) (sym e)

at_dollar : (parameters : List Parameter) (text : List ℕ) → behind_name parameters [] (name_length text) text ≡ replaced_behind parameters 0 (36 ∷ text)
at_dollar parameters text = dollar_by parameters text (name_length text) refl (whole-name-stays parameters text)

record Walks (parameters : List Parameter) (text : List ℕ) : Type 0 where
  outside : (name : List ℕ) → walked parameters false name text ≡ replaced_behind parameters 0 text
  inside : (name : List ℕ) → walked parameters true name text ≡ behind_name parameters name (more name text) text

outside-step : (parameters : List Parameter) (name : List ℕ) (c : ℕ) (text : List ℕ) → Walks parameters text
    → (elim (c == 36) as (λ _. List ℕ) [ true ↦ walked parameters true [] text | false ↦ c ∷ walked parameters false name text ]) ≡ replaced_behind parameters 0
    (c ∷ text)
outside-step parameters name c text walks = elim (bool_cases (c == 36)) [
  | inl same ↦ ap (λ b. elim b as (λ _. List ℕ) [ true ↦ walked parameters true [] text | false ↦ c ∷ walked parameters false name text ]) same
      ∙ (walks.inside [] ∙ (at_dollar parameters text ∙ ap (λ d. replaced_behind parameters 0 (d ∷ text)) (sym (same_number c 36 same))))
  | inr other ↦ ap (λ b. elim b as (λ _. List ℕ) [ true ↦ walked parameters true [] text | false ↦ c ∷ walked parameters false name text ]) other
      ∙ (ap (λ t. c ∷ t) (walks.outside name) ∙ sym (replaced-plain parameters c text other))
]

abbrev inside_by : List Parameter → Bool → List ℕ → ℕ → List ℕ → List ℕ
inside_by parameters goes name c text = elim goes as (λ _. List ℕ) [
  | true ↦ walked parameters true (name ++ c ∷ []) text
  | false ↦ put parameters name ++ (elim (c == 36) as (λ _. List ℕ) [ true ↦ walked parameters true [] text | false ↦ c ∷ walked parameters false name text ])
]

inside-goes : (parameters : List Parameter) (name : List ℕ) (c : ℕ) (text : List ℕ) → Walks parameters text → goes_on name c ≡ true
    → walked parameters true (name ++ c ∷ []) text ≡ behind_name parameters name (more name (c ∷ text)) (c ∷ text)
inside-goes parameters name c text walks goes =
    let n : ℕ = prefix_len is_name_char text in
    walks.inside (name ++ c ∷ [])
    ∙ (ap (λ k. behind_name parameters (name ++ c ∷ []) k text) (more-longer name c text)
    ∙ (ap (λ t. put parameters t ++ replaced_behind parameters n text) (append_assoc name (c ∷ []) (take n text))
    ∙ sym (ap (λ k. behind_name parameters name k (c ∷ text)) (more-goes name c text goes))))

inside-ends : (parameters : List Parameter) (name : List ℕ) (c : ℕ) (text : List ℕ) → Walks parameters text → goes_on name c ≡ false
    → put parameters name ++ (elim (c == 36) as (λ _. List ℕ) [ true ↦ walked parameters true [] text | false ↦ c ∷ walked parameters false name text ])
    ≡ behind_name parameters name (more name (c ∷ text)) (c ∷ text)
inside-ends parameters name c text walks ends =
    ap (λ t. put parameters name ++ t) (outside-step parameters name c text walks)
    ∙ (ap (λ t. put parameters t ++ replaced_behind parameters 0 (c ∷ text)) (sym (append-nil name))
    ∙ sym (ap (λ k. behind_name parameters name k (c ∷ text)) (more-ends name c text ends)))

inside-step : (parameters : List Parameter) (name : List ℕ) (c : ℕ) (text : List ℕ) → Walks parameters text
    → inside_by parameters (goes_on name c) name c text ≡ behind_name parameters name (more name (c ∷ text)) (c ∷ text)
inside-step parameters name c text walks = elim (bool_cases (goes_on name c)) [
  | inl goes ↦ ap (λ b. inside_by parameters b name c text) goes ∙ inside-goes parameters name c text walks goes
  | inr ends ↦ ap (λ b. inside_by parameters b name c text) ends ∙ inside-ends parameters name c text walks ends
]

nothing_behind : (parameters : List Parameter) (name : List ℕ) → put parameters name ≡ behind_name parameters name 0 []
nothing_behind parameters name = ap (put parameters) (sym (append-nil name)) ∙ sym (append-nil (put parameters (name ++ [])))

walks-are : (parameters : List Parameter) (text : List ℕ) → Walks parameters text
walks-are parameters [] = record {
  outside = λ name. refl;
  inside = λ name. nothing_behind parameters name ∙ sym (ap (λ k. behind_name parameters name k []) (more-nil name));
}
walks-are parameters (c ∷ text) =
    let walks : Walks parameters text = walks-are parameters text in
    record { outside = λ name. outside-step parameters name c text walks; inside = λ name. inside-step parameters name c text walks }

-- What a walk makes from the start of a text is the text replaced.
pub walked-is : (parameters : List Parameter) (name text : List ℕ) → walked parameters false name text ≡ replaced parameters text
walked-is parameters name text = let walks : Walks parameters text = walks-are parameters text in walks.outside name

-- The walk in code

some_not_none : (n : ℕ) → nat_eq (suc n) 0 ≡ true → ⊥
some_not_none n e = grind (arith, nat_tests)

empty_text : (bs : List ℕ) → nat_eq (length bs) 0 ≡ true → bs ≡ []
empty_text [] e = refl
empty_text (b ∷ bs) e = absurd (some_not_none (length bs) e)

pub no_name : (name : List ℕ) → nat_eq (length name) 0 ≡ true → chars name ≡ []
no_name name e = ap chars (empty_text name e) ∙ chars-nil

some_name : (name cs : List ℕ) → IsUtf8 name → nat_eq (length name) 0 ≡ false → chars name ≡ cs → (d : ℕ) × (ds : List ℕ) × (cs ≡ d ∷ ds)
some_name name [] u e is =
    let none : name ≡ [] = sym (encodes-chars name u) ∙ ap encode_utf8_all is in
    absurd (true≢false (sym (ap (λ n. nat_eq (length n) 0) none) ∙ e))
some_name name (d ∷ ds) u e is = (d, ds, refl)

pub goes_on-more : (name : List ℕ) (c : ℕ) → IsUtf8 name → nat_eq (length name) 0 ≡ false → is_name_char c ≡ goes_on (chars name) c
goes_on-more name c u e = let s = some_name name (chars name) u e refl in ap (λ n. goes_on n c) (sym s.2)

pub value_for-more : (parameters : List Parameter) (name : List ℕ) → IsUtf8 name → nat_eq (length name) 0 ≡ false →
    value_of parameters (chars name) ≡ value_for parameters (chars name)
value_for-more parameters name u e = let s = some_name name (chars name) u e refl in ap (value_of parameters) s.2 ∙ ap (value_for parameters) (sym s.2)

-- a character where no name is open
pub outside-dollar : (parameters : List Parameter) (out name new_name : List ℕ) (opened : Bool) (c : ℕ) (rest : List ℕ) → opened ≡ false → (c == 36) ≡ true →
    new_name ≡ []
    → out ++ walked parameters true new_name rest ≡ out ++ walked parameters opened name (c ∷ rest)
outside-dollar parameters out name new_name opened c rest o e n =
    ap (λ m. out ++ walked parameters true m rest) n
    ∙ (sym (ap (λ b. out ++ (elim b as (λ _. List ℕ) [ true ↦ walked parameters true [] rest | false ↦ c ∷ walked parameters false name rest ])) e)
    ∙ ap (λ b. out ++ walked parameters b name (c ∷ rest)) (sym o))

pub outside-plain : (parameters : List Parameter) (out grown name : List ℕ) (opened : Bool) (c : ℕ) (rest : List ℕ) → opened ≡ false → (c == 36) ≡ false →
    grown ≡ out ++ c ∷ []
    → grown ++ walked parameters opened name rest ≡ out ++ walked parameters opened name (c ∷ rest)
outside-plain parameters out grown name opened c rest o e g =
    ap (λ b. grown ++ walked parameters b name rest) o
    ∙ (ap (λ t. t ++ walked parameters false name rest) g
    ∙ (append_assoc out (c ∷ []) (walked parameters false name rest)
    ∙ (sym (ap (λ b. out ++ (elim b as (λ _. List ℕ) [ true ↦ walked parameters true [] rest | false ↦ c ∷ walked parameters false name rest ])) e)
    ∙ ap (λ b. out ++ walked parameters b name (c ∷ rest)) (sym o))))

-- What fits was made, and what doesn't has more bytes.

pub all_made : (most : ℕ) (fits : Bool) (whole made : List ℕ) → fits ≡ true → IsMade most fits whole made → made ≡ whole
all_made most true whole made e h = h
all_made most false whole made e h = absurd (true≢false (sym e))

pub too_much : (most : ℕ) (fits : Bool) (whole made : List ℕ) → fits ≡ false → IsMade most fits whole made → most < bytes_of whole
too_much most true whole made e h = absurd (true≢false e)
too_much most false whole made e h = h

-- what is too long is so with what stands behind it
longer : (most : ℕ) (front rest : List ℕ) → most < bytes_of front → most < bytes_of (front ++ rest)
longer most front rest h = omega (arith, h, ap length (encodes-append front rest), length-append (encodes front) (encodes rest))

pub outside-pushed : {E : Type 0} (r : Result Bool E) (most : ℕ) (out grown name : List ℕ) (opened : Bool) (c : ℕ) → opened ≡ false → (c == 36) ≡ false →
    IfOk r (λ fits. IsMade most fits (out ++ c ∷ []) grown)
    → IfOk r (λ fits. (parameters : List Parameter) (rest : List ℕ) →
    IsMade most fits (out ++ walked parameters opened name (c ∷ rest)) (grown ++ walked parameters opened name rest))
outside-pushed (Ok true) most out grown name opened c o e g = λ parameters rest. outside-plain parameters out grown name opened c rest o e g
outside-pushed (Ok false) most out grown name opened c o e g = λ parameters rest.
    subst (λ t. most < bytes_of t) (outside-plain parameters out (out ++ c ∷ []) name opened c rest o e refl)
    (longer most (out ++ c ∷ []) (walked parameters opened name rest) g)
outside-pushed (Err x) most out grown name opened c o e g = tt

-- what is made for any parameters is made for these
pub outside-taken : {E : Type 0} (r : Result Bool E) (most : ℕ) (parameters : List Parameter) (whole made : List Parameter → List ℕ → List ℕ)
    → IfOk r (λ fits. (parameters : List Parameter) (rest : List ℕ) → IsMade most fits (whole parameters rest) (made parameters rest))
    → IfOk r (λ fits. (rest : List ℕ) → IsMade most fits (whole parameters rest) (made parameters rest))
outside-taken (Ok fits) most parameters whole made h = h parameters
outside-taken (Err x) most parameters whole made h = tt

-- a character with which the name goes on
pub inside-more : (parameters : List Parameter) (out name longer : List ℕ) (opened : Bool) (c : ℕ) → opened ≡ true → goes_on name c ≡ true
    → longer ≡ name ++ c ∷ [] → (rest : List ℕ) → out ++ walked parameters opened longer rest ≡ out ++ walked parameters opened name (c ∷ rest)
inside-more parameters out name longer opened c o goes g rest =
    ap (λ b. out ++ walked parameters b longer rest) o
    ∙ (ap (λ n. out ++ walked parameters true n rest) g
    ∙ (sym (ap (λ b. out ++ inside_by parameters b name c rest) goes) ∙ ap (λ b. out ++ walked parameters b name (c ∷ rest)) (sym o)))

-- a character before which the name ends
inside-ended : (parameters : List Parameter) (out grown name after : List ℕ) (opened closed : Bool) (c : ℕ) → opened ≡ true → goes_on name c ≡ false
    → grown ≡ out ++ put parameters name → closed ≡ false → (rest : List ℕ) → grown ++ walked parameters closed after (c ∷ rest) ≡ out ++
    walked parameters opened name (c ∷ rest)
inside-ended parameters out grown name after opened closed c o ends g k rest =
    ap (λ b. grown ++ walked parameters b after (c ∷ rest)) k
    ∙ (ap (λ t. t ++ walked parameters false after (c ∷ rest)) g
    ∙ (append_assoc out (put parameters name) (walked parameters false after (c ∷ rest))
    ∙ (ap (λ t. out ++ (put parameters name ++ t)) (walked-is parameters after (c ∷ rest) ∙ sym (walked-is parameters name (c ∷ rest)))
    ∙ (sym (ap (λ b. out ++ inside_by parameters b name c rest) ends) ∙ ap (λ b. out ++ walked parameters b name (c ∷ rest)) (sym o)))))

pub inside-closed : {E : Type 0} (r : Result Bool E) (most : ℕ) (parameters : List Parameter) (out grown name after : List ℕ) (opened closed : Bool) (c : ℕ)
    (made : List Parameter → List ℕ → List ℕ) → opened ≡ true → goes_on name c ≡ false
    → grown ≡ out ++ put parameters name → closed ≡ false
    → IfOk r (λ fits. (parameters : List Parameter) (rest : List ℕ) →
    IsMade most fits (grown ++ walked parameters closed after (c ∷ rest)) (made parameters rest))
    → IfOk r (λ fits. (rest : List ℕ) → IsMade most fits (out ++ walked parameters opened name (c ∷ rest)) (made parameters rest))
inside-closed (Ok fits) most parameters out grown name after opened closed c made o ends g k h = λ rest.
    subst (λ t. IsMade most fits t (made parameters rest)) (inside-ended parameters out grown name after opened closed c o ends g k rest) (h parameters rest)
inside-closed (Err x) most parameters out grown name after opened closed c made o ends g k h = tt

-- what stands for the name is too long
pub inside-long : (most : ℕ) (parameters : List Parameter) (out name : List ℕ) (opened : Bool) (c : ℕ) → opened ≡ true → goes_on name c ≡ false →
    most < bytes_of (out ++ put parameters name)
    → (rest : List ℕ) → most < bytes_of (out ++ walked parameters opened name (c ∷ rest))
inside-long most parameters out name opened c o ends h rest =
    subst (λ t. most < bytes_of t) (inside-ended parameters out (out ++ put parameters name) name name opened false c o ends refl refl rest)
    (longer most (out ++ put parameters name) (walked parameters false name (c ∷ rest)) h)

-- `$` and the name
pub back-long : (most : ℕ) (out name : List ℕ) → most < bytes_of (out ++ 36 ∷ []) → most < bytes_of (out ++ 36 ∷ name)
back-long most out name h = subst (λ t. most < bytes_of t) (append_assoc out (36 ∷ []) name) (longer most (out ++ 36 ∷ []) name h)

-- Lengths

bytes-front : (out rest : List ℕ) → IsUtf8 out → bytes_of (chars out ++ rest) ≡ length out + bytes_of rest
bytes-front out rest u = ap length (encodes-append (chars out) rest) ∙
    (length-append (encodes (chars out)) (encodes rest) ∙ ap (λ t. length t + bytes_of rest) (encodes-chars out u))

pub not_too_long : (out : List ℕ) (most : ℕ) → IsUtf8 out → length out ≤ most → bytes_of (chars out) ≤ most
not_too_long out most u h = omega (arith, ap length (encodes-chars out u))

pub text_too_long : (out piece : List ℕ) (most : ℕ) → IsUtf8 out → IsUtf8 piece → most < length out + length piece → most < bytes_of (chars out ++ chars piece)
text_too_long out piece most u v h = omega (arith, h, bytes-front out (chars piece) u, ap length (encodes-chars piece v))

pub character_too_long : (out : List ℕ) (c most : ℕ) → IsUtf8 out → IsUtf8 (encode c) → most < length out + length (encode c) →
    most < bytes_of (chars out ++ c ∷ [])
character_too_long out c most u v h = subst (λ t. most < bytes_of (chars out ++ t)) (one_character c v) (text_too_long out (encode c) most u v h)
