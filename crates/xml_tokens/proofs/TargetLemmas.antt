-- Characters at the front of a text, one by one.
use Rattle.std.proofs.Common.{◌≡◌, ℕ, suc, ◌+◌, ◌-◌, ◌<◌, ◌≤◌, Bool, true, false, ◌&&◌, List, [], ◌∷◌, ◌++◌, length, take, drop, refl, sym, ap, ◌∙◌, arith}
use Rattle.std.proofs.Common.{subst, true≢false, cond}
use Rattle.std.specs.Prelude.{encode_utf8}
use Rattle.std.specs.Str.{chars, IsUtf8, IsCharBoundary}
use Rattle.std.specs.List.{list_all, prefix_len}
use Rattle.std.proofs.lemmas.Str.{chars-nil, IsUtf8-nil, IsUtf8-append, IsUtf8-past_char, chars_past_char, IsCharBoundary-at_seam, IsUtf8-take, length-encode}
use Rattle.std.proofs.lemmas.Str.{len_utf8_bounds, chars-append}
use Rattle.std.proofs.lemmas.List.{append_assoc, append-nil, length-append, take_at, drop_at}
use Rattle.xml_tokens.specs.Markup.{target_of}
use Rattle.xml_tokens.specs.Instructions.{goes_on}
use Rattle.xml_tokens.specs.Told.{IsTarget}

-- A front of the text, by its characters that pass a test, and the rest.
pub record Passed (p : ℕ → Bool) (text rest : List ℕ) : Type 0 where
  pub front : List ℕ
  pub cs : List ℕ
  pub whole : text ≡ front ++ rest
  pub told : chars text ≡ cs ++ chars rest
  pub fronts : chars front ≡ cs
  pub utf8 : IsUtf8 front
  pub rest_utf8 : IsUtf8 rest
  pub all : list_all p cs ≡ true

pub passed-begin : (p : ℕ → Bool) (text : List ℕ) → IsUtf8 text → Passed p text text
passed-begin p text u = record {
  front = [];
  cs = [];
  whole = refl;
  told = refl;
  fronts = chars-nil;
  utf8 = IsUtf8-nil;
  rest_utf8 = u;
  all = refl;
}

all-more : (p : ℕ → Bool) (cs : List ℕ) (c : ℕ) → list_all p cs ≡ true → p c ≡ true → list_all p (cs ++ c ∷ []) ≡ true
all-more p [] c h e = ap (λ t. t && true) e
all-more p (d ∷ cs) c h e = by (p d) h (λ g. all-more p cs c g e)
  where
    by : (t : Bool) → (t && list_all p cs) ≡ true → (list_all p cs ≡ true → list_all p (cs ++ c ∷ []) ≡ true) → (t && list_all p (cs ++ c ∷ [])) ≡ true
    by true h rest = rest h
    by false h rest = absurd (true≢false (sym h))

-- the bytes of a character that begins a text are text, and that character
one-char : (rest behind : List ℕ) (c : ℕ) → IsUtf8 rest → rest ≡ encode_utf8 c ++ behind → IsUtf8 (encode_utf8 c) × (chars (encode_utf8 c) ≡ c ∷ [])
one-char rest behind c u e =
    let b : IsUtf8 behind = IsUtf8-past_char rest behind c u e in
    let seam : IsCharBoundary rest (length (encode_utf8 c)) = IsCharBoundary-at_seam rest (encode_utf8 c) behind e b in
    let front : take (length (encode_utf8 c)) rest ≡ encode_utf8 c = ap (take (length (encode_utf8 c))) e ∙
    take_at (encode_utf8 c) behind (length (encode_utf8 c)) refl in
    let text : IsUtf8 (encode_utf8 c) = subst IsUtf8 front (IsUtf8-take rest (length (encode_utf8 c)) u seam) in
    (text, chars_past_char (encode_utf8 c) [] c text (sym (append-nil (encode_utf8 c))) ∙ ap (λ x. c ∷ x) chars-nil)

pub passed-step : (p : ℕ → Bool) (text rest behind : List ℕ) (c : ℕ) → rest ≡ encode_utf8 c ++ behind → p c ≡ true → Passed p text rest → Passed p text behind
passed-step p text rest behind c e h known =
    let one = one-char rest behind c known.rest_utf8 e in
    record {
      front = known.front ++ encode_utf8 c;
      cs = known.cs ++ c ∷ [];
      whole = known.whole ∙ (ap (λ x. known.front ++ x) e ∙ sym (append_assoc known.front (encode_utf8 c) behind));
      told = known.told ∙ (ap (λ x. known.cs ++ x) (chars_past_char rest behind c known.rest_utf8 e) ∙ sym (append_assoc known.cs (c ∷ []) (chars behind)));
      fronts = chars-append known.front (encode_utf8 c) known.utf8 ∙ (ap (λ x. x ++ chars (encode_utf8 c)) known.fronts ∙ ap (λ x. known.cs ++ x) one.1);
      utf8 = IsUtf8-append known.front (encode_utf8 c) known.utf8 one.0;
      rest_utf8 = IsUtf8-past_char rest behind c known.rest_utf8 e;
      all = all-more p known.cs c known.all h;
    }

pub passed-smaller : (rest behind : List ℕ) (c : ℕ) → rest ≡ encode_utf8 c ++ behind → length behind < length rest
passed-smaller rest behind c e =
    let long : length rest ≡ length (encode_utf8 c) + length behind = ap length e ∙ length-append (encode_utf8 c) behind in
    let bound = len_utf8_bounds c in
    omega (arith, length-encode c, bound.0)

pub passed-within : (p : ℕ → Bool) (text rest : List ℕ) → Passed p text rest → length rest ≤ length text
passed-within p text rest known = omega (arith, ap length known.whole, length-append known.front rest)

pub passed-boundary : (p : ℕ → Bool) (text rest : List ℕ) → Passed p text rest → IsCharBoundary text (length text - length rest)
passed-boundary p text rest known =
    let long : length text ≡ length known.front + length rest = ap length known.whole ∙ length-append known.front rest in
    let same : length known.front ≡ length text - length rest = omega arith in
    subst (λ n. IsCharBoundary text n) same (IsCharBoundary-at_seam text known.front rest known.whole known.rest_utf8)

-- what is cut off there
pub passed-cut : (p : ℕ → Bool) (text rest front back : List ℕ) (n : ℕ) → n ≡ length text - length rest → front ≡ take n text → back ≡ drop n text →
    (known : Passed p text rest) → (front ≡ known.front) × (back ≡ rest)
passed-cut p text rest front back n e f g known =
    let long : length text ≡ length known.front + length rest = ap length known.whole ∙ length-append known.front rest in
    let same : length known.front ≡ n = omega arith in
    (f ∙ (ap (take n) known.whole ∙ take_at known.front rest n same), g ∙ (ap (drop n) known.whole ∙ drop_at known.front rest n same))

-- The front is as long as it can be.
abbrev pub Stops : (ℕ → Bool) → List ℕ → Type 0
Stops p [] = Unit {0}
Stops p (c ∷ cs) = p c ≡ false

prefix-all : (p : ℕ → Bool) (cs rest : List ℕ) → list_all p cs ≡ true → Stops p rest → prefix_len p (cs ++ rest) ≡ length cs
prefix-all p [] [] h e = refl
prefix-all p [] (c ∷ rest) h e = ap (λ t. cond t (1 + prefix_len p rest) 0) e
prefix-all p (c ∷ cs) rest h e = by (p c) h (λ g. prefix-all p cs rest g e)
  where
    by : (t : Bool) → (t && list_all p cs) ≡ true → (list_all p cs ≡ true → prefix_len p (cs ++ rest) ≡ length cs) →
        cond t (1 + prefix_len p (cs ++ rest)) 0 ≡ suc (length cs)
    by true h go = let k : prefix_len p (cs ++ rest) ≡ length cs = go h in omega arith
    by false h go = absurd (true≢false (sym h))

pub target-is : (text rest front back : List ℕ) (n : ℕ) → n ≡ length text - length rest → front ≡ take n text → back ≡ drop n text → Stops goes_on (chars rest)
    → Passed goes_on text rest → IsTarget text front back
target-is text rest front back n e f g stops known =
    let cut = passed-cut goes_on text rest front back n e f g known in
    let count : prefix_len goes_on (chars text) ≡ length known.cs = ap (prefix_len goes_on) known.told ∙
    prefix-all goes_on known.cs (chars rest) known.all stops in
    let target : target_of (chars text) ≡ known.cs = ap (λ n. take n (chars text)) count ∙
    (ap (take (length known.cs)) known.told ∙ take_at known.cs (chars rest) (length known.cs) refl) in
    record {
      whole = known.whole ∙ (ap (λ x. x ++ rest) (sym cut.0) ∙ ap (λ x. front ++ x) (sym cut.1));
      target = ap chars cut.0 ∙ (known.fronts ∙ sym target);
      behind = ap chars cut.1 ∙ sym (ap (λ t. drop (length t) (chars text)) target ∙
          (ap (drop (length known.cs)) known.told ∙ drop_at known.cs (chars rest) (length known.cs) refl));
    }

abbrev pub Reached : List ℕ → List ℕ → Type 0
Reached text rest = Passed goes_on text rest

pub stops-nothing : (rest : List ℕ) → rest ≡ [] → Stops goes_on (chars rest)
stops-nothing rest e = subst (λ x. Stops goes_on x) (sym (ap chars e ∙ chars-nil)) tt

pub stops-there : (rest cs : List ℕ) (c : ℕ) → chars rest ≡ c ∷ cs → goes_on c ≡ false → Stops goes_on (chars rest)
stops-there rest cs c e f = subst (λ x. Stops goes_on x) (sym e) f
