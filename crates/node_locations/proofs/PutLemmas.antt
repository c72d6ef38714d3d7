-- Texts put behind others, one after another, up to the one that fails.
use Rattle.std.proofs.Common.{◌≡◌, ℕ, List, [], ◌++◌, Result, Ok, Err, ap, sym, subst, ◌∙◌, append_assoc, append-nil}
use Rattle.std.specs.Prelude.{chars, is_ok, if◌then◌else◌}
use Rattle.std.specs.Result.{IsErr}
use Rattle.std.specs.Str.{IsUtf8}
use Rattle.std.proofs.lemmas.Result.{MatchResult-from_err}
use Rattle.inv_base.proofs.TextLemmas.{chars-append}
use Rattle.inv_base.proofs.WritingLemmas.{IsFront-nil, IsFront-append, IsFront-more}
use Rattle.node_locations.specs.Puts.{HasFront, Puts}

-- nothing was put
pub HasFront-nil : (text before after : List ℕ) → after ≡ before → HasFront text before after
HasFront-nil text before after e = record { front = []; is_front = IsFront-nil text; stands = e ∙ sym (append-nil before) }

-- a front of a text is one of all that it begins
pub HasFront-more : (a b before after : List ℕ) → HasFront a before after → HasFront (a ++ b) before after
HasFront-more a b before after f = record { front = f.front; is_front = IsFront-more f.front a b f.is_front; stands = f.stands }

-- a text, and then a front
pub HasFront-append : (a b s0 s1 s2 : List ℕ) → s1 ≡ s0 ++ a → HasFront b s1 s2 → HasFront (a ++ b) s0 s2
HasFront-append a b s0 s1 s2 p f = record {
  front = a ++ f.front;
  is_front = IsFront-append a f.front b f.is_front;
  stands = f.stands ∙ (ap (λ x. x ++ f.front) p ∙ append_assoc s0 a f.front);
}

-- a text, and then a call
pub Puts-append : {T E : Type 0} (result : Result T E) (a b s0 s1 s2 : List ℕ) → s1 ≡ s0 ++ a → Puts result b s1 s2 → Puts result (a ++ b) s0 s2
Puts-append (Ok x) a b s0 s1 s2 p q = q ∙ (ap (λ x. x ++ b) p ∙ append_assoc s0 a b)
Puts-append (Err e) a b s0 s1 s2 p f = HasFront-append a b s0 s1 s2 p f

-- the same text, told otherwise
pub Puts-as : {T E : Type 0} (result : Result T E) (a b before after : List ℕ) → a ≡ b → Puts result a before after → Puts result b before after
Puts-as result a b before after e p = subst (λ t. Puts result t before after) e p

-- what the exit of a `?` returns
pub Puts-at_err : {T E : Type 0} (result : Result T E) (text before after : List ℕ) → IsErr result → HasFront text before after → Puts result text before after
Puts-at_err result text before after e f = MatchResult-from_err result (λ _. after ≡ before ++ text) (λ _. HasFront text before after) e (λ _. f)

-- a text behind bytes
pub pushed : {T E : Type 0} (result : Result T E) (before after text : List ℕ) → IsUtf8 before → IsUtf8 text
    → after ≡ (if is_ok result then before ++ text else before) → Puts result (chars text) (chars before) (chars after)
pushed (Ok x) before after text u v e = ap chars e ∙ chars-append before text u v
pushed (Err x) before after text u v e = HasFront-nil (chars text) (chars before) (chars after) (ap chars e)
