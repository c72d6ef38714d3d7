-- Names as they are written.
use Rattle.std.proofs.Common.{◌≡◌, ℕ, zero, suc, ◌+◌, ◌<◌, ◌≤◌, Bool, true, false, not, ◌&&◌, if◌then◌else◌, List, [], ◌∷◌, length, take, get_or, refl, sym, ap}
use Rattle.std.proofs.Common.{◌∙◌, arith, Some, None, bytes_eq}
use Rattle.std.specs.Prelude.{codes}
use Rattle.std.specs.List.{list_any, prefix_len, position_or_len}
use Rattle.std.specs.Str.{chars, IsUtf8, encode_utf8_all}
use Rattle.std.proofs.Common.{◌==◌}
use Rattle.std.proofs.lemmas.Str.{encodes-chars, chars-nil}
use Rattle.std.proofs.lemmas.Bool.Decides.{nat_tests}
use Rattle.xml_tokens.specs.WrittenNames.{is_colon, prefix_of, local_of}
use Rattle.xml_state.specs.Namespaces.{xmlns, declared_prefix}

pub lacks : {X : Type 0} (p : X → Bool) (xs : List X) → position_or_len p xs ≡ length xs → list_any p xs ≡ false
lacks p [] h = refl
lacks p (x ∷ xs) h = by (p x) refl (lacks p xs)
  where
    by : (b : Bool) → p x ≡ b → (position_or_len p xs ≡ length xs → list_any p xs ≡ false) → list_any p (x ∷ xs) ≡ false
    by true e rest = let z : position_or_len p (x ∷ xs) ≡ 0 = rw e refl in absurd (omega arith)
    by false e rest = let z : position_or_len p (x ∷ xs) ≡ 1 + position_or_len p xs = rw e refl in rw e (rest (omega arith))

pub prefix_of-none : (name : List ℕ) → position_or_len is_colon name ≡ length name → [] ≡ prefix_of name
prefix_of-none name h = rw (lacks is_colon name h) refl

pub local_of-none : (name : List ℕ) → position_or_len is_colon name ≡ length name → name ≡ local_of name
local_of-none name h = rw (lacks is_colon name h) refl

-- a text without characters has no bytes
pub empty_chars : (a : List ℕ) → IsUtf8 a → (length a == 0) ≡ (length (chars a) == 0)
empty_chars a u = by a (chars a) (encodes-chars a u) refl
  where
    by : (a cs : List ℕ) → encode_utf8_all cs ≡ a → chars a ≡ cs → (length a == 0) ≡ (length cs == 0)
    by a [] e c = rw (sym e) refl
    by [] (c ∷ cs) e f = absurd (let n = ap length (sym chars-nil ∙ f) in omega arith)
    by (x ∷ a) (c ∷ cs) e f = ne_is (length a) (length cs)
      where
        ne_is : (m n : ℕ) → (suc m == 0) ≡ (suc n == 0)
        ne_is m n = grind (arith, nat_tests)

-- a name that doesn't begin as `xmlns` does declares nothing
by_tests : (whole prefix : Bool) (local : List ℕ) → whole ≡ false → prefix ≡ false → (if whole then Some [] else (if prefix then Some local else None)) ≡ None
by_tests whole prefix local h k = rw (h, k) refl

declares-not : (c : ℕ) (name : List ℕ) → (c == 0x78) ≡ false → declared_prefix (c ∷ name) ≡ None
declares-not c name h =
    by_tests (bytes_eq (c ∷ name) xmlns) (bytes_eq (prefix_of (c ∷ name)) xmlns) (local_of (c ∷ name)) (ap (λ t. t && bytes_eq name (codes "mlns")) h)
    (by (list_any is_colon (c ∷ name)) (prefix_len (λ x. not (is_colon x)) (c ∷ name)))
  where
    front : (k : ℕ) → bytes_eq (take k (c ∷ name)) xmlns ≡ false
    front zero = refl
    front (suc k) = ap (λ t. t && bytes_eq (take k name) (codes "mlns")) h

    by : (any : Bool) (k : ℕ) → bytes_eq (if any then take k (c ∷ name) else []) xmlns ≡ false
    by false k = refl
    by true k = front k

pub declares-short : (bytes name : List ℕ) → bytes ≡ name → length bytes < 1 → declared_prefix name ≡ None
declares-short [] name e h = ap declared_prefix (sym e)
declares-short (c ∷ bytes) name e h = absurd (omega arith)

pub declares-other : (bytes name : List ℕ) → bytes ≡ name → 1 ≤ length bytes → (get_or bytes 0 0 == 0x78) ≡ false → declared_prefix name ≡ None
declares-other [] name e h first = absurd (omega arith)
declares-other (c ∷ bytes) name e h first = ap declared_prefix (sym e) ∙ declares-not c bytes first
