-- A table of names that holds each name once has no more of them than a list that has them all.
use Rattle.std.proofs.Common.{◌≡◌, ℕ, ◌+◌, ◌≤◌, Bool, true, false, ◌||◌, List, [], ◌∷◌, ◌++◌, length, inl, inr, refl, ap, sym, ◌∙◌, subst, suc, arith}
use Rattle.std.proofs.Common.{if◌then◌else◌, bytes_eq, length-append}
use Rattle.std.specs.List.{list_any}
use Rattle.std.proofs.lemmas.Bool.{false≢true}
use Rattle.std.proofs.lemmas.Slice.Eq.{bytes_eq-Decides}
use Rattle.inv_base.specs.Tree.{Name}
use Rattle.xml_events.specs.Names.{same_name, with_name}
use Rattle.xml_state.specs.States.{with_names}
use Rattle.written_laws.proofs.ListLemmas.{and-true, or-right, Among, Within}

abbrev has : List Name → Name → Bool
has table name = list_any (λ n. same_name n name) table

same-text : (text : List ℕ) → bytes_eq text text ≡ true
same-text text = (bytes_eq-Decides text text).1 refl

same-itself : (name : Name) → same_name name name ≡ true
same-itself name = and-true (bytes_eq name.uri name.uri) (bytes_eq name.local name.local) (same-text name.uri) (same-text name.local)

known : (table : List Name) (name : Name) → has table name ≡ true → with_name table name ≡ table
known [] name h = absurd (false≢true h)
known (n ∷ table) name h = go (same_name n name) h (known table name)
  where
    go : (b : Bool) → (b || has table name) ≡ true → (has table name ≡ true → with_name table name ≡ table) →
        (if b then n ∷ table else n ∷ with_name table name) ≡ n ∷ table
    go true k f = refl
    go false k f = ap (λ l. n ∷ l) (f k)

new : (table : List Name) (name : Name) → has table name ≡ false → with_name table name ≡ table ++ name ∷ []
new [] name h = refl
new (n ∷ table) name h = go (same_name n name) h (new table name)
  where
    go : (b : Bool) → (b || has table name) ≡ false → (has table name ≡ false → with_name table name ≡ table ++ name ∷ []) →
        (if b then n ∷ table else n ∷ with_name table name) ≡ n ∷ (table ++ name ∷ [])
    go true k f = absurd (false≢true (sym k))
    go false k f = ap (λ l. n ∷ l) (f k)

has-behind : (table : List Name) (last name : Name) → has (table ++ last ∷ []) name ≡ (has table name || same_name last name)
has-behind [] last name = or-false (same_name last name)
  where
    or-false : (b : Bool) → (b || false) ≡ b
    or-false true = refl
    or-false false = refl
has-behind (n ∷ table) last name = go (same_name n name) (has-behind table last name)
  where
    go : (b : Bool) → has (table ++ last ∷ []) name ≡ (has table name || same_name last name) →
        (b || has (table ++ last ∷ []) name) ≡ ((b || has table name) || same_name last name)
    go true e = refl
    go false e = e

abbrev none_if : Bool → ℕ
none_if true = 0
none_if false = 1

-- how many of the names the table doesn't have
abbrev lacking : List Name → List Name → ℕ
lacking table [] = 0
lacking table (n ∷ names) = none_if (has table n) + lacking table names

none-lacking : (names : List Name) → lacking [] names ≡ length names
none-lacking [] = refl
none-lacking (n ∷ names) = one-more (lacking [] names) (length names) (none-lacking names)
  where
    one-more : (a b : ℕ) → a ≡ b → 1 + a ≡ suc b
    one-more a b e = omega arith

or-fewer : (a b : Bool) → none_if (a || b) ≤ none_if a
or-fewer true b = let z : 0 ≤ 0 = omega arith in z
or-fewer false true = let z : 0 ≤ 1 = omega arith in z
or-fewer false false = let z : 1 ≤ 1 = omega arith in z

sum-fewer : (a b c d e : ℕ) → a ≡ b → b ≤ c → d ≤ e → a + d ≤ c + e
sum-fewer a b c d e f g h = omega arith

fewer : (table : List Name) (last : Name) (names : List Name) → lacking (table ++ last ∷ []) names ≤ lacking table names
fewer table last [] = let z : 0 ≤ 0 = omega arith in z
fewer table last (n ∷ names) =
    sum-fewer (none_if (has (table ++ last ∷ []) n)) (none_if (has table n || same_name last n)) (none_if (has table n)) (lacking (table ++ last ∷ []) names)
    (lacking table names)
    (ap none_if (has-behind table last n)) (or-fewer (has table n) (same_name last n)) (fewer table last names)

one-fewer : (table : List Name) (last : Name) (names : List Name) → Among last names → has table last ≡ false →
    1 + lacking (table ++ last ∷ []) names ≤ lacking table names
one-fewer table last [] a h = absurd a
one-fewer table last (n ∷ names) (inl e) h =
    here (none_if (has (table ++ last ∷ []) n)) (none_if (has table n)) (lacking (table ++ last ∷ []) names) (lacking table names)
    (ap none_if (has-behind table last n ∙ or-right (has table n) (same_name last n) (ap (same_name last) e ∙ same-itself last)))
    (ap none_if (ap (has table) e ∙ h)) (fewer table last names)
  where
    here : (a b c d : ℕ) → a ≡ 0 → b ≡ 1 → c ≤ d → 1 + (a + c) ≤ b + d
    here a b c d e f g = omega arith
one-fewer table last (n ∷ names) (inr a) h =
    there (none_if (has (table ++ last ∷ []) n)) (none_if (has table n || same_name last n)) (none_if (has table n)) (lacking (table ++ last ∷ []) names)
    (lacking table names)
    (ap none_if (has-behind table last n)) (or-fewer (has table n) (same_name last n)) (one-fewer table last names a h)
  where
    there : (a b c d e : ℕ) → a ≡ b → b ≤ c → 1 + d ≤ e → 1 + (a + d) ≤ c + e
    there a b c d e f g k = omega arith

module _ (names : List Name) where
  abbrev Few : List Name → List Name → Type 0
  Few table more = length (with_names table more) ≤ length table + lacking table names

  few-behind : (table : List Name) (n : Name) (more : List Name) → Among n names → ((next : List Name) → Few next more) →
      length (with_names (with_name table n) more) ≤ length table + lacking table names
  few-behind table n more a further = go (has table n) refl
    where
      more-one : (a b c d e : ℕ) → a ≤ b + c → b ≡ d + 1 → 1 + c ≤ e → a ≤ d + e
      more-one a b c d e f g h = omega arith

      go : (b : Bool) → has table n ≡ b → length (with_names (with_name table n) more) ≤ length table + lacking table names
      go true e = subst (λ t. length (with_names t more) ≤ length table + lacking table names) (sym (known table n e)) (further table)
      go false e =
          subst (λ t. length (with_names t more) ≤ length table + lacking table names) (sym (new table n e))
          (more-one (length (with_names (table ++ n ∷ []) more)) (length (table ++ n ∷ [])) (lacking (table ++ n ∷ []) names) (length table)
          (lacking table names)
          (further (table ++ n ∷ [])) (length-append table (n ∷ [])) (one-fewer table n names a e))

  few : (table more : List Name) → Within more names → Few table more
  few table [] h = let z : length table ≤ length table + lacking table names = omega arith in z
  few table (n ∷ more) h = few-behind table n more h.0 (λ next. few next more h.1)

pub few-names : (names more : List Name) → Within more names → length (with_names [] more) ≤ length names
few-names names more h = bound (length (with_names [] more)) (lacking [] names) (length names) (few names [] more h) (none-lacking names)
  where
    bound : (a b c : ℕ) → a ≤ 0 + b → b ≡ c → a ≤ c
    bound a b c e f = omega arith
