-- Going over the characters of a text, and what is made of those that are left.
use Rattle.std.proofs.Common.{◌≡◌, ℕ, zero, suc, ◌+◌, ◌<◌, Bool, true, false, List, [], ◌∷◌, ◌++◌, length, drop, get_or, Option, Some, None, refl, sym, ap, ◌∙◌}
use Rattle.std.proofs.Common.{add-one, drop-cons, arith, append_assoc, append-nil}
use Rattle.std.specs.Prelude.{if◌then◌else◌}
use Rattle.std.proofs.Math.ListN.{drop_of_length-le}
use Rattle.xsd_pattern.specs.declared.token.Member.{Member}
use Rattle.xsd_pattern.specs.declared.token.Class.{Class}
use Rattle.xsd_pattern.specs.declared.token.Token.{Token}
use Rattle.xsd_pattern.specs.declared.step.Step.{Step}
use Rattle.xsd_pattern.specs.declared.mode.Mode.{Mode}
use Rattle.xsd_pattern.specs.Lexing.{Behind, Gives, with_ended, with_token, put_before, tokens_from, is_between}
use Rattle.xsd_pattern.specs.Lexing as x
use Rattle.xsd_pattern.specs.States.{only_if}
use Rattle.xsd_pattern.specs.Steps.{passed, at, ran}
use Rattle.xsd_pattern.specs.Parts.{copies}

-- the next character and those behind it
pub next_at : {A : Type 0} (xs : List A) (k : ℕ) (x : A) → (k < length xs) × (x ≡ get_or xs k x) → drop k xs ≡ x ∷ drop (k + 1) xs
next_at xs k x (l, e) = drop-cons xs k x l ∙ (λ i. sym e i ∷ drop (sym (add-one k) i) xs)

pub none_at : {A : Type 0} (xs : List A) (k : ℕ) → k ≡ length xs → drop k xs ≡ []
none_at xs k e = drop_of_length-le xs (omega arith)

pub ran_on : (has : Option ℕ → ℕ → Bool) (steps : List Step) (first : Bool) (marks marks' : List Bool) (answer answer' : Bool) (text : List ℕ) (k c : ℕ)
    (whole : Bool)
    → (k < length text) × (c ≡ get_or text k c) → marks' ≡ (passed has c steps marks (at first false [])).marks
    → answer' ≡ (passed has c steps marks (at first false [])).end.behind
    → ran has steps first marks answer (drop k text) ≡ whole → ran has steps false marks' answer' (drop (k + 1) text) ≡ whole
ran_on has steps first marks marks' answer answer' text k c whole t m a h =
    (λ i. ran has steps false (m i) (a i) (drop (k + 1) text)) ∙ (sym (ap (λ t. ran has steps first marks answer t) (next_at text k c t)) ∙ h)

pub ran_end : (has : Option ℕ → ℕ → Bool) (steps : List Step) (first : Bool) (marks : List Bool) (answer : Bool) (text : List ℕ) (k : ℕ) (whole : Bool)
    → k ≡ length text → ran has steps first marks answer (drop k text) ≡ whole → answer ≡ whole
ran_end has steps first marks answer text k whole e h = (λ i. ran has steps first marks answer (sym (none_at text k e) i)) ∙ h

-- ---- tokens

put-behind : (before : List (Token Class)) (ended : Option (Token Class)) (o : Option (List (Token Class)))
    → put_before before (with_token ended o) ≡ put_before (with_ended before ended) o
put-behind before None o = refl
put-behind before (Some token) None = refl
put-behind before (Some token) (Some tokens) = ap Some (sym (append_assoc before (token ∷ []) tokens))

-- what is read behind a character
abbrev pub goes_on : Option Behind → List ℕ → Option (List (Token Class))
goes_on None text = None
goes_on (Some b) text = with_token b.ended (tokens_from b.mode b.members text)

pub goes-cons : (mode : Mode) (members : List Member) (c : ℕ) (text : List ℕ) → tokens_from mode members (c ∷ text) ≡ goes_on (x.at mode members c) text
goes-cons mode members c text = elim (x.at mode members c) as (λ o. elim o [
  | None ↦ None
  | Some b ↦ with_token b.ended
      (tokens_from b.mode b.members text)
] ≡ goes_on o text) [ None ↦ refl | Some b ↦ refl ]

some_is : {A : Type 0} (a b : A) → Some a ≡ Some b → a ≡ b
some_is a b e = cc

given_some : (o : Option Behind) (mode : Mode) (members : List Member) (before tokens : List (Token Class)) (text : List ℕ)
    → Gives o (Some mode) members before tokens
    → put_before before (goes_on o text) ≡ put_before tokens (tokens_from mode members text)
given_some None mode members before tokens text e = cc
given_some (Some b) mode members before tokens text (m, n, t) = put-behind before b.ended (tokens_from b.mode b.members text)
    ∙ (λ i. put_before (sym t i) (tokens_from (some_is b.mode mode (sym m) i) (sym n i) text))

given_none : (o : Option Behind) (members : List Member) (before tokens : List (Token Class)) (text : List ℕ) → Gives o None members before tokens
    → put_before before (goes_on o text) ≡ None
given_none None members before tokens text e = refl
given_none (Some b) members before tokens text (m, n, t) = cc

pub read_on : (mode mode' : Mode) (members members' : List Member) (before tokens : List (Token Class)) (text : List ℕ) (k c : ℕ) (whole : Option (List
    (Token Class)))
    → (k < length text) × (c ≡ get_or text k c) → Gives (x.at mode members c) (Some mode') members' before tokens
    → put_before before (tokens_from mode members (drop k text)) ≡ whole → put_before tokens (tokens_from mode' members' (drop (k + 1) text)) ≡ whole
read_on mode mode' members members' before tokens text k c whole t g h =
    sym (given_some (x.at mode members c) mode' members' before tokens (drop (k + 1) text) g)
    ∙ (sym (ap (put_before before) (goes-cons mode members c (drop (k + 1) text)))
    ∙ (sym (ap (λ t. put_before before (tokens_from mode members t)) (next_at text k c t)) ∙ h))

pub read_none : (mode : Mode) (members members' : List Member) (before tokens : List (Token Class)) (text : List ℕ) (k c : ℕ) (whole : Option (List
    (Token Class)))
    → (k < length text) × (c ≡ get_or text k c) → Gives (x.at mode members c) None members' before tokens
    → put_before before (tokens_from mode members (drop k text)) ≡ whole → whole ≡ None
read_none mode members members' before tokens text k c whole t g h =
    sym h ∙ (ap (λ t. put_before before (tokens_from mode members t)) (next_at text k c t)
    ∙ (ap (put_before before) (goes-cons mode members c (drop (k + 1) text))
    ∙ given_none (x.at mode members c) members' before tokens (drop (k + 1) text) g))

at_end_of : (b : Bool) (mode : Mode) (members : List Member) (tokens : List (Token Class)) → b ≡ is_between mode
    → put_before tokens (tokens_from mode members []) ≡ only_if b tokens
at_end_of b mode members tokens e = go (is_between mode) ∙ ap (λ v. only_if v tokens) (sym e)
  where
    go : (v : Bool) → put_before tokens (if v then Some [] else None) ≡ only_if v tokens
    go true = ap Some (append-nil tokens)
    go false = refl

pub read_end : (b : Bool) (mode : Mode) (members : List Member) (tokens : List (Token Class)) (text : List ℕ) (k : ℕ) (whole : Option (List (Token Class)))
    → k ≡ length text → b ≡ is_between mode → put_before tokens (tokens_from mode members (drop k text)) ≡ whole → whole ≡ only_if b tokens
read_end b mode members tokens text k whole e d h =
    sym h ∙ (ap (λ t. put_before tokens (tokens_from mode members t)) (none_at text k e) ∙ at_end_of b mode members tokens d)

-- ---- copies

pub copies-more : (k : ℕ) (steps : List Step) → copies k steps ++ steps ≡ copies (k + 1) steps
copies-more k steps = go k ∙ ap (λ n. copies n steps) (sym (add-one k))
  where
    go : (k : ℕ) → copies k steps ++ steps ≡ copies (suc k) steps
    go zero = sym (append-nil steps)
    go (suc k) = append_assoc steps (copies k steps) steps ∙ ap (λ t. steps ++ t) (go k)
