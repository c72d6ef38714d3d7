-- The text of a path: its names one by one, and the parts of a name.
use Rattle.std.proofs.Common.{◌≡◌, ℕ, Bool, true, false, ◌&&◌, nat_le, List, [], ◌∷◌, ◌++◌, map, length, get_or, drop, ◌+◌, Bor, ◌<◌, ◌≤◌, Option, Some, None}
use Rattle.std.proofs.Common.{Result, IfOk, refl, sym, ap, ◌∙◌, arith, append_assoc, append-nil, if◌then◌else◌, chars, find}
use Rattle.std.specs.Option.{option_map, option_and_then}
use Rattle.std.specs.Str.{IsAscii, bytes_eq}
use Rattle.std.specs.List.{list_all, before_first, after_first, position_or_len, slice_split}
use Rattle.std.specs.Char.{is_ascii_alphabetic, is_ascii_alphanumeric}
use Rattle.std.proofs.lemmas.Bool.{and_parts, false≢true}
use Rattle.std.proofs.lemmas.Bool.Decides.{nat_tests}
use Rattle.std.proofs.lemmas.List.{drop_all, drop_more, length-map}
use Rattle.std.proofs.lemmas.Option.{none-some, some_pair_parts}
use Rattle.std.proofs.lemmas.Result.{IfOk-weaker}
use Rattle.std.proofs.lemmas.Str.{chars-IsAscii}
use Rattle.std.proofs.lemmas.Str.Ascii.{IsAscii-nil, IsAscii-cons}
use Rattle.bind_rows.specs.declared.names.Namespace.{Namespace}
use Rattle.bind_rows.specs.declared.names.ElementName.{ElementName}
use Rattle.extension_files.specs.PathTexts.{is_slash, is_colon, is_local, namespace_of, parts_by, parts_of, name_of, names_of, path_of}

-- names, and those that come behind them
abbrev pub behind : List ElementName → Option (List ElementName) → Option (List ElementName)
behind names more = option_map (λ more. names ++ more) more

pub behind-none : (more : Option (List ElementName)) → behind [] more ≡ more
behind-none None = refl
behind-none (Some more) = refl

behind-one : (names : List ElementName) (name : ElementName) (more : Option (List ElementName)) →
    behind names (option_map (λ names. name ∷ names) more) ≡ behind (names ++ name ∷ []) more
behind-one names name None = refl
behind-one names name (Some more) = ap Some (sym (append_assoc names (name ∷ []) more))

module _ (spaces : List Namespace) (text : List ℕ) (texts : List (List ℕ)) (names : List ElementName) where
  pub names-some : (name : ElementName) → name_of spaces text ≡ Some name → behind names (names_of spaces (text ∷ texts)) ≡ behind (names ++ name ∷ [])
      (names_of spaces texts)
  names-some name h = ap (λ o. behind names (option_and_then (λ name. option_map (λ names. name ∷ names) (names_of spaces texts)) o)) h ∙
      behind-one names name (names_of spaces texts)

  pub names-none : name_of spaces text ≡ None → behind names (names_of spaces (text ∷ texts)) ≡ None
  names-none h = ap (λ o. behind names (option_and_then (λ name. option_map (λ names. name ∷ names) (names_of spaces texts)) o)) h

-- a local part is ASCII
data_types-ascii : (cs : List ℕ) → list_all is_ascii_alphanumeric cs ≡ true → IsAscii cs
data_types-ascii [] h = IsAscii-nil
data_types-ascii (c ∷ cs) h =
    let (here, later) = and_parts (is_ascii_alphanumeric c) (list_all is_ascii_alphanumeric cs) h in
    let low : c < 128 = grind (arith, nat_tests) in
    IsAscii-cons c cs low (data_types-ascii cs later)

local-ascii : (cs : List ℕ) → is_local cs ≡ true → IsAscii cs
local-ascii [] h = IsAscii-nil
local-ascii (c ∷ cs) h =
    let (here, more) = and_parts (is_ascii_alphabetic c) _ h in
    let (few, later) = and_parts _ (list_all is_ascii_alphanumeric cs) more in
    let low : c < 128 = grind (arith, nat_tests) in
    IsAscii-cons c cs low (data_types-ascii cs later)

pub chars-local : (cs : List ℕ) → is_local cs ≡ true → chars cs ≡ cs
chars-local cs h = chars-IsAscii cs (local-ascii cs h)

-- the parts of a name, by what is before the first colon and behind it
pub parts-around : (spaces : List Namespace) (text prefix local : List ℕ) → prefix ≡ before_first is_colon text → local ≡ after_first is_colon text
    → parts_by spaces prefix local ≡ parts_of spaces text
parts-around spaces text prefix local before after = ap (λ p. parts_by spaces p local) before ∙ ap (parts_by spaces (before_first is_colon text)) after

pub parts-without : (spaces : List Namespace) (text : List ℕ) → position_or_len is_colon text ≡ length text → None ≡ parts_of spaces text
parts-without spaces text h =
    let end : after_first is_colon text ≡ [] = drop_all (position_or_len is_colon text + 1) text (omega arith) in
    sym (ap (parts_by spaces (before_first is_colon text)) end)

module _ (spaces : List Namespace) (prefix local : List ℕ) where
  abbrev given : Bool → Option Namespace → Option (Namespace × List ℕ)
  given b found = if b then option_map (λ space. (space, local)) found else None

  pub parts-no_local : is_local local ≡ false → None ≡ parts_by spaces prefix local
  parts-no_local h = sym (ap (λ b. given b (namespace_of spaces prefix)) h)

  module _ (h : is_local local ≡ true) where
    pub parts-no_space : None ≡ namespace_of spaces prefix → None ≡ parts_by spaces prefix local
    parts-no_space f = ap (given true) f ∙ sym (ap (λ b. given b (namespace_of spaces prefix)) h)

    pub parts-whole : (space : Namespace) → Some space ≡ namespace_of spaces prefix →
        ◌≡◌ {A = Option (Namespace × List ℕ)} (Some (space, local)) (parts_by spaces prefix local)
    parts-whole space f = ap (given true) f ∙ sym (ap (λ b. given b (namespace_of spaces prefix)) h)

  -- the parts that there are have a local part, and a namespace that is one of those
  by-parts : (space : Namespace) (l : List ℕ) (b : Bool) (found : Option Namespace) → is_local local ≡ b → namespace_of spaces prefix ≡ found
      → ◌≡◌ {A = Option (Namespace × List ℕ)} (given b found) (Some (space, l)) → (is_local l ≡ true) × (namespace_of spaces prefix ≡ Some space)
  by-parts space l false found e f h = absurd (none-some _ h)
  by-parts space l true None e f h = absurd (none-some _ h)
  by-parts space l true (Some s) e f h =
      let (same_space, same_local) = some_pair_parts s space local l h in
      (ap is_local (sym same_local) ∙ e, f ∙ ap Some same_space)

  pub parts-fine : (space : Namespace) (l : List ℕ) → parts_by spaces prefix local ≡ Some (space, l) → (is_local l ≡ true) ×
      (namespace_of spaces prefix ≡ Some space)
  parts-fine space l h = by-parts space l (is_local local) (namespace_of spaces prefix) refl refl h

-- the name of its parts, whose local part is a text of its own
abbrev pub make : Namespace × List ℕ → ElementName
make parts = record { namespace = parts.0; local = parts.1 }

pub name-made : (spaces : List Namespace) (text : List ℕ) (space : Namespace) (local own : List ℕ) → Some (space, local) ≡ parts_of spaces text →
    own ≡ chars local
    → Some (record { namespace = space; local = own }) ≡ name_of spaces text
name-made spaces text space local own h e =
    ap (λ l. Some (make (space, l))) (e ∙ chars-local local
    ((parts-fine spaces (before_first is_colon text) (after_first is_colon text) space local (sym h)).0)) ∙ ap (option_map make) h

-- a turn of the walk over the texts of names
abbrev texts_of : List (Bor (List ℕ)) → List (List ℕ)
texts_of texts = map (λ (text : Bor (List ℕ)). text.now) texts

module _ (spaces : List Namespace) (all : List (Bor (List ℕ))) (i : ℕ) (names : List ElementName)
    (sofar : behind names (names_of spaces (texts_of (drop i all))) ≡ names_of spaces (texts_of all)) where
  module _ (text : Bor (List ℕ)) (within : i < length all) (at : text ≡ get_or all i text) where
    here : texts_of (drop i all) ≡ text.now ∷ texts_of (drop (i + 1) all)
    here = ap texts_of (drop_more all i text within) ∙ ap (λ (t : Bor (List ℕ)). t.now ∷ texts_of (drop (i + 1) all)) (sym at)

    whole : names_of spaces (texts_of all) ≡ behind names (names_of spaces (text.now ∷ texts_of (drop (i + 1) all)))
    whole = sym sofar ∙ ap (λ texts. behind names (names_of spaces texts)) here

    pub names-turn : (name : ElementName) → Some name ≡ name_of spaces text.now →
        behind (names ++ name ∷ []) (names_of spaces (texts_of (drop (i + 1) all))) ≡ names_of spaces (texts_of all)
    names-turn name h = sym (whole ∙ names-some spaces text.now (texts_of (drop (i + 1) all)) names name (sym h))

    pub names-stop : None ≡ name_of spaces text.now → None ≡ names_of spaces (texts_of all)
    names-stop h = sym (whole ∙ names-none spaces text.now (texts_of (drop (i + 1) all)) names (sym h))

  pub names-end : length all ≤ i → Some names ≡ names_of spaces (texts_of all)
  names-end end =
      ap Some (sym (append-nil names)) ∙ (ap (λ texts. behind names (names_of spaces (texts_of texts))) (sym (drop_all i all end)) ∙ sofar)

-- a local part by its first character
pub local-cons : (text : List ℕ) (c : ℕ) (cs : List ℕ) (rest : Bool) → text ≡ c ∷ cs → is_ascii_alphabetic c ≡ true →
    rest ≡ (nat_le (length cs) 99 && list_all is_ascii_alphanumeric cs)
    → rest ≡ is_local text
local-cons text c cs rest is data_type h = h ∙ sym (ap is_local is ∙ ap (λ b. b && (nat_le (length cs) 99 && list_all is_ascii_alphanumeric cs)) data_type)

-- a path by its texts
module _ (spaces : List Namespace) (text : List ℕ) (all : List (Bor (List ℕ))) (are : texts_of all ≡ slice_split is_slash text) where
  counted : length (slice_split is_slash text) ≡ length all
  counted = sym (ap length are) ∙ length-map all (λ (t : Bor (List ℕ)). t.now)

  pub path-few : length all ≤ 20 → names_of spaces (texts_of all) ≡ path_of spaces text
  path-few h =
      let small : nat_le (length all) 20 ≡ true = grind (arith, nat_tests) in
      let few : nat_le (length (slice_split is_slash text)) 20 ≡ true = ap (λ n. nat_le n 20) counted ∙ small in
      ap (names_of spaces) are ∙ sym (ap (λ b. if b then names_of spaces (slice_split is_slash text) else None) few)

  pub path-many : 20 < length all → None ≡ path_of spaces text
  path-many h =
      let large : nat_le (length all) 20 ≡ false = grind (arith, nat_tests) in
      let many : nat_le (length (slice_split is_slash text)) 20 ≡ false = ap (λ n. nat_le n 20) counted ∙ large in
      sym (ap (λ b. if b then names_of spaces (slice_split is_slash text) else None) many)

  pub path-given : {E : Type 0} (r : Result (Option (List ElementName)) E) → length all ≤ 20 → IfOk r (λ names. names ≡ names_of spaces (texts_of all)) →
      IfOk r (λ path. path ≡ path_of spaces text)
  path-given r h k = IfOk-weaker r _ _ (λ names same. same ∙ path-few h) k

pub ruleset locals = (local-cons)

pub ruleset parts = (parts-no_local, parts-no_space, parts-whole)

pub ruleset names = (behind-none, names-turn, names-stop, names-end)

pub ruleset paths = (path-given, path-many)
