-- How namespace names and names are found: by ordered maps from texts to their places among all, one of namespace names,
-- and one of local names for each namespace.
use Rattle.std.specs.Prelude.{◌≡◌, ℕ, zero, suc, Bool, List, [], ◌∷◌, ◌++◌, string_bytes, bytes_eq, String, Option, None}
use Rattle.std.specs.BTreeMap.{BTreeMap, get_by_text}
use Rattle.std.specs.Global.{Global}
use Rattle.std.specs.List.{position}
use Rattle.xml_events.specs.NameTables.{is_kept}
use Rattle.xml_events.specs.declared.kept.Kept.{Kept}

-- places by text
abbrev pub Places : Type 0
Places = BTreeMap (String Global) ℕ

-- What is kept has these bytes.
abbrev pub is_text : List ℕ → String Global → Bool
is_text text kept = bytes_eq text (string_bytes kept)

-- Each text has the place where it stands, and no other has one.
pub record ArePlaced (places : Places) (texts : List (String Global)) : Type 0 where
  pub place : (text : List ℕ) → get_by_text places text ≡ position (is_text text) texts

-- The text stands behind the others.
pub record AddsText (text : List ℕ) (old new : List (String Global)) : Type 0 where
  pub last : String Global
  pub is : string_bytes last ≡ text
  pub added : new ≡ old ++ last ∷ []

-- the place of a local name in the namespace of a number, by the map of that namespace
abbrev pub place_in : List Places → ℕ → List ℕ → Option ℕ
place_in [] space local = None
place_in (places ∷ more) space local = elim space [ zero ↦ get_by_text places local | suc n ↦ place_in more n local ]

-- Each name has the place where it stands, and no other has one.
pub record AreFiled (places : List Places) (keys : List Kept) : Type 0 where
  pub place : (space : ℕ) (local : List ℕ) → place_in places space local ≡ position (is_kept space local) keys
