-- A table of a file: its number, its paths and its term, part by part.
use Rattle.std.proofs.Common.{◌≡◌, ℕ, ℤ, Bool, true, false, ◌&&◌, ◌<◌, ◌≤◌, nat_lt, nat_le, List, Option, Some, None, refl, sym, ap, ◌∙◌, arith, nat_abs, ◌<ℤ◌}
use Rattle.std.proofs.Common.{◌≤ℤ◌, to_z, of_z, w64, codes, subst, if◌then◌else◌}
use Rattle.std.specs.Prelude.{pos, negsuc}
use Rattle.std.specs.Option.{option_map, option_and_then, is_some}
use Rattle.std.proofs.lemmas.Bool.Decides.{nat_tests}
use Rattle.std.proofs.lemmas.Int.{ints, to_z-of_z}
use Rattle.toml.specs.Data.{Data, Members, get_member, as_str}
use Rattle.term_table.specs.declared.terms.DataType.{DataType}
use Rattle.bind_rows.specs.declared.names.Namespace.{Namespace}
use Rattle.bind_rows.specs.declared.names.ElementName.{ElementName}
use Rattle.extension_files.specs.declared.terms.ExtPlace.{ExtPlace}
use Rattle.extension_files.specs.declared.terms.ExtTerm.{ExtTerm}
use Rattle.extension_files.specs.declared.terms.Paths.{Paths}
use Rattle.extension_files.specs.PathTexts.{path_of}
use Rattle.extension_files.specs.TermTables.{number_above, integer_at, number_of, place_of, data_type_of, head_in, other_key_of, head_of, path_at, has_path}
use Rattle.extension_files.specs.TermTables.{some_paths, paths_of, ubl_spaces, cii_spaces, term_of}
use mir.Val.{SFits}

-- the number, by its bounds
above-low : (before : ℕ) (z : ℤ) → z ≤ℤ pos before → None ≡ number_above before z
above-low before (pos n) h =
    let low : nat_lt before n ≡ false = grind (arith, nat_tests, ints) in
    sym (ap (λ b. if b && nat_le n 99 then Some n else None) low)
above-low before (negsuc n) h = refl

above-high : (before : ℕ) (z : ℤ) → pos 99 <ℤ z → None ≡ number_above before z
above-high before (pos n) h =
    let high : (nat_lt before n && nat_le n 99) ≡ false = grind (arith, nat_tests, ints) in
    sym (ap (λ b. if b then Some n else None) high)
above-high before (negsuc n) h = refl

above-within : (before : ℕ) (z : ℤ) → pos before <ℤ z → z ≤ℤ pos 99 → Some (nat_abs (to_z w64 (of_z w64 z))) ≡ number_above before z
above-within before (pos n) low high =
    let few : n ≤ 99 = omega (arith, ints) in
    let above : nat_lt before n ≡ true = grind (arith, nat_tests, ints) in
    let most : nat_le n 99 ≡ true = grind (arith, nat_tests, ints) in
    let fits : SFits w64 (pos n) = record { sfits = omega arith } in
    ap (λ z. Some (nat_abs z)) (to_z-of_z w64 (pos n) fits)
    ∙ sym (ap (λ b. if b && nat_le n 99 then Some n else None) above ∙ ap (λ b. if b then Some n else None) most)
above-within before (negsuc n) low high = absurd (omega (arith, ints))

-- the number of a table, by the whole number that stands there
module _ (before : ℕ) (ms : Members) where
  pub number-none : None ≡ integer_at (codes "number") ms → None ≡ number_of before ms
  number-none h = ap (option_and_then (number_above before)) h

  module _ (z : ℤ) (there : Some z ≡ integer_at (codes "number") ms) where
    pub number-low : (bound : ℤ) → bound ≡ pos before → z ≤ℤ bound → None ≡ number_of before ms
    number-low bound is h = above-low before z (subst (λ b. z ≤ℤ b) is h) ∙ ap (option_and_then (number_above before)) there

    pub number-high : pos 99 <ℤ z → None ≡ number_of before ms
    number-high h = above-high before z h ∙ ap (option_and_then (number_above before)) there

    pub number-within : (bound : ℤ) → bound ≡ pos before → bound <ℤ z → z ≤ℤ pos 99 → Some (nat_abs (to_z w64 (of_z w64 z))) ≡ number_of before ms
    number-within bound is low high = above-within before z (subst (λ b. b <ℤ z) is low) high ∙ ap (option_and_then (number_above before)) there

-- what a table says of its term but its paths
abbrev pub Head : Type 0
Head = ℕ × ExtPlace × DataType

module _ (before : ℕ) (ms : Members) where
  pub head-other : true ≡ is_some (other_key_of ms) → None ≡ head_of before ms
  head-other h = ap (λ b. if b then None else head_in before ms) h

  module _ (alone : false ≡ is_some (other_key_of ms)) where
    inside : head_in before ms ≡ head_of before ms
    inside = ap (λ b. if b then None else head_in before ms) alone

    pub head-no_number : None ≡ number_of before ms → None ≡ head_of before ms
    head-no_number h = ap (option_and_then (λ number. option_and_then (λ place. option_map (λ data_type. (number, place, data_type)) (data_type_of ms))
        (place_of ms))) h
        ∙ inside

    module _ (number : ℕ) (at_number : Some number ≡ number_of before ms) where
      numbered : option_and_then (λ place. option_map (λ data_type. (number, place, data_type)) (data_type_of ms)) (place_of ms) ≡ head_of before ms
      numbered = ap (option_and_then (λ number. option_and_then (λ place. option_map (λ data_type. (number, place, data_type)) (data_type_of ms)) (place_of
          ms)))
          at_number ∙ inside

      pub head-no_place : None ≡ place_of ms → None ≡ head_of before ms
      head-no_place h = ap (option_and_then (λ place. option_map (λ data_type. (number, place, data_type)) (data_type_of ms))) h ∙ numbered

      module _ (place : ExtPlace) (at_place : Some place ≡ place_of ms) where
        placed : option_map (λ data_type. (number, place, data_type)) (data_type_of ms) ≡ head_of before ms
        placed = ap (option_and_then (λ place. option_map (λ data_type. (number, place, data_type)) (data_type_of ms))) at_place ∙ numbered

        pub head-no_letter : None ≡ data_type_of ms → None ≡ head_of before ms
        head-no_letter h = ap (option_map (λ data_type. (number, place, data_type))) h ∙ placed

        pub head-whole : (data_type : DataType) → Some data_type ≡ data_type_of ms → ◌≡◌ {A = Option Head} (Some (number, place, data_type)) (head_of before ms)
        head-whole data_type h = ap (option_map (λ data_type. (number, place, data_type))) h ∙ placed

-- a path at a key
module _ (spaces : List Namespace) (key : List ℕ) (ms : Members) where
  abbrev pub at_key : Option Data → Option (Option (List ElementName))
  at_key o = elim o [ None ↦ Some None | Some d ↦ option_map Some (option_and_then (path_of spaces) (as_str d)) ]

  pub path-missing : None ≡ get_member key ms → Some None ≡ path_at spaces key ms
  path-missing h = ap at_key h

  module _ (d : Data) (there : Some d ≡ get_member key ms) where
    pub path-no_text : None ≡ as_str d → None ≡ path_at spaces key ms
    path-no_text h = ap (λ o. option_map Some (option_and_then (path_of spaces) o)) h ∙ ap at_key there

    module _ (text : List ℕ) (h : Some text ≡ as_str d) where
      by-text : option_map Some (path_of spaces text) ≡ path_at spaces key ms
      by-text = ap (λ o. option_map Some (option_and_then (path_of spaces) o)) h ∙ ap at_key there

      pub path-bad : None ≡ path_of spaces text → None ≡ path_at spaces key ms
      path-bad e = ap (option_map Some) e ∙ by-text

      pub path-good : (names : List ElementName) → Some names ≡ path_of spaces text → Some (Some names) ≡ path_at spaces key ms
      path-good names e = ap (option_map Some) e ∙ by-text

-- the three paths
abbrev pub Path : Type 0
Path = Option (List ElementName)

module _ (ms : Members) where
  abbrev pub third : Path → Path → Option Path → Option Paths
  third ubl credit_note o = option_and_then (λ cii. some_paths (record { ubl = ubl; credit_note = credit_note; cii = cii })) o

  abbrev pub second : Path → Option Path → Option Paths
  second ubl o = option_and_then (λ credit_note. third ubl credit_note (path_at cii_spaces (codes "cii") ms)) o

  abbrev pub first : Option Path → Option Paths
  first o = option_and_then (λ ubl. second ubl (path_at ubl_spaces (codes "cn") ms)) o

  pub paths-no_ubl : None ≡ path_at ubl_spaces (codes "ubl") ms → None ≡ paths_of ms
  paths-no_ubl h = ap first h

  module _ (ubl : Path) (at_ubl : Some ubl ≡ path_at ubl_spaces (codes "ubl") ms) where
    pub paths-no_credit_note : None ≡ path_at ubl_spaces (codes "cn") ms → None ≡ paths_of ms
    paths-no_credit_note h = ap (second ubl) h ∙ ap first at_ubl

    module _ (credit_note : Path) (at_credit_note : Some credit_note ≡ path_at ubl_spaces (codes "cn") ms) where
      pub paths-no_cii : None ≡ path_at cii_spaces (codes "cii") ms → None ≡ paths_of ms
      paths-no_cii h = ap (third ubl credit_note) h ∙ (ap (second ubl) at_credit_note ∙ ap first at_ubl)

      module _ (cii : Path) (at_cii : Some cii ≡ path_at cii_spaces (codes "cii") ms) where
        abbrev all : Paths
        all = record { ubl = ubl; credit_note = credit_note; cii = cii }

        paths-all : some_paths all ≡ paths_of ms
        paths-all = ap (third ubl credit_note) at_cii ∙ (ap (second ubl) at_credit_note ∙ ap first at_ubl)

        pub paths-some : true ≡ has_path all → Some all ≡ paths_of ms
        paths-some h = ap (λ b. if b then Some all else None) h ∙ paths-all

        pub paths-none : false ≡ has_path all → None ≡ paths_of ms
        paths-none h = ap (λ b. if b then Some all else None) h ∙ paths-all

-- a term by its head and its paths
module _ (before : ℕ) (ms : Members) where
  abbrev pub made : Head → Option Paths → Option ExtTerm
  made head o = option_map (λ paths. record { number = head.0; place = head.1; data_type = head.2; paths = paths }) o

  pub term-no_head : None ≡ head_of before ms → None ≡ term_of before ms
  term-no_head h = ap (option_and_then (λ (head : Head). made head (paths_of ms))) h

  module _ (number : ℕ) (place : ExtPlace) (data_type : DataType) (at_head : ◌≡◌ {A = Option Head} (Some (number, place, data_type)) (head_of before ms)) where
    pub term-no_paths : None ≡ paths_of ms → None ≡ term_of before ms
    term-no_paths h = ap (made (number, place, data_type)) h ∙ ap (option_and_then (λ (head : Head). made head (paths_of ms))) at_head

    pub term-whole : (paths : Paths) → Some paths ≡ paths_of ms →
        Some (record { number = number; place = place; data_type = data_type; paths = paths }) ≡ term_of before ms
    term-whole paths h = ap (made (number, place, data_type)) h ∙ ap (option_and_then (λ (head : Head). made head (paths_of ms))) at_head

pub ruleset bounds = (number-none, number-low, number-high, number-within)

pub ruleset heads = (head-other, head-no_number, head-no_place, head-no_letter, head-whole)

pub ruleset ways = (path-missing, path-no_text, path-bad, path-good)

pub ruleset paths = (paths-no_ubl, paths-no_credit_note, paths-no_cii, paths-some, paths-none)

pub ruleset terms = (term-no_head, term-no_paths, term-whole)
