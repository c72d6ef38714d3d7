-- The first part that leads back to its own rule, and what proves that one is: labels that rise along no part, and a
-- way back.
use Rattle.std.specs.Prelude.{◌≡◌, ℕ, zero, suc, ◌<◌, Bool, true, false, nat_eq, nat_le, List, [], ◌∷◌, length, map, take, slice_get, slice_index_or, Option}
use Rattle.std.specs.Prelude.{Some, None}
use Rattle.std.specs.List.{list_all, list_any}
use Rattle.schematron_graph.specs.declared.part.Part.{Part}
use Rattle.schematron_graph.specs.declared.part.Part.TheVariants.{Own, Puts}
use Rattle.schematron_graph.specs.declared.part.Spot.{Spot}
use Rattle.schematron_graph.specs.Rules.{body_of, part_leads, is_back}

-- The part behind so many others is the first that passes.
pub record FirstAt (test : Part → Bool) (parts : List Part) (k : ℕ) : Type 0 where
  pub part : Part
  pub there : slice_get parts k ≡ Some part
  pub passes : test part ≡ true
  pub first : list_any test (take k parts) ≡ false

-- the place of the first part that passes, if one does
abbrev pub IsFirstIn : (Part → Bool) → List Part → Option ℕ → Type 0
IsFirstIn test parts None = list_any test parts ≡ false
IsFirstIn test parts (Some k) = FirstAt test parts k

-- no part of a rule before this one passes the rule's test
abbrev pub NoneBefore : (ℕ → Part → Bool) → List (List Part) → ℕ → Type 0
NoneBefore test rules n = (rule : ℕ) → rule < n → list_any (test rule) (body_of rules rule) ≡ false

-- The spot is the first part of the first rule that passes the rule's test.
pub record FirstSpot (test : ℕ → Part → Bool) (rules : List (List Part)) (spot : Spot) : Type 0 where
  pub part : FirstAt (test spot.rule) (body_of rules spot.rule) spot.part
  pub rule : NoneBefore test rules spot.rule

-- the first part of all that passes, if one does
abbrev pub IsFirst : (ℕ → Part → Bool) → List (List Part) → Option Spot → Type 0
IsFirst test rules None = NoneBefore test rules (length rules)
IsFirst test rules (Some spot) = FirstSpot test rules spot

-- the first part that puts its own rule, or one that leads back to it
abbrev pub IsFirstBack : List (List Part) → Option Spot → Type 0
IsFirstBack rules found = IsFirst (is_back rules) rules found

-- Labels

abbrev pub label_of : List ℕ → ℕ → ℕ
label_of labels rule = slice_index_or labels rule 0

abbrev pub falls_to : List ℕ → ℕ → Part → Bool
falls_to labels own (Own thing) = true
falls_to labels own (Puts other) = nat_le (label_of labels other) own

abbrev pub all_fall : List ℕ → ℕ → List Part → Bool
all_fall labels own parts = list_all (falls_to labels own) parts

-- no label rises along a part
abbrev pub NeverRise : List ℕ → List (List Part) → Type 0
NeverRise labels rules = (rule : ℕ) → all_fall labels (label_of labels rule) (body_of rules rule) ≡ true

abbrev pub is_level : List ℕ → ℕ → Part → Bool
is_level labels own (Own thing) = false
is_level labels own (Puts other) = nat_eq (label_of labels other) own

abbrev pub level_test : List ℕ → ℕ → Part → Bool
level_test labels rule = is_level labels (label_of labels rule)

-- A way back

abbrev pub is_putting : ℕ → Part → Bool
is_putting rule (Own thing) = false
is_putting rule (Puts other) = nat_eq other rule

abbrev pub puts_rule : ℕ → List Part → Bool
puts_rule rule parts = list_any (is_putting rule) parts

-- The rule puts the first of the steps, each step the next, and the last one is the goal.
abbrev pub leads_along : List (List Part) → ℕ → ℕ → List ℕ → Bool
leads_along rules goal from [] = nat_eq from goal
leads_along rules goal from (step ∷ steps) = elim (puts_rule step (body_of rules from)) [ true ↦ leads_along rules goal step steps | false ↦ false ]

-- the part at the spot leads back
pub record IsBackAt (rules : List (List Part)) (spot : Spot) : Type 0 where
  pub part : Part
  pub there : slice_get (body_of rules spot.rule) spot.part ≡ Some part
  pub back : is_back rules spot.rule part ≡ true

-- Which rules lead to one, by depth

abbrev pub leads_in : List Bool → ℕ → Bool
leads_in row rule = slice_index_or row rule false

abbrev pub any_leads : List Bool → ℕ → List Part → Bool
any_leads row goal parts = list_any (part_leads (leads_in row) goal) parts

abbrev pub next_row : List Bool → ℕ → List (List Part) → List Bool
next_row row goal rules = map (any_leads row goal) rules

abbrev pub no_row : List (List Part) → List Bool
no_row rules = map (λ (body : List Part). false) rules

abbrev pub row_of : ℕ → List (List Part) → ℕ → List Bool
row_of zero rules goal = no_row rules
row_of (suc depth) rules goal = next_row (row_of depth rules goal) goal rules
