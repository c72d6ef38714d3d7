-- The open elements as they are kept: their names as written on one stack of bytes, and the bindings on another, of which
-- each has the number of its namespace name.
use Rattle.std.specs.Prelude.{◌≡◌, ◌++◌, ℕ, ◌<◌, ◌≤◌, List, [], ◌∷◌, length, reverse, take, drop, string_bytes, bytes_eq, String, Option, Some, None}
use Rattle.std.specs.Prelude.{if◌then◌else◌, Result, OnOk}
use Rattle.std.specs.BTreeMap.{BTreeMap, get_by_text}
use Rattle.std.specs.Global.{Global}
use Rattle.inv_base.specs.Tree.{Name}
use Rattle.xml_tokens.specs.Markup.{Written}
use Rattle.xml_state.specs.Namespaces.{Binding, first_bindings, declared_bindings}
use Rattle.xml_events.specs.NameTables.{space_at, names_of, AreApart, AreKept}
use Rattle.xml_state.specs.States.{Open}
use Rattle.xml_events.specs.declared.kept.Kept.{Kept}
use Rattle.xml_state.specs.declared.scopes.Bound.{Bound}
use Rattle.xml_state.specs.declared.scopes.Frame.{Frame}

-- the open elements from the innermost, what is bound where the next name is read, the innermost first, and the names
-- that were seen
pub record InScope : Type 0 where
  pub open_elements : List Open
  pub bound : List Binding
  pub names : List Name

abbrev pub seen_bound : List (String Global) → Bound → Binding
seen_bound spaces bound = record { prefix = string_bytes bound.prefix; uri = space_at spaces bound.space }

-- the bindings and further ones, each inside those before
abbrev pub bound_in : List (String Global) → List Binding → List Bound → List Binding
bound_in spaces outer [] = outer
bound_in spaces outer (bound ∷ more) = bound_in spaces (seen_bound spaces bound ∷ outer) more

-- the bindings of a stack, the innermost first
abbrev pub bindings_of : List (String Global) → List Bound → List Binding
bindings_of spaces stack = bound_in spaces first_bindings stack

-- The open elements of frames, the innermost first: of each, its name stands behind those outside, and so many bindings
-- stand inside it.
abbrev pub opened : List (String Global) → List Frame → List ℕ → List Bound → List Open
opened spaces [] written stack = []
opened spaces (frame ∷ frames) written stack =
    record { name = drop frame.name_at written; bindings = bindings_of spaces (take frame.bindings stack) }
    ∷ opened spaces frames (take frame.name_at written) (take frame.bindings stack)

-- what is seen of stacks and of the names
abbrev pub in_scope : List Frame → List ℕ → List Bound → List (String Global) → List Kept → InScope
in_scope frames written stack spaces keys =
    record { open_elements = opened spaces (reverse frames) written stack; bound = bindings_of spaces stack; names = names_of spaces keys }

-- the first of two numbers that is one
abbrev pub or_else : Option ℕ → Option ℕ → Option ℕ
or_else None other = other
or_else (Some n) other = Some n

-- the number that the innermost binding of a prefix has
abbrev pub space_of : List ℕ → List Bound → Option ℕ
space_of prefix [] = None
space_of prefix (bound ∷ more) = or_else (space_of prefix more) (if bytes_eq (string_bytes bound.prefix) prefix then Some bound.space else None)

-- The numbers of bindings are below.
abbrev pub AreBelow : ℕ → List Bound → Type 0
AreBelow n [] = Unit {0}
AreBelow n (bound ∷ more) = (bound.space < n) × AreBelow n more

-- No namespace name is kept twice, and each binding has the number of one.
pub record AreBound (spaces : List (String Global)) (stack : List Bound) : Type 0 where
  pub apart : AreApart spaces
  pub below : AreBelow (length spaces) stack

-- numbers by prefix
abbrev pub Shown : Type 0
Shown = BTreeMap (String Global) ℕ

-- Each binding keeps the number that its prefix has outside, the first bindings being outside the others.
abbrev pub HaveHid : List Bound → List Bound → Type 0
HaveHid outer [] = Unit {0}
HaveHid outer (bound ∷ more) = (bound.hid ≡ space_of (string_bytes bound.prefix) outer) × HaveHid (outer ++ bound ∷ []) more

-- Each prefix has the number that its innermost binding has.
pub record AreFound (shown : Shown) (stack : List Bound) : Type 0 where
  pub shows : (prefix : List ℕ) → get_by_text shown prefix ≡ space_of prefix stack
  pub hid : HaveHid [] stack

-- The prefix has this number now, or none, and each other the same as before.
pub record Shows (prefix : List ℕ) (number : Option ℕ) (old new : Shown) : Type 0 where
  pub changed : (other : List ℕ) → get_by_text new other ≡ (if bytes_eq prefix other then number else get_by_text old other)

-- A binding of the prefix to the number stands upon the others.
pub record BindsSpace (prefix : List ℕ) (space : ℕ) (old new : List Bound) : Type 0 where
  pub bound : Bound
  pub named : string_bytes bound.prefix ≡ prefix
  pub numbered : bound.space ≡ space
  pub pushed : new ≡ old ++ bound ∷ []

-- how many bindings stand inside the innermost
abbrev pub inside_innermost : List Frame → ℕ
inside_innermost [] = 0
inside_innermost (frame ∷ frames) = frame.bindings

-- Each frame is within those inside it.
abbrev pub AreNested : List Frame → ℕ → ℕ → Type 0
AreNested [] written bindings = Unit {0}
AreNested (frame ∷ frames) written bindings = (frame.name_at ≤ written) × (frame.bindings ≤ bindings) × AreNested frames frame.name_at frame.bindings

-- the elements around the innermost
abbrev pub around_innermost : List Open → List Open
around_innermost [] = []
around_innermost (element ∷ outer) = outer

-- What holds of the stacks and of the names.
pub record AreScoped (frames : List Frame) (written : List ℕ) (stack : List Bound) (spaces : List (String Global)) (keys : List Kept) : Type 0 where
  pub nested : AreNested (reverse frames) (length written) (length stack)
  pub below : AreBelow (length spaces) stack
  pub kept : AreKept spaces keys

-- And what holds of the numbers by prefix.
pub record AreSound (frames : List Frame) (written : List ℕ) (stack : List Bound) (shown : Shown) (spaces : List (String Global))
    (keys : List Kept) : Type 0 where
  pub scoped : AreScoped frames written stack spaces keys
  pub found : AreFound shown stack

-- The new stacks are the old ones, and perhaps more upon them.
pub record Grows (spaces grown : List (String Global)) (old new : List Bound) : Type 0 where
  pub bound : AreBound grown new
  pub more_spaces : List (String Global)
  pub spaces_are : grown ≡ spaces ++ more_spaces
  pub more : List Bound
  pub are : new ≡ old ++ more

-- What attributes declare was bound inside all others.
pub record Declares {T E : Type 0} (result : Result T E) (attributes : List Written) (spaces grown : List (String Global)) (old new : List Bound) : Type 0 where
  pub grows : Grows spaces grown old new
  pub declared : OnOk result (bindings_of grown new ≡ declared_bindings attributes ++ bindings_of spaces old)

-- A binding was bound inside all others.
pub record Binds {T E : Type 0} (result : Result T E) (binding : Binding) (spaces grown : List (String Global)) (old new : List Bound) : Type 0 where
  pub grows : Grows spaces grown old new
  pub bound : OnOk result (bindings_of grown new ≡ binding ∷ bindings_of spaces old)
