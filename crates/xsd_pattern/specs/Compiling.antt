-- What a pattern's text is compiled to.
use Rattle.std.specs.Prelude.{◌≡◌, ℕ, ◌≤◌, ◌<◌, Bool, List, Option, Some, None, Result, Ok, Err}
use Rattle.xsd_pattern.specs.declared.token.Class.{Class}
use Rattle.xsd_pattern.specs.declared.token.Token.{Token}
use Rattle.xsd_pattern.specs.declared.step.Step.{Step}
use Rattle.xsd_pattern.specs.declared.fault.PatternFault.{PatternFault}
use Rattle.xsd_pattern.specs.declared.fault.PatternFault.TheVariants as f
use Rattle.xsd_pattern.specs.declared.parts.Part.{Part}
use Rattle.xsd_pattern.specs.declared.compiling.Compiled.{Compiled}
use Rattle.xsd_pattern.specs.Lexing.{tokens_of}
use Rattle.xsd_pattern.specs.Machine.{read}
use Rattle.xsd_pattern.specs.Parts.{parts, all_steps, is_empty_part}
use Rattle.xsd_pattern.specs.States.{placed_from}

-- the part that the tokens are
abbrev pub part_of : List (Token Class) → Option Part
part_of tokens = read parts (placed_from 0 tokens)

-- the steps are those of a part of at most 2,000 characters
pub record IsOf (part : Part) (steps : List Step) (empty : Bool) : Type 0 where
  pub small : part.size ≤ 2000
  pub steps_are : steps ≡ all_steps part
  pub empty_is : empty ≡ is_empty_part part

abbrev pub FromPart : List (Token Class) → Part → Result Compiled PatternFault → Type 0
FromPart tokens part (Ok c) = (c.tokens ≡ tokens) × IsOf part c.steps c.empty
FromPart tokens part (Err f.Bad) = ⊥
FromPart tokens part (Err f.TooLarge) = 2000 < part.size
FromPart tokens part (Err f.Memory) = Unit {0}

abbrev pub FromTokens : List (Token Class) → Result Compiled PatternFault → Type 0
FromTokens tokens (Ok c) = (c.tokens ≡ tokens) × ((part : Part) × (part_of tokens ≡ Some part) × IsOf part c.steps c.empty)
FromTokens tokens (Err f.Bad) = part_of tokens ≡ None
FromTokens tokens (Err f.TooLarge) = (part : Part) × (part_of tokens ≡ Some part) × (2000 < part.size)
FromTokens tokens (Err f.Memory) = Unit {0}

abbrev pub part_by_tokens : Option (List (Token Class)) → Option Part
part_by_tokens None = None
part_by_tokens (Some tokens) = part_of tokens

-- the part that the text is, none where it is no pattern
abbrev pub part_of_text : List ℕ → Option Part
part_of_text text = part_by_tokens (tokens_of text)

-- the steps are those of the text
pub record IsCompiled (text : List ℕ) (tokens : List (Token Class)) (steps : List Step) (empty : Bool) : Type 0 where
  pub part : Part
  pub tokens_are : tokens_of text ≡ Some tokens
  pub part_is : part_of tokens ≡ Some part
  pub is_of : IsOf part steps empty

abbrev pub FromText : List ℕ → Result Compiled PatternFault → Type 0
FromText text (Ok c) = IsCompiled text c.tokens c.steps c.empty
FromText text (Err f.Bad) = part_of_text text ≡ None
FromText text (Err f.TooLarge) = (part : Part) × (part_of_text text ≡ Some part) × (2000 < part.size)
FromText text (Err f.Memory) = Unit {0}
