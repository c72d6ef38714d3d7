-- Why a document is refused: of several causes that hold the first.
use Rattle.std.specs.Prelude.{Bool, List, [], ◌∷◌, Option, Some, None, if◌then◌else◌}
use Rattle.xml_tokens.specs.declared.kind.XmlKind.{XmlKind}

-- one cause of a fault: whether it holds, and its kind
pub record Cause : Type 0 where
  pub holds : Bool
  pub kind : XmlKind

-- the kind of the first cause that holds
abbrev pub first_cause : List Cause → Option XmlKind
first_cause [] = None
first_cause (cause ∷ causes) = if cause.holds then Some cause.kind else first_cause causes
