-- A comment that is read byte by byte: the hyphens at its end, and whether `--` stands inside.
use Rattle.std.specs.Prelude.{ℕ, Bool, true, false, ◌&&◌, ◌||◌, ◌==◌, Option, Some, None, if◌then◌else◌}
use Rattle.xml_tokens.specs.declared.kind.XmlKind.{XmlKind}
use Rattle.xml_tokens.specs.declared.kind.XmlKind.TheVariants.{BadMarkup}
use Rattle.xml_tokens.specs.declared.comments.Hyphens.{Hyphens}
use Rattle.xml_tokens.specs.declared.comments.Hyphens.TheVariants.{Zero, One, Two}
use Rattle.xml_tokens.specs.declared.comments.InComment.{InComment}

-- one hyphen more
abbrev pub one_more : Hyphens → Hyphens
one_more Zero = One
one_more One = Two
one_more Two = Two

-- the hyphens at the end behind a byte
abbrev pub hyphens_behind : Hyphens → ℕ → Hyphens
hyphens_behind hyphens b = if b == 0x2D then one_more hyphens else Zero

abbrev pub are_two : Hyphens → Bool
are_two Zero = false
are_two One = false
are_two Two = true

-- nothing has come of what stands inside
abbrev pub begun : InComment
begun = record { hyphens = Zero; is_faulty = false }

-- The byte ends the comment.
abbrev pub is_ended_by : InComment → ℕ → Bool
is_ended_by comment b = are_two comment.hyphens && b == 0x3E

-- the comment with a byte that doesn't end it
abbrev pub comment_behind : InComment → ℕ → InComment
comment_behind comment b = record { hyphens = hyphens_behind comment.hyphens b; is_faulty = comment.is_faulty || are_two comment.hyphens }

-- the fault of what stands inside, where all are Chars: `--` stands there
abbrev pub own_fault : InComment → Option XmlKind
own_fault comment = if comment.is_faulty then Some BadMarkup else None
