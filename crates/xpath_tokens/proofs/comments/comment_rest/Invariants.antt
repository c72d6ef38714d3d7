use Rattle.std.proofs.Common.{◌≡◌, ℕ, ◌≤◌, List, drop}
use Rattle.xpath_tokens.specs.Words.{comment_rest}
use Rattle.xpath_tokens.proofs.CommentLaws.{rest_behind}
use Rattle.xpath_tokens.proofs.comments.comment_rest.Given as goal

pub record Known (text : List ℕ) (outer before i : ℕ) : Type 0 where
  pub same : rest_behind i outer before (drop i text) ≡ comment_rest 0 0 text
  pub within : outer ≤ i

abbrev pub invariant-characters : goal.invariant-characters
invariant-characters l = Known l.text l.outer l.before l.i
