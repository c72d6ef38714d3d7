use Rattle.std.proofs.Common.{◌≡◌, List, ℕ, Bool, true, false, sym}
use Rattle.std.specs.Prelude.{MatchBool, None}
use Rattle.std.specs.Str.{chars, IsUtf8}
use Rattle.std.specs.Str.Pattern.{HasPrefixMatch, FindsTextPrefix}
use Rattle.xpath_meaning.specs.Texts.{begins}
use Rattle.xpath_values.proofs.PieceLemmas.{begins-none, begins-some}
use Rattle.xpath_values.proofs.finding.begins.Goals as goal

by_cases : (r : Bool) (n s : List ℕ) → IsUtf8 s → IsUtf8 n → MatchBool r (HasPrefixMatch (FindsTextPrefix n) s) (FindsTextPrefix n s None) →
    r ≡ begins (chars n) (chars s)
by_cases true n s us un h = sym (begins-some n s h.0 us un h.1)
by_cases false n s us un h = sym (begins-none n s us un h)

pub returns : goal.returns
returns c = by_cases _ c.args.piece.now c.args.text.now c.utf8.text c.utf8.piece c.starts_with.ensures.cases
