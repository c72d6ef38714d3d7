use Rattle.std.proofs.Common.{◌≡◌, List, ℕ, Bool, true, false, sym}
use Rattle.std.specs.Prelude.{MatchBool, None}
use Rattle.std.specs.Str.{chars, IsUtf8}
use Rattle.std.specs.Str.Pattern.{HasSuffixMatch, FindsTextSuffix}
use Rattle.xpath_meaning.specs.Texts.{ends}
use Rattle.xpath_values.proofs.PieceLemmas.{ends-none, ends-some}
use Rattle.xpath_values.proofs.finding.ends.Goals as goal

by_cases : (r : Bool) (n s : List ℕ) → IsUtf8 s → IsUtf8 n → MatchBool r (HasSuffixMatch (FindsTextSuffix n) s) (FindsTextSuffix n s None) →
    r ≡ ends (chars n) (chars s)
by_cases true n s us un h = sym (ends-some n s h.0 us un h.1)
by_cases false n s us un h = sym (ends-none n s us un h)

pub returns : goal.returns
returns c = by_cases _ c.args.piece.now c.args.text.now c.utf8.text c.utf8.piece c.ends_with.ensures.cases
