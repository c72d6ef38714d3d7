use Rattle.std.proofs.Common.{◌≡◌, ◌<◌, take, sym, subst}
use Rattle.std.specs.List.{flat_map}
use Rattle.inv_base.specs.Text.{quoted_character}
use Rattle.inv_base.proofs.FrontLemmas.{plain-front, plain-progress}
use Rattle.inv_base.proofs.printing.plain_len.Goals as goal

pub returns-clause-plain : goal.returns-clause-plain
returns-clause-plain c = subst (λ n. flat_map quoted_character (take n c.args.bytes.now) ≡ take n c.args.bytes.now) (sym c.front_len.ensures.exact)
    (plain-front c.args.bytes.now)

pub returns-clause-progress : goal.returns-clause-progress
returns-clause-progress c = λ byte after is plain. subst (λ n. 0 < n) (sym c.front_len.ensures.exact) (plain-progress c.args.bytes.now byte after is plain)
