use Rattle.std.proofs.Common.{◌≡◌, ◌<◌, take, sym, subst}
use Rattle.std.specs.List.{flat_map}
use Rattle.json_text.specs.Layout.{character_text}
use Rattle.json_text.proofs.StringLemmas.{plain-front, plain-progress}
use Rattle.json_text.proofs.strings.plain_len.Goals as goal

pub returns-clause-plain : goal.returns-clause-plain
returns-clause-plain c = subst (λ n. flat_map character_text (take n c.args.bytes.now) ≡ take n c.args.bytes.now) (sym c.front_len.ensures.exact)
    (plain-front c.args.bytes.now)

pub returns-clause-progress : goal.returns-clause-progress
returns-clause-progress c = λ byte after is plain. subst (λ n. 0 < n) (sym c.front_len.ensures.exact) (plain-progress c.args.bytes.now byte after is plain)
