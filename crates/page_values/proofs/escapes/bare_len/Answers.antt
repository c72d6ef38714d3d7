use Rattle.std.proofs.Common.{◌≡◌, ◌<◌, take, sym, subst}
use Rattle.std.specs.List.{flat_map}
use Rattle.inv_base.specs.Characters.{is_white_space}
use Rattle.page_values.specs.Seen.{squeezed}
use Rattle.page_values.proofs.EscapeLemmas.{front-plain, front-progress, not-blank, blank-moves}
use Rattle.page_values.proofs.escapes.bare_len.Goals as goal

pub returns-clause-plain : goal.returns-clause-plain
returns-clause-plain c = subst (λ n. flat_map squeezed (take n c.args.bytes.now) ≡ take n c.args.bytes.now) (sym c.front_len.ensures.exact)
    (front-plain squeezed is_white_space not-blank c.args.bytes.now)

pub returns-clause-progress : goal.returns-clause-progress
returns-clause-progress c = λ byte after is own. subst (λ n. 0 < n) (sym c.front_len.ensures.exact)
    (front-progress squeezed is_white_space blank-moves c.args.bytes.now byte after is own)
