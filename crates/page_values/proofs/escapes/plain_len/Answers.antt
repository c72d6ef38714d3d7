use Rattle.std.proofs.Common.{◌≡◌, ◌<◌, take, sym, subst}
use Rattle.std.specs.List.{flat_map}
use Rattle.page_values.specs.Escapes.{escaped_character, is_marked}
use Rattle.page_values.proofs.EscapeLemmas.{front-plain, front-progress, unmarked, marked-moves}
use Rattle.page_values.proofs.escapes.plain_len.Goals as goal

pub returns-clause-plain : goal.returns-clause-plain
returns-clause-plain c = subst (λ n. flat_map escaped_character (take n c.args.bytes.now) ≡ take n c.args.bytes.now) (sym c.front_len.ensures.exact)
    (front-plain escaped_character is_marked unmarked c.args.bytes.now)

pub returns-clause-progress : goal.returns-clause-progress
returns-clause-progress c = λ byte after is own. subst (λ n. 0 < n) (sym c.front_len.ensures.exact)
    (front-progress escaped_character is_marked marked-moves c.args.bytes.now byte after is own)
