use Rattle.std.proofs.Common.{rules, refl, ap, ◌∙◌}
use Rattle.std.specs.List.{list_all}
use Rattle.std.specs.Str.{chars}
use Rattle.inv_base.specs.Characters.{is_char}
use Rattle.xml_tokens.proofs.TargetLemmas.{passed-begin, passed-step, passed-smaller, passed-boundary, passed-cut}
use Rattle.xml_tokens.proofs.run.chars_until.Goals as goal

pub characters-init : goal.characters-init
characters-init c = passed-begin is_char c.args.text.now c.utf8.text

pub characters-smaller : goal.characters-smaller
characters-smaller c = passed-smaller c.characters.rest.now c.in-Some.behind.now c.in-Some.c c.in-Some.ensures.0

pub characters-preserved : goal.characters-preserved
characters-preserved c = passed-step is_char c.args.text.now c.characters.rest.now c.in-Some.behind.now c.in-Some.c c.in-Some.ensures.0
    (search rules) c.characters.invariant

pub split_at-requires : goal.split_at-requires
split_at-requires c = passed-boundary is_char c.args.text.now c.characters.rest.now c.characters.invariant

pub returns-clause-chars : goal.returns-clause-chars
returns-clause-chars c =
    let cut = passed-cut is_char c.args.text.now c.characters.rest.now c.split_at.result.0.now c.split_at.result.1.now _ refl c.split_at.ensures.front
    c.split_at.ensures.back c.characters.invariant in
    ap (λ x. list_all is_char (chars x)) cut.0 ∙ (ap (list_all is_char) c.characters.invariant.fronts ∙ c.characters.invariant.all)
