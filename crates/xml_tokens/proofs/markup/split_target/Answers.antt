use Rattle.std.proofs.Common.{rules, refl, sym, ◌∙◌}
use Rattle.std.specs.Str.{chars}
use Rattle.xml_tokens.specs.Instructions.{goes_on}
use Rattle.xml_tokens.proofs.TargetLemmas.{Stops, passed-begin, passed-step, passed-smaller, passed-boundary, target-is, stops-nothing, stops-there}
use Rattle.xml_tokens.proofs.markup.split_target.Goals as goal
use Rattle.xml_tokens.proofs.markup.split_target.Goals.{in-Some+then-not-is_target_char, in_default}

pub characters-init : goal.characters-init
characters-init c = passed-begin goes_on c.args.inside.now c.utf8.inside

pub characters-smaller : goal.characters-smaller
characters-smaller c = passed-smaller c.characters.rest.now c.in-Some.behind.now c.in-Some.c c.in-Some.ensures.0

pub characters-preserved : goal.characters-preserved
characters-preserved c = passed-step goes_on c.args.inside.now c.characters.rest.now c.in-Some.behind.now c.in-Some.c c.in-Some.ensures.0
    (search rules) c.characters.invariant

pub split_at-requires : goal.split_at-requires
split_at-requires c = passed-boundary goes_on c.args.inside.now c.characters.rest.now c.characters.invariant

pub returns : goal.returns
returns c =
    let stops : Stops goes_on (chars c.characters.rest.now) = elim c.match-first_of.branch [
      | in-Some+then-not-is_target_char w ↦ stops-there c.characters.rest.now (chars w.in-Some.behind.now) w.in-Some.c w.in-Some.ensures.1
          (sym w.is_target_char.ensures ∙ w.if-not-is_target_char.true)
      | in_default w ↦ stops-nothing c.characters.rest.now w.in_default.ensures
    ] in
    target-is c.args.inside.now c.characters.rest.now c.split_at.result.0.now c.split_at.result.1.now _ refl c.split_at.ensures.front c.split_at.ensures.back
    stops c.characters.invariant
