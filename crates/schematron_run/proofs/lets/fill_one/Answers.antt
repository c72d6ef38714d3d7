use Rattle.std.proofs.Common.{chars, sym, subst}
use Rattle.xpath_meaning.specs.Values.{value}
use Rattle.xpath_steps.specs.Variables.{ValuesWithin}
use Rattle.schematron_run.specs.Inputs.{count}
use Rattle.schematron_run.proofs.LetLemmas.{put_within}
use Rattle.schematron_run.proofs.lets.fill_one.Goals as goal

pub returns-clause-within : goal.returns-clause-within
returns-clause-within g c =
    subst (ValuesWithin (count c.args.input.now)) (sym c.in_ok-push.ensures.ok)
    (put_within (count c.args.input.now) c.args.env.now (chars c.as_str.result.now, value c.in_ok-outcome.outcome) c.requires.variables
    c.in_ok-outcome.ensures.within)
