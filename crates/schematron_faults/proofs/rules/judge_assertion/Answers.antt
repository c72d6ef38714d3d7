use Rattle.std.proofs.Common.{false}
use Rattle.schematron_meaning.specs.declared.attribute.Attribute.TheVariants as a
use Rattle.schematron_meaning.specs.Lookup.{is_part, inside}
use Rattle.schematron_meaning.specs.Written.{written}
use Rattle.schematron_expansion.specs.Seen.{seen_put}
use Rattle.schematron_faults.specs.Things.{written_parts}
use Rattle.schematron_faults.proofs.SearchLemmas.{goes-append, on_ok}
use Rattle.schematron_faults.proofs.rules.judge_assertion.Goals as goal

pub returns : goal.returns
returns c = on_ok c.judge_parts.result (goes-append c.args.search.now c.judge.new.search c.judge_parts.new.search
    (written a.Test false c.args.inclusion.now.stand c.args.params.now c.args.all.now (seen_put c.args.inclusion.now).entry)
    (written_parts c.args.inclusion.now.stand c.args.params.now c.args.all.now (inside is_part c.args.file.now.entries (seen_put
    c.args.inclusion.now).entry.number))
    c.in_ok-judge.ensures) c.judge_parts.ensures
