use Rattle.std.proofs.Common.{chars}
use Rattle.xsd_pattern.proofs.Answering.{finds-result, value-result}
use Rattle.xsd_pattern.proofs.regex.holds.Goals as goal

pub returns-clause-finds : goal.returns-clause-finds
returns-clause-finds c = rw (← c.regex.view_is)
    (finds-result c.regex.inside.pattern c.regex.inside.compiled.tokens c.regex.inside.compiled.steps c.regex.inside.compiled.empty c.regex.invariant
    c.is_among.result c.as_slice.result.now c.as_slice-2.result.now (chars c.args.text.now) c.as_slice.ensures c.as_slice-2.ensures c.is_among.ensures)

pub returns-clause-value : goal.returns-clause-value
returns-clause-value c = rw (← c.regex.view_is)
    (value-result c.regex.inside.pattern c.regex.inside.compiled.tokens c.regex.inside.compiled.steps c.regex.inside.compiled.empty c.regex.invariant
    c.is_among.result c.as_slice.result.now c.as_slice-2.result.now (chars c.args.text.now) c.as_slice.ensures c.as_slice-2.ensures c.is_among.ensures)
