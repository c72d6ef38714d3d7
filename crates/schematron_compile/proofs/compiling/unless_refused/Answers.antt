use Rattle.schematron_compile.proofs.NodeLemmas.{refused_is, accepted_is}
use Rattle.schematron_compile.proofs.compiling.unless_refused.Goals as goal

pub returns-in-Some : goal.returns-in-Some
returns-in-Some c = λ nodes ordered of first. refused_is nodes c.in-Some.fault c.args.found c.in-Some.is first

pub returns-in-None : goal.returns-in-None
returns-in-None c = λ nodes ordered of first. accepted_is nodes c.args.file.now c.args.found c.built.result c.in-None.is first of c.built.ensures
