use Rattle.std.proofs.Common.{refl}
use Rattle.json_reading.specs.declared.fault.JsonKind.TheVariants.{NotJson, TooDeep}
use Rattle.json_reading_laws.proofs.Stopping.{first, undecoded, cut}
use Rattle.json_reading_laws.proofs.faults_are_the_first.Goals as goal

pub returns-clause-not_json : goal.returns-clause-not_json
returns-clause-not_json c = λ deepest at bytes. first deepest bytes NotJson at refl refl

pub returns-clause-too_deep : goal.returns-clause-too_deep
returns-clause-too_deep c = λ deepest at bytes. first deepest bytes TooDeep at refl refl

pub returns-clause-not_utf8 : goal.returns-clause-not_utf8
returns-clause-not_utf8 c = λ deepest at bytes. undecoded deepest bytes at

pub returns-clause-truncated : goal.returns-clause-truncated
returns-clause-truncated c = λ deepest at bytes. cut deepest bytes at
