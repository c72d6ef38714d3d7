use Rattle.extension_files.proofs.PathLemmas.{name-made}
use Rattle.extension_files.proofs.paths.name_of.Goals as goal

pub returns-in_ok-of-in-Some : goal.returns-in_ok-of-in-Some
returns-in_ok-of-in-Some c =
    name-made c.args.spaces.now c.args.text.now c.in-Some.namespace c.in-Some.local.now c.in_ok-of-in-Some.field-0 c.in-Some.ensures c.in_ok-of-in-Some.ensures
