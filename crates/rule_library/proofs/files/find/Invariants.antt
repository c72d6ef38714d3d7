use Rattle.std.proofs.Common.{◌≡◌, drop}
use Rattle.rule_library.specs.Walk.{file_of}
use Rattle.rule_library.proofs.files.find.Given as goal

abbrev pub invariant-files : goal.invariant-files
invariant-files l = file_of l.name (drop l.k l.files) ≡ file_of l.name l.files
