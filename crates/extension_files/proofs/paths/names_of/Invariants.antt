use Rattle.std.proofs.Common.{◌≡◌, map, drop}
use Rattle.extension_files.specs.PathTexts as spec
use Rattle.extension_files.proofs.PathLemmas.{behind}
use Rattle.extension_files.proofs.paths.names_of.Given as goal

abbrev pub invariant-texts : goal.invariant-texts
invariant-texts l =
    behind l.names (spec.names_of l.spaces (map (λ text. text.now) (drop l.text-index l.texts))) ≡ spec.names_of l.spaces (map (λ text. text.now) l.texts)
