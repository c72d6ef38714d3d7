use Rattle.std.proofs.Common.{◌≡◌, [], fold, map, drop, chars}
use Rattle.code_lists.specs.Codes as spec
use Rattle.code_lists.proofs.codes.Codes.of.Given as goal

abbrev pub invariant-texts : goal.invariant-texts
invariant-texts l =
    fold spec.with_code l.codes (map (λ text. chars text.now) (drop l.text-index l.texts)) ≡ fold spec.with_code [] (map (λ text. chars text.now) l.texts)
