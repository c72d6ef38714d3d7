use Rattle.std.proofs.Common.{◌≡◌, map, drop}
use Rattle.std.specs.List.{list_any}
use Rattle.std.specs.Str.{bytes_eq}
use Rattle.code_lists.proofs.keys.is_among.Given as goal

abbrev pub invariant-words : goal.invariant-words
invariant-words l =
    list_any (λ word. bytes_eq word l.key) (map (λ word. word.now) (drop l.word-index l.words)) ≡ list_any (λ word. bytes_eq word l.key)
    (map (λ word. word.now) l.words)
