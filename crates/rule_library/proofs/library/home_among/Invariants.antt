use Rattle.std.proofs.Common.{◌≡◌, drop}
use Rattle.rule_library.specs.Library.{home_from}
use Rattle.rule_library.proofs.library.home_among.Given as goal

-- The place isn't in the files before this one.
abbrev pub invariant-files : goal.invariant-files
invariant-files l = record {
  number : l.number ≡ l.file-index;
  same : home_from l.number (drop l.file-index l.files) l.rest ≡ home_from 0 l.files l.fn.place.byte;
}
