use Rattle.std.proofs.Common.{◌≡◌, take, drop}
use Rattle.std.specs.List.{flat_map, list_any}
use Rattle.inv_base.specs.Text.{quoted_character, is_escaped}
use Rattle.short_lines.proofs.plain.is_plain.Given as goal

-- the bytes so far stand for themselves
abbrev pub invariant-bytes : goal.invariant-bytes
invariant-bytes l = record {
  plain : flat_map quoted_character (take l.byte-index l.byte-items) ≡ take l.byte-index l.byte-items;
  left : list_any is_escaped (drop l.byte-index l.byte-items) ≡ list_any is_escaped l.byte-items;
}
