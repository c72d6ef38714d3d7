use Rattle.std.proofs.Common.{◌≡◌, false, map, get_or, ◌∙◌, arith}
use Rattle.std.specs.List.{range_with_len}
use Rattle.std.proofs.lemmas.List.FromFn.{get_or-map-range_with_len}
use Rattle.inv_base.specs.Characters.{is_name_char, is_name_start}
use Rattle.xml_tokens.specs.Ascii.{is_plain_name_char}
use Rattle.xml_tokens.proofs.ascii.is_plain_name_char.Goals as goal

-- the table is the test of each code
pub returns : goal.returns
unfolding is_name_char is_name_start
returns c =
    let read : c.is_marked.result ≡ get_or (map is_plain_name_char (range_with_len 0 256)) c.args.byte false = c.is_marked.ensures in
    read ∙ get_or-map-range_with_len is_plain_name_char 0 256 c.args.byte c.args.byte false (omega arith) (omega arith)
