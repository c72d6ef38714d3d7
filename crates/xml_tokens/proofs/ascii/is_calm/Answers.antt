use Rattle.std.proofs.Common.{◌≡◌, false, map, get_or, ◌∙◌, arith}
use Rattle.std.specs.List.{range_with_len}
use Rattle.std.proofs.lemmas.List.FromFn.{get_or-map-range_with_len}
use Rattle.xml_tokens.specs.Ascii.{is_calm}
use Rattle.xml_tokens.proofs.ascii.is_calm.Goals as goal

-- the table is the test of each byte
pub returns : goal.returns
returns c =
    let read : c.is_marked.result ≡ get_or (map is_calm (range_with_len 0 256)) c.args.byte false = c.is_marked.ensures in
    read ∙ get_or-map-range_with_len is_calm 0 256 c.args.byte c.args.byte false (omega arith) (omega arith)
