use Rattle.std.proofs.Common.{ap, ◌∙◌, chars}
use Rattle.xpath_operators.proofs.TrimLemmas.{front_along, front_is_boundary, front_cut}
use Rattle.xpath_operators.proofs.spaces.without_trailing_space.Goals as goal

pub split_at-requires : goal.split_at-requires
split_at-requires c =
    let k = c.front_length.ensures in
    front_is_boundary c.args.text.now c.front_length.result
    (front_along _ _ _ c.as_bytes.ensures.value (record { within = k.within; white = k.white; stops = k.stops }))

pub returns : goal.returns
returns c =
    let k = c.front_length.ensures in
    ap chars c.split_at.ensures.front
    ∙ front_cut c.args.text.now c.front_length.result c.utf8.text
    (front_along _ _ _ c.as_bytes.ensures.value (record { within = k.within; white = k.white; stops = k.stops }))
