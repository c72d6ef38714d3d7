use Rattle.std.proofs.Common.{refl}
use Rattle.std.proofs.lemmas.Simd.{zip2_splat}
use Rattle.inv_base.specs.Characters.{is_white_space}
use Rattle.inv_base.proofs.FrontLemmas.{hit, either, masked}
use Rattle.page_values.proofs.escapes.BlankStops.stops_in.Goals as goal

pub returns : goal.returns
unfolding is_white_space
returns c =
    let v = c.args.block in
    let long = c.fits-block.0 in
    masked _ is_white_space v _ long c.fits-block.1
    (either _ _ v (either _ _ v (zip2_splat hit v 16 0xA long) (zip2_splat hit v 16 0xD long))
    (either _ _ v (zip2_splat hit v 16 0x9 long) (zip2_splat hit v 16 0x20 long))) refl
