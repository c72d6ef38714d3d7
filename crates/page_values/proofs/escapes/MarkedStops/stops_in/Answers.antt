use Rattle.std.proofs.Common.{refl}
use Rattle.std.proofs.lemmas.Simd.{zip2_splat}
use Rattle.inv_base.proofs.FrontLemmas.{hit, either, masked}
use Rattle.page_values.specs.Escapes.{is_marked}
use Rattle.page_values.proofs.escapes.MarkedStops.stops_in.Goals as goal

pub returns : goal.returns
returns c =
    let v = c.args.block in
    let long = c.fits-block.0 in
    masked _ is_marked v _ long c.fits-block.1
    (either _ _ v (either _ _ v (zip2_splat hit v 16 0x26 long) (zip2_splat hit v 16 0x3C long))
    (either _ _ v (zip2_splat hit v 16 0x3E long) (zip2_splat hit v 16 0x22 long))) refl
