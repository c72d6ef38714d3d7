use Rattle.std.proofs.Common.{refl}
use Rattle.std.proofs.lemmas.Simd.{zip2_splat}
use Rattle.inv_base.proofs.FrontLemmas.{hit, either, masked}
use Rattle.xml_tokens.specs.Told.{ends_run}
use Rattle.xml_tokens.proofs.run.RunEndsStops.stops_in.Goals as goal

pub returns : goal.returns
returns c =
    let v = c.args.block in
    let long = c.fits-block.0 in
    masked _ ends_run v _ long c.fits-block.1
    (either _ _ v (either _ _ v (zip2_splat hit v 16 0x3C long) (zip2_splat hit v 16 0x26 long))
    (either _ _ v (zip2_splat hit v 16 0x5D long) (zip2_splat hit v 16 0xD long))) refl
