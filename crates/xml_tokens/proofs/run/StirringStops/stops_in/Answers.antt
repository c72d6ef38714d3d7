use Rattle.std.proofs.Common.{refl}
use Rattle.std.proofs.lemmas.Simd.{zip2_splat}
use Rattle.inv_base.proofs.FrontLemmas.{hit, either, both_of, masked}
use Rattle.xml_tokens.specs.Ascii.{stirs}
use Rattle.xml_tokens.proofs.run.StirringStops.stops_in.Goals as goal

pub returns : goal.returns
returns c =
    let v = c.args.block in
    let long = c.fits-block.0 in
    masked _ stirs v _ long c.fits-block.1
    (either _ _ v (either _ _ v (either _ _ v (zip2_splat hit v 16 0x3C long) (zip2_splat hit v 16 0x26 long))
    (both_of _ _ v (both_of _ _ v (zip2_splat _ v 16 0x20 long) (zip2_splat _ v 16 0x9 long)) (zip2_splat _ v 16 0xA long)))
    (either _ _ v (zip2_splat hit v 16 0x5D long) (zip2_splat hit v 16 0xEF long))) refl
