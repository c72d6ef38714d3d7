use Rattle.std.proofs.Common.{refl}
use Rattle.std.proofs.lemmas.Simd.{zip2_splat}
use Rattle.inv_base.proofs.FrontLemmas.{hit, either, masked}
use Rattle.json_text.specs.Escapes.{is_escaped}
use Rattle.json_text.proofs.strings.EscapedStops.stops_in.Goals as goal

pub returns : goal.returns
returns c =
    let v = c.args.block in
    let long = c.fits-block.0 in
    masked _ is_escaped v _ long c.fits-block.1
    (either _ _ v (zip2_splat _ v 16 0x20 long) (either _ _ v (zip2_splat hit v 16 0x22 long) (zip2_splat hit v 16 0x5C long))) refl
