use Rattle.std.proofs.Common.{refl}
use Rattle.std.proofs.lemmas.Simd.{zip2_splat}
use Rattle.inv_base.proofs.FrontLemmas.{hit, masked}
use Rattle.line_places.specs.Places.{is_feed}
use Rattle.line_places.proofs.starts.FeedsStops.stops_in.Goals as goal

pub returns : goal.returns
returns c =
    let v = c.args.block in
    let long = c.fits-block.0 in
    masked _ is_feed v _ long c.fits-block.1 (zip2_splat hit v 16 0xA long) refl
