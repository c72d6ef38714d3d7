use Rattle.std.proofs.Common.{ℕ, cond, ltb, refl}
use Rattle.std.proofs.lemmas.Simd.{zip2_splat, zip2_splat_left}
use Rattle.inv_base.proofs.FrontLemmas.{hit, either, masked}
use Rattle.json_reading.specs.Strings.{ends_plain}
use Rattle.json_reading.proofs.strings.PlainEndsStops.stops_in.Goals as goal

-- what a lane becomes where the byte is greater
abbrev greater : ℕ → ℕ → ℕ
greater a b = cond (ltb a b) 255 0

pub returns : goal.returns
returns c =
    let v = c.args.block in
    let long = c.fits-block.0 in
    masked _ ends_plain v _ long c.fits-block.1
    (either _ _ v (either _ _ v (zip2_splat _ v 16 0x20 long) (zip2_splat_left greater 0x7F 16 v long))
    (either _ _ v (zip2_splat hit v 16 0x22 long) (zip2_splat hit v 16 0x5C long))) refl
