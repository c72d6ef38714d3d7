use Rattle.std.proofs.Common.{◌≡◌, ◌∙◌, chars}
use Rattle.std.proofs.lemmas.Result.{IfOk-weaker}
use Rattle.page_values.specs.Places as places
use Rattle.page_values.specs.Seen.{decoded_size}
use Rattle.page_values.proofs.SizeLemmas.{size-is}
use Rattle.page_values.proofs.sizes.size_of.Goals as goal

pub returns : goal.returns
returns c =
    IfOk-weaker c.decoded_size-size.result (λ size. size ≡ decoded_size c.as_bytes.result.now) (λ size. size ≡ places.size_of (chars c.args.text.now))
    (λ size e. e ∙ size-is (chars c.args.text.now) c.as_bytes.result.now (c.as_bytes.ensures.value ∙ c.in_ok-bare.ensures)) c.decoded_size-size.ensures
