use Rattle.std.proofs.Common.{◌≡◌, ◌++◌, ◌∷◌, [], ap, ◌∙◌, string_bytes, append_assoc, chars}
use lib.Utf8.{encode}
use Rattle.xpath_types.proofs.TextLemmas.{chars-with_colon}
use Rattle.xpath_types.proofs.names.joined.Goals as goal

pub returns : goal.returns
unfolding encode
returns c =
    let pushed : string_bytes c.push.new.self ≡ string_bytes c.in_ok-text.text ++ 58 ∷ [] = c.in_ok-push.ensures.bytes in
    let is : string_bytes c.push_str.new.self ≡ c.args.prefix.now ++ (58 ∷ c.args.local.now) =
    c.in_ok-push_str.ensures.bytes ∙ (ap (λ bytes. bytes ++ c.args.local.now) (pushed ∙ ap (λ bytes. bytes ++ 58 ∷ []) c.in_ok-text.ensures.ok)
    ∙ append_assoc c.args.prefix.now (58 ∷ []) c.args.local.now) in
    ap chars is ∙ chars-with_colon c.args.prefix.now c.args.local.now c.utf8.prefix
