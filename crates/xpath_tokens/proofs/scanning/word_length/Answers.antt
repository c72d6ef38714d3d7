use Rattle.std.proofs.Common.{◌≡◌, ap, sym, ◌∙◌, rules}
use Rattle.std.specs.Option.{unwrap_or}
use Rattle.xpath_tokens.specs.Scanning.{word_at}
use Rattle.xpath_tokens.proofs.ScanningLaws.{longest-word}
use Rattle.xpath_tokens.proofs.scanning.word_length.Goals as goal

pub returns-clause-exact : goal.returns-clause-exact
unfolding word_at
returns-clause-exact c =
    let e : c.unwrap_or.result ≡ unwrap_or (word_at c.args.text.now) 0 = search rules in
    e ∙ ap (λ x. unwrap_or x 0) (sym (longest-word c.args.text.now))
