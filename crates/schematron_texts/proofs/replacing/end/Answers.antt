use Rattle.std.proofs.Common.{◌≤◌, string_bytes, chars, sym, subst, arith}
use Rattle.std.proofs.lemmas.Str.{IsUtf8-string_bytes}
use Rattle.schematron_texts.specs.Replacing.{bytes_of}
use Rattle.schematron_texts.proofs.WalkLemmas.{all_made, not_too_long}
use Rattle.schematron_texts.proofs.replacing.end.Goals as goal

pub returns-then-branch : goal.returns-then-branch
returns-then-branch c =
    let made = all_made c.args.most c.in_ok-close.field-0 _ _ c.if-branch.true c.in_ok-close.ensures.made in
    let out = string_bytes c.close.new.walk.out in (
      made,
      subst (λ t. bytes_of t ≤ c.args.most) made
          (not_too_long out c.args.most (IsUtf8-string_bytes c.close.new.walk.out) (omega (arith, c.close.ensures.within))),
    )
