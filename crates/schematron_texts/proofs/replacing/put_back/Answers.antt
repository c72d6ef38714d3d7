use Rattle.std.proofs.Common.{chars, string_bytes}
use Rattle.schematron_texts.proofs.WalkLemmas.{too_much, back-long}
use Rattle.schematron_texts.proofs.replacing.put_back.Goals as goal

pub returns-then-not-branch-clause-made : goal.returns-then-not-branch-clause-made
returns-then-not-branch-clause-made c = back-long c.args.most (chars (string_bytes c.args.walk.now.out)) (chars (string_bytes c.args.walk.now.name))
    (too_much c.args.most c.in_ok-push_within.field-0 _ _ c.if-not-branch.true c.in_ok-push_within.ensures.made)
