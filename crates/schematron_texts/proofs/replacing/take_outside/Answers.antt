use Rattle.std.proofs.Common.{ap, ◌∙◌, chars, string_bytes}
use Rattle.std.proofs.lemmas.Str.{chars-nil}
use Rattle.schematron_texts.proofs.WalkLemmas.{is_equal, is_apart, outside-dollar, outside-pushed}
use Rattle.schematron_texts.proofs.replacing.take_outside.Goals as goal

pub returns-then-c-eq36-clause-made : goal.returns-then-c-eq36-clause-made
returns-then-c-eq36-clause-made c = λ parameters rest. outside-dollar parameters (chars (string_bytes c.args.walk.now.out))
    (chars (string_bytes c.args.walk.now.name)) _ _ c.args.c rest c.requires.in_name (is_equal c.args.c 36 c.if-c-eq36.true)
    (ap chars c.clear.ensures.bytes ∙ chars-nil)

pub returns-clause-made : goal.returns-clause-made
returns-clause-made c = outside-pushed c.push_within.result c.args.most (chars (string_bytes c.args.walk.now.out)) _
    (chars (string_bytes c.args.walk.now.name)) _ c.args.c c.requires.in_name (is_apart c.args.c 36 c.if-c-eq36.false) c.push_within.ensures.made
