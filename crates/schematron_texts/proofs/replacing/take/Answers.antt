use Rattle.std.proofs.Common.{◌∷◌, ap, sym, ◌∙◌, chars, string_bytes}
use Rattle.schematron_texts.specs.Walking as walking
use Rattle.schematron_texts.specs.Walking.{made_with}
use Rattle.schematron_texts.proofs.WalkLemmas.{all_made, too_much, outside-taken, inside-more, inside-closed, inside-long}
use Rattle.schematron_texts.proofs.replacing.take.Goals as goal

pub returns-then-not-walk-clause-made : goal.returns-then-not-walk-clause-made
returns-then-not-walk-clause-made c = outside-taken c.take_outside.result c.args.most c.args.parameters.now
    (λ parameters rest. made_with parameters c.args.walk.now (c.args.c ∷ rest))
    (λ parameters rest. made_with parameters c.take_outside.new.walk rest) c.take_outside.ensures.made

pub returns-then-goes_on-clause-made : goal.returns-then-goes_on-clause-made
returns-then-goes_on-clause-made c = inside-more c.args.parameters.now (chars (string_bytes c.args.walk.now.out))
    (chars (string_bytes c.args.walk.now.name)) _ _ c.args.c c.if-not-walk.false
    (sym (c.goes_on.ensures ∙ ap (λ n. walking.goes_on (chars n) c.args.c) c.as_str.ensures.value) ∙ c.if-goes_on.true) c.in_ok-push.ensures

pub returns-then-not-branch-clause-made : goal.returns-then-not-branch-clause-made
returns-then-not-branch-clause-made c = inside-long c.args.most c.args.parameters.now (chars (string_bytes c.args.walk.now.out))
    (chars (string_bytes c.args.walk.now.name)) _ c.args.c c.if-not-walk.false
    (sym (c.goes_on.ensures ∙ ap (λ n. walking.goes_on (chars n) c.args.c) c.as_str.ensures.value) ∙ c.if-goes_on.false)
    (too_much c.args.most c.in_ok-put_name.field-0 _ _ c.if-not-branch.true c.in_ok-put_name.ensures.made)

pub returns-clause-made : goal.returns-clause-made
returns-clause-made c = inside-closed c.take_outside-2.result c.args.most c.args.parameters.now (chars (string_bytes c.args.walk.now.out))
    (chars (string_bytes c.put_name.new.walk.out))
    (chars (string_bytes c.args.walk.now.name)) (chars (string_bytes c.put_name.new.walk.name)) c.args.walk.now.in_name c.put_name.new.walk.in_name c.args.c
    (λ parameters rest. made_with parameters c.take_outside-2.new.walk rest) c.if-not-walk.false
    (sym (c.goes_on.ensures ∙ ap (λ n. walking.goes_on (chars n) c.args.c) c.as_str.ensures.value) ∙ c.if-goes_on.false)
    (all_made c.args.most c.in_ok-put_name.field-0 _ _ c.if-not-branch.false c.in_ok-put_name.ensures.made) c.put_name.ensures.in_name
    c.take_outside-2.ensures.made
