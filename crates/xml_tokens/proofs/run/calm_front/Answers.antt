use Rattle.std.proofs.Common.{take, ap, ◌∙◌}
use Rattle.std.specs.List.{list_all, list_any}
use Rattle.xml_tokens.specs.Ascii.{is_calm}
use Rattle.xml_tokens.specs.Told.{ends_run}
use Rattle.xml_tokens.proofs.FrontLemmas.{before-stir}
use Rattle.xml_tokens.proofs.run.calm_front.Goals as goal

pub returns-clause-none : goal.returns-clause-none
returns-clause-none c = ap (list_any ends_run) (c.split_at.ensures.front ∙ ap (λ n. take n c.args.bytes.now) c.front_len.ensures.exact) ∙
    (before-stir c.args.bytes.now).0

pub returns-clause-calm : goal.returns-clause-calm
returns-clause-calm c = ap (list_all is_calm) (c.split_at.ensures.front ∙ ap (λ n. take n c.args.bytes.now) c.front_len.ensures.exact) ∙
    (before-stir c.args.bytes.now).1
