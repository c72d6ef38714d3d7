use Rattle.std.proofs.Common.{ap, ◌∙◌}
use Rattle.std.specs.Prelude.{option_map}
use Rattle.std.proofs.lemmas.Result.{on_ok_weaker}
use Rattle.bind_terms.specs.Inputs.{nodes_of, lists_of, currency_of}
use Rattle.bind_terms.specs.Kinds.{kind_of}
use Rattle.bind_terms.specs.Telling.{context_in, parsed_first, kept_at}
use Rattle.bind_terms.specs.Steps.{faults_at}
use Rattle.bind_terms.proofs.Tolds.{puts-same}
use Rattle.bind_terms.proofs.telling.tell_again.Goals as goal

pub returns : goal.returns
returns g c =
    on_ok_weaker c.put_cause.result
    (puts-same (g.K.Keeper.given c.args.keeper.now) (g.K.Keeper.given c.put_cause.new.keeper) _ _
    (ap (λ kind. faults_at kind c.args.rowed.now.pick.now.node c.args.rowed.now.pick.now.row c.args.again.term)
    (c.in_ok-kind.ensures ∙ ap (λ first. kind_of (nodes_of c.args.input.now) (lists_of c.args.input.now) (currency_of c.args.input.now)
    c.args.rowed.now.row.now c.args.rowed.now.pick.now.node (context_in c.args.rowed.now.pick.now) (option_map parsed_first first) (parsed_first c.args.again))
    (c.get-first.ensures ∙ ap (λ place. kept_at place c.args.firsts.now.entries) c.key.ensures))))
    c.put_cause.ensures
