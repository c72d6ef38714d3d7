use Rattle.std.proofs.Common.{sym, ap, ◌∙◌}
use Rattle.std.proofs.lemmas.Result.{IfOk-weaker}
use Rattle.node_arena.specs.Moves.{tree_nodes}
use Rattle.trial_run.specs.Memory.{entries_of}
use Rattle.trial_run.proofs.MemoryLemmas.{by-built_in}
use Rattle.trial_run.proofs.reading.invoice_of.Goals as goal

pub returns-in-Ok : goal.returns-in-Ok
returns-in-Ok c =
    let same = by-built_in c.args.means.now c.requires (tree_nodes c.args.doc.now) in
    sym (ap entries_of (sym same ∙ c.in-Ok.ensures.reads))

pub returns-in_default : goal.returns-in_default
returns-in_default c =
    let same = by-built_in c.args.means.now c.requires (tree_nodes c.args.doc.now) in
    let none = ap entries_of (sym same ∙ c.in-Err.ensures.reads c.in_default.not-Memory) in
    IfOk-weaker c.new.result _ _ (λ invoice e. e ∙ sym none) c.new.ensures
