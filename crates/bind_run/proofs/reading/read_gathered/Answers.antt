use Rattle.std.proofs.Common.{Ok, length, ap, sym, ◌∙◌, arith}
use Rattle.node_arena.specs.Moves.{tree_nodes}
use Rattle.bind_meaning.specs.Terms.{terms_of}
use Rattle.bind_run.proofs.PassedLemmas.{passed-count, passed-few}
use Rattle.bind_run.proofs.reading.read_gathered.Goals as goal

pub overflow_cast-passed_over : goal.overflow_cast-passed_over
overflow_cast-passed_over g c =
    let few = passed-few c.args.doc.now c.args.table.now c.as_slice-2.result.now (c.as_slice-2.ensures.value ∙ c.requires.passed_over)
    c.is_of_a_tree.ensures.few in
    omega (arith, few)

pub returns-in-Ok-clause-reads : goal.returns-in-Ok-clause-reads
unfolding terms_of
returns-in-Ok-clause-reads g c =
    let passed = c.as_slice-2.ensures.value ∙ c.requires.passed_over in
    let count = sym (passed-count (tree_nodes c.args.doc.now) c.args.table.now) ∙ ap length (sym passed) in
    c.in-Ok.ensures.ok ∙ ap (λ n. Ok (record { entries = c.in-Ok.invoice; passed_over = n })) count

pub returns-in-Err-clause-reads : goal.returns-in-Err-clause-reads
unfolding terms_of
returns-in-Err-clause-reads g c = λ other. c.in-Err.ensures.err other
