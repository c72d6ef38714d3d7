use Rattle.std.proofs.Common.{subst}
use Rattle.std.specs.Prelude.{Ok}
use Rattle.xpath_grammar.specs.View.{view}
use Rattle.xpath_types.specs.Typing.{typing, typing_of, Refuses, Answers}
use Rattle.document_jobs.proofs.QueryLemmas.{asks_typing, asks_plan}
use Rattle.document_jobs.proofs.queries.typed_plan.Goals as goal

pub returns-in-Err : goal.returns-in-Err
returns-in-Err c = rw c.type_fault_of.ensures (asks_typing (view c.args.tree.now) c.in-Err.fault
    (subst (λ d. Refuses c.in-Err.fault (typing_of d (view c.args.tree.now))) c.requires.scope c.in-Err.ensures))

pub returns-in-Ok-compile : goal.returns-in-Ok-compile
returns-in-Ok-compile c = asks_plan (view c.args.tree.now) c.in-Ok.typed c.in-Ok-compile.plan
    (subst (λ d. Answers (Ok c.in-Ok.typed) (typing_of d (view c.args.tree.now))) c.requires.scope c.in-Ok.ensures) c.in-Ok-compile.ensures.expression

pub compile-requires : goal.compile-requires
compile-requires c = c.typed_expressions_are_grammatical.ensures c.args.scope.now (view c.args.tree.now) (typing c.in-Ok.typed) c.in-Ok.ensures c.requires.tree
