use Rattle.std.proofs.Common.{Ok, ap, sym, ◌∙◌, inl, inr}
use Rattle.node_arena.specs.Moves.{tree_nodes}
use Rattle.schematron_rules.specs.Seen.{seen_compiled}
use Rattle.schematron_compile.proofs.compiling.compile_by.Goals as goal

pub of-requires : goal.of-requires
of-requires g c = record { nodes = tree_nodes c.args.doc.now; are = c.in-Ok.ensures.answer }

pub returns-in-Ok-of : goal.returns-in-Ok-of
returns-in-Ok-of g c = c.in-Ok.ensures.answer ∙ ap (λ x. Ok (seen_compiled x)) (sym c.in-Ok-of.ensures)

pub told-requires : goal.told-requires
told-requires g c = rw c.in-Err-Refused.field-0-is at c.in-Err-Refused.ensures.node

pub returns-in-Err-Refused : goal.returns-in-Err-Refused
returns-in-Err-Refused g c = let answer = rw c.in-Err-Refused.field-0-is at c.in-Err-Refused.ensures.answer in
    inr (c.in-Err-Refused.fault, answer, c.told.ensures)
