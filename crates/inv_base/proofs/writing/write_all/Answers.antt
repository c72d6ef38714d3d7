use Rattle.std.proofs.Common.{◌++◌, take, ap, ◌∙◌, append_assoc}
use Rattle.std.proofs.lemmas.List.{take-append-drop}
use Rattle.inv_base.proofs.WritingLemmas.{WritesAll-append, WritesFront-append, WritesFront-nil}
use Rattle.inv_base.proofs.writing.write_all.Goals as goal

pub pieces-preserved : goal.pieces-preserved
pieces-preserved g c =
    let so_far = c.pieces.invariant in (
      so_far.0 ++ take c.in-Ok.taken c.pieces.rest.now,
      append_assoc so_far.0 _ _ ∙ (ap (λ x. so_far.0 ++ (take c.in-Ok.taken c.pieces.rest.now ++ x)) c.split_at.ensures.back ∙
          (ap (λ x. so_far.0 ++ x) (take-append-drop c.in-Ok.taken c.pieces.rest.now) ∙ so_far.1)),
      WritesAll-append _ _ _ _ _ so_far.2 (record { told = c.in-Ok.ensures.told; faults = c.in-Ok.ensures.faults }),
    )

pub returns-in-Err : goal.returns-in-Err
returns-in-Err g c =
    let so_far = c.pieces.invariant in
    rw (← so_far.1) (WritesFront-append _ _ _ _ _ so_far.2 (WritesFront-nil _ _ _ c.in-Err.ensures.told c.in-Err.ensures.faults.0 c.in-Err.ensures.faults.1))
