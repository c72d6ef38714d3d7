use Rattle.std.proofs.Common.{◌≡◌, ◌+◌, ◌++◌, ap, sym, ◌∙◌, append_assoc, drop}
use Rattle.std.proofs.lemmas.List.{drop-drop}
use Rattle.inv_base.proofs.WritingLemmas.{WritesAll-append, WritesFront-append, WritesFront-more, Writes-append, Writes-at_err}
use Rattle.xml_write.specs.Escapes.{escaped}
use Rattle.xml_write.proofs.escape.put_escaped.Goals as goal

pub returns-in_err-put_bytes : goal.returns-in_err-put_bytes
returns-in_err-put_bytes g c =
    let so_far = c.runs.invariant in
    rw (← so_far.1, c.in-Some.ensures.1, ← c.split_at.ensures.front)
    (Writes-at_err _ _ _ _ c.from_residual.ensures.0 (WritesFront-append _ _ _ _ _ so_far.2 (WritesFront-more _ _ _ _ c.in_err-put_bytes.ensures)))

pub returns-in_err-put : goal.returns-in_err-put
returns-in_err-put g c =
    let so_far = c.runs.invariant in
    rw (← so_far.1, c.in-Some.ensures.1, ← c.split_at.ensures.front)
    (Writes-at_err _ _ _ _ c.from_residual-in_err-put.ensures.0
    (WritesFront-append _ _ _ _ _ so_far.2
    (WritesFront-append _ _ _ _ _ c.in_ok-put_bytes.ensures
    (WritesFront-more _ _ _ _ c.in_err-put.ensures))))

pub runs-preserved : goal.runs-preserved
runs-preserved g c =
    let so_far = c.runs.invariant in
    let run = c.split_at.result.0.now in
    let reference = c.in-Some.reference.now in
    let after = c.split_at-in-Some.result.1.now in
    let after_is : after ≡ drop (c.in-Some.at + 1) c.runs.rest.now = c.split_at-in-Some.ensures.back ∙
    (ap (drop 1) c.split_at.ensures.back ∙ drop-drop 1 c.in-Some.at c.runs.rest.now) in
    let step : run ++ (reference ++ escaped c.args.within after) ≡ escaped c.args.within c.runs.rest.now =
    rw (after_is, c.split_at.ensures.front) (sym c.in-Some.ensures.1) in (
      so_far.0 ++ (run ++ reference),
      append_assoc so_far.0 (run ++ reference) (escaped c.args.within after) ∙
          (ap (λ x. so_far.0 ++ x) (append_assoc run reference (escaped c.args.within after) ∙ step) ∙ so_far.1),
      WritesAll-append _ _ _ _ _ so_far.2 (WritesAll-append _ _ _ _ _ c.in_ok-put_bytes.ensures c.in_ok-put.ensures),
    )

pub returns : goal.returns
returns g c =
    let so_far = c.runs.invariant in
    rw (← so_far.1, c.in_default.ensures) (Writes-append _ _ _ _ _ _ so_far.2 c.put_bytes-2.ensures)
