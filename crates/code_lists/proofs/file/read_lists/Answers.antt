use Rattle.std.proofs.lemmas.Result.{err_from_is_err_and}
use Rattle.toml.proofs.Views.{Entry}
use Rattle.code_lists.proofs.FileLemmas.{fault_met, list_met}
use Rattle.code_lists.proofs.file.read_lists.Goals as goal

pub returns-in_err-read_list-clause-fault : goal.returns-in_err-read_list-clause-fault
returns-in_err-read_list-clause-fault c =
    let (can, finite, (sorted, (same, sofar))) = c.keys.invariant in
    let e : Entry = (c.in-Some.key.now, c.in-Some.value.now) in
    let p = err_from_is_err_and c.from_residual.result c.from_residual.ensures.1 in
    rw (p.1, p.2) (λ other. fault_met c.keys.key-iterator e c.next.new.self c.args.lists.now.entries c.in-Some.ensures.steps sorted same
    c.as_str.result.now c.as_str.ensures.value c.in_err-read_list.field-0.0 (c.in_err-read_list.ensures.fault other))

pub keys-preserved : goal.keys-preserved
keys-preserved c =
    let (can, finite, (sorted, (same, sofar))) = c.keys.invariant in
    let e : Entry = (c.in-Some.key.now, c.in-Some.value.now) in (
      tt,
      tt,
      list_met c.keys.key-iterator e c.next.new.self c.args.lists.now.entries c.in-Some.ensures.steps sorted same
          c.as_str.result.now c.as_str.ensures.value _ c.keys.found.items c.push.new.self.items _ c.in_ok-read_list.ensures.ok sofar c.in_ok-push.ensures.items,
    )
