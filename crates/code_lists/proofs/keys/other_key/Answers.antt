use Rattle.std.proofs.Common.{◌≡◌, [], arith, not, ap, sym}
use Rattle.std.proofs.lemmas.Grind.{common_steps}
use Rattle.code_lists.proofs.KeyLemmas.{key-found, key-missed, key-passed}
use Rattle.code_lists.proofs.keys.other_key.Goals as goal

pub returns-then-not-is_among-clause-first : goal.returns-then-not-is_among-clause-first
returns-then-not-is_among-clause-first c =
    let (can, finite, same) = c.keys.invariant in
    key-found _ c.args.table.now.entries c.keys-key-items.ensures.ordered c.keys.key-iterator same c.in-Some.key.now c.next.new.self c.as_str.result.now
    c.as_str-then-not-is_among.result.now c.in-Some.ensures.steps c.as_str.ensures.value
    (ap not (sym c.if-not-is_among.ensures)) c.as_str-then-not-is_among.ensures.value

pub keys-preserved : goal.keys-preserved
keys-preserved c =
    let (can, finite, same) = c.keys.invariant in (
      tt,
      tt,
      key-passed _ c.args.table.now.entries c.keys-key-items.ensures.ordered c.keys.key-iterator same c.in-Some.key.now c.next.new.self c.as_str.result.now
          c.in-Some.ensures.steps c.as_str.ensures.value (ap not (sym c.if-not-is_among.ensures)),
    )

pub returns-clause-first : goal.returns-clause-first
returns-clause-first c =
    let (can, finite, same) = c.keys.invariant in
    let end : c.keys.key-iterator ≡ [] = grind (arith, common_steps) in
    key-missed _ c.args.table.now.entries c.keys-key-items.ensures.ordered c.keys.key-iterator same end
