use Rattle.std.proofs.Common.{sym, ◌∙◌}
use Rattle.rule_library.specs.Faults.{full_between}
use Rattle.rule_library.specs.Turns.{given, rest_of, fault_at, part_rest, other_rest, found_rest}
use Rattle.rule_library.specs.declared.faults.LoadKind.TheVariants as kinds
use Rattle.rule_library.proofs.LeadsLemmas.{reaches_join, reaches_from, reaches_same, fails_behind, fails_same, refused_fails}
use Rattle.rule_library.proofs.TurnLemmas.{part-cycle, part-other, found-unfit, found-fit}
use Rattle.rule_library.proofs.parts.put_part.Goals as goal

pub returns-then-is_open-clause-fails : goal.returns-then-is_open-clause-fails
returns-then-is_open-clause-fails g c =
    let w = c.args.walk.now in
    refused_fails (part_rest w c.args.wanted.now.node c.args.wanted.now.bare c.args.wanted.now.name.now) c.fault_in.result (g.S.Shelf.view c.args.shelf.now)
    (given (fault_at w c.args.wanted.now.node kinds.IncludeCycle) tt
    (part-cycle w c.args.wanted.now.node c.args.wanted.now.bare c.args.wanted.now.name.now (sym c.is_open.ensures ∙ c.if-is_open.true)) c.fault_in.ensures)

pub returns-in-Err-clause-fails : goal.returns-in-Err-clause-fails
returns-in-Err-clause-fails g c =
    let w = c.args.walk.now in
    fails_same (part_rest w c.args.wanted.now.node c.args.wanted.now.bare c.args.wanted.now.name.now)
    (other_rest w c.args.wanted.now.node c.args.wanted.now.bare c.args.wanted.now.name.now) c.in-Err.fault (g.S.Shelf.view c.args.shelf.now)
    (g.S.Shelf.view c.find_part.new.shelf)
    (part-other w c.args.wanted.now.node c.args.wanted.now.bare c.args.wanted.now.name.now (sym c.is_open.ensures ∙ c.if-is_open.false)) c.in-Err.ensures.fails

pub returns-then-is_unfit-clause-fails : goal.returns-then-is_unfit-clause-fails
returns-then-is_unfit-clause-fails g c =
    let w = c.args.walk.now in
    let v = c.find_part.new.walk in
    let k = c.in-Ok.k in
    let other = part-other w c.args.wanted.now.node c.args.wanted.now.bare c.args.wanted.now.name.now (sym c.is_open.ensures ∙ c.if-is_open.false) in
    fails_behind (part_rest w c.args.wanted.now.node c.args.wanted.now.bare c.args.wanted.now.name.now)
    (found_rest v c.args.wanted.now.node c.args.wanted.now.bare k) c.fault_in-then-is_unfit.result (g.S.Shelf.view c.args.shelf.now)
    (g.S.Shelf.view c.find_part.new.shelf) (g.S.Shelf.view c.find_part.new.shelf)
    (reaches_from (part_rest w c.args.wanted.now.node c.args.wanted.now.bare c.args.wanted.now.name.now)
    (other_rest w c.args.wanted.now.node c.args.wanted.now.bare c.args.wanted.now.name.now)
    (found_rest v c.args.wanted.now.node c.args.wanted.now.bare k) _ _ other c.in-Ok.ensures.found)
    (refused_fails (found_rest v c.args.wanted.now.node c.args.wanted.now.bare k) c.fault_in-then-is_unfit.result (g.S.Shelf.view c.find_part.new.shelf)
    (given (fault_at v c.args.wanted.now.node kinds.NotSame) tt
    (found-unfit v c.args.wanted.now.node c.args.wanted.now.bare k (sym c.is_unfit.ensures ∙ c.if-is_unfit.true)) c.fault_in-then-is_unfit.ensures))

pub returns-in-Ok-enter-clause-goes : goal.returns-in-Ok-enter-clause-goes
returns-in-Ok-enter-clause-goes g c =
    let w = c.args.walk.now in
    let v = c.find_part.new.walk in
    let k = c.in-Ok.k in
    let other = part-other w c.args.wanted.now.node c.args.wanted.now.bare c.args.wanted.now.name.now (sym c.is_open.ensures ∙ c.if-is_open.false) in
    let fit = found-fit v c.args.wanted.now.node c.args.wanted.now.bare k (sym c.is_unfit.ensures ∙ c.if-is_unfit.false) in
    reaches_join (part_rest w c.args.wanted.now.node c.args.wanted.now.bare c.args.wanted.now.name.now)
    (found_rest v c.args.wanted.now.node c.args.wanted.now.bare k) (rest_of c.enter.new.walk) (g.S.Shelf.view c.args.shelf.now)
    (g.S.Shelf.view c.find_part.new.shelf) (g.S.Shelf.view c.find_part.new.shelf)
    (reaches_from (part_rest w c.args.wanted.now.node c.args.wanted.now.bare c.args.wanted.now.name.now)
    (other_rest w c.args.wanted.now.node c.args.wanted.now.bare c.args.wanted.now.name.now)
    (found_rest v c.args.wanted.now.node c.args.wanted.now.bare k) _ _ other c.in-Ok.ensures.found)
    (reaches_same (found_rest v c.args.wanted.now.node c.args.wanted.now.bare k) (rest_of c.enter.new.walk) (g.S.Shelf.view c.find_part.new.shelf)
    (fit ∙ sym c.in-Ok-enter.ensures.goes))

pub returns-in-Err-enter-clause-fails : goal.returns-in-Err-enter-clause-fails
returns-in-Err-enter-clause-fails g c =
    let w = c.args.walk.now in
    let v = c.find_part.new.walk in
    let k = c.in-Ok.k in
    let other = part-other w c.args.wanted.now.node c.args.wanted.now.bare c.args.wanted.now.name.now (sym c.is_open.ensures ∙ c.if-is_open.false) in
    full_between (found_rest v c.args.wanted.now.node c.args.wanted.now.bare k) c.want_of_memory.ensures
    (reaches_from (part_rest w c.args.wanted.now.node c.args.wanted.now.bare c.args.wanted.now.name.now)
    (other_rest w c.args.wanted.now.node c.args.wanted.now.bare c.args.wanted.now.name.now)
    (found_rest v c.args.wanted.now.node c.args.wanted.now.bare k) _ _ other c.in-Ok.ensures.found)
