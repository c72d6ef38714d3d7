use Rattle.std.proofs.Common.{sym, ◌∙◌}
use Rattle.rule_library.specs.Turns.{given, new_rest, fault_at}
use Rattle.rule_library.specs.declared.faults.LoadKind.TheVariants as kinds
use Rattle.rule_library.proofs.LeadsLemmas.{refused_fails}
use Rattle.rule_library.proofs.TurnLemmas.{new-many, le_false}
use Rattle.rule_library.proofs.ReadLemmas.{reads_part, part_fails, full_behind, at-kept, within-kept}
use Rattle.rule_library.proofs.parts.read_part.Goals as goal

pub returns-then-has_many-clause-fails : goal.returns-then-has_many-clause-fails
returns-then-has_many-clause-fails g c =
    let w = c.args.walk.now in
    refused_fails (new_rest w c.args.wanted.now.node c.args.wanted.now.bare c.args.wanted.now.name.now) c.fault_in.result (g.S.Shelf.view c.args.shelf.now)
    (given (fault_at w c.args.wanted.now.node kinds.TooManyFiles) tt
    (new-many w c.args.wanted.now.node c.args.wanted.now.bare c.args.wanted.now.name.now (sym c.has_many.ensures ∙ c.if-has_many.true)) c.fault_in.ensures)

pub returns-in-Err-clause-fails : goal.returns-in-Err-clause-fails
returns-in-Err-clause-fails g c =
    part_fails c.args.walk.now c.args.wanted.now.node c.args.wanted.now.bare c.args.wanted.now.name.now c.in-Err.fault (g.S.Shelf.view c.args.shelf.now)
    (g.S.Shelf.view c.read_file.new.shelf) (sym c.has_many.ensures ∙ c.if-has_many.false)
    c.in-Err.ensures.fails

pub keep-requires-clause-few : goal.keep-requires-clause-few
keep-requires-clause-few g c = le_false 64 _ c.has_many.result c.has_many.ensures c.if-has_many.false

pub returns-in-Ok-keep : goal.returns-in-Ok-keep
returns-in-Ok-keep g c =
    let w = c.args.walk.now in
    let v = c.keep.new.walk in
    let k = c.in-Ok-keep.k in
    record {
      found = reads_part w v c.args.wanted.now.node k c.args.wanted.now.bare c.args.wanted.now.name.now c.in-Ok.file (g.S.Shelf.view c.args.shelf.now)
          (g.S.Shelf.view c.read_file.new.shelf) c.requires.at.stands
          (sym c.has_many.ensures ∙ c.if-has_many.false) c.in-Ok.ensures.read c.in-Ok-keep.ensures.kept;
      at = at-kept w v c.args.wanted.now.node k c.in-Ok.file c.requires.at c.in-Ok-keep.ensures.kept c.in-Ok-keep.ensures.stands;
      within = within-kept w v k c.in-Ok.file c.in-Ok-keep.ensures.kept;
      fails = tt;
    }

pub returns-in-Err-keep-clause-fails : goal.returns-in-Err-keep-clause-fails
returns-in-Err-keep-clause-fails g c =
    full_behind c.args.walk.now c.args.wanted.now.node c.args.wanted.now.bare c.args.wanted.now.name.now c.in-Ok.file c.want_of_memory.result
    (g.S.Shelf.view c.args.shelf.now) (g.S.Shelf.view c.read_file.new.shelf)
    (sym c.has_many.ensures ∙ c.if-has_many.false) c.in-Ok.ensures.read c.want_of_memory.ensures
