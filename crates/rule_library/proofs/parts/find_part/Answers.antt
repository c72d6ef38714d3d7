use Rattle.std.proofs.Common.{◌≡◌, ◌<◌, List, Some, None, length, refl, subst}
use Rattle.rule_library.specs.Readings.{File, file_at}
use Rattle.rule_library.specs.Walk.{file_of}
use Rattle.rule_library.specs.Turns.{other_rest, found_rest}
use Rattle.rule_library.proofs.LeadsLemmas.{reaches_same, found_from, fails_from}
use Rattle.rule_library.proofs.TurnLemmas.{other-found, other-new}
use Rattle.rule_library.proofs.parts.find_part.Goals as goal

pub returns-in-Some : goal.returns-in-Some
returns-in-Some g c =
    let w = c.args.walk.now in
    let k = c.in-Some.k in
    let is = subst (λ (files : List File). Some (file_at k files) ≡ file_of c.args.wanted.now.name.now files) c.as_slice.ensures.value c.in-Some.ensures.file in
    record {
      found = reaches_same (other_rest w c.args.wanted.now.node c.args.wanted.now.bare c.args.wanted.now.name.now)
          (found_rest w c.args.wanted.now.node c.args.wanted.now.bare k) (g.S.Shelf.view c.args.shelf.now)
          (other-found w c.args.wanted.now.node c.args.wanted.now.bare c.args.wanted.now.name.now k is);
      at = c.requires.at;
      within = subst (λ (files : List File). k < length files) c.as_slice.ensures.value (c.in-Some.ensures.within k refl);
      fails = tt;
    }

pub returns-in-None : goal.returns-in-None
returns-in-None g c =
    let w = c.args.walk.now in
    let is = subst (λ (files : List File). None ≡ file_of c.args.wanted.now.name.now files) c.as_slice.ensures.value c.in-None.ensures.file in
    let new = other-new w c.args.wanted.now.node c.args.wanted.now.bare c.args.wanted.now.name.now is in
    record {
      found = found_from c.read_part.result (λ k. found_rest c.read_part.new.walk c.args.wanted.now.node c.args.wanted.now.bare k) _ _
          (g.S.Shelf.view c.args.shelf.now) (g.S.Shelf.view c.read_part.new.shelf) new c.read_part.ensures.found;
      at = c.read_part.ensures.at;
      within = c.read_part.ensures.within;
      fails = fails_from c.read_part.result _ _ (g.S.Shelf.view c.args.shelf.now) (g.S.Shelf.view c.read_part.new.shelf) new c.read_part.ensures.fails;
    }
