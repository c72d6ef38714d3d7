use Rattle.std.proofs.Common.{chars, ap, ◌∙◌}
use Rattle.xpath_types.specs.Heights.{read_of, height_in}
use Rattle.xpath_types.proofs.HeightLemmas.{told-below}
use Rattle.xpath_types.proofs.heights.Heights.height.Goals as goal

pub returns-in-Some-clause-within : goal.returns-in-Some-clause-within
returns-in-Some-clause-within c = told-below (chars c.args.name.now) c.args.self.now c.in-Some.height.now
    (ap read_of c.in-Some.ensures.value ∙ (c.self.invariant.found c.args.name.now c.utf8.name ∙ ap (height_in (chars c.args.name.now)) c.self.view_is))
