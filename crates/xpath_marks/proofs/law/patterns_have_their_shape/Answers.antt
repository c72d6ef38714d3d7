use Rattle.xpath_marks.proofs.ShapeLemmas as shape
use Rattle.xpath_marks.proofs.law.patterns_have_their_shape.Goals as goal

pub returns : goal.returns
returns c = λ declared names tokens pattern is. shape.pattern_shape declared names tokens pattern is
