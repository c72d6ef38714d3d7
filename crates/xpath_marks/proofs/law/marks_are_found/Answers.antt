use Rattle.xpath_marks.proofs.SwapLemmas as swap
use Rattle.xpath_marks.proofs.law.marks_are_found.Goals as goal

pub returns : goal.returns
returns c = λ nodes outer pattern w s. swap.marks_are_found nodes w outer pattern s
