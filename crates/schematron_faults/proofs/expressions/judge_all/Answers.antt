use Rattle.schematron_faults.proofs.GoneLemmas.{all_gone}
use Rattle.schematron_faults.proofs.SearchLemmas.{on_ok}
use Rattle.schematron_faults.proofs.expressions.judge_all.Goals as goal

pub returns : goal.returns
returns c = on_ok c.judge_patterns.result (λ goes is. all_gone c.args.file.now c.args.search.now c.judge_outside.new.search c.judge_patterns.new.search
    c.requires.again c.in_ok-judge_outside.ensures (goes is)) c.judge_patterns.ensures
