use Rattle.std.proofs.Common.{arith, subst, sym}
use Rattle.xml_tokens.specs.Beginnings as spec
use Rattle.xml_tokens.specs.Seen.{Shows}
use Rattle.xml_tokens.proofs.TokenLemmas.{line-end-two, line-end-one, line-end-ended, line-end-later}
use Rattle.xml_tokens.proofs.beginning.line_end_at.Goals as goal

pub returns-in-empty : goal.returns-in-empty
returns-in-empty c = subst (λ e. Shows _ (spec.line_end_at e c.args.bytes.now)) (sym c.if-ended.true) (line-end-ended c.args.bytes.now (omega arith))

pub returns-in-empty-2 : goal.returns-in-empty-2
returns-in-empty-2 c = subst (λ e. Shows _ (spec.line_end_at e c.args.bytes.now)) (sym c.if-ended.false) (line-end-later c.args.bytes.now (omega arith))

pub returns-in-len1-up : goal.returns-in-len1-up
returns-in-len1-up c = line-end-two c.args.ended c.args.bytes.now (omega arith) c.if-first-eq10.true

pub returns-in-len1-up-2 : goal.returns-in-len1-up-2
returns-in-len1-up-2 c = line-end-one c.args.ended c.args.bytes.now (omega arith) c.if-first-eq10.false
