use Rattle.std.proofs.Common.{inl, inr, refl, ap, chars, Err}
use Rattle.xsd_pattern.proofs.Answering.{pattern_of, spells_of, small_of, small-same, fault-ok, bad-err, large-err, only-err, fault-err}
use Rattle.xsd_pattern.proofs.regex.parse.Goals as goal

pub returns-in-Ok-clause-found : goal.returns-in-Ok-clause-found
returns-in-Ok-clause-found c = (
  pattern_of (chars c.args.text.now) _ _ _ c.in-Ok.ensures,
  spells_of (chars c.args.text.now) _ _ _ c.in-Ok.ensures,
  small_of (chars c.args.text.now) _ _ _ c.in-Ok.ensures,
)

pub returns-in-Ok-clause-only : goal.returns-in-Ok-clause-only
returns-in-Ok-clause-only c = λ p s. inr (inl (small-same (chars c.args.text.now) _ _ _ c.in-Ok.ensures p s, refl))

pub returns-in-Ok-clause-fault : goal.returns-in-Ok-clause-fault
returns-in-Ok-clause-fault c = fault-ok (chars c.args.text.now) _ _ _ c.in-Ok.ensures

pub returns-in-Err-clause-bad : goal.returns-in-Err-clause-bad
returns-in-Err-clause-bad c = λ e. bad-err (chars c.args.text.now) c.in-Err.fault c.in-Err.ensures (cc)

pub returns-in-Err-clause-large : goal.returns-in-Err-clause-large
returns-in-Err-clause-large c = λ e. large-err (chars c.args.text.now) c.in-Err.fault c.in-Err.ensures (cc)

pub returns-in-Err-clause-only : goal.returns-in-Err-clause-only
returns-in-Err-clause-only c = λ p s. elim (only-err (chars c.args.text.now) c.in-Err.fault c.in-Err.ensures p s) [
  | inl e ↦ inl (ap Err e)
  | inr (
    l,
    e,
  ) ↦ inr (inr (l, ap Err e))
]

pub returns-in-Err-clause-fault : goal.returns-in-Err-clause-fault
returns-in-Err-clause-fault c = fault-err (chars c.args.text.now) c.in-Err.fault c.in-Err.ensures
