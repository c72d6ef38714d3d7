use Rattle.binding_laws.proofs.PlacedLemmas.{contains-among}
use Rattle.carrying_laws.proofs.ConditionLemmas.{carried-keeps, carried-entries, entries-keep, row-kept, part-kept, creditor-kept, placeholder-kept, note-kept}
use Rattle.carrying_laws.proofs.ConditionLemmas.{code-kept, means-kept, currency-kept}
use Rattle.carrying_laws.proofs.TableLemmas.{tables-keep}
use Rattle.carrying_laws.proofs.laws.carried_invoices_meet_each_condition.Goals as goal

pub returns-clause-carried : goal.returns-clause-carried
returns-clause-carried c = carried-keeps

pub returns-clause-entries : goal.returns-clause-entries
returns-clause-entries c = carried-entries

pub returns-clause-fails : goal.returns-clause-fails
returns-clause-fails c = entries-keep

pub returns-clause-part : goal.returns-clause-part
returns-clause-part c = λ rows es e keeps known. part-kept rows es keeps e (contains-among e es known)

pub returns-clause-creditor : goal.returns-clause-creditor
returns-clause-creditor c = λ rows es e keeps known. creditor-kept rows es keeps e (contains-among e es known)

pub returns-clause-placeholder : goal.returns-clause-placeholder
returns-clause-placeholder c = λ rows es e keeps known. placeholder-kept rows es keeps e (contains-among e es known)

pub returns-clause-note : goal.returns-clause-note
returns-clause-note c = λ rows es e keeps known. note-kept rows es keeps e (contains-among e es known)

pub returns-clause-code : goal.returns-clause-code
returns-clause-code c = λ rows es e keeps known. code-kept rows es keeps e (contains-among e es known)

pub returns-clause-means : goal.returns-clause-means
returns-clause-means c = λ rows es e keeps known. means-kept rows es keeps e (contains-among e es known)

pub returns-clause-currency : goal.returns-clause-currency
returns-clause-currency c = λ rows es e keeps known. currency-kept rows es keeps e (contains-among e es known)

pub returns-clause-placed : goal.returns-clause-placed
returns-clause-placed c = λ rows es e carried known. row-kept rows es carried e (contains-among e es known)

pub returns-clause-modelled : goal.returns-clause-modelled
returns-clause-modelled c = λ table es e carried known. tables-keep table es carried e (contains-among e es known)
