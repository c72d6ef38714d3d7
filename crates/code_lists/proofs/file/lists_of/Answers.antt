use Rattle.std.proofs.Common.{ℕ, List, [], ◌∷◌, codes, sym}
use Rattle.code_lists.proofs.FileLemmas.{no_offence, other_offends, lists_first, other_first, lists_missing}
use Rattle.code_lists.proofs.KeyLemmas.{other-before}
use Rattle.code_lists.proofs.file.lists_of.Goals as goal

-- the one key that isn't other
abbrev words : List (List ℕ)
words = codes "lists" ∷ []

pub returns-in-Some-None-clause-ok : goal.returns-in-Some-None-clause-ok
returns-in-Some-None-clause-ok c = (
  no_offence c.args.document.now.entries _ (sym c.in-Some-None.ensures)
      (other-before words c.args.document.now.entries c.other_key.ensures.ordered _ c.in-Some-None.ensures'.first),
  sym c.in-Some-None.ensures,
)

pub returns-in-Some-Some-clause-fault : goal.returns-in-Some-Some-clause-fault
returns-in-Some-Some-clause-fault c =
    other_offends c.args.document.now.entries c.other_key.ensures.ordered _ _ (sym c.in-Some-Some.ensures)
    (other-before words c.args.document.now.entries c.other_key.ensures.ordered _ c.in-Some-Some.ensures'.first)

pub returns-then-lt-clause-fault : goal.returns-then-lt-clause-fault
returns-then-lt-clause-fault c =
    lists_first c.args.document.now.entries c.other_key.ensures.ordered _ (sym c.in-None-Some.ensures)
    (other-before words c.args.document.now.entries c.other_key.ensures.ordered _ c.in-None-Some.ensures'.first) (sym c.if-lt.ensures)

pub returns-else-lt-clause-fault : goal.returns-else-lt-clause-fault
returns-else-lt-clause-fault c =
    other_first c.args.document.now.entries c.other_key.ensures.ordered _ (sym c.in-None-Some.ensures)
    (other-before words c.args.document.now.entries c.other_key.ensures.ordered _ c.in-None-Some.ensures'.first) (sym c.if-lt.ensures)

pub returns-in-None-None-clause-fault : goal.returns-in-None-None-clause-fault
returns-in-None-None-clause-fault c = lists_missing c.args.document.now.entries (sym c.in-None-None.ensures)
    (other-before words c.args.document.now.entries c.other_key.ensures.ordered _ c.in-None-None.ensures'.first)
