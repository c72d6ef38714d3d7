use Rattle.std.proofs.Common.{◌≡◌, true, eqb, length, get_or, sym, arith, rules}
use Rattle.std.proofs.lemmas.List.{get_or_read}
use Rattle.std.proofs.lemmas.List.Sums.{position_or_len_is}
use Rattle.xpath_tokens.proofs.pieces.index_of.Goals as goal

pub returns-then-d-c-clause-exact : goal.returns-then-d-c-clause-exact
returns-then-d-c-clause-exact c =
    let at : c.index-word-i.result ≡ get_or c.args.word.now c.characters.i 0 = get_or_read c.args.word.now _ _ (omega arith) c.index-word-i.is 0 in
    let stops : eqb (get_or c.args.word.now c.characters.i 0) c.args.c ≡ true = rw (← at) (search rules) in
    sym (position_or_len_is (λ d. eqb d c.args.c) c.args.word.now c.characters.i 0 (omega arith) c.characters.invariant (λ _. stops))

pub returns-clause-exact : goal.returns-clause-exact
returns-clause-exact c =
    sym (position_or_len_is (λ d. eqb d c.args.c) c.args.word.now (length c.args.word.now) 0 (omega arith) (λ k h. c.characters.invariant k (omega arith))
    (λ h. absurd (omega arith)))
