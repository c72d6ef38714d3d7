use Rattle.std.proofs.Common.{◌≡◌, length, get_or, false, sym, arith, rules}
use Rattle.std.proofs.lemmas.List.{get_or_read}
use Rattle.std.proofs.lemmas.List.Sums.{prefix_len_is}
use Rattle.inv_base.specs.Characters.{is_name_char}
use Rattle.xpath_tokens.proofs.scanning.name_characters.Goals as goal

pub returns-then-not-is_name_char-clause-exact : goal.returns-then-not-is_name_char-clause-exact
returns-then-not-is_name_char-clause-exact c =
    let at : c.index-text-i.result ≡ get_or c.args.text.now c.loop-i.i 0 = get_or_read c.args.text.now _ _ (omega arith) c.index-text-i.is 0 in
    let stops : is_name_char (get_or c.args.text.now c.loop-i.i 0) ≡ false = rw (← at) (search rules) in
    sym (prefix_len_is is_name_char c.args.text.now c.loop-i.i 0 (omega arith) c.loop-i.invariant (λ _. stops))

pub returns-clause-exact : goal.returns-clause-exact
returns-clause-exact c =
    sym (prefix_len_is is_name_char c.args.text.now (length c.args.text.now) 0 (omega arith) (λ k h. c.loop-i.invariant k (omega arith))
    (λ h. absurd (omega arith)))
