use Rattle.std.proofs.Common.{[], ◌∷◌, ◌++◌, ◌≡◌, ◌<◌, length, ap, ◌∙◌, arith}
use Rattle.std.proofs.lemmas.Bool.Decides.{nat_tests}
use Rattle.inv_base.proofs.PrintingLemmas.{Prints-append, Prints-same, Prints-nil}
use Rattle.document_jobs.proofs.OutlineLemmas.{encode-braced, encode-braced-nil}
use Rattle.document_jobs.proofs.printing.print_uri.Goals as goal

pub returns-then-is_empty : goal.returns-then-is_empty
returns-then-is_empty g c =
    let none : length c.args.uri.now ≡ 0 = grind (arith, nat_tests) in
    Prints-same [] _ _ _ _ _ (encode-braced-nil c.args.uri.now none) (Prints-nil _ _)

pub returns : goal.returns
returns g c =
    let some : 0 < length c.args.uri.now = grind (arith, nat_tests) in
    Prints-same _ _ _ _ _ _ (ap (λ x. (0x7B ∷ []) ++ (x ++ 0x7D ∷ [])) c.as_bytes.ensures.value ∙ encode-braced c.args.uri.now c.utf8.uri some)
    (Prints-append (0x7B ∷ []) _ _ _ _ _ _ _ c.put.ensures (Prints-append _ (0x7D ∷ []) _ _ _ _ _ _ c.put-2.ensures c.put-3.ensures))
