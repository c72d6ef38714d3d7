-- The bytes of a base64 text with white space in it.
use Rattle.std.proofs.Common.{◌≡◌, ◌≢◌, ℕ, List, Some, None, Ok, Err, refl, ap, ◌∙◌, sym}
use Rattle.std.specs.Prelude.{Option, Result, IfOk, IfErr, encode_utf8_all}
use Rattle.inv_terms.specs.declared.attachments.AttachFault.{AttachFault}
use Rattle.inv_terms.specs.declared.attachments.AttachFault.TheVariants as faults
use Rattle.inv_terms.specs.Attachments.{without_white_space, decoded, bytes_of}

answer_for : Option (List ℕ) → Result (List ℕ) AttachFault
answer_for None = Err faults.NotBase64
answer_for (Some bytes) = Ok bytes

answer_is : (o : Option (List ℕ)) → (elim o [ None ↦ Err faults.NotBase64 | Some bytes ↦ Ok bytes ]) ≡ answer_for o
unfolding answer_for
answer_is None = refl
answer_is (Some bytes) = refl

bytes_of-is : (text bare : List ℕ) → bare ≡ encode_utf8_all (without_white_space text) → bytes_of text ≡ answer_for (decoded bare)
bytes_of-is text bare e = answer_is _ ∙ ap (λ x. answer_for (decoded x)) (sym e)

pub ok-along : {X E : Type 0} (items : X → List ℕ) (r : Result X E) (text bare : List ℕ) → bare ≡ encode_utf8_all (without_white_space text)
    → IfOk r (λ x. decoded bare ≡ Some (items x)) → IfOk r (λ x. bytes_of text ≡ Ok (items x))
unfolding answer_for
ok-along items (Ok x) text bare e h = bytes_of-is text bare e ∙ ap answer_for h
ok-along items (Err f) text bare e h = tt

pub fault-along : {X : Type 0} (r : Result X AttachFault) (text bare : List ℕ) → bare ≡ encode_utf8_all (without_white_space text)
    → IfErr r (λ fault. fault ≢ faults.Memory → (fault ≡ faults.NotBase64) × (decoded bare ≡ None))
    → IfErr r (λ fault. fault ≢ faults.Memory → (fault ≡ faults.NotBase64) × (bytes_of text ≡ Err faults.NotBase64))
unfolding answer_for
fault-along (Ok x) text bare e h = tt
fault-along (Err f) text bare e h = λ n. ((h n).0, bytes_of-is text bare e ∙ ap answer_for (h n).1)
