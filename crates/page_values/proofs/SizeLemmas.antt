-- How many bytes a base64 text stands for.
use Rattle.std.proofs.Common.{◌≡◌, ℕ, ◌+◌, Bool, true, false, List, [], ◌∷◌, ◌++◌, map, length, refl, ap, sym, ◌∙◌}
use Rattle.std.specs.Prelude.{Option, Some, None, Result, Ok, Err, bytes_eq, encode_utf8_all, if◌then◌else◌}
use Rattle.std.proofs.lemmas.List.{map-append}
use Rattle.base64.specs.GeneralPurpose.{encode_of, decode_of}
use Rattle.base64.specs.Engines.{standard}
use Rattle.inv_terms.specs.declared.attachments.AttachFault.{AttachFault}
use Rattle.inv_terms.specs.declared.attachments.AttachFault.TheVariants as faults
use Rattle.inv_terms.specs.Attachments.{without_white_space, decoded}
use Rattle.page_values.specs.Places.{numbers_to, size_of}
use Rattle.page_values.specs.Seen.{decoded_size}
use Rattle.page_values.proofs.LoopLemmas.{numbers-next}

bytes_or_fault : Option (List ℕ) → Result (List ℕ) AttachFault
bytes_or_fault o = elim o [ None ↦ Err faults.NotBase64 | Some bytes ↦ Ok bytes ]

size_or_none : Option (List ℕ) → Option ℕ
size_or_none o = elim (bytes_or_fault o) [ Ok bytes ↦ Some (length bytes) | Err fault ↦ None ]

decoded-size : (text : List ℕ) → decoded_size text ≡ size_or_none (decoded text)
unfolding size_or_none bytes_or_fault
decoded-size text = by (decode_of standard text)
  where
    kept : (q : Bool) (bytes : List ℕ) → (if q then Some (length bytes) else None) ≡ size_or_none (if q then Some bytes else None)
    kept true bytes = refl
    kept false bytes = refl

    by : {E : Type 0} (r : Result (List ℕ) E)
        → elim r [ Err e ↦ None | Ok bytes ↦ if bytes_eq (encode_of standard bytes) text then Some (length bytes) else None ]
        ≡ size_or_none (elim r [ Err e ↦ None | Ok bytes ↦ if bytes_eq (encode_of standard bytes) text then Some bytes else None ])
    by (Err e) = refl
    by (Ok bytes) = kept (bytes_eq (encode_of standard bytes) text) bytes

pub size-is : (text bare : List ℕ) → bare ≡ encode_utf8_all (without_white_space text) → decoded_size bare ≡ size_of text
unfolding size_or_none bytes_or_fault
size-is text bare e = ap decoded_size e ∙ decoded-size (encode_utf8_all (without_white_space text))

-- one size more
pub sizes-next : (f : ℕ → Option ℕ) (k : ℕ) (sizes : List (Option ℕ)) (size : Option ℕ) → sizes ≡ map f (numbers_to k) → size ≡ f (k + 1)
    → sizes ++ (size ∷ []) ≡ map f (numbers_to (k + 1))
sizes-next f k sizes size so_far next =
    ap (λ x. x ++ (size ∷ [])) so_far
    ∙ (ap (λ x. map f (numbers_to k) ++ (x ∷ [])) next
    ∙ (sym (map-append f (numbers_to k) ((k + 1) ∷ [])) ∙ ap (map f) (sym (numbers-next k))))
