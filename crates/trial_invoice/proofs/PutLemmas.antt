-- Entries put one behind the other.
use Rattle.std.proofs.Common.{◌≡◌, ℕ, List, [], ◌∷◌, ◌++◌, Result, Ok, Err, sym, ap, ◌∙◌, append_assoc, append-nil}
use Rattle.std.specs.Prelude.{OnOk}
use Rattle.term_table.specs.declared.contexts.Context.{Context}
use Rattle.inv_terms.specs.declared.values.Value.{Value}
use Rattle.inv_terms.specs.declared.entries.Entry.{Entry}
use Rattle.trial_invoice.specs.Generated.{entry}

pub on-ok : {T E : Type 0} {P Q : Type 0} (r : Result T E) → (P → Q) → OnOk r P → OnOk r Q
on-ok (Ok v) f h = f h
on-ok (Err e) f h = h

-- none so far
pub put-none : (es : List Entry) → es ≡ es ++ []
put-none es = sym (append-nil es)

-- behind those so far one more, whose context and value are the ones that are meant
pub put-more : (es xs now then : List Entry) (context meant : Context) (number : ℕ) (v w : Value)
    → now ≡ es ++ xs → then ≡ now ++ entry context number v ∷ [] → context ≡ meant → v ≡ w → then ≡ es ++ (xs ++ entry meant number w ∷ [])
put-more es xs now then context meant number v w so put place value =
    put ∙ (ap (λ ys. ys ++ entry context number v ∷ []) so
    ∙ (append_assoc es xs (entry context number v ∷ [])
    ∙ (λ i. es ++ (xs ++ entry (place i) number (value i) ∷ []))))

-- behind those so far several more
pub put-all : (es xs ys now then : List Entry) → now ≡ es ++ xs → then ≡ now ++ ys → then ≡ es ++ (xs ++ ys)
put-all es xs ys now then so put = put ∙ (ap (λ zs. zs ++ ys) so ∙ append_assoc es xs ys)
