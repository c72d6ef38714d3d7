-- What is written only where there is something to say, and all that was printed.
use Rattle.std.proofs.Common.{◌≡◌, ◌≢◌, ℕ, zero, suc, Bool, false, List, [], ◌++◌, refl, sym, subst, decimal}
use Rattle.std.specs.Prelude.{codes}
use Rattle.inv_base.specs.Outside.{SinkView}
use Rattle.inv_base.specs.Printing.{Printed, Prints}
use Rattle.inv_base.proofs.WritingLemmas.{WritesAll-nil}
use Rattle.invoice_page.specs.Page.{passed_text}

pub passed-some : (n : ℕ) → n ≢ 0 → codes "<p>Passed over, since they hold no term: " ++ (decimal n ++ codes " elements of the document.</p>\n") ≡ passed_text n
passed-some zero h = absurd (h refl)
passed-some (suc n) h = refl

-- all that was printed
pub Printed-from : (piece : List ℕ) (f g : Bool) (s t : SinkView) → f ≡ false → Prints piece f g s t → Printed g piece s t
Printed-from piece f g s t e x = x [] s (subst (λ failed. Printed failed [] s s) (sym e) (WritesAll-nil s))
