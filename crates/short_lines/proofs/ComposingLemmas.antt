-- One piece put behind another.
use Rattle.std.proofs.Common.{ℕ, ◌+◌, List, ◌++◌, ap, ◌∙◌, append_assoc, arith}
use Rattle.arrayvec.specs.ArrayVec.{ArrayVec}
use Rattle.short_lines.specs.Composing.{Composes}

pub Composes-append : (a b : List ℕ) (m n : ℕ) (r s t : ArrayVec ℕ) → Composes a m r s → Composes b n s t → Composes (a ++ b) (m + n) r t
Composes-append a b m n r s t p q = record {
  items = q.items ∙ (ap (λ x. x ++ b) p.items ∙ append_assoc r.items a b);
  room = omega (arith, p.room, q.room);
}
