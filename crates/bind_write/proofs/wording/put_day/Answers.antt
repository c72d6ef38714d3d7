use Rattle.std.proofs.Common.{◌≡◌, List, ℕ, take, ◌++◌, length, sym, ap, ◌∙◌, arith}
use Rattle.std.proofs.lemmas.Grind.{common_steps}
use Rattle.bind_write.proofs.wording.put_day.Goals as goal

take-front : (xs ys : List ℕ) (n : ℕ) → n ≡ length xs → take n (xs ++ ys) ≡ xs
take-front xs ys n h = grind (arith, common_steps)

kept : (a b text ys : List ℕ) → a ≡ b → length b ≡ 8 → b ≡ text → take 8 (a ++ ys) ≡ text
kept a b text ys e l t = ap (λ x. take 8 (x ++ ys)) e ∙ (take-front b ys 8 (sym l) ∙ t)

pub returns-clause-text : goal.returns-clause-text
returns-clause-text c = kept _ _ _ _ c.copy_from_slice.ensures.after c.print_plain.array_long c.print_plain.ensures.text
