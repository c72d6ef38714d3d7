-- Calls of a writer step by step: what was made so far is ahead of the calls that are still to come.
use Rattle.std.proofs.Common.{◌≡◌, ℕ, ◌+◌, ◌<◌, ◌≤◌, List, [], ◌∷◌, ◌++◌, length, get_or, drop, flat_map, Result, Ok, Err, ap, sym, subst, ◌∙◌, drop-cons}
use Rattle.std.proofs.Common.{add-one, arith}
use Rattle.std.specs.Result.{IsErr}
use Rattle.std.proofs.lemmas.Grind.{common_steps}
use Rattle.inv_base.specs.Outside.{SinkView}
use Rattle.xml_write.specs.Calls.{Call}
use Rattle.xml_write.specs.Writers.{WriterView, Made, Broke, Makes}
use Rattle.xml_write.proofs.WriterLemmas.{Makes-at_err, Made-nothing, Made-append, Made-break, Broke-more}

-- The calls that are left lead to where all calls lead.
pub record Ahead (w : WriterView) (r : SinkView) (all : List Call) (v : WriterView) (s : SinkView) (left : List Call) : Type 0 where
  pub made : (u : WriterView) (t : SinkView) → Made v s left u t → Made w r all u t
  pub broke : (t : SinkView) → Broke v s left t → Broke w r all t

pub begin : (w : WriterView) (r : SinkView) (all : List Call) → Ahead w r all w r all
begin w r all = record { made = λ u t p. p; broke = λ t p. p }

pub step : (w v u : WriterView) (r s t : SinkView) (all calls left : List Call) → Made v s calls u t → Ahead w r all v s (calls ++ left) →
    Ahead w r all u t left
step w v u r s t all calls left m h = record {
  made = λ x y p. h.made x y (Made-append v u x s t y calls left m p);
  broke = λ y p. h.broke y (Made-break v u s t y calls left m p);
}

break : (w v : WriterView) (r s t : SinkView) (all calls left : List Call) → Broke v s calls t → Ahead w r all v s (calls ++ left) → Broke w r all t
break w v r s t all calls left b h = h.broke t (Broke-more v s t calls left b)

-- what the exit of a `?` returns
pub broken : {T E : Type 0} (result : Result T E) (w v u : WriterView) (r s t : SinkView) (all calls left : List Call) → IsErr result → Broke v s calls t →
    Ahead w r all v s (calls ++ left) → Makes result w r all u t
broken result w v u r s t all calls left i b h = Makes-at_err result w u r t all i (break w v r s t all calls left b h)

pub last : {T E : Type 0} (result : Result T E) (w v u : WriterView) (r s t : SinkView) (all calls : List Call) → Makes result v s calls u t →
    Ahead w r all v s calls → Makes result w r all u t
last (Ok x) w v u r s t all calls m h = h.made u t m
last (Err e) w v u r s t all calls m h = h.broke t m

same_left : (w v : WriterView) (r s : SinkView) (all left other : List Call) → left ≡ other → Ahead w r all v s left → Ahead w r all v s other
same_left w v r s all left other e h = let P : List Call → Type 0 = λ x. Ahead w r all v s x in subst P e h

pub Makes-same : {T E : Type 0} (result : Result T E) (w v : WriterView) (r s : SinkView) (a b : List Call) → a ≡ b → Makes result w r a v s →
    Makes result w r b v s
Makes-same result w v r s a b e m = let P : List Call → Type 0 = λ x. Makes result w r x v s in subst P e m

-- A loop over items, each of which makes its calls

drop-all : {A : Type 0} (xs : List A) (k : ℕ) → length xs ≤ k → drop k xs ≡ []
drop-all xs k h = grind (arith, common_steps)

module _ {X : Type 0} (f : X → List Call) (xs : List X) (k : ℕ) (w v : WriterView) (r s : SinkView) where
  next_calls : (x : X) → k < length xs → x ≡ get_or xs k x → flat_map f (drop k xs) ≡ f x ++ flat_map f (drop (k + 1) xs)
  next_calls x h e = ap (flat_map f) (drop-cons xs k x h ∙ ap (λ n. get_or xs k x ∷ drop n xs) (sym (add-one k))) ∙
      ap (λ y. f y ++ flat_map f (drop (k + 1) xs)) (sym e)

  pub loop-err : {T E : Type 0} (result : Result T E) (u : WriterView) (t : SinkView) (x : X) → k < length xs → x ≡ get_or xs k x →
      Ahead w r (flat_map f xs) v s (flat_map f (drop k xs))
      → Broke v s (f x) t → IsErr result → Makes result w r (flat_map f xs) u t
  loop-err result u t x h e a b i = broken result w v u r s t (flat_map f xs) (f x) (flat_map f (drop (k + 1) xs)) i b
      (same_left w v r s (flat_map f xs) _ _ (next_calls x h e) a)

  pub loop-ok : (u : WriterView) (t : SinkView) (x : X) → k < length xs → x ≡ get_or xs k x → Ahead w r (flat_map f xs) v s (flat_map f (drop k xs)) →
      Made v s (f x) u t
      → Ahead w r (flat_map f xs) u t (flat_map f (drop (k + 1) xs))
  loop-ok u t x h e a m = step w v u r s t (flat_map f xs) (f x) (flat_map f (drop (k + 1) xs)) m (same_left w v r s (flat_map f xs) _ _ (next_calls x h e) a)

  pub loop-end : length xs ≤ k → Ahead w r (flat_map f xs) v s (flat_map f (drop k xs)) → Made w r (flat_map f xs) v s
  loop-end h a =
      let done : Ahead w r (flat_map f xs) v s [] = same_left w v r s (flat_map f xs) _ _ (ap (flat_map f) (drop-all xs k h)) a in
      done.made v s (Made-nothing v s)
