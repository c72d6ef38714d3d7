-- Calls of a writer step by step: what was made so far is ahead of the calls that are still to come.
use Rattle.std.proofs.Common.{◌≡◌, ℕ, map, ◌+◌, ◌<◌, ◌≤◌, ◌==◌, true, false, List, [], ◌∷◌, ◌++◌, length, get_or, drop, flat_map, Result, Ok, Err, refl, ap}
use Rattle.std.proofs.Common.{sym, subst, append-nil, append_assoc, drop-cons, add-one, arith}
use Rattle.std.specs.Result.{IsErr}
use Rattle.std.proofs.lemmas.Result.{MatchResult-from_err}
use Rattle.std.proofs.lemmas.Grind.{common_steps}
use Rattle.inv_base.specs.Outside.{SinkView}
use Rattle.xml_write.specs.Calls.{Call, call_text}
use Rattle.xml_write.specs.Writers.{WriterView, Made, Broke, Makes}
use Rattle.xml_write.proofs.WriterLemmas.{Makes-at_err, Made-nothing, Made-append, Made-break, Broke-more, Made-texts, Broke-texts}
use Rattle.bind_write.specs.Cells.{text_calls, Joins, Breaks, GoesOn}

-- The calls that are left lead to where all calls lead.
pub record Ahead (w : WriterView) (r : SinkView) (all : List Call) (v : WriterView) (s : SinkView) (left : List Call) : Type 0 where
  pub made : (u : WriterView) (t : SinkView) → Made v s left u t → Made w r all u t
  pub broke : (t : SinkView) → Broke v s left t → Broke w r all t

pub begin : (w : WriterView) (r : SinkView) (all : List Call) → Ahead w r all w r all
begin w r all = record { made = λ u t p. p; broke = λ t p. p }

pub step : (w v u : WriterView) (r s t : SinkView) (all calls left : List Call) → Made v s calls u t → Ahead w r all v s (calls ++ left) →
    Ahead w r all u t left
step w v u r s t all calls left m h = record {
  made = λ x y p. h.made x y (Made-append v u x s t y calls left m p);
  broke = λ y p. h.broke y (Made-break v u s t y calls left m p);
}

pub break : (w v : WriterView) (r s t : SinkView) (all calls left : List Call) → Broke v s calls t → Ahead w r all v s (calls ++ left) → Broke w r all t
break w v r s t all calls left b h = h.broke t (Broke-more v s t calls left b)

pub end : (w v : WriterView) (r s : SinkView) (all : List Call) → Ahead w r all v s [] → Made w r all v s
end w v r s all h = h.made v s (Made-nothing v s)

pub last : {T E : Type 0} (result : Result T E) (w v u : WriterView) (r s t : SinkView) (all calls : List Call) → Makes result v s calls u t →
    Ahead w r all v s calls → Makes result w r all u t
last (Ok x) w v u r s t all calls m h = h.made u t m
last (Err e) w v u r s t all calls m h = h.broke t m

pub same_left : (w v : WriterView) (r s : SinkView) (all left other : List Call) → left ≡ other → Ahead w r all v s left → Ahead w r all v s other
same_left w v r s all left other e h = let P : List Call → Type 0 = λ x. Ahead w r all v s x in subst P e h

-- ---- a loop

drop-next : (ns : List ℕ) (k : ℕ) → k < length ns → drop k ns ≡ get_or ns k 0 ∷ drop (k + 1) ns
drop-next ns k h = rw (add-one, drop-cons ns k 0 h) refl

next_piece : {A : Type 0} (f : ℕ → List A) (ns : List ℕ) (k : ℕ) → k < length ns → flat_map f (drop k ns) ≡ f (get_or ns k 0) ++ flat_map f (drop (k + 1) ns)
next_piece f ns k h = ap (flat_map f) (drop-next ns k h)

drop-all : {A : Type 0} (xs : List A) (k : ℕ) → length xs ≤ k → drop k xs ≡ []
drop-all xs k h = grind (arith, common_steps)

no_piece : {A : Type 0} (f : ℕ → List A) (ns : List ℕ) (k : ℕ) → length ns ≤ k → flat_map f (drop k ns) ≡ []
no_piece f ns k h = ap (flat_map f) (drop-all ns k h)

pub Makes-same : {T E : Type 0} (result : Result T E) (w v : WriterView) (r s : SinkView) (a b : List Call) → a ≡ b → Makes result w r a v s →
    Makes result w r b v s
Makes-same result w v r s a b e m = let P : List Call → Type 0 = λ x. Makes result w r x v s in subst P e m

-- the calls of numbers one by one, at the k-th of them
module _ (f : ℕ → List Call) (ns rows : List ℕ) (k : ℕ) (w v : WriterView) (r s : SinkView) where
  pub loop-err : {T E : Type 0} (result : Result T E) (u : WriterView) (t : SinkView) → ns ≡ rows → k < length ns →
      Ahead w r (flat_map f ns) v s (flat_map f (drop k ns))
      → Broke v s (f (get_or ns k 0)) t → IsErr result → Makes result w r (flat_map f rows) u t
  loop-err result u t e h a b i =
      Makes-same result w u r t (flat_map f ns) (flat_map f rows) (ap (flat_map f) e)
      (Makes-at_err result w u r t (flat_map f ns) i
      (break w v r s t (flat_map f ns) (f (get_or ns k 0)) (flat_map f (drop (k + 1) ns)) b (same_left w v r s (flat_map f ns) _ _ (next_piece f ns k h) a)))

  pub loop-ok : (u : WriterView) (t : SinkView) → k < length ns → Ahead w r (flat_map f ns) v s (flat_map f (drop k ns)) → Made v s (f (get_or ns k 0)) u t
      → Ahead w r (flat_map f ns) u t (flat_map f (drop (k + 1) ns))
  loop-ok u t h a m = step w v u r s t (flat_map f ns) (f (get_or ns k 0)) (flat_map f (drop (k + 1) ns)) m
      (same_left w v r s (flat_map f ns) _ _ (next_piece f ns k h) a)

  pub loop-end : ns ≡ rows → length ns ≤ k → Ahead w r (flat_map f ns) v s (flat_map f (drop k ns)) → Made w r (flat_map f rows) v s
  loop-end e h a =
      let P : List ℕ → Type 0 = λ x. Made w r (flat_map f x) v s in
      subst P e (end w v r s (flat_map f ns) (same_left w v r s (flat_map f ns) _ _ (no_piece f ns k h) a))

-- ---- texts that go on

broke-longer : (u : WriterView) (q t : SinkView) (text more : List ℕ) → Broke u q (text_calls text) t → Broke u q (text_calls (text ++ more)) t
broke-longer u q t [] more b = Broke-more u q t [] (text_calls more) b
broke-longer u q t (c ∷ text) [] b = let P : List ℕ → Type 0 = λ x. Broke u q (text_calls x) t in subst P (sym (append-nil (c ∷ text))) b
broke-longer u q t (c ∷ text) (d ∷ more) b =
    Broke-texts u q t (c ∷ text) (d ∷ more) (Broke-more u q t (call_text (c ∷ text) ∷ []) (call_text (d ∷ more) ∷ []) b)

same_joined : (u v : WriterView) (q s : SinkView) (a b : List ℕ) → a ≡ b → Made u q (text_calls a) v s → Made u q (text_calls b) v s
same_joined u v q s a b e m = let P : List ℕ → Type 0 = λ x. Made u q (text_calls x) v s in subst P e m

same_broken : (u : WriterView) (q s : SinkView) (a b : List ℕ) → a ≡ b → Broke u q (text_calls a) s → Broke u q (text_calls b) s
same_broken u q s a b e m = let P : List ℕ → Type 0 = λ x. Broke u q (text_calls x) s in subst P e m

pub Joins-nothing : (w : WriterView) (r : SinkView) → Joins w r [] w r
Joins-nothing w r = record { joins = λ u q before m. same_joined u w q r before (before ++ []) (sym (append-nil before)) m }

pub Joins-append : (w v u : WriterView) (r s t : SinkView) (a b : List ℕ) → Joins w r a v s → Joins v s b u t → Joins w r (a ++ b) u t
Joins-append w v u r s t a b p q = record {
  joins = λ x y before m. same_joined x u y t ((before ++ a) ++ b) (before ++ (a ++ b)) (append_assoc before a b)
      (q.joins x y (before ++ a) (p.joins x y before m));
}

pub Joins-break : (w v : WriterView) (r s t : SinkView) (a b : List ℕ) → Joins w r a v s → Breaks v s b t → Breaks w r (a ++ b) t
Joins-break w v r s t a b p q = record {
  breaks = λ x y before m. same_broken x y t ((before ++ a) ++ b) (before ++ (a ++ b)) (append_assoc before a b)
      (q.breaks x y (before ++ a) (p.joins x y before m));
}

pub Breaks-more : (w : WriterView) (r t : SinkView) (a b : List ℕ) → Breaks w r a t → Breaks w r (a ++ b) t
Breaks-more w r t a b p = record {
  breaks = λ x y before m. same_broken x y t ((before ++ a) ++ b) (before ++ (a ++ b)) (append_assoc before a b)
      (broke-longer x y t (before ++ a) b (p.breaks x y before m));
}

after_text : (x w v : WriterView) (q r s : SinkView) (before : List ℕ) (b : ℕ) (bytes : List ℕ) → Made w r (call_text (b ∷ bytes) ∷ []) v s →
    Made x q (text_calls before) w r → Made x q (text_calls (before ++ (b ∷ bytes))) v s
after_text x w v q r s [] b bytes m p = Made-append x w v q r s [] (call_text (b ∷ bytes) ∷ []) p m
after_text x w v q r s (c ∷ before) b bytes m p =
    Made-texts x v q s (c ∷ before) (b ∷ bytes) (Made-append x w v q r s (call_text (c ∷ before) ∷ []) (call_text (b ∷ bytes) ∷ []) p m)

broken_text : (x w : WriterView) (q r s : SinkView) (before : List ℕ) (b : ℕ) (bytes : List ℕ) → Broke w r (call_text (b ∷ bytes) ∷ []) s →
    Made x q (text_calls before) w r → Broke x q (text_calls (before ++ (b ∷ bytes))) s
broken_text x w q r s [] b bytes m p = Made-break x w q r s [] (call_text (b ∷ bytes) ∷ []) p m
broken_text x w q r s (c ∷ before) b bytes m p =
    Broke-texts x q s (c ∷ before) (b ∷ bytes) (Made-break x w q r s (call_text (c ∷ before) ∷ []) (call_text (b ∷ bytes) ∷ []) p m)

-- a text that isn't empty
pub part_goes_on : {T E : Type 0} (result : Result T E) (w v : WriterView) (r s : SinkView) (bytes : List ℕ) → (length bytes == 0) ≡ false →
    Makes result w r (call_text bytes ∷ []) v s → GoesOn result w r bytes v s
part_goes_on result w v r s [] e m = cc
part_goes_on (Ok x) w v r s (b ∷ bytes) e m = record { joins = λ u q before p. after_text u w v q r s before b bytes m p }
part_goes_on (Err x) w v r s (b ∷ bytes) e m = record { breaks = λ u q before p. broken_text u w q r s before b bytes m p }

no_bytes : (bytes : List ℕ) → (length bytes == 0) ≡ true → bytes ≡ []
no_bytes [] e = refl
no_bytes (b ∷ bytes) e = absurd (grind arith)

pub empty_goes_on : (w : WriterView) (r : SinkView) (bytes : List ℕ) → (length bytes == 0) ≡ true → Joins w r bytes w r
empty_goes_on w r bytes e = let P : List ℕ → Type 0 = λ x. Joins w r x w r in subst P (sym (no_bytes bytes e)) (Joins-nothing w r)

-- The text that is left goes on to where the whole text goes.
pub record TextAhead (w : WriterView) (r : SinkView) (all : List ℕ) (v : WriterView) (s : SinkView) (left : List ℕ) : Type 0 where
  pub joins : (u : WriterView) (t : SinkView) → Joins v s left u t → Joins w r all u t
  pub breaks : (t : SinkView) → Breaks v s left t → Breaks w r all t

pub text-begin : (w : WriterView) (r : SinkView) (all : List ℕ) → TextAhead w r all w r all
text-begin w r all = record { joins = λ u t p. p; breaks = λ t p. p }

pub text-step : (w v u : WriterView) (r s t : SinkView) (all a left : List ℕ) → Joins v s a u t → TextAhead w r all v s (a ++ left) → TextAhead w r all u t left
text-step w v u r s t all a left m h = record {
  joins = λ x y p. h.joins x y (Joins-append v u x s t y a left m p);
  breaks = λ y p. h.breaks y (Joins-break v u s t y a left m p);
}

pub text-break : (w v : WriterView) (r s t : SinkView) (all a left : List ℕ) → Breaks v s a t → TextAhead w r all v s (a ++ left) → Breaks w r all t
text-break w v r s t all a left b h = h.breaks t (Breaks-more v s t a left b)

pub text-end : (w v : WriterView) (r s : SinkView) (all : List ℕ) → TextAhead w r all v s [] → Joins w r all v s
text-end w v r s all h = h.joins v s (Joins-nothing v s)

pub text-same : (w v : WriterView) (r s : SinkView) (all left other : List ℕ) → left ≡ other → TextAhead w r all v s left → TextAhead w r all v s other
text-same w v r s all left other e h = let P : List ℕ → Type 0 = λ x. TextAhead w r all v s x in subst P e h

pub text-last : {T E : Type 0} (result : Result T E) (w v u : WriterView) (r s t : SinkView) (all a : List ℕ) → GoesOn result v s a u t →
    TextAhead w r all v s a → GoesOn result w r all u t
text-last (Ok x) w v u r s t all a m h = h.joins u t m
text-last (Err e) w v u r s t all a m h = h.breaks t m

-- a text from its beginning
pub whole_text : (w v : WriterView) (r s : SinkView) (bytes : List ℕ) → Joins w r bytes v s → Made w r (text_calls bytes) v s
whole_text w v r s bytes j = j.joins w r [] (Made-nothing w r)

pub broken_whole : (w : WriterView) (r s : SinkView) (bytes : List ℕ) → Breaks w r bytes s → Broke w r (text_calls bytes) s
broken_whole w r s bytes b = b.breaks w r [] (Made-nothing w r)

-- what the exit of a `?` returns
pub GoesOn-at_err : {T E : Type 0} (result : Result T E) (w v : WriterView) (r s : SinkView) (bytes : List ℕ) → IsErr result → Breaks w r bytes s →
    GoesOn result w r bytes v s
GoesOn-at_err result w v r s bytes e p = MatchResult-from_err result (λ _. Joins w r bytes v s) (λ _. Breaks w r bytes s) e (λ _. p)

pub goes-same : {T E : Type 0} (result : Result T E) (w v : WriterView) (r s : SinkView) (a b : List ℕ) → a ≡ b → GoesOn result w r a v s →
    GoesOn result w r b v s
goes-same result w v r s a b e m = let P : List ℕ → Type 0 = λ x. GoesOn result w r x v s in subst P e m

-- the texts of numbers one by one, at the k-th of them
module _ (f : ℕ → List ℕ) (ns rows : List ℕ) (k : ℕ) (w v : WriterView) (r s : SinkView) where
  pub text-loop-err : {T E : Type 0} (result : Result T E) (u : WriterView) (t : SinkView) → ns ≡ rows → k < length ns →
      TextAhead w r (flat_map f ns) v s (flat_map f (drop k ns))
      → Breaks v s (f (get_or ns k 0)) t → IsErr result → Makes result w r (text_calls (flat_map f rows)) u t
  text-loop-err result u t e h a b i =
      Makes-same result w u r t (text_calls (flat_map f ns)) (text_calls (flat_map f rows)) (ap (λ x. text_calls (flat_map f x)) e)
      (Makes-at_err result w u r t (text_calls (flat_map f ns)) i
      (broken_whole w r t (flat_map f ns) (text-break w v r s t (flat_map f ns) (f (get_or ns k 0)) (flat_map f (drop (k + 1) ns)) b
      (text-same w v r s (flat_map f ns) _ _ (next_piece f ns k h) a))))

  pub text-loop-ok : (u : WriterView) (t : SinkView) → k < length ns → TextAhead w r (flat_map f ns) v s (flat_map f (drop k ns)) →
      Joins v s (f (get_or ns k 0)) u t
      → TextAhead w r (flat_map f ns) u t (flat_map f (drop (k + 1) ns))
  text-loop-ok u t h a m = text-step w v u r s t (flat_map f ns) (f (get_or ns k 0)) (flat_map f (drop (k + 1) ns)) m
      (text-same w v r s (flat_map f ns) _ _ (next_piece f ns k h) a)

  pub text-loop-end : ns ≡ rows → length ns ≤ k → TextAhead w r (flat_map f ns) v s (flat_map f (drop k ns)) → Made w r (text_calls (flat_map f rows)) v s
  text-loop-end e h a =
      let P : List ℕ → Type 0 = λ x. Made w r (text_calls (flat_map f x)) v s in
      subst P e (whole_text w v r s (flat_map f ns) (text-end w v r s (flat_map f ns) (text-same w v r s (flat_map f ns) _ _ (no_piece f ns k h) a)))

-- ---- a loop over other things

drop-of : {A : Type 0} (xs : List A) (k : ℕ) (d : A) → k < length xs → drop k xs ≡ get_or xs k d ∷ drop (k + 1) xs
drop-of xs k d h = rw (add-one, drop-cons xs k d h) refl

-- one call for each, at the k-th
module _ {A : Type 0} (f : A → Call) (xs : List A) (k : ℕ) (d : A) (w v : WriterView) (r s : SinkView) where
  pub each-err : {T E : Type 0} (result : Result T E) (u : WriterView) (t : SinkView) (calls : List Call) → map f xs ≡ calls → k < length xs
      → Ahead w r (map f xs) v s (map f (drop k xs)) → Broke v s (f (get_or xs k d) ∷ []) t → IsErr result → Makes result w r calls u t
  each-err result u t calls e h a b i =
      Makes-same result w u r t (map f xs) calls e
      (Makes-at_err result w u r t (map f xs) i
      (break w v r s t (map f xs) (f (get_or xs k d) ∷ []) (map f (drop (k + 1) xs)) b (same_left w v r s (map f xs) _ _ (ap (map f) (drop-of xs k d h)) a)))

  pub each-ok : (u : WriterView) (t : SinkView) → k < length xs → Ahead w r (map f xs) v s (map f (drop k xs)) → Made v s (f (get_or xs k d) ∷ []) u t
      → Ahead w r (map f xs) u t (map f (drop (k + 1) xs))
  each-ok u t h a m = step w v u r s t (map f xs) (f (get_or xs k d) ∷ []) (map f (drop (k + 1) xs)) m
      (same_left w v r s (map f xs) _ _ (ap (map f) (drop-of xs k d h)) a)

pub each-end : {A : Type 0} (f : A → Call) (xs : List A) (k : ℕ) (w v : WriterView) (r s : SinkView) (calls : List Call) → map f xs ≡ calls → length xs ≤ k →
    Ahead w r (map f xs) v s (map f (drop k xs)) → Made w r calls v s
each-end f xs k w v r s calls e h a =
    let P : List Call → Type 0 = λ y. Made w r y v s in
    subst P e (end w v r s (map f xs) (same_left w v r s (map f xs) _ _ (ap (map f) (drop-all xs k h)) a))
