-- What is held back and handed on, since the start.
use Rattle.std.proofs.Common.{◌≡◌, ℕ, ◌≤◌, List, [], ◌∷◌, ◌++◌, take, drop, length, Option, Some, None, Result, Ok, Err, OnOk, refl, ap, sym, subst, ◌∙◌, arith}
use Rattle.std.proofs.Common.{append_assoc}
use Rattle.std.proofs.lemmas.List.{take-append-le, take-append-drop, length-take, append_cancel_left}
use Rattle.std.proofs.Math.Seq.{take-length}
use Rattle.inv_base.specs.Counts.{CountsFaults}
use Rattle.inv_base.specs.Outside.{SinkView, Accepts, appended}
use Rattle.inv_base.specs.Buffering.{with_held}
use Rattle.inv_base.specs.Writing.{IsFront}
use Rattle.inv_base.proofs.WritingLemmas.{appended-nil, IsFront-nil}
use Rattle.inv_base.proofs.BufferingLemmas.{none_left}
use Rattle.held_output.specs.Origins.{IsSince, TakesFront, Hands}

-- An output is where it was.
pub since_start : (start now : SinkView) → now ≡ start → IsSince start now
since_start start now is = record {
  told = λ first whole began told.
      let same : whole ≡ first = cc (ap (λ (s : SinkView). s.told) is) in
      ap (take (length first)) same ∙ take-length first;
  rises = let same = ap (λ (s : SinkView). s.faults) is in omega (arith, same);
}

none_some : (bytes : List ℕ) → None ≡ Some bytes → ⊥
none_some bytes e = cc

told_more : (start before : SinkView) (piece : List ℕ) (told : Option (List ℕ)) → IsSince start before → before.told ≡ told
    → (first whole : List ℕ) → start.told ≡ Some first → appended piece before.told ≡ Some whole → take (length first) whole ≡ first
told_more start before piece None since is first whole began more =
    absurd (none_some whole (sym (ap (appended piece) is) ∙ more))
told_more start before piece (Some bytes) since is first whole began more =
    let all : Some (bytes ++ piece) ≡ Some whole = sym (ap (appended piece) is) ∙ more in
    let same : bytes ++ piece ≡ whole = cc all in
    let front : take (length first) bytes ≡ first = since.told first bytes began is in
    let few : length first ≤ length bytes = omega (arith, length-take (length first) bytes, ap length front) in
    sym (ap (take (length first)) same) ∙ (take-append-le (length first) bytes piece few ∙ front)

since_more : (start before after : SinkView) (piece : List ℕ) → IsSince start before → after.told ≡ appended piece before.told → before.faults ≤ after.faults →
    IsSince start after
since_more start before after piece since more rises = record {
  told = λ first whole began told. told_more start before piece before.told since refl first whole began (sym more ∙ told);
  rises = omega (arith, since.rises, rises);
}

-- A write loses nothing that was told.
pub since_write : {E : Type 0} (result : Result ℕ E) (piece : List ℕ) (start before after : SinkView) → IsSince start before → Accepts result piece before after
    → IsSince start after
since_write (Ok n) piece start before after since accepts =
    let same : after.faults ≡ before.faults = accepts.faults in
    since_more start before after (take n piece) since accepts.told (omega (arith, same))
since_write (Err e) piece start before after since accepts =
    since_more start before after [] since (accepts.told ∙ sym (appended-nil before.told)) accepts.faults.0

-- A call that left all as it was, and then a write.
pub accepts_behind : {E : Type 0} (result : Result ℕ E) (piece : List ℕ) (before mid after : SinkView) → mid.told ≡ before.told → mid.faults ≡ before.faults
    → Accepts result piece mid after → Accepts result piece before after
accepts_behind {E} result piece before mid after told faults accepts =
    let same : mid ≡ before = ap (λ t. let view : SinkView = record { told = t; faults = mid.faults } in view) told
    ∙ ap (λ n. let view : SinkView = record { told = before.told; faults = n } in view) faults in
    subst (λ s. Accepts result piece s after) same accepts

-- where nothing is held back, the output has what is shown
all_handed : (now shown : SinkView) (sent : ℕ) (held : List ℕ) → held ≡ [] → (with_held now (drop sent held)).told ≡ shown.told → now.faults ≡ shown.faults →
    now ≡ shown
all_handed now shown sent held empty told faults =
    let same : now.told ≡ shown.told = sym (appended-nil now.told) ∙ (ap (λ x. appended x now.told) (sym (none_left sent held empty)) ∙ told) in
    ap (λ t. let view : SinkView = record { told = t; faults = now.faults } in view) same ∙
    ap (λ n. let view : SinkView = record { told = shown.told; faults = n } in view) faults

-- What was held back is handed on, or the output failed.
pub hands : {T E : Type 0} (result : Result T E) (start shown now : SinkView) (sent : ℕ) (held : List ℕ) → IsSince start now → start.faults ≤ shown.faults
    → (with_held now (drop sent held)).told ≡ shown.told → CountsFaults result shown.faults now.faults → OnOk result (held ≡ []) → Hands result start shown now
hands (Ok t) start shown now sent held since began told faults empty = all_handed now shown sent held empty told faults
hands (Err e) start shown now sent held since began told faults empty =
    record { rest = drop sent held; whole = told; since = since; began = began; rises = faults.0; rose = faults.1 }

-- ---- what of a text stands in the output

pub record FrontOf (text : List ℕ) (start now : Option (List ℕ)) : Type 0 where
  pub front : List ℕ
  pub is_front : IsFront front text
  pub told : now ≡ appended front start

by_told : (rest text : List ℕ) (start now : SinkView) (begun here : Option (List ℕ)) → start.told ≡ begun → now.told ≡ here → IsSince start now
    → appended rest now.told ≡ appended text start.told → FrontOf text start.told now.told
by_told rest text start now None None began is since whole = record { front = []; is_front = IsFront-nil text; told = is ∙ sym (ap (appended []) began) }
by_told rest text start now None (Some bytes) began is since whole =
    absurd (none_some (bytes ++ rest) (sym (sym (ap (appended rest) is) ∙ (whole ∙ ap (appended text) began))))
by_told rest text start now (Some first) None began is since whole =
    absurd (none_some (first ++ text) (sym (ap (appended rest) is) ∙ (whole ∙ ap (appended text) began)))
by_told rest text start now (Some first) (Some bytes) began is since whole =
    let both : Some (bytes ++ rest) ≡ Some (first ++ text) = sym (ap (appended rest) is) ∙ (whole ∙ ap (appended text) began) in
    let same : bytes ++ rest ≡ first ++ text = cc both in
    let front = drop (length first) bytes in
    let parts : first ++ front ≡ bytes = ap (λ x. x ++ front) (sym (since.told first bytes began is)) ∙ take-append-drop (length first) bytes in
    let fits : first ++ (front ++ rest) ≡ first ++ text = sym (append_assoc first front rest) ∙ (ap (λ x. x ++ rest) parts ∙ same) in
    record {
      front = front;
      is_front = record { rest = rest; whole = append_cancel_left first (front ++ rest) text fits };
      told = is ∙ (ap Some (sym parts) ∙ sym (ap (appended front) began));
    }

-- Where a text was shown as taken behind what was told at the start, the output took a front of it.
pub front_of : (rest text : List ℕ) (start shown now : SinkView) → appended rest now.told ≡ shown.told → IsSince start now →
    shown.told ≡ appended text start.told
    → FrontOf text start.told now.told
front_of rest text start shown now whole since took = by_told rest text start now start.told now.told refl refl since (whole ∙ took)

-- A front of nothing is nothing.
front_of_nil : (start now : Option (List ℕ)) → FrontOf [] start now → now ≡ start
front_of_nil start now f = f.told ∙ (ap (λ x. appended x start) (nothing f.front f.is_front.rest f.is_front.whole) ∙ appended-nil start) where
  nothing : (front rest : List ℕ) → front ++ rest ≡ [] → front ≡ []
  nothing [] rest e = refl
  nothing (x ∷ xs) rest e = absurd (cc e)

-- An output behind which nothing was shown as taken is as it was.
pub unchanged : (start shown now : SinkView) → TakesFront start shown now → shown ≡ start → now ≡ start
unchanged start shown now takes is =
    let told : now.told ≡ start.told = front_of_nil start.told now.told
    (front_of takes.rest [] start shown now takes.whole takes.since (ap (λ (s : SinkView). s.told) is ∙ sym (appended-nil start.told))) in
    let faults : now.faults ≡ start.faults = takes.faults ∙ ap (λ (s : SinkView). s.faults) is in
    ap (λ t. let view : SinkView = record { told = t; faults = now.faults } in view) told ∙
    ap (λ n. let view : SinkView = record { told = start.told; faults = n } in view) faults

-- Behind nothing that is held back, what is shown is what the output shows.
pub with_none : (s : SinkView) → with_held s [] ≡ s
with_none s = ap (λ t. let view : SinkView = record { told = t; faults = s.faults } in view) (appended-nil s.told)
