-- Bytes that are held back and handed on.
use Rattle.std.proofs.Common.{◌≡◌, ℕ, ◌+◌, List, [], take, drop, Result, ap, sym, ◌∙◌, arith}
use Rattle.std.proofs.lemmas.List.{take-append-drop, drop-drop, drop_all}
use Rattle.inv_base.specs.Outside.{SinkView, Accepts, appended}
use Rattle.inv_base.specs.Buffering.{with_held}
use Rattle.inv_base.proofs.WritingLemmas.{appended-nil, appended-append}

-- What was handed on is no longer held back.
pub handed_on : (held : List ℕ) (sent taken : ℕ) (before after : SinkView) (piece : List ℕ) → piece ≡ drop sent held
    → after.told ≡ appended (take taken piece) before.told → after.faults ≡ before.faults
    → with_held after (drop (sent + taken) held) ≡ with_held before (drop sent held)
handed_on held sent taken before after piece is told faults =
    let left : drop (sent + taken) held ≡ drop taken piece = sym (drop-drop taken sent held) ∙ ap (drop taken) (sym is) in
    let all : appended (drop (sent + taken) held) after.told ≡ appended (drop sent held) before.told =
    ap (λ x. appended x after.told) left ∙ (ap (appended (drop taken piece)) told
    ∙ (sym (appended-append (take taken piece) (drop taken piece) before.told) ∙ ap (λ x. appended x before.told) (take-append-drop taken piece ∙ is))) in
    ap (λ told. let view : SinkView = record { told = told; faults = after.faults } in view) all
    ∙ ap (λ faults. let view : SinkView = record { told = appended (drop sent held) before.told; faults = faults } in view) faults

-- A piece that is passed on where nothing is held back.
pub passed_on : {E : Type 0} (result : Result ℕ E) (piece held : List ℕ) (before mid after : SinkView) → held ≡ []
    → (with_held mid held).told ≡ before.told → mid.faults ≡ before.faults → Accepts result piece mid after → Accepts result piece before (with_held after held)
passed_on {E} result piece held before mid after none told faults accepts =
    let middle : mid ≡ before = ap (λ told. let view : SinkView = record { told = told; faults = mid.faults } in view)
    (sym (appended-nil mid.told) ∙ (ap (λ x. appended x mid.told) (sym none) ∙ told))
    ∙ ap (λ faults. let view : SinkView = record { told = before.told; faults = faults } in view) faults in
    let behind : with_held after held ≡ after = ap (λ told. let view : SinkView = record { told = told; faults = after.faults } in view)
    (ap (λ x. appended x after.told) none ∙ appended-nil after.told) in
    rw (behind, ← middle) accepts

pub none_left : (sent : ℕ) (held : List ℕ) → held ≡ [] → drop sent held ≡ []
none_left sent held none = ap (drop sent) none ∙ drop_all sent [] (omega arith)
