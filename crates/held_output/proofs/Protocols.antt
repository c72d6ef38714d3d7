-- A job that runs its protocol in front of an output runs it behind handing on too.
use Rattle.std.proofs.Common.{◌≡◌, ℕ, ◌≤◌, List, ◌++◌, append_assoc, Result, Ok, Err, inl, inr, refl, sym, subst, ◌∙◌, arith, ◌⊎◌}
use Rattle.std.specs.Prelude.{MatchResult}
use Rattle.inv_base.specs.Counts.{Rose}
use Rattle.inv_base.specs.Outside.{ShelfView, SinkView}
use Rattle.inv_base.specs.Writing.{IsFront, WritesAll, WritesFront}
use Rattle.job_protocol.specs.declared.status.Status.{Status}
use Rattle.job_protocol.specs.declared.status.Status.TheVariants as statuses
use Rattle.job_protocol.specs.Protocol.{Protocol, answer_of}
use Rattle.job_protocol.specs.Outside.{Outside, IsAccepted, IsRefusedAnswer}
use Rattle.job_protocol.specs.Runs.{IsRefused, IsUnread, IsOutOfMemory, IsCut, IsWritten, Runs, RunsInPieces}
use Rattle.held_output.specs.Origins.{TakesFront, HasFailed, Hands, HandedOver}
use Rattle.held_output.proofs.HoldingLemmas.{front_of, unchanged}

-- what a job that has answered ends with, by what handing on answered
pub handed_over : {T E : Type 0} (handed : Result T E) (status status' : Status) (start shown now : SinkView) → IsAccepted status
    → MatchResult handed (λ _. status' ≡ status) (λ _. status' ≡ statuses.WriteFault) → Hands handed start shown now → HandedOver status status' start shown now
handed_over (Ok t) status status' start shown now good is hands = inl (good, is, hands)
handed_over (Err e) status status' start shown now good is hands = inr (inl (good, is, hands))

-- A front of a front is a front.
IsFront-front : (less front text : List ℕ) → IsFront less front → IsFront front text → IsFront less text
IsFront-front less front text f g = subst (IsFront less) g.whole
    (subst (λ x. IsFront less (x ++ g.rest)) f.whole (record { rest = f.rest ++ g.rest; whole = sym (append_assoc less f.rest g.rest) }))

-- a text of which all was shown as taken, and the output failed
pub failed_all : (text : List ℕ) (start shown now : SinkView) → HasFailed start shown now → WritesAll text start shown → WritesFront text start now
failed_all text start shown now failed all =
    let here = front_of failed.rest text start shown now failed.whole failed.since all.told in
    let same : shown.faults ≡ start.faults = all.faults in
    record {
      front = here.front;
      is_front = here.is_front;
      told = here.told;
      rises = omega (arith, failed.rises, same);
      rose = subst (λ n. Rose n now.faults) same failed.rose;
    }

-- a text of which a front was shown as taken before the output failed
pub front_kept : (text : List ℕ) (start shown now : SinkView) → TakesFront start shown now → WritesFront text start shown → WritesFront text start now
front_kept text start shown now takes some =
    let here = front_of takes.rest some.front start shown now takes.whole takes.since some.told in
    record {
      front = here.front;
      is_front = IsFront-front here.front some.front text here.is_front some.is_front;
      told = here.told;
      rises = subst (λ n. start.faults ≤ n) (sym takes.faults) some.rises;
      rose = subst (Rose start.faults) (sym takes.faults) some.rose;
    }

not_refused : (status : Status) → IsAccepted status → IsRefusedAnswer status → ⊥
not_refused statuses.Done good refuses = refuses
not_refused statuses.Findings good refuses = refuses
not_refused statuses.DocumentRefused good refuses = good
not_refused statuses.RulesRefused good refuses = good
not_refused statuses.Unable good refuses = good
not_refused statuses.BadWords good refuses = good
not_refused statuses.ReadFault good refuses = good
not_refused statuses.WriteFault good refuses = good
not_refused statuses.Memory good refuses = good

module _ (protocol : Protocol) (shelf shelf' : ShelfView) (start shown now err err' : SinkView) (status status' : Status) where
  abbrev Before : Outside
  Before = record { shelf = shelf; out = start; err = err }

  abbrev Shown : Outside
  Shown = record { shelf = shelf'; out = shown; err = err' }

  abbrev Now : Outside
  Now = record { shelf = shelf'; out = now; err = err' }

  -- The output shows what was shown: so the job ran as it did.
  same_run : now ≡ shown → status' ≡ status → Runs protocol Before Shown status → Runs protocol Before Now status'
  same_run here is runs = rw (is, here) runs

  -- The job didn't answer: what it wrote, if anything, isn't handed on.
  lost_refused : TakesFront start shown now → IsRefused protocol Before Shown status → IsRefused protocol Before Now status
  lost_refused takes r = record {
    count = r.count;
    answer = r.answer;
    ends_in = r.ends_in;
    told = r.told;
    refuses = r.refuses;
    empty = r.empty;
    read = r.read;
    nothing = unchanged start shown now takes r.nothing;
    line = r.line;
    stops = r.stops;
  }

  lost_unread : TakesFront start shown now → IsUnread protocol Before Shown status → IsUnread protocol Before Now status
  lost_unread takes r = record {
    count = r.count;
    file = r.file;
    reads_at = r.reads_at;
    told = r.told;
    held = r.held;
    opens = r.opens;
    rises = r.rises;
    rose = r.rose;
    nothing = unchanged start shown now takes r.nothing;
    line = r.line;
  }

  lost_memory : TakesFront start shown now → IsOutOfMemory protocol Before Shown status → IsOutOfMemory protocol Before Now status
  lost_memory takes r = record {
    count = r.count;
    told = r.told;
    few = r.few;
    read = r.read;
    nothing = unchanged start shown now takes r.nothing;
    no_line = r.no_line;
  }

  lost_cut : TakesFront start shown now → IsCut protocol Before Shown status → IsCut protocol Before Now status
  lost_cut takes r = record {
    count = r.count;
    told = r.told;
    few = r.few;
    read = r.read;
    quiet = takes.faults ∙ r.quiet;
    front = λ files is.
        let shown_front = r.front files is in
        let here = front_of takes.rest shown_front.0 start shown now takes.whole takes.since shown_front.2 in
        (here.front, IsFront-front here.front shown_front.0 (answer_of protocol files).out here.is_front shown_front.1, here.told);
    no_line = r.no_line;
  }

  lost_written : (IsAccepted status → ⊥) → TakesFront start shown now → IsWritten protocol Before Shown status → IsWritten protocol Before Now status
  lost_written not takes r = record {
    count = r.count;
    answer = r.answer;
    ends_in = r.ends_in;
    accepted = r.accepted;
    silent = r.silent;
    read = r.read;
    written = written r.written;
    no_line = r.no_line;
  } where
    written : ((status ≡ r.answer.status) × WritesAll r.answer.out start shown) ⊎ ((status ≡ statuses.WriteFault) × WritesFront r.answer.out start shown)
        → ((status ≡ r.answer.status) × WritesAll r.answer.out start now) ⊎ ((status ≡ statuses.WriteFault) × WritesFront r.answer.out start now)
    written (inl all) = absurd (not (subst IsAccepted (sym all.0) r.accepted))
    written (inr some) = inr (some.0, front_kept r.answer.out start shown now takes some.1)

  lost_run : (IsAccepted status → ⊥) → TakesFront start shown now → Runs protocol Before Shown status → Runs protocol Before Now status
  lost_run not takes (inl r) = inl (lost_refused takes r)
  lost_run not takes (inr (inl r)) = inr (inl (lost_unread takes r))
  lost_run not takes (inr (inr (inl r))) = inr (inr (inl (lost_memory takes r)))
  lost_run not takes (inr (inr (inr r))) = inr (inr (inr (lost_written not takes r)))

  -- The job answered, and its answer couldn't be handed on.
  cut_written : IsAccepted status → HasFailed start shown now → IsWritten protocol Before Shown status → IsWritten protocol Before Now statuses.WriteFault
  cut_written good failed r = record {
    count = r.count;
    answer = r.answer;
    ends_in = r.ends_in;
    accepted = r.accepted;
    silent = r.silent;
    read = r.read;
    written = inr (refl, written r.written);
    no_line = r.no_line;
  } where
    written : ((status ≡ r.answer.status) × WritesAll r.answer.out start shown) ⊎ ((status ≡ statuses.WriteFault) × WritesFront r.answer.out start shown)
        → WritesFront r.answer.out start now
    written (inl all) = failed_all r.answer.out start shown now failed all.1
    written (inr some) = absurd (subst IsAccepted some.0 good)

  cut_run : IsAccepted status → HasFailed start shown now → Runs protocol Before Shown status → Runs protocol Before Now statuses.WriteFault
  cut_run good failed (inl r) = absurd (not_refused status good r.refuses)
  cut_run good failed (inr (inl r)) = absurd (subst IsAccepted r.told good)
  cut_run good failed (inr (inr (inl r))) = absurd (subst IsAccepted r.told good)
  cut_run good failed (inr (inr (inr r))) = inr (inr (inr (cut_written good failed r)))

  -- What ran in front of the output ran behind handing on.
  pub run_handed : HandedOver status status' start shown now → Runs protocol Before Shown status → Runs protocol Before Now status'
  run_handed (inl all) runs = same_run all.2 all.1 runs
  run_handed (inr (inl cut)) runs = rw cut.1 (cut_run cut.0 cut.2 runs)
  run_handed (inr (inr lost)) runs = rw lost.1 (lost_run lost.0 lost.2 runs)

  pub pieces_handed : HandedOver status status' start shown now → RunsInPieces protocol Before Shown status → RunsInPieces protocol Before Now status'
  pieces_handed handed (inl runs) = inl (run_handed handed runs)
  pieces_handed (inl all) (inr some) = absurd (subst IsAccepted some.told all.0)
  pieces_handed (inr (inl cut)) (inr some) = absurd (subst IsAccepted some.told cut.0)
  pieces_handed (inr (inr lost)) (inr some) = inr (rw lost.1 (lost_cut lost.2 some))
