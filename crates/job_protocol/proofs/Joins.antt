-- A run of what follows behind readings is a run of the whole.
use Rattle.std.proofs.Common.{◌≡◌, ℕ, ◌≤◌, suc, zero, List, Option, Some, Ok, true, inl, inr, refl, ap, sym, subst, ◌∙◌, arith}
use Rattle.inv_base.specs.Counts.{Rose, next_count}
use Rattle.inv_base.specs.Files.{Files}
use Rattle.inv_base.specs.Outside.{ShelfView, SinkView, WhereTold, appended}
use Rattle.inv_base.specs.Writing.{IsFront}
use Rattle.xml_state.specs.declared.fault.XmlFault.{XmlFault}
use Rattle.xml_state.specs.declared.limits.Limits.{Limits}
use Rattle.xml_profile.specs.Profile.{document}
use Rattle.xml_profile.specs.Profile as profile
use Rattle.job_protocol.specs.declared.status.Status.{Status}
use Rattle.job_protocol.specs.Protocol.{Answer, Protocol, loads, takes, at_fault, past_limit, by_result, by_test, answer_of, readings, stopped_at, is_within}
use Rattle.job_protocol.specs.Outside.{Outside, counted, HasRead, HasOpened}
use Rattle.job_protocol.specs.Runs.{IsContentOf, EndsIn, loaded, taken, ReadsAt, behind_load, behind_taking, IsRefused, IsUnread, IsOutOfMemory, IsCut}
use Rattle.job_protocol.specs.Runs.{IsWritten}
use Rattle.job_protocol.specs.Runs.{Runs, RunsInPieces}

-- so many more
abbrev pub added : ℕ → ℕ → ℕ
added zero n = n
added (suc k) n = suc (added k n)

added-mono : (k n m : ℕ) → n ≤ m → added k n ≤ added k m
added-mono zero n m few = few
added-mono (suc k) n m few = let further = added-mono k n m few in omega (arith, further)

counted-added : (k n count : ℕ) → counted (added k n) count ≡ counted n (counted k count)
counted-added zero n count = refl
counted-added (suc k) n count = counted-added k n (next_count count)

-- What is known of a whole protocol from what follows behind so many readings, for any property of both.
pub record BehindAll (held : Option Files) (k : ℕ) (whole next : Protocol) : Type 0 where
  pub ends_in : (n : ℕ) (answer : Answer) → EndsIn held next n answer → EndsIn held whole (added k n) answer
  pub reads_at : (n : ℕ) (file : List ℕ) → ReadsAt held next n file → ReadsAt held whole (added k n) file
  pub answers : WhereTold held (λ files. answer_of whole files ≡ answer_of next files)
  pub reads : WhereTold held (λ files. readings whole files ≡ added k (readings next files))
  pub stops : WhereTold held (λ files. stopped_at whole files ≡ stopped_at next files)

-- The same behind one reading.
abbrev pub Behind : Option Files → Protocol → Protocol → Type 0
Behind held whole next = BehindAll held 1 whole next

pub behind_a_load : (held : Option Files) (limits : Limits) (name : List ℕ) (refused : XmlFault → Answer) (next : List ℕ → profile.Document → Protocol)
    (content : List ℕ)
    (found : profile.Document) → IsContentOf held name content → document limits content ≡ Ok found →
    Behind held (loads limits name refused next) (next content found)
behind_a_load held limits name refused next content found of_file is =
    record {
      ends_in = λ n answer further. loaded of_file is further;
      reads_at = λ n file further. behind_load of_file is further;
      answers = λ files told. subst (λ bytes. by_result refused (λ f. answer_of (next bytes f) files) (document limits bytes) ≡ answer_of
          (next content found) files)
          (of_file files told) (ap (by_result refused (λ f. answer_of (next content f) files)) is);
      reads = λ files told. subst (λ bytes. suc (by_result (λ fault. 0) (λ f. readings (next bytes f) files) (document limits bytes)) ≡ suc
          (readings (next content found) files))
          (of_file files told) (ap (λ r. suc (by_result (λ fault. 0) (λ f. readings (next content f) files) r)) is);
      stops = λ files told. subst (λ bytes. by_result (λ fault. Some (at_fault limits name)) (λ f. stopped_at (next bytes f) files) (document limits bytes)
          ≡ stopped_at (next content found) files)
          (of_file files told) (ap (by_result (λ fault. Some (at_fault limits name)) (λ f. stopped_at (next content f) files)) is);
    }

pub behind_a_taking : (held : Option Files) (limit : ℕ) (name : List ℕ) (too_long : Answer) (next : List ℕ → Protocol) (content : List ℕ)
    → IsContentOf held name content → is_within limit content ≡ true → Behind held (takes limit name too_long next) (next content)
behind_a_taking held limit name too_long next content of_file within =
    record {
      ends_in = λ n answer further. taken of_file within further;
      reads_at = λ n file further. behind_taking of_file within further;
      answers = λ files told. subst (λ bytes. by_test too_long (answer_of (next bytes) files) (is_within limit bytes) ≡ answer_of (next content) files)
          (of_file files told)
          (ap (by_test too_long (answer_of (next content) files)) within);
      reads = λ files told. subst (λ bytes. suc (by_test 0 (readings (next bytes) files) (is_within limit bytes)) ≡ suc (readings (next content) files))
          (of_file files told)
          (ap (λ b. suc (by_test 0 (readings (next content) files) b)) within);
      stops = λ files told. subst (λ bytes. by_test (Some (past_limit limit name)) (stopped_at (next bytes) files) (is_within limit bytes) ≡ stopped_at
          (next content) files) (of_file files told)
          (ap (by_test (Some (past_limit limit name)) (stopped_at (next content) files)) within);
    }

-- Nothing is read.
pub behind_nothing : (held : Option Files) (protocol : Protocol) → BehindAll held 0 protocol protocol
behind_nothing held protocol = record {
  ends_in = λ n answer further. further;
  reads_at = λ n file further. further;
  answers = λ files told. refl;
  reads = λ files told. refl;
  stops = λ files told. refl;
}

-- One file is read, and then others.
pub behind_more : (held : Option Files) (k : ℕ) (whole mid next : Protocol) → Behind held whole mid → BehindAll held k mid next →
    BehindAll held (suc k) whole next
behind_more held k whole mid next first others = record {
  ends_in = λ n answer further. first.ends_in (added k n) answer (others.ends_in n answer further);
  reads_at = λ n file further. first.reads_at (added k n) file (others.reads_at n file further);
  answers = λ files told. first.answers files told ∙ others.answers files told;
  reads = λ files told. first.reads files told ∙ ap suc (others.reads files told);
  stops = λ files told. first.stops files told ∙ others.stops files told;
}

module _ (whole next : Protocol) (k : ℕ) (shelf mid shelf' : ShelfView) (out out' err err' : SinkView) (behind : BehindAll shelf.held k whole next)
    (read : HasRead k shelf mid) where
  abbrev before : Outside
  before = record { shelf = shelf; out = out; err = err }

  abbrev between : Outside
  between = record { shelf = mid; out = out; err = err }

  abbrev after : Outside
  after = record { shelf = shelf'; out = out'; err = err' }

  opens_all : (n : ℕ) → shelf'.opens ≡ counted n mid.opens → shelf'.opens ≡ counted (added k n) shelf.opens
  opens_all n further = further ∙ (ap (counted n) read.opens ∙ sym (counted-added k n shelf.opens))

  has_read : (n : ℕ) → HasRead n mid shelf' → HasRead (added k n) shelf shelf'
  has_read n further = record {
    held = further.held ∙ read.held;
    opens = opens_all n further.opens;
    faults = further.faults ∙ read.faults;
  }

  has_opened : (n : ℕ) → HasOpened n mid shelf' → HasOpened (added k n) shelf shelf'
  has_opened n further = record {
    held = further.held ∙ read.held;
    opens = opens_all n further.opens;
    rises = subst (λ faults. faults ≤ shelf'.faults) read.faults further.rises;
  }

  few_all : (n : ℕ) → WhereTold mid.held (λ files. n ≤ readings next files) → WhereTold shelf.held (λ files. added k n ≤ readings whole files)
  few_all n few = λ files is. subst (λ m. added k n ≤ m) (sym (behind.reads files is)) (added-mono k n (readings next files) (few files (read.held ∙ is)))

  refused : (status : Status) → IsRefused next between after status → IsRefused whole before after status
  refused status r = record {
    count = added k r.count;
    answer = r.answer;
    ends_in = behind.ends_in r.count r.answer (subst (λ held. EndsIn held next r.count r.answer) read.held r.ends_in);
    told = r.told;
    refuses = r.refuses;
    empty = r.empty;
    read = has_read r.count r.read;
    nothing = r.nothing;
    line = r.line;
    stops = λ files is stop found. r.stops files (read.held ∙ is) stop (sym (behind.stops files is) ∙ found);
  }

  unread : (status : Status) → IsUnread next between after status → IsUnread whole before after status
  unread status r = record {
    count = added k r.count;
    file = r.file;
    reads_at = behind.reads_at r.count r.file (subst (λ held. ReadsAt held next r.count r.file) read.held r.reads_at);
    told = r.told;
    held = r.held ∙ read.held;
    opens = opens_all r.count r.opens;
    rises = subst (λ n. n ≤ shelf'.faults) read.faults r.rises;
    rose = subst (λ n. Rose n shelf'.faults) read.faults r.rose;
    nothing = r.nothing;
    line = r.line;
  }

  out_of_memory : (status : Status) → IsOutOfMemory next between after status → IsOutOfMemory whole before after status
  out_of_memory status r = record {
    count = added k r.count;
    told = r.told;
    few = few_all r.count r.few;
    read = has_opened r.count r.read;
    nothing = r.nothing;
    no_line = r.no_line;
  }

  cut : (status : Status) → IsCut next between after status → IsCut whole before after status
  cut status r = record {
    count = added k r.count;
    told = r.told;
    few = few_all r.count r.few;
    read = has_read r.count r.read;
    quiet = r.quiet;
    front = λ files is. subst (λ (a : Answer). (front : List ℕ) × IsFront front a.out × (out'.told ≡ appended front out.told)) (sym (behind.answers files is))
        (r.front files (read.held ∙ is));
    no_line = r.no_line;
  }

  written : (status : Status) → IsWritten next between after status → IsWritten whole before after status
  written status r = record {
    count = added k r.count;
    answer = r.answer;
    ends_in = behind.ends_in r.count r.answer (subst (λ held. EndsIn held next r.count r.answer) read.held r.ends_in);
    accepted = r.accepted;
    silent = r.silent;
    read = has_read r.count r.read;
    written = r.written;
    no_line = r.no_line;
  }

  joined : (status : Status) → Runs next between after status → Runs whole before after status
  joined status (inl r) = inl (refused status r)
  joined status (inr (inl r)) = inr (inl (unread status r))
  joined status (inr (inr (inl r))) = inr (inr (inl (out_of_memory status r)))
  joined status (inr (inr (inr r))) = inr (inr (inr (written status r)))

-- A run of what follows behind readings, which left the outputs as they were, is a run of the whole.
pub run_behind_all : (whole next : Protocol) (k : ℕ) (shelf mid shelf' : ShelfView) (out out' err mid_err err' : SinkView) (status : Status) →
    BehindAll shelf.held k whole next
    → HasRead k shelf mid → mid_err ≡ err
    → Runs next (record { shelf = mid; out = out; err = mid_err }) (record { shelf = shelf'; out = out'; err = err' }) status
    → Runs whole (record { shelf = shelf; out = out; err = err }) (record { shelf = shelf'; out = out'; err = err' }) status
run_behind_all whole next k shelf mid shelf' out out' err mid_err err' status behind read quiet further =
    joined whole next k shelf mid shelf' out out' err err' behind read status
    (subst (λ e. Runs next (record { shelf = mid; out = out; err = e }) (record { shelf = shelf'; out = out'; err = err' }) status) quiet further)

-- The same behind one reading.
pub run_behind : (whole next : Protocol) (shelf mid shelf' : ShelfView) (out out' err mid_err err' : SinkView) (status : Status) → Behind shelf.held whole next
    → HasRead 1 shelf mid → mid_err ≡ err
    → Runs next (record { shelf = mid; out = out; err = mid_err }) (record { shelf = shelf'; out = out'; err = err' }) status
    → Runs whole (record { shelf = shelf; out = out; err = err }) (record { shelf = shelf'; out = out'; err = err' }) status
run_behind whole next = run_behind_all whole next 1

-- The same of a job that wants memory while it writes.
pub pieces_behind : (whole next : Protocol) (shelf mid shelf' : ShelfView) (out out' err mid_err err' : SinkView) (status : Status)
    → Behind shelf.held whole next
    → HasRead 1 shelf mid → mid_err ≡ err
    → RunsInPieces next (record { shelf = mid; out = out; err = mid_err }) (record { shelf = shelf'; out = out'; err = err' }) status
    → RunsInPieces whole (record { shelf = shelf; out = out; err = err }) (record { shelf = shelf'; out = out'; err = err' }) status
pieces_behind whole next shelf mid shelf' out out' err mid_err err' status behind read quiet (inl runs) =
    inl (run_behind whole next shelf mid shelf' out out' err mid_err err' status behind read quiet runs)
pieces_behind whole next shelf mid shelf' out out' err mid_err err' status behind read quiet (inr some) =
    inr (cut whole next 1 shelf mid shelf' out out' err err' behind read status
    (subst (λ e. IsCut next (record { shelf = mid; out = out; err = e }) (record { shelf = shelf'; out = out'; err = err' }) status) quiet some))
