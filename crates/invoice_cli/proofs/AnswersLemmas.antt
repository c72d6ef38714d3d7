-- The contract of the program's call, from how its job runs.
use Rattle.std.proofs.Common.{◌≡◌, ◌≢◌, ℕ, ◌<◌, ◌≤◌, List, [], Option, Some, None, true, false, Bool, inl, inr, refl, ap, sym, subst, ◌∙◌, arith, ◌⊎◌}
use Rattle.inv_base.specs.Counts.{Rose, Quiet, next_count}
use Rattle.inv_base.specs.Files.{Files}
use Rattle.inv_base.specs.Outside.{ShelfView, SinkView, WhereTold, appended}
use Rattle.inv_base.specs.Writing.{IsFront, WritesAll, WritesFront}
use Rattle.inv_base.proofs.WritingLemmas.{appended-nil, WritesAll-nil, IsFront-nil, IsFront-whole}
use Rattle.job_protocol.specs.declared.status.Status.{Status}
use Rattle.job_protocol.specs.declared.status.Status.TheVariants as statuses
use Rattle.job_protocol.specs.Protocol.{Answer, Protocol, ends, done, refusal, answer_of, readings}
use Rattle.job_protocol.specs.Lines.{bad_word_line, read_fault_line}
use Rattle.job_protocol.specs.Outside.{Outside, IsRefusal, IsAccepted, IsRefusedAnswer, TakesOrFails, HasRead, counted}
use Rattle.job_protocol.specs.Runs.{EndsIn, at_end, ReadsAt, IsRefused, IsUnread, IsOutOfMemory, IsCut, IsWritten, Runs, RunsInPieces}
use Rattle.job_protocol.proofs.Ends.{ends_as_answered, ends_behind_readings, reads_within}
use Rattle.trial_run.specs.Trials.{trial_of, trial_text}
use Rattle.invoice_cli.specs.Job.{Job, outline, show, totals, view, convert, convert_whole, check, validate, extract, query, trial, help, version, bad_word}
use Rattle.invoice_cli.specs.Answer.{protocol_of, answer_to}
use Rattle.invoice_cli.specs.declared.words.Asked.{Asked}
use Rattle.invoice_cli.specs.declared.words.Command.{Command}
use Rattle.invoice_cli.specs.Commands.{named_files, asked_by, asked}
use Rattle.invoice_cli.specs.Answers.{NamesFiles, WantsMemory, WritesInPieces, IsRefusalLine, IsLineOf, IsGiven, Says, Tries, Answers}

-- A count that rose isn't quiet.
not_quiet : (a b : ℕ) → Rose a b → Quiet a b → ⊥
not_quiet a b (inl rise) quiet = omega (arith, rise, quiet.same)
not_quiet a b (inr last) quiet = omega (arith, last, quiet.counts)

-- A count that stayed didn't rise.
no_rise : (a b : ℕ) → b ≡ a → a < b → ⊥
no_rise a b same rise = omega (arith, same, rise)

-- An error output that stays quiet took the whole line.
whole_line : (line : List ℕ) (a b : SinkView) → TakesOrFails line a b → Quiet a.faults b.faults → b.told ≡ appended line a.told
whole_line line a b (inl all) quiet = all.told
whole_line line a b (inr front) quiet = absurd (not_quiet a.faults b.faults front.rose quiet)

-- what a command asks is the job of the words
pub asked_is : {wanted : Job} (all : Asked) {command : Command} → asked all ≡ wanted → all.command ≡ command → asked_by (named_files all.rules) command ≡ wanted
asked_is all is same = sym (ap (asked_by (named_files all.rules)) same) ∙ is

-- A protocol ends in one way at once.
same_end : (a b : Answer) → ends a ≡ ends b → a ≡ b
same_end a b e = cc

-- Bad words are no refusal of an answer.
word_no_refusal : (number : ℕ) (a : Answer) → ends (refusal statuses.BadWords (bad_word_line number)) ≡ ends a → IsRefusedAnswer a.status → ⊥
word_no_refusal number a e refuses = subst (λ (x : Answer). IsRefusedAnswer x.status)
    (sym (same_end (refusal statuses.BadWords (bad_word_line number)) a e)) refuses

-- words that name no job
pub answers_bad_word : (steps number : ℕ) (shelf : ShelfView) (out err err' : SinkView) → TakesOrFails (bad_word_line number) err err'
    → Answers steps (bad_word number) (record { shelf = shelf; out = out; err = err }) (record { shelf = shelf; out = out; err = err' }) statuses.BadWords
answers_bad_word steps number shelf out err err' takes = record {
  answered = λ _ _ files is _. refl;
  output = λ _ _ files is _. sym (appended-nil out.told);
  errors = λ _ quiet _ files is _. whole_line (bad_word_line number) err err' takes quiet;
  written = λ good. absurd good;
  at_once = λ a is refuses. absurd (word_no_refusal number a is refuses);
  bad_words = λ _. (number, refl);
  only_bad_words = λ _ _. refl;
  memory = λ e. cc;
  spent = λ e. cc;
  read_fault = λ e. cc;
  write_fault = λ e. cc;
  write_done = λ e files is. cc;
  shelf_rose = λ rise. absurd (no_rise shelf.faults shelf.faults refl rise);
  out_rose = λ rise. absurd (no_rise out.faults out.faults refl rise);
  nothing = λ _. refl;
  line = λ _. (bad_word_line number, (number, refl, refl), takes);
  no_line = λ no. absurd (no tt);
  front = λ no files is. absurd (no tt);
  stops = λ refused. absurd refused;
  opens = (0, refl, λ files is. omega arith);
  all_opened = λ _ _ files is. refl;
  outline_opens = λ file e. cc;
  given = λ _ files. inl (refl, WritesAll-nil out, takes);
  untouched = λ _. refl;
  held = refl;
}

-- a text that is the answer whatever is held
pub answers_said : (steps : ℕ) (job : Job) (text : List ℕ) (status : Status) (shelf : ShelfView) (out out' err : SinkView)
    → protocol_of steps job ≡ ends (done text)
    → ((number : ℕ) → job ≡ bad_word number → ⊥) → ((file : List ℕ) → job ≡ outline file → ⊥) → Says status text out out'
    → Answers steps job (record { shelf = shelf; out = out; err = err }) (record { shelf = shelf; out = out'; err = err }) status
answers_said steps job text status shelf out out' err is_end good no_document (inl said) =
    let all = said.1 in
    let is_text : (files : Files) → answer_to steps job files ≡ done text = λ files. ap (λ protocol. answer_of protocol files) is_end in
    let unread : (files : Files) → readings (protocol_of steps job) files ≡ 0 = λ files. ap (λ protocol. readings protocol files) is_end in
    let before : Outside = record { shelf = shelf; out = out; err = err } in
    let after : Outside = record { shelf = shelf; out = out'; err = err } in
    rw said.0 (record {
      answered = λ _ _ files is _. sym (ap (λ (a : Answer). a.status) (is_text files));
      output = λ _ _ files is _. all.told ∙ ap (λ (a : Answer). appended a.out out.told) (sym (is_text files));
      errors = λ _ _ _ files is _. sym (appended-nil err.told) ∙ ap (λ (a : Answer). appended a.err err.told) (sym (is_text files));
      written = λ _. record {
        count = 0;
        answer = done text;
        ends_in = subst (λ protocol. EndsIn shelf.held protocol 0 (done text)) (sym is_end) at_end;
        status_is =
            refl;
        all = all;
      };
      at_once = λ a is refuses. absurd (subst (λ (x : Answer). IsRefusedAnswer x.status) (sym (same_end (done text) a (sym is_end ∙ is))) refuses);
      bad_words = λ e. cc;
      only_bad_words = λ number e. absurd (good number e);
      memory = λ e. cc;
      spent = λ e. cc;
      read_fault = λ e. cc;
      write_fault = λ e. cc;
      write_done = λ e files is. cc;
      shelf_rose = λ rise. absurd (no_rise shelf.faults shelf.faults refl rise);
      out_rose = λ rise. absurd (no_rise out.faults out'.faults all.faults rise);
      nothing = λ refusal. absurd refusal;
      line = λ refusal. absurd refusal;
      no_line = λ _. refl;
      front = λ _ files is. (text, subst (λ (a : Answer). IsFront text a.out) (sym (is_text files)) (IsFront-whole text), all.told);
      stops = λ refused. absurd refused;
      opens = (0, refl, λ files is. omega arith);
      all_opened = λ _ _ files is. ap (λ n. counted n shelf.opens) (sym (unread files));
      outline_opens = λ file e. absurd (no_document file e);
      given = λ _ files. subst (λ (a : Answer). IsGiven a before after statuses.Done) (sym (is_text files)) (inl (refl, all, inl (WritesAll-nil err)));
      untouched = λ _. refl;
      held = refl;
    })
answers_said steps job text status shelf out out' err is_end good no_document (inr said) =
    let front = said.1 in
    let is_text : (files : Files) → answer_to steps job files ≡ done text = λ files. ap (λ protocol. answer_of protocol files) is_end in
    let unread : (files : Files) → readings (protocol_of steps job) files ≡ 0 = λ files. ap (λ protocol. readings protocol files) is_end in
    let good_text : (files : Files) → IsAccepted (answer_to steps job files).status =
    λ files. subst (λ (a : Answer). IsAccepted a.status) (sym (is_text files)) tt in
    let before : Outside = record { shelf = shelf; out = out; err = err } in
    let after : Outside = record { shelf = shelf; out = out'; err = err } in
    rw said.0 (record {
      answered = λ _ _ files is quiet. absurd (not_quiet out.faults out'.faults front.rose (quiet (good_text files)));
      output = λ _ _ files is quiet. absurd (not_quiet out.faults out'.faults front.rose (quiet (good_text files)));
      errors = λ _ _ _ files is quiet. absurd (not_quiet out.faults out'.faults front.rose (quiet (good_text files)));
      written = λ good. absurd good;
      at_once = λ a is refuses. absurd (subst (λ (x : Answer). IsRefusedAnswer x.status) (sym (same_end (done text) a (sym is_end ∙ is))) refuses);
      bad_words = λ e. cc;
      only_bad_words = λ number e. absurd (good number e);
      memory = λ e. cc;
      spent = λ e. cc;
      read_fault = λ e. cc;
      write_fault = λ _. front.rose;
      write_done = λ _ files is. subst (λ (a : Answer). IsAccepted a.status) (sym (is_text files)) tt;
      shelf_rose = λ rise. absurd (no_rise shelf.faults shelf.faults refl rise);
      out_rose = λ _. refl;
      nothing = λ refusal. absurd refusal;
      line = λ refusal. absurd refusal;
      no_line = λ _. refl;
      front = λ _ files is. (front.front, subst (λ (a : Answer). IsFront front.front a.out) (sym (is_text files)) front.is_front, front.told);
      stops = λ refused. absurd refused;
      opens = (0, refl, λ files is. omega arith);
      all_opened = λ _ _ files is. ap (λ n. counted n shelf.opens) (sym (unread files));
      outline_opens = λ file e. absurd (no_document file e);
      given = λ _ files. subst (λ (a : Answer). IsGiven a before after statuses.WriteFault) (sym (is_text files)) (inr (inl (refl, front, refl)));
      untouched = λ _. refl;
      held = refl;
    })

-- memory that ran out before anything was read or written
pub answers_spent : (steps : ℕ) (job : Job) (status : Status) (shelf : ShelfView) (out out' err : SinkView) → WantsMemory job
    → ((files : Files) → readings (protocol_of steps job) files ≡ 0)
    → ((number : ℕ) → job ≡ bad_word number → ⊥) → ((file : List ℕ) → job ≡ outline file → ⊥) → (status ≡ statuses.Memory) × (out' ≡ out)
    → Answers steps job (record { shelf = shelf; out = out; err = err }) (record { shelf = shelf; out = out'; err = err }) status
answers_spent steps job status shelf out out' err wants unread good no_document spent =
    rw (spent.0, spent.1) (record {
      answered = λ _ no files is _. absurd (no refl);
      output = λ _ no files is _. absurd (no refl);
      errors = λ _ _ no files is _. absurd (no refl);
      written = λ good. absurd good;
      at_once = λ a is refuses no. absurd (no refl);
      bad_words = λ e. cc;
      only_bad_words = λ number e. absurd (good number e);
      memory = λ _. wants;
      spent = λ _ _. refl;
      read_fault = λ e. cc;
      write_fault = λ e. cc;
      write_done = λ e files is. cc;
      shelf_rose = λ rise. absurd (no_rise shelf.faults shelf.faults refl rise);
      out_rose = λ rise. absurd (no_rise out.faults out.faults refl rise);
      nothing = λ refusal. absurd refusal;
      line = λ refusal. absurd refusal;
      no_line = λ _. refl;
      front = λ _ files is. ([], IsFront-nil (answer_to steps job files).out, sym (appended-nil out.told));
      stops = λ refused. absurd refused;
      opens = (0, refl, λ files is. omega arith);
      all_opened = λ _ no files is. absurd (no refl);
      outline_opens = λ file e. absurd (no_document file e);
      given = λ _ files. inr (inr (refl, refl, refl));
      untouched = λ _. refl;
      held = refl;
    })

-- a trial
pub answers_tried : (steps lines : ℕ) (status : Status) (shelf : ShelfView) (out out' err : SinkView) →
    Tries status (trial_text (trial_of lines steps)) out out'
    → Answers steps (trial lines) (record { shelf = shelf; out = out; err = err }) (record { shelf = shelf; out = out'; err = err }) status
answers_tried steps lines status shelf out out' err (inl said) =
    answers_said steps (trial lines) (trial_text (trial_of lines steps)) status shelf out out' err refl (λ number e. cc) (λ file e. cc) said
answers_tried steps lines status shelf out out' err (inr spent) =
    answers_spent steps (trial lines) status shelf out out' err tt (λ files. refl) (λ number e. cc) (λ file e. cc) spent

-- ---- jobs that name files

refusal_of : (status : Status) → IsRefusedAnswer status → IsRefusal status
refusal_of statuses.DocumentRefused refuses = tt
refusal_of statuses.RulesRefused refuses = tt
refusal_of statuses.Unable refuses = tt
refusal_of statuses.Done refuses = absurd refuses
refusal_of statuses.Findings refuses = absurd refuses
refusal_of statuses.BadWords refuses = absurd refuses
refusal_of statuses.ReadFault refuses = absurd refuses
refusal_of statuses.WriteFault refuses = absurd refuses
refusal_of statuses.Memory refuses = absurd refuses

refusal_line : (steps : ℕ) (job : Job) (status : Status) (before after : Outside) (line : List ℕ) → IsRefusedAnswer status
    → IsRefusalLine steps job status before.shelf.held line → IsLineOf steps job status before after line
refusal_line steps job statuses.DocumentRefused before after line refuses is = is
refusal_line steps job statuses.RulesRefused before after line refuses is = is
refusal_line steps job statuses.Unable before after line refuses is = is
refusal_line steps job statuses.Done before after line refuses is = absurd refuses
refusal_line steps job statuses.Findings before after line refuses is = absurd refuses
refusal_line steps job statuses.BadWords before after line refuses is = absurd refuses
refusal_line steps job statuses.ReadFault before after line refuses is = absurd refuses
refusal_line steps job statuses.WriteFault before after line refuses is = absurd refuses
refusal_line steps job statuses.Memory before after line refuses is = absurd refuses

refused_not_accepted : (status : Status) → IsRefusedAnswer status → IsAccepted status → ⊥
refused_not_accepted statuses.DocumentRefused refuses good = good
refused_not_accepted statuses.RulesRefused refuses good = good
refused_not_accepted statuses.Unable refuses good = good
refused_not_accepted statuses.Done refuses good = refuses
refused_not_accepted statuses.Findings refuses good = refuses
refused_not_accepted statuses.BadWords refuses good = good
refused_not_accepted statuses.ReadFault refuses good = good
refused_not_accepted statuses.WriteFault refuses good = good
refused_not_accepted statuses.Memory refuses good = good

-- A protocol that is an end ends with that answer, and reads nothing.
end_is : (held : Option Files) (a b : Answer) (n : ℕ) → EndsIn held (ends a) n b → (n ≡ 0) × (b ≡ a)
end_is held a b n at_end = (refl, refl)

ended_at_once : (held : Option Files) (protocol : Protocol) (a : Answer) (n : ℕ) (b : Answer) → protocol ≡ ends a → EndsIn held protocol n b → (n ≡ 0) × (b ≡ a)
ended_at_once held protocol a n b is ended = end_is held a b n (subst (λ c. EndsIn held c n b) is ended)

end_reads : (held : Option Files) (a : Answer) (n : ℕ) (file : List ℕ) → ReadsAt held (ends a) n file → ⊥
end_reads held a n file reads = elim reads [ ]

none_read : (held : Option Files) (protocol : Protocol) (a : Answer) (n : ℕ) (file : List ℕ) → protocol ≡ ends a → ReadsAt held protocol n file → ⊥
none_read held protocol a n file is reads = end_reads held a n file (subst (λ c. ReadsAt held c n file) is reads)

-- Files want memory.
files_want : (job : Job) → NamesFiles job → WantsMemory job
files_want (outline file) names = names
files_want (show format sources file) names = names
files_want (totals format sources file) names = names
files_want (view sources file) names = names
files_want (convert syntax sources file) names = names
files_want (convert_whole syntax sources file) names = names
files_want (check format phase rules file) names = names
files_want (validate format sources file) names = names
files_want (extract number file) names = names
files_want (query expression file) names = names
files_want (trial lines) names = absurd names
files_want help names = names
files_want version names = names
files_want (bad_word number) names = names

module _ (steps : ℕ) (job : Job) (names : NamesFiles job) (before after : Outside) where
  named : (number : ℕ) → job ≡ bad_word number → ⊥
  named number is = subst NamesFiles is names

  told_end : (files : Files) (n : ℕ) (a : Answer) → before.shelf.held ≡ Some files → EndsIn before.shelf.held (protocol_of steps job) n a →
      EndsIn (Some files) (protocol_of steps job) n a
  told_end files n a is fits = subst (λ held. EndsIn held (protocol_of steps job) n a) is fits

  answer_is : (files : Files) (n : ℕ) (a : Answer) → before.shelf.held ≡ Some files → EndsIn before.shelf.held (protocol_of steps job) n a →
      a ≡ answer_to steps job files
  answer_is files n a is fits = ends_as_answered files (protocol_of steps job) n a (told_end files n a is fits)

  counts : (files : Files) (n : ℕ) (a : Answer) → before.shelf.held ≡ Some files → EndsIn before.shelf.held (protocol_of steps job) n a →
      n ≡ readings (protocol_of steps job) files
  counts files n a is fits = ends_behind_readings files (protocol_of steps job) n a (told_end files n a is fits)

  refused : (status : Status) → ((file : List ℕ) → job ≡ outline file → after.shelf.opens ≡ next_count before.shelf.opens) →
      IsRefused (protocol_of steps job) before after status
      → Answers steps job before after status
  refused status one r = record {
    answered = λ _ _ files is _. sym r.told ∙ ap (λ (a : Answer). a.status) (answer_is files r.count r.answer is r.ends_in);
    output = λ _ _ files is _. ap (λ (s : SinkView). s.told) r.nothing ∙ (sym (appended-nil before.out.told)
        ∙ ap (λ text. appended text before.out.told) (sym r.empty ∙ ap (λ (a : Answer). a.out) (answer_is files r.count r.answer is r.ends_in)));
    errors = λ _ quiet _ files is _. whole_line r.answer.err before.err after.err r.line quiet
        ∙ ap (λ (a : Answer). appended a.err before.err.told) (answer_is files r.count r.answer is r.ends_in);
    written = λ good. absurd (refused_not_accepted status r.refuses good);
    at_once = λ a is refuses _.
        let end = ended_at_once before.shelf.held (protocol_of steps job) a r.count r.answer is r.ends_in in
        record {
          status_is = sym r.told ∙ ap (λ (x : Answer). x.status) end.1;
          read = subst (λ n. HasRead n before.shelf after.shelf) end.0 r.read;
          nothing = r.nothing;
          line = subst (λ (x : Answer). TakesOrFails x.err before.err after.err) end.1 r.line;
        };
    bad_words = λ e. absurd (subst IsRefusedAnswer e r.refuses);
    only_bad_words = λ number e. absurd (named number e);
    memory = λ e. files_want job names;
    spent = λ e. absurd (subst IsRefusedAnswer e r.refuses);
    read_fault = λ e. absurd (subst IsRefusedAnswer e r.refuses);
    write_fault = λ e. absurd (subst IsRefusedAnswer e r.refuses);
    write_done = λ e files is. absurd (subst IsRefusedAnswer e r.refuses);
    shelf_rose = λ rise. absurd (no_rise before.shelf.faults after.shelf.faults r.read.faults rise);
    out_rose = λ rise. absurd (no_rise before.out.faults after.out.faults (ap (λ (s : SinkView). s.faults) r.nothing) rise);
    nothing = λ _. r.nothing;
    line = λ _. (
      r.answer.err,
      refusal_line steps job status before after r.answer.err r.refuses
          (record { count = r.count; answer = r.answer; ends_in = r.ends_in; status_is = r.told; line_is = refl }),
      r.line,
    );
    no_line = λ no. absurd (no (refusal_of status r.refuses));
    front = λ no files is. absurd (no (refusal_of status r.refuses));
    stops = λ _. r.stops;
    opens = (r.count, r.read.opens, λ files is. subst (λ n. r.count ≤ n) (counts files r.count r.answer is r.ends_in) (omega arith));
    all_opened = λ _ _ files is. r.read.opens ∙ ap (λ n. counted n before.shelf.opens) (counts files r.count r.answer is r.ends_in);
    outline_opens = one;
    given = λ no. absurd (no names);
    untouched = λ no. absurd (no names);
    held = r.read.held;
  }

  unread : (status : Status) → ((file : List ℕ) → job ≡ outline file → after.shelf.opens ≡ next_count before.shelf.opens) →
      IsUnread (protocol_of steps job) before after status
      → Answers steps job before after status
  unread status one r = rw r.told (record {
    answered = λ quiet _ files is _. absurd (not_quiet before.shelf.faults after.shelf.faults r.rose quiet);
    output = λ quiet _ files is _. absurd (not_quiet before.shelf.faults after.shelf.faults r.rose quiet);
    errors = λ quiet _ _ files is _. absurd (not_quiet before.shelf.faults after.shelf.faults r.rose quiet);
    written = λ good. absurd good;
    at_once = λ a is refuses _. absurd (none_read before.shelf.held (protocol_of steps job) a r.count r.file is r.reads_at);
    bad_words = λ e. cc;
    only_bad_words = λ number e. absurd (named number e);
    memory = λ e. files_want job names;
    spent = λ e. cc;
    read_fault = λ _. r.rose;
    write_fault = λ e. cc;
    write_done = λ e files is. cc;
    shelf_rose = λ _. inl refl;
    out_rose = λ rise. absurd (no_rise before.out.faults after.out.faults (ap (λ (s : SinkView). s.faults) r.nothing) rise);
    nothing = λ _. r.nothing;
    line = λ _. (read_fault_line r.file, record { count = r.count; file = r.file; reads_at = r.reads_at; opened = r.opens; line_is = refl }, r.line);
    no_line = λ no. absurd (no tt);
    front = λ no files is. absurd (no tt);
    stops = λ refused. absurd refused;
    opens = (
      r.count,
      r.opens,
      λ files is. reads_within files (protocol_of steps job) r.count r.file
          (subst (λ held. ReadsAt held (protocol_of steps job) r.count r.file) is r.reads_at),
    );
    all_opened = λ quiet _ files is. absurd (not_quiet before.shelf.faults after.shelf.faults r.rose quiet);
    outline_opens = one;
    given = λ no. absurd (no names);
    untouched = λ no. absurd (no names);
    held = r.held;
  })

  out_of_memory : (status : Status) → ((file : List ℕ) → job ≡ outline file → after.shelf.opens ≡ next_count before.shelf.opens)
      → IsOutOfMemory (protocol_of steps job) before after status → Answers steps job before after status
  out_of_memory status one r = rw r.told (record {
    answered = λ _ no files is _. absurd (no refl);
    output = λ _ no files is _. absurd (no refl);
    errors = λ _ _ no files is _. absurd (no refl);
    written = λ good. absurd good;
    at_once = λ a is refuses no. absurd (no refl);
    bad_words = λ e. cc;
    only_bad_words = λ number e. absurd (named number e);
    memory = λ e. files_want job names;
    spent = λ _ _. r.nothing;
    read_fault = λ e. cc;
    write_fault = λ e. cc;
    write_done = λ e files is. cc;
    shelf_rose = λ _. inr refl;
    out_rose = λ rise. absurd (no_rise before.out.faults after.out.faults (ap (λ (s : SinkView). s.faults) r.nothing) rise);
    nothing = λ refusal. absurd refusal;
    line = λ refusal. absurd refusal;
    no_line = λ _. r.no_line;
    front = λ _ files is. ([], IsFront-nil (answer_to steps job files).out, ap (λ (s : SinkView). s.told) r.nothing ∙ sym (appended-nil before.out.told));
    stops = λ refused. absurd refused;
    opens = (r.count, r.read.opens, r.few);
    all_opened = λ _ no files is. absurd (no refl);
    outline_opens = one;
    given = λ no. absurd (no names);
    untouched = λ no. absurd (no names);
    held = r.read.held;
  })

  cut_short : (status : Status) → WritesInPieces job → ((file : List ℕ) → job ≡ outline file → after.shelf.opens ≡ next_count before.shelf.opens)
      → IsCut (protocol_of steps job) before after status → Answers steps job before after status
  cut_short status pieces one r = rw r.told (record {
    answered = λ _ no files is _. absurd (no refl);
    output = λ _ no files is _. absurd (no refl);
    errors = λ _ _ no files is _. absurd (no refl);
    written = λ good. absurd good;
    at_once = λ a is refuses no. absurd (no refl);
    bad_words = λ e. cc;
    only_bad_words = λ number e. absurd (named number e);
    memory = λ e. files_want job names;
    spent = λ _ whole. absurd (whole pieces);
    read_fault = λ e. cc;
    write_fault = λ e. cc;
    write_done = λ e files is. cc;
    shelf_rose = λ rise. absurd (no_rise before.shelf.faults after.shelf.faults r.read.faults rise);
    out_rose = λ rise. absurd (no_rise before.out.faults after.out.faults r.quiet rise);
    nothing = λ refusal. absurd refusal;
    line = λ refusal. absurd refusal;
    no_line = λ _. r.no_line;
    front = λ _. r.front;
    stops = λ refused. absurd refused;
    opens = (r.count, r.read.opens, r.few);
    all_opened = λ _ no files is. absurd (no refl);
    outline_opens = one;
    given = λ no. absurd (no names);
    untouched = λ no. absurd (no names);
    held = r.read.held;
  })

  accepted_is : (status : Status) → IsAccepted status → (IsRefusal status → ⊥) × (status ≢ statuses.BadWords) × (status ≢ statuses.Memory) ×
      (status ≢ statuses.ReadFault) × (status ≢ statuses.WriteFault)
      × (IsRefusedAnswer status → ⊥)
  accepted_is statuses.Done good = (λ r. r, (λ e. cc), (λ e. cc), (λ e. cc), (λ e. cc), (λ r. r))
  accepted_is statuses.Findings good = (λ r. r, (λ e. cc), (λ e. cc), (λ e. cc), (λ e. cc), (λ r. r))
  accepted_is statuses.DocumentRefused good = absurd good
  accepted_is statuses.RulesRefused good = absurd good
  accepted_is statuses.Unable good = absurd good
  accepted_is statuses.BadWords good = absurd good
  accepted_is statuses.ReadFault good = absurd good
  accepted_is statuses.WriteFault good = absurd good
  accepted_is statuses.Memory good = absurd good

  module _ (one : (file : List ℕ) → job ≡ outline file → after.shelf.opens ≡ next_count before.shelf.opens) (status : Status)
      (r : IsWritten (protocol_of steps job) before after status) where
    answer_here : (files : Files) → before.shelf.held ≡ Some files → r.answer ≡ answer_to steps job files
    answer_here files is = answer_is files r.count r.answer is r.ends_in

    accepted_here : (files : Files) → before.shelf.held ≡ Some files → IsAccepted (answer_to steps job files).status
    accepted_here files is = subst (λ (a : Answer). IsAccepted a.status) (answer_here files is) r.accepted

    whole : (status ≡ r.answer.status) × WritesAll r.answer.out before.out after.out → Answers steps job before after status
    whole done =
        let good = subst IsAccepted (sym done.0) r.accepted in
        let other = accepted_is status good in
        let all = done.1 in
        record {
          answered = λ _ _ files is _. done.0 ∙ ap (λ (a : Answer). a.status) (answer_here files is);
          output = λ _ _ files is _. all.told ∙ ap (λ (a : Answer). appended a.out before.out.told) (answer_here files is);
          errors = λ _ _ _ files is _. ap (λ (s : SinkView). s.told) r.no_line ∙ (sym (appended-nil before.err.told)
              ∙ ap (λ text. appended text before.err.told) (sym r.silent ∙ ap (λ (a : Answer). a.err) (answer_here files is)));
          written = λ _. record { count = r.count; answer = r.answer; ends_in = r.ends_in; status_is = done.0; all = all };
          at_once = λ a is refuses _.
              let end = ended_at_once before.shelf.held (protocol_of steps job) a r.count r.answer is r.ends_in in
              absurd (refused_not_accepted a.status refuses (subst (λ (x : Answer). IsAccepted x.status) end.1 r.accepted));
          bad_words = λ e. absurd (other.1 e);
          only_bad_words = λ number e. absurd (named number e);
          memory = λ e. files_want job names;
          spent = λ e. absurd (other.2 e);
          read_fault = λ e. absurd (other.3 e);
          write_fault = λ e. absurd (other.4 e);
          write_done = λ e files is. absurd (other.4 e);
          shelf_rose = λ rise. absurd (no_rise before.shelf.faults after.shelf.faults r.read.faults rise);
          out_rose = λ rise. absurd (no_rise before.out.faults after.out.faults all.faults rise);
          nothing = λ refusal. absurd (other.0 refusal);
          line = λ refusal. absurd (other.0 refusal);
          no_line = λ _. r.no_line;
          front = λ _ files is. (
            r.answer.out,
            subst (λ (a : Answer). IsFront r.answer.out a.out) (answer_here files is) (IsFront-whole r.answer.out),
            all.told,
          );
          stops = λ refused. absurd (other.5 refused);
          opens = (r.count, r.read.opens, λ files is. subst (λ n. r.count ≤ n) (counts files r.count r.answer is r.ends_in) (omega arith));
          all_opened = λ _ _ files is. r.read.opens ∙ ap (λ n. counted n before.shelf.opens) (counts files r.count r.answer is r.ends_in);
          outline_opens = one;
          given = λ no. absurd (no names);
          untouched = λ no. absurd (no names);
          held = r.read.held;
        }

    cut : (status ≡ statuses.WriteFault) × WritesFront r.answer.out before.out after.out → Answers steps job before after status
    cut done =
        let front = done.1 in
        rw done.0 (record {
          answered = λ _ _ files is quiet. absurd (not_quiet before.out.faults after.out.faults front.rose (quiet (accepted_here files is)));
          output = λ _ _ files is quiet. absurd (not_quiet before.out.faults after.out.faults front.rose (quiet (accepted_here files is)));
          errors = λ _ _ _ files is quiet. absurd (not_quiet before.out.faults after.out.faults front.rose (quiet (accepted_here files is)));
          written = λ good. absurd good;
          at_once = λ a is refuses _.
              let end = ended_at_once before.shelf.held (protocol_of steps job) a r.count r.answer is r.ends_in in
              absurd (refused_not_accepted a.status refuses (subst (λ (x : Answer). IsAccepted x.status) end.1 r.accepted));
          bad_words = λ e. cc;
          only_bad_words = λ number e. absurd (named number e);
          memory = λ e. files_want job names;
          spent = λ e. cc;
          read_fault = λ e. cc;
          write_fault = λ _. front.rose;
          write_done = λ _ files is. subst (λ (a : Answer). IsAccepted a.status) (answer_here files is) r.accepted;
          shelf_rose = λ rise. absurd (no_rise before.shelf.faults after.shelf.faults r.read.faults rise);
          out_rose = λ _. refl;
          nothing = λ refusal. absurd refusal;
          line = λ refusal. absurd refusal;
          no_line = λ _. r.no_line;
          front = λ _ files is. (front.front, subst (λ (a : Answer). IsFront front.front a.out) (answer_here files is) front.is_front, front.told);
          stops = λ refused. absurd refused;
          opens = (r.count, r.read.opens, λ files is. subst (λ n. r.count ≤ n) (counts files r.count r.answer is r.ends_in) (omega arith));
          all_opened = λ _ _ files is. r.read.opens ∙ ap (λ n. counted n before.shelf.opens) (counts files r.count r.answer is r.ends_in);
          outline_opens = one;
          given = λ no. absurd (no names);
          untouched = λ no. absurd (no names);
          held = r.read.held;
        })

    written : (((status ≡ r.answer.status) × WritesAll r.answer.out before.out after.out) ⊎
        ((status ≡ statuses.WriteFault) × WritesFront r.answer.out before.out after.out))
        → Answers steps job before after status
    written (inl done) = whole done
    written (inr done) = cut done

  -- A job that names files runs by its protocol: then all of the contract holds.
  pub answers_of_run : (status : Status) → ((file : List ℕ) → job ≡ outline file → after.shelf.opens ≡ next_count before.shelf.opens)
      → Runs (protocol_of steps job) before after status → Answers steps job before after status
  answers_of_run status one (inl r) = refused status one r
  answers_of_run status one (inr (inl r)) = unread status one r
  answers_of_run status one (inr (inr (inl r))) = out_of_memory status one r
  answers_of_run status one (inr (inr (inr r))) = written one status r r.written

  -- The same of a job that wants memory while it writes.
  pub answers_of_pieces : WritesInPieces job → (status : Status) → ((file : List ℕ) → job ≡ outline file → after.shelf.opens ≡ next_count before.shelf.opens)
      → RunsInPieces (protocol_of steps job) before after status → Answers steps job before after status
  answers_of_pieces pieces status one (inl runs) = answers_of_run status one runs
  answers_of_pieces pieces status one (inr some) = cut_short status pieces one some
