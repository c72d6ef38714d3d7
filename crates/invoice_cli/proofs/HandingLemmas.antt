-- How a command ends, in front of the output and behind handing on.
use Rattle.std.proofs.Common.{◌≡◌, ℕ, List, inl, inr, refl, sym, subst}
use Rattle.inv_base.specs.Outside.{ShelfView, SinkView}
use Rattle.job_protocol.specs.declared.status.Status.{Status}
use Rattle.job_protocol.specs.declared.status.Status.TheVariants as statuses
use Rattle.job_protocol.specs.Outside.{Outside, IsAccepted}
use Rattle.job_protocol.specs.Runs.{Runs}
use Rattle.held_output.specs.Origins.{HandedOver}
use Rattle.held_output.proofs.HoldingLemmas.{unchanged}
use Rattle.held_output.proofs.Protocols.{failed_all, front_kept, run_handed, pieces_handed}
use Rattle.trial_run.specs.Trials.{trial_of, trial_text}
use Rattle.invoice_cli.specs.declared.usage.TheConstants.{HELP}
use Rattle.invoice_cli.specs.Job.{Job, outline, show, totals, view, convert, convert_whole, check, validate, extract, query, trial, help, version, bad_word}
use Rattle.invoice_cli.specs.Answer.{version_text, protocol_of}
use Rattle.invoice_cli.specs.Answers.{Says, Tries, Answers}
use Rattle.invoice_cli.specs.Endings.{LeavesOthers, Ends}
use Rattle.invoice_cli.proofs.AnswersLemmas.{answers_said, answers_tried, answers_bad_word, answers_of_run, answers_of_pieces}

module _ (start shown now : SinkView) (status status' : Status) where
  -- a text that was said in front of the output
  says_handed : (text : List ℕ) → HandedOver status status' start shown now → Says status text start shown → Says status' text start now
  says_handed text (inl all) said = rw (all.2, all.1) said
  says_handed text (inr (inl cut)) (inl said) = inr (cut.1, failed_all text start shown now cut.2 said.1)
  says_handed text (inr (inl cut)) (inr said) = absurd (subst IsAccepted said.0 cut.0)
  says_handed text (inr (inr lost)) (inl said) = absurd (lost.0 (subst IsAccepted (sym said.0) tt))
  says_handed text (inr (inr lost)) (inr said) = inr (rw lost.1 said.0, front_kept text start shown now lost.2 said.1)

  tries_handed : (text : List ℕ) → HandedOver status status' start shown now → Tries status text start shown → Tries status' text start now
  tries_handed text handed (inl said) = inl (says_handed text handed said)
  tries_handed text (inl all) (inr spent) = absurd (subst IsAccepted spent.0 all.0)
  tries_handed text (inr (inl cut)) (inr spent) = absurd (subst IsAccepted spent.0 cut.0)
  tries_handed text (inr (inr lost)) (inr spent) = inr (rw lost.1 spent.0, unchanged start shown now lost.2 spent.1)

  -- A refusal of the words is the same behind handing on.
  word_handed : HandedOver status status' start shown now → status ≡ statuses.BadWords → shown ≡ start → (status' ≡ statuses.BadWords) × (now ≡ start)
  word_handed (inl all) is nothing = absurd (subst IsAccepted is all.0)
  word_handed (inr (inl cut)) is nothing = absurd (subst IsAccepted is cut.0)
  word_handed (inr (inr lost)) is nothing = (rw lost.1 is, unchanged start shown now lost.2 nothing)

  module _ (shelf shelf' : ShelfView) (err err' : SinkView) (handed : HandedOver status status' start shown now) where
    abbrev Before : Outside
    Before = record { shelf = shelf; out = start; err = err }

    abbrev Shown : Outside
    Shown = record { shelf = shelf'; out = shown; err = err' }

    abbrev Now : Outside
    Now = record { shelf = shelf'; out = now; err = err' }

    runs : (steps : ℕ) (job : Job) → Runs (protocol_of steps job) Before Shown status → Runs (protocol_of steps job) Before Now status'
    runs steps job = run_handed (protocol_of steps job) shelf shelf' start shown now err err' status status' handed

    others : LeavesOthers Before Shown → LeavesOthers Before Now
    others leaves = record { shelf = leaves.shelf; err = leaves.err }

    -- What holds of a command in front of the output holds behind handing on.
    pub ends_handed : (steps : ℕ) (job : Job) → Ends steps job Before Shown status → Ends steps job Before Now status'
    ends_handed steps (outline file) ends = (ends.0, runs steps (outline file) ends.1)
    ends_handed steps (show format sources file) ends = (tt, runs steps (show format sources file) ends.1)
    ends_handed steps (totals format sources file) ends = (tt, runs steps (totals format sources file) ends.1)
    ends_handed steps (view sources file) ends = (tt, runs steps (view sources file) ends.1)
    ends_handed steps (convert syntax sources file) ends = (tt, runs steps (convert syntax sources file) ends.1)
    ends_handed steps (convert_whole syntax sources file) ends = (tt, runs steps (convert_whole syntax sources file) ends.1)
    ends_handed steps (check format phase rules file) ends = (tt, runs steps (check format phase rules file) ends.1)
    ends_handed steps (validate format sources file) ends = (tt, runs steps (validate format sources file) ends.1)
    ends_handed steps (extract number file) ends = (tt, runs steps (extract number file) ends.1)
    ends_handed steps (query expression file) ends =
        pieces_handed (protocol_of steps (query expression file)) shelf shelf' start shown now err err' status status' handed ends
    ends_handed steps (trial lines) ends = (others ends.0, tries_handed (trial_text (trial_of lines steps)) handed ends.1)
    ends_handed steps help ends = (others ends.0, says_handed HELP.now handed ends.1)
    ends_handed steps version ends = (others ends.0, says_handed version_text handed ends.1)
    ends_handed steps (bad_word number) ends = let told = word_handed handed ends.0 ends.2 in (told.0, ends.1, told.1, ends.3)

-- what is left where neither the shelf nor the error output is touched
still : (P : ShelfView → SinkView → Type 0) (s s' : ShelfView) (e e' : SinkView) → s' ≡ s → e' ≡ e → P s e → P s' e'
still P s s' e e' shelf err p = subst (λ x. P x e') (sym shelf) (subst (P s) (sym err) p)

-- A command that ends so is answered: all of the contract holds.
pub answers_of_ends : (steps : ℕ) (job : Job) (before after : Outside) (status : Status) → Ends steps job before after status →
    Answers steps job before after status
answers_of_ends steps (outline file) before after status ends = answers_of_run steps (outline file) tt before after status (λ name is. ends.0) ends.1
answers_of_ends steps (show format sources file) before after status ends =
    answers_of_run steps (show format sources file) tt before after status (λ name is. cc) ends.1
answers_of_ends steps (totals format sources file) before after status ends = answers_of_run steps (totals format sources file) tt before after status (λ name
    is. cc) ends.1
answers_of_ends steps (view sources file) before after status ends =
    answers_of_run steps (view sources file) tt before after status (λ name is. cc) ends.1
answers_of_ends steps (convert syntax sources file) before after status ends =
    answers_of_run steps (convert syntax sources file) tt before after status (λ name is. cc) ends.1
answers_of_ends steps (convert_whole syntax sources file) before after status ends =
    answers_of_run steps (convert_whole syntax sources file) tt before after status (λ name is. cc) ends.1
answers_of_ends steps (check format phase rules file) before after status ends =
    answers_of_run steps (check format phase rules file) tt before after status (λ name is. cc) ends.1
answers_of_ends steps (validate format sources file) before after status ends =
    answers_of_run steps (validate format sources file) tt before after status (λ name is. cc) ends.1
answers_of_ends steps (extract number file) before after status ends = answers_of_run steps (extract number file) tt before after status (λ name is. cc) ends.1
answers_of_ends steps (query expression file) before after status ends =
    answers_of_pieces steps (query expression file) tt before after tt status (λ name is. cc) ends
answers_of_ends steps (trial lines) before after status ends =
    still (λ s e. Answers steps (trial lines) before (record { shelf = s; out = after.out; err = e }) status) before.shelf after.shelf before.err after.err
    ends.0.shelf ends.0.err
    (answers_tried steps lines status before.shelf before.out after.out before.err ends.1)
answers_of_ends steps help before after status ends =
    still (λ s e. Answers steps help before (record { shelf = s; out = after.out; err = e }) status) before.shelf after.shelf before.err after.err ends.0.shelf
    ends.0.err
    (answers_said steps help HELP.now status before.shelf before.out after.out before.err refl (λ number e. cc) (λ file e. cc) ends.1)
answers_of_ends steps version before after status ends =
    still (λ s e. Answers steps version before (record { shelf = s; out = after.out; err = e }) status) before.shelf after.shelf before.err after.err
    ends.0.shelf ends.0.err
    (answers_said steps version version_text status before.shelf before.out after.out before.err refl (λ number e. cc) (λ file e. cc) ends.1)
answers_of_ends steps (bad_word number) before after status ends =
    subst (λ s. Answers steps (bad_word number) before after s) (sym ends.0)
    (subst (λ s. Answers steps (bad_word number) before (record { shelf = s; out = after.out; err = after.err }) statuses.BadWords) (sym ends.1)
    (subst (λ o. Answers steps (bad_word number) before (record { shelf = before.shelf; out = o; err = after.err }) statuses.BadWords) (sym ends.2)
    (answers_bad_word steps number before.shelf before.out before.err after.err ends.3)))
