-- How a run ends where nothing more is read, and what is known of a protocol where the files are told.
use Rattle.std.proofs.Common.{◌≡◌, ℕ, ◌≤◌, suc, List, [], Some, inl, inr, refl, ap, sym, subst, ◌∙◌, arith, option_map, ◌⊎◌}
use Rattle.inv_base.specs.Files.{Files, bytes_under}
use Rattle.inv_base.specs.Outside.{ShelfView, SinkView}
use Rattle.inv_base.specs.Writing.{WritesAll, WritesFront}
use Rattle.code_lists.specs.CodeFiles.{Lists, file_lists}
use Rattle.node_arena.specs.Document.{Document}
use Rattle.xml_profile.specs.Profile.{document}
use Rattle.xml_profile.specs.Profile as profile
use Rattle.xml_document.specs.Loading.{IsLoaded}
use Rattle.job_protocol.specs.declared.status.Status.{Status}
use Rattle.job_protocol.specs.declared.status.Status.TheVariants as statuses
use Rattle.job_protocol.specs.Protocol.{Answer, Protocol, ends, loads, takes, refusal, by_result, by_test, by_lists, is_within, document_limits, list_limit}
use Rattle.job_protocol.specs.Protocol.{document_protocol, told_protocol, lists_protocol, answer_of, readings}
use Rattle.job_protocol.specs.Lines.{document_line, too_long_line}
use Rattle.job_protocol.specs.Outside.{HasRead, IsAccepted}
use Rattle.job_protocol.specs.Runs.{AreListed, EndsIn, at_end, refused_at, loaded, too_long_at, taken, ReadsAt, a_load, a_taking, behind_load, behind_taking}
use Rattle.job_protocol.specs.Runs.{Runs, RunsInPieces}
use Rattle.job_protocol.proofs.Joins.{Behind, behind_a_load, behind_a_taking, run_behind, pieces_behind}

-- An answer that is written, or a front of it.
pub written_here : (accepted status : Status) (text : List ℕ) (shelf : ShelfView) (out out' err : SinkView) → IsAccepted accepted
    → ((status ≡ accepted) × WritesAll text out out') ⊎ ((status ≡ statuses.WriteFault) × WritesFront text out out')
    → Runs (ends (record { status = accepted; out = text; err = [] })) (record { shelf = shelf; out = out; err = err })
    (record { shelf = shelf; out = out'; err = err }) status
written_here accepted status text shelf out out' err good written = inr (inr (inr (record {
  count = 0;
  answer = record { status = accepted; out = text; err = [] };
  ends_in = at_end;
  accepted = good;
  silent = refl;
  read = record { held = refl; opens = refl; faults = refl };
  written = written;
  no_line = refl;
})))

-- Memory ran out before anything was read or written.
pub memory_here : (protocol : Protocol) (shelf : ShelfView) (out err : SinkView)
    → Runs protocol (record { shelf = shelf; out = out; err = err }) (record { shelf = shelf; out = out; err = err }) statuses.Memory
memory_here protocol shelf out err = inr (inr (inl (record {
  count = 0;
  told = refl;
  few = λ files is. omega arith;
  read = record { held = refl; opens = refl; rises = omega arith };
  nothing = refl;
  no_line = refl;
})))

module _ (name : List ℕ) (shelf mid shelf' : ShelfView) (out out' err mid_err err' : SinkView) (status : Status) (read : HasRead 1 shelf mid)
    (quiet : mid_err ≡ err) where
  -- a document that was loaded
  module _ (next : List ℕ → profile.Document → Protocol) (doc : Document) (found : IsLoaded document_limits (option_map (bytes_under name) shelf.held) doc)
    where
      behind_it : Behind shelf.held (told_protocol name next) (next found.content found.found)
      behind_it = behind_a_load shelf.held document_limits name (λ fault. refusal statuses.DocumentRefused (document_line name fault)) next
          found.content found.found (λ files is. found.whole (bytes_under name files) (ap (option_map (bytes_under name)) is)) found.is

      -- what follows behind it, by the bytes of its file too
      pub behind_told : Runs (next found.content found.found) (record { shelf = mid; out = out; err = mid_err })
          (record { shelf = shelf'; out = out'; err = err' }) status
          → Runs (told_protocol name next) (record { shelf = shelf; out = out; err = err }) (record { shelf = shelf'; out = out'; err = err' }) status
      behind_told further =
          run_behind (told_protocol name next) (next found.content found.found) shelf mid shelf' out out' err mid_err err' status behind_it read quiet further

      -- the same of a job that wants memory while it writes
      pub pieces_behind_told : RunsInPieces (next found.content found.found) (record { shelf = mid; out = out; err = mid_err })
          (record { shelf = shelf'; out = out'; err = err' }) status
          → RunsInPieces (told_protocol name next) (record { shelf = shelf; out = out; err = err }) (record { shelf = shelf'; out = out'; err = err' }) status
      pieces_behind_told further =
          pieces_behind (told_protocol name next) (next found.content found.found) shelf mid shelf' out out' err mid_err err' status behind_it read quiet
          further

  -- what follows behind a document
  pub behind_document : (next : profile.Document → Protocol) (doc : Document) (found : IsLoaded document_limits (option_map (bytes_under name) shelf.held) doc)
      → Runs (next found.found) (record { shelf = mid; out = out; err = mid_err }) (record { shelf = shelf'; out = out'; err = err' }) status
      → Runs (document_protocol name next) (record { shelf = shelf; out = out; err = err }) (record { shelf = shelf'; out = out'; err = err' }) status
  behind_document next doc found further = behind_told (λ bytes f. next f) doc found further

  -- the same of a job that wants memory while it writes
  pub pieces_behind_document : (next : profile.Document → Protocol) (doc : Document)
      (found : IsLoaded document_limits (option_map (bytes_under name) shelf.held) doc)
      → RunsInPieces (next found.found) (record { shelf = mid; out = out; err = mid_err }) (record { shelf = shelf'; out = out'; err = err' }) status
      → RunsInPieces (document_protocol name next) (record { shelf = shelf; out = out; err = err }) (record { shelf = shelf'; out = out'; err = err' }) status
  pieces_behind_document next doc found further = pieces_behind_told (λ bytes f. next f) doc found further

  -- what follows behind the lists of a file
  pub behind_lists : (next : Lists → Protocol) (lists : Lists) (found : AreListed shelf.held name lists)
      → Runs (next lists) (record { shelf = mid; out = out; err = mid_err }) (record { shelf = shelf'; out = out'; err = err' }) status
      → Runs (lists_protocol name next) (record { shelf = shelf; out = out; err = err }) (record { shelf = shelf'; out = out'; err = err' }) status
  behind_lists next lists found further =
      run_behind (lists_protocol name next) (by_lists name next (file_lists found.content)) shelf mid shelf' out out' err mid_err err' status
      (behind_a_taking shelf.held list_limit name (refusal statuses.RulesRefused (too_long_line name))
      (λ bytes. by_lists name next (file_lists bytes)) found.content
      found.of_file found.within) read quiet
      (subst (λ protocol. Runs protocol (record { shelf = mid; out = out; err = mid_err }) (record { shelf = shelf'; out = out'; err = err' }) status)
      (sym (ap (by_lists name next) found.are)) further)

-- ---- where the files are told

-- Each file has its own content: the protocol ends with the answer to the files, behind as many readings as it has.
pub ends_as_answered : (files : Files) (protocol : Protocol) (n : ℕ) (a : Answer) → EndsIn (Some files) protocol n a → a ≡ answer_of protocol files
ends_as_answered files (ends answer) n a at_end = refl
ends_as_answered files (loads limits name refused next) n a (refused_at is fails) =
    sym (ap (by_result refused (λ found. answer_of (next (bytes_under name files) found) files)) (ap (document limits) (sym (is files refl)) ∙ fails))
ends_as_answered files (loads limits name refused next) n a (loaded {content} {found} is fits further) =
    ends_as_answered files (next content found) _ a further
    ∙ sym (subst (λ bytes. by_result refused (λ f. answer_of (next bytes f) files) (document limits bytes) ≡ answer_of (next content found) files)
    (is files refl)
    (ap (by_result refused (λ f. answer_of (next content f) files)) fits))
ends_as_answered files (takes limit name too_long next) n a (too_long_at {content} is long) =
    sym (subst (λ bytes. by_test too_long (answer_of (next bytes) files) (is_within limit bytes) ≡ too_long) (is files refl)
    (ap (by_test too_long (answer_of (next content) files)) long))
ends_as_answered files (takes limit name too_long next) n a (taken {content} is within further) =
    ends_as_answered files (next content) _ a further
    ∙ sym (subst (λ bytes. by_test too_long (answer_of (next bytes) files) (is_within limit bytes) ≡ answer_of (next content) files) (is files refl)
    (ap (by_test too_long (answer_of (next content) files)) within))

pub ends_behind_readings : (files : Files) (protocol : Protocol) (n : ℕ) (a : Answer) → EndsIn (Some files) protocol n a → n ≡ readings protocol files
ends_behind_readings files (ends answer) n a at_end = refl
ends_behind_readings files (loads limits name refused next) n a (refused_at is fails) =
    sym (ap (λ r. suc (by_result (λ fault. 0) (λ found. readings (next (bytes_under name files) found) files) r)) (ap (document limits) (sym (is files refl)) ∙
    fails))
ends_behind_readings files (loads limits name refused next) n a (loaded {content} {found} is fits further) =
    ap suc (ends_behind_readings files (next content found) _ a further)
    ∙ sym (subst (λ bytes. suc (by_result (λ fault. 0) (λ f. readings (next bytes f) files) (document limits bytes)) ≡ suc
    (readings (next content found) files))
    (is files refl) (ap (λ r. suc (by_result (λ fault. 0) (λ f. readings (next content f) files) r)) fits))
ends_behind_readings files (takes limit name too_long next) n a (too_long_at {content} is long) =
    sym (subst (λ bytes. suc (by_test 0 (readings (next bytes) files) (is_within limit bytes)) ≡ 1) (is files refl)
    (ap (λ b. suc (by_test 0 (readings (next content) files) b)) long))
ends_behind_readings files (takes limit name too_long next) n a (taken {content} is within further) =
    ap suc (ends_behind_readings files (next content) _ a further)
    ∙ sym (subst (λ bytes. suc (by_test 0 (readings (next bytes) files) (is_within limit bytes)) ≡ suc (readings (next content) files)) (is files refl)
    (ap (λ b. suc (by_test 0 (readings (next content) files) b)) within))

pub reads_within : (files : Files) (protocol : Protocol) (n : ℕ) (file : List ℕ) → ReadsAt (Some files) protocol n file → n ≤ readings protocol files
reads_within files (ends answer) n file x = elim x [ ]
reads_within files (loads limits name refused next) n file a_load = omega arith
reads_within files (loads limits name refused next) n file (behind_load {content} {found} {n = m} is fits further) =
    let within = reads_within files (next content found) m file further in
    subst (λ bytes. suc m ≤ suc (by_result (λ fault. 0) (λ f. readings (next bytes f) files) (document limits bytes))) (is files refl)
    (subst (λ r. suc m ≤ suc (by_result (λ fault. 0) (λ f. readings (next content f) files) r)) (sym fits) (omega (arith, within)))
reads_within files (takes limit name too_long next) n file a_taking = omega arith
reads_within files (takes limit name too_long next) n file (behind_taking {content} {n = m} is is_in further) =
    let within = reads_within files (next content) m file further in
    subst (λ bytes. suc m ≤ suc (by_test 0 (readings (next bytes) files) (is_within limit bytes))) (is files refl)
    (subst (λ b. suc m ≤ suc (by_test 0 (readings (next content) files) b)) (sym is_in) (omega (arith, within)))
