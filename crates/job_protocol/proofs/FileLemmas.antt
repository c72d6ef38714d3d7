-- How a job ends at a file that can't be had.
use Rattle.std.proofs.Common.{◌≡◌, ◌≢◌, ℕ, ◌<◌, ◌≤◌, List, [], ◌++◌, Option, Some, None, Result, Ok, Err, true, false, inl, inr, refl, ap, sym, subst, ◌∙◌}
use Rattle.std.proofs.Common.{arith, option_map}
use Rattle.std.specs.Prelude.{length}
use Rattle.std.proofs.lemmas.Bool.Decides.{nat_tests}
use Rattle.inv_base.specs.Counts.{Rose}
use Rattle.inv_base.specs.Files.{Files, bytes_under}
use Rattle.inv_base.specs.Outside.{ShelfView, SinkView, WhereTold}
use Rattle.code_lists.specs.CodeFiles.{Lists, file_lists}
use Rattle.code_lists.specs.declared.fault.ListFault.{ListFault}
use Rattle.code_lists.specs.declared.fault.ListFault.TheVariants as list_faults
use Rattle.xml_events.specs.Events.{with_events}
use Rattle.xml_state.specs.declared.limits.Limits.{Limits}
use Rattle.xml_state.specs.declared.fault.XmlFault.{XmlFault}
use Rattle.xml_profile.specs.Profile.{document, first_fault, names_of}
use Rattle.xml_profile.specs.Profile as profile
use Rattle.xml_profile.specs.TokenByToken.{read_whole}
use Rattle.xml_document.specs.declared.loading.LoadFault.{LoadFault}
use Rattle.xml_document.specs.declared.loading.LoadFault.TheVariants as load_faults
use Rattle.xml_document.specs.declared.whole.WholeFault.TheVariants as whole_faults
use Rattle.xml_document.specs.Loading.{ReadsFrom, StopsInTime}
use Rattle.xml_document.specs.Loading as documents
use Rattle.xml_document.specs.Whole.{IsReadWhole, IsTooLong}
use Rattle.job_protocol.specs.declared.status.Status.{Status}
use Rattle.job_protocol.specs.declared.status.Status.TheVariants as statuses
use Rattle.job_protocol.specs.Protocol.{Answer, Protocol, ends, loads, Stop, at_fault, past_limit, refusal, by_result, by_test, by_lists, is_within}
use Rattle.job_protocol.specs.Protocol.{document_limits}
use Rattle.job_protocol.specs.Protocol.{list_limit, told_protocol, taken_protocol, lists_protocol, readings, stopped_at}
use Rattle.job_protocol.specs.Documents.{IsDocumentRefusal}
use Rattle.job_protocol.specs.Lines.{read_fault_line, document_line, list_line, too_long_line}
use Rattle.job_protocol.specs.Outside.{Outside, HasRead, HasOpened, TakesOrFails, IsRefusedAnswer}
use Rattle.job_protocol.specs.Runs.{IsContentOf, AreListed, at_end, refused_at, too_long_at, a_load, a_taking, StopsThere, Runs, Continues, IsListRefusal}
use Rattle.job_protocol.proofs.Joins.{behind_a_taking, run_behind}

-- A first fault is why the bytes are no document.
abbrev by_fault : Limits → List ℕ → Option XmlFault → Result profile.Document XmlFault
by_fault limits bytes f = elim f [
  | (Some fault) ↦ Err fault
  | None ↦ Ok (record { events = with_events [] (read_whole limits bytes).events; names = names_of (read_whole limits bytes).stands })
]

is_no_document : (limits : Limits) (bytes : List ℕ) (fault : XmlFault) → first_fault limits bytes ≡ Some fault → document limits bytes ≡ Err fault
unfolding document
is_no_document limits bytes fault is = ap (by_fault limits bytes) is

-- What is told of a content is told of the file's, where the files are told.
of_file : (name content : List ℕ) (held : Option Files) → WhereTold (option_map (bytes_under name) held) (λ bytes. content ≡ bytes) →
    IsContentOf held name content
of_file name content held whole files is = whole (bytes_under name files) (ap (option_map (bytes_under name)) is)

is_short : (bytes : List ℕ) → length bytes ≤ list_limit → is_within list_limit bytes ≡ true
is_short bytes few = grind (arith, nat_tests)

module _ (name : List ℕ) (shelf shelf' : ShelfView) (out err err' : SinkView) where
  abbrev before : Outside
  before = record { shelf = shelf; out = out; err = err }

  abbrev after : Outside
  after = record { shelf = shelf'; out = out; err = err' }

  -- The file of a reading can't be read.
  pub unread_load : (limits : Limits) (refused : XmlFault → Answer) (next : List ℕ → profile.Document → Protocol) → HasOpened 1 shelf shelf' →
      Rose shelf.faults shelf'.faults
      → TakesOrFails (read_fault_line name) err err' → Runs (loads limits name refused next) before after statuses.ReadFault
  unread_load limits refused next opened rose takes = inr (inl (record {
    count = 1;
    file = name;
    reads_at = a_load;
    told = refl;
    held = opened.held;
    opens = opened.opens;
    rises = opened.rises;
    rose = rose;
    nothing = refl;
    line = takes;
  }))

  module _ (limits : Limits) (refusing : Status) (next : List ℕ → profile.Document → Protocol) (fault : XmlFault)
      (refused : documents.IsRefused limits (option_map (bytes_under name) shelf.held) fault)
      (stops : StopsInTime limits (option_map (bytes_under name) shelf.held) shelf'.left) where
    of_this_file : IsContentOf shelf.held name refused.content
    of_this_file = of_file name refused.content shelf.held refused.whole

    no_document : (files : Files) → shelf.held ≡ Some files → document limits (bytes_under name files) ≡ Err fault
    no_document files is = ap (document limits) (sym (of_this_file files is)) ∙ is_no_document limits refused.content fault refused.is

    stops_at : (files : Files) (stop : Stop) → shelf.held ≡ Some files → Some (at_fault limits name) ≡ Some stop → StopsThere stop files shelf'.left
    stops_at files stop is same =
        let stop_is : at_fault limits name ≡ stop = cc in
        subst (λ (s : Stop). StopsThere s files shelf'.left) stop_is
        (subst (λ held. StopsInTime limits (option_map (bytes_under name) held) shelf'.left) is stops)

    -- The file of a reading is no document.
    pub refused_load : IsRefusedAnswer refusing → HasRead 1 shelf shelf' → TakesOrFails (document_line name fault) err err'
        → Runs (loads limits name (λ f. refusal refusing (document_line name f)) next) before after refusing
    refused_load refuses read takes = inl (record {
      count = 1;
      answer = refusal refusing (document_line name fault);
      ends_in = refused_at of_this_file (is_no_document limits refused.content fault refused.is);
      told = refl;
      refuses = refuses;
      empty = refl;
      read = read;
      nothing = refl;
      line = takes;
      stops = λ files is stop found. stops_at files stop is (sym (ap (by_result (λ fault. Some (at_fault limits name))
          (λ f. stopped_at (next (bytes_under name files) f) files)) (no_document files is)) ∙ found);
    })

  -- Memory ran out in the first reading, which may have failed.
  pub memory_inside : (protocol : Protocol) → ((files : Files) → 1 ≤ readings protocol files) → HasOpened 1 shelf shelf' → err' ≡ err →
      Runs protocol before after statuses.Memory
  memory_inside protocol some opened quiet = inr (inr (inl (record {
    count = 1;
    told = refl;
    few = λ files is. some files;
    read = opened;
    nothing = refl;
    no_line = quiet;
  })))

  pub memory_in : (protocol : Protocol) → ((files : Files) → 1 ≤ readings protocol files) → HasRead 1 shelf shelf' → err' ≡ err →
      Runs protocol before after statuses.Memory
  memory_in protocol some read quiet = memory_inside protocol some (record { held = read.held; opens = read.opens; rises = omega (arith, read.faults) }) quiet

  module _ (next : List ℕ → profile.Document → Protocol) where
    -- A document can't be had, whatever was to follow.
    pub document_failed : {T : Type 0} (fault : LoadFault) (status : Status) → ReadsFrom {T = T} (Err fault) load_faults.Read shelf shelf'
        → ((f : XmlFault) → fault ≡ load_faults.Refused f → documents.IsRefused document_limits (option_map (bytes_under name) shelf.held) f)
        → ((f : XmlFault) → fault ≡ load_faults.Refused f → StopsInTime document_limits (option_map (bytes_under name) shelf.held) shelf'.left)
        → IsDocumentRefusal fault name status err err' → Runs (told_protocol name next) before after status
    document_failed load_faults.Read status reads refused stops said =
        rw said.0 (unread_load document_limits (λ f. refusal statuses.DocumentRefused (document_line name f)) next
        (record { held = reads.held; opens = reads.opens; rises = reads.rises }) (reads.rose refl) said.1)
    document_failed (load_faults.Refused fault) status reads refused stops said =
        rw said.0 (refused_load document_limits statuses.DocumentRefused next fault (refused fault refl) (stops fault refl) tt
        (record { held = reads.held; opens = reads.opens; faults = reads.quiet (λ e. cc) }) said.1)
    document_failed load_faults.Memory status reads refused stops said =
        rw said.0 (memory_in (told_protocol name next) (λ files. omega arith)
        (record { held = reads.held; opens = reads.opens; faults = reads.quiet (λ e. cc) }) said.1)

  pub unread_file : {T : Type 0} → ReadsFrom {T = T} (Err whole_faults.Read) whole_faults.Read shelf shelf'
      → TakesOrFails (read_fault_line name) err err' → (next : List ℕ → Protocol) → Runs (taken_protocol name next) before after statuses.ReadFault
  unread_file reads takes next = inr (inl (record {
    count = 1;
    file = name;
    reads_at = a_taking;
    told = refl;
    held = reads.held;
    opens = reads.opens;
    rises = reads.rises;
    rose = reads.rose refl;
    nothing = refl;
    line = takes;
  }))

  -- a content that is too long, which is the file's where the files are told
  record LongContent : Type 0 where
    content : List ℕ
    of_it : IsContentOf shelf.held name content
    long : is_within list_limit content ≡ false

  is_long : (bytes : List ℕ) → list_limit < length bytes → is_within list_limit bytes ≡ false
  is_long bytes more = grind (arith, nat_tests)

  long_content : (held : Option Files) → shelf.held ≡ held → IsTooLong list_limit (option_map (bytes_under name) shelf.held) shelf'.left → LongContent
  long_content None is found = record {
    content = found.front ++ found.last;
    of_it = λ files told. absurd (cc);
    long = is_long (found.front ++ found.last) found.past;
  }
  long_content (Some files) is found = record {
    content = bytes_under name files;
    of_it = λ files' told. ap (λ held. elim held [ None ↦ [] | Some f ↦ bytes_under name f ]) (sym is ∙ told);
    long = is_long (bytes_under name files) (found.long (bytes_under name files) (ap (option_map (bytes_under name)) is));
  }

  long_stops : (files : Files) (stop : Stop) → IsTooLong list_limit (option_map (bytes_under name) shelf.held) shelf'.left → shelf.held ≡ Some files
      → Some (past_limit list_limit name) ≡ Some stop → StopsThere stop files shelf'.left
  long_stops files stop found is same =
      let stop_is : past_limit list_limit name ≡ stop = cc in
      subst (λ (s : Stop). StopsThere s files shelf'.left) stop_is
      (subst (λ held. IsTooLong list_limit (option_map (bytes_under name) held) shelf'.left) is found)

  pub long_file : HasRead 1 shelf shelf' → IsTooLong list_limit (option_map (bytes_under name) shelf.held) shelf'.left
      → TakesOrFails (too_long_line name) err err' → (next : List ℕ → Protocol) → Runs (taken_protocol name next) before after statuses.RulesRefused
  long_file read found takes next =
      let long = long_content shelf.held refl found in
      inl (record {
        count = 1;
        answer = refusal statuses.RulesRefused (too_long_line name);
        ends_in = too_long_at long.of_it long.long;
        told = refl;
        refuses = tt;
        empty = refl;
        read = read;
        nothing = refl;
        line = takes;
        stops = λ files is stop stopped. let not_within = ap (is_within list_limit) (sym (long.of_it files is)) ∙ long.long in
            long_stops files stop found is
            (sym (ap (by_test (Some (past_limit list_limit name)) (stopped_at (next (bytes_under name files)) files)) not_within) ∙ stopped);
      })

-- A refusal that ends a protocol, whatever was read before.
pub refused_here : (status : Status) (line : List ℕ) (shelf : ShelfView) (out err err' : SinkView) → IsRefusedAnswer status → TakesOrFails line err err' →
    Runs (ends (refusal status line)) (record { shelf = shelf; out = out; err = err }) (record { shelf = shelf; out = out; err = err' }) status
refused_here status line shelf out err err' refuses takes = inl (record {
  count = 0;
  answer = refusal status line;
  ends_in = at_end;
  told = refl;
  refuses = refuses;
  empty = refl;
  read = record { held = refl; opens = refl; faults = refl };
  nothing = refl;
  line = takes;
  stops = λ files is stop none. cc;
})

module _ (name : List ℕ) (shelf shelf' : ShelfView) (out err err' : SinkView) where
  -- what follows behind the bytes of a file
  behind_bytes : (mid : ShelfView) (mid_err : SinkView) → HasRead 1 shelf mid → mid_err ≡ err → (bytes : List ℕ) →
      IsReadWhole list_limit (option_map (bytes_under name) shelf.held) bytes
      → (next : List ℕ → Protocol) (out' : SinkView) (status : Status)
      → Runs (next bytes) (record { shelf = mid; out = out; err = mid_err }) (record { shelf = shelf'; out = out'; err = err' }) status
      → Runs (taken_protocol name next) (record { shelf = shelf; out = out; err = err }) (record { shelf = shelf'; out = out'; err = err' }) status
  behind_bytes mid mid_err read quiet bytes found next out' status further =
      run_behind (taken_protocol name next) (next bytes) shelf mid shelf' out out' err mid_err err' status
      (behind_a_taking shelf.held list_limit name (refusal statuses.RulesRefused (too_long_line name)) next bytes (of_file name bytes shelf.held found.whole)
      (is_short bytes found.within))
      read quiet further

  pub are_listed : (bytes : List ℕ) (lists : Lists) → IsReadWhole list_limit (option_map (bytes_under name) shelf.held) bytes → file_lists bytes ≡ Ok lists
      → AreListed shelf.held name lists
  are_listed bytes lists found are = record {
    content = bytes;
    of_file = of_file name bytes shelf.held found.whole;
    within = is_short bytes found.within;
    are = are;
  }

-- Whatever follows by the bytes of a file, behind the reading of it.
pub taken_goes_on : (name : List ℕ) (shelf mid : ShelfView) (err mid_err : SinkView) → HasRead 1 shelf mid → mid_err ≡ err → (bytes : List ℕ)
    → IsReadWhole list_limit (option_map (bytes_under name) shelf.held) bytes → Continues (taken_protocol name) bytes shelf mid err mid_err
taken_goes_on name shelf mid err mid_err read quiet bytes found = λ next shelf' out out' err' status further.
    behind_bytes name shelf shelf' out err err' mid mid_err read quiet bytes found next out' status further

module _ (name : List ℕ) (shelf shelf' : ShelfView) (out err mid_err err' : SinkView) (bytes : List ℕ)
    (goes_on : Continues (taken_protocol name) bytes shelf shelf' err mid_err) where
  -- the lists of a file are refused behind the reading of it
  refused_lists : (next : Lists → Protocol) (fault : ListFault) → file_lists bytes ≡ Err fault → TakesOrFails (list_line name fault) mid_err err'
      → Runs (lists_protocol name next) (record { shelf = shelf; out = out; err = err }) (record { shelf = shelf'; out = out; err = err' })
      statuses.RulesRefused
  refused_lists next fault fails takes =
      let refused = refused_here statuses.RulesRefused (list_line name fault) shelf' out mid_err err' tt takes in
      let next_is : by_lists name next (file_lists bytes) ≡ ends (refusal statuses.RulesRefused (list_line name fault)) = ap (by_lists name next) fails in
      goes_on (λ bytes. by_lists name next (file_lists bytes)) shelf' out out err' statuses.RulesRefused
      (subst (λ protocol. Runs protocol (record { shelf = shelf'; out = out; err = mid_err })
      (record { shelf = shelf'; out = out; err = err' }) statuses.RulesRefused) (sym next_is) refused)

  pub lists_failed : (next : Lists → Protocol) (fault : ListFault) (status : Status) → HasRead 1 shelf shelf' → mid_err ≡ err
      → (fault ≢ list_faults.Memory → file_lists bytes ≡ Err fault) → IsListRefusal fault name status mid_err err'
      → Runs (lists_protocol name next) (record { shelf = shelf; out = out; err = err }) (record { shelf = shelf'; out = out; err = err' }) status
  lists_failed next list_faults.Memory status read quiet fails refusal =
      rw refusal.0 (memory_in name shelf shelf' out err err' (lists_protocol name next) (λ files. omega arith) read (refusal.1 ∙ quiet))
  lists_failed next list_faults.NotToml status read quiet fails refusal =
      rw refusal.0 (refused_lists next list_faults.NotToml (fails (λ e. cc)) refusal.1)
  lists_failed next (list_faults.NotALists key) status read quiet fails refusal =
      rw refusal.0 (refused_lists next (list_faults.NotALists key) (fails (λ e. cc)) refusal.1)
  lists_failed next (list_faults.BadCode key) status read quiet fails refusal =
      rw refusal.0 (refused_lists next (list_faults.BadCode key) (fails (λ e. cc)) refusal.1)
