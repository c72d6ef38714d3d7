-- Checks: rule files one after another, what is active of them, and the report.
use Rattle.std.proofs.Common.{◌≡◌, ℕ, ◌+◌, ◌<◌, ◌≤◌, List, [], ◌∷◌, ◌++◌, drop, take, map, length, get_or, ◌||◌, Bool, true, false, true≢false, inl, inr, refl}
use Rattle.std.proofs.Common.{ap, sym, subst, ◌∙◌, option_map}
use Rattle.std.specs.Prelude.{Option, Some, None, Result, Ok, Err, if◌then◌else◌, chars}
use Rattle.std.specs.List.{list_any}
use Rattle.std.proofs.lemmas.List.{append_assoc, append-nil, map-append, take_more, drop_more, drop_all}
use Rattle.std.proofs.lemmas.List.{get_or-map, length-map}
use Rattle.std.proofs.lemmas.List.Elements.{All-nil, All-cons, All-append, All-get_or}
use Rattle.std.proofs.lemmas.List.Folds.{list_any-append}
use Rattle.inv_base.specs.Files.{bytes_under}
use Rattle.inv_base.specs.Outside.{ShelfView, SinkView}
use Rattle.inv_base.specs.Tree.{Node}
use Rattle.xml_document.specs.Loading.{IsLoaded}
use Rattle.node_arena.specs.Document.{Document}
use Rattle.rule_library.specs.Library.{Held}
use Rattle.node_arena.specs.Moves.{tree_nodes}
use Rattle.schematron_meaning.specs.Rules.{Rules, rules_of}
use Rattle.schematron_meaning.specs.Phases.{Active, active_of}
use Rattle.schematron_compile.specs.declared.compiling.RuleFault.{RuleFault}
use Rattle.schematron_compile.specs.Answers.{is_memory, Tells}
use Rattle.schematron_findings.specs.declared.finding.Line.{Line}
use Rattle.schematron_run.specs.Judging.{findings}
use Rattle.schematron_rules.specs.Said.{CameFrom}
use Rattle.schematron_rules.specs.Seen.{seen_rules, seen_active}
use Rattle.svrl_report.specs.Plain.{all_lines}
use Rattle.job_protocol.specs.declared.status.Status.{Status}
use Rattle.job_protocol.specs.declared.status.Status.TheVariants as statuses
use Rattle.job_protocol.specs.Protocol.{Protocol, ends, document_limits}
use Rattle.job_protocol.specs.Libraries.{library_protocol}
use Rattle.job_protocol.specs.Outside.{HasRead, IsAccepted, TakesOrFails}
use Rattle.job_protocol.specs.Runs.{Runs, Continues, Fails}
use Rattle.job_protocol.proofs.Ends.{written_here, memory_here, behind_document}
use Rattle.job_protocol.proofs.FileLemmas.{refused_here}
use Rattle.job_protocol.specs.Views.{document_read}
use Rattle.document_jobs.specs.declared.checks.Named as named_code
use Rattle.document_jobs.specs.declared.checks.Chosen as chosen_code
use Rattle.document_jobs.specs.Checks.{rule_line, no_phase_line, by_rules, said_protocol, Named, with_name, all_said, Chosen, with_active, with_more, chosen}
use Rattle.document_jobs.specs.Checks.{by_phase, counts, named_of, chosen_of, all_found, finding_status, reported, CanJudge, AreChosen, home_line}
use Rattle.document_jobs.specs.Checks.{IsRefusalBy, IsRulesRefusal, IsPhaseRefusal, Reports, judged_next, chosen_next, said_next}

-- ---- a rule file

module _ (name : List ℕ) (held : Held) (shelf mid : ShelfView) (err mid_err : SinkView)
    (goes_on : Continues (library_protocol name) held shelf mid err mid_err) where
  -- what follows behind a rule file with its parts
  abbrev rules_next : (Rules → Protocol) → Held → Protocol
  rules_next next all = by_rules name all next (rules_of (tree_nodes all.document))

  pub behind_said : (rules : Rules) (there : SinkView) → rules_of (tree_nodes held.document) ≡ Ok rules → there ≡ mid_err →
      Continues (said_protocol name) rules shelf mid err there
  behind_said rules there is quiet = λ next shelf' out out' err' status further.
      goes_on (rules_next next) shelf' out out' err' status
      (subst (λ protocol. Runs protocol (record { shelf = mid; out = out; err = mid_err }) (record { shelf = shelf'; out = out'; err = err' }) status)
      (sym (ap (by_rules name held next) is))
      (subst (λ e. Runs (next rules) (record { shelf = mid; out = out; err = e }) (record { shelf = shelf'; out = out'; err = err' }) status) quiet further))

  said_by : (b : Bool) (fault : RuleFault) (status : Status) (err' : SinkView) → is_memory fault.kind ≡ b →
      Tells held.document fault (rules_of (tree_nodes held.document))
      → IsRefusalBy b name held fault status mid_err err' → Fails (said_protocol name) status shelf mid err err'
  said_by true fault status err' is tells refused = λ next out.
      rw (refused.0, refused.1) (goes_on (rules_next next) mid out out mid_err statuses.Memory (memory_here (rules_next next held) mid out mid_err))
  said_by false fault status err' is (inl memory) refused = absurd (true≢false (sym (sym is ∙ ap (λ (f : RuleFault). is_memory f.kind) memory)))
  said_by false fault status err' is (inr first) refused = λ next out.
      let line = subst (λ (f : RuleFault). TakesOrFails (home_line name held f) mid_err err') first.2 refused.1 in
      let here = refused_here statuses.RulesRefused (rule_line name held first.0) mid out mid_err err' tt line in
      rw refused.0 (goes_on (rules_next next) mid out out err' statuses.RulesRefused
      (subst (λ protocol. Runs protocol (record { shelf = mid; out = out; err = mid_err }) (record { shelf = mid; out = out; err = err' })
      statuses.RulesRefused)
      (sym (ap (by_rules name held next) first.1)) here))

  pub said_refused : (status : Status) (err' : SinkView) → IsRulesRefusal name held status mid_err err' → Fails (said_protocol name) status shelf mid err err'
  said_refused status err' refused = said_by (is_memory refused.0.kind) refused.0 status err' refl refused.1 refused.2

-- ---- all rule files

-- what follows by all files, from where the first of them are had
abbrev pub rest_protocol : List Named → (List Named → Protocol) → List (List ℕ) → Protocol
rest_protocol sofar next names = all_said names (λ others. next (sofar ++ others))

-- Whatever follows by all files: where the rest of them runs from here, all run from there.
abbrev pub Leads : List (List ℕ) → List (List ℕ) → List Named → ShelfView → ShelfView → SinkView → SinkView → Type 0
Leads all rest sofar shelf here err here_err =
    (next : List Named → Protocol) (shelf' : ShelfView) (out out' err' : SinkView) (status : Status)
    → Runs (rest_protocol sofar next rest) (record { shelf = here; out = out; err = here_err }) (record { shelf = shelf'; out = out'; err = err' }) status
    → Runs (all_said all next) (record { shelf = shelf; out = out; err = err }) (record { shelf = shelf'; out = out'; err = err' }) status

pub leads_first : (all : List (List ℕ)) (shelf : ShelfView) (err : SinkView) → Leads all all [] shelf shelf err err
leads_first all shelf err = λ next shelf' out out' err' status further. further

module _ (all rest : List (List ℕ)) (sofar : List Named) (name : List ℕ) (shelf here : ShelfView) (err here_err : SinkView) where
  -- what follows by a file, where others are had before it and read behind it
  abbrev one_next : (List Named → Protocol) → Rules → Protocol
  one_next next rules = all_said rest (λ others. next (sofar ++ (with_name name rules ∷ others)))

  pub leads_on : (rules : Rules) (there : ShelfView) (there_err : SinkView) → Leads all (name ∷ rest) sofar shelf here err here_err
      → Continues (said_protocol name) rules here there here_err there_err → Leads all rest (sofar ++ with_name name rules ∷ []) shelf there err there_err
  leads_on rules there there_err leads goes_on = λ next shelf' out out' err' status further.
      let same : rest_protocol (sofar ++ with_name name rules ∷ []) next rest ≡ one_next next rules =
      λ i. all_said rest (λ others. next ((append_assoc sofar (with_name name rules ∷ []) others) i)) in
      leads next shelf' out out' err' status
      (goes_on (one_next next) shelf' out out' err' status
      (subst (λ protocol. Runs protocol (record { shelf = there; out = out; err = there_err }) (record { shelf = shelf'; out = out'; err = err' }) status) same
      further))

  pub leads_stop : (status : Status) (there : ShelfView) (there_err : SinkView) → Leads all (name ∷ rest) sofar shelf here err here_err
      → Fails (said_protocol name) status here there here_err there_err → Fails (all_said all) status shelf there err there_err
  leads_stop status there there_err leads fails = λ next out.
      leads next there out out there_err status (fails (one_next next) out)

  -- Memory ran out behind a file that is had.
  pub leads_memory : (rules : Rules) (there : ShelfView) (there_err : SinkView) → Leads all (name ∷ rest) sofar shelf here err here_err
      → Continues (said_protocol name) rules here there here_err there_err → Fails (all_said all) statuses.Memory shelf there err there_err
  leads_memory rules there there_err leads goes_on = λ next out.
      leads next there out out there_err statuses.Memory
      (goes_on (one_next next) there out out there_err statuses.Memory (memory_here (one_next next rules) there out there_err))

-- what an item that was kept left
pub kept_if : {A : Type 0} (ok : Bool) (all more same : List A) → ok ≡ true → all ≡ (if ok then more else same) → all ≡ more
kept_if true all more same is left = left
kept_if false all more same is left = cc

-- the same where the code has kept one more file
pub leads_kept : (all rest : List (List ℕ)) (files more : List named_code.Named) (one : named_code.Named) (shelf here : ShelfView) (err here_err : SinkView)
    → more ≡ files ++ one ∷ [] → Leads all rest (map named_of files ++ named_of one ∷ []) shelf here err here_err
    → Leads all rest (map named_of more) shelf here err here_err
leads_kept all rest files more one shelf here err here_err is leads =
    subst (λ sofar. Leads all rest sofar shelf here err here_err) (sym (ap (map named_of) is ∙ map-append named_of files (one ∷ []))) leads

-- behind the last file
pub leads_last : (all : List (List ℕ)) (files : List Named) (shelf here : ShelfView) (err here_err : SinkView) → Leads all [] files shelf here err here_err
    → Continues (all_said all) files shelf here err here_err
leads_last all files shelf here err here_err leads = λ next shelf' out out' err' status further.
    leads next shelf' out out' err' status
    (subst (λ f. Runs (next f) (record { shelf = here; out = out; err = here_err }) (record { shelf = shelf'; out = out'; err = err' }) status)
    (sym (append-nil files)) further)

-- ---- what is active

-- what is active in the first files and then in the others
abbrev pub chosen_behind : List Chosen → Result (List Chosen) (List ℕ) → Result (List Chosen) (List ℕ)
chosen_behind sofar (Ok others) = Ok (sofar ++ others)
chosen_behind sofar (Err name) = Err name

-- what is active in the files so far, in one more, and then in those to come
pub chosen_more : (sofar : List Chosen) (one : Chosen) (rest : Result (List Chosen) (List ℕ))
    → chosen_behind (sofar ++ one ∷ []) rest ≡ chosen_behind sofar (with_more one rest)
chosen_more sofar one (Ok others) = ap Ok (append_assoc sofar (one ∷ []) others)
chosen_more sofar one (Err name) = refl

-- ---- what is active came from the rules

can_judge : (file : Chosen) → CameFrom file.rules file.active → CanJudge file
unfolding CanJudge
can_judge file came = came

came_from : (file : Chosen) → CanJudge file → CameFrom file.rules file.active
unfolding CanJudge
came_from file can = can

pub came_at : (files : List chosen_code.Chosen) (k : ℕ) (file : chosen_code.Chosen) → k < length files → file ≡ get_or files k file
    → AreChosen (map chosen_of files) → CameFrom (seen_rules file.rules.now) (seen_active file.active)
came_at files k file within is all =
    let here = All-get_or CanJudge (map chosen_of files) k (chosen_of file) (rw (length-map files chosen_of) within) all in
    came_from (chosen_of file) (subst CanJudge (get_or-map chosen_of files k file (chosen_of file) within ∙ ap chosen_of (sym is)) here)

-- what follows by what is active of a file
abbrev by_active : Rules → List ℕ → Result (List Chosen) (List ℕ) → Option Active → Result (List Chosen) (List ℕ)
by_active rules name others None = Err name
by_active rules name others (Some active) = with_more (with_active rules active) others

-- one more file, of which the code has what is active
module _ (phase : List ℕ) (files : List named_code.Named) (k : ℕ) (file : named_code.Named) (within : k < length files) (is : file ≡ get_or files k file)
    (sofar more : List chosen_code.Chosen) (one : chosen_code.Chosen) (kept : more ≡ sofar ++ one ∷ [])
    (same : (chosen_of one).rules ≡ seen_rules file.rules) where
  abbrev rest : Result (List Chosen) (List ℕ)
  rest = chosen phase (map named_of (drop (k + 1) files))

  pub chosen_kept : active_of (seen_rules file.rules) (chars phase) ≡ Some (chosen_of one).active
      → chosen_behind (map chosen_of sofar) (chosen phase (map named_of (drop k files))) ≡ chosen phase (map named_of files)
      → chosen_behind (map chosen_of more) rest ≡ chosen phase (map named_of files)
  chosen_kept active so_far =
      let here : chosen phase (map named_of (drop k files)) ≡ chosen phase (named_of file ∷ map named_of (drop (k + 1) files)) =
      ap (λ fs. chosen phase (map named_of fs)) (drop_more files k file within ∙ ap (λ f. f ∷ drop (k + 1) files) (sym is)) in
      let by : chosen phase (named_of file ∷ map named_of (drop (k + 1) files)) ≡ with_more (with_active (seen_rules file.rules) (chosen_of one).active) rest =
      ap (by_active (seen_rules file.rules) file.name.now rest) active in
      let first = here ∙ (by ∙ ap (λ r. with_more (with_active r (chosen_of one).active) rest) (sym same)) in
      ap (λ cs. chosen_behind cs rest) (ap (map chosen_of) kept ∙ map-append chosen_of sofar (one ∷ []))
      ∙ (chosen_more (map chosen_of sofar) (chosen_of one) rest ∙ (ap (chosen_behind (map chosen_of sofar)) (sym first) ∙ so_far))

  pub came_kept : active_of (seen_rules file.rules) (chars phase) ≡ Some (chosen_of one).active → AreChosen (map chosen_of sofar) →
      AreChosen (map chosen_of more)
  came_kept active so_far =
      let came : CameFrom (chosen_of one).rules (chosen_of one).active =
      record { name = chars phase; is = ap (λ (r : Rules). active_of r (chars phase)) same ∙ active } in
      subst AreChosen (sym (ap (map chosen_of) kept ∙ map-append chosen_of sofar (one ∷ [])))
      (All-append CanJudge (map chosen_of sofar) (chosen_of one ∷ []) so_far
      (All-cons CanJudge (chosen_of one) [] (can_judge (chosen_of one) came) (All-nil CanJudge)))

-- ---- the report

-- what one file finds
abbrev found_in : List Node → Chosen → List Line
found_in nodes file = findings file.rules file.active nodes

pub found_more : (nodes : List Node) (files : List chosen_code.Chosen) (k : ℕ) (file : chosen_code.Chosen) (lines : List Line) → k < length files
    → file ≡ get_or files k file → lines ≡ findings (chosen_of file).rules (chosen_of file).active nodes
    → all_found nodes (map chosen_of (take k files)) ++ lines ∷ [] ≡ all_found nodes (map chosen_of (take (k + 1) files))
unfolding all_found
found_more nodes files k file lines within is found =
    let more = take_more files k file within ∙ ap (λ f. take k files ++ f ∷ []) (sym is) in
    let first = map chosen_of (take k files) in
    sym (ap (λ fs. map (found_in nodes) (map chosen_of fs)) more
    ∙ (ap (map (found_in nodes)) (map-append chosen_of (take k files) (file ∷ []))
    ∙ (map-append (found_in nodes) first (chosen_of file ∷ []) ∙ ap (λ l. map (found_in nodes) first ++ l ∷ []) (sym found))))

pub found_none : (nodes : List Node) → all_found nodes [] ≡ []
unfolding all_found
found_none nodes = refl

abbrev by_any : Bool → Status
by_any b = if b then statuses.Findings else statuses.Done

module _ (found : List (List Line)) (k : ℕ) where
  module _ (file : List Line) (within : k < length found) (is : file ≡ get_or found k file) where
    behind : drop k found ≡ file ∷ drop (k + 1) found
    behind = drop_more found k file within ∙ ap (λ f. f ∷ drop (k + 1) found) (sym is)

    of_both : list_any counts (all_lines (file ∷ drop (k + 1) found)) ≡ list_any counts file || list_any counts (all_lines (drop (k + 1) found))
    of_both = list_any-append counts file (all_lines (drop (k + 1) found))

    pub one_counts : list_any counts file ≡ true → finding_status (drop k found) ≡ statuses.Findings
    unfolding finding_status
    one_counts so = ap (λ fs. by_any (list_any counts (all_lines fs))) behind
        ∙ ap by_any (of_both ∙ ap (λ b. b || list_any counts (all_lines (drop (k + 1) found))) so)

    pub none_counts : list_any counts file ≡ false → finding_status (drop (k + 1) found) ≡ finding_status (drop k found)
    unfolding finding_status
    none_counts so = sym (ap (λ fs. by_any (list_any counts (all_lines fs))) behind
        ∙ ap by_any (of_both ∙ ap (λ b. b || list_any counts (all_lines (drop (k + 1) found))) so))

  pub nothing_counts : length found ≤ k → finding_status (drop k found) ≡ statuses.Done
  unfolding finding_status
  nothing_counts past = ap (λ fs. by_any (list_any counts (all_lines fs))) (drop_all k found past)

accepted_by : (b : Bool) → IsAccepted (if b then statuses.Findings else statuses.Done)
accepted_by true = tt
accepted_by false = tt

accepted_status : (found : List (List Line)) → IsAccepted (finding_status found)
unfolding finding_status
accepted_status found = accepted_by _

reported_here : (text : List (List Line) → List ℕ) (found : List (List Line)) (status : Status) (shelf : ShelfView) (out out' err : SinkView)
    → Reports status text found out out'
    → Runs (ends (reported text found)) (record { shelf = shelf; out = out; err = err }) (record { shelf = shelf; out = out'; err = err }) status
reported_here text found status shelf out out' err (inl all) =
    written_here (finding_status found) status (text found) shelf out out' err (accepted_status found) (inl all)
reported_here text found status shelf out out' err (inr (inl front)) =
    written_here (finding_status found) status (text found) shelf out out' err (accepted_status found) (inr front)
reported_here text found status shelf out out' err (inr (inr memory)) =
    rw (memory.0, memory.1) (memory_here (ends (reported text found)) shelf out err)

-- ---- the job, behind the rule files

-- a file without the phase, or want of memory
pub check_unphased : (text : List (List Line) → List ℕ) (phase file : List ℕ) (files : List Named) (status : Status) (shelf : ShelfView)
    (out err err' : SinkView)
    → IsPhaseRefusal phase (chosen phase files) status err err'
    → Runs (said_next text phase file files) (record { shelf = shelf; out = out; err = err }) (record { shelf = shelf; out = out; err = err' }) status
check_unphased text phase file files status shelf out err err' (inl memory) =
    rw (memory.0, memory.1) (memory_here (said_next text phase file files) shelf out err)
check_unphased text phase file files status shelf out err err' (inr told) =
    rw told.2 (subst (λ protocol. Runs protocol (record { shelf = shelf; out = out; err = err })
    (record { shelf = shelf; out = out; err = err' }) statuses.RulesRefused)
    (sym (ap (by_phase phase (chosen_next text file)) told.1)) (refused_here statuses.RulesRefused (no_phase_line told.0 phase) shelf out err err' tt told.3))

-- what follows by what is active
pub behind_phases : (text : List (List Line) → List ℕ) (phase file : List ℕ) (files : List Named) (cs : List Chosen) (shelf shelf' : ShelfView)
    (out out' err here_err err' : SinkView) (status : Status)
    → chosen phase files ≡ Ok cs → here_err ≡ err
    → Runs (chosen_next text file cs) (record { shelf = shelf; out = out; err = here_err }) (record { shelf = shelf'; out = out'; err = err' }) status
    → Runs (said_next text phase file files) (record { shelf = shelf; out = out; err = err }) (record { shelf = shelf'; out = out'; err = err' }) status
behind_phases text phase file files cs shelf shelf' out out' err here_err err' status are quiet further =
    subst (λ protocol. Runs protocol (record { shelf = shelf; out = out; err = err }) (record { shelf = shelf'; out = out'; err = err' }) status)
    (sym (ap (by_phase phase (chosen_next text file)) are))
    (subst (λ e. Runs (chosen_next text file cs) (record { shelf = shelf; out = out; err = e }) (record { shelf = shelf'; out = out'; err = err' }) status)
    quiet further)

-- the report on a document that was loaded
pub check_reported : (text : List (List Line) → List ℕ) (file : List ℕ) (cs : List Chosen) (shelf there : ShelfView) (out out' err there_err : SinkView)
    (status : Status)
    (doc : Document)
    → HasRead 1 shelf there → there_err ≡ err → IsLoaded document_limits (option_map (bytes_under file) shelf.held) doc
    → Reports status text (all_found (tree_nodes doc) cs) out out'
    → Runs (chosen_next text file cs) (record { shelf = shelf; out = out; err = err }) (record { shelf = there; out = out'; err = there_err }) status
check_reported text file cs shelf there out out' err there_err status doc read same found reports =
    behind_document file shelf there there out out' err there_err there_err status read same (judged_next text cs) doc found
    (reported_here text (all_found (tree_nodes (document_read found.found)) cs) status there out out' there_err
    (subst (λ (d : Document). Reports status text (all_found (tree_nodes d) cs) out out') found.exactly reports))
