-- A rule file with its parts: what follows behind it, and how a job ends where it can't be had.
use Rattle.std.proofs.Common.{◌≡◌, ℕ, suc, zero, false, List, [], length, Option, Result, Ok, Err, chars, refl, ap, subst, ◌∙◌, arith, option_map}
use Rattle.inv_base.specs.Counts.{next_count, Rose}
use Rattle.inv_base.specs.Files.{Files, bytes_under}
use Rattle.inv_base.specs.Outside.{ShelfView, SinkView, WhereTold}
use Rattle.xml_state.specs.declared.fault.XmlFault.{XmlFault}
use Rattle.xml_state.specs.Sizes.{rule_limits}
use Rattle.rule_library.specs.Readings.{State, Fault, Readings, gives, reads}
use Rattle.rule_library.specs.Leads as walked
use Rattle.rule_library.specs.Leads.{Leads, here, read, Reaches, Stops, told_under}
use Rattle.rule_library.specs.Library.{Held, Loads}
use Rattle.rule_library.specs.Walk.{library}
use Rattle.rule_library.specs.Faults as faults
use Rattle.rule_library.specs.Faults.{want_of_memory, unread, malformed, Tells, IsOfANode, IsMalformed}
use Rattle.rule_library.specs.Faults.{given, unreadable, no_document, full_between, full_inside}
use Rattle.rule_library.specs.declared.faults.LoadFault.{LoadFault}
use Rattle.rule_library.specs.declared.faults.LoadKind.{LoadKind}
use Rattle.rule_library.specs.declared.faults.LoadKind.TheVariants as kinds
use Rattle.job_protocol.specs.declared.status.Status.{Status}
use Rattle.job_protocol.specs.declared.status.Status.TheVariants as statuses
use Rattle.job_protocol.specs.Protocol.{Protocol, refusal}
use Rattle.job_protocol.specs.Lines.{document_line, load_line}
use Rattle.job_protocol.specs.Libraries.{library_by, by_joined, library_protocol, is_unread, IsRefusedFile, fault_named, IsLoadRefusal}
use Rattle.job_protocol.specs.Outside.{counted, HasRead, HasOpened}
use Rattle.job_protocol.specs.Runs.{IsContentOf, Runs, Continues, Fails}
use Rattle.job_protocol.proofs.Joins.{BehindAll, behind_nothing, behind_more, behind_a_load, run_behind_all}
use Rattle.job_protocol.proofs.Ends.{memory_here}
use Rattle.job_protocol.proofs.FileLemmas.{refused_here, refused_load, unread_load, memory_inside}

-- ---- counts

-- The definitions of both crates count alike.
counted-same : (n count : ℕ) → walked.counted n count ≡ counted n count
counted-same zero count = refl
counted-same (suc n) count = counted-same n (next_count count)

counted-last : (n count : ℕ) → counted n (next_count count) ≡ next_count (counted n count)
counted-last zero count = refl
counted-last (suc n) count = counted-last n (next_count count)

read_as : (n : ℕ) (before after : ShelfView) → walked.HasRead n before after → HasRead n before after
read_as n before after h = record { held = h.held; opens = h.opens ∙ counted-same n before.opens; faults = h.faults }

-- ---- what follows behind files that were read

told_of : (held : Option Files) (name content : List ℕ) → WhereTold (told_under name held) (λ bytes. content ≡ bytes) → IsContentOf held name content
told_of held name content whole = λ files is. whole (bytes_under name files) (ap (option_map (bytes_under name)) is)

leads_behind : (held : Option Files) (a b : Readings) (n : ℕ) (next : Result State Fault → Protocol) → Leads held a n b
    → BehindAll held n (library_by a next) (library_by b next)
leads_behind held a b n next here = behind_nothing held (library_by a next)
leads_behind held (reads name more) b n next (read {content} {found} {n = m} whole is further) =
    behind_more held m (library_by (reads name more) next) (library_by (more (length content) found) next) (library_by b next)
    (behind_a_load held rule_limits name (λ fault. refusal statuses.RulesRefused (document_line name fault))
    (λ bytes f. library_by (more (length bytes) f) next)
    content found (told_of held name content whole) is)
    (leads_behind held (more (length content) found) b m next further)

module _ (name : List ℕ) (shelf mid shelf' : ShelfView) (out out' err mid_err err' : SinkView) (status : Status) (quiet : mid_err ≡ err) where
  -- What follows behind readings runs the whole.
  behind_readings : (a b : Readings) (next : Result State Fault → Protocol) → Reaches a b shelf mid
      → Runs (library_by b next) (record { shelf = mid; out = out; err = mid_err }) (record { shelf = shelf'; out = out'; err = err' }) status
      → Runs (library_by a next) (record { shelf = shelf; out = out; err = err }) (record { shelf = shelf'; out = out'; err = err' }) status
  behind_readings a b next h further =
      run_behind_all (library_by a next) (library_by b next) h.count shelf mid shelf' out out' err mid_err err' status
      (leads_behind shelf.held a b h.count next h.leads) (read_as h.count shelf mid h.has_read) quiet further

-- What follows behind a rule file with its parts runs the whole.
pub behind_library : (name : List ℕ) (held : Held) (shelf mid : ShelfView) (err mid_err : SinkView) → Loads (library name) held shelf mid → mid_err ≡ err
    → Continues (library_protocol name) held shelf mid err mid_err
unfolding library_protocol
behind_library name held shelf mid err mid_err h quiet = λ next shelf' out out' err' status further.
    behind_readings name shelf mid shelf' out out' err mid_err err' status quiet (library name) (gives (Ok h.state)) (by_joined next) h.reaches
    (subst (λ (all : Held). Runs (next all) (record { shelf = mid; out = out; err = mid_err })
    (record { shelf = shelf'; out = out'; err = err' }) status) h.is further)

-- ---- where it can't be had

-- A fault of a file is told by the name of it.
refused_as : (fault : LoadFault) (wanted : Fault) (status : Status) (before after : SinkView) → Tells fault wanted
    → IsLoadRefusal fault.file fault status before after → IsRefusedFile (is_unread wanted.kind) wanted status before after
refused_as fault wanted status before after tells said =
    let here : IsRefusedFile (is_unread wanted.kind) (fault_named wanted.kind (chars wanted.file) (record { byte = wanted.place })) status before after =
    subst (λ (f : LoadFault). IsLoadRefusal f.file f status before after) tells.is said in
    subst (λ file. IsRefusedFile (is_unread wanted.kind) (record { kind = wanted.kind; file = file; place = wanted.place }) status before after) tells.text here

-- So is want of memory, which is told by no line.
full_as : (fault : LoadFault) (status : Status) (before after : SinkView) → fault ≡ want_of_memory → IsLoadRefusal fault.file fault status before after
    → (status ≡ statuses.Memory) × (after ≡ before)
full_as fault status before after is said = subst (λ (f : LoadFault). IsLoadRefusal f.file f status before after) is said

node_is_read : (kind : LoadKind) → IsOfANode kind → is_unread kind ≡ false
node_is_read kinds.Read node = absurd node
node_is_read (kinds.Xml kind) node = refl
node_is_read kinds.BadHref node = refl
node_is_read kinds.IncludeCycle node = refl
node_is_read kinds.TooManyFiles node = refl
node_is_read kinds.NotSame node = refl
node_is_read kinds.TooDeep node = refl
node_is_read kinds.TooManyNodes node = refl
node_is_read kinds.TooManyNames node = refl
node_is_read kinds.Memory node = absurd node

-- the shelf before the file that was opened last
before_last : ℕ → ShelfView → ShelfView
before_last n shelf = record { held = shelf.held; left = shelf.left; opens = counted n shelf.opens; faults = shelf.faults }

module _ (first : Readings) (shelf shelf' : ShelfView) (out err err' : SinkView) (status : Status) (next : Result State Fault → Protocol)
    (stops : Stops first shelf shelf') where
  abbrev at_last : Protocol
  at_last = library_by (reads stops.name stops.next) next

  opened_last : HasOpened 1 (before_last stops.count shelf) shelf'
  unfolding before_last
  opened_last = record {
    held = stops.held;
    opens = stops.opens ∙ (counted-same (suc stops.count) shelf.opens ∙ counted-last stops.count shelf.opens);
    rises = stops.rises;
  }

  -- What follows behind the files before the last one runs the whole.
  behind_last : Runs at_last (record { shelf = before_last stops.count shelf; out = out; err = err }) (record { shelf = shelf'; out = out; err = err' }) status
      → Runs (library_by first next) (record { shelf = shelf; out = out; err = err }) (record { shelf = shelf'; out = out; err = err' }) status
  unfolding before_last
  behind_last further =
      run_behind_all (library_by first next) at_last stops.count shelf (before_last stops.count shelf) shelf' out out err err err' status
      (leads_behind shelf.held first (reads stops.name stops.next) stops.count next stops.leads)
      (record { held = refl; opens = refl; faults = refl }) refl further

module _ (first : Readings) (fault : LoadFault) (shelf shelf' : ShelfView) (out err err' : SinkView) (status : Status)
    (next : Result State Fault → Protocol) where
  abbrev Ends : Type 0
  Ends = Runs (library_by first next) (record { shelf = shelf; out = out; err = err }) (record { shelf = shelf'; out = out; err = err' }) status

  unread_ends : (stops : Stops first shelf shelf') → Tells fault (unread stops.name) → Rose shelf.faults shelf'.faults
      → IsLoadRefusal fault.file fault status err err' → Ends
  unfolding before_last
  unread_ends stops tells rose said =
      let line = refused_as fault (unread stops.name) status err err' tells said in
      behind_last first shelf shelf' out err err' status next stops
      (rw line.0 (unread_load stops.name (before_last stops.count shelf) shelf' out err err' rule_limits
      (λ f. refusal statuses.RulesRefused (document_line stops.name f)) (λ bytes found. library_by (stops.next (length bytes) found) next)
      (opened_last first shelf shelf' out err err' status next stops) rose line.1))

  malformed_ends : (wrong : XmlFault) (is : IsMalformed first wrong shelf shelf') → Tells fault (malformed is.stops.name wrong)
      → IsLoadRefusal fault.file fault status err err' → Ends
  unfolding before_last
  malformed_ends wrong is tells said =
      let stops = is.stops in
      let line = refused_as fault (malformed stops.name wrong) status err err' tells said in
      let last = opened_last first shelf shelf' out err err' status next stops in
      behind_last first shelf shelf' out err err' status next stops
      (rw line.0 (refused_load stops.name (before_last stops.count shelf) shelf' out err err' rule_limits statuses.RulesRefused
      (λ bytes found. library_by (stops.next (length bytes) found) next) wrong is.refused is.in_time tt
      (record { held = last.held; opens = last.opens; faults = is.quiet }) line.1))

  full_inside_ends : (stops : Stops first shelf shelf') → fault ≡ want_of_memory → IsLoadRefusal fault.file fault status err err' → Ends
  unfolding before_last
  full_inside_ends stops is said =
      let line = full_as fault status err err' is said in
      behind_last first shelf shelf' out err err' status next stops
      (rw line.0 (memory_inside stops.name (before_last stops.count shelf) shelf' out err err' (at_last first shelf shelf' out err err' status next stops)
      (λ files. omega arith) (opened_last first shelf shelf' out err err' status next stops) line.1))

  full_between_ends : (others : Readings) → fault ≡ want_of_memory → Reaches first others shelf shelf' → IsLoadRefusal fault.file fault status err err' → Ends
  full_between_ends others is reaches said =
      let line = full_as fault status err err' is said in
      rw (line.0, line.1) (behind_readings [] shelf shelf' shelf' out out err err err statuses.Memory refl first others next reaches
      (memory_here (library_by others next) shelf' out err))

-- A rule file that can't be had with its parts ends the job, whatever was to follow.
pub library_ends : (name : List ℕ) (fault : LoadFault) (status : Status) (shelf shelf' : ShelfView) (err err' : SinkView)
    → faults.Fails (library name) fault shelf shelf' → IsLoadRefusal fault.file fault status err err'
    → Fails (library_protocol name) status shelf shelf' err err'
unfolding library_protocol
library_ends name fault status shelf shelf' err err' (given wrong node tells reaches) said = λ next out.
    let refused = refused_as fault wrong status err err' tells said in
    let line : IsRefusedFile false wrong status err err' = subst (λ b. IsRefusedFile b wrong status err err') (node_is_read wrong.kind node) refused in
    rw line.0 (behind_readings name shelf shelf' shelf' out out err err err' statuses.RulesRefused refl (library name)
    (gives (Err wrong)) (by_joined next) reaches
    (refused_here statuses.RulesRefused (load_line wrong) shelf' out err err' tt line.1))
library_ends name fault status shelf shelf' err err' (unreadable stops tells rose) said = λ next out.
    unread_ends (library name) fault shelf shelf' out err err' status (by_joined next) stops tells rose said
library_ends name fault status shelf shelf' err err' (no_document wrong is tells) said = λ next out.
    malformed_ends (library name) fault shelf shelf' out err err' status (by_joined next) wrong is tells said
library_ends name fault status shelf shelf' err err' (full_between others is reaches) said = λ next out.
    full_between_ends (library name) fault shelf shelf' out err err' status (by_joined next) others is reaches said
library_ends name fault status shelf shelf' err err' (full_inside is stops) said = λ next out.
    full_inside_ends (library name) fault shelf shelf' out err err' status (by_joined next) stops is said
