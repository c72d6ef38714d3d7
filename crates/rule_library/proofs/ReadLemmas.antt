-- A file that is read, and kept behind the others.
use Rattle.std.proofs.Common.{◌≡◌, ◌≢◌, ℕ, ◌+◌, ◌<◌, ◌≤◌, inl, inr, Bool, false, List, [], ◌∷◌, ◌++◌, length, refl, sym, ap, subst, ◌∙◌, arith, length-append}
use Rattle.std.specs.Prelude.{nat_le}
use Rattle.std.proofs.Math.Seq.{get_or-append_seam}
use Rattle.inv_base.specs.Counts.{next_count, Rose}
use Rattle.inv_base.specs.Outside.{ShelfView}
use Rattle.xml_profile.specs.Profile as profile
use Rattle.xml_state.specs.declared.fault.XmlFault.{XmlFault}
use Rattle.node_arena.specs.Document.{Document}
use Rattle.xml_document.specs.Loading.{IsRefused, StopsInTime, IsLoadedOf}
use Rattle.xml_document.specs.declared.loading.LoadFault.{LoadFault as FileFault}
use Rattle.xml_document.specs.declared.loading.LoadFault.TheVariants as file_faults
use Rattle.xml_state.specs.Sizes.{rule_limits}
use Rattle.rule_library.specs.Readings.{File, Readings, reads, file_at, no_file, file_behind, total}
use Rattle.rule_library.specs.Reading.{IsReadAt}
use Rattle.rule_library.specs.Leads.{Leads, here, read, Reaches, Stops, told_under}
use Rattle.rule_library.specs.Faults.{TellsOfFile, want_of_memory, Fails, unreadable, no_document, full_between, full_inside}
use Rattle.rule_library.specs.Walk.{with_file, read_by}
use Rattle.rule_library.specs.Turns.{Open, top_of, outer_of, state_of, opened, all_opened, enter_in, asking, behind_part, new_rest, found_by, found_rest}
use Rattle.rule_library.specs.Turns.{IsOpen, AreOpen, Stands, StandsAt, Keeps}
use Rattle.rule_library.specs.declared.faults.LoadFault.{LoadFault}
use Rattle.rule_library.specs.declared.walk.Frame.{Frame}
use Rattle.rule_library.specs.declared.walk.Walk.{Walk}
use Rattle.rule_library.proofs.TurnLemmas.{all_opened-more_files, opened-more_files, IsOpen-more, AreOpen-more}

pub was_read : (name kept : List ℕ) (start count : ℕ) (doc : Document) (before after : ShelfView) → kept ≡ name →
    IsLoadedOf rule_limits (told_under name before.held) count doc
    → after.held ≡ before.held → after.opens ≡ next_count before.opens → after.faults ≡ before.faults
    → IsReadAt name start (record { name = kept; length = count; start = start; document = doc }) before after
was_read name kept start count doc before after e l h o f = record {
  content = l.loaded.content;
  found = l.loaded.found;
  whole = l.loaded.whole;
  is = l.loaded.is;
  exactly = λ i. record { name = e i; length = l.counted i; start = start; document = l.loaded.exactly i };
  has_read = record { held = h; opens = o; faults = f };
}

pub file_fails : (name : List ℕ) (next : ℕ → profile.Document → Readings) (fault : FileFault) (answer : LoadFault) (before after : ShelfView)
    → TellsOfFile name fault answer
    → after.held ≡ before.held → after.opens ≡ next_count before.opens → before.faults ≤ after.faults
    → (fault ≡ file_faults.Read → Rose before.faults after.faults)
    → (fault ≢ file_faults.Read → after.faults ≡ before.faults)
    → ((wrong : XmlFault) → fault ≡ file_faults.Refused wrong → IsRefused rule_limits (told_under name before.held) wrong)
    → ((wrong : XmlFault) → fault ≡ file_faults.Refused wrong → StopsInTime rule_limits (told_under name before.held) after.left)
    → Fails (reads name next) answer before after
file_fails name next fault answer before after tells held opens rises rose quiet refused stops = by_fault fault tells rose quiet refused stops
  where
    stopped : Stops (reads name next) before after
    stopped = record { count = 0; name = name; next = next; held = held; opens = opens; rises = rises; leads = here }

    by_fault : (fault : FileFault) → TellsOfFile name fault answer → (fault ≡ file_faults.Read → Rose before.faults after.faults)
        → (fault ≢ file_faults.Read → after.faults ≡ before.faults)
        → ((wrong : XmlFault) → fault ≡ file_faults.Refused wrong → IsRefused rule_limits (told_under name before.held) wrong)
        → ((wrong : XmlFault) → fault ≡ file_faults.Refused wrong → StopsInTime rule_limits (told_under name before.held) after.left)
        → Fails (reads name next) answer before after
    by_fault file_faults.Read (inl e) r q f s = unreadable stopped e (r refl)
    by_fault (file_faults.Refused wrong) (inl e) r q f s =
        no_document wrong (record { stops = stopped; quiet = q (λ x. cc); refused = f wrong refl; in_time = s wrong refl }) e
    by_fault file_faults.Memory e r q f s = full_inside e stopped
    by_fault file_faults.Read (inr e) r q f s = full_inside e stopped
    by_fault (file_faults.Refused wrong) (inr e) r q f s = full_inside e stopped

pub total-more : (files : List File) (file : File) → total (files ++ file ∷ []) ≡ total files + file.length
total-more [] file = omega arith
total-more (other ∷ files) file = omega (arith, total-more files file)

-- ---- the walk with one file more

pub outer-kept : (w v : Walk) (k : ℕ) (file : File) → Stands w → Keeps k file w v → outer_of v ≡ outer_of w
outer-kept w v k file h e =
    ap (λ (files : List File). all_opened files [] v.outer.items) e.files
    ∙ (ap (all_opened (w.files.items ++ file ∷ []) []) e.outer ∙ all_opened-more_files w.files.items (file ∷ []) [] w.outer.items h.outer)

pub top-kept : (w v : Walk) (k : ℕ) (file : File) → Stands w → Keeps k file w v → top_of v ≡ top_of w
top-kept w v k file h e =
    ap (λ (files : List File). opened files (outer_of v) v.top) e.files
    ∙ (ap (λ (frame : Frame). opened (w.files.items ++ file ∷ []) (outer_of v) frame) e.top
    ∙ (ap (λ (outer : List Open). opened (w.files.items ++ file ∷ []) outer w.top) (outer-kept w v k file h e)
    ∙ opened-more_files w.files.items (file ∷ []) (outer_of w) w.top h.top.file))

pub file-kept : (w v : Walk) (k : ℕ) (file : File) → Keeps k file w v → file_at k v.files.items ≡ file
file-kept w v k file e =
    ap (λ (files : List File). file_at k files) e.files
    ∙ (ap (λ n. file_at n (w.files.items ++ file ∷ [])) e.number ∙ get_or-append_seam w.files.items file [] no_file)

pub within-kept : (w v : Walk) (k : ℕ) (file : File) → Keeps k file w v → k < length v.files.items
within-kept w v k file e = omega (arith, ap length e.files, length-append w.files.items (file ∷ []), e.number)

pub stands-kept : (w v : Walk) (file : File) → Stands w → v.files.items ≡ w.files.items ++ file ∷ [] → v.top ≡ w.top → v.outer.items ≡ w.outer.items →
    length w.files.items < 64
    → v.length ≡ w.length + file.length → Stands v
stands-kept w v file h files_are top_is outer_is few long = record {
  top = subst (λ (frame : Frame). IsOpen v.files.items frame) (sym top_is)
      (subst (λ (files : List File). IsOpen files w.top) (sym files_are) (IsOpen-more w.files.items (file ∷ []) w.top h.top));
  outer = subst (λ (frames : List Frame). AreOpen v.files.items frames) (sym outer_is)
      (subst (λ (files : List File). AreOpen files w.outer.items) (sym files_are) (AreOpen-more w.files.items (file ∷ []) w.outer.items h.outer));
  long = long ∙ (ap (λ n. n + file.length) h.long ∙ (sym (total-more w.files.items file) ∙ ap total (sym files_are)));
  few = omega (arith, ap length files_are, length-append w.files.items (file ∷ []));
}

pub at-kept : (w v : Walk) (n k : ℕ) (file : File) → StandsAt w n → Keeps k file w v → Stands v → StandsAt v n
at-kept w v n k file h e stands = record {
  stands = stands;
  here = ap (λ (frame : Frame). frame.at) e.top ∙ h.here;
  within = subst (λ (o : Open). n < length o.way.file.document.nodes) (sym (top-kept w v k file h.stands e)) h.within;
}

-- The readings go on with the file that was read.
pub reads_part : (w v : Walk) (n k : ℕ) (bare : Bool) (name : List ℕ) (file : File) (before after : ShelfView)
    → Stands w → nat_le 64 (length w.files.items) ≡ false → IsReadAt name w.length file before after → Keeps k file w v
    → Reaches (new_rest w n bare name) (found_rest v n bare k) before after
reads_part w v n k bare name file before after h few r e =
    let enter = enter_in (top_of w).way in
    let next = behind_part (top_of w) (outer_of w) n in
    let kept : File = file_behind w.files.items name (length r.content) r.found in
    let is : file ≡ kept = r.exactly ∙ (λ i. record { name = name; length = length r.content; start = h.long i; document = kept.document }) in
    let state : with_file kept (state_of w) ≡ state_of v =
    λ i. record { files = (ap (λ (f : File). w.files.items ++ f ∷ []) (sym is) ∙ sym e.files) i; joined = sym e.joined i } in
    let there : found_by (top_of w) (outer_of w) n bare (with_file kept (state_of w)) kept ≡ found_rest v n bare k =
    λ i. found_by (sym (top-kept w v k file h e) i) (sym (outer-kept w v k file h e) i) n bare (state i) ((sym is ∙ sym (file-kept w v k file e)) i) in
    record {
      count = 1;
      has_read = r.has_read;
      leads = subst (λ (first : Readings). Leads before.held first 1 (found_rest v n bare k))
          (sym (ap (read_by enter (asking (top_of w) n bare) name next (state_of w)) few))
          (subst (λ (last : Readings). Leads before.held (read_by enter (asking (top_of w) n bare) name next (state_of w) false) 1 last) there
          (read {n = 0} r.whole r.is here));
    }

-- What fails where a part is read.
pub part_fails : (w : Walk) (n : ℕ) (bare : Bool) (name : List ℕ) (fault : LoadFault) (before after : ShelfView) → nat_le 64 (length w.files.items) ≡ false
    → ((next : ℕ → profile.Document → Readings) → Fails (reads name next) fault before after) → Fails (new_rest w n bare name) fault before after
part_fails w n bare name fault before after few fails =
    subst (λ (first : Readings). Fails first fault before after)
    (sym (ap (read_by (enter_in (top_of w).way) (asking (top_of w) n bare) name (behind_part (top_of w) (outer_of w) n) (state_of w)) few)) (fails _)

-- Memory ran out behind a part that was read.
pub full_behind : (w : Walk) (n : ℕ) (bare : Bool) (name : List ℕ) (file : File) (fault : LoadFault) (before after : ShelfView) →
    nat_le 64 (length w.files.items) ≡ false
    → IsReadAt name w.length file before after → fault ≡ want_of_memory → Fails (new_rest w n bare name) fault before after
full_behind w n bare name file fault before after few r is =
    part_fails w n bare name fault before after few
    (λ next. full_between (next (length r.content) r.found) is (record { count = 1; has_read = r.has_read; leads = read {n = 0} r.whole r.is here }))
