-- The whole walk over a rule file.
use Rattle.std.proofs.Common.{◌≡◌, ℕ, ◌+◌, ◌<◌, false, List, [], ◌∷◌, length, Some, Ok, sym, ap, subst, ◌∙◌, arith}
use Rattle.inv_base.specs.Outside.{ShelfView}
use Rattle.rule_library.specs.Readings.{File, Readings, gives, total}
use Rattle.rule_library.specs.Reading.{IsReadAt}
use Rattle.rule_library.specs.Joining.{nothing_joined}
use Rattle.rule_library.specs.Walk.{entered, library}
use Rattle.rule_library.specs.Leads.{Leads, here, read, Reaches}
use Rattle.rule_library.specs.Faults.{Fails, want_of_memory, full_between}
use Rattle.rule_library.specs.Library.{Held, held_of, Loads}
use Rattle.rule_library.specs.Turns.{state_of, rest_of, IsOpen, AreOpen, Stands, Begins}
use Rattle.rule_library.specs.declared.faults.LoadFault.{LoadFault}
use Rattle.rule_library.specs.declared.walk.Frame.{Frame}
use Rattle.rule_library.specs.declared.walk.Walk.{Walk}
use Rattle.rule_library.proofs.TurnLemmas.{rest_by}
use Rattle.rule_library.proofs.LeadsLemmas.{reaches_join, reaches_from, fails_behind, fails_same}

-- the rule file itself, behind nothing
abbrev entered_first : File → Readings
entered_first file = entered 64 [] false file false (λ s. gives (Ok s)) (record { files = file ∷ []; joined = nothing_joined })

pub begins : (w : Walk) (file : File) → Begins file w → rest_of w ≡ entered_first file
unfolding entered
begins w file b = λ i. rest_by (b.files i) (b.top i) (b.outer i) (b.joined i)

pub stands_first : (w : Walk) (file : File) → Begins file w → w.length ≡ file.length → 0 < length file.document.nodes → Stands w
stands_first w file b long some = record {
  top = subst (λ (frame : Frame). IsOpen w.files.items frame) (sym b.top)
      (subst (λ (files : List File). IsOpen files first) (sym b.files)
      (record { file = omega arith; base = omega arith; at = λ n e. let same : 0 ≡ n = cc in subst (λ k. k < length file.document.nodes) same some }));
  outer = subst (λ (frames : List Frame). AreOpen w.files.items frames) (sym b.outer) tt;
  long = long ∙ (one file.length ∙ ap total (sym b.files));
  few = omega (arith, ap length b.files);
}
  where
    first : Frame
    first = record { file = 0; bare = false; base = 1; at = Some 0 }

    one : (n : ℕ) → n ≡ n + 0
    one n = omega arith

pub library_reads : (name : List ℕ) (file : File) (before after : ShelfView) → IsReadAt name 0 file before after →
    Reaches (library name) (entered_first file) before after
library_reads name file before after r = record {
  count = 1;
  has_read = r.has_read;
  leads = subst (λ (f : File). Leads before.held (library name) 1 (entered_first f)) (sym r.exactly) (read {n = 0} r.whole r.is here);
}

pub reaches_all : (name : List ℕ) (file : File) (w v : Walk) (before mid after : ShelfView) → IsReadAt name 0 file before mid → Begins file w
    → Reaches (rest_of w) (gives (Ok (state_of v))) mid after → Reaches (library name) (gives (Ok (state_of v))) before after
reaches_all name file w v before mid after r b h =
    reaches_join (library name) (entered_first file) (gives (Ok (state_of v))) before mid after (library_reads name file before mid r)
    (reaches_from (entered_first file) (rest_of w) (gives (Ok (state_of v))) mid after (sym (begins w file b)) h)

pub loads : (name : List ℕ) (file : File) (w v : Walk) (held : Held) (before mid after : ShelfView) → IsReadAt name 0 file before mid → Begins file w
    → Reaches (rest_of w) (gives (Ok (state_of v))) mid after → held ≡ held_of (state_of v) → Loads (library name) held before after
loads name file w v held before mid after r b h is = record { state = state_of v; reaches = reaches_all name file w v before mid after r b h; is = is }

pub load_fails : (name : List ℕ) (file : File) (w : Walk) (fault : LoadFault) (before mid after : ShelfView) → IsReadAt name 0 file before mid → Begins file w
    → Fails (rest_of w) fault mid after → Fails (library name) fault before after
load_fails name file w fault before mid after r b h =
    fails_behind (library name) (entered_first file) fault before mid after (library_reads name file before mid r)
    (fails_same (entered_first file) (rest_of w) fault mid after (sym (begins w file b)) h)

-- Memory ran out behind the first file.
pub load_full : (name : List ℕ) (file : File) (fault : LoadFault) (before after : ShelfView) → IsReadAt name 0 file before after → fault ≡ want_of_memory →
    Fails (library name) fault before after
load_full name file fault before after r is = full_between (entered_first file) is (library_reads name file before after r)

-- Memory ran out when all was joined.
pub load_full_behind : (name : List ℕ) (file : File) (w v : Walk) (fault : LoadFault) (before mid after : ShelfView) → IsReadAt name 0 file before mid →
    Begins file w
    → Reaches (rest_of w) (gives (Ok (state_of v))) mid after → fault ≡ want_of_memory → Fails (library name) fault before after
load_full_behind name file w v fault before mid after r b h is =
    full_between (gives (Ok (state_of v))) is (reaches_all name file w v before mid after r b h)
