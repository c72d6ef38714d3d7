-- The first fault tells a node of the document.
use Rattle.std.proofs.Common.{◌≡◌, ℕ, suc, ◌<◌, Bool, true, false, cond, List, [], ◌∷◌, ◌++◌, length, Option, Some, None, refl, sym, ◌∙◌, subst, arith}
use Rattle.std.specs.Prelude.{◌&&◌, nat_eq, filter, flat_map, is_some}
use Rattle.std.proofs.lemmas.Bool.{false≢true}
use Rattle.std.proofs.lemmas.Bool.Decides.{nat_tests}
use Rattle.inv_base.specs.Tree.{Node}
use Rattle.schematron_meaning.specs.declared.attribute.Attribute.TheVariants as a
use Rattle.schematron_meaning.specs.declared.fault.Fault.{Fault}
use Rattle.schematron_meaning.specs.declared.fault.RuleKind.TheVariants as k
use Rattle.schematron_meaning.specs.declared.fault.ExpressionFault.{ExpressionFault}
use Rattle.schematron_meaning.specs.Entries.{Entry, entries}
use Rattle.schematron_meaning.specs.Bodies.{is_cycle}
use Rattle.schematron_meaning.specs.Showing.{is_extends, declared_at, first_in}
use Rattle.schematron_meaning.specs.Expansion.{File, file_of}
use Rattle.schematron_meaning.specs.Written.{Written, all_written}
use Rattle.schematron_meaning.specs.Counts.{Tally, no_tally, added, tally_of, passes_any}
use Rattle.schematron_meaning.specs.Faults.{cycle, expression_fault, fault_of_written, refused, bad_expressions, too_many, faults_at, faults_behind, all_faults}
use Rattle.schematron_meaning.specs.Faults.{first_fault}
use Rattle.schematron_entries.specs.Order.{NumbersRise, NumbersAreBelow}
use Rattle.schematron_faults.specs.Read.{entry_at}
use Rattle.schematron_faults.proofs.EachLemmas.{Each}
use Rattle.schematron_faults.proofs.JoinLemmas.{rising, IsThere, IsAt, at-when, at-declared}
use Rattle.schematron_faults.proofs.FaultLemmas.{first_same}
use Rattle.schematron_faults.proofs.ThereLemmas.{IsTold, AreTold, EntryThere, entries_there, told_all}

-- The first tells an entry's number.
abbrev HeadThere : List Entry → List Fault → Type 0
HeadThere es [] = Unit {0}
HeadThere es (f ∷ fs) = IsThere es f.node

head-append : (es : List Entry) (fs gs : List Fault) → HeadThere es fs → HeadThere es gs → HeadThere es (fs ++ gs)
head-append es [] gs h k = k
head-append es (f ∷ fs) gs h k = h

head_at : (es : List Entry) (n : ℕ) (fs : List Fault) → IsThere es n → IsAt n fs → HeadThere es fs
head_at es n [] h k = tt
head_at es n (f ∷ fs) h k = subst (IsThere es) (sym k) h

head_refused : (es : List Entry) (w : Written) → IsTold es w → HeadThere es (refused w)
head_refused es w h = by (expression_fault w.is_pattern w.text w.scope)
  where
    by : (x : Option ExpressionFault) → HeadThere es (fault_of_written w x)
    by None = tt
    by (Some f) = h.holder

head_bad : (es : List Entry) (e : Entry) (ws : List Written) → AreTold es ws → HeadThere es (bad_expressions ws e)
head_bad es e [] h = tt
head_bad es e (w ∷ ws) h = by (nat_eq w.stand e.number) (head_bad es e ws h.1)
  where
    by : (test : Bool) → HeadThere es (bad_expressions ws e)
        → HeadThere es (flat_map refused (cond test (w ∷ filter (λ (v : Written). nat_eq v.stand e.number) ws)
        (filter (λ (v : Written). nat_eq v.stand e.number) ws)))
    by true rest = head-append es (refused w) (bad_expressions ws e) (head_refused es w h.0) rest
    by false rest = rest

head_faults : (file : File) (ws : List Written) (before : List Entry) (tally after : Tally) (e : Entry) → IsThere file.entries e.number →
    AreTold file.entries ws → HeadThere file.entries (faults_at file ws before tally after e)
head_faults file ws before tally after e there told =
    head-append file.entries (declared_at file.entries file.rules before e) _
    (head_at file.entries e.number (declared_at file.entries file.rules before e) there (at-declared file.entries file.rules before e))
    (head-append file.entries (cycle file e) _ (head_at file.entries e.number (cycle file e) there
    (at-when (is_extends e.role && is_cycle file.rules file.bodies e) k.Cycle (Some a.Rule) e))
    (head-append file.entries (bad_expressions ws e) _ (head_bad file.entries e ws told)
    (head_at file.entries e.number (too_many tally after e) there (at-when (passes_any tally after) k.TooMany None e))))

head_behind : (file : File) (ws : List Written) (before : List Entry) (tally : Tally) (es : List Entry) → Each (EntryThere file.entries) es →
    AreTold file.entries ws → HeadThere file.entries (faults_behind file ws before tally es)
head_behind file ws before tally [] h told = tt
head_behind file ws before tally (e ∷ es) h told =
    let after : Tally = added tally (tally_of file e) in
    head-append file.entries (faults_at file ws before tally after e) (faults_behind file ws (before ++ e ∷ []) after es)
    (head_faults file ws before tally after e h.0 told) (head_behind file ws (before ++ e ∷ []) after es h.1 told)

there_below : (count n : ℕ) (es : List Entry) → NumbersAreBelow count es → IsThere es n → n < count
there_below count n [] h k = absurd (false≢true k)
there_below count n (e ∷ es) h k = by (nat_eq e.number n) refl (there_below count n es (λ i d l. h (suc i) d (omega (arith, l))))
  where
    by : (test : Bool) → nat_eq e.number n ≡ test → (IsThere es n → n < count) → n < count
    by true t rest = let here : e.number < count = h 0 e (omega arith) in grind (arith, nat_tests)
    by false t rest = rest (subst (λ (c : Bool). is_some (cond c (Some e) (entry_at es n)) ≡ true) t k)

told_first : (es : List Entry) (fs : List Fault) (fault : Fault) → HeadThere es fs → first_in fs ≡ Some fault → IsThere es fault.node
told_first es [] fault h e = absurd (cc)
told_first es (f ∷ fs) fault h e = let same : f ≡ fault = cc in subst (λ (g : Fault). IsThere es g.node) same h

pub tells_node : (nodes : List Node) (fault : Fault) → NumbersRise (entries nodes) → NumbersAreBelow (length nodes) (entries nodes) →
    first_fault nodes ≡ Some fault → fault.node < length nodes
tells_node nodes fault rise below e =
    let file : File = file_of (entries nodes) in
    there_below (length nodes) fault.node (entries nodes) below
    (told_first (entries nodes) (all_faults file) fault
    (head_behind file (all_written file) [] no_tally (entries nodes) (entries_there (entries nodes) (rising (entries nodes) rise)) (told_all file rise))
    (sym (first_same nodes) ∙ e))
