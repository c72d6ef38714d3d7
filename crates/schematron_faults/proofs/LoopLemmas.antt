-- Loops over lets, rules and phases.
use Rattle.std.proofs.Common.{◌≡◌, ℕ, zero, suc, ◌+◌, ◌<◌, ◌≤◌, Bool, true, false, cond, List, [], ◌∷◌, ◌++◌, length, take, get_or, map, Option, None, refl, ap}
use Rattle.std.proofs.Common.{sym, ◌∙◌, subst, arith, append-nil}
use Rattle.std.specs.Prelude.{flat_map}
use Rattle.std.proofs.lemmas.Grind.{flat_map-append}
use Rattle.std.proofs.lemmas.List.{take_more, take_all, map-append}
use Rattle.xpath_types.specs.Scopes.{Declared}
use Rattle.schematron_texts.specs.Replacing.{Parameter}
use Rattle.schematron_meaning.specs.declared.attribute.Attribute.TheVariants as a
use Rattle.schematron_meaning.specs.Entries.{Entry}
use Rattle.schematron_meaning.specs.Lookup.{is_let, is_phase, of_role, inside}
use Rattle.schematron_meaning.specs.Expansion.{File, Inclusion, Instance}
use Rattle.schematron_meaning.specs.Written.{Written, written, written_let, written_lets, with_let, with_lets, lets_among, written_puts, written_items}
use Rattle.schematron_meaning.specs.Written.{written_pattern}
use Rattle.schematron_expansion.specs.declared.instances.Instance.{Instance as Made}
use Rattle.schematron_expansion.specs.Seen.{seen_instance}
use Rattle.schematron_faults.specs.declared.search.Search.{Search}
use Rattle.schematron_faults.specs.Read.{IsItem, AreItems}
use Rattle.schematron_faults.specs.Searching.{Goes}
use Rattle.schematron_faults.specs.Things.{written_put, with_entry, with_entries, written_parts, written_item}
use Rattle.schematron_faults.specs.Phases.{written_phases_of}
use Rattle.schematron_faults.proofs.CopyLemmas.{puts_next, lets_next}
use Rattle.schematron_faults.proofs.ThereLemmas.{items_next}
use Rattle.schematron_faults.proofs.EachLemmas.{Each}
use Rattle.schematron_faults.proofs.SearchLemmas.{goes-append, goes_turn}

-- what is still to be declared
pub scope_turn : (params : List Parameter) (scope new whole : Declared) (e : Entry) (left rest : List Entry) → left ≡ e ∷ rest → new ≡ with_let params scope e →
    with_lets params scope left ≡ whole → with_lets params new rest ≡ whole
scope_turn params scope new whole e left rest l n h = ap (λ (d : Declared). with_lets params d rest) n ∙ (sym (ap (with_lets params scope) l) ∙ h)

pub plain_scope_turn : (params : List Parameter) (scope new whole : Declared) (e : Entry) (left rest : List Entry) → params ≡ [] → left ≡ e ∷ rest →
    new ≡ with_let params scope e → with_lets [] scope left ≡ whole → with_lets [] new rest ≡ whole
plain_scope_turn params scope new whole e left rest p l n h =
    scope_turn [] scope new whole e left rest l (n ∙ ap (λ (ps : List Parameter). with_let ps scope e) p) h

pub lets_turn : (init s t : Search) (whole : List Written) (params : List Parameter) (scope new : Declared) (e : Entry) (left rest : List Entry) → params ≡ [] →
    left ≡ e ∷ rest → new ≡ with_let params scope e
    → Goes s t (written_let None params scope e) → ((u : Search) → Goes s u (written_lets scope left) → Goes init u whole) → (u : Search) →
    Goes t u (written_lets new rest) → Goes init u whole
lets_turn init s t whole params scope new e left rest p l n g h = goes_turn init s t whole (written_lets scope left) (written_let None params scope e)
    (written_lets new rest)
    (ap (written_lets scope) l ∙ (ap (λ (ps : List Parameter). written_let None ps scope e ++ written_lets (with_let ps scope e) rest) (sym p) ∙
    ap (λ (d : Declared). written_let None params scope e ++ written_lets d rest) (sym n))) g h

pub parts_turn : (init s t : Search) (whole : List Written) (stand : Option ℕ) (params : List Parameter) (all : Declared) (e : Entry) (left rest : List Entry) →
    left ≡ e ∷ rest
    → Goes s t (written a.Select false stand params all e) → ((u : Search) → Goes s u (written_parts stand params all left) → Goes init u whole) → (u : Search)
    → Goes t u (written_parts stand params all rest) → Goes init u whole
parts_turn init s t whole stand params all e left rest l g h =
    goes_turn init s t whole (written_parts stand params all left) (written a.Select false stand params all e) (written_parts stand params all rest)
    (ap (written_parts stand params all) l) g h

pub puts_turn : (init s t : Search) (whole : List Written) (es : List Entry) (params : List Parameter) (all before new : Declared) (inclusion : Inclusion)
    (left rest : List Inclusion) → left ≡ inclusion ∷ rest → new ≡ with_entry params before inclusion.entry
    → Goes s t (written_put es params all before inclusion) → ((u : Search) → Goes s u (written_puts es params all before left) → Goes init u whole)
    → (u : Search) →
    Goes t u (written_puts es params all new rest) → Goes init u whole
puts_turn init s t whole es params all before new inclusion left rest l n g h =
    goes_turn init s t whole (written_puts es params all before left) (written_put es params all before inclusion) (written_puts es params all new rest)
    (ap (written_puts es params all before) l ∙ (puts_next es params all before inclusion rest ∙
    ap (λ (d : Declared). written_put es params all before inclusion ++ written_puts es params all d rest) (sym n))) g h

pub puts_scope_turn : (params : List Parameter) (before new whole : Declared) (inclusion : Inclusion) (left rest : List Inclusion) → left ≡ inclusion ∷ rest →
    new ≡ with_entry params before inclusion.entry
    → with_lets params before (lets_among left) ≡ whole → with_lets params new (lets_among rest) ≡ whole
puts_scope_turn params before new whole inclusion left rest l n h = ap (λ (d : Declared). with_lets params d (lets_among rest)) n ∙
    (sym (lets_next params before inclusion rest) ∙ (sym (ap (λ (ps : List Inclusion). with_lets params before (lets_among ps)) l) ∙ h))

pub items_turn : (init s t : Search) (whole : List Written) (file : File) (instance : Instance) (all all' before new : Declared) (e : Entry)
    (left rest : List Entry) → left ≡ e ∷ rest → new ≡ with_entry instance.params before e → all' ≡ all
    → Goes s t (written_item file instance all before e) → ((u : Search) → Goes s u (written_items file instance all before left) → Goes init u whole) →
    (u : Search) → Goes t u (written_items file instance all' new rest) → Goes init u whole
items_turn init s t whole file instance all all' before new e left rest l n k g h =
    goes_turn init s t whole (written_items file instance all before left) (written_item file instance all before e) (written_items file instance all' new rest)
    (ap (written_items file instance all before) l ∙ (items_next file instance all before e rest
    ∙ (ap (λ (d : Declared). written_item file instance all before e ++ written_items file instance all d rest) (sym n) ∙
    ap (λ (d : Declared). written_item file instance all before e ++ written_items file instance d new rest) (sym k)))) g h

pub items_scope_turn : (params : List Parameter) (before new whole : Declared) (e : Entry) (left rest : List Entry) → left ≡ e ∷ rest →
    new ≡ with_entry params before e
    → with_entries params before left ≡ whole → with_entries params new rest ≡ whole
items_scope_turn params before new whole e left rest l n h = ap (λ (d : Declared). with_entries params d rest) n ∙ (sym (ap (with_entries params before) l) ∙ h)

pub first_item : (es left rest : List Entry) (e : Entry) → left ≡ e ∷ rest → AreItems es left → IsItem es e × AreItems es rest
first_item es left rest e l h = subst (AreItems es) l h

phases_cons : (all : List Entry) (scope : Declared) (e : Entry) (rest : List Entry) →
    written_phases_of all scope (e ∷ rest) ≡ written_phases_of all scope (e ∷ []) ++ written_phases_of all scope rest
phases_cons all scope e rest = by (is_phase e.role)
  where
    by : (test : Bool) → flat_map (λ (phase : Entry). written_lets scope (inside is_let all phase.number))
        (cond test (e ∷ of_role is_phase rest) (of_role is_phase rest))
        ≡ flat_map (λ (phase : Entry). written_lets scope (inside is_let all phase.number)) (cond test (e ∷ []) []) ++ written_phases_of all scope rest
    by true = ap (λ (ws : List Written). ws ++ written_phases_of all scope rest) (sym (append-nil (written_lets scope (inside is_let all e.number))))
    by false = refl

pub phases_turn : (init s t : Search) (whole : List Written) (all : List Entry) (scope new : Declared) (e : Entry) (left rest : List Entry) → left ≡ e ∷ rest →
    new ≡ scope
    → Goes s t (written_phases_of all scope (e ∷ [])) → ((u : Search) → Goes s u (written_phases_of all scope left) → Goes init u whole) → (u : Search) →
    Goes t u (written_phases_of all new rest) → Goes init u whole
phases_turn init s t whole all scope new e left rest l n g h =
    goes_turn init s t whole (written_phases_of all scope left) (written_phases_of all scope (e ∷ [])) (written_phases_of all new rest)
    (ap (written_phases_of all scope) l ∙ (phases_cons all scope e rest ∙
    ap (λ (d : Declared). written_phases_of all scope (e ∷ []) ++ written_phases_of all d rest) (sym n))) g h

written_more : (file : File) (outer : Declared) (xs : List Made) (k : ℕ) (x : Made) → k < length xs → x ≡ get_or xs k x
    → flat_map (written_pattern file outer) (map seen_instance (take (k + 1) xs)) ≡ flat_map (written_pattern file outer) (map seen_instance (take k xs)) ++
    written_pattern file outer (seen_instance x)
written_more file outer xs k x l at = ap (λ (ys : List Made). flat_map (written_pattern file outer) (map seen_instance ys))
    (take_more xs k x l ∙ ap (λ (y : Made). take k xs ++ y ∷ []) (sym at))
    ∙ (ap (flat_map (written_pattern file outer)) (map-append seen_instance (take k xs) (x ∷ []))
    ∙ (flat_map-append (written_pattern file outer) (map seen_instance (take k xs)) (seen_instance x ∷ [])
    ∙ ap (λ (ws : List Written). flat_map (written_pattern file outer) (map seen_instance (take k xs)) ++ ws)
    (append-nil (written_pattern file outer (seen_instance x)))))

pub patterns_more : (file : File) (outer : Declared) (xs : List Made) (k : ℕ) (x : Made) (init s t : Search) → k < length xs → x ≡ get_or xs k x
    → Goes init s (flat_map (written_pattern file outer) (map seen_instance (take k xs))) → Goes s t (written_pattern file outer (seen_instance x))
    → Goes init t (flat_map (written_pattern file outer) (map seen_instance (take (k + 1) xs)))
patterns_more file outer xs k x init s t l at g h = subst (Goes init t) (sym (written_more file outer xs k x l at))
    (goes-append init s t (flat_map (written_pattern file outer) (map seen_instance (take k xs))) (written_pattern file outer (seen_instance x)) g h)

pub patterns_end : (file : File) (outer : Declared) (xs : List Made) (is : List Instance) (k : ℕ) (init s : Search) → map seen_instance xs ≡ is → length xs ≤ k
    → Goes init s (flat_map (written_pattern file outer) (map seen_instance (take k xs))) → Goes init s (flat_map (written_pattern file outer) is)
patterns_end file outer xs is k init s e l g = subst (λ (js : List Instance). Goes init s (flat_map (written_pattern file outer) js))
    (ap (map seen_instance) (take_all k xs l) ∙ e) g

-- ---- what holds of each pattern

pub each_taken : {X Y : Type 0} (P : Y → Type 0) (f : X → Y) (xs : List X) (k : ℕ) → Each P (map f xs) → Each P (map f (take k xs))
each_taken P f [] zero h = tt
each_taken P f [] (suc k) h = tt
each_taken P f (x ∷ xs) zero h = tt
each_taken P f (x ∷ xs) (suc k) h = (h.0, each_taken P f xs k h.1)

pub each_item : {X Y : Type 0} (P : Y → Type 0) (f : X → Y) (xs : List X) (k : ℕ) (x : X) → Each P (map f xs) → k < length xs → P (f (get_or xs k x))
each_item P f [] k x h l = absurd (omega (arith, l))
each_item P f (y ∷ xs) zero x h l = h.0
each_item P f (y ∷ xs) (suc k) x h l = each_item P f xs k x h.1 (omega (arith, l))
