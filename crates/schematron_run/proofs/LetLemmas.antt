-- Variables that are declared one after the other, and cut off again.
use Rattle.std.proofs.Common.{◌≡◌, ℕ, ◌+◌, ◌<◌, ◌≤◌, List, [], ◌∷◌, ◌++◌, length, map, take, drop, get_or, ap, sym, ◌∙◌, append_assoc, append-nil}
use Rattle.std.proofs.Math.Seq.{take-append_seam}
use Rattle.std.proofs.lemmas.List.{drop_all}
use Rattle.std.proofs.lemmas.Option.{slice_get-map}
use Rattle.std.specs.Prelude.{Option, Some, None, option_map, refl, slice_get}
use Rattle.inv_base.specs.Tree.{Node}
use Rattle.xpath_meaning.specs.Values.{Value}
use Rattle.xpath_meaning.specs.Meaning.{mean, at_top}
use Rattle.xpath_steps.specs.Variables.{ValueWithin, ValuesWithin}
use Rattle.schematron_meaning.specs.Rules.{Let as SeenLet, Phase as SeenPhase}
use Rattle.schematron_rules.specs.declared.rules.Let.{Let}
use Rattle.schematron_rules.specs.declared.rules.Phase.{Phase}
use Rattle.schematron_rules.specs.Seen.{seen_lets, seen_phase, seen_phases, lets_in}
use Rattle.schematron_run.specs.declared.ready.ReadyLet.{ReadyLet}
use Rattle.schematron_run.specs.Judging.{Variables, filled, lets_of}
use Rattle.schematron_run.specs.Ready.{ready_let}
use Rattle.schematron_run.proofs.ListLemmas.{drop_seen, all_seen}

pub fill_next : (nodes : List Node) (n : ℕ) (lets first : List ReadyLet) (k : ℕ) (d : ReadyLet) (env env' : Variables) {whole : Variables}
    → k < length lets → map ready_let lets ≡ map ready_let first → env' ≡ filled nodes n (ready_let (get_or lets k d) ∷ []) env
    → filled nodes n (drop k (map ready_let first)) env ≡ whole → filled nodes n (drop (k + 1) (map ready_let first)) env' ≡ whole
fill_next nodes n lets first k d env env' within same e h =
    ap (filled nodes n (drop (k + 1) (map ready_let first))) e
    ∙ (ap (λ ls. filled nodes n ls env) (sym (drop_seen ready_let lets first k d within same)) ∙ h)

pub fill_done : (nodes : List Node) (n : ℕ) (lets first : List ReadyLet) (k : ℕ) (env : Variables) {whole : Variables}
    → length lets ≤ k → map ready_let lets ≡ map ready_let first → filled nodes n (drop k (map ready_let first)) env ≡ whole → env ≡ whole
fill_done nodes n lets first k env l same h =
    ap (λ ls. filled nodes n ls env) (sym (drop_all k (map ready_let first) (all_seen ready_let lets first k l same))) ∙ h

pub put_within : (count : ℕ) (env : Variables) (v : List ℕ × Value) → ValuesWithin count env → ValueWithin count v.1 → ValuesWithin count (env ++ v ∷ [])
put_within count [] v h w = (w, tt)
put_within count (x ∷ env) v h w = (h.0, put_within count env v h.1 w)

filled_front : (nodes : List Node) (n : ℕ) (lets : List SeenLet) (outer : Variables) → (added : Variables) × (filled nodes n lets outer ≡ outer ++ added)
filled_front nodes n [] outer = ([], sym (append-nil outer))
filled_front nodes n (x ∷ lets) outer =
    let v : List ℕ × Value = (x.name, mean nodes x.value (at_top n outer)) in
    let r : (added : Variables) × (filled nodes n lets (outer ++ v ∷ []) ≡ (outer ++ v ∷ []) ++ added) = filled_front nodes n lets (outer ++ v ∷ []) in
    (v ∷ r.0, r.1 ∙ append_assoc outer (v ∷ []) r.0)

-- Behind a node or a pattern its variables are cut off.
pub cut_off : (nodes : List Node) (n : ℕ) (lets : List SeenLet) (outer : Variables) → take (length outer) (filled nodes n lets outer) ≡ outer
cut_off nodes n lets outer =
    let r : (added : Variables) × (filled nodes n lets outer ≡ outer ++ added) = filled_front nodes n lets outer in
    ap (take (length outer)) r.1 ∙ take-append_seam outer r.0

-- the lets of a phase, as the definitions have them

abbrev lets_found : Option SeenPhase → List SeenLet
lets_found found = elim found as (λ _. List SeenLet) [ None ↦ [] | Some phase ↦ phase.lets ]

found_so : (found : Option Phase) → seen_lets (elim found as (λ _. List Let) [ None ↦ [] | Some phase ↦ phase.lets ]) ≡ lets_found (option_map seen_phase found)
found_so None = refl
found_so (Some phase) = refl

pub phase_lets : (phases : List Phase) (n : ℕ) → seen_lets (lets_in phases n) ≡ lets_of (seen_phases phases) (Some n)
phase_lets phases n = found_so (slice_get phases n) ∙ sym (ap lets_found (slice_get-map seen_phase phases n))
