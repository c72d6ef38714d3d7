-- The first fault of a file that was read of a document's nodes.
use Rattle.std.proofs.Common.{◌≡◌, List, [], Option, refl, ap, sym, ◌∙◌, subst}
use Rattle.inv_base.specs.Tree.{Node}
use Rattle.schematron_meaning.specs.declared.fault.Fault.{Fault}
use Rattle.schematron_meaning.specs.Entries.{Entry, entries}
use Rattle.schematron_meaning.specs.Bodies.{abstract_rules}
use Rattle.schematron_meaning.specs.Expansion.{File, file_of}
use Rattle.schematron_meaning.specs.Written.{Written, all_written}
use Rattle.schematron_meaning.specs.Showing.{first_in, declared_behind, first_declared}
use Rattle.schematron_meaning.specs.Faults.{cycle, all_faults, first_fault}
use Rattle.schematron_entries.specs.Order.{NumbersRise}
use Rattle.schematron_expansion.specs.declared.found.Found.{Found}
use Rattle.schematron_expansion.specs.Found.{first_by, sooner}
use Rattle.schematron_faults.specs.Passing.{first_passing}
use Rattle.schematron_faults.specs.Joining.{at_itself, place_of, fault_of}
use Rattle.schematron_faults.specs.Least.{least, soonest}
use Rattle.schematron_faults.specs.Read.{IsRead}
use Rattle.schematron_faults.proofs.EachLemmas.{each-weaker}
use Rattle.schematron_faults.proofs.FoundLemmas.{sooner-assoc}
use Rattle.schematron_faults.proofs.JoinLemmas.{declared_found, declared_itself, first_joined, IsThere}
use Rattle.schematron_faults.proofs.LastLemmas.{soonest_last}
use Rattle.schematron_faults.proofs.ThereLemmas.{IsTold, told_all}

declared_same : (es : List Entry) → first_declared es ≡ first_in (declared_behind es (abstract_rules es) [] es)
unfolding first_declared
declared_same es = refl

pub first_same : (nodes : List Node) → first_fault nodes ≡ first_in (all_faults (file_of (entries nodes)))
unfolding first_fault
first_same nodes = refl

is_read : (nodes : List Node) (file : File) → NumbersRise (entries nodes) → file ≡ file_of (entries nodes) → IsRead file
is_read nodes file rise e = record {
  rises = subst (λ (f : File). NumbersRise f.entries) (sym e) rise;
  is = e ∙ sym (ap (λ (f : File). file_of f.entries) e);
}

-- what the calls found, joined
joined : (file : File) (declared : Option Fault) (turned passing best found : Option Found) → IsRead file → declared ≡ first_declared file.entries →
    turned ≡ first_by (cycle file) file.entries
    → passing ≡ first_passing file → best ≡ sooner (at_itself declared) turned → found ≡ soonest best (place_of passing) (all_written file)
    → fault_of (sooner found passing) ≡ first_in (all_faults file)
joined file declared turned passing best found is d c p b x =
    let ws : List Written = all_written file in
    let whole : Option Found = sooner (least ws) passing in
    let rules : file.rules ≡ abstract_rules file.entries = ap (λ (f : File). f.rules) is.is in
    let itself : at_itself declared ≡ declared_found file.entries file.rules [] file.entries =
    ap at_itself (d ∙ (declared_same file.entries ∙ sym (ap (λ (rs : List Entry). first_in (declared_behind file.entries rs [] file.entries)) rules))) ∙
    sym (declared_itself file.entries file.rules [] file.entries) in
    ap (λ (y : Option Found). fault_of (sooner y passing)) x
    ∙ (ap fault_of (soonest_last best passing ws ∙ (ap (λ (y : Option Found). sooner y whole) b ∙ sooner-assoc (at_itself declared) turned whole))
    ∙ (ap (λ (y : Option Found). fault_of (sooner y (sooner turned whole))) itself
    ∙ (ap (λ (y : Option Found). fault_of (sooner (declared_found file.entries file.rules [] file.entries) (sooner y whole))) c
    ∙ (ap (λ (y : Option Found). fault_of (sooner (declared_found file.entries file.rules [] file.entries)
    (sooner (first_by (cycle file) file.entries) (sooner (least ws) y)))) p
    ∙ sym (first_joined file is.rises (each-weaker (IsTold file.entries) (λ (w : Written). IsThere file.entries w.stand) ws (λ w t. t.stand)
    (told_all file is.rises)))))))

pub first_found : (nodes : List Node) (file : File) (declared : Option Fault) (turned passing best found : Option Found) → NumbersRise (entries nodes) →
    file ≡ file_of (entries nodes)
    → declared ≡ first_declared file.entries → turned ≡ first_by (cycle file) file.entries
    → passing ≡ first_passing file → best ≡ sooner (at_itself declared) turned → (IsRead file → found ≡ soonest best (place_of passing) (all_written file))
    → fault_of (sooner found passing) ≡ first_fault nodes
first_found nodes file declared turned passing best found rise e d c p b x = joined file declared turned passing best found (is_read nodes file rise e) d c p b
    (x (is_read nodes file rise e))
    ∙ (ap (λ (f : File). first_in (all_faults f)) e ∙ sym (first_same nodes))
