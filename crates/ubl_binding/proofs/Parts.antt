-- A table is well formed where it is part by part: each part is computed by itself, since a lemma has a limit on its
-- steps.
use Rattle.std.proofs.Common.{◌≡◌, ℕ, zero, suc, ◌+◌, List, [], ◌∷◌, take, drop, Option, Some, None, Result, Ok, refl, subst, arith}
use Rattle.bind_rows.specs.declared.rows.Row.{Row}
use Rattle.bind_rows.specs.Added.{built}
use Rattle.bind_table.specs.declared.judging.TableKind.{TableKind}
use Rattle.bind_table.specs.declared.judging.TableFault.{TableFault}
use Rattle.bind_table.specs.WellFormed.{told, fault_of, first_fault_from, first_fault}
use Rattle.term_table.specs.SemanticModel.{terms, extension_rows, listing_rows}
use Rattle.term_table.specs.Groups.{parent_of, occurrence_of}
use Rattle.ubl_binding.specs.Tables.{invoice_listing, invoice_rows, credit_note_listing, credit_note_rows}

told-ok : (k : ℕ) (fault : Option TableKind) (r s : Result (Unit {0}) TableFault) → (r ≡ Ok tt → s ≡ Ok tt) → told k fault r ≡ Ok tt → told k fault s ≡ Ok tt
told-ok k None r s goes h = goes h
told-ok k (Some kind) r s goes h = cc

-- the first rows of a list, and then the others, whose first has the number m
sound : (rows own : List Row) (n k m : ℕ) (others : List Row) → k + n ≡ m → first_fault_from rows own k (take n others) ≡ Ok tt
    → first_fault_from rows own m (drop n others) ≡ Ok tt → first_fault_from rows own k others ≡ Ok tt
sound rows own zero k m others e front back = subst (λ j. first_fault_from rows own j others ≡ Ok tt) (let f : m ≡ k = omega arith in f) back
sound rows own (suc n) k m [] e front back = refl
sound rows own (suc n) k m (row ∷ others) e front back =
    told-ok k (fault_of rows own k row) (first_fault_from rows own (k + 1) (take n others)) (first_fault_from rows own (k + 1) others)
    (λ h. sound rows own n (k + 1) m others (omega arith) h back) front

-- ---- invoice

invoice_0 : first_fault_from invoice_rows (built invoice_rows) 0 (take 40 invoice_rows) ≡ Ok tt
unfolding terms extension_rows listing_rows parent_of occurrence_of invoice_listing invoice_rows
invoice_0 = refl

invoice_40 : first_fault_from invoice_rows (built invoice_rows) 40 (take 40 (drop 40 invoice_rows)) ≡ Ok tt
unfolding terms extension_rows listing_rows parent_of occurrence_of invoice_listing invoice_rows
invoice_40 = refl

invoice_80 : first_fault_from invoice_rows (built invoice_rows) 80 (take 40 (drop 40 (drop 40 invoice_rows))) ≡ Ok tt
unfolding terms extension_rows listing_rows parent_of occurrence_of invoice_listing invoice_rows
invoice_80 = refl

invoice_120 : first_fault_from invoice_rows (built invoice_rows) 120 (take 40 (drop 40 (drop 40 (drop 40 invoice_rows)))) ≡ Ok tt
unfolding terms extension_rows listing_rows parent_of occurrence_of invoice_listing invoice_rows
invoice_120 = refl

invoice_160 : first_fault_from invoice_rows (built invoice_rows) 160 (drop 40 (drop 40 (drop 40 (drop 40 invoice_rows)))) ≡ Ok tt
unfolding terms extension_rows listing_rows parent_of occurrence_of invoice_listing invoice_rows
invoice_160 = refl

pub invoice_sound : first_fault invoice_rows ≡ Ok tt
invoice_sound =
    sound invoice_rows (built invoice_rows) 40 0 40 invoice_rows refl invoice_0
    (sound invoice_rows (built invoice_rows) 40 40 80 (drop 40 invoice_rows) refl invoice_40
    (sound invoice_rows (built invoice_rows) 40 80 120 (drop 40 (drop 40 invoice_rows)) refl invoice_80
    (sound invoice_rows (built invoice_rows) 40 120 160 (drop 40 (drop 40 (drop 40 invoice_rows))) refl invoice_120 (invoice_160))))

-- ---- credit_note

credit_note_0 : first_fault_from credit_note_rows (built credit_note_rows) 0 (take 40 credit_note_rows) ≡ Ok tt
unfolding terms extension_rows listing_rows parent_of occurrence_of credit_note_listing credit_note_rows
credit_note_0 = refl

credit_note_40 : first_fault_from credit_note_rows (built credit_note_rows) 40 (take 40 (drop 40 credit_note_rows)) ≡ Ok tt
unfolding terms extension_rows listing_rows parent_of occurrence_of credit_note_listing credit_note_rows
credit_note_40 = refl

credit_note_80 : first_fault_from credit_note_rows (built credit_note_rows) 80 (take 40 (drop 40 (drop 40 credit_note_rows))) ≡ Ok tt
unfolding terms extension_rows listing_rows parent_of occurrence_of credit_note_listing credit_note_rows
credit_note_80 = refl

credit_note_120 : first_fault_from credit_note_rows (built credit_note_rows) 120 (take 40 (drop 40 (drop 40 (drop 40 credit_note_rows)))) ≡ Ok tt
unfolding terms extension_rows listing_rows parent_of occurrence_of credit_note_listing credit_note_rows
credit_note_120 = refl

credit_note_160 : first_fault_from credit_note_rows (built credit_note_rows) 160 (drop 40 (drop 40 (drop 40 (drop 40 credit_note_rows)))) ≡ Ok tt
unfolding terms extension_rows listing_rows parent_of occurrence_of credit_note_listing credit_note_rows
credit_note_160 = refl

pub credit_note_sound : first_fault credit_note_rows ≡ Ok tt
credit_note_sound =
    sound credit_note_rows (built credit_note_rows) 40 0 40 credit_note_rows refl credit_note_0
    (sound credit_note_rows (built credit_note_rows) 40 40 80 (drop 40 credit_note_rows) refl credit_note_40
    (sound credit_note_rows (built credit_note_rows) 40 80 120 (drop 40 (drop 40 credit_note_rows)) refl credit_note_80
    (sound credit_note_rows (built credit_note_rows) 40 120 160 (drop 40 (drop 40 (drop 40 credit_note_rows))) refl credit_note_120 (credit_note_160))))
