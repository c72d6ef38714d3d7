-- A table is well formed where it is part by part: each part is computed by itself, since a lemma has a limit on its
-- steps.
use Rattle.std.proofs.Common.{◌≡◌, ℕ, zero, suc, ◌+◌, List, [], ◌∷◌, take, drop, Option, Some, None, Result, Ok, refl, subst, arith}
use Rattle.bind_rows.specs.declared.rows.Row.{Row}
use Rattle.bind_rows.specs.Added.{built}
use Rattle.bind_table.specs.declared.judging.TableKind.{TableKind}
use Rattle.bind_table.specs.declared.judging.TableFault.{TableFault}
use Rattle.bind_table.specs.WellFormed.{told, fault_of, first_fault_from, first_fault}
use Rattle.term_table.specs.SemanticModel.{terms, extension_rows, listing_rows}
use Rattle.term_table.specs.Groups.{parent_of, occurrence_of}
use Rattle.cii_binding.specs.Table.{cii_listing, cii_rows}

told-ok : (k : ℕ) (fault : Option TableKind) (r s : Result (Unit {0}) TableFault) → (r ≡ Ok tt → s ≡ Ok tt) → told k fault r ≡ Ok tt → told k fault s ≡ Ok tt
told-ok k None r s goes h = goes h
told-ok k (Some kind) r s goes h = cc

-- the first rows of a list, and then the others, whose first has the number m
sound : (rows own : List Row) (n k m : ℕ) (others : List Row) → k + n ≡ m → first_fault_from rows own k (take n others) ≡ Ok tt
    → first_fault_from rows own m (drop n others) ≡ Ok tt → first_fault_from rows own k others ≡ Ok tt
sound rows own zero k m others e front back = subst (λ j. first_fault_from rows own j others ≡ Ok tt) (let f : m ≡ k = omega arith in f) back
sound rows own (suc n) k m [] e front back = refl
sound rows own (suc n) k m (row ∷ others) e front back =
    told-ok k (fault_of rows own k row) (first_fault_from rows own (k + 1) (take n others)) (first_fault_from rows own (k + 1) others)
    (λ h. sound rows own n (k + 1) m others (omega arith) h back) front

-- ---- cii

cii_0 : first_fault_from cii_rows (built cii_rows) 0 (take 40 cii_rows) ≡ Ok tt
unfolding terms extension_rows listing_rows parent_of occurrence_of cii_listing cii_rows
cii_0 = refl

cii_40 : first_fault_from cii_rows (built cii_rows) 40 (take 40 (drop 40 cii_rows)) ≡ Ok tt
unfolding terms extension_rows listing_rows parent_of occurrence_of cii_listing cii_rows
cii_40 = refl

cii_80 : first_fault_from cii_rows (built cii_rows) 80 (take 40 (drop 40 (drop 40 cii_rows))) ≡ Ok tt
unfolding terms extension_rows listing_rows parent_of occurrence_of cii_listing cii_rows
cii_80 = refl

cii_120 : first_fault_from cii_rows (built cii_rows) 120 (take 40 (drop 40 (drop 40 (drop 40 cii_rows)))) ≡ Ok tt
unfolding terms extension_rows listing_rows parent_of occurrence_of cii_listing cii_rows
cii_120 = refl

cii_160 : first_fault_from cii_rows (built cii_rows) 160 (take 40 (drop 40 (drop 40 (drop 40 (drop 40 cii_rows))))) ≡ Ok tt
unfolding terms extension_rows listing_rows parent_of occurrence_of cii_listing cii_rows
cii_160 = refl

cii_200 : first_fault_from cii_rows (built cii_rows) 200 (drop 40 (drop 40 (drop 40 (drop 40 (drop 40 cii_rows))))) ≡ Ok tt
unfolding terms extension_rows listing_rows parent_of occurrence_of cii_listing cii_rows
cii_200 = refl

pub cii_sound : first_fault cii_rows ≡ Ok tt
cii_sound =
    sound cii_rows (built cii_rows) 40 0 40 cii_rows refl cii_0
    (sound cii_rows (built cii_rows) 40 40 80 (drop 40 cii_rows) refl cii_40
    (sound cii_rows (built cii_rows) 40 80 120 (drop 40 (drop 40 cii_rows)) refl cii_80
    (sound cii_rows (built cii_rows) 40 120 160 (drop 40 (drop 40 (drop 40 cii_rows))) refl cii_120
    (sound cii_rows (built cii_rows) 40 160 200 (drop 40 (drop 40 (drop 40 (drop 40 cii_rows)))) refl cii_160 (cii_200)))))
