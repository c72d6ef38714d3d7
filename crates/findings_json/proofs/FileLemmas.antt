-- Rule files with their names, gone over one after another.
use Rattle.std.proofs.Common.{◌≡◌, ℕ, zero, suc, ◌+◌, ◌<◌, ◌≤◌, List, [], ◌∷◌, length, get_or, drop, refl, ap, sym, ◌∙◌, arith}
use Rattle.std.specs.List.{slice_get}
use Rattle.std.proofs.lemmas.List.{drop_more, drop_all}
use Rattle.schematron_findings.specs.declared.finding.Line.{Line}
use Rattle.json_text.specs.Json.{nothing}
use Rattle.json_text.specs.Making.{followed_by}
use Rattle.findings_json.specs.FindingsJson.{file_objects, all_objects}

first-left : {X : Type 0} (names : List X) (k : ℕ) → slice_get (drop k names) 0 ≡ slice_get names k
first-left [] zero = refl
first-left [] (suc k) = refl
first-left (name ∷ names) zero = refl
first-left (name ∷ names) (suc k) = first-left names k

others-left : {X : Type 0} (names : List X) (k : ℕ) → drop 1 (drop k names) ≡ drop (suc k) names
others-left [] zero = refl
others-left [] (suc k) = refl
others-left (name ∷ names) zero = refl
others-left (name ∷ names) (suc k) = others-left names k

pub next-file : (names : List (List ℕ)) (files : List (List Line)) (k : ℕ) (file : List Line) → k < length files → file ≡ get_or files k file
    → all_objects (drop k names) (drop k files)
    ≡ followed_by (file_objects (slice_get names k) file) (all_objects (drop (k + 1) names) (drop (k + 1) files))
next-file names files k file h e =
    let next : suc k ≡ k + 1 = omega arith in
    ap (all_objects (drop k names)) (drop_more files k file h ∙ ap (λ x. x ∷ drop (k + 1) files) (sym e))
    ∙ (λ i. followed_by (file_objects (first-left names k i) file) (all_objects (others-left names k i) (drop (k + 1) files)))
    ∙ ap (λ n. followed_by (file_objects (slice_get names k) file) (all_objects (drop n names) (drop (k + 1) files))) next

pub last-file : (names : List (List ℕ)) (files : List (List Line)) (k : ℕ) → length files ≤ k → all_objects (drop k names) (drop k files) ≡ nothing
last-file names files k h = ap (all_objects (drop k names)) (drop_all k files h)
