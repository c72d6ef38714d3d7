-- A file that is read piece by piece.
use Rattle.std.proofs.Common.{◌≡◌, ℕ, List, [], ◌∷◌, ◌++◌, take, length, append_assoc, append-nil, refl, ap, sym, subst, ◌∙◌, arith, Option, Some, None, Err}
use Rattle.std.specs.Prelude.{Result, ◌≢◌, ◌≤◌}
use Rattle.inv_base.specs.Counts.{Rose, next_count}
use Rattle.inv_base.specs.Outside.{ShelfView, WhereTold, ahead_of}
use Rattle.xml_document.specs.Loading.{ReadsOn, ReadsFrom}

pub ahead_of-nil : (told : Option (List ℕ)) (bytes : List ℕ) → bytes ≡ [] → told ≡ ahead_of bytes told
ahead_of-nil None bytes none = refl
ahead_of-nil (Some left) bytes none = rw none refl

pub ahead_of-append : (a b c : List ℕ) (told mid left : Option (List ℕ)) → told ≡ ahead_of a mid → mid ≡ ahead_of b left → c ≡ a ++ b → told ≡ ahead_of c left
ahead_of-append a b c told mid None so_far more is = so_far ∙ ap (ahead_of a) more
ahead_of-append a b c told mid (Some left) so_far more is = so_far ∙
    (ap (ahead_of a) more ∙ ap Some (sym (append_assoc a b left) ∙ ap (λ x. x ++ left) (sym is)))

no_items : (xs : List ℕ) → length xs ≡ 0 → xs ≡ []
no_items [] none = refl
no_items (x ∷ xs) none = absurd (omega arith)

pub none_taken : (n : ℕ) (xs : List ℕ) → n ≡ 0 → take n xs ≡ []
none_taken n xs none = rw none refl

-- at the end of the input
pub read_all : (told mid left : Option (List ℕ)) (bytes front : List ℕ) → told ≡ ahead_of bytes mid → mid ≡ ahead_of front left → front ≡ []
    → WhereTold left (λ rest. length rest ≡ 0) → WhereTold told (λ content. bytes ≡ content)
read_all told mid None bytes front so_far last none end = λ content is. let gone : told ≡ None = so_far ∙ ap (ahead_of bytes) last in cc
read_all told mid (Some rest) bytes front so_far last none end = λ content is.
    let empty : rest ≡ [] = no_items rest (end rest refl) in
    let all : told ≡ Some (bytes ++ (front ++ rest)) = so_far ∙ ap (ahead_of bytes) last in
    let whole : bytes ++ (front ++ rest) ≡ bytes = rw (none, empty) (append-nil bytes) in
    let same : content ≡ bytes ++ (front ++ rest) = cc in
    sym (same ∙ whole)

-- What reading keeps, where it failed and where it didn't.
pub failed_on : {T E : Type 0} (result : Result T E) (fault : E) (begun now after : ShelfView) → result ≡ Err fault
    → now.held ≡ begun.held → now.opens ≡ begun.opens → now.faults ≡ begun.faults
    → after.held ≡ now.held → after.opens ≡ now.opens → now.faults ≤ after.faults → Rose now.faults after.faults → ReadsOn result fault begun after
failed_on result fault begun now after is held opens faults held' opens' rises rose = record {
  held = held' ∙ held;
  opens = opens' ∙ opens;
  rose = λ _. subst (λ n. Rose n after.faults) faults rose;
  rises = subst (λ n. n ≤ after.faults) faults rises;
  quiet = λ other. absurd (other is);
}

pub fine_on : {T E : Type 0} (result : Result T E) (fault : E) (begun after : ShelfView) → result ≢ Err fault
    → after.held ≡ begun.held → after.opens ≡ begun.opens → after.faults ≡ begun.faults → ReadsOn result fault begun after
fine_on result fault begun after other held opens faults = record {
  held = held;
  opens = opens;
  rose = λ is. absurd (other is);
  rises = omega (arith, faults);
  quiet = λ _. faults;
}

-- A file that couldn't be opened, and one that was opened and then read.
pub failed_from : {T E : Type 0} (result : Result T E) (fault : E) (begun after : ShelfView) → result ≡ Err fault → after.held ≡ begun.held
    → after.opens ≡ next_count begun.opens → begun.faults ≤ after.faults → Rose begun.faults after.faults → ReadsFrom result fault begun after
failed_from result fault begun after is held opens rises rose =
    record { held = held; opens = opens; rose = λ _. rose; rises = rises; quiet = λ other. absurd (other is) }

pub opened_from : {T E : Type 0} (result : Result T E) (fault : E) (begun now after : ShelfView) → now.held ≡ begun.held
    → now.opens ≡ next_count begun.opens → now.faults ≡ begun.faults → ReadsOn result fault now after → ReadsFrom result fault begun after
opened_from result fault begun now after held opens faults on = record {
  held = on.held ∙ held;
  opens = on.opens ∙ opens;
  rose = λ is. subst (λ n. Rose n after.faults) faults (on.rose is);
  rises = subst (λ n. n ≤ after.faults) faults on.rises;
  quiet = λ other. on.quiet other ∙ faults;
}
