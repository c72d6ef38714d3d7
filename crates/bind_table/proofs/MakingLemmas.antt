-- What can be made, item by item.
use Rattle.std.proofs.Common.{◌≡◌, ℕ, suc, ◌+◌, ◌-◌, ◌<◌, Bool, true, false, ◌&&◌, nat_lt, List, [], ◌∷◌, ◌++◌, length, take, drop, get_or, slice_index_or, All}
use Rattle.std.proofs.Common.{IsTrue, Bor, refl, sym, ap, ◌∙◌, subst, arith, add-one, drop-cons, length-append, length-take}
use Rattle.std.proofs.lemmas.List.Elements.{All-push, All-take}
use Rattle.bind_rows.specs.declared.rows.Step.{Step}
use Rattle.bind_table.specs.declared.items.TableItem.{TableItem}
use Rattle.bind_table.specs.declared.items.TableItem.TheVariants as items
use Rattle.bind_table.specs.Items.{Made, made_by, made_by_all, is_nested, step_of, joined}
use Rattle.bind_table.specs.Making.{CanMake}

and_left : (a b : Bool) → IsTrue (a && b) → IsTrue a
and_left true b h = refl
and_left false b h = h

and_right : (a b : Bool) → IsTrue (a && b) → IsTrue b
and_right true b h = h
and_right false b h = cc

both : (a b : Bool) → IsTrue a → IsTrue b → IsTrue (a && b)
both true b h k = k
both false b h k = h

nested-front : (n : ℕ) (xs ys : List TableItem) → IsTrue (is_nested n (xs ++ ys)) → IsTrue (is_nested n xs)
nested-front n [] ys h = refl
nested-front n (items.Element head ∷ xs) ys h = nested-front (n + 1) xs ys h
nested-front n (items.Text cell ∷ xs) ys h = both _ _ (and_left _ _ h) (nested-front n xs ys (and_right (nat_lt 0 n) _ h))
nested-front n (items.Attribute name cell ∷ xs) ys h = both _ _ (and_left _ _ h) (nested-front n xs ys (and_right (nat_lt 0 n) _ h))
nested-front n (items.End ∷ xs) ys h = both _ _ (and_left _ _ h) (nested-front (n - 1) xs ys (and_right (nat_lt 0 n) _ h))

pub CanMake-front : (xs ys : List TableItem) (made : Made) → CanMake (xs ++ ys) made → CanMake xs made
CanMake-front xs ys made can = record {
  few_rows = let e : length (xs ++ ys) ≡ length xs + length ys = length-append xs ys in let h = can.few_rows in omega arith;
  few_elements = let e : length (xs ++ ys) ≡ length xs + length ys = length-append xs ys in let h = can.few_elements in omega arith;
  numbers = can.numbers;
  nested = nested-front (length made.path) xs ys can.nested;
}

below_more : (n : ℕ) (steps : List Step) → All (λ (s : Step). s.number < n) steps → All (λ (s : Step). s.number < n + 1) steps
below_more n steps h = λ k d q. let below : (slice_index_or steps k d).number < n = h k d q in omega arith

pub CanMake-step : (x : TableItem) (xs : List TableItem) (made : Made) → CanMake (x ∷ xs) made → CanMake xs (made_by x made)
CanMake-step (items.Element head) xs made can =
    let e : length (made.path ++ step_of head made.next ∷ []) ≡ length made.path + 1 = length-append made.path (step_of head made.next ∷ []) in
    record {
      few_rows = let h = can.few_rows in omega arith;
      few_elements = let h = can.few_elements in omega arith;
      numbers = All-push (λ (s : Step). s.number < made.next + 1) made.path (step_of head made.next) (below_more made.next made.path can.numbers) (omega arith);
      nested = subst (λ n. IsTrue (is_nested n xs)) (sym e) can.nested;
    }
CanMake-step (items.Text cell) xs made can = record {
  few_rows = rw length-append (let h = can.few_rows in omega arith);
  few_elements = let h = can.few_elements in omega arith;
  numbers = can.numbers;
  nested = and_right (nat_lt 0 (length made.path)) _ can.nested;
}
CanMake-step (items.Attribute name cell) xs made can = record {
  few_rows = rw length-append (let h = can.few_rows in omega arith);
  few_elements = let h = can.few_elements in omega arith;
  numbers = can.numbers;
  nested = and_right (nat_lt 0 (length made.path)) _ can.nested;
}
CanMake-step items.End xs made can =
    let e : length (take (length made.path - 1) made.path) ≡ length made.path - 1 = omega (arith, length-take (length made.path - 1) made.path) in
    record {
      few_rows = let h = can.few_rows in omega arith;
      few_elements = let h = can.few_elements in omega arith;
      numbers = All-take (λ (s : Step). s.number < made.next) (length made.path - 1) made.path can.numbers;
      nested = subst (λ n. IsTrue (is_nested n xs)) (sym e) (and_right (nat_lt 0 (length made.path)) _ can.nested);
    }

pub CanMake-behind : (xs ys : List TableItem) (made : Made) → CanMake (xs ++ ys) made → CanMake ys (made_by_all xs made)
CanMake-behind [] ys made can = can
CanMake-behind (x ∷ xs) ys made can = CanMake-behind xs ys (made_by x made) (CanMake-step x (xs ++ ys) made can)

pub made_by_all-append : (xs ys : List TableItem) (made : Made) → made_by_all (xs ++ ys) made ≡ made_by_all ys (made_by_all xs made)
made_by_all-append [] ys made = refl
made_by_all-append (x ∷ xs) ys made = made_by_all-append xs ys (made_by x made)

-- ---- item by item, and section by section

pub items-behind : (listed : List TableItem) (i : ℕ) (d : TableItem) (made : Made) → i < length listed → CanMake (drop i listed) made
    → CanMake (drop (i + 1) listed) (made_by (get_or listed i d) made)
items-behind listed i d made h can = rw add-one (CanMake-step (get_or listed i d) (drop (suc i) listed) made (rw (drop-cons listed i d h) at can))

pub made-behind : (listed : List TableItem) (i : ℕ) (d : TableItem) (made all : Made) → i < length listed → made_by_all (drop i listed) made ≡ all
    → made_by_all (drop (i + 1) listed) (made_by (get_or listed i d) made) ≡ all
made-behind listed i d made all h same = rw add-one (rw (drop-cons listed i d h) at same)

joined-rest : (sections : List (Bor (List TableItem))) (i : ℕ) (d : Bor (List TableItem)) → i < length sections
    → joined (drop i sections) ≡ (get_or sections i d).now ++ joined (drop (i + 1) sections)
joined-rest sections i d h = ap joined (drop-cons sections i d h) ∙ ap (λ n. (get_or sections i d).now ++ joined (drop n sections)) (sym (add-one i))

pub section-front : (sections : List (Bor (List TableItem))) (i : ℕ) (d : Bor (List TableItem)) (made : Made) → i < length sections
    → CanMake (joined (drop i sections)) made → CanMake (get_or sections i d).now made
section-front sections i d made h can = CanMake-front (get_or sections i d).now (joined (drop (i + 1) sections)) made
    (subst (λ xs. CanMake xs made) (joined-rest sections i d h) can)

pub section-behind : (sections : List (Bor (List TableItem))) (i : ℕ) (d : Bor (List TableItem)) (made : Made) → i < length sections
    → CanMake (joined (drop i sections)) made → CanMake (joined (drop (i + 1) sections)) (made_by_all (get_or sections i d).now made)
section-behind sections i d made h can = CanMake-behind (get_or sections i d).now (joined (drop (i + 1) sections)) made
    (subst (λ xs. CanMake xs made) (joined-rest sections i d h) can)

pub section-made : (sections : List (Bor (List TableItem))) (i : ℕ) (d : Bor (List TableItem)) (made all : Made) → i < length sections
    → made_by_all (joined (drop i sections)) made ≡ all
    → made_by_all (joined (drop (i + 1) sections)) (made_by_all (get_or sections i d).now made) ≡ all
section-made sections i d made all h same =
    sym (made_by_all-append (get_or sections i d).now (joined (drop (i + 1) sections)) made)
    ∙ (ap (λ xs. made_by_all xs made) (sym (joined-rest sections i d h)) ∙ same)
