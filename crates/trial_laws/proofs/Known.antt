-- What is known of the generated entries: which terms stand where, how often groups occur, and how long their texts are.
use Rattle.std.proofs.Common.{◌≡◌, ℕ, suc, ◌+◌, ◌*◌, ◌/◌, ◌^◌, ◌<◌, ◌≤◌, max, Bool, true, false, ◌&&◌, List, [], ◌∷◌, ◌++◌, map, length, Option, Some, None}
use Rattle.std.proofs.Common.{refl, sym, ◌∙◌, subst, arith, lit≤, lit<, inl, inr, length-append}
use Rattle.std.specs.Prelude.{◌==◌, codes, decimal, find, fold, option_map, bytes_eq}
use Rattle.std.specs.List.{list_all, list_any}
use Rattle.std.specs.Fmt.{digits}
use Rattle.std.proofs.lemmas.Fmt.{length-decimal-le}
use Rattle.inv_decimal.specs.Digits.{last_digits}
use Rattle.inv_decimal.specs.WrittenDay.{dashed_day_text, plain_day_text}
use Rattle.inv_decimal.specs.WrittenNumber.{scaled_text}
use Rattle.term_table.specs.declared.groups.Group.{Group}
use Rattle.term_table.specs.declared.groups.Group.TheVariants as groups
use Rattle.term_table.specs.declared.terms.Term.{Term}
use Rattle.term_table.specs.declared.contexts.Slot.{Slot}
use Rattle.term_table.specs.declared.contexts.Context.{Context}
use Rattle.term_table.specs.SemanticModel.{same_term}
use Rattle.term_table.specs.Groups.{same_group}
use Rattle.term_table.specs.Contexts.{slot_group, same_slot, same_context}
use Rattle.term_table.proofs.SeatLemmas.{same_term_is}
use Rattle.inv_terms.specs.declared.values.Value.{Value}
use Rattle.inv_terms.specs.declared.values.Value.TheVariants as values
use Rattle.inv_terms.specs.declared.entries.Entry.{Entry}
use Rattle.inv_terms.specs.Values.{spelled}
use Rattle.inv_terms.specs.Listing.{value_in, is_at}
use Rattle.inv_terms.proofs.ContextLemmas.{context_is}
use Rattle.bind_rows.specs.declared.rows.Form.{Form}
use Rattle.bind_rows.specs.declared.rows.Form.TheVariants as forms
use Rattle.bind_meaning.specs.Values.{images, subject_code}
use Rattle.bind_meaning.specs.Writing.{written_among, plain_date, coded_note, formed}
use Rattle.bind_meaning.specs.Trees.{index_in, inner_count}
use Rattle.trial_invoice.specs.Amounts.{quantity, price, net, sum_of_nets, hundredths, ones}
use Rattle.trial_invoice.specs.Generated.{amount, rate, head, line, trial_entries}
use Rattle.trial_invoice.specs.Written.{hundredths_text, two_behind_point}
use Rattle.trial_invoice.proofs.NumberLemmas.{hundredths-text, ones-text}
use Rattle.trial_invoice.proofs.SumLemmas.{quantity-le, price-le, net-le, sum-le}
use Rattle.trial_laws.proofs.Entries.{Each, both, each-test, each-map, each-both, none-some, each-found, all-entries, each-entries}
use Rattle.trial_laws.proofs.Valid.{in_line, breakdown, Place, places}
use Rattle.trial_laws.proofs.Rooms.{Known, AreKnown}

-- ---- which terms stand where

abbrev pub numbers_at : Option Group → List ℕ
numbers_at None = 1 ∷ (2 ∷ (3 ∷ (5 ∷ (24 ∷ (27 ∷ (40 ∷ (44 ∷ (55 ∷ (106 ∷ (109 ∷ (110 ∷ (112 ∷ (115 ∷ [])))))))))))))
numbers_at (Some group) = elim (same_group groups.InvoiceLine group) [
  | true ↦ 126 ∷ (129 ∷ (130 ∷ (131 ∷ (146 ∷ (151 ∷ (152 ∷ (153 ∷ [])))))))
  | false ↦ elim (same_group groups.VatBreakdown group) [ true ↦ 116 ∷ (117 ∷ (118 ∷ (119 ∷ []))) | false ↦ [] ]
]

abbrev pub stands_at : Option Group → Term → Bool
stands_at kind term = (term.part == 0) && list_any (λ n. n == term.number) (numbers_at kind)

abbrev pub most_of : Group → ℕ
most_of group = elim (same_group groups.InvoiceLine group) [ true ↦ 10000 | false ↦ elim (same_group groups.VatBreakdown group) [ true ↦ 1 | false ↦ 0 ] ]

abbrev pub known : Known
known = record { stands = stands_at; most = most_of; long = 48 }

abbrev Stands : Entry → Type 0
Stands e = stands_at (slot_group e.context.outer) e.term ≡ true

head-stands : (sum : ℕ) → list_all (λ (e : Entry). stands_at (slot_group e.context.outer) e.term) (head sum) ≡ true
head-stands sum = refl

line-stands : (i : ℕ) → list_all (λ (e : Entry). stands_at (slot_group e.context.outer) e.term) (line i) ≡ true
line-stands i = refl

each-stands : (n : ℕ) → Each Stands (trial_entries n)
each-stands n =
    let p : Entry → Bool = λ (e : Entry). stands_at (slot_group e.context.outer) e.term in
    each-test p (trial_entries n) (all-entries p head-stands line-stands n)

-- ---- how long values are

record IsShort (value : Value) : Type 0 where
  spelled_is : length (spelled value) ≤ 23
  plain_is : length (plain_date value) ≤ 23

short-number : (text written : List ℕ) → text ≡ written → length written ≤ 23 → length text ≤ 23
short-number text written e h = subst (λ (t : List ℕ). length t ≤ 23) (sym e) h

hundredths-short : (n : ℕ) → n < 10 ^ 18 → length (scaled_text (hundredths n)) ≤ 23
hundredths-short n h =
    let whole : n / 100 < 10 ^ 16 = omega arith in
    let narrow : n / 100 < 2 ^ 64 = omega arith in
    let front : length (decimal (n / 100)) ≤ 16 = length-decimal-le 16 (n / 100) (lit< tt) whole narrow in
    let all : length (hundredths_text n) ≡ length (decimal (n / 100)) + 3 = length-append (decimal (n / 100)) (two_behind_point n) in
    short-number (scaled_text (hundredths n)) (hundredths_text n) (hundredths-text n) (omega arith)

ones-short : (n : ℕ) → n < 10 ^ 18 → length (scaled_text (ones n)) ≤ 23
ones-short n h =
    let narrow : n < 2 ^ 64 = omega arith in
    let all : length (decimal n) ≤ 18 = length-decimal-le 18 n (lit< tt) h narrow in
    short-number (scaled_text (ones n)) (decimal n) (ones-text n) (omega arith)

amount-short : (n : ℕ) → n < 10 ^ 18 → IsShort (amount n)
amount-short n h = record { spelled_is = hundredths-short n h; plain_is = hundredths-short n h }

quantity-short : (n : ℕ) → n < 10 ^ 18 → IsShort (values.Quantity (ones n))
quantity-short n h = record { spelled_is = ones-short n h; plain_is = ones-short n h }

rate-short : IsShort rate
rate-short = record { spelled_is = ones-short 20 (lit< tt); plain_is = ones-short 20 (lit< tt) }

date-short : IsShort (values.Date (record { year = 2024; month = 1; day = 1 }))
unfolding dashed_day_text plain_day_text digits last_digits
date-short = record { spelled_is = lit≤ tt; plain_is = lit≤ tt }

identifier-short : (text : List ℕ) → length text ≤ 23 → IsShort (values.Identifier text)
identifier-short text h = record { spelled_is = h; plain_is = h }

text-short : (text : List ℕ) → length text ≤ 23 → IsShort (values.Text text)
text-short text h = record { spelled_is = h; plain_is = h }

code-short : (text : List ℕ) → length text ≤ 23 → IsShort (values.Code text)
code-short text h = record { spelled_is = h; plain_is = h }

number-short : (i : ℕ) → i ≤ 10000 → length (decimal i) ≤ 5
number-short i h = length-decimal-le 5 i (lit< tt) (omega arith) (omega arith)

item-short : (i : ℕ) → i ≤ 10000 → length (codes "Item " ++ decimal i) ≤ 23
item-short i h = let n : length (decimal i) ≤ 5 = number-short i h in let all : length (codes "Item " ++ decimal i) ≡ 5 + length (decimal i) =
    length-append (codes "Item ") (decimal i) in omega arith

abbrev Short : Entry → Type 0
Short e = IsShort e.value

head-short : (sum : ℕ) → sum < 10 ^ 12 → Each Short (head sum)
head-short sum h =
    let whole : 100 * sum < 10 ^ 18 = omega arith in
    let tax : 20 * sum < 10 ^ 18 = omega arith in
    let all : 120 * sum < 10 ^ 18 = omega arith in (
      identifier-short (codes "T") (lit≤ tt),
      (
        date-short,
        (
          code-short (codes "380") (lit≤ tt),
          (
            code-short (codes "EUR") (lit≤ tt),
            (
              identifier-short (codes "urn:cen.eu:en16931:2017") (lit≤ tt),
              (
                text-short (codes "S") (lit≤ tt),
                (
                  code-short (codes "DE") (lit≤ tt),
                  (
                    text-short (codes "B") (lit≤ tt),
                    (
                      code-short (codes "FR") (lit≤ tt),
                      (
                        amount-short (100 * sum) whole,
                        (
                          amount-short (100 * sum) whole,
                          (
                            amount-short (20 * sum) tax,
                            (
                              amount-short (120 * sum) all,
                              (
                                amount-short (120 * sum) all,
                                (amount-short (100 * sum) whole, (amount-short (20 * sum) tax, (code-short (codes "S") (lit≤ tt), (rate-short, tt)))),
                              ),
                            ),
                          ),
                        ),
                      ),
                    ),
                  ),
                ),
              ),
            ),
          ),
        ),
      ),
    )

line-short : (i : ℕ) → i ≤ 10000 → Each Short (line i)
line-short i h =
    let small_quantity : quantity i < 10 ^ 18 = omega (arith, quantity-le i) in
    let small_net : 100 * net i < 10 ^ 18 = omega (arith, net-le i) in
    let small_price : 100 * price i < 10 ^ 18 = omega (arith, price-le i) in
    let small_number : length (decimal i) ≤ 23 = omega (arith, number-short i h) in (
      identifier-short (decimal i) small_number,
      (
        quantity-short (quantity i) small_quantity,
        (
          code-short (codes "C62") (lit≤ tt),
          (
            amount-short (100 * net i) small_net,
            (
              amount-short (100 * price i) small_price,
              (code-short (codes "S") (lit≤ tt), (rate-short, (text-short (codes "Item " ++ decimal i) (item-short i h), tt))),
            ),
          ),
        ),
      ),
    )

each-short : (n : ℕ) → n ≤ 10000 → Each Short (trial_entries n)
each-short n h =
    let small : sum_of_nets n < 10 ^ 12 = omega (arith, sum-le n) in
    each-entries Short n (head-short (sum_of_nets n) small) (λ i low high. line-short i (omega arith))

-- ---- a value that stands

map-some : {X Y : Type 0} (f : X → Y) (o : Option X) (y : Y) → option_map f o ≡ Some y → (x : X) × (o ≡ Some x) × (f x ≡ y)
map-some f None y h = absurd (none-some y h)
map-some f (Some x) y h = (x, refl, let k : Some (f x) ≡ Some y = h in cc)

record IsThere (term : Term) (c : Context) (value : Value) : Type 0 where
  stands : stands_at (slot_group c.outer) term ≡ true
  short : IsShort value

value-there : (n : ℕ) → n ≤ 10000 → (term : Term) (c : Context) (value : Value) → value_in (trial_entries n) term c ≡ Some value → IsThere term c value
value-there n h term c value is =
    let w = map-some (λ (e : Entry). e.value) (find (is_at term c) (trial_entries n)) value is in
    let k = each-found (λ (e : Entry). Stands e × Short e) (is_at term c) (trial_entries n)
    (each-both Stands Short (trial_entries n) (each-stands n) (each-short n h)) w.0 w.1 in
    let t = both (same_term w.0.term term) (same_context w.0.context c) k.1 in
    let here : w.0.context ≡ c = context_is w.0.context c t.1 in
    let this : w.0.term ≡ term = same_term_is w.0.term term t.0 in
    let moved : stands_at (slot_group w.0.context.outer) w.0.term ≡ stands_at (slot_group c.outer) term = λ i. stands_at (slot_group (here i).outer) (this i) in
    record {
      stands = sym moved ∙ k.0.0;
      short = subst IsShort w.2 k.0.1;
    }

longer : (a : ℕ) → a ≤ 23 → a ≤ 48
longer a h = omega arith

picked : (b : Bool) (x y : List ℕ) → length x ≤ 48 → length y ≤ 48 → length {A = ℕ} (elim b [ true ↦ x | false ↦ y ]) ≤ 48
picked true x y h k = h
picked false x y h k = k

image-short : (text : List ℕ) → length text ≤ 48 → length (written_among images text) ≤ 48
image-short text h =
    let third : List ℕ = elim (bytes_eq (codes "432") text) [ true ↦ codes "72" | false ↦ text ] in
    let second : List ℕ = elim (bytes_eq (codes "35") text) [ true ↦ codes "29" | false ↦ third ] in
    picked (bytes_eq (codes "3") text) (codes "5") second (lit≤ tt)
    (picked (bytes_eq (codes "35") text) (codes "29") third (lit≤ tt) (picked (bytes_eq (codes "432") text) (codes "72") text (lit≤ tt) h))

note-short : (n : ℕ) → n ≤ 10000 → (c : Context) (text : List ℕ) → length text ≤ 23 → length (coded_note (value_in (trial_entries n) subject_code c) text) ≤ 48
note-short n h c text short = go (value_in (trial_entries n) subject_code c) refl
  where
    go : (o : Option Value) → value_in (trial_entries n) subject_code c ≡ o → length (coded_note o text) ≤ 48
    go None e = longer (length text) short
    go (Some code) e =
        let k : length (spelled code) ≤ 23 = (value-there n h subject_code c code e).short.spelled_is in
        let all : length (spelled code ++ (35 ∷ text)) ≡ length (spelled code) + suc (length text) = length-append (spelled code) (35 ∷ text) in
        let whole : length (coded_note (Some code) text) ≡ suc (length (spelled code ++ (35 ∷ text))) = refl in
        omega arith

form-short : (n : ℕ) → n ≤ 10000 → (form : Form) (c : Context) (value : Value) → IsShort value → length (formed form (trial_entries n) c value) ≤ 48
form-short n h forms.Model c value short = longer (length (spelled value)) short.spelled_is
form-short n h forms.PlainDate c value short = longer (length (plain_date value)) short.plain_is
form-short n h forms.DueDateTypeCode c value short = image-short (spelled value) (longer (length (spelled value)) short.spelled_is)
form-short n h forms.CodedNote c value short = note-short n h c (spelled value) short.spelled_is
form-short n h (forms.Typed data_type) c value short = longer (length (spelled value)) short.spelled_is
form-short n h forms.TypedPlainDate c value short = longer (length (plain_date value)) short.plain_is

-- ---- how often groups occur

fold-most : (f : Entry → ℕ) (m : ℕ) (es : List Entry) (a : ℕ) → a ≤ m → Each (λ e. f e ≤ m) es → fold max a (map f es) ≤ m
fold-most f m [] a h k = h
fold-most f m (e ∷ es) a h k = let first : f e ≤ m = k.0 in fold-most f m es (max a (f e)) (omega arith) k.1

nothing-less : (m : ℕ) → 0 ≤ m
nothing-less m = omega arith

line-index : (group : Group) (i : ℕ) → i ≤ 10000 → index_in group (Some (record { group = groups.InvoiceLine; index = i })) ≤ most_of group
line-index group i h = go (same_group groups.InvoiceLine group)
  where
    go : (b : Bool) → elim b [ true ↦ i | false ↦ 0 ] ≤ elim b [ true ↦ 10000 | false ↦ elim (same_group groups.VatBreakdown group) [ true ↦ 1 | false ↦ 0 ] ]
    go true = h
    go false = nothing-less (elim (same_group groups.VatBreakdown group) [ true ↦ 1 | false ↦ 0 ])

breakdown-index : (group : Group) → index_in group (Some (record { group = groups.VatBreakdown; index = 1 })) ≤ most_of group
breakdown-index group = go (same_group groups.VatBreakdown group) (same_group groups.InvoiceLine group)
  where
    go : (a b : Bool) → elim a [ true ↦ 1 | false ↦ 0 ] ≤ elim b [ true ↦ 10000 | false ↦ elim a [ true ↦ 1 | false ↦ 0 ] ]
    go true true = lit≤ tt
    go true false = lit≤ tt
    go false b = nothing-less (elim b [ true ↦ 10000 | false ↦ 0 ])

few-outer : (n : ℕ) → n ≤ 10000 → (group : Group) (e : Entry) → Place n e → index_in group e.context.outer ≤ most_of group
few-outer n h group e (inl (inl root)) = subst (λ (c : Context). index_in group c.outer ≤ most_of group) (sym root) (nothing-less (most_of group))
few-outer n h group e (inl (inr at)) = subst (λ (c : Context). index_in group c.outer ≤ most_of group) (sym at) (breakdown-index group)
few-outer n h group e (inr w) =
    let high : w.0 ≤ 10000 = let k = w.2 in omega arith in
    subst (λ (c : Context). index_in group c.outer ≤ most_of group) (sym w.3) (line-index group w.0 high)

abbrev inner_index : Slot → Group → Context → ℕ
inner_index slot group c = elim (same_slot c.outer (Some slot)) [ true ↦ index_in group c.inner | false ↦ 0 ]

none-either : (b : Bool) → elim b [ true ↦ 0 | false ↦ 0 ] ≤ 0
none-either true = lit≤ tt
none-either false = lit≤ tt

none-inner : (n : ℕ) (slot : Slot) (group : Group) (e : Entry) → Place n e → inner_index slot group e.context ≤ 0
none-inner n slot group e (inl (inl root)) = subst (λ (c : Context). inner_index slot group c ≤ 0) (sym root) (none-either (same_slot None (Some slot)))
none-inner n slot group e (inl (inr at)) = subst (λ (c : Context). inner_index slot group c ≤ 0) (sym at) (none-either (same_slot breakdown.outer (Some slot)))
none-inner n slot group e (inr w) = subst (λ (c : Context). inner_index slot group c ≤ 0) (sym w.3) (none-either (same_slot (in_line w.0).outer (Some slot)))

pub trial-known : (n : ℕ) → n ≤ 10000 → AreKnown known (trial_entries n)
trial-known n h = record {
  terms = λ c term value is. (value-there n h term c value is).stands;
  texts = λ form c d term value is. form-short n h form c value (value-there n h term d value is).short;
  outer = λ group.
      fold-most (λ (e : Entry). index_in group e.context.outer) (most_of group) (trial_entries n) 0 (nothing-less (most_of group))
      (each-map (Place n) (λ (e : Entry). index_in group e.context.outer ≤ most_of group) (trial_entries n) (few-outer n h group) (places n));
  inner = λ slot group.
      let none : inner_count (trial_entries n) slot group ≤ 0 =
      fold-most (λ (e : Entry). inner_index slot group e.context) 0 (trial_entries n) 0 (nothing-less 0)
      (each-map (Place n) (λ (e : Entry). inner_index slot group e.context ≤ 0) (trial_entries n) (none-inner n slot group) (places n)) in
      omega arith;
}
