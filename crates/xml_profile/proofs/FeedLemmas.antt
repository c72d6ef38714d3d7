-- A piece behind the rest of those before, and the end.
use Rattle.std.proofs.Common.{◌≡◌, ℕ, ◌+◌, ◌-◌, ◌<◌, ◌≤◌, nat_lt, Bool, true, false, List, [], length, drop, sym, ap, ◌∙◌, subst, arith, Option, Some, None}
use Rattle.std.proofs.Common.{if◌then◌else◌}
use Rattle.std.proofs.lemmas.Bool.Decides.{nat_tests}
use Rattle.std.proofs.lemmas.List.{append-nil, length-append, drop_at}
use Rattle.xml_tokens.specs.declared.kind.XmlKind.TheVariants.{Truncated, NoRoot}
use Rattle.xml_events.specs.Events.{Event}
use Rattle.xml_state.specs.declared.limits.Limits.{Limits}
use Rattle.xml_state.specs.States.{State, is_outside}
use Rattle.xml_state.specs.Faults.{fault_at}
use Rattle.xml_state.specs.declared.fault.TheConstants.XmlFault.{WANT_OF_MEMORY}
use Rattle.xml_state.specs.declared.fault.XmlFault.{XmlFault}
use Rattle.xml_profile.specs.TokenByToken.{Read}
use Rattle.xml_profile.specs.Profile.{end_fault}
use Rattle.xml_profile.specs.Courses.{Reaches, Breaks, of_memory}
use Rattle.xml_profile.specs.declared.cursor.Cursor.{Cursor}

module _ (e : Bool) (limits : Limits) (old : Cursor) where
  -- Memory ran out behind what was told.
  pub reaches-memory : (new : Cursor) (bytes rest : List ℕ) (before after : List Event → Type 0) → Reaches e limits old new bytes rest before after →
      Breaks e limits old bytes before after WANT_OF_MEMORY
  reaches-memory new bytes rest before after a = of_memory a.events [] (ap (λ (r : Read). r.events) a.is ∙ sym (append-nil a.events)) a.told

  pub breaks-from : (bytes others : List ℕ) (before after : List Event → Type 0) (fault : XmlFault) → others ≡ bytes →
      Breaks e limits old bytes before after fault → Breaks e limits old others before after fault
  breaks-from bytes others before after fault same b = let P : List ℕ → Type 0 = λ x. Breaks e limits old x before after fault in subst P (sym same) b

  pub reaches-from : (new : Cursor) (bytes others rest rests : List ℕ) (before after : List Event → Type 0) → others ≡ bytes → rests ≡ rest →
      Reaches e limits old new bytes rest before after
      → Reaches e limits old new others rests before after
  reaches-from new bytes others rest rests before after same same-rest a =
      let P : List ℕ → Type 0 = λ x. Reaches e limits old new x rests before after in
      let Q : List ℕ → Type 0 = λ x. Reaches e limits old new bytes x before after in
      subst P (sym same) (subst Q (sym same-rest) a)

  -- The rest is what stands behind all other bytes.
  pub reaches-back : (new : Cursor) (bytes rest : List ℕ) (before after : List Event → Type 0) → Reaches e limits old new bytes rest before after →
      drop (length bytes - length rest) bytes ≡ rest
  reaches-back new bytes rest before after a =
      let lengths : length bytes ≡ length a.passed + length rest = ap length a.parts ∙ length-append a.passed rest in
      let front : length a.passed ≡ length bytes - length rest = omega (arith, lengths) in
      ap (drop (length bytes - length rest)) a.parts ∙ drop_at a.passed rest (length bytes - length rest) front

  pub reaches-within : (new : Cursor) (bytes rest : List ℕ) (before after : List Event → Type 0) → Reaches e limits old new bytes rest before after →
      length rest ≤ length bytes
  reaches-within new bytes rest before after a =
      let lengths : length bytes ≡ length a.passed + length rest = ap length a.parts ∙ length-append a.passed rest in
      omega (arith, lengths)

-- the fault of an end, by how many bytes are left, and whether the root has ended and begun
abbrev end_by : ℕ → ℕ → Bool → Bool → Bool → Option XmlFault
end_by place left some outside seen =
    if some then Some (fault_at Truncated (place + left))
    else (if outside then (if seen then None else Some (fault_at NoRoot place)) else Some (fault_at Truncated place))

end-of : (s : State) (place : ℕ) (rest : List ℕ) (left : ℕ) → length rest ≡ left →
    end_fault s place rest ≡ end_by place left (nat_lt 0 left) (is_outside s) s.root_seen
end-of s place rest left is = ap (λ n. end_by place n (nat_lt 0 n) (is_outside s) s.root_seen) is

pub end-left : (s : State) (place : ℕ) (rest : List ℕ) (left : ℕ) → length rest ≡ left → 0 < left →
    end_fault s place rest ≡ Some (fault_at Truncated (place + left))
end-left s place rest left is some =
    let test : nat_lt 0 left ≡ true = grind (arith, nat_tests) in
    end-of s place rest left is ∙ ap (λ t. end_by place left t (is_outside s) s.root_seen) test

end-none : (s : State) (place : ℕ) (rest : List ℕ) (left : ℕ) → length rest ≡ left → left ≤ 0 →
    end_fault s place rest ≡ end_by place left false (is_outside s) s.root_seen
end-none s place rest left is none =
    let test : nat_lt 0 left ≡ false = grind (arith, nat_tests) in
    end-of s place rest left is ∙ ap (λ t. end_by place left t (is_outside s) s.root_seen) test

pub end-inside : (s : State) (place : ℕ) (rest : List ℕ) (left : ℕ) → length rest ≡ left → left ≤ 0 → is_outside s ≡ false →
    end_fault s place rest ≡ Some (fault_at Truncated place)
end-inside s place rest left is none inside = end-none s place rest left is none ∙ ap (λ t. end_by place left false t s.root_seen) inside

pub end-unseen : (s : State) (place : ℕ) (rest : List ℕ) (left : ℕ) → length rest ≡ left → left ≤ 0 → is_outside s ≡ true → s.root_seen ≡ false
    → end_fault s place rest ≡ Some (fault_at NoRoot place)
end-unseen s place rest left is none outside unseen =
    end-none s place rest left is none ∙ ap (λ t. end_by place left false t s.root_seen) outside ∙ ap (end_by place left false true) unseen

pub end-whole : (s : State) (place : ℕ) (rest : List ℕ) (left : ℕ) → length rest ≡ left → left ≤ 0 → is_outside s ≡ true → s.root_seen ≡ true →
    end_fault s place rest ≡ None
end-whole s place rest left is none outside seen =
    end-none s place rest left is none ∙ ap (λ t. end_by place left false t s.root_seen) outside ∙ ap (end_by place left false true) seen
