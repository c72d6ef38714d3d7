-- What comes of bytes from a state on, to the end of the text.
use Rattle.std.proofs.Common.{◌≡◌, ℕ, ◌+◌, true, false, ◌==◌, ◌||◌, List, [], ◌∷◌, ◌++◌, length, Option, None, Result, Ok, inl, inr}
use Rattle.std.proofs.Common.{refl, ap, sym, ◌∙◌, subst, arith, length-append}
use Rattle.std.proofs.lemmas.Bool.{and_parts, or_cases, eqb-true}
use Rattle.json_reading.specs.declared.fault.JsonFault.{JsonFault}
use Rattle.json_reading.specs.declared.item.Item.{Item}
use Rattle.json_reading.specs.declared.item.Span.{Span}
use Rattle.json_reading.specs.declared.mode.Form.TheVariants as form
use Rattle.json_reading.specs.declared.mode.Mode.{Mode}
use Rattle.json_reading.specs.declared.mode.Mode.TheVariants as mode
use Rattle.json_reading.specs.declared.reader.Open.{Open}
use Rattle.json_reading.specs.Bytes.{is_space}
use Rattle.json_reading.specs.Numbers.{form_behind}
use Rattle.json_reading.specs.Turns.{at_value, at_start, at_first_item, at_first_member, at_name, at_colon, at_behind, turn}
use Rattle.json_reading.specs.Reading.{State, number_ended, act, step, run, ended_behind}
use Rattle.json_grammar.specs.Grammar.{are_spaces}
use Rattle.read_back_laws.proofs.States.{state, one}
use Rattle.read_back_laws.proofs.Values.{Ready, ready_value, ready_start}

abbrev pub outcome : ℕ → ℕ → List ℕ → State → Result (List Item) JsonFault
outcome deepest at more s = ended_behind (at + length more) (run deepest at more s)

-- bytes in front lead to another state
pub leads_on : (deepest at : ℕ) (bytes more : List ℕ) (s next : State) → run deepest at (bytes ++ more) s ≡ run deepest (at + length bytes) more next
    → outcome deepest at (bytes ++ more) s ≡ outcome deepest (at + length bytes) more next
leads_on deepest at bytes more s next h =
    let counted : at + length (bytes ++ more) ≡ (at + length bytes) + length more = omega (arith, length-append bytes more) in
    ap (λ n. ended_behind n (run deepest at (bytes ++ more) s)) counted ∙ ap (ended_behind ((at + length bytes) + length more)) h

pub by_one : (deepest at b : ℕ) (more : List ℕ) (s next : State) → step deepest at b s ≡ Ok next
    → outcome deepest at (b ∷ more) s ≡ outcome deepest (at + 1) more next
by_one deepest at b more s next h = leads_on deepest at (b ∷ []) more s next (one deepest at b more s next h)

pub placed : (deepest at place : ℕ) (more : List ℕ) (s : State) → at ≡ place → outcome deepest at more s ≡ outcome deepest place more s
placed deepest at place more s e = ap (λ n. outcome deepest n more s) e

-- ---- white space

-- white space leaves the state as it is
abbrev pub Idles : ℕ → State → Type 0
Idles deepest s = (at b : ℕ) → is_space b ≡ true → step deepest at b s ≡ Ok s

pub spaces_read : (deepest : ℕ) (s : State) → Idles deepest s → (space : List ℕ) (at : ℕ) (more : List ℕ) → are_spaces space ≡ true
    → outcome deepest at (space ++ more) s ≡ outcome deepest (at + length space) more s
spaces_read deepest s idles [] at more h = placed deepest at (at + 0) more s (omega arith)
spaces_read deepest s idles (b ∷ space) at more h =
    let parts = and_parts (is_space b) (are_spaces space) h in
    by_one deepest at b (space ++ more) s s (idles at b parts.0)
    ∙ (spaces_read deepest s idles space (at + 1) more parts.1 ∙ placed deepest (at + 1 + length space) _ more s (omega arith))

module _ (deepest : ℕ) (name : Option Span) (around : List Open) (items : List Item) where
  pub idle_value : Idles deepest (state mode.Value name around items)
  unfolding step number_ended turn at_value act
  idle_value at b h = rw h refl

  pub idle_first_item : Idles deepest (state mode.FirstItem name around items)
  unfolding step number_ended turn at_first_item act
  idle_first_item at b h = rw h refl

  pub idle_first_member : Idles deepest (state mode.FirstMember name around items)
  unfolding step number_ended turn at_first_member act
  idle_first_member at b h = rw h refl

  pub idle_name : Idles deepest (state mode.Name name around items)
  unfolding step number_ended turn at_name act
  idle_name at b h = rw h refl

  pub idle_colon : Idles deepest (state mode.Colon name around items)
  unfolding step number_ended turn at_colon act
  idle_colon at b h = rw h refl

  pub idle_behind : Idles deepest (state mode.Behind name around items)
  unfolding step number_ended turn at_behind act
  idle_behind at b h = rw h refl

  no_mark : (b : ℕ) → is_space b ≡ true → (b == 0xEF) ≡ false
  no_mark b h = elim (or_cases (b == 0x20) (b == 0x9 || (b == 0xA || b == 0xD)) h) [
    | inl e ↦ ap (λ n. n == 0xEF) (eqb-true b 0x20 e)
    | inr others ↦ elim (or_cases (b == 0x9) (b == 0xA || b == 0xD) others) [
      | inl e ↦ ap (λ n. n == 0xEF) (eqb-true b 0x9 e)
      | inr more ↦ elim (or_cases (b == 0xA) (b == 0xD) more) [
        | inl e ↦ ap (λ n. n == 0xEF) (eqb-true b 0xA e)
        | inr e ↦ ap (λ n. n == 0xEF) (eqb-true b 0xD e)
      ]
    ]
  ]

  start_step : (at b : ℕ) → is_space b ≡ true → step deepest at b (state mode.Start name around items) ≡ Ok (state mode.Value name around items)
  unfolding step number_ended turn at_start at_value act
  start_step at b h = let mark : (b == 0xEF) ≡ false = no_mark b h in rw (mark, h) refl

  -- white space at the start leads to where a value may begin
  pub start_read : (space : List ℕ) (at : ℕ) (more : List ℕ) → are_spaces space ≡ true
      → (m : Mode) × Ready deepest m × (outcome deepest at (space ++ more) (state mode.Start name around items)
      ≡ outcome deepest (at + length space) more (state m name around items))
  start_read [] at more h = (mode.Start, ready_start deepest, placed deepest at (at + 0) more _ (omega arith))
  start_read (b ∷ space) at more h =
      let parts = and_parts (is_space b) (are_spaces space) h in (
        mode.Value,
        ready_value deepest,
        by_one deepest at b (space ++ more) _ (state mode.Value name around items) (start_step at b parts.0)
            ∙ (spaces_read deepest (state mode.Value name around items) idle_value space (at + 1) more parts.1
            ∙ placed deepest (at + 1 + length space) _ more _ (omega arith)),
      )

-- ---- what may follow a value

-- no number goes on with the byte
pub record AtEnd (b : ℕ) : Type 0 where
  pub zero : form_behind form.Zero b ≡ None
  pub integer : form_behind form.Integer b ≡ None
  pub fraction : form_behind form.Fraction b ≡ None
  pub power : form_behind form.Power b ≡ None

-- so it is at the end of the text, and where the next byte belongs to no number
abbrev pub Follows : List ℕ → Type 0
Follows [] = Unit {0}
Follows (b ∷ more) = AtEnd b

pub comma_ends : AtEnd 0x2C
unfolding form_behind
comma_ends = record { zero = refl; integer = refl; fraction = refl; power = refl }

pub bracket_ends : AtEnd 0x5D
unfolding form_behind
bracket_ends = record { zero = refl; integer = refl; fraction = refl; power = refl }

pub brace_ends : AtEnd 0x7D
unfolding form_behind
brace_ends = record { zero = refl; integer = refl; fraction = refl; power = refl }

literal_ends : (AtEnd 0x20) × ((AtEnd 0x9) × ((AtEnd 0xA) × (AtEnd 0xD)))
unfolding form_behind
literal_ends = (
  record { zero = refl; integer = refl; fraction = refl; power = refl },
  (
    record { zero = refl; integer = refl; fraction = refl; power = refl },
    (
      record { zero = refl; integer = refl; fraction = refl; power = refl },
      record { zero = refl; integer = refl; fraction = refl; power = refl },
    ),
  ),
)

space_ends : (b : ℕ) → is_space b ≡ true → AtEnd b
space_ends b h = elim (or_cases (b == 0x20) (b == 0x9 || (b == 0xA || b == 0xD)) h) [
  | inl e ↦ subst AtEnd (sym (eqb-true b 0x20 e)) literal_ends.0
  | inr others ↦ elim (or_cases (b == 0x9) (b == 0xA || b == 0xD) others) [
    | inl e ↦ subst AtEnd (sym (eqb-true b 0x9 e)) literal_ends.1.0
    | inr more ↦ elim (or_cases (b == 0xA) (b == 0xD) more) [
      | inl e ↦ subst AtEnd (sym (eqb-true b 0xA e)) literal_ends.1.1.0
      | inr e ↦ subst AtEnd (sym (eqb-true b 0xD e)) literal_ends.1.1.1
    ]
  ]
]

-- white space, and then what follows
pub spaces_follow : (space more : List ℕ) → are_spaces space ≡ true → Follows more → Follows (space ++ more)
spaces_follow [] more h follows = follows
spaces_follow (b ∷ space) more h follows = space_ends b (and_parts (is_space b) (are_spaces space) h).0
