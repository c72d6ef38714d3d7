-- The written forms of a day are ASCII.
use Rattle.std.proofs.Common.{◌≡◌, ℕ, ◌<◌, List, ◌++◌, length, take, drop, get_or, Bool, true, false, cond, refl, sym, ap, ◌∙◌, inl, inr, arith, Option, Some}
use Rattle.std.proofs.Common.{None}
use Rattle.std.specs.List.{list_all}
use Rattle.std.specs.Char.{is_ascii_digit}
use Rattle.std.specs.Str.{IsUtf8, IsAscii, chars}
use Rattle.std.specs.Str.Parse.{digits_value}
use Rattle.std.proofs.lemmas.Str.{IsAscii-append}
use Rattle.std.proofs.lemmas.Str.Ascii.{IsAscii-cons}
use Rattle.std.proofs.lemmas.List.{take-append-drop, drop_more, drop-drop}
use Rattle.std.proofs.lemmas.Bool.{cases_eq}
use Rattle.inv_decimal.specs.CivilDay.{CivilDay, day_of}
use Rattle.inv_decimal.specs.WrittenDay.{day_from, read_plain_day, read_dashed_day}
use Rattle.inv_decimal.proofs.Ascii.{IsAscii-at, IsAscii-digits, all_of-append}
use Rattle.inv_decimal.proofs.Characters.{read-chars}
use Rattle.inv_decimal.proofs.ReadDay.{plain_is, plain_none, dashed_is, dashed_none}

digits_at : (b : Bool) (o : Option CivilDay) (v : CivilDay) → cond b o None ≡ Some v → b ≡ true
digits_at true o v e = refl
digits_at false o v e = cc

-- the parts of a day that was read are digits
digits_of_day : (y m d : List ℕ) (v : CivilDay) → day_from y m d ≡ Some v → IsAscii y × IsAscii m × IsAscii d
unfolding day_from
digits_of_day y m d v e =
    let all = digits_at (list_all is_ascii_digit (y ++ (m ++ d))) (day_of (digits_value 10 y) (digits_value 10 m) (digits_value 10 d)) v e in
    let first = all_of-append y (m ++ d) all in
    let second = all_of-append m d first.1 in
    (IsAscii-digits y first.0, IsAscii-digits m second.0, IsAscii-digits d second.1)

pub IsAscii-plain : (cs : List ℕ) (v : CivilDay) → read_plain_day cs ≡ Some v → IsAscii cs
IsAscii-plain cs v e =
    elim (cases_eq (length cs) 8) as (λ _. IsAscii cs) [
      | inl len ↦ (let parts = digits_of_day (take 4 cs) (take 2 (drop 4 cs)) (drop 6 cs) v (plain_is cs len ∙ e) in
          let behind : take 2 (drop 4 cs) ++ drop 6 cs ≡ drop 4 cs = ap (λ x. take 2 (drop 4 cs) ++ x) (sym (drop-drop 2 4 cs)) ∙
          take-append-drop 2 (drop 4 cs) in
          let rest : IsAscii (drop 4 cs) = IsAscii-at _ (drop 4 cs) behind (IsAscii-append (take 2 (drop 4 cs)) (drop 6 cs) parts.1 parts.2) in
          IsAscii-at _ cs (take-append-drop 4 cs) (IsAscii-append (take 4 cs) (drop 4 cs) parts.0 rest))
      | inr other ↦ (let none : None ≡ Some v = plain_none cs other ∙ e in cc)
    ]

dash_small : (c : ℕ) → c ≡ 45 → c < 128
dash_small c e = omega arith

pub IsAscii-dashed : (cs : List ℕ) (v : CivilDay) → read_dashed_day cs ≡ Some v → IsAscii cs
IsAscii-dashed cs v e =
    elim (cases_eq (length cs) 10) as (λ _. IsAscii cs) [
      | inr other ↦ (let none : None ≡ Some v = dashed_none cs (inl other) ∙ e in cc)
      | inl len ↦ elim (cases_eq (get_or cs 4 0) 45) as (λ _. IsAscii cs) [
        | inr other ↦ (let none : None ≡ Some v = dashed_none cs (inr (inl other)) ∙ e in cc)
        | inl first ↦ elim (cases_eq (get_or cs 7 0) 45) as (λ _. IsAscii cs) [
          | inr other ↦ (let none : None ≡ Some v = dashed_none cs (inr (inr other)) ∙ e in cc)
          | inl second ↦ (let parts = digits_of_day (take 4 cs) (take 2 (drop 5 cs)) (drop 8 cs) v (dashed_is cs len first second ∙ e) in
              let day : IsAscii (drop 7 cs) = IsAscii-at _ (drop 7 cs) (sym (drop_more cs 7 0 (omega arith)))
              (IsAscii-cons (get_or cs 7 0) (drop 8 cs) (dash_small _ second) parts.2) in
              let behind : take 2 (drop 5 cs) ++ drop 7 cs ≡ drop 5 cs = ap (λ x. take 2 (drop 5 cs) ++ x) (sym (drop-drop 2 5 cs)) ∙
              take-append-drop 2 (drop 5 cs) in
              let month : IsAscii (drop 5 cs) = IsAscii-at _ (drop 5 cs) behind (IsAscii-append (take 2 (drop 5 cs)) (drop 7 cs) parts.1 day) in
              let dash : IsAscii (drop 4 cs) = IsAscii-at _ (drop 4 cs) (sym (drop_more cs 4 0 (omega arith)))
              (IsAscii-cons (get_or cs 4 0) (drop 5 cs) (dash_small _ first) month) in
              IsAscii-at _ cs (take-append-drop 4 cs) (IsAscii-append (take 4 cs) (drop 4 cs) parts.0 dash))
        ]
      ]
    ]

pub read_plain_day-chars : (bs : List ℕ) → IsUtf8 bs → read_plain_day (chars bs) ≡ read_plain_day bs
read_plain_day-chars bs utf8 = read-chars read_plain_day IsAscii-plain bs utf8

pub read_dashed_day-chars : (bs : List ℕ) → IsUtf8 bs → read_dashed_day (chars bs) ≡ read_dashed_day bs
read_dashed_day-chars bs utf8 = read-chars read_dashed_day IsAscii-dashed bs utf8
