-- Rows of behaviour, by computation: the texts and answers come from outside. Many more were tried; base_tests has them for the code.
use Rattle.std.proofs.Common.{◌≡◌, [], ◌∷◌, true, false, refl, Some}
use Rattle.std.specs.Prelude.{codes}
use Rattle.inv_base.specs.Characters.{is_char}
use Rattle.xsd_pattern.specs.declared.fault.PatternFault.TheVariants as f
use Rattle.xsd_pattern.specs.Matching.{matches, fault_of}

row_1 : matches (codes "DE123") (codes "^[A-Z]{2}[0-9]+$") ≡ true
unfolding is_char
row_1 = refl

row_2 : matches (codes "xDE1") (codes "^DE") ≡ false
unfolding is_char
row_2 = refl

row_3 : matches ([]) (codes "^$") ≡ true
unfolding is_char
row_3 = refl

row_4 : matches (codes "abc") (codes "x|b") ≡ true
unfolding is_char
row_4 = refl

row_5 : fault_of (codes "[") ≡ Some f.Bad
unfolding is_char
row_5 = refl

row_6 : matches ([]) (codes "^$") ≡ true
unfolding is_char
row_6 = refl

row_7 : matches (codes "abcabc") (codes "^(abc){2}$") ≡ true
unfolding is_char
row_7 = refl

row_8 : matches (codes "abcabcabc") (codes "^(abc){2}$") ≡ false
unfolding is_char
row_8 = refl

row_9 : matches (codes "aaa") (codes "^a{2,3}$") ≡ true
unfolding is_char
row_9 = refl

row_10 : matches (codes "aaaa") (codes "^a{2,3}$") ≡ false
unfolding is_char
row_10 = refl

row_11 : matches (codes "b") (codes "^a?b$") ≡ true
unfolding is_char
row_11 = refl

row_12 : matches (codes "aab") (codes "^a?b$") ≡ false
unfolding is_char
row_12 = refl

row_13 : matches ([]) (codes "^a+$") ≡ false
unfolding is_char
row_13 = refl

row_14 : matches (codes "aaa") (codes "^a+$") ≡ true
unfolding is_char
row_14 = refl

row_15 : matches ((128512 ∷ [])) (codes "^..$") ≡ false
unfolding is_char
row_15 = refl

row_16 : matches (codes "a.c") (codes "^a\\.c$") ≡ true
unfolding is_char
row_16 = refl

row_17 : matches (codes "abc") (codes "^a\\.c$") ≡ false
unfolding is_char
row_17 = refl

row_18 : matches (codes "12") (codes "^\\d+$") ≡ true
unfolding is_char
row_18 = refl

row_19 : matches (codes "1a") (codes "^\\d+$") ≡ false
unfolding is_char
row_19 = refl

row_20 : matches (codes "a b") (codes "^\\S\\s\\S$") ≡ true
unfolding is_char
row_20 = refl

row_21 : matches (codes "d") (codes "^[^a-c]$") ≡ true
unfolding is_char
row_21 = refl

row_22 : matches (codes "a") (codes "^[^a-c]$") ≡ false
unfolding is_char
row_22 = refl

row_23 : matches (codes "-") (codes "^[a\\-z]$") ≡ true
unfolding is_char
row_23 = refl

row_24 : matches (codes "^") (codes "^[\\^]$") ≡ true
unfolding is_char
row_24 = refl

row_25 : matches (codes "*") (codes "^[*+?(){}|]$") ≡ true
unfolding is_char
row_25 = refl

row_26 : matches (codes "ab") (codes "^a(X|Y|)b$") ≡ true
unfolding is_char
row_26 = refl

row_27 : matches (codes "aaab") (codes "^(a*)*$") ≡ false
unfolding is_char
row_27 = refl

row_28 : matches (codes "x") (codes "^|a") ≡ true
unfolding is_char
row_28 = refl

row_29 : matches (codes "x") (codes "^$|a") ≡ false
unfolding is_char
row_29 = refl

row_30 : matches (codes "a") (codes "^$|^a$") ≡ true
unfolding is_char
row_30 = refl

row_31 : fault_of (codes "(") ≡ Some f.Bad
unfolding is_char
row_31 = refl

row_32 : fault_of (codes ")") ≡ Some f.Bad
unfolding is_char
row_32 = refl

row_33 : fault_of (codes "*") ≡ Some f.Bad
unfolding is_char
row_33 = refl

row_34 : fault_of (codes "a**") ≡ Some f.Bad
unfolding is_char
row_34 = refl

row_35 : fault_of (codes "a{1}{2}") ≡ Some f.Bad
unfolding is_char
row_35 = refl

row_36 : fault_of (codes "a{}") ≡ Some f.Bad
unfolding is_char
row_36 = refl

row_37 : fault_of (codes "a{2,1}") ≡ Some f.Bad
unfolding is_char
row_37 = refl

row_38 : fault_of (codes "a{0,1001}") ≡ Some f.Bad
unfolding is_char
row_38 = refl

row_39 : matches (codes "a") (codes "a{0001}") ≡ true
unfolding is_char
row_39 = refl

row_40 : fault_of (codes "^*") ≡ Some f.Bad
unfolding is_char
row_40 = refl

row_41 : fault_of (codes "a^") ≡ Some f.Bad
unfolding is_char
row_41 = refl

row_42 : fault_of (codes "(^a)") ≡ Some f.Bad
unfolding is_char
row_42 = refl

row_43 : fault_of (codes "[]") ≡ Some f.Bad
unfolding is_char
row_43 = refl

row_44 : fault_of (codes "[a-\\d]") ≡ Some f.Bad
unfolding is_char
row_44 = refl

row_45 : fault_of (codes "[\\d-a]") ≡ Some f.Bad
unfolding is_char
row_45 = refl

row_46 : fault_of (codes "[a-z-[b]]") ≡ Some f.Bad
unfolding is_char
row_46 = refl

row_47 : fault_of (codes "(a{1000}){3}") ≡ Some f.TooLarge
unfolding is_char
row_47 = refl

row_48 : fault_of (codes "(a{1000}){3}[") ≡ Some f.Bad
unfolding is_char
row_48 = refl

row_49 : fault_of (codes "(ab){1000,}") ≡ Some f.TooLarge
unfolding is_char
row_49 = refl

row_50 : matches (codes "a") (codes "^(((((()*){1000}){1000}){1000}){1000}){1000}b$") ≡ false
unfolding is_char
row_50 = refl

row_51 : matches ((97 ∷ 10 ∷ 98 ∷ [])) (codes "a.b") ≡ false
unfolding is_char
row_51 = refl
