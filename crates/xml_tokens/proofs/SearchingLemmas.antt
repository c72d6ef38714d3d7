-- What was searched of an unfinished token.
use Rattle.std.proofs.Common.{◌≡◌, ◌≢◌, ℕ, ◌<◌, ◌≤◌, ◌==◌, Bool, true, false, ◌&&◌, ◌||◌, List, [], ◌∷◌, ◌++◌, length, take, get_or, refl, sym, ap, ◌∙◌, arith}
use Rattle.std.specs.Prelude.{codes}
use Rattle.std.proofs.lemmas.Bool.Decides.{nat_tests}
use Rattle.std.proofs.lemmas.List.{take-append-le, length-append}
use Rattle.xml_tokens.specs.Beginnings.{beginning}
use Rattle.xml_tokens.specs.declared.beginning.Position.TheVariants.{Farther}
use Rattle.xml_tokens.specs.declared.beginning.Beginning.{Beginning}
use Rattle.xml_tokens.specs.declared.beginning.Beginning.TheVariants.{Good, Bad, Later}
use Rattle.xml_tokens.specs.Searches.{ends_inside}
use Rattle.xml_tokens.specs.Searching.{Searched, fresh, Fits, IsSearched, Keeps, open_quote}
use Rattle.xml_tokens.specs.Told.{ends_inside_any}

-- Nothing was searched of any bytes.
pub fresh-fits : (bytes : List ℕ) → Fits fresh bytes
unfolding beginning
fresh-fits bytes = record { within = omega arith; in_vain = refl; quote = refl }

-- What was searched of bytes was searched where they go on.
pub fits-goes-on : (s : Searched) (a b : List ℕ) → Fits s a → Fits s (a ++ b)
fits-goes-on s a b fits =
    let same : take s.searched (a ++ b) ≡ take s.searched a = take-append-le s.searched a b fits.within in
    record {
      within = omega (arith, fits.within, length-append a b);
      in_vain = ap (beginning Farther false) same ∙ fits.in_vain;
      quote = fits.quote ∙ sym (ap open_quote same);
    }

-- What has few bytes may not have been searched.
pub few-searched : (s : Searched) (bytes : List ℕ) → Fits s bytes → length bytes ≤ 8 → IsSearched s bytes
few-searched s bytes fits few = record { fits = fits; all = λ _. omega arith }

pub text-kept : (found : Beginning) (s : Searched) (bytes : List ℕ) → Fits s bytes → 0 < length bytes → get_or bytes 0 0 ≢ 0x3C → Keeps found s bytes
text-kept (Good token n) s bytes fits some other = tt
text-kept (Bad kind n) s bytes fits some other = tt
text-kept Later s [] fits some other = absurd (omega arith)
text-kept Later s (b ∷ bytes) fits some other = record { fits = fits; all = λ same. absurd (other (grind (arith, nat_tests))) }

-- Bytes that end inside a string are shorter.
inside-short : (string bytes : List ℕ) → ends_inside string bytes ≡ true → length bytes < length string
inside-short [] bytes is = cc
inside-short (c ∷ string) [] is = omega arith
inside-short (c ∷ string) (b ∷ bytes) is = by (λ e. inside-short string bytes e) (b == c) (ends_inside string bytes) refl is
  where
    by : (ends_inside string bytes ≡ true → length bytes < length string) → (t u : Bool) → ends_inside string bytes ≡ u → (t && u) ≡ true →
        length (b ∷ bytes) < length (c ∷ string)
    by shorter true true e is = omega (arith, shorter e)
    by shorter true false e is = cc
    by shorter false u e is = cc

pub any-inside-short : (bytes : List ℕ) → ends_inside_any bytes ≡ true → length bytes ≤ 6
any-inside-short bytes is = by (ends_inside (codes "--") bytes) (ends_inside (codes "[CDATA[") bytes) (ends_inside (codes "DOCTYPE") bytes) refl refl refl is
  where
    by : (t u v : Bool) → ends_inside (codes "--") bytes ≡ t → ends_inside (codes "[CDATA[") bytes ≡ u → ends_inside (codes "DOCTYPE") bytes ≡ v →
        (t || (u || v)) ≡ true → length bytes ≤ 6
    by true u v e f g is = let short : length bytes < 2 = inside-short (codes "--") bytes e in omega arith
    by false true v e f g is = let short : length bytes < 7 = inside-short (codes "[CDATA[") bytes f in omega arith
    by false false true e f g is = let short : length bytes < 7 = inside-short (codes "DOCTYPE") bytes g in omega arith
    by false false false e f g is = cc
