-- Worked rows, by computing: differences, and their text.
use Rattle.std.specs.Prelude.{◌≡◌, ℕ, ◌*◌, ◌^◌, ℤ, pos, List, [], ◌∷◌, ◌++◌, codes, Option, Some, None, Ok, Err, refl}
use Rattle.std.specs.Fmt.{digits}
use Rattle.inv_decimal.specs.Digits.{last_digits, without_trailing_zeros}
use Rattle.inv_decimal.specs.WrittenNumber.{decimal_text, scaled_text}
use Rattle.term_table.specs.declared.groups.Group.TheVariants as groups
use Rattle.term_table.specs.declared.contexts.Context.{Context}
use Rattle.term_table.specs.Contexts.{root_context}
use Rattle.inv_totals.specs.declared.found.Difference.{Difference}
use Rattle.inv_totals.specs.Numbers.{Number}
use Rattle.inv_totals.specs.Totals.{term, breakdown}
use Rattle.json_text.specs.Layout.{short_escape, character_text, document}
use Rattle.totals_json.specs.TotalsJson.{totals_json}

abbrev hundredths : ℕ → ℤ
hundredths n = pos (n * 10 ^ 16)

abbrev found : Context → ℕ → Option ℕ → Number → Difference
found context number None computed = record { context = context; term = term number; stated = None; computed = computed }
found context number (Some n) computed = record {
  context = context;
  term = term number;
  stated = Some (record { value = hundredths n; digits = 2 });
  computed = computed;
}

-- a line and its end
abbrev line : List ℕ → List ℕ → List ℕ
line text more = text ++ 0xA ∷ more

none : document (totals_json (codes "f") [])
    ≡ line (codes "{")
    (line (codes "  \"file\": \"f\",")
    (line (codes "  \"differences\": [],")
    (line (codes "  \"counts\": {")
    (line (codes "    \"differ\": 0")
    (line (codes "  }")
    (line (codes "}") []))))))
unfolding digits short_escape character_text totals_json
none = refl

-- nothing stated; in a VAT breakdown; out of range
some : document (totals_json (codes "f")
    (found root_context 110 None (Ok (hundredths 77700)) ∷ found (breakdown 1) 117 (Some 77700) (Ok (hundredths 1)) ∷
    found root_context 112 (Some 1200) (Err (record {})) ∷ []))
    ≡ line (codes "{")
    (line (codes "  \"file\": \"f\",")
    (line (codes "  \"differences\": [")
    (line (codes "    {")
    (line (codes "      \"term\": \"BT-110\",")
    (line (codes "      \"computed\": \"777\"")
    (line (codes "    },")
    (line (codes "    {")
    (line (codes "      \"context\": \"BG-23[1]\",")
    (line (codes "      \"term\": \"BT-117\",")
    (line (codes "      \"stated\": \"777.00\",")
    (line (codes "      \"computed\": \"0.01\"")
    (line (codes "    },")
    (line (codes "    {")
    (line (codes "      \"term\": \"BT-112\",")
    (line (codes "      \"stated\": \"12.00\"")
    (line (codes "    }")
    (line (codes "  ],")
    (line (codes "  \"counts\": {")
    (line (codes "    \"differ\": 3")
    (line (codes "  }")
    (line (codes "}") [])))))))))))))))))))))
unfolding digits short_escape character_text last_digits without_trailing_zeros decimal_text scaled_text totals_json
some = refl
