-- Worked rows, by computing: what a validation tells, and its text.
use Rattle.std.specs.Prelude.{◌≡◌, ℕ, List, [], ◌∷◌, ◌++◌, codes, Option, Some, None, refl}
use Rattle.std.specs.Fmt.{digits}
use Rattle.schematron_findings.specs.declared.level.Level.TheVariants as levels
use Rattle.schematron_findings.specs.declared.finding.FindingKind.{FindingKind}
use Rattle.schematron_findings.specs.declared.finding.FindingKind.TheVariants as outcomes
use Rattle.validation_report.specs.Validating.{Placed, Contents}
use Rattle.json_text.specs.Layout.{short_escape, character_text, document}
use Rattle.validation_json.specs.ValidationJson.{validation_json}

abbrev placed : FindingKind → List ℕ → Option (List ℕ) → List ℕ → Placed
placed outcome test id message = record {
  finding = record {
    outcome = outcome;
    test = test;
    location = codes "/r";
    message = message;
    id = id;
    flag = None;
    role = None;
    level = levels.Fatal;
  };
  place = record { line = 8; column = 3 };
}

abbrev nothing_told : Contents
nothing_told = record {
  faults = [];
  passed = [];
  unread = [];
  misplaced = [];
  findings = [];
  counts = record { faults = 0; passed = 0; unread = 0; misplaced = 0; tally = record { failed = 0; reported = 0; errors = 0; minor = 0 } };
}

-- a fault with its term, and one that names nothing; an element that was passed over; an unread node; a finding with its id
abbrev told : Contents
told = record {
  faults = placed outcomes.Failed (codes "Missing") (Some (codes "BT-153")) (codes "Item name") ∷ placed outcomes.Failed (codes "Disagree") None [] ∷ [];
  passed = record { location = codes "/p"; place = record { line = 13; column = 5 } } ∷ [];
  unread = record { element = record { location = codes "/u"; place = record { line = 14; column = 1 } }; value = codes "\"b\"" } ∷ [];
  misplaced = [];
  findings = placed outcomes.Failed [] (Some (codes "BR-01")) (codes "m") ∷ [];
  counts = record { faults = 2; passed = 1; unread = 1; misplaced = 0; tally = record { failed = 1; reported = 0; errors = 0; minor = 4 } };
}

-- a line and its end
abbrev line : List ℕ → List ℕ → List ℕ
line text more = text ++ 0xA ∷ more

none : document (validation_json (codes "f") nothing_told)
    ≡ line (codes "{")
    (line (codes "  \"file\": \"f\",")
    (line (codes "  \"faults\": [],")
    (line (codes "  \"passed_over\": [],")
    (line (codes "  \"unread\": [],")
    (line (codes "  \"misplaced\": [],")
    (line (codes "  \"findings\": [],")
    (line (codes "  \"counts\": {")
    (line (codes "    \"faults\": 0,")
    (line (codes "    \"passed_over\": 0,")
    (line (codes "    \"unread\": 0,")
    (line (codes "    \"misplaced\": 0,")
    (line (codes "    \"failed\": 0,")
    (line (codes "    \"reported\": 0,")
    (line (codes "    \"errors\": 0,")
    (line (codes "    \"minor\": 0")
    (line (codes "  }")
    (line (codes "}") [])))))))))))))))))
unfolding digits short_escape character_text validation_json
none = refl

some : document (validation_json (codes "f") told)
    ≡ line (codes "{")
    (line (codes "  \"file\": \"f\",")
    (line (codes "  \"faults\": [")
    (line (codes "    {")
    (line (codes "      \"kind\": \"Missing\",")
    (line (codes "      \"term\": \"BT-153\",")
    (line (codes "      \"name\": \"Item name\",")
    (line (codes "      \"location\": \"/r\",")
    (line (codes "      \"line\": 8,")
    (line (codes "      \"column\": 3")
    (line (codes "    },")
    (line (codes "    {")
    (line (codes "      \"kind\": \"Disagree\",")
    (line (codes "      \"location\": \"/r\",")
    (line (codes "      \"line\": 8,")
    (line (codes "      \"column\": 3")
    (line (codes "    }")
    (line (codes "  ],")
    (line (codes "  \"passed_over\": [")
    (line (codes "    {")
    (line (codes "      \"location\": \"/p\",")
    (line (codes "      \"line\": 13,")
    (line (codes "      \"column\": 5")
    (line (codes "    }")
    (line (codes "  ],")
    (line (codes "  \"unread\": [")
    (line (codes "    {")
    (line (codes "      \"location\": \"/u\",")
    (line (codes "      \"line\": 14,")
    (line (codes "      \"column\": 1,")
    (line (codes "      \"value\": \"\\\"b\\\"\"")
    (line (codes "    }")
    (line (codes "  ],")
    (line (codes "  \"misplaced\": [],")
    (line (codes "  \"findings\": [")
    (line (codes "    {")
    (line (codes "      \"kind\": \"failed\",")
    (line (codes "      \"id\": \"BR-01\",")
    (line (codes "      \"location\": \"/r\",")
    (line (codes "      \"line\": 8,")
    (line (codes "      \"column\": 3,")
    (line (codes "      \"message\": \"m\"")
    (line (codes "    }")
    (line (codes "  ],")
    (line (codes "  \"counts\": {")
    (line (codes "    \"faults\": 2,")
    (line (codes "    \"passed_over\": 1,")
    (line (codes "    \"unread\": 1,")
    (line (codes "    \"misplaced\": 0,")
    (line (codes "    \"failed\": 1,")
    (line (codes "    \"reported\": 0,")
    (line (codes "    \"errors\": 0,")
    (line (codes "    \"minor\": 4")
    (line (codes "  }")
    (line (codes "}") []))))))))))))))))))))))))))))))))))))))))))))))))))))))
unfolding digits short_escape character_text validation_json
some = refl
